-- What the tasks above two thresholds ask of their machine: the least of their heads, the sum of their times and the
-- least of their tails.
use Rattle.std.proofs.Common.{◌≡◌, ℕ, zero, suc, ◌+◌, ◌<◌, ◌≤◌, inl, inr, List, [], ◌∷◌, refl, sym, ap, ◌∙◌, subst}
use Rattle.std.proofs.Common.{length, get_or, arith}
use Rattle.std.specs.Prelude.{nat_le, if◌then◌else◌, Contains}
use Rattle.std.proofs.lemmas.Bool.{cases_lt, cond-true, cond-false, le-leb, lt-leb}
use Rattle.bb_problem.specs.Tree.{total}
use Rattle.bb_shop.specs.Bounds.{Load, Idle, Busy, joined, machine_bound}
use Rattle.bb_onemach.specs.declared.task.Task.{Task}
use Rattle.bb_onemach.specs.Thresholds.{asked, load_above, threshold_bound}

-- a task asks all of itself, or nothing
pub asked-in : (h t : ℕ) (x : Task) → h ≤ x.head → t ≤ x.tail → asked h t x ≡ Busy x.head x.time x.tail
asked-in h t x head tail =
    cond-true (nat_le h x.head) (if nat_le t x.tail then Busy x.head x.time x.tail else Idle) Idle
    (le-leb h x.head head)
    ∙ cond-true (nat_le t x.tail) (Busy x.head x.time x.tail) Idle (le-leb t x.tail tail)

pub asked-early : (h t : ℕ) (x : Task) → x.head < h → asked h t x ≡ Idle
asked-early h t x lt =
    cond-false (nat_le h x.head) (if nat_le t x.tail then Busy x.head x.time x.tail else Idle) Idle (lt-leb h x.head lt)

pub asked-short : (h t : ℕ) (x : Task) → h ≤ x.head → x.tail < t → asked h t x ≡ Idle
asked-short h t x head lt =
    cond-true (nat_le h x.head) (if nat_le t x.tail then Busy x.head x.time x.tail else Idle) Idle
    (le-leb h x.head head)
    ∙ cond-false (nat_le t x.tail) (Busy x.head x.time x.tail) Idle (lt-leb t x.tail lt)

-- the three cases
pub data Case (h t : ℕ) (x : Task) : Type 0 where
  Within : h ≤ x.head → t ≤ x.tail → Case h t x
  Early : x.head < h → Case h t x
  Short : h ≤ x.head → x.tail < t → Case h t x

pub case_of : (h t : ℕ) (x : Task) → Case h t x
case_of h t x =
    elim (cases_lt x.head h) [
      | inl lt ↦ Early lt
      | inr head ↦
          elim (cases_lt x.tail t) [
            | inl lt ↦ Short head lt
            | inr tail ↦ Within head tail
          ]
    ]

pub load_above-cons : (h t : ℕ) (x : Task) (xs : List Task)
    → load_above h t (x ∷ xs) ≡ joined (asked h t x) (load_above h t xs)
unfolding load_above
load_above-cons h t x xs = refl

pub load_above-nil : (h t : ℕ) → load_above h t [] ≡ Idle
unfolding load_above
load_above-nil h t = refl

-- the time of a load
unfoldable pub load_time : Load → ℕ
load_time Idle = 0
load_time (Busy head time tail) = time

joined-time : (a b : Load) → load_time (joined a b) ≡ load_time a + load_time b
unfolding joined load_time
joined-time Idle b = omega arith
joined-time (Busy head time tail) Idle = omega arith
joined-time (Busy head time tail) (Busy h t l) = refl

-- the sum of the times of the tasks above the thresholds
pub time_asked : ℕ → ℕ → Task → ℕ
time_asked h t x = load_time (asked h t x)

abbrev pub time_above : ℕ → ℕ → List Task → ℕ
time_above h t xs = total (time_asked h t) xs

pub time_asked-in : (h t : ℕ) (x : Task) → h ≤ x.head → t ≤ x.tail → time_asked h t x ≡ x.time
unfolding load_time time_asked
time_asked-in h t x head tail = ap load_time (asked-in h t x head tail)

pub time_asked-early : (h t : ℕ) (x : Task) → x.head < h → time_asked h t x ≡ 0
unfolding load_time time_asked
time_asked-early h t x lt = ap load_time (asked-early h t x lt)

pub time_asked-short : (h t : ℕ) (x : Task) → h ≤ x.head → x.tail < t → time_asked h t x ≡ 0
unfolding load_time time_asked
time_asked-short h t x head lt = ap load_time (asked-short h t x head lt)

pub load_time-above : (h t : ℕ) (xs : List Task) → load_time (load_above h t xs) ≡ time_above h t xs
unfolding load_time time_asked
load_time-above h t [] = ap load_time (load_above-nil h t)
load_time-above h t (x ∷ xs) =
    omega (
      arith,
      ap load_time (load_above-cons h t x xs),
      joined-time (asked h t x)
          (load_above h t xs),
      load_time-above h t xs,
    )

-- a load has no head and no tail above this task's
abbrev pub IsAtMost : Load → Task → Type 0
IsAtMost Idle x = ⊥
IsAtMost (Busy head time tail) x = (head ≤ x.head) × (tail ≤ x.tail)

joined_most-left : (a b : Load) (x : Task) → IsAtMost a x → IsAtMost (joined a b) x
unfolding joined
joined_most-left Idle b x most = absurd most
joined_most-left (Busy head time tail) Idle x most = most
joined_most-left (Busy head time tail) (Busy h t l) x most = (omega (arith, most.0), omega (arith, most.1))

joined_most-right : (a b : Load) (x : Task) → IsAtMost b x → IsAtMost (joined a b) x
unfolding joined
joined_most-right Idle b x most = most
joined_most-right (Busy head time tail) Idle x most = absurd most
joined_most-right (Busy head time tail) (Busy h t l) x most = (omega (arith, most.0), omega (arith, most.1))

-- of each task above the thresholds
least_at : (h t : ℕ) (xs : List Task) (x : Task) (i : ℕ) → i < length xs → get_or xs i x ≡ x → h ≤ x.head → t ≤ x.tail
    → IsAtMost (load_above h t xs) x
least_at h t [] x i lt is head tail = absurd (omega (arith, lt))
least_at h t (y ∷ ys) x zero lt is head tail =
    let busy : IsAtMost (asked h t y) x =
    subst (λ z. IsAtMost (asked h t z) x) (sym is) (subst (λ l. IsAtMost l x) (sym (asked-in h t x head tail))
    (omega arith, omega arith)) in
    subst (λ l. IsAtMost l x) (sym (load_above-cons h t y ys))
    (joined_most-left (asked h t y) (load_above h t ys) x busy)
least_at h t (y ∷ ys) x (suc i) lt is head tail =
    subst (λ l. IsAtMost l x) (sym (load_above-cons h t y ys))
    (joined_most-right (asked h t y) (load_above h t ys) x (least_at h t ys x i (omega (arith, lt)) is head tail))

pub least_of : (h t : ℕ) (xs : List Task) (x : Task) → Contains xs x → h ≤ x.head → t ≤ x.tail
    → IsAtMost (load_above h t xs) x
least_of h t xs x there head tail = least_at h t xs x there.0 there.1 there.2 head tail

-- a task above the thresholds has the load's head
abbrev pub HasHead : ℕ → ℕ → List Task → Load → Type 0
HasHead h t xs Idle = Unit {0}
HasHead h t xs (Busy head time tail) = (x : Task) × Contains xs x × (x.head ≡ head) × (h ≤ x.head) × (t ≤ x.tail)

pub contains_behind : {X : Type 0} (x : X) (xs : List X) (y : X) → Contains xs y → Contains (x ∷ xs) y
contains_behind x xs y there = (suc there.0, omega (arith, there.1), there.2)

head_behind : (h t : ℕ) (y : Task) (ys : List Task) (l : Load) → HasHead h t ys l → HasHead h t (y ∷ ys) l
head_behind h t y ys Idle has = tt
head_behind h t y ys (Busy head time tail) has = (has.0, contains_behind y ys has.0 has.1, has.2, has.3, has.4)

head_joined : (h t : ℕ) (xs : List Task) (a b : Load) → HasHead h t xs a → HasHead h t xs b
    → HasHead h t xs (joined a b)
unfolding joined
head_joined h t xs Idle b p q = q
head_joined h t xs (Busy head time tail) Idle p q = p
head_joined h t xs (Busy head time tail) (Busy head' time' tail') p q =
    elim (cases_lt head head') [
      | inl lt ↦ (p.0, p.1, omega (arith, p.2, lt), p.3, p.4)
      | inr le ↦ (q.0, q.1, omega (arith, q.2, le), q.3, q.4)
    ]

head_asked : (h t : ℕ) (y : Task) (ys : List Task) → HasHead h t (y ∷ ys) (asked h t y)
head_asked h t y ys =
    elim (case_of h t y) [
      | Within head tail ↦
          subst (HasHead h t (y ∷ ys)) (sym (asked-in h t y head tail)) (y, (0, omega arith, refl), refl, head, tail)
      | Early lt ↦ subst (HasHead h t (y ∷ ys)) (sym (asked-early h t y lt)) tt
      | Short head lt ↦ subst (HasHead h t (y ∷ ys)) (sym (asked-short h t y head lt)) tt
    ]

pub head_above : (h t : ℕ) (xs : List Task) → HasHead h t xs (load_above h t xs)
head_above h t [] = subst (HasHead h t []) (sym (load_above-nil h t)) tt
head_above h t (y ∷ ys) =
    subst (HasHead h t (y ∷ ys)) (sym (load_above-cons h t y ys))
    (head_joined h t (y ∷ ys) (asked h t y) (load_above h t ys) (head_asked h t y ys)
    (head_behind h t y ys (load_above h t ys) (head_above h t ys)))

-- what holds of the three parts of a load holds of the load
by_load : (h t : ℕ) (xs : List Task) (P : ℕ → Type 0) → P 0
    → ((head tail : ℕ) (x : Task) → Contains xs x → x.head ≡ head → h ≤ x.head → t ≤ x.tail
    → ((y : Task) → Contains xs y → h ≤ y.head → t ≤ y.tail → (head ≤ y.head) × (tail ≤ y.tail))
    → P (head + time_above h t xs + tail))
    → (l : Load) → load_time l ≡ time_above h t xs → HasHead h t xs l
    → ((y : Task) → Contains xs y → h ≤ y.head → t ≤ y.tail → IsAtMost l y) → P (machine_bound l)
unfolding load_time
by_load h t xs P none some Idle time has least = none
by_load h t xs P none some (Busy head took tail) time has least =
    subst (λ n. P (head + n + tail)) (sym time) (some head tail has.0 has.1 has.2 has.3 has.4 least)

pub by_parts : (h t : ℕ) (xs : List Task) (P : ℕ → Type 0) → P 0
    → ((head tail : ℕ) (x : Task) → Contains xs x → x.head ≡ head → h ≤ x.head → t ≤ x.tail
    → ((y : Task) → Contains xs y → h ≤ y.head → t ≤ y.tail → (head ≤ y.head) × (tail ≤ y.tail))
    → P (head + time_above h t xs + tail))
    → P (threshold_bound xs h t)
by_parts h t xs P none some =
    by_load h t xs P none some (load_above h t xs) (load_time-above h t xs) (head_above h t xs) (least_of h t xs)
