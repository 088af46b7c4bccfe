-- A sweep over tasks by falling tails comes to the greatest of the thresholds' bounds.
use Rattle.std.proofs.Common.{◌≡◌, ℕ, zero, suc, ◌+◌, ◌<◌, ◌≤◌, ◌⊎◌, List, [], ◌∷◌, inl, inr, refl, sym, ap, subst, length, get_or, map, arith}
use Rattle.std.specs.Prelude.{nat_le, max, All, Contains}
use Rattle.std.proofs.lemmas.Bool.{cases_lt, cond-true, cond-false, le-leb, lt-leb}
use Rattle.std.proofs.lemmas.List.Elements.{All-head, All-tail, All-contains_itself}
use Rattle.bb_shop.specs.Bounds.{Load, Idle, Busy, joined, machine_bound, greatest}
use Rattle.bb_onemach.specs.declared.task.Task.{Task}
use Rattle.bb_onemach.specs.Thresholds.{asked, load_above, threshold_bound, bound_above, one_machine_bound}
use Rattle.bb_onemach.specs.Working.{Falls, swept}
use Rattle.bb_onemach.specs.TreeLawsHold.Above.{asked-in, asked-early, asked-short, Within, Early, Short, case_of, load_above-cons, load_above-nil, load_time, load_time-above, time_above, time_asked-in, time_asked-early, time_asked-short, IsAtMost, least_of, contains_behind, by_parts}
use Rattle.bb_onemach.specs.TreeLawsHold.Packing.{pairs-first, pairs-rest}

-- one task more of a sweep
pub swept-in : (h time : ℕ) (x : Task) (xs : List Task) → h ≤ x.head → swept h time (x ∷ xs) ≡ max (h + (time + x.time) + x.tail) (swept h (time + x.time) xs)
unfolding swept
swept-in h time x xs head = cond-true (nat_le h x.head) (max (h + (time + x.time) + x.tail) (swept h (time + x.time) xs)) (swept h time xs) (le-leb h x.head head)

pub swept-out : (h time : ℕ) (x : Task) (xs : List Task) → x.head < h → swept h time (x ∷ xs) ≡ swept h time xs
unfolding swept
swept-out h time x xs early = cond-false (nat_le h x.head) (max (h + (time + x.time) + x.tail) (swept h (time + x.time) xs)) (swept h time xs) (lt-leb h x.head early)

pub swept-nil : (h time : ℕ) → swept h time [] ≡ 0
unfolding swept
swept-nil h time = refl

-- tails that fall from this one on
abbrev FallFrom : ℕ → List Task → Type 0
FallFrom last [] = Unit {0}
FallFrom last (x ∷ xs) = (x.tail ≤ last) × FallFrom x.tail xs

abbrev TailLe : Task → Task → Type 0
TailLe x y = y.tail ≤ x.tail

fall_from : (last : ℕ) (xs : List Task) → All (λ (y : Task). y.tail ≤ last) xs → Falls xs → FallFrom last xs
fall_from last [] all falls = tt
fall_from last (x ∷ xs) all falls =
    (All-head (λ (y : Task). y.tail ≤ last) x xs all, fall_from x.tail xs (pairs-first TailLe x xs falls) (pairs-rest TailLe x xs falls))

-- No sum of a sweep is above a limit that no sum over a threshold is above.
swept-le : (h limit : ℕ) (every : List Task) (time last : ℕ) (rest : List Task) → FallFrom last rest
    → ((t : ℕ) → t ≤ last → time + time_above h t rest ≤ time_above h t every)
    → All (λ (y : Task). h ≤ y.head → h + time_above h y.tail every + y.tail ≤ limit) rest → swept h time rest ≤ limit
swept-le h limit every time last [] falls so_far each = omega (arith, swept-nil h time)
swept-le h limit every time last (x ∷ xs) falls so_far each =
    let P : Task → Type 0 = λ y. h ≤ y.head → h + time_above h y.tail every + y.tail ≤ limit in
    let rest = All-tail P x xs each in
    elim (cases_lt x.head h) [
      | inl early ↦
          let on = swept-le h limit every time x.tail xs falls.1 (λ t le. omega (arith, so_far t (omega (arith, le, falls.0)), time_asked-early h t x early)) rest in
          omega (arith, on, swept-out h time x xs early)
      | inr head ↦
          let on =
          swept-le h limit every (time + x.time) x.tail xs falls.1 (λ t le. omega (arith, so_far t (omega (arith, le, falls.0)), time_asked-in h t x head le)) rest in
          omega (
            arith,
            on,
            swept-in h time x xs head,
            so_far x.tail falls.0,
            time_asked-in h x.tail x head (let le : x.tail ≤ x.tail = omega arith in le),
            All-head P x xs each head,
          )
    ]

-- some task is above the thresholds
abbrev HasAbove : ℕ → ℕ → List Task → Type 0
HasAbove h t [] = ⊥
HasAbove h t (x ∷ xs) = ((h ≤ x.head) × (t ≤ x.tail)) ⊎ HasAbove h t xs

above_or_none : (h t : ℕ) (xs : List Task) → HasAbove h t xs ⊎ (time_above h t xs ≡ 0)
above_or_none h t [] = inr refl
above_or_none h t (x ∷ xs) =
    elim (above_or_none h t xs) [
      | inl has ↦ inl (inr has)
      | inr none ↦
          elim (case_of h t x) [
            | Within head tail ↦ inl (inl (head, tail))
            | Early lt ↦ inr (omega (arith, none, time_asked-early h t x lt))
            | Short head lt ↦ inr (omega (arith, none, time_asked-short h t x head lt))
          ]
    ]

has_above_at : (h t : ℕ) (xs : List Task) (x : Task) (i : ℕ) → i < length xs → get_or xs i x ≡ x → h ≤ x.head → t ≤ x.tail → HasAbove h t xs
has_above_at h t [] x i lt is head tail = absurd (omega (arith, lt))
has_above_at h t (y ∷ ys) x zero lt is head tail = inl (omega (arith, head, ap (λ (z : Task). z.head) is), omega (arith, tail, ap (λ (z : Task). z.tail) is))
has_above_at h t (y ∷ ys) x (suc i) lt is head tail = inr (has_above_at h t ys x i (omega (arith, lt)) is head tail)

-- A sweep comes to the sum over a threshold at least.
swept-ge : (h t time : ℕ) (xs : List Task) → HasAbove h t xs → h + (time + time_above h t xs) + t ≤ swept h time xs
swept-ge h t time [] has = absurd has
swept-ge h t time (x ∷ xs) has =
    elim (case_of h t x) [
      | Within head tail ↦
          let same = swept-in h time x xs head in
          let took = time_asked-in h t x head tail in
          elim (above_or_none h t xs) [
            | inl more ↦ omega (arith, same, took, swept-ge h t (time + x.time) xs more)
            | inr none ↦ omega (arith, same, took, none, tail)
          ]
      | Early lt ↦
          elim has [
            | inl this ↦ absurd (omega (arith, this.0, lt))
            | inr more ↦ omega (arith, swept-out h time x xs lt, time_asked-early h t x lt, swept-ge h t time xs more)
          ]
      | Short head lt ↦
          elim has [
            | inl this ↦ absurd (omega (arith, this.1, lt))
            | inr more ↦ omega (arith, swept-in h time x xs head, time_asked-short h t x head lt, swept-ge h t (time + x.time) xs more)
          ]
    ]

-- no head and no tail of a load above thresholds is below them
abbrev NoLess : ℕ → ℕ → Load → Type 0
NoLess h t Idle = Unit {0}
NoLess h t (Busy head time tail) = (h ≤ head) × (t ≤ tail)

joined_no_less : (h t : ℕ) (a b : Load) → NoLess h t a → NoLess h t b → NoLess h t (joined a b)
unfolding joined
joined_no_less h t Idle b p q = q
joined_no_less h t (Busy head time tail) Idle p q = p
joined_no_less h t (Busy head time tail) (Busy head' time' tail') p q = (omega (arith, p.0, q.0), omega (arith, p.1, q.1))

no_less : (h t : ℕ) (xs : List Task) → NoLess h t (load_above h t xs)
no_less h t [] = subst (NoLess h t) (sym (load_above-nil h t)) tt
no_less h t (x ∷ xs) =
    let this : NoLess h t (asked h t x) =
    elim (case_of h t x) [
      | Within head tail ↦ subst (NoLess h t) (sym (asked-in h t x head tail)) (head, tail)
      | Early lt ↦ subst (NoLess h t) (sym (asked-early h t x lt)) tt
      | Short head lt ↦ subst (NoLess h t) (sym (asked-short h t x head lt)) tt
    ] in
    subst (NoLess h t) (sym (load_above-cons h t x xs)) (joined_no_less h t (asked h t x) (load_above h t xs) this (no_less h t xs))

-- so the bound over thresholds that some task is above is no less than their sum
load-ge : (h t time : ℕ) (y : Task) (l : Load) → load_time l ≡ time → NoLess h t l → IsAtMost l y → h + time + t ≤ machine_bound l
unfolding load_time
load-ge h t time y Idle is less most = absurd most
load-ge h t time y (Busy head took tail) is less most = omega (arith, is, less.0, less.1)

threshold-ge : (h t : ℕ) (xs : List Task) (y : Task) → Contains xs y → h ≤ y.head → t ≤ y.tail → h + time_above h t xs + t ≤ threshold_bound xs h t
threshold-ge h t xs y there head tail = load-ge h t (time_above h t xs) y (load_above h t xs) (load_time-above h t xs) (no_less h t xs) (least_of h t xs y there head tail)

-- thresholds that pass more tasks have more time above them
time_above-more : (h t i u : ℕ) (xs : List Task) → ((y : Task) → Contains xs y → h ≤ y.head → t ≤ y.tail → (i ≤ y.head) × (u ≤ y.tail)) → time_above h t xs ≤ time_above i u xs
time_above-more h t i u [] more = omega arith
time_above-more h t i u (x ∷ xs) more =
    let rest = time_above-more h t i u xs (λ y there head tail. more y (contains_behind x xs y there) head tail) in
    elim (case_of h t x) [
      | Within head tail ↦
          let too = more x (0, omega arith, refl) head tail in
          omega (arith, rest, time_asked-in h t x head tail, time_asked-in i u x too.0 too.1)
      | Early lt ↦ omega (arith, rest, time_asked-early h t x lt)
      | Short head lt ↦ omega (arith, rest, time_asked-short h t x head lt)
    ]

pub greatest_map-le : {X : Type 0} (f : X → ℕ) (xs : List X) (limit : ℕ) → All (λ x. f x ≤ limit) xs → greatest (map f xs) ≤ limit
greatest_map-le f [] limit each = omega arith
greatest_map-le f (x ∷ xs) limit each = omega (arith, All-head (λ y. f y ≤ limit) x xs each, greatest_map-le f xs limit (All-tail (λ y. f y ≤ limit) x xs each))

le-greatest_at : {X : Type 0} (f : X → ℕ) (xs : List X) (x : X) (i : ℕ) → i < length xs → get_or xs i x ≡ x → f x ≤ greatest (map f xs)
le-greatest_at f [] x i lt is = absurd (omega (arith, lt))
le-greatest_at f (y ∷ ys) x zero lt is = omega (arith, ap f is)
le-greatest_at f (y ∷ ys) x (suc i) lt is = omega (arith, le-greatest_at f ys x i (omega (arith, lt)) is)

le-greatest_map : {X : Type 0} (f : X → ℕ) (xs : List X) (x : X) → Contains xs x → f x ≤ greatest (map f xs)
le-greatest_map f xs x there = le-greatest_at f xs x there.0 there.1 there.2

-- two lists of the same tasks, in any order
pub record AreSame (xs ys : List Task) : Type 0 where
  pub time : (h t : ℕ) → time_above h t xs ≡ time_above h t ys
  pub there : (x : Task) → Contains xs x → Contains ys x
  pub back : (x : Task) → Contains ys x → Contains xs x

pub same_itself : (xs : List Task) → AreSame xs xs
same_itself xs = record { time = λ h t. refl; there = λ x is. is; back = λ x is. is }

-- the greatest of the sweeps from the heads of some tasks
abbrev pub sweeps : List Task → ℕ
sweeps ys = greatest (map (λ (x : Task). swept x.head 0 ys) ys)

sweep-le : (xs ys : List Task) (x : Task) → AreSame xs ys → Falls ys → Contains ys x → swept x.head 0 ys ≤ one_machine_bound xs
sweep-le xs [] x same falls there = absurd (omega (arith, there.1))
sweep-le xs (y ∷ ys) x same falls there =
    let all = y ∷ ys in
    let P : Task → Type 0 = λ z. x.head ≤ z.head → x.head + time_above x.head z.tail all + z.tail ≤ one_machine_bound xs in
    let each : All P all =
    λ k d lt head.
    let z = get_or all k d in
    let inside : Contains xs z = same.back z (All-contains_itself all k d lt) in
    omega (
      arith,
      same.time x.head z.tail,
      threshold-ge x.head z.tail xs z inside head (let le : z.tail ≤ z.tail = omega arith in le),
      le-greatest_map (λ (w : Task). threshold_bound xs x.head w.tail) xs z inside,
      le-greatest_map (λ (w : Task). bound_above xs w.head) xs x (same.back x there),
    ) in
    swept-le x.head (one_machine_bound xs) all 0 y.tail all (let le : y.tail ≤ y.tail = omega arith in le, fall_from y.tail ys (pairs-first TailLe y ys falls) (pairs-rest TailLe y ys falls))
    (λ t le. omega arith) each

bound-le : (xs ys : List Task) (h t : ℕ) → AreSame xs ys → threshold_bound xs h t ≤ sweeps ys
bound-le xs ys h t same =
    by_parts h t xs (λ n. n ≤ sweeps ys) (omega arith)
    (λ head tail x there is low short least.
    let most = least x there low short in
    let inside = same.there x there in
    let has : HasAbove x.head tail ys = has_above_at x.head tail ys x inside.0 inside.1 inside.2 (let le : x.head ≤ x.head = omega arith in le) most.1 in
    let more : time_above h t xs ≤ time_above x.head tail xs =
    time_above-more h t x.head tail xs (λ y in_xs first last. let both = least y in_xs first last in (omega (arith, is, both.0), both.1)) in
    omega (
      arith,
      is,
      more,
      same.time x.head tail,
      swept-ge x.head tail 0 ys has,
      le-greatest_map (λ (w : Task). swept w.head 0 ys) ys x inside,
    ))

-- The greatest of the sweeps is the bound.
pub sweeps_are : (xs ys : List Task) → AreSame xs ys → Falls ys → sweeps ys ≡ one_machine_bound xs
sweeps_are xs ys same falls =
    let most : sweeps ys ≤ one_machine_bound xs =
    greatest_map-le (λ (x : Task). swept x.head 0 ys) ys (one_machine_bound xs) (λ k d lt. sweep-le xs ys (get_or ys k d) same falls (All-contains_itself ys k d lt)) in
    let least : one_machine_bound xs ≤ sweeps ys =
    greatest_map-le (λ (x : Task). bound_above xs x.head) xs (sweeps ys)
    (λ i d lt. greatest_map-le (λ (y : Task). threshold_bound xs (get_or xs i d).head y.tail) xs (sweeps ys) (λ k e inside. bound-le xs ys (get_or xs i d).head (get_or xs k e).tail same)) in
    omega (arith, most, least)
