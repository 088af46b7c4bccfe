-- Proofs of the laws of the bounds: what becomes of a machine's load where an operation is dispatched. They define
-- nothing that a contract says.
use Rattle.std.proofs.Common.{◌≡◌, ◌≢◌, ℕ, zero, suc, ◌+◌, ◌<◌, ◌≤◌, List, [], ◌∷◌, inl, inr, refl, arith}
use Rattle.std.specs.Prelude.{max}
use Rattle.std.proofs.lemmas.Bool.{cases_eq}
use Rattle.std.proofs.lemmas.Bool.Decides.{eqb_tells}
use Rattle.inst_text.specs.declared.shop.Operation.{Operation}
use Rattle.inst_text.specs.Shop.{row_time}
use Rattle.bb_shop.specs.Dispatching.{number_in}
use Rattle.bb_shop.specs.Bounds.{Load, Idle, Busy, joined, load_of, job_load, machine_bound, head_of, each_from}
use Rattle.bb_shop.specs.Bounds.{all_joined}
use Rattle.bb_shop.specs.TreeLawsHold.Grown.{AreAtMost}

-- the load has the same operations still, with no number less
abbrev pub Grows : Load → Load → Type 0
Grows Idle Idle = Unit {0}
Grows Idle (Busy h t l) = ⊥
Grows (Busy head time tail) Idle = ⊥
Grows (Busy head time tail) (Busy h t l) = (head ≤ h) × (time ≤ t) × (tail ≤ l)

-- the load had one operation more, of these numbers
abbrev pub Follows : ℕ → ℕ → ℕ → Load → Load → Type 0
Follows start took rest Idle after = ⊥
Follows start took rest (Busy head time tail) Idle = (head ≤ start) × (time ≤ took) × (tail ≤ rest)
Follows start took rest (Busy head time tail) (Busy h t l) = (head ≤ start) × (time ≤ took + t) × (tail ≤ l)

-- no operation of the load starts before this time
abbrev pub StartsFrom : ℕ → Load → Type 0
StartsFrom e Idle = Unit {0}
StartsFrom e (Busy head time tail) = e ≤ head

-- each of two loads grows
joined_grows : (a b x y : Load) → Grows a x → Grows b y → Grows (joined a b) (joined x y)
unfolding joined
joined_grows Idle b Idle y p q = q
joined_grows Idle b (Busy h t l) y p q = absurd p
joined_grows (Busy head time tail) b Idle y p q = absurd p
joined_grows (Busy head time tail) Idle (Busy h t l) Idle p q = p
joined_grows (Busy head time tail) Idle (Busy h t l) (Busy h' t' l') p q = absurd q
joined_grows (Busy head time tail) (Busy head' time' tail') (Busy h t l) Idle p q = absurd q
joined_grows (Busy head time tail) (Busy head' time' tail') (Busy h t l) (Busy h' t' l') p q =
    (omega (arith, p.0, q.0), omega (arith, p.1, q.1), omega (arith, p.2, q.2))

-- the first of two loads loses an operation
first_follows : (start took rest : ℕ) (a b x y : Load) → Follows start took rest a x → Grows b y
    → Follows start took rest (joined a b) (joined x y)
unfolding joined
first_follows start took rest Idle b x y p q = absurd p
first_follows start took rest (Busy head time tail) Idle Idle Idle p q = p
first_follows start took rest (Busy head time tail) Idle Idle (Busy h' t' l') p q = absurd q
first_follows start took rest (Busy head time tail) (Busy head' time' tail') Idle Idle p q = absurd q
first_follows start took rest (Busy head time tail) (Busy head' time' tail') Idle (Busy h' t' l') p q =
    (omega (arith, p.0), omega (arith, p.1, q.1), omega (arith, q.2))
first_follows start took rest (Busy head time tail) Idle (Busy h t l) Idle p q = p
first_follows start took rest (Busy head time tail) Idle (Busy h t l) (Busy h' t' l') p q = absurd q
first_follows start took rest (Busy head time tail) (Busy head' time' tail') (Busy h t l) Idle p q = absurd q
first_follows start took rest (Busy head time tail) (Busy head' time' tail') (Busy h t l) (Busy h' t' l') p q =
    (omega (arith, p.0), omega (arith, p.1, q.1), omega (arith, p.2, q.2))

-- the second does
second_follows : (start took rest : ℕ) (a b x y : Load) → Grows a x → Follows start took rest b y
    → Follows start took rest (joined a b) (joined x y)
unfolding joined
second_follows start took rest a Idle x y p q = absurd q
second_follows start took rest Idle (Busy head' time' tail') Idle y p q = q
second_follows start took rest Idle (Busy head' time' tail') (Busy h t l) y p q = absurd p
second_follows start took rest (Busy head time tail) (Busy head' time' tail') Idle y p q = absurd p
second_follows start took rest (Busy head time tail) (Busy head' time' tail') (Busy h t l) Idle p q =
    (omega (arith, q.0), omega (arith, p.1, q.1), omega (arith, p.2))
second_follows start took rest (Busy head time tail) (Busy head' time' tail') (Busy h t l) (Busy h' t' l') p q =
    (omega (arith, q.0), omega (arith, p.1, q.1), omega (arith, p.2, q.2))

-- the operation that a load loses is its first
head_follows : (start took rest : ℕ) (b y : Load) → Grows b y
    → Follows start took rest (joined (Busy start took rest) b) y
unfolding joined
head_follows start took rest Idle Idle q = (omega arith, omega arith, omega arith)
head_follows start took rest Idle (Busy h t l) q = absurd q
head_follows start took rest (Busy head time tail) Idle q = absurd q
head_follows start took rest (Busy head time tail) (Busy h t l) q =
    (omega arith, omega (arith, q.1), omega (arith, q.2))

joined_from : (e : ℕ) (a b : Load) → StartsFrom e a → StartsFrom e b → StartsFrom e (joined a b)
unfolding joined
joined_from e Idle b p q = q
joined_from e (Busy head time tail) Idle p q = p
joined_from e (Busy head time tail) (Busy h t l) p q = omega (arith, p, q)

-- A bound does not fall where a load grows.
pub machine_bound_grows : (a x : Load) → Grows a x → machine_bound a ≤ machine_bound x
machine_bound_grows Idle Idle p = omega arith
machine_bound_grows Idle (Busy h t l) p = absurd p
machine_bound_grows (Busy head time tail) Idle p = absurd p
machine_bound_grows (Busy head time tail) (Busy h t l) p = omega (arith, p.0, p.1, p.2)

-- Where a load loses an operation and no other starts before its end, the bound falls to no less than it was,
-- unless it was at most what ends with that operation's tail.
pub machine_bound_follows : (start took rest : ℕ) (a x : Load) → Follows start took rest a x
    → StartsFrom (start + took) x → machine_bound a ≤ max (start + took + rest) (machine_bound x)
machine_bound_follows start took rest Idle x p from = absurd p
machine_bound_follows start took rest (Busy head time tail) Idle p from = omega (arith, p.0, p.1, p.2)
machine_bound_follows start took rest (Busy head time tail) (Busy h t l) p from = omega (arith, p.0, p.1, p.2, from)

-- what one operation asks of a machine
load_of_grows : (m h head tail : ℕ) (o : Operation) → h ≤ head → Grows (load_of m o h tail) (load_of m o head tail)
load_of_grows m h head tail o le =
    elim (eqb_tells o.machine m) [
      | inl is ↦ rw (is.0) (le, omega arith, omega arith)
      | inr is ↦ rw (is.0) tt
    ]

load_of_from : (e m head tail : ℕ) (o : Operation) → (o.machine ≡ m → e ≤ head) → StartsFrom e (load_of m o head tail)
load_of_from e m head tail o le =
    elim (eqb_tells o.machine m) [
      | inl is ↦ rw (is.0) (le (is.1))
      | inr is ↦ rw (is.0) tt
    ]

pub job_load-nil : (machines : List ℕ) (m ready : ℕ) → job_load machines m ready [] ≡ Idle
unfolding job_load
job_load-nil machines m ready = refl

-- what a job's operations ask of a machine
pub job_load_grows : (old new : List ℕ) (m r ready : ℕ) (os : List Operation) → AreAtMost old new → r ≤ ready
    → Grows (job_load old m r os) (job_load new m ready os)
unfolding job_load
job_load_grows old new m r ready [] most le = tt
job_load_grows old new m r ready (o ∷ os) most le =
    let head : head_of old r o ≤ head_of new ready o = omega (arith, most.each o.machine) in
    joined_grows (load_of m o (head_of old r o) (row_time os)) (job_load old m (head_of old r o + o.time) os)
    (load_of m o (head_of new ready o) (row_time os)) (job_load new m (head_of new ready o + o.time) os)
    (load_of_grows m (head_of old r o) (head_of new ready o) (row_time os) o head)
    (job_load_grows old new m (head_of old r o + o.time) (head_of new ready o + o.time) os most (omega (arith, head)))

pub job_load_from : (machines : List ℕ) (m ready : ℕ) (os : List Operation)
    → StartsFrom (number_in machines m) (job_load machines m ready os)
unfolding job_load
job_load_from machines m ready [] = tt
job_load_from machines m ready (o ∷ os) =
    joined_from (number_in machines m) (load_of m o (head_of machines ready o) (row_time os))
    (job_load machines m (head_of machines ready o + o.time) os)
    (load_of_from (number_in machines m) m (head_of machines ready o) (row_time os) o (λ e. rw e (omega arith)))
    (job_load_from machines m (head_of machines ready o + o.time) os)

-- The job's first operation is dispatched: of another machine nothing is lost.
pub job_load_other : (old new : List ℕ) (m r : ℕ) (o : Operation) (os : List Operation) → AreAtMost old new
    → o.machine ≢ m
    → Grows (job_load old m r (o ∷ os)) (job_load new m (head_of old r o + o.time) os)
unfolding job_load joined
job_load_other old new m r o os most other =
    elim (eqb_tells o.machine m) [
      | inl is ↦ absurd (other (is.1))
      | inr is ↦ rw (is.0) (job_load_grows old new m (head_of old r o + o.time) (head_of old r o + o.time) os most
          (omega arith))
    ]

-- its own machine's load loses the operation
pub job_load_follows : (old new : List ℕ) (m r : ℕ) (o : Operation) (os : List Operation) → AreAtMost old new
    → o.machine ≡ m
    → Follows (head_of old r o) o.time (row_time os) (job_load old m r (o ∷ os))
    (job_load new m (head_of old r o + o.time) os)
unfolding job_load
job_load_follows old new m r o os most same =
    elim (eqb_tells o.machine m) [
      | inl is ↦
          rw (is.0) (head_follows (head_of old r o) o.time (row_time os)
          (job_load old m (head_of old r o + o.time) os) (job_load new m (head_of old r o + o.time) os)
          (job_load_grows old new m (head_of old r o + o.time) (head_of old r o + o.time) os most (omega arith)))
      | inr is ↦ absurd (is.1 same)
    ]

-- all jobs' loads together
pub all_grow : (f g : ℕ → Load) (i n : ℕ) → ((k : ℕ) → i ≤ k → Grows (f k) (g k))
    → Grows (all_joined (each_from f i n)) (all_joined (each_from g i n))
all_grow f g i zero each = tt
all_grow f g i (suc n) each =
    joined_grows (f i) (all_joined (each_from f (i + 1) n)) (g i) (all_joined (each_from g (i + 1) n))
    (each i (omega arith)) (all_grow f g (i + 1) n (λ k low. each k (omega arith)))

pub one_follows : (start took rest : ℕ) (f g : ℕ → Load) (i n j : ℕ) → i ≤ j → j < i + n
    → ((k : ℕ) → k ≢ j → Grows (f k) (g k)) → Follows start took rest (f j) (g j)
    → Follows start took rest (all_joined (each_from f i n)) (all_joined (each_from g i n))
one_follows start took rest f g i zero j low high others this = absurd (omega arith)
one_follows start took rest f g i (suc n) j low high others this =
    elim (cases_eq i j) [
      | inl same ↦
          rw same (first_follows start took rest (f j) (all_joined (each_from f (j + 1) n)) (g j)
          (all_joined (each_from g (j + 1) n)) this
          (all_grow f g (j + 1) n (λ k above. others k (λ e. omega (arith, e, above)))))
      | inr other ↦
          second_follows start took rest (f i) (all_joined (each_from f (i + 1) n)) (g i)
          (all_joined (each_from g (i + 1) n)) (others i other)
          (one_follows start took rest f g (i + 1) n j (omega (arith, other)) (omega arith) others this)
    ]

pub all_from : (e : ℕ) (f : ℕ → Load) (i n : ℕ) → ((k : ℕ) → StartsFrom e (f k))
    → StartsFrom e (all_joined (each_from f i n))
all_from e f i zero each = tt
all_from e f i (suc n) each =
    joined_from e (f i) (all_joined (each_from f (i + 1) n)) (each i) (all_from e f (i + 1) n each)

pub all_idle : (f : ℕ → Load) (i n : ℕ) → ((k : ℕ) → i ≤ k → k < i + n → f k ≡ Idle)
    → all_joined (each_from f i n) ≡ Idle
unfolding joined
all_idle f i zero each = refl
all_idle f i (suc n) each =
    rw (each i (omega arith) (omega arith)) (all_idle f (i + 1) n (λ k low high. each k (omega arith) (omega arith)))
