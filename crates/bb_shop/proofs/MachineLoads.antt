-- What operations ask of a machine, as the program adds it up.
use Rattle.std.proofs.Common.{◌≡◌, ℕ, zero, suc, ◌+◌, ◌*◌, ◌<◌, ◌≤◌, List, [], ◌∷◌, inl, inr, refl, sym, ap, ◌∙◌, subst, length, get_or, set, drop, map, add-one, arith}
use Rattle.std.specs.Prelude.{min, max}
use Rattle.std.proofs.lemmas.Bool.Decides.{eqb_tells}
use Rattle.std.proofs.lemmas.List.{get_or-set_same, get_or-set_other, drop_more}
use Rattle.inst_text.specs.Limits.{max_total}
use Rattle.inst_text.specs.declared.shop.Operation.{Operation}
use Rattle.inst_text.specs.Shop.{JobShop, IsJobShop, row_time, rows_time}
use Rattle.bb_shop.specs.TreeLawsHold.Times.{row_time-drop, row_time-le}
use Rattle.bb_shop.specs.declared.prepared_operation.PreparedOperation.{PreparedOperation}
use Rattle.bb_shop.specs.declared.machine_load.MachineLoad.{MachineLoad}
use Rattle.bb_shop.specs.Plans.{row_at}
use Rattle.bb_shop.specs.Dispatching.{number_in}
use Rattle.bb_shop.specs.Bounds.{Load, Idle, Busy, joined, load_of, job_load, machine_bound, head_of, each_from, all_joined, greatest, finish}
use Rattle.bb_shop.specs.Loading.{unloaded, with_load, load_in, machine_bound_of}
use Rattle.bb_shop.specs.Tables.{operations_in, HaveTails}
use Rattle.bb_shop.specs.Working.{AreUpTo, FitTo, left_of, load_at, whole_load}
use Rattle.bb_shop.specs.TreeLawsHold.Tabled.{rows_time-drop}

same_load : (head time tail h t l : ℕ) → head ≡ h → time ≡ t → tail ≡ l → (let a : MachineLoad = record { head = head; time = time; tail = tail } in let b : MachineLoad = record { head = h; time = t; tail = l } in a ≡ b)
same_load head time tail h t l p q r = cc

-- two loads one after the other are their join
pub with_load-with_load : (l : MachineLoad) (a b : Load) → with_load (with_load l a) b ≡ with_load l (joined a b)
unfolding joined
with_load-with_load l Idle b = refl
with_load-with_load l (Busy head time tail) Idle = refl
with_load-with_load l (Busy head time tail) (Busy h t k) =
    same_load (min (min l.head head) h) (l.time + time + t) (min (min l.tail tail) k) (min l.head (min head h)) (l.time + (time + t)) (min l.tail (min tail k)) (omega arith) (omega arith) (omega arith)

pub time-with_load : (l : MachineLoad) (a : Load) → l.time ≤ (with_load l a).time
time-with_load l Idle = omega arith
time-with_load l (Busy head time tail) = omega arith

-- the numbers of a load are small
abbrev pub IsSmall : ℕ → Load → Type 0
IsSmall limit Idle = Unit {0}
IsSmall limit (Busy head time tail) = (head ≤ 2 * max_total) × (time ≤ limit) × (tail ≤ max_total)

IsSmall-more : (n m : ℕ) (a : Load) → n ≤ m → IsSmall n a → IsSmall m a
IsSmall-more n m Idle le small = tt
IsSmall-more n m (Busy head time tail) le small = (small.0, omega (arith, small.1, le), small.2)

IsSmall-joined : (n m : ℕ) (a b : Load) → IsSmall n a → IsSmall m b → IsSmall (n + m) (joined a b)
unfolding joined
IsSmall-joined n m Idle b small more = IsSmall-more m (n + m) b (omega arith) more
IsSmall-joined n m (Busy head time tail) Idle small more = IsSmall-more n (n + m) (Busy head time tail) (omega arith) small
IsSmall-joined n m (Busy head time tail) (Busy h t l) small more = (omega (arith, small.0), omega (arith, small.1, more.1), omega (arith, small.2))

IsSmall-load_of : (m head tail : ℕ) (o : Operation) → head ≤ 2 * max_total → tail ≤ max_total → IsSmall o.time (load_of m o head tail)
IsSmall-load_of m head tail o low short =
    elim (eqb_tells o.machine m) [
      | inl is ↦ rw (is.0) (low, omega arith, short)
      | inr is ↦ rw (is.0) tt
    ]

pub IsSmall-job_load : (machines : List ℕ) (m ready : ℕ) (os : List Operation) → AreUpTo max_total machines → ready + row_time os ≤ 2 * max_total → row_time os ≤ max_total
    → IsSmall (row_time os) (job_load machines m ready os)
unfolding job_load
IsSmall-job_load machines m ready [] within early short = tt
IsSmall-job_load machines m ready (o ∷ os) within early short =
    let head : head_of machines ready o + row_time (o ∷ os) ≤ 2 * max_total = omega (arith, within.each o.machine, early, short) in
    IsSmall-joined o.time (row_time os) (load_of m o (head_of machines ready o) (row_time os)) (job_load machines m (head_of machines ready o + o.time) os)
    (IsSmall-load_of m (head_of machines ready o) (row_time os) o (omega (arith, head)) (omega (arith, short)))
    (IsSmall-job_load machines m (head_of machines ready o + o.time) os within (omega (arith, head)) (omega (arith, short)))

-- the loads of all jobs from one on
pub IsSmall-from : (s : JobShop) (steps jobs machines : List ℕ) (m j n : ℕ) → IsJobShop s → AreUpTo max_total jobs → AreUpTo max_total machines → ((i : ℕ) → row_time (row_at s.rows i) ≤ max_total)
    → IsSmall (rows_time (drop j s.rows)) (all_joined (each_from (load_at s steps jobs machines m) j n))
IsSmall-from s steps jobs machines m j zero shop ready within each = tt
IsSmall-from s steps jobs machines m j (suc n) shop ready within each =
    let left = left_of s steps j in
    let less = row_time-drop (number_in steps j) (row_at s.rows j) in
    let first = IsSmall-job_load machines m (number_in jobs j) left within (omega (arith, ready.each j, less, each j)) (omega (arith, less, each j)) in
    let rest = IsSmall-from s steps jobs machines m (j + 1) n shop ready within each in
    let sum : rows_time (drop j s.rows) ≡ row_time (row_at s.rows j) + rows_time (drop (j + 1) s.rows) = rw (add-one j) (rows_time-drop s.rows j) in
    IsSmall-more (row_time left + rows_time (drop (j + 1) s.rows)) (rows_time (drop j s.rows)) (joined (load_at s steps jobs machines m j) (all_joined (each_from (load_at s steps jobs machines m) (j + 1) n))) (omega (arith, sum, less))
    (IsSmall-joined (row_time left) (rows_time (drop (j + 1) s.rows)) (load_at s steps jobs machines m j) (all_joined (each_from (load_at s steps jobs machines m) (j + 1) n)) first rest)

-- the bound that the program takes is that of the load
pub machine_bound-with_load : (limit : ℕ) (a : Load) → IsSmall limit a → limit ≤ max_total → machine_bound_of (with_load unloaded a) ≡ machine_bound a
machine_bound-with_load limit Idle small le = refl
machine_bound-with_load limit (Busy head time tail) small le =
    let low : min 4294967295 head ≡ head = omega (arith, small.0) in
    let short : min 4294967295 tail ≡ tail = omega (arith, small.2) in
    elim (eqb_tells head 4294967295) [
      | inl is ↦ absurd (omega (arith, is.1, small.0))
      | inr is ↦ rw (low, short, is.0) (omega arith)
    ]

pub machine_bound-small : (limit : ℕ) (a : Load) → IsSmall limit a → limit ≤ max_total → machine_bound a < 4294967296
machine_bound-small limit Idle small le = omega arith
machine_bound-small limit (Busy head time tail) small le = omega (arith, small.0, small.1, small.2, le)

pub time-small : (limit : ℕ) (a : Load) → IsSmall limit a → (with_load unloaded a).time ≤ limit
time-small limit Idle small = omega arith
time-small limit (Busy head time tail) small = omega (arith, small.1)

-- one operation on: when the job finishes
pub finish-step : (machines : List ℕ) (ready : ℕ) (o : Operation) (os : List Operation) → finish machines ready (o ∷ os) ≡ finish machines (head_of machines ready o + o.time) os
unfolding finish
finish-step machines ready o os = refl

-- and what is asked of a machine
pub job_load-step : (machines : List ℕ) (m ready : ℕ) (o : Operation) (os : List Operation)
    → job_load machines m ready (o ∷ os) ≡ joined (load_of m o (head_of machines ready o) (row_time os)) (job_load machines m (head_of machines ready o + o.time) os)
unfolding job_load
job_load-step machines m ready o os = refl

-- the machine of an operation takes it up, and the others stay
one_more : (loads : List MachineLoad) (m head tail : ℕ) (o : Operation) → o.machine < length loads
    → load_in (set loads o.machine (with_load (load_in loads o.machine) (Busy head o.time tail))) m ≡ with_load (load_in loads m) (load_of m o head tail)
one_more loads m head tail o inside =
    elim (eqb_tells o.machine m) [
      | inl is ↦ rw (is.0) (ap (λ i. get_or (set loads o.machine (with_load (load_in loads o.machine) (Busy head o.time tail))) i unloaded) (sym (is.1))
          ∙ get_or-set_same loads o.machine (with_load (load_in loads o.machine) (Busy head o.time tail)) unloaded inside ∙ ap (λ i. with_load (load_in loads i) (Busy head o.time tail)) (is.1))
      | inr is ↦ rw (is.0) (get_or-set_other loads o.machine m (with_load (load_in loads o.machine) (Busy head o.time tail)) unloaded (λ e. is.1 (sym e)))
    ]

pub with_load-step : (machines : List ℕ) (loads : List MachineLoad) (m ready tail : ℕ) (o : Operation) (os : List Operation) → o.machine < length loads → tail ≡ row_time os
    → with_load (load_in (set loads o.machine (with_load (load_in loads o.machine) (Busy (head_of machines ready o) o.time tail))) m) (job_load machines m (head_of machines ready o + o.time) os)
    ≡ with_load (load_in loads m) (job_load machines m ready (o ∷ os))
with_load-step machines loads m ready tail o os inside is =
    let after = job_load machines m (head_of machines ready o + o.time) os in
    ap (λ l. with_load l after) (one_more loads m (head_of machines ready o) tail o inside)
    ∙ with_load-with_load (load_in loads m) (load_of m o (head_of machines ready o) tail) after
    ∙ ap (λ t. with_load (load_in loads m) (joined (load_of m o (head_of machines ready o) t) after)) is
    ∙ ap (with_load (load_in loads m)) (sym (job_load-step machines m ready o os))

-- the machine of the next operation has room for its time
pub time-step : (machines : List ℕ) (l : MachineLoad) (ready : ℕ) (o : Operation) (os : List Operation) (limit : ℕ) → (with_load l (job_load machines o.machine ready (o ∷ os))).time ≤ limit → l.time + o.time ≤ limit
time-step machines l ready o os limit le =
    let head = head_of machines ready o in
    let after = job_load machines o.machine (head + o.time) os in
    elim (eqb_tells o.machine o.machine) [
      | inl is ↦
          let here : load_of o.machine o head (row_time os) ≡ Busy head o.time (row_time os) = rw (is.0) refl in
          let e : with_load l (job_load machines o.machine ready (o ∷ os)) ≡ with_load (with_load l (Busy head o.time (row_time os))) after =
          ap (with_load l) (job_load-step machines o.machine ready o os) ∙ ap (λ b. with_load l (joined b after)) here ∙ sym (with_load-with_load l (Busy head o.time (row_time os)) after) in
          omega (arith, time-with_load (with_load l (Busy head o.time (row_time os))) after, ap (λ (x : MachineLoad). x.time) e, le)
      | inr is ↦ absurd (is.1 refl)
    ]

-- what stands at one place of the prepared operations
pub record IsTurn (ops : List PreparedOperation) (i : ℕ) (p : PreparedOperation) : Type 0 where
  pub before : operations_in (drop i ops) ≡ p.operation ∷ operations_in (drop (i + 1) ops)
  pub tail : p.tail ≡ row_time (operations_in (drop (i + 1) ops))

tails-drop : (ops : List PreparedOperation) (i : ℕ) → HaveTails ops → HaveTails (drop i ops)
tails-drop ops zero tails = tails
tails-drop [] (suc i) tails = tt
tails-drop (p ∷ ps) (suc i) tails = tails-drop ps i (tails.1)

pub turn : (ops : List PreparedOperation) (i : ℕ) (d : PreparedOperation) → HaveTails ops → i < length ops → IsTurn ops i (get_or ops i d)
turn ops i d tails inside =
    let e : drop i ops ≡ get_or ops i d ∷ drop (i + 1) ops = drop_more ops i d inside in
    let t : HaveTails (get_or ops i d ∷ drop (i + 1) ops) = subst (λ ps. HaveTails ps) e (tails-drop ops i tails) in
    record { before = ap operations_in e; tail = t.0 }

-- of no operations
pub finish-none : (machines : List ℕ) (ready : ℕ) → finish machines ready [] ≡ ready
unfolding finish
finish-none machines ready = refl

pub job_load-none : (machines : List ℕ) (m ready : ℕ) → job_load machines m ready [] ≡ Idle
unfolding job_load
job_load-none machines m ready = refl

-- one job on: the greatest of what is so far and the jobs that are left
pub greatest-step : (f : ℕ → ℕ) (j n : ℕ) → greatest (each_from f j (suc n)) ≡ max (f j) (greatest (each_from f (j + 1) n))
greatest-step f j n = refl

-- and what the jobs ask of a machine
pub load-step : (s : JobShop) (steps jobs machines : List ℕ) (m j n : ℕ) (l : MachineLoad)
    → with_load (with_load l (load_at s steps jobs machines m j)) (all_joined (each_from (load_at s steps jobs machines m) (j + 1) n)) ≡ with_load l (all_joined (each_from (load_at s steps jobs machines m) j (suc n)))
load-step s steps jobs machines m j n l = with_load-with_load l (load_at s steps jobs machines m j) (all_joined (each_from (load_at s steps jobs machines m) (j + 1) n))

-- the bound of the load at one place
pub get_or-machine_bounds : (loads : List MachineLoad) (i : ℕ) (d : MachineLoad) (e : ℕ) → i < length loads → get_or (map machine_bound_of loads) i e ≡ machine_bound_of (get_or loads i d)
get_or-machine_bounds [] i d e lt = absurd (omega arith)
get_or-machine_bounds (l ∷ ls) zero d e lt = refl
get_or-machine_bounds (l ∷ ls) (suc i) d e lt = get_or-machine_bounds ls i d e (omega arith)

-- The bounds of the loads that the program comes to are the bounds of the machines.
machine_bounds_from : (loads : List MachineLoad) (f : ℕ → Load) (i n limit : ℕ) → length loads ≡ n → limit ≤ max_total → ((m : ℕ) → IsSmall limit (f m)) → ((k : ℕ) → k < n → load_in loads k ≡ with_load unloaded (f (i + k)))
    → map machine_bound_of loads ≡ each_from (λ m. machine_bound (f m)) i n
machine_bounds_from [] f i zero limit size le small each = refl
machine_bounds_from [] f i (suc n) limit size le small each = absurd (omega arith)
machine_bounds_from (l ∷ ls) f i zero limit size le small each = absurd (omega arith)
machine_bounds_from (l ∷ ls) f i (suc n) limit size le small each =
    let at : i + 0 ≡ i = omega arith in
    let here : machine_bound_of l ≡ machine_bound (f i) = ap machine_bound_of (each 0 (omega arith) ∙ ap (λ m. with_load unloaded (f m)) at) ∙ machine_bound-with_load limit (f i) (small i) le in
    let rest = machine_bounds_from ls f (i + 1) n limit (omega (arith, size)) le small (λ k lt. let on : i + suc k ≡ i + 1 + k = omega arith in each (suc k) (omega (arith, lt)) ∙ ap (λ m. with_load unloaded (f m)) on) in
    ap (λ x. x ∷ map machine_bound_of ls) here ∙ ap (λ xs. machine_bound (f i) ∷ xs) rest

pub machine_bounds_are : (s : JobShop) (steps jobs machines : List ℕ) (loads : List MachineLoad) → IsJobShop s → FitTo s steps jobs machines → length loads ≡ s.machines → ((k : ℕ) → k < s.machines → load_in loads k ≡ with_load unloaded (whole_load s steps jobs machines k))
    → map machine_bound_of loads ≡ each_from (λ m. machine_bound (whole_load s steps jobs machines m)) 0 s.machines
machine_bounds_are s steps jobs machines loads shop fit size each =
    machine_bounds_from loads (whole_load s steps jobs machines) 0 s.machines (rows_time s.rows) size shop.times
    (λ m. IsSmall-from s steps jobs machines m 0 (length s.rows) shop fit.jobs_ready fit.machines_ready (λ i. omega (arith, row_time-le s.rows i, shop.times)))
    (λ k lt. let at : 0 + k ≡ k = omega arith in each k lt ∙ ap (λ m. with_load unloaded (whole_load s steps jobs machines m)) (sym at))

pub machine_bound_is_small : (s : JobShop) (steps jobs machines : List ℕ) (l : MachineLoad) (m : ℕ) → IsJobShop s → FitTo s steps jobs machines → l ≡ with_load unloaded (whole_load s steps jobs machines m) → machine_bound_of l < 4294967296
machine_bound_is_small s steps jobs machines l m shop fit is =
    let small = IsSmall-from s steps jobs machines m 0 (length s.rows) shop fit.jobs_ready fit.machines_ready (λ i. omega (arith, row_time-le s.rows i, shop.times)) in
    omega (arith, ap machine_bound_of is, machine_bound-with_load (rows_time s.rows) (whole_load s steps jobs machines m) small shop.times, machine_bound-small (rows_time s.rows) (whole_load s steps jobs machines m) small shop.times)
