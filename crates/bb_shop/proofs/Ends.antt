-- The makespan is the greatest end of an operation, and a bound of what a best schedule starts at.
use Rattle.std.proofs.Common.{◌≡◌, ℕ, suc, ◌+◌, ◌<◌, ◌≤◌, List, [], ◌∷◌, ◌++◌, inl, inr, length, get_or, arith}
use Rattle.std.proofs.lemmas.Bool.{cases_lt}
use Rattle.inst_text.specs.Limits.{max_total}
use Rattle.inst_text.specs.declared.shop.Operation.{Operation}
use Rattle.inst_text.specs.Shop.{JobShop, IsJobShop, AreStarts}
use Rattle.bb_shop.specs.Plans.{step_at, row_at, end_at, IsOperation, AreShaped, IsFeasible, row_end, rows_end, makespan, IsCheapest}
use Rattle.bb_shop.specs.Dispatching.{state_of}
use Rattle.bb_shop.specs.Bounds.{root_bound}
use Rattle.bb_shop.specs.Judging.{times_at}
use Rattle.bb_shop.specs.TreeLawsHold.Bounded.{bounded}
use Rattle.bb_shop.specs.TreeLawsHold.Ended.{length-times, end_within_makespan}
use Rattle.bb_shop.specs.TreeLawsHold.Leaves.{leaf_is_feasible}
use Rattle.bb_shop.specs.TreeLawsHold.Least.{goes_on}
use Rattle.bb_shop.specs.TreeLawsHold.Reaching.{reached}
use Rattle.bb_shop.specs.TreeLawsHold.Ready.{rows_starts, whole_within}
use Rattle.bb_shop.specs.TreeLawsHold.States.{row-length}

-- the operation of a row that ends last
record Last (row : List Operation) (times : List ℕ) : Type 0 where
  step : ℕ
  inside : step < length row
  end : get_or times step 0 + (step_at row step).time ≡ row_end row times

last_of : (o : Operation) (os : List Operation) (t : ℕ) (ts : List ℕ) → Last (o ∷ os) (t ∷ ts)
last_of o [] t ts = record { step = 0; inside = omega arith; end = omega arith }
last_of o (p ∷ os) t [] = record { step = 0; inside = omega arith; end = omega arith }
last_of o (p ∷ os) t (u ∷ ts) =
    let rest = last_of p os u ts in
    elim (cases_lt (t + o.time) (row_end (p ∷ os) (u ∷ ts))) [
      | inl lt ↦ record { step = suc rest.step; inside = omega (arith, rest.inside); end = omega (arith, lt, rest.end) }
      | inr le ↦ record { step = 0; inside = omega arith; end = omega (arith, le) }
    ]

last_in : (row : List Operation) (times : List ℕ) → 0 < length row → 0 < length times → Last row times
last_in [] times some timed = absurd (omega (arith, some))
last_in (o ∷ os) [] some timed = absurd (omega (arith, timed))
last_in (o ∷ os) (t ∷ ts) some timed = last_of o os t ts

-- the row of several that ends last
record LastRow (rows : List (List Operation)) (starts : List (List ℕ)) : Type 0 where
  job : ℕ
  inside : job < length rows
  end : row_end (row_at rows job) (times_at starts job) ≡ rows_end rows starts

last_row_of : (r : List Operation) (rs : List (List Operation)) (t : List ℕ) (ts : List (List ℕ)) → LastRow (r ∷ rs) (t ∷ ts)
last_row_of r [] t ts = record { job = 0; inside = omega arith; end = omega arith }
last_row_of r (q ∷ rs) t [] = record { job = 0; inside = omega arith; end = omega arith }
last_row_of r (q ∷ rs) t (u ∷ ts) =
    let rest = last_row_of q rs u ts in
    elim (cases_lt (row_end r t) (rows_end (q ∷ rs) (u ∷ ts))) [
      | inl lt ↦ record { job = suc rest.job; inside = omega (arith, rest.inside); end = omega (arith, lt, rest.end) }
      | inr le ↦ record { job = 0; inside = omega arith; end = omega (arith, le) }
    ]

last_row_in : (rows : List (List Operation)) (starts : List (List ℕ)) → 0 < length rows → 0 < length starts → LastRow rows starts
last_row_in [] starts some timed = absurd (omega (arith, some))
last_row_in (r ∷ rs) [] some timed = absurd (omega (arith, timed))
last_row_in (r ∷ rs) (t ∷ ts) some timed = last_row_of r rs t ts

-- so some operation ends at the makespan
pub makespan_is_end : (s : JobShop) (starts : List (List ℕ)) → IsJobShop s → AreShaped s starts → (j : ℕ) × (k : ℕ) × IsOperation s j k × (end_at s starts j k ≡ makespan s starts)
makespan_is_end s starts shop shaped =
    let row = last_row_in s.rows starts (omega (arith, shop.some_job)) (omega (arith, shop.some_job, shaped.rows)) in
    let count = row-length s row.job shop row.inside in
    let last = last_in (row_at s.rows row.job) (times_at starts row.job) (omega (arith, count, shop.some_machine)) (omega (arith, length-times s starts row.job shaped row.inside, shop.some_machine)) in
    (row.job, last.step, (row.inside, omega (arith, last.inside, count)), omega (arith, last.end, row.end))

-- no feasible schedule ends before the bound of the root
pub root_bound_below : (s : JobShop) (starts : List (List ℕ)) → IsJobShop s → IsFeasible s starts → root_bound s ≤ makespan s starts
root_bound_below s starts shop feasible = bounded s [] (makespan s starts) shop (reached s starts shop feasible)

-- a best schedule costs no more than that of some whole order, and so is within the sum of all times
best_within : (s : JobShop) (starts : List (List ℕ)) → IsJobShop s → IsCheapest s starts → makespan s starts ≤ max_total
best_within s starts shop best =
    let whole = goes_on s [] shop tt in
    let name = [] ++ whole.0 in
    let other = best.cheapest (state_of s name).starts (leaf_is_feasible s name shop whole.1 whole.2) in
    omega (arith, other, whole_within s name shop whole.1 whole.2, shop.times)

pub best_starts_early : (s : JobShop) (starts : List (List ℕ)) → IsJobShop s → IsCheapest s starts → AreStarts starts
best_starts_early s starts shop best =
    let shaped = best.feasible.shaped in
    rows_starts max_total starts (λ j k row step.
    let job : j < length s.rows = omega (arith, row, shaped.rows) in
    let within : k < s.machines = omega (arith, step, length-times s starts j shaped job) in
    omega (arith, end_within_makespan s starts j k shop shaped (job, within), best_within s starts shop best))
