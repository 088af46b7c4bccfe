-- Start times within their limit end early enough for a makespan that can be stated.
use Rattle.std.proofs.Common.{ℕ, ◌+◌, ◌≤◌, List, [], ◌∷◌, arith}
use Rattle.std.specs.List.{AllByRecursion}
use Rattle.inst_text.specs.declared.shop.Operation.{Operation}
use Rattle.inst_text.specs.Shop.{JobShop, IsJobShop, AreStarts, row_time, rows_time}
use Rattle.bb_shop.specs.Plans.{row_end, rows_end, makespan}

row_end_within : (row : List Operation) (times : List ℕ) → AllByRecursion (λ (t : ℕ). t ≤ 67108863) times → row_end row times ≤ 67108863 + row_time row
row_end_within [] times early = omega arith
row_end_within (o ∷ os) [] early = omega arith
row_end_within (o ∷ os) (t ∷ ts) early = omega (arith, early.0, row_end_within os ts early.1)

rows_end_within : (rows : List (List Operation)) (starts : List (List ℕ)) → AreStarts starts → rows_end rows starts ≤ 67108863 + rows_time rows
rows_end_within [] starts early = omega arith
rows_end_within (r ∷ rs) [] early = omega arith
rows_end_within (r ∷ rs) (t ∷ ts) early = omega (arith, row_end_within r t early.0, rows_end_within rs ts early.1)

pub makespan_within : (s : JobShop) (starts : List (List ℕ)) → IsJobShop s → AreStarts starts → makespan s starts ≤ 4294967295
makespan_within s starts shop early = omega (arith, rows_end_within s.rows starts early, shop.times)
