use Rattle.std.proofs.Common.{◌≡◌, ◌∷◌, length, map, take}
use Rattle.pq_io.specs.Writing.{lines_text}
use Rattle.inst_text.specs.Knapsack.{two_words}
use Rattle.inst_text.specs.Shop.{row_words}
use Rattle.inst_text.proofs.shop.writing.write_shop.Given as goal

abbrev pub invariant-loop-row : goal.invariant-loop-row
invariant-loop-row l = l.text.items ≡ lines_text (two_words (length l.jobs.rows) l.jobs.machines ∷ map (λ row. row_words row.items) (take l.row-index l.row-items))
