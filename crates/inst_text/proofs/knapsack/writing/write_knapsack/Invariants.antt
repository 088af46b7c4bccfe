use Rattle.std.proofs.Common.{◌≡◌, ◌∷◌, length, map, take}
use Rattle.pq_io.specs.Writing.{lines_text}
use Rattle.inst_text.specs.declared.knapsack.Item.{Item}
use Rattle.inst_text.specs.Knapsack.{two_words}
use Rattle.inst_text.proofs.knapsack.writing.write_knapsack.Given as goal

abbrev pub invariant-loop-item : goal.invariant-loop-item
invariant-loop-item l = l.text.items ≡ lines_text (two_words (length l.items.items) l.items.capacity ∷ map (λ (j : Item). two_words j.weight j.value) (take l.item-index l.item-items))
