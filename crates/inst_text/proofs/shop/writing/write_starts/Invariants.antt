use Rattle.std.proofs.Common.{◌≡◌, [], ◌∷◌, codes, decimal, map, take}
use Rattle.pq_io.specs.Writing.{lines_text}
use Rattle.inst_text.proofs.shop.writing.write_starts.Given as goal

abbrev pub invariant-loop-row : goal.invariant-loop-row
invariant-loop-row l = l.text.items ≡ lines_text ((codes "makespan" ∷ decimal l.makespan ∷ []) ∷ map (λ row. map decimal row.items) (take l.row-index l.row-items))
