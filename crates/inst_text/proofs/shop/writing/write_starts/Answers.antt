use Rattle.std.proofs.Common.{ℕ, List, [], ◌∷◌, codes, decimal, map, ap, ◌∙◌}
use Rattle.pq_io.specs.Writing.{lines_text}
use Rattle.inst_text.specs.Shop.{starts_text}
use Rattle.inst_text.proofs.PieceByPiece.{line_written, lines_written, map_twice}
use Rattle.inst_text.proofs.shop.writing.write_starts.Goals as goal

pub loop-row-preserved : goal.loop-row-preserved
loop-row-preserved c =
    line_written (λ row. map decimal row.items) (codes "makespan" ∷ decimal c.args.makespan ∷ []) c.deref-row-items.result.now c.loop-row.row-index _ c.row-item.result _ _ c.loop-row-test.true c.row-item.is (rw c.deref.ensures.value at c.in_ok-write_row.ensures) c.loop-row.invariant

pub returns : goal.returns
returns c =
    lines_written (λ row. map decimal row.items) (codes "makespan" ∷ decimal c.args.makespan ∷ []) c.deref-row-items.result.now c.loop-row.row-index _ c.loop-row-test.false c.loop-row.invariant
    ∙ ap (λ xs. lines_text ((codes "makespan" ∷ decimal c.args.makespan ∷ []) ∷ map (λ row. map decimal row.items) xs)) c.deref-row-items.ensures.value
    ∙ ap (λ (ls : List (List (List ℕ))). lines_text ((codes "makespan" ∷ decimal c.args.makespan ∷ []) ∷ ls)) (map_twice (λ row. row.items) (map decimal) c.starts.inside.rows.items)
    ∙ ap (starts_text c.args.makespan) c.starts.view_is
