use Rattle.std.proofs.Common.{◌≡◌, ℕ, List, ◌∷◌, length, map, refl, sym, ap, subst, ◌∙◌, arith}
use Rattle.std.proofs.lemmas.List.{length-map}
use Rattle.pq_io.specs.Writing.{lines_text}
use Rattle.inst_text.specs.Knapsack.{two_words}
use Rattle.inst_text.specs.Shop.{JobShop, IsJobShop, row_words, shop_of}
use Rattle.inst_text.proofs.PieceByPiece.{line_written, lines_written, map_twice}
use Rattle.inst_text.proofs.WrittenShop.{shop_text_is_read}
use Rattle.inst_text.proofs.shop.writing.write_shop.Goals as goal

pub loop-row-init : goal.loop-row-init
loop-row-init c =
    let rows : length c.jobs.inside.rows.items ≡ length c.args.jobs.now.rows =
    sym (length-map c.jobs.inside.rows.items (λ row. row.items)) ∙ ap (λ (s : JobShop). length s.rows) c.jobs.view_is in
    let count : c.len.result ≡ length c.args.jobs.now.rows = omega (arith, rows) in
    let machines : c.from.result ≡ c.args.jobs.now.machines = c.from.ensures ∙ ap (λ (s : JobShop). s.machines) c.jobs.view_is in
    rw (c.in_ok-push.ensures.items, c.in_ok-write_two.ensures, c.new-text.ensures.items, count, machines) refl

pub loop-row-preserved : goal.loop-row-preserved
loop-row-preserved c =
    line_written (λ row. row_words row.items) (two_words (length c.args.jobs.now.rows) c.args.jobs.now.machines) c.deref-row-items.result.now c.loop-row.row-index _ c.row-item.result _ _ c.loop-row-test.true c.row-item.is (rw c.deref.ensures.value at c.in_ok-write_job.ensures) c.loop-row.invariant

pub returns-clause-written : goal.returns-clause-written
returns-clause-written c =
    lines_written (λ row. row_words row.items) (two_words (length c.args.jobs.now.rows) c.args.jobs.now.machines) c.deref-row-items.result.now c.loop-row.row-index _ c.loop-row-test.false c.loop-row.invariant
    ∙ ap (λ xs. lines_text (two_words (length c.args.jobs.now.rows) c.args.jobs.now.machines ∷ map (λ row. row_words row.items) xs)) c.deref-row-items.ensures.value
    ∙ ap (λ (ls : List (List (List ℕ))). lines_text (two_words (length c.args.jobs.now.rows) c.args.jobs.now.machines ∷ ls)) (map_twice (λ row. row.items) row_words c.jobs.inside.rows.items)
    ∙ ap (λ (s : JobShop). lines_text (two_words (length c.args.jobs.now.rows) c.args.jobs.now.machines ∷ map row_words s.rows)) c.jobs.view_is

pub returns-clause-read : goal.returns-clause-read
returns-clause-read c = ap shop_of (returns-clause-written c) ∙ shop_text_is_read c.args.jobs.now (subst (λ (s : JobShop). IsJobShop s) c.jobs.view_is c.jobs.invariant)
