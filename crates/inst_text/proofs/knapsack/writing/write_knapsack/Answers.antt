use Rattle.std.proofs.Common.{◌≡◌, List, ◌∷◌, length, map, refl, ap, subst, ◌∙◌, arith}
use Rattle.pq_io.specs.Writing.{lines_text}
use Rattle.inst_text.specs.declared.knapsack.Item.{Item}
use Rattle.inst_text.specs.Knapsack.{Instance, IsInstance, two_words, knapsack_of}
use Rattle.inst_text.proofs.PieceByPiece.{line_written, lines_written}
use Rattle.inst_text.proofs.WrittenKnapsack.{instance_is_read}
use Rattle.inst_text.proofs.knapsack.writing.write_knapsack.Goals as goal

pub loop-item-init : goal.loop-item-init
loop-item-init c =
    let count : c.len.result ≡ length c.args.items.now.items = omega (arith, ap (λ (i : Instance). length i.items) c.items.view_is) in
    rw (c.in_ok-push.ensures.items, c.in_ok-write_two.ensures, c.new-text.ensures.items, count, ap (λ (i : Instance). i.capacity) c.items.view_is) refl

pub loop-item-preserved : goal.loop-item-preserved
loop-item-preserved c =
    line_written (λ (j : Item). two_words j.weight j.value) (two_words (length c.args.items.now.items) c.args.items.now.capacity) c.deref-item-items.result.now c.loop-item.item-index (record { weight = 0; value = 0 }) _ _ _ c.loop-item-test.true refl c.in_ok-write_item.ensures c.loop-item.invariant

pub returns-clause-written : goal.returns-clause-written
returns-clause-written c =
    lines_written (λ (j : Item). two_words j.weight j.value) (two_words (length c.args.items.now.items) c.args.items.now.capacity) c.deref-item-items.result.now c.loop-item.item-index _ c.loop-item-test.false c.loop-item.invariant
    ∙ ap (λ (is : List Item). lines_text (two_words (length c.args.items.now.items) c.args.items.now.capacity ∷ map (λ (j : Item). two_words j.weight j.value) is)) (c.deref-item-items.ensures.value ∙ ap (λ (i : Instance). i.items) c.items.view_is)

pub returns-clause-read : goal.returns-clause-read
returns-clause-read c = ap knapsack_of (returns-clause-written c) ∙ instance_is_read c.args.items.now (subst (λ (i : Instance). IsInstance i) c.items.view_is c.items.invariant)
