use Rattle.std.proofs.Common.{◌≡◌, ◌+◌, List, [], ◌∷◌, ◌++◌, refl, sym, ap, ◌∙◌, arith}
use Rattle.pq_words.specs.Limits.{key_limit}
use Rattle.pq_model.specs.declared.marks.Act.{Act}
use Rattle.inst_text.specs.Generator.{state_after, drawn, made_insert}
use Rattle.inst_text.proofs.Made.{all_made, one_more, one_step, steps_on, insert_is, lane_made}
use Rattle.inst_text.proofs.making.scripts.next_lane.Goals as goal

pub loop-index-preserved : goal.loop-index-preserved
loop-index-preserved c = λ seed e.
    let n = c.args.first + c.loop-index.index in
    let old = c.loop-index.invariant seed e in
    let key : c.draw.result ≡ drawn (state_after seed n) key_limit = c.draw.ensures.drawn ∙ ap (λ s. drawn s key_limit) old.1 in (
      c.in_ok-push.ensures.items
          ∙ ap (λ (act : Act). c.loop-index.lane.items ++ act ∷ []) (insert_is seed n _ key refl)
          ∙ ap (λ (acts : List Act). acts ++ made_insert seed n ∷ []) old.0
          ∙ sym (one_more (λ i. made_insert seed (c.args.first + i)) c.loop-index.index),
      c.draw.ensures.state ∙ one_step seed n _ old.1 ∙ steps_on seed (n + 1) (c.args.first + (c.loop-index.index + 1)) (omega arith),
    )

pub returns : goal.returns
returns c = λ seed e.
    let old = c.loop-index.invariant seed e in
    let all = all_made c.loop-index.index c.args.size (omega arith) (omega arith) in (
      c.in_ok-resize.ensures.items ∙ lane_made seed c.args.size c.args.first c.loop-index.index c.loop-index.lane.items _ all (omega arith) old.0,
      old.1 ∙ ap (λ k. state_after seed (c.args.first + k)) all,
    )
