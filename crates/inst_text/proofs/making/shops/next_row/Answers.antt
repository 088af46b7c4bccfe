use Rattle.std.proofs.Common.{◌≡◌, ◌+◌, sym, ap, ◌∙◌, arith}
use Rattle.inst_text.specs.Generator.{state_after, drawn, made_operation}
use Rattle.inst_text.proofs.Made.{one_more, one_step, steps_on}
use Rattle.inst_text.proofs.making.shops.next_row.Goals as goal

pub loop-step-preserved : goal.loop-step-preserved
loop-step-preserved c = λ seed n e.
    let k = c.loop-step.step in
    let old = c.loop-step.invariant seed n e in
    let first : c.draw-first.result ≡ drawn (state_after seed n) c.args.size = c.draw-first.ensures.drawn ∙ ap (λ s. drawn s c.args.size) e in
    let time : c.draw-time.result ≡ drawn (state_after seed (n + 1 + k)) 20 = c.draw-time.ensures.drawn ∙ ap (λ s. drawn s 20) old.1 in (
      rw (c.in_ok-push.ensures.items, old.0, first, time) (sym (one_more (made_operation seed c.args.size n) k)),
      c.draw-time.ensures.state ∙ one_step seed (n + 1 + k) _ old.1 ∙ steps_on seed (n + 1 + k + 1) (n + 1 + (k + 1)) (omega arith),
    )
