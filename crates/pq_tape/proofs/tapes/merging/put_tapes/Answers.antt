use Rattle.std.proofs.Common.{◌≡◌, ◌+◌, List, length, drop, sym, ap, ◌∙◌, arith}
use Rattle.pq_model.specs.declared.marks.Mark.{Mark}
use Rattle.pq_tape.specs.Tapes.{Taped, with_calls, with_tapes}
use Rattle.pq_tape.proofs.Merging.{length-with_calls, tape_step}
use Rattle.pq_tape.proofs.tapes.merging.put_tapes.Goals as goal

pub loop-tape-preserved : goal.loop-tape-preserved
loop-tape-preserved c =
    let ts = c.args.tapes.now in
    let i = c.loop-tape.tape-index in
    let t = c.tape-item.result in
    let ms = c.loop-tape.marks.items in
    let put : c.put_calls.new.marks.items ≡ with_calls t.lane.number t.lane.calls ms =
    c.put_calls.ensures ∙ ap (λ (cs : List _). with_calls c.tape.inside.seat cs ms) c.deref.ensures.value ∙ ap (λ (x : Taped). with_calls x.lane.number x.lane.calls ms) c.tape.view_is in
    record {
      count = ap (λ (xs : List Mark). length xs) put ∙ length-with_calls t.lane.number t.lane.calls ms ∙ c.loop-tape.invariant.count;
      so_far = ap (λ (xs : List Mark). with_tapes (drop (i + 1) ts) xs) put ∙ sym (tape_step ts i t ms (omega arith) c.tape-item.is) ∙ c.loop-tape.invariant.so_far;
    }
