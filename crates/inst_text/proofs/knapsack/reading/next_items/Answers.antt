use Rattle.std.proofs.Common.{arith}
use Rattle.std.proofs.lemmas.Result.{err_from_is_err_and}
use Rattle.pq_io.specs.Reading.{line_at}
use Rattle.inst_text.specs.Knapsack.{item_of}
use Rattle.inst_text.proofs.OneByOne.{goes_on, ends, is_done}
use Rattle.inst_text.proofs.KnapsackText.{less, item_fits}
use Rattle.inst_text.proofs.knapsack.reading.next_items.Goals as goal

pub returns-in_err-item : goal.returns-in_err-item
returns-in_err-item c =
    let p = err_from_is_err_and c.from_residual-in_err-item.result c.from_residual-in_err-item.ensures.1 in
    rw (p.1, p.2) (ends (λ r. line_at (item_of r)) less c.loop.items.items c.args.count c.loop.counter c.loop.room c.loop.text _ _ c.loop-test.true c.in_err-item.ensures c.loop.invariant.so_far)

pub overflow_sub-room : goal.overflow_sub-room
overflow_sub-room c = rw c.from-room-in-loop.ensures (item_fits c.loop.room c.loop.text _ c.in_ok-item.ensures)

pub loop-preserved : goal.loop-preserved
loop-preserved c = record {
  room = omega arith;
  so_far =
      rw (c.in_ok-push.ensures.items, c.from-room-in-loop.ensures)
      (goes_on (λ r. line_at (item_of r)) less c.loop.items.items c.args.count c.loop.counter c.loop.room c.loop.text c.in_ok-item.item _ _ c.loop-test.true c.in_ok-item.ensures c.loop.invariant.so_far);
}

pub returns : goal.returns
returns c = is_done (λ r. line_at (item_of r)) less c.loop.items.items c.args.count c.loop.counter c.loop.room c.loop.text _ c.loop-test.false c.loop.invariant.so_far
