-- As many calls were made as turns, all asked the same.
use Rattle.std.proofs.Common.{◌≡◌, List, length}
use Rattle.std.specs.Prelude.{All}
use Rattle.pq_model.specs.declared.passes.Call.{Call}
use Rattle.pq_checks.specs.Checks.{asked, HasMade, IsTaped}
use Rattle.pq_checks.proofs.held.hold.Given as goal

abbrev pub invariant-loop-turn : goal.invariant-loop-turn
invariant-loop-turn g l = record {
  own : g.Q.SharedQueue.belongs l.queue l.caller.pass;
  taped : IsTaped (g.Q.SharedQueue.known l.caller.pass) l.caller.tape.lane;
  made : (made : List Call) × All (λ (c : Call). c.act ≡ asked l.row.held.act) made
      × HasMade (g.Q.SharedQueue.known l.initial.caller.pass) made (g.Q.SharedQueue.known l.caller.pass)
      × (length made ≡ l._turn);
}
