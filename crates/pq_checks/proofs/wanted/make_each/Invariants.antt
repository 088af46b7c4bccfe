-- The calls before this one were made, each as it is wanted.
use Rattle.std.proofs.Common.{◌≡◌, List, length, take}
use Rattle.pq_model.specs.declared.passes.Call.{Call}
use Rattle.pq_checks.specs.Checks.{AreWanted, HasMade, IsTaped}
use Rattle.pq_checks.proofs.wanted.make_each.Given as goal

abbrev pub invariant-loop-wanted : goal.invariant-loop-wanted
invariant-loop-wanted g l = record {
  own : g.Q.SharedQueue.belongs l.queue l.pass;
  taped : IsTaped (g.Q.SharedQueue.known l.pass) l.tape.lane;
  made : (made : List Call) × AreWanted (take l.wanted-index l.calls) made
      × HasMade (g.Q.SharedQueue.known l.initial.pass) made (g.Q.SharedQueue.known l.pass)
      × (length made ≡ l.wanted-index);
}
