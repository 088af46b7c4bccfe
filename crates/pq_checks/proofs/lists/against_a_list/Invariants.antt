-- As many calls were made as the number says.
use Rattle.std.proofs.Common.{◌≡◌, length}
use Rattle.pq_checks.specs.Checks.{IsAlone}
use Rattle.pq_checks.proofs.lists.against_a_list.Given as goal

abbrev pub invariant-loop-number : goal.invariant-loop-number
invariant-loop-number g l = record {
  own : g.Q.SharedQueue.belongs l.queue l.pass;
  alone : IsAlone (g.Q.SharedQueue.known l.pass);
  count : length (g.Q.SharedQueue.known l.pass).calls ≡ l.number;
}
