-- The acts before this one were made, and answered so.
use Rattle.std.proofs.Common.{◌≡◌, ◌≤◌, length, take}
use Rattle.pq_checks.specs.Checks.{IsAlone, answered_from}
use Rattle.pq_checks.proofs.answers.make_all.Given as goal

abbrev pub invariant-loop-number : goal.invariant-loop-number
invariant-loop-number g l = record {
  own : g.Q.SharedQueue.belongs l.queue l.pass;
  alone : IsAlone (g.Q.SharedQueue.known l.pass);
  made : (g.Q.SharedQueue.known l.pass).calls ≡ answered_from 0 (take l.number l.acts) (take l.number l.replies);
  count : length (g.Q.SharedQueue.known l.pass).calls ≡ l.number;
  within : l.number ≤ length l.replies;
}
