use Rattle.std.proofs.Common.{◌≡◌, ◌+◌, ◌≤◌, ◌++◌, List, drop, length}
use Rattle.std.specs.Prelude.{vec_capacity}
use Rattle.std.specs.Mem.Slots.{slots_items}
use Rattle.pq_hunt.specs.declared.nodes.Node.{Node}
use Rattle.pq_hunt.specs.Nodes.{standing}
use Rattle.pq_hunt.specs.Queues.{SayNodes}
use Rattle.pq_hunt.proofs.queue.gather.Given as goal

abbrev pub invariant-loop-i : goal.invariant-loop-i
invariant-loop-i l = record {
  kept : (nodes : List Node) → SayNodes l.capacity (slots_items l.closed.words) nodes
      → l.left.items ++ standing (drop (l.i + 1) nodes) ≡ standing nodes;
  count : length l.left.items ≤ l.i;
  room : l.capacity ≤ vec_capacity l.left;
}
