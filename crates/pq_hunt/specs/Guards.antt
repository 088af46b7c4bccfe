-- What the view of a lock's holder says of one of the heap's nodes.
use Rattle.pq_nodes.specs.declared.guards.Guard.{Guard as NodeGuard}
use Rattle.pq_hunt.specs.declared.nodes.Node.{Node}

abbrev pub Guard : Type 0
Guard = NodeGuard Node
