-- What a heap keeps between any two steps. A locked node counts with the value that its holder's view names, and the
-- size as the view of the seat that holds the heap's lock names it.
use Rattle.std.specs.Prelude.{◌≡◌, ℕ, ◌+◌, List, length}
use Rattle.pq_words.specs.declared.entries.Entry.{Entry}
use Rattle.pq_model.specs.declared.marks.Mark.{Mark}
use Rattle.pq_model.specs.Multiset.{sorted_of}
use Rattle.pq_model.specs.History.{IsLegalFrom, left_from}
use Rattle.pq_hunt.specs.declared.nodes.Node.{Node}
use Rattle.pq_hunt.specs.Nodes.{standing, IsShape}
use Rattle.pq_hunt.specs.Order.{IsOrdered}
use Rattle.pq_hunt.specs.Flights.{Flight, IsFlown}

-- the facts of a heap with this capacity and size, these flights and nodes, and the multiset m
pub record HeapFacts (seats capacity size : ℕ) (of : ℕ → Flight) (nodes : List Node) (m : List Entry) : Type 0 where
  pub long : length nodes ≡ capacity + 1
  pub shape : IsShape size nodes  -- fact 1
  pub ordered : IsOrdered nodes  -- fact 2
  pub holds : m ≡ sorted_of (standing nodes)  -- fact 3: the multiset is the Available entries and the entries in hand
  pub flown : IsFlown seats of nodes  -- fact 4

-- the marks are steps from the multiset m, and with the multiset that they leave the facts hold of these nodes
pub record StepsTo (seats capacity size : ℕ) (of : ℕ → Flight) (nodes : List Node) (m : List Entry) (marks : List Mark)
    : Type 0 where
  pub legal : IsLegalFrom seats capacity m marks
  pub facts : HeapFacts seats capacity size of nodes (left_from m marks)
