-- How nodes count: what each bounds, what stands at it, and what it weighs.
use Rattle.std.proofs.Common.{◌≡◌, ℕ, ◌≤◌, List, arith}
use Rattle.std.specs.Prelude.{sum_by}
use Rattle.pq_words.specs.declared.entries.Entry.{Entry}
use Rattle.pq_words.specs.Entries.{raw_of}
use Rattle.pq_words.specs.Limits.{raw_limit}
use Rattle.pq_words.proofs.Order.{raw_of-fits}
use Rattle.pq_nodes.specs.Order.{IsOrder}
use Rattle.pq_hunt.specs.declared.nodes.Node.{Node}
use Rattle.pq_hunt.specs.declared.nodes.Node.TheVariants.{Empty, Available, Busy, Hole}
use Rattle.pq_hunt.specs.Nodes.{node, IsShape}

-- what a node asks of those below it: nothing, where it is a hole
abbrev pub bound : Node → ℕ
bound Empty = 0
bound (Available e) = raw_of e
bound (Busy o e) = raw_of e
bound (Hole e) = 0

-- what stands at a node: nothing, where it is Busy
abbrev pub stand : Node → ℕ
stand Empty = raw_limit
stand (Available e) = raw_of e
stand (Busy o e) = raw_limit
stand (Hole e) = raw_of e

-- 1 where a node is Busy
abbrev pub busy : Node → ℕ
busy Empty = 0
busy (Available e) = 0
busy (Busy o e) = 1
busy (Hole e) = 0

-- the weight of what a node adds to the multiset
abbrev pub weigh : (ℕ → ℕ) → Node → ℕ
weigh w Empty = 0
weigh w (Available e) = w (raw_of e)
weigh w (Busy o e) = 0
weigh w (Hole e) = w (raw_of e)

abbrev pub bounds : List Node → ℕ → ℕ
bounds t i = bound (node t i)

abbrev pub stands : List Node → ℕ → ℕ
stands t i = stand (node t i)

-- the shape, and the order by bounds
pub record IsHeap (size : ℕ) (t : List Node) : Type 0 where
  pub shape : IsShape size t
  pub ordered : IsOrder (bounds t) (stands t)

-- the nodes weigh what the entries of the multiset weigh, whatever weighs how much
pub record Holds (t : List Node) (m : List Entry) : Type 0 where
  pub same : (w : ℕ → ℕ) → sum_by (weigh w) t ≡ sum_by (λ (e : Entry). w (raw_of e)) m

pub bound-le : (v : Node) → bound v ≤ raw_limit
bound-le Empty = omega arith
bound-le (Available e) = let lt = raw_of-fits e in omega arith
bound-le (Busy o e) = let lt = raw_of-fits e in omega arith
bound-le (Hole e) = omega arith

pub stand-le : (v : Node) → stand v ≤ raw_limit
stand-le Empty = omega arith
stand-le (Available e) = let lt = raw_of-fits e in omega arith
stand-le (Busy o e) = omega arith
stand-le (Hole e) = let lt = raw_of-fits e in omega arith
