-- The order of a mound in which several removers have holes.
use Rattle.std.specs.Prelude.{◌≡◌, ℕ, ◌/◌, ◌≤◌, ◌⊎◌, List, [], ◌∷◌, ◌++◌, nat_lt, if◌then◌else◌}
use Rattle.pq_words.specs.declared.entries.Entry.{Entry}
use Rattle.pq_words.specs.Entries.{raw_of}
use Rattle.pq_words.specs.Limits.{raw_limit}
use Rattle.pq_nodes.specs.Order.{IsOrder}
use Rattle.pq_mound.specs.declared.nodes.Cell.{Cell}
use Rattle.pq_mound.specs.declared.nodes.Node.{Node}
use Rattle.pq_mound.specs.declared.nodes.Node.TheVariants.{Resting, Hole, Joining}
use Rattle.pq_mound.specs.Nodes.{node, cells}

-- the value of a list is its head, and that of an empty list is above every entry
abbrev pub value_of : List Cell → ℕ
value_of [] = raw_limit
value_of (c ∷ cs) = raw_of c.entry

abbrev pub value : Node → ℕ
value v = value_of (cells v)

-- what a node asks of the value of each node below it: nothing, where it is a hole
abbrev pub bound : Node → ℕ
bound (Resting list) = value_of list
bound (Hole list) = 0
bound (Joining before c behind) = value_of (before ++ c ∷ behind)

-- No value, also that of a hole's list, is below the value of any proper ancestor, except where that ancestor is a
-- hole.
abbrev pub IsOrdered : List Node → Type 0
IsOrdered nodes = IsOrder (λ i. bound (node nodes i)) (λ i. value (node nodes i))

-- An entry may join a node's list, at its place, where the head of the list is not above it; or where the node is the
-- root or its parent's value is not above it, so that it may also be the head
abbrev pub MayJoin : List Node → ℕ → Entry → Type 0
MayJoin nodes i e = (value (node nodes i) ≤ raw_of e) ⊎ ((i ≡ 1) ⊎ (value (node nodes (i / 2)) ≤ raw_of e))

-- the cells of a list whose entries are below e, from its head on, and those from the first that is not
abbrev pub before : Entry → List Cell → List Cell
before e [] = []
before e (c ∷ cs) = if nat_lt (raw_of c.entry) (raw_of e) then c ∷ before e cs else []

abbrev pub behind : Entry → List Cell → List Cell
behind e [] = []
behind e (c ∷ cs) = if nat_lt (raw_of c.entry) (raw_of e) then behind e cs else c ∷ cs

-- A cell between these. In front of all others it is linked at once, and the list is at rest
abbrev pub put : List Cell → Cell → List Cell → Node
put [] c behind = Resting (c ∷ behind)
put (d ∷ before) c behind = Joining (d ∷ before) c behind

-- a list at rest, once the insert of this cell's entry has its place
abbrev pub joined : List Cell → Cell → Node
joined list c = put (before c.entry list) c (behind c.entry list)
