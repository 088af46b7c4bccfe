-- The nodes of a mound, each as what it counts as. The list of them has a place 0, which stands for no node and has no
-- cells, and what is past the end of the list has none.
use Rattle.std.specs.Prelude.{ℕ, List, [], ◌∷◌, ◌++◌, map, flat_map}
use lib.ListN.{get_or}
use Rattle.pq_words.specs.declared.entries.Entry.{Entry}
use Rattle.pq_mound.specs.declared.nodes.Cell.{Cell}
use Rattle.pq_mound.specs.declared.nodes.Node.{Node}
use Rattle.pq_mound.specs.declared.nodes.Node.TheVariants.{Resting, Hole, Joining}

-- the node with this number
abbrev pub node : List Node → ℕ → Node
node nodes i = get_or nodes i (Resting [])

-- the cells that a node counts with, from the head of its list on
abbrev pub cells : Node → List Cell
cells (Resting list) = list
cells (Hole list) = list
cells (Joining before c behind) = before ++ c ∷ behind

-- the cells of all lists
abbrev pub all_cells : List Node → List Cell
all_cells nodes = flat_map cells nodes

abbrev pub entries : List Cell → List Entry
entries cs = map (λ (c : Cell). c.entry) cs

abbrev pub numbers : List Cell → List ℕ
numbers cs = map (λ (c : Cell). c.number) cs

abbrev pub cell : ℕ → Entry → Cell
cell number entry = record { number = number; entry = entry }
