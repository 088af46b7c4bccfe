-- Lists in the words of their cells. Each cell has an entry word and a next word. A word that names a cell is its
-- number
-- plus 1, and 0 names none.
use Rattle.std.specs.Prelude.{◌≡◌, ℕ, ◌+◌, List, [], ◌∷◌, All}
use Rattle.pq_words.specs.Entries.{raw_of}
use Rattle.pq_mound.specs.declared.nodes.Cell.{Cell}
use Rattle.pq_mound.specs.declared.nodes.Node.{Node}
use Rattle.pq_mound.specs.declared.nodes.Node.TheVariants.{Resting, Hole, Joining}
use Rattle.pq_mound.specs.Nodes.{node, cells, numbers}

-- the word that names the first of these cells, or this word where there is none
abbrev pub first_or : List ℕ → ℕ → ℕ
first_or [] last = last
first_or (n ∷ ns) last = n + 1

-- the next words lead through these cells, and from the last of them to this word
abbrev pub IsChain : (ℕ → ℕ) → List ℕ → ℕ → Type 0
IsChain nexts [] last = Unit {0}
IsChain nexts (n ∷ ns) last = (nexts n ≡ first_or ns last) × IsChain nexts ns last

-- The next words lead through a node's list, from its head on. A cell that is joining is passed over by those before
-- it, and leads to those behind it.
abbrev pub IsLinked : (ℕ → ℕ) → Node → Type 0
IsLinked nexts (Resting list) = IsChain nexts (numbers list) 0
IsLinked nexts (Hole list) = IsChain nexts (numbers list) 0
IsLinked nexts (Joining before c behind) =
    IsChain nexts (numbers before) (first_or (numbers behind) 0) × IsChain nexts (numbers (c ∷ behind)) 0

-- all lists are linked, and each cell of a list has its entry in its entry word
pub record AreLinked (entries nexts : ℕ → ℕ) (nodes : List Node) : Type 0 where
  pub linked : (i : ℕ) → IsLinked nexts (node nodes i)
  pub stored : (i : ℕ) → All (λ (c : Cell). entries c.number ≡ raw_of c.entry) (cells (node nodes i))
