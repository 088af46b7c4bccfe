-- What ties the nodes' locks and words to the posts of all seats, between any two steps.
use Rattle.std.specs.Prelude.{◌≡◌, ℕ, List, slice_index, Contains}
use mathlib.Core.Option.{some}
use lib.ListN.{get_elem?}
use Rattle.pq_seats.specs.declared.views.Post.{Post}
use Rattle.pq_nodes.specs.declared.guards.Guard.{Guard}
use Rattle.pq_nodes.specs.Guards.{IsGuarded}
use Rattle.pq_nodes.specs.Layout.{lock_of, word_of}
use Rattle.pq_nodes.specs.Views.{HaveNodesApart}
use Rattle.pq_nodes.specs.Parts.{NodePart, kind_of}

-- the lock word and the word of each node
abbrev pub locks_in : List ℕ → ℕ → ℕ
locks_in words i = slice_index words (lock_of i)

abbrev pub words_in : List ℕ → ℕ → ℕ
words_in words i = slice_index words (word_of i)

module _ {O N : Type 0} (P : NodePart O N) where
  -- a post has guards of different nodes, of just those whose locks the seat holds
  pub record NamesNodes (p : Post O) : Type 0 where
    pub holds : (g : Guard N) → Contains (P.guards p.own) g → Contains p.locks (lock_of g.node)
    pub named : (i : ℕ) → Contains p.locks (lock_of i) → (g : Guard N) × Contains (P.guards p.own) g × (g.node ≡ i)
    pub apart : HaveNodesApart (P.guards p.own)

  -- the nodes count as their words and guards say, and each seat's post names the nodes whose locks it holds
  pub record NodeFacts (words : List ℕ) (posts : List (Post O)) (nodes : List N) : Type 0 where
    pub guarded : IsGuarded (kind_of P) (locks_in words) (words_in words) posts nodes
    pub names : (j : ℕ) (p : Post O) → get_elem? posts j ≡ some p → NamesNodes p
