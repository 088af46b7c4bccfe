-- What ties the mound's words, the seats' posts and the multiset together, between any two steps.
use Rattle.std.specs.Prelude.{◌≡◌, ℕ, ◌<◌, ◌≤◌, List, [], length, slice_index, flat_map, Some, None, Contains}
use mathlib.Core.Option.{some}
use lib.ListN.{get_elem?}
use Rattle.pq_words.specs.declared.entries.Entry.{Entry}
use Rattle.pq_words.specs.Limits.{raw_limit}
use Rattle.pq_model.specs.Limits.{max_seats}
use Rattle.pq_seats.specs.declared.views.Limits.{Limits}
use Rattle.pq_seats.specs.declared.views.Post.{Post}
use Rattle.pq_nodes.specs.Facts.{words_in, NodeFacts}
use Rattle.pq_mound.specs.declared.nodes.Node.{Node}
use Rattle.pq_mound.specs.declared.views.OwnCell.{OwnCell}
use Rattle.pq_mound.specs.declared.views.MoundPart.{MoundPart}
use Rattle.pq_mound.specs.Chains.{first_or, IsChain, AreLinked}
use Rattle.pq_mound.specs.Facts.{MoundFacts}
use Rattle.pq_mound.specs.Layout.{depth_word, cells_lock, free_word, count_word, depth_of, node_count}
use Rattle.pq_mound.specs.Layout.{entry_word, next_word, word_count}
use Rattle.pq_mound.specs.NodeParts.{mound_nodes}
use Rattle.pq_mound.specs.Views.{held_number}

-- the entry word and the next word of each cell
abbrev pub entries_in : ℕ → List ℕ → ℕ → ℕ
entries_in capacity words k = slice_index words (entry_word capacity k)

abbrev pub nexts_in : ℕ → List ℕ → ℕ → ℕ
nexts_in capacity words k = slice_index words (next_word capacity k)

-- the cells that seats hold
abbrev pub held_by : List (Post MoundPart) → List ℕ
held_by posts = flat_map (λ (p : Post MoundPart). held_number p.own.held) posts

-- The free cells are chained from their word on, and counted. Their count stands in its word, or is as the view names
-- it
-- of the seat that holds the cells' lock
pub record IsFreeList (capacity : ℕ) (words : List ℕ) (posts : List (Post MoundPart)) (free : List ℕ) : Type 0 where
  pub chained : IsChain (nexts_in capacity words) free 0
  pub starts : slice_index words free_word ≡ first_or free 0
  pub counted : slice_index words cells_lock ≡ 0 → slice_index words count_word ≡ length free
  pub named : (j : ℕ) (p : Post MoundPart) → get_elem? posts j ≡ some p → Contains p.locks cells_lock
      → (p.own.free ≡ free) × (p.own.count ≡ slice_index words count_word)

-- each word is in its range, of whatever node or cell it is, and whoever holds a lock
pub record AreRanged (capacity : ℕ) (words : List ℕ) : Type 0 where
  pub shallow : 1 ≤ slice_index words depth_word
  pub deep : slice_index words depth_word ≤ depth_of capacity
  pub nodes : (i : ℕ) → i < node_count capacity → words_in words i ≤ capacity
  pub entries : (k : ℕ) → k < capacity → entries_in capacity words k < raw_limit

-- What a seat's post says beside its guards: it has no insert in flight and owes no letter, since each call of the
-- mound
-- is placed by its own seat. The cell that it holds has the words that it names
pub record IsAlone (capacity : ℕ) (words : List ℕ) (p : Post MoundPart) : Type 0 where
  pub quiet : p.flight ≡ None
  pub owes : p.owed ≡ []
  pub holds : (c : OwnCell) → p.own.held ≡ Some c
      → (entries_in capacity words c.number ≡ c.entry) × (nexts_in capacity words c.number ≡ c.next)

pub record MoundTied (k : Limits) (words : List ℕ) (posts : List (Post MoundPart)) (m : List Entry) : Type 0 where
  pub long : length words ≡ word_count k.capacity
  pub seated : (1 ≤ k.seats) × (k.seats ≤ k.capacity)
  pub free : List ℕ
  pub nodes : List Node
  pub whole : length nodes ≡ node_count k.capacity
  -- the nodes count as their words say, and those that are locked as the views name them
  pub tree : NodeFacts mound_nodes words posts nodes
  pub facts : MoundFacts k.capacity free (held_by posts) nodes m
  -- the lists in the words of their cells, locked or not
  pub linked : AreLinked (entries_in k.capacity words) (nexts_in k.capacity words) nodes
  pub cells : IsFreeList k.capacity words posts free
  pub ranged : AreRanged k.capacity words
  pub alone : (j : ℕ) (p : Post MoundPart) → get_elem? posts j ≡ some p → IsAlone k.capacity words p
  -- no letter is written
  pub unwritten : (n : ℕ) → 0 < n → n ≤ max_seats → slice_index words n ≡ 0
