-- What the word of a node says that the node counts as.
use Rattle.std.specs.Prelude.{◌≡◌, ℕ}
use Rattle.pq_words.specs.declared.entries.Entry.{Entry}
use Rattle.pq_words.specs.declared.heap_words.Tag.{Tag}
use Rattle.pq_words.specs.declared.heap_words.Tag.TheVariants as tags
use Rattle.pq_words.specs.declared.heap_words.HeapWord.{HeapWord}
use Rattle.pq_words.specs.HeapWords.{FitsHeapWord, heap_number}
use Rattle.pq_hunt.specs.declared.nodes.Node.{Node}
use Rattle.pq_hunt.specs.declared.nodes.Node.TheVariants.{Empty, Available, Busy}

abbrev pub node_with : Tag → ℕ → Entry → Node
node_with tags.Empty owner e = Empty
node_with tags.Available owner e = Available e
node_with tags.Busy owner e = Busy owner e

-- the node that a word says
abbrev pub node_of : HeapWord → Node
node_of w = node_with w.tag w.owner w.entry

-- The word, a number, says that its node counts as v. No word says so of a hole.
pub record Means (v : Node) (word : ℕ) : Type 0 where
  pub packed : HeapWord
  pub fits : FitsHeapWord packed
  pub number : heap_number packed ≡ word
  pub node : node_of packed ≡ v
