-- Where the heap's own words lie before those of its nodes.
use Rattle.std.specs.Prelude.{ℕ, ◌+◌, ◌*◌, ◌%◌, Bool, ◌==◌, ◌&&◌, ◌||◌, nat_le, nat_lt}
use Rattle.pq_nodes.specs.Layout.{node_base, node_words, lock_of}

-- the lock over the size, and the size: how many nodes are in use
abbrev pub heap_lock : ℕ
heap_lock = 24

abbrev pub size_word : ℕ
size_word = 25

-- how many words a heap of this capacity has
abbrev pub word_count : ℕ → ℕ
word_count capacity = node_base + node_words + node_words * capacity

-- whether a word is a lock: the heap's, or that of one of its nodes
abbrev pub is_lock : ℕ → ℕ → Bool
is_lock capacity i =
    i == heap_lock || (nat_le (lock_of 1) i && (nat_lt i (word_count capacity) && i % node_words == 0))
