-- Where the mound's words lie behind the history word and the letters.
use Rattle.std.specs.Prelude.{ℕ, ◌+◌, ◌-◌, ◌*◌, ◌^◌, ◌%◌, Bool, ◌==◌, ◌&&◌, ◌||◌, nat_le, nat_lt}
use lib.Count.{count_leading_zeros}
use Rattle.pq_nodes.specs.Layout.{node_base, node_words, lock_of}

-- the depth, which each insert reads, lies apart from the words of the free cells, which each call writes
abbrev pub depth_word : ℕ
depth_word = 20

-- the lock over the free cells, the word that names the first of them, and how many there are
abbrev pub cells_lock : ℕ
cells_lock = 24

abbrev pub free_word : ℕ
free_word = 25

abbrev pub count_word : ℕ
count_word = 26

-- The greatest depth of a mound of this capacity, which is the number of its binary digits
abbrev pub depth_of : ℕ → ℕ
depth_of capacity = 32 - count_leading_zeros 32 capacity

-- Nodes are numbered from 1, and are one less than this
abbrev pub node_count : ℕ → ℕ
node_count capacity = 2 ^ depth_of capacity

-- The cells' words lie behind those of the nodes. Cell k, from 0 on, has its entry and its next word side by side
abbrev pub cell_base : ℕ → ℕ
cell_base capacity = node_base + node_words * node_count capacity

-- for no capacity do they begin behind this
abbrev pub max_base : ℕ
max_base = 2 ^ 24

abbrev pub entry_word : ℕ → ℕ → ℕ
entry_word capacity k = cell_base capacity + 2 * k

abbrev pub next_word : ℕ → ℕ → ℕ
next_word capacity k = cell_base capacity + 1 + 2 * k

-- how many words a mound of this capacity has
abbrev pub word_count : ℕ → ℕ
word_count capacity = cell_base capacity + 2 * capacity

-- whether a word is a lock: the cells', or that of one of its nodes
abbrev pub is_lock : ℕ → ℕ → Bool
is_lock capacity i =
    i == cells_lock || (nat_le (lock_of 1) i && (nat_lt i (cell_base capacity) && i % node_words == 0))
