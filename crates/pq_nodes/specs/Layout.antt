-- Where the nodes' words lie behind the history word, the letters, and some words of the queue's own.
use Rattle.std.specs.Prelude.{ℕ, ◌+◌, ◌*◌, ◌^◌}

-- Nodes lie this many words apart, so that the children 2 i and 2 i + 1 of a node share a line of eight words.
abbrev pub node_words : ℕ
node_words = 4

-- The nodes' words are counted from here. No node has the number 0, so that node 1 is the first behind it.
abbrev pub node_base : ℕ
node_base = 32

-- the lock and the word of a node up to this have indices below 2 ^ 32
abbrev pub max_node : ℕ
max_node = 2 ^ 28

-- node i, from 1 on, has its lock and its word here
abbrev pub lock_of : ℕ → ℕ
lock_of i = node_base + node_words * i

abbrev pub word_of : ℕ → ℕ
word_of i = node_base + 1 + node_words * i
