-- The lock word and the word of each node, after a step on one word of a table.
use Rattle.std.proofs.Common.{◌≡◌, ℕ, ◌<◌, List, length, set, arith, get_or-set_same, get_or-set_other}
use Rattle.pq_nodes.specs.Guards.{IsSetAt}
use Rattle.pq_nodes.specs.Layout.{lock_of, word_of}
use Rattle.pq_nodes.specs.Facts.{locks_in, words_in}

-- a node's lock word, and a node's word, is set
pub lock_set : (words : List ℕ) (i x : ℕ) → lock_of i < length words → IsSetAt (locks_in words) (locks_in (set words (lock_of i) x)) i x
lock_set words i x within = record {
  own = get_or-set_same words (lock_of i) x 0 within;
  others = λ j ne. get_or-set_other words (lock_of i) (lock_of j) x 0 (λ e. ne (omega arith));
}

pub words_stay : (words : List ℕ) (i x : ℕ) → words_in (set words (lock_of i) x) ≡ words_in words
words_stay words i x = λ j n. get_or-set_other words (lock_of i) (word_of n) x 0 (λ e. omega arith) j

pub word_set : (words : List ℕ) (i x : ℕ) → word_of i < length words → IsSetAt (words_in words) (words_in (set words (word_of i) x)) i x
word_set words i x within = record {
  own = get_or-set_same words (word_of i) x 0 within;
  others = λ j ne. get_or-set_other words (word_of i) (word_of j) x 0 (λ e. ne (omega arith));
}

pub locks_stay : (words : List ℕ) (i x : ℕ) → locks_in (set words (word_of i) x) ≡ locks_in words
locks_stay words i x = λ j n. get_or-set_other words (word_of i) (lock_of n) x 0 (λ e. omega arith) j

-- a word before the nodes
pub same_locks : (words : List ℕ) (i x : ℕ) → i < 32 → (n : ℕ) → locks_in (set words i x) n ≡ locks_in words n
same_locks words i x low n = get_or-set_other words i (lock_of n) x 0 (λ e. omega arith)

pub same_words : (words : List ℕ) (i x : ℕ) → i < 32 → (n : ℕ) → words_in (set words i x) n ≡ words_in words n
same_words words i x low n = get_or-set_other words i (word_of n) x 0 (λ e. omega arith)
