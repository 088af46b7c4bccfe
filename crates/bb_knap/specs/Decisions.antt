-- Decisions kept as the bits of words.
use Rattle.std.specs.Prelude.{ℕ, zero, suc, ◌≡◌, ◌<◌, ◌≤◌, ◌/◌, ◌%◌, ◌^◌}
use Rattle.std.specs.Prelude.{List, [], ◌∷◌, ◌++◌, length, take}
use Rattle.inst_text.specs.Limits.{max_items}
use Rattle.bb_knap.specs.declared.full_words.FullWords.{FullWords}
use Rattle.bb_knap.specs.declared.full_words.FullWords.TheVariants.{Zero, One, More}

-- how many words hold a decision on each item
abbrev pub word_limit : ℕ
word_limit = max_items / 64

-- a word's n lowest bits, the highest first
unfoldable pub word_bits : ℕ → ℕ → List ℕ
word_bits zero word = []
word_bits (suc n) word = word_bits n (word / 2) ++ (word % 2) ∷ []

-- the 64 bits of each word
unfoldable pub all_bits : List ℕ → List ℕ
all_bits [] = []
all_bits (w ∷ ws) = word_bits 64 w ++ all_bits ws

-- the words, in use or not
abbrev pub words_of : FullWords → List ℕ
words_of Zero = []
words_of (One word) = word ∷ []
words_of (More words) = words.value

-- so many words are in use
abbrev pub IsFullWords : ℕ → FullWords → Type 0
IsFullWords n Zero = n ≡ 0
IsFullWords n (One word) = n ≡ 1
IsFullWords n (More words) = (2 ≤ n) × (n ≤ word_limit) × (length words.value ≡ word_limit)

-- the decisions that these words keep, the last one in part
abbrev pub decisions_in : FullWords → ℕ → ℕ → List ℕ
decisions_in full last count = all_bits (take (count / 64) (words_of full)) ++ word_bits (count % 64) last

-- the words keep so many decisions
pub record AreDecisions (words : FullWords) (part count : ℕ) : Type 0 where
  pub full : IsFullWords (count / 64) words
  pub last : part < 2 ^ (count % 64)
  pub few : count ≤ max_items
