-- The words that are in use.
use Rattle.std.proofs.Common.{◌≡◌, ℕ, ◌+◌, ◌<◌, ◌≤◌, [], ◌∷◌, ◌++◌, refl, sym, length, take, get_or, arith}
use Rattle.std.proofs.lemmas.List.{length-take-le, get_or-take}
use Rattle.bb_knap.specs.declared.full_words.FullWords.{FullWords}
use Rattle.bb_knap.specs.declared.full_words.FullWords.TheVariants.{Zero, One, More}
use Rattle.bb_knap.specs.Decisions.{words_of, IsFullWords}

pub in_use-le : (n : ℕ) (full : FullWords) → IsFullWords n full → n ≤ length (words_of full)
in_use-le n Zero is = omega (arith, is)
in_use-le n (One word) is = omega (arith, is)
in_use-le n (More words) is = omega (arith, is.1, is.2)

pub length-in_use : (n : ℕ) (full : FullWords) → IsFullWords n full → length (take n (words_of full)) ≡ n
length-in_use n full is = length-take-le n (words_of full) (in_use-le n full is)

pub get_or-in_use : (n : ℕ) (full : FullWords) (k : ℕ) → k < n → get_or (words_of full) k 0 ≡ get_or (take n (words_of full)) k 0
get_or-in_use n full k lt = sym (get_or-take n (words_of full) k 0 lt)

-- words come to be in use only where there are none, one or more
pub first-in_use : (n word : ℕ) → n ≡ 0 → take (n + 1) (word ∷ []) ≡ take n [] ++ word ∷ []
first-in_use n word e = rw e refl
