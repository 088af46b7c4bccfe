-- Words among which the end of the options stands are no command's.
use Rattle.std.proofs.Common.{◌≡◌, ◌∙◌, refl, ap, Bool, true, false, ◌||◌, List, [], ◌∷◌, None, Some}
use Rattle.std.specs.List.{list_any}
use Rattle.std.specs.Str.{bytes_eq}
use Rattle.clap.specs.Walk.{Text}
use Rattle.cli_words.specs.declared.settings.Settings.{Settings}
use Rattle.cli_words.specs.Words.{◌>>=◌, with_option, with_lone, pair_name, settings_from}
use Rattle.cli_words.proofs.SayingsRead.{WordIs, IsName, IsOpen, IsWhole, word_is, named_word, open_word, whole_word}
use Rattle.cli_words.proofs.ClapRows.{bind_none, same_bytes, none_of_or}
use Rattle.cli_words.proofs.Options.{dash_option}
use Rattle.cli_words.proofs.ClapWalk.{AreNoEnds, lone_from, pair_alone, pair_from}

abbrev end : Text
end = 45 ∷ 45 ∷ []

abbrev has_end : List Text → Bool
has_end words = list_any (λ w. bytes_eq w end) words

pub no_ends_are : (words : List Text) → has_end words ≡ false → AreNoEnds words
no_ends_are [] h = tt
no_ends_are (x ∷ words) h = let b = none_of_or (bytes_eq x end) (has_end words) h in (b.0, no_ends_are words b.1)

end_pairs : pair_name end ≡ Some []
unfolding pair_name
end_pairs = refl

no_name : (s : Settings) (v : Text) → with_option s [] v ≡ None
unfolding with_option
no_name s v = refl

-- what one word leaves to the others
abbrev LeavesNone : List Text → Type 0
LeavesNone words = (s : Settings) → settings_from s words ≡ None

alone_by : (x : Text) → bytes_eq x end ≡ true → LeavesNone (x ∷ [])
alone_by x e s = pair_alone s [] x (ap pair_name (same_bytes x end e) ∙ end_pairs)

first_by : (x v : Text) (words : List Text) → bytes_eq x end ≡ true → LeavesNone (x ∷ v ∷ words)
first_by x v words e s =
    pair_from s [] x v words (ap pair_name (same_bytes x end e) ∙ end_pairs) ∙ ap (λ o. o >>= λ t. settings_from t words) (no_name s v)

-- the word is no end: what stands behind it has one
lone_leaves : (x : Text) (words : List Text) → pair_name x ≡ None → LeavesNone words → LeavesNone (x ∷ words)
lone_leaves x words alone rest s = lone_from s x words alone ∙ bind_none (with_lone s x) (λ t. settings_from t words) rest

pair_leaves : (n x v : Text) (words : List Text) (b : Bool) → bytes_eq v end ≡ b → pair_name x ≡ Some n → (b || has_end words) ≡ true → (has_end words ≡ true → LeavesNone words) →
    LeavesNone (x ∷ v ∷ words)
pair_leaves n x v words true e pair h rest s =
    pair_from s n x v words pair
    ∙ ap (λ o. o >>= λ t. settings_from t words) (ap (with_option s n) (same_bytes v end e) ∙ dash_option s n (45 ∷ []))
pair_leaves n x v words false e pair h rest s = pair_from s n x v words pair ∙ bind_none (with_option s n v) (λ t. settings_from t words) (rest h)

word_leaves : (x v : Text) (words : List Text) → WordIs x → (bytes_eq v end || has_end words) ≡ true → ((bytes_eq v end || has_end words) ≡ true → LeavesNone (v ∷ words)) →
    (has_end words ≡ true → LeavesNone words) → LeavesNone (x ∷ v ∷ words)
word_leaves x v words (IsName none) h after_one after_both = λ s. lone_leaves x (v ∷ words) (named_word s x none).0 (after_one h) s
word_leaves x v words (IsOpen n e free) h after_one after_both = pair_leaves n x v words (bytes_eq v end) refl (ap pair_name e ∙ open_word n free) h after_both
word_leaves x v words (IsWhole n w e free) h after_one after_both = λ s. lone_leaves x (v ∷ words) (ap pair_name e ∙ (whole_word s n w free).0) (after_one h) s

two_leave : (x v : Text) (words : List Text) (b : Bool) → bytes_eq x end ≡ b → (b || has_end (v ∷ words)) ≡ true → (has_end (v ∷ words) ≡ true → LeavesNone (v ∷ words)) →
    (has_end words ≡ true → LeavesNone words) → LeavesNone (x ∷ v ∷ words)
two_leave x v words true e h after_one after_both = first_by x v words e
two_leave x v words false e h after_one after_both = word_leaves x v words (word_is x) h after_one after_both

one_leaves : (x : Text) (b : Bool) → bytes_eq x end ≡ b → (b || false) ≡ true → LeavesNone (x ∷ [])
one_leaves x true e h = alone_by x e
one_leaves x false e h = absurd (cc)

pub end_leaves_none : (words : List Text) → has_end words ≡ true → LeavesNone words
end_leaves_none [] h = absurd (cc)
end_leaves_none (x ∷ []) h = one_leaves x (bytes_eq x end) refl h
end_leaves_none (x ∷ v ∷ words) h = two_leave x v words (bytes_eq x end) refl h (end_leaves_none (v ∷ words)) (end_leaves_none words)
