-- What a word looks like to clap, and to the product's own reading.
use Rattle.std.proofs.Common.{◌≡◌, ◌∙◌, ◌⊎◌, inl, inr, refl, sym, ap, ℕ, ◌+◌, Bool, true, false, ◌==◌, ◌||◌, [], ◌∷◌, ◌++◌, length, take, drop, None, Some, arith}
use Rattle.std.proofs.lemmas.Bool.Decides.{nat_tests}
use Rattle.std.specs.Str.{bytes_eq}
use Rattle.clap.specs.Lexer.{long_of, short_of, has_byte, name_and_value}
use Rattle.clap.specs.Walk.{Text}
use Rattle.cli_words.specs.declared.settings.Settings.{Settings}
use Rattle.cli_words.specs.Words.{behind_dashes, with_kind}
use Rattle.cli_words.specs.Sayings.{HasNoEquals}
use Rattle.cli_words.proofs.SayingsRead.{place, nowhere, take_own, drop_own}

take_all : (n : Text) → take (length n) n ≡ n
take_all [] = refl
take_all (b ∷ bs) = ap (λ xs. b ∷ xs) (take_all bs)

no_byte : (n : Text) → HasNoEquals n → has_byte 61 n ≡ false
no_byte [] h = refl
no_byte (b ∷ bs) h = rw h.0 (no_byte bs h.1)

true_after : (b : Bool) → (b || true) ≡ true
true_after true = refl
true_after false = refl

one_byte : (n v : Text) → has_byte 61 (n ++ 61 ∷ v) ≡ true
one_byte [] v = refl
one_byte (b ∷ bs) v = rw (one_byte bs v) (true_after (b == 61))

pair_of : {A B : Type 0} (a c : A) (b d : B) → a ≡ c → b ≡ d → ◌≡◌ {A = A × B} (a, b) (c, d)
pair_of a c b d e f = ap (λ x. (x, b)) e ∙ ap (λ y. (c, y)) f

open_parts : (n : Text) → HasNoEquals n → name_and_value n ≡ (n, None)
open_parts n h = pair_of _ _ _ _ (ap (λ k. take k n) (nowhere n h) ∙ take_all n) (rw (no_byte n h) refl)

whole_parts : (n v : Text) → HasNoEquals n → name_and_value (n ++ 61 ∷ v) ≡ (n, Some v)
whole_parts n v h = pair_of _ _ _ _ (ap (λ k. take k (n ++ 61 ∷ v)) (place n v h) ∙ take_own n (61 ∷ v))
    (rw (one_byte n v) (ap (λ k. Some (drop (k + 1) (n ++ 61 ∷ v))) (place n v h) ∙ ap (λ x. Some x) (drop_own n v)))

-- an option, open or whole
pub open_long : (n : Text) → HasNoEquals n → bytes_eq (45 ∷ 45 ∷ n) (45 ∷ 45 ∷ []) ≡ false → long_of (45 ∷ 45 ∷ n) ≡ Some (n, None)
open_long [] h two = absurd (cc)
open_long (b ∷ bs) h two = ap (λ x. Some x) (open_parts (b ∷ bs) h)

pub whole_long : (n v : Text) → HasNoEquals n → long_of (45 ∷ 45 ∷ (n ++ 61 ∷ v)) ≡ Some (n, Some v)
whole_long [] v h = ap (λ x. Some x) (whole_parts [] v h)
whole_long (b ∷ bs) v h = ap (λ x. Some x) (whole_parts (b ∷ bs) v h)

-- no option
plain_bytes : (a b : ℕ) (bs : Text) (x y : Bool) → (a == 45) ≡ x → (b == 45) ≡ y → behind_dashes (a ∷ b ∷ bs) ≡ None → long_of (a ∷ b ∷ bs) ≡ None
plain_bytes a b bs true true e f h = let bad : Some bs ≡ None = sym (rw (e, f) refl) ∙ h in absurd (cc)
plain_bytes a b bs true false e f h = rw (e, f) refl
plain_bytes a b bs false y e f h = rw e refl

one_plain : (a : ℕ) (x : Bool) → (a == 45) ≡ x → long_of (a ∷ []) ≡ None
one_plain a true e = rw e refl
one_plain a false e = rw e refl

pub not_long : (w : Text) → behind_dashes w ≡ None → long_of w ≡ None
not_long [] h = refl
not_long (a ∷ []) h = one_plain a (a == 45) refl
not_long (a ∷ b ∷ bs) h = plain_bytes a b bs (a == 45) (b == 45) refl refl h

-- what begins with a dash is no value
pub dash_kind : (s : Settings) (w : Text) → with_kind s (45 ∷ w) ≡ None
unfolding with_kind
dash_kind s w = refl

dash_is : (a : ℕ) → (a == 45) ≡ true → a ≡ 45
dash_is a e = grind (arith, nat_tests)

short_two : (a b : ℕ) (bs : Text) (y : Bool) → (a == 45) ≡ true → (b == 45) ≡ y →
    (short_of (a ∷ b ∷ bs) ≡ None) ⊎ ((c : ℕ) × (flags : Text) × (a ∷ b ∷ bs ≡ 45 ∷ c ∷ flags) × (short_of (a ∷ b ∷ bs) ≡ Some (c ∷ flags)))
short_two a b bs true e f = inl (rw (e, f) refl)
short_two a b bs false e f = inr (b, bs, ap (λ x. x ∷ b ∷ bs) (dash_is a e), rw (e, f) refl)

short_by : (a : ℕ) (w : Text) (x : Bool) → (a == 45) ≡ x →
    (short_of (a ∷ w) ≡ None) ⊎ ((b : ℕ) × (flags : Text) × (a ∷ w ≡ 45 ∷ b ∷ flags) × (short_of (a ∷ w) ≡ Some (b ∷ flags)))
short_by a w false e = inl (rw e refl)
short_by a [] true e = inl (rw e refl)
short_by a (b ∷ bs) true e = short_two a b bs (b == 45) e refl

-- a word that is no option begins with a dash and more, or is plain
pub short_cases : (w : Text) → (short_of w ≡ None) ⊎ ((b : ℕ) × (flags : Text) × (w ≡ 45 ∷ b ∷ flags) × (short_of w ≡ Some (b ∷ flags)))
short_cases [] = inl refl
short_cases (a ∷ w) = short_by a w (a == 45) refl
