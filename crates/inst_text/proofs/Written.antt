-- Lines that are written, and mean a value when they are read again.
use Rattle.std.proofs.Common.{◌≡◌, ℕ, ◌+◌, ◌*◌, ◌<◌, ◌≤◌, ◌^◌, List, [], ◌∷◌, ◌++◌, length, map, decimal, refl, sym, ap, subst, ◌∙◌, arith}
use Rattle.std.specs.List.{AllByRecursion}
use Rattle.std.proofs.lemmas.List.{length-append, append_assoc}
use Rattle.std.proofs.lemmas.Fmt.{length-decimal-le}
use Rattle.pq_io.specs.Inputs.{longest_input}
use Rattle.pq_io.specs.Lines.{Line, Text, text_of}
use Rattle.pq_io.specs.Writing.{words_text, lines_text, lines_from, IsPlainLine}
use Rattle.pq_io.proofs.Plain.{text_again}
use Rattle.inst_text.specs.Several.{EachLine, Follow}

abbrev Words : Type 0
Words = List (List ℕ)

-- lengths

pub digits_at_most : (k n : ℕ) → 1 ≤ k → n < 10 ^ k → n < 2 ^ 64 → length (decimal n) ≤ k
digits_at_most k n a p q = length-decimal-le k n (omega arith) p q

pub word_length : (w : List ℕ) (ws : Words) → length (words_text (w ∷ ws)) ≤ length w + 1 + length (words_text ws)
word_length w [] = omega arith
word_length w (v ∷ ws) = omega (arith, length-append w (32 ∷ words_text (v ∷ ws)))

pub line_length : (l : Words) (ls : List Words) → length (lines_text (l ∷ ls)) ≡ length (words_text l) + 1 + length (lines_text ls)
line_length l ls = omega (arith, length-append (words_text l) (10 ∷ lines_text ls))

-- lines that can be written, of at most so many bytes, and that mean a value whatever their numbers
pub record Writes {A : Type 0} (Means : List Line → A → Type 0) (ls : List Words) (a : A) (most : ℕ) : Type 0 where
  pub plain : AllByRecursion IsPlainLine ls
  pub means : (n : ℕ) → Means (lines_from n ls) a
  pub short : length (lines_text ls) ≤ most

-- a line for each value

-- each value within limits has a line that can be written, of at most so many bytes, and means it
pub record WritesEach {A : Type 0} (Within : A → Type 0) (Means : Words → A → Type 0) (write : A → Words) (most : ℕ) : Type 0 where
  pub plain : (x : A) → Within x → IsPlainLine (write x)
  pub means : (x : A) → Within x → Means (write x) x
  pub short : (x : A) → Within x → length (words_text (write x)) < most

pub each_plain : {A : Type 0} (Within : A → Type 0) (Means : Words → A → Type 0) (write : A → Words) (most : ℕ) → WritesEach Within Means write most → (xs : List A) → AllByRecursion Within xs
    → AllByRecursion IsPlainLine (map write xs)
each_plain Within Means write most w [] all = tt
each_plain Within Means write most w (x ∷ xs) all = (w.plain x all.0, each_plain Within Means write most w xs all.1)

pub each_means : {A : Type 0} (Within : A → Type 0) (Means : Words → A → Type 0) (write : A → Words) (most : ℕ) → WritesEach Within Means write most → (n : ℕ) (xs : List A) → AllByRecursion Within xs
    → EachLine Means (lines_from n (map write xs)) xs
each_means Within Means write most w n [] all = tt
each_means Within Means write most w n (x ∷ xs) all = (w.means x all.0, each_means Within Means write most w (n + 1) xs all.1)

pub each_short : {A : Type 0} (Within : A → Type 0) (Means : Words → A → Type 0) (write : A → Words) (most : ℕ) → WritesEach Within Means write most → (xs : List A) → AllByRecursion Within xs
    → length (lines_text (map write xs)) ≤ length xs * most
each_short Within Means write most w [] all = omega arith
each_short Within Means write most w (x ∷ xs) all =
    let rest = each_short Within Means write most w xs all.1 in
    let here = w.short x all.0 in
    let more : length (x ∷ xs) * most ≡ most + length xs * most = omega arith in
    omega (arith, line_length (write x) (map write xs), rest, here, more)

-- texts

pub lines_text-append : (ls ks : List Words) → lines_text (ls ++ ks) ≡ lines_text ls ++ lines_text ks
lines_text-append [] ks = refl
lines_text-append (l ∷ ls) ks =
    ap (λ (t : List ℕ). words_text l ++ 10 ∷ t) (lines_text-append ls ks) ∙ sym (append_assoc (words_text l) (10 ∷ lines_text ls) (lines_text ks))

pub lines_from-append : (n : ℕ) (ls ks : List Words) → lines_from n (ls ++ ks) ≡ lines_from n ls ++ lines_from (n + length ls) ks
lines_from-append n [] ks = ap (λ m. lines_from m ks) (let e : n ≡ n + 0 = omega arith in e)
lines_from-append n (l ∷ ls) ks =
    let e : n + 1 + length ls ≡ n + length (l ∷ ls) = omega arith in
    ap (λ (t : List Line). record { number = n; words = l } ∷ t) (lines_from-append (n + 1) ls ks ∙ ap (λ m. lines_from (n + 1) ls ++ lines_from m ks) e)

pub plain-append : (ls ks : List Words) → AllByRecursion IsPlainLine ls → AllByRecursion IsPlainLine ks → AllByRecursion IsPlainLine (ls ++ ks)
plain-append [] ks p q = q
plain-append (l ∷ ls) ks p q = (p.0, plain-append ls ks p.1 q)

lines_again : (ls : List Words) → AllByRecursion IsPlainLine ls → (text_of (lines_text ls)).lines ≡ lines_from 1 ls
lines_again ls plain = ap (λ (t : Text). t.lines) (text_again 1 ls plain)

pub one_text : {A : Type 0} (Means : List Line → A → Type 0) (ls : List Words) (a : A) (most : ℕ) → Writes Means ls a most → Means (text_of (lines_text ls)).lines a
one_text Means ls a most w = subst (λ (t : List Line). Means t a) (sym (lines_again ls w.plain)) (w.means 1)

-- the text of the first, and the text of the second behind it
pub two_texts : {A B : Type 0} (First : List Line → A → Type 0) (Second : List Line → B → Type 0) (ls ks : List Words) (a : A) (b : B) (m n : ℕ) → Writes First ls a m → Writes Second ks b n
    → Follow First Second (text_of (lines_text ls ++ lines_text ks)).lines a b
two_texts First Second ls ks a b m n v w =
    let whole : (text_of (lines_text ls ++ lines_text ks)).lines ≡ lines_from 1 (ls ++ ks) =
    ap (λ (t : List ℕ). (text_of t).lines) (sym (lines_text-append ls ks)) ∙ lines_again (ls ++ ks) (plain-append ls ks v.plain w.plain) in
    record { prefix = lines_from 1 ls; suffix = lines_from (1 + length ls) ks; lines_are = whole ∙ lines_from-append 1 ls ks; first = v.means 1; second = w.means (1 + length ls) }

pub two_short : {A B : Type 0} (First : List Line → A → Type 0) (Second : List Line → B → Type 0) (ls ks : List Words) (a : A) (b : B) (m n : ℕ) → Writes First ls a m → Writes Second ks b n → m + n ≤ longest_input
    → length (lines_text ls ++ lines_text ks) ≤ longest_input
two_short First Second ls ks a b m n v w le = omega (arith, length-append (lines_text ls) (lines_text ks), v.short, w.short, le)
