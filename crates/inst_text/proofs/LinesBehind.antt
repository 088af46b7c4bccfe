-- The lines of a text that ends with a line feed, and behind them the lines of another text.
use Rattle.std.proofs.Common.{◌≡◌, ℕ, ◌+◌, List, [], ◌∷◌, ◌++◌, length, refl, sym, ap, ◌∙◌, arith, inl, inr, eqb}
use Rattle.std.proofs.lemmas.Bool.{cases_Bool}
use Rattle.std.proofs.lemmas.List.{append-nil}
use Rattle.pq_io.specs.Lines.{Line, Text, onto_first, lines, without_return, words, is_skipped, numbered, text_of}
use Rattle.pq_io.specs.Writing.{lines_text, lines_from}
use Rattle.pq_io.proofs.Lines.{lines_feed, lines_byte}
use Rattle.pq_io.proofs.Plain.{text_again}
use Rattle.inst_text.specs.Several.{Follow}
use Rattle.inst_text.proofs.Written.{Writes}

-- the lines up to the last line feed, of which there is one at least
record FedLines (bytes : List ℕ) : Type 0 where
  first : List ℕ
  others : List (List ℕ)
  behind : (more : List ℕ) → lines (bytes ++ 10 ∷ more) ≡ first ∷ (others ++ lines more)

fed_lines : (bytes : List ℕ) → FedLines bytes
fed_lines [] = record { first = []; others = []; behind = λ more. lines_feed 10 more refl }
fed_lines (b ∷ bs) =
    let l = fed_lines bs in
    elim (cases_Bool (eqb b 10)) as (λ _. FedLines (b ∷ bs)) [
      | inl feed ↦ record {
        first = [];
        others = l.first ∷ l.others;
        behind = λ more. lines_feed b (bs ++ 10 ∷ more) feed ∙ ap (λ (t : List (List ℕ)). [] ∷ t) (l.behind more);
      }
      | inr byte ↦ record {
        first = b ∷ l.first;
        others = l.others;
        behind = λ more. lines_byte b (bs ++ 10 ∷ more) byte ∙ ap (onto_first b) (l.behind more);
      }
    ]

lines_behind : (bytes more : List ℕ) → lines (bytes ++ 10 ∷ more) ≡ lines (bytes ++ 10 ∷ []) ++ lines more
lines_behind bytes more =
    let l = fed_lines bytes in
    let alone : lines (bytes ++ 10 ∷ []) ≡ l.first ∷ l.others = l.behind [] ∙ ap (λ (t : List (List ℕ)). l.first ∷ t) (append-nil l.others) in
    l.behind more ∙ sym (ap (λ (t : List (List ℕ)). t ++ lines more) alone)

-- lines behind others are numbered on
numbered-append : (n : ℕ) (xs ys : List (List ℕ)) → numbered n (xs ++ ys) ≡ numbered n xs ++ numbered (n + length xs) ys
numbered-append n [] ys = ap (λ k. numbered k ys) (let e : n ≡ n + 0 = omega arith in e)
numbered-append n (x ∷ xs) ys =
    let here : Line = record { number = n; words = words (without_return x) } in
    let on : numbered (n + 1 + length xs) ys ≡ numbered (n + length (x ∷ xs)) ys = ap (λ k. numbered k ys) (let e : n + 1 + length xs ≡ n + length (x ∷ xs) = omega arith in e) in
    let rest : numbered (n + 1) (xs ++ ys) ≡ numbered (n + 1) xs ++ numbered (n + length (x ∷ xs)) ys = numbered-append (n + 1) xs ys ∙ ap (λ (t : List Line). numbered (n + 1) xs ++ t) on in
    elim (cases_Bool (is_skipped (words (without_return x)))) [
      | inl skip ↦ rw skip rest
      | inr found ↦ rw found (ap (λ (t : List Line). here ∷ t) rest)
    ]

-- Behind any text of the first that ends with a line feed stands the text of the second.
pub text_behind : {A B : Type 0} (First : List Line → A → Type 0) (Second : List Line → B → Type 0) (bytes : List ℕ) (ks : List (List (List ℕ))) (a : A) (b : B) (most : ℕ)
    → First (text_of (bytes ++ 10 ∷ [])).lines a → Writes Second ks b most → Follow First Second (text_of (bytes ++ 10 ∷ lines_text ks)).lines a b
text_behind First Second bytes ks a b most first w =
    let prefix = lines (bytes ++ 10 ∷ []) in
    let next : ℕ = 1 + length prefix in
    let suffix : numbered next (lines (lines_text ks)) ≡ lines_from next ks = ap (λ (t : Text). t.lines) (text_again next ks w.plain) in
    record {
      prefix = numbered 1 prefix;
      suffix = lines_from next ks;
      lines_are =
          ap (numbered 1) (lines_behind bytes (lines_text ks))
          ∙ numbered-append 1 prefix (lines (lines_text ks))
          ∙ ap (λ (t : List Line). numbered 1 prefix ++ t) suffix;
      first = first;
      second = w.means next;
    }
