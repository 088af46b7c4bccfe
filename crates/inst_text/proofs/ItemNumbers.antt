-- The item numbers of a line, read by a loop.
use Rattle.std.proofs.Common.{◌≡◌, ℕ, ◌+◌, ◌<◌, true, false, List, [], ◌∷◌, ◌++◌, length, Result, Ok, Err, is_err, refl, sym, ap, ◌∙◌, arith}
use Rattle.std.proofs.lemmas.List.{append-nil, append_assoc}
use Rattle.pq_io.specs.declared.text.fault.Cause.{Cause}
use Rattle.pq_io.specs.declared.text.fault.BadInput.{BadInput}
use Rattle.pq_io.specs.Reading.{◌>>=◌, Read, on_line, at_line_end, word_at}
use Rattle.pq_io.proofs.Binds.{ok_is}
use Rattle.inst_text.specs.Plans.{item_number_of, item_number_at, item_numbers_of}

-- numbers before those that are read
abbrev pub behind : List ℕ → Result (List ℕ) Cause → Result (List ℕ) Cause
behind prefix read = read >>= λ ns. Ok (prefix ++ ns)

abbrev read_number : Result ℕ Cause → List (List ℕ) → Result (Read ℕ (List (List ℕ))) Cause
read_number r ws = r >>= λ n. Ok (record { value = n; rest = ws })

abbrev with_number : Result ℕ Cause → (ℕ → Result (List ℕ) Cause) → Result (List ℕ) Cause
with_number r others = r >>= λ n. others n >>= λ ns. Ok (n ∷ ns)

-- one more number

prefix_grows : (prefix : List ℕ) (k : ℕ) (r : Result (List ℕ) Cause) → behind prefix (r >>= λ ns. Ok (k ∷ ns)) ≡ behind (prefix ++ k ∷ []) r
prefix_grows prefix k (Ok ns) = ap (λ (t : List ℕ). Ok t) (sym (append_assoc prefix (k ∷ []) ns))
prefix_grows prefix k (Err c) = refl

number_next : (line : ℕ) (r : Result ℕ Cause) (others : ℕ → Result (List ℕ) Cause) (ws : List (List ℕ)) (k : ℕ) (after : List (List ℕ)) (prefix : List ℕ) → on_line line (read_number r ws) ≡ Ok (record { value = k; rest = after })
    → (behind prefix (with_number r others) ≡ behind (prefix ++ k ∷ []) (others k)) × (ws ≡ after)
number_next line (Ok n) others ws k after prefix e =
    let same = ok_is (record { value = n; rest = ws }) (record { value = k; rest = after }) e in
    (prefix_grows prefix n (others n) ∙ ap (λ (x : Read ℕ (List (List ℕ))). behind (prefix ++ x.value ∷ []) (others x.value)) same, ap (λ (x : Read ℕ (List (List ℕ))). x.rest) same)
number_next line (Err c) others ws k after prefix e = absurd cc

pub record NumberNext (n low : ℕ) (ws : List (List ℕ)) (k : ℕ) (after : List (List ℕ)) (prefix : List ℕ) : Type 0 where
  pub same : behind prefix (item_numbers_of n low ws) ≡ behind (prefix ++ k ∷ []) (item_numbers_of n (k + 1) after)
  pub fewer : length after < length ws

pub number_read : (n low line : ℕ) (ws : List (List ℕ)) (k : ℕ) (after : List (List ℕ)) (prefix : List ℕ) → on_line line (item_number_at n low ws) ≡ Ok (record { value = k; rest = after }) → NumberNext n low ws k after prefix
unfolding item_number_at word_at
number_read n low line [] k after prefix e = absurd cc
number_read n low line (w ∷ ws) k after prefix e =
    let next = number_next line (item_number_of n low w) (λ m. item_numbers_of n (m + 1) ws) ws k after prefix e in
    record {
      same = next.0 ∙ ap (λ (t : List (List ℕ)). behind (prefix ++ k ∷ []) (item_numbers_of n (k + 1) t)) next.1;
      fewer = omega (arith, ap length next.1);
    }

-- a faulty one

number_stops : (line : ℕ) (r : Result ℕ Cause) (others : ℕ → Result (List ℕ) Cause) (ws : List (List ℕ)) (fault : BadInput) (prefix : List ℕ) → on_line line (read_number r ws) ≡ Err fault
    → on_line line (behind prefix (with_number r others)) ≡ Err fault
number_stops line (Ok n) others ws fault prefix e = absurd cc
number_stops line (Err c) others ws fault prefix e =
    let there : BadInput = record { line = line; cause = c } in
    let same : there ≡ fault = cc in
    ap (λ (f : BadInput). Err f) same

-- where a word is left
pub number_faulty : (n low line : ℕ) (ws : List (List ℕ)) (fault : BadInput) (prefix : List ℕ) → is_err (at_line_end ws) ≡ true → on_line line (item_number_at n low ws) ≡ Err fault
    → on_line line (behind prefix (item_numbers_of n low ws)) ≡ Err fault
unfolding item_number_at word_at at_line_end
number_faulty n low line [] fault prefix some e = absurd cc
number_faulty n low line (w ∷ ws) fault prefix some e = number_stops line (item_number_of n low w) (λ m. item_numbers_of n (m + 1) ws) ws fault prefix e

-- the end of the line
pub numbers_end : (n low : ℕ) (ws : List (List ℕ)) (prefix : List ℕ) → is_err (at_line_end ws) ≡ false → behind prefix (item_numbers_of n low ws) ≡ Ok prefix
unfolding at_line_end
numbers_end n low [] prefix none = ap (λ (t : List ℕ). Ok t) (append-nil prefix)
numbers_end n low (w ∷ ws) prefix none = absurd cc
