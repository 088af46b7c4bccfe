-- The lines of a proof that were read, and those that are found where they are spelled.
use Rattle.std.proofs.Common.{◌≡◌, ℕ, ◌≤◌, Bool, true, false, cond, List, [], ◌∷◌, ◌++◌, length, codes, Result, Ok, Err, refl, sym, ap, subst, ◌∙◌, arith}
use Rattle.std.specs.Str.{bytes_eq}
use Rattle.pq_io.specs.declared.text.fault.Cause.{Cause}
use Rattle.pq_io.specs.declared.text.fault.Cause.TheVariants.{Word}
use Rattle.pq_io.specs.Lines.{Line, Text}
use Rattle.pq_io.specs.Reading.{◌>>=◌, Read, number_at, word_at, after_word, at_line_end, line_at}
use Rattle.pq_io.proofs.Binds.{ok_is, bind_ok}
use Rattle.pq_io.proofs.Taken.{same_word, word_first, number_taken, number_found, fixed_taken, fixed_found, line_ends, end_found, line_taken, line_found}
use Rattle.inst_text.specs.Several.{EachLine}
use Rattle.inst_text.specs.Plans.{SpellsStated}
use Rattle.inst_text.proofs.OneByOne.{EachReads, prefix_then, lines_taken, lines_found}
use Rattle.inst_text.proofs.PlanLines.{same_state}
use Rattle.inst_text.proofs.Readers.{Prefix, IsReader}
use Rattle.bb_proof.specs.Tokens.{proof_limit}
use Rattle.bb_proof.specs.Texts.{count_of, token_in, token_of, tokens_at, proof_at, SpellsToken, SpellProof}

abbrev Words : Type 0
Words = List (List ℕ)

-- how many there are

record CountTaken (words : Words) (n : ℕ) : Type 0 where
  spells : SpellsStated (codes "proof") words n
  some : 1 ≤ n
  few : n ≤ proof_limit

count_taken : (words : Words) (n : ℕ) → count_of words ≡ Ok n → CountTaken words n
unfolding count_of
count_taken words n e =
    let a = bind_ok (after_word (codes "proof") words) (λ rest. number_at 1 proof_limit rest >>= λ count. at_line_end count.rest >>= λ end. Ok count.value) n e in
    let b = bind_ok (number_at 1 proof_limit a.0) (λ count. at_line_end count.rest >>= λ end. Ok count.value) n a.2 in
    let z = bind_ok (at_line_end b.0.rest) (λ end. Ok b.0.value) n b.2 in
    let v = number_taken 1 proof_limit a.0 b.0 b.1 in
    let last : b.0.rest ≡ [] = line_ends b.0.rest z.0 z.1 in
    let whole : codes "proof" ∷ v.word ∷ [] ≡ words = sym (fixed_taken (codes "proof") words a.0 a.1 ∙ ap (λ (t : Words). codes "proof" ∷ t) (v.first ∙ ap (λ (t : Words). v.word ∷ t) last)) in
    let here : SpellsStated (codes "proof") words b.0.value = subst (λ (t : Words). SpellsStated (codes "proof") t b.0.value) whole (refl, v.spells) in
    subst (λ k. CountTaken words k) (ok_is b.0.value n z.2) (record { spells = here; some = v.above; few = v.below })

count_found : (words : Words) (n : ℕ) → SpellsStated (codes "proof") words n → 1 ≤ n → n ≤ proof_limit → count_of words ≡ Ok n
unfolding count_of
count_found [] n spells some few = absurd spells
count_found (v ∷ []) n spells some few = absurd spells
count_found (v ∷ w ∷ []) n spells some few =
    rw (spells.0, fixed_found (codes "proof") (w ∷ []), number_found 1 proof_limit w [] n spells.1 some few, end_found) refl
count_found (v ∷ w ∷ x ∷ ws) n spells some few = absurd spells

-- a token

token_taken_by : (word : List ℕ) (token b c : Bool) → bytes_eq word (codes "b") ≡ b → bytes_eq word (codes "c") ≡ c → cond b (Ok true) (cond c (Ok false) (Err Word)) ≡ Ok token → SpellsToken (word ∷ []) token
token_taken_by word token true c eb ec e = subst (λ t. SpellsToken (word ∷ []) t) (ok_is true token e) (same_word word (codes "b") eb)
token_taken_by word token false true eb ec e = subst (λ t. SpellsToken (word ∷ []) t) (ok_is false token e) (same_word word (codes "c") ec)
token_taken_by word token false false eb ec e = absurd (cc)

token_taken : (words : Words) (token : Bool) → token_of words ≡ Ok token → SpellsToken words token
unfolding token_of
token_taken words token e =
    let a = bind_ok (word_at words) (λ word. token_in word.value >>= λ t. at_line_end word.rest >>= λ end. Ok t) token e in
    let b = bind_ok (token_in a.0.value) (λ t. at_line_end a.0.rest >>= λ end. Ok t) token a.2 in
    let z = bind_ok (at_line_end a.0.rest) (λ end. Ok b.0) token b.2 in
    let whole : a.0.value ∷ [] ≡ words = sym (word_first words a.0 a.1 ∙ ap (λ (t : Words). a.0.value ∷ t) (line_ends a.0.rest z.0 z.1)) in
    let here : SpellsToken (a.0.value ∷ []) b.0 = token_taken_by a.0.value b.0 (bytes_eq a.0.value (codes "b")) (bytes_eq a.0.value (codes "c")) refl refl b.1 in
    subst (λ t. SpellsToken words t) (ok_is b.0 token z.2) (subst (λ (t : Words). SpellsToken t b.0) whole here)

token_found : (words : Words) (token : Bool) → SpellsToken words token → token_of words ≡ Ok token
unfolding token_of word_at at_line_end
token_found [] token spells = absurd spells
token_found (w ∷ []) true spells = rw spells refl
token_found (w ∷ []) false spells = rw spells refl
token_found (v ∷ w ∷ ws) token spells = absurd spells

abbrev token_reader : Unit {0} → Words → Result Bool Cause
token_reader s = token_of

tokens_are : (ls : List Line) (tokens : List Bool) → EachReads token_reader same_state tt ls tokens → EachLine SpellsToken ls tokens
tokens_are [] [] each = tt
tokens_are [] (t ∷ ts) each = absurd each
tokens_are (l ∷ ls) [] each = absurd each
tokens_are (l ∷ ls) (t ∷ ts) each = (token_taken l.words t each.0, tokens_are ls ts each.1)

tokens_read : (ls : List Line) (tokens : List Bool) → EachLine SpellsToken ls tokens → EachReads token_reader same_state tt ls tokens
tokens_read [] [] each = tt
tokens_read [] (t ∷ ts) each = absurd each
tokens_read (l ∷ ls) [] each = absurd each
tokens_read (l ∷ ls) (t ∷ ts) each = (token_found l.words t each.0, tokens_read ls ts each.1)

-- a proof

-- lines that spell a proof within its limits
pub record MeansProof (lines : List Line) (tokens : List Bool) : Type 0 where
  pub spell : SpellProof lines tokens
  pub some : 1 ≤ length tokens
  pub few : length tokens ≤ proof_limit

pub record CountWithin (n : ℕ) : Type 0 where
  pub some : 1 ≤ n
  pub few : n ≤ proof_limit

pub count_fits : (text : Text) (x : Read ℕ Text) → line_at count_of text ≡ Ok x → CountWithin x.value
count_fits text x e =
    let l = line_taken count_of text x e in
    let t = count_taken l.line.words x.value l.value in
    record { some = t.some; few = t.few }

proof_taken : (text : Text) (x : Read (List Bool) Text) → proof_at text ≡ Ok x → Prefix MeansProof text x
unfolding proof_at
proof_taken text x e =
    let a = bind_ok (line_at count_of text) (λ count. tokens_at count.value count.rest) x e in
    let k = line_taken count_of text a.0 a.1 in
    let v = count_taken k.line.words a.0.value k.value in
    let ls = lines_taken token_reader same_state a.0.value tt a.0.rest x a.2 in
    let count : a.0.value ≡ length x.value = sym ls.count in
    record {
      lines = k.line ∷ ls.lines;
      first = prefix_then k.line text.lines a.0.rest.lines ls.lines x.rest.lines k.first ls.first;
      means = record {
        spell = (subst (λ n. SpellsStated (codes "proof") k.line.words n) count v.spells, tokens_are ls.lines x.value ls.each);
        some = omega (arith, v.some, count);
        few = omega (arith, v.few, count);
      };
    }

proof_found : (lines rest : List Line) (end : ℕ) (tokens : List Bool) → MeansProof lines tokens → proof_at (record { lines = lines ++ rest; end = end }) ≡ Ok (record { value = tokens; rest = record { lines = rest; end = end } })
unfolding proof_at
proof_found [] rest end tokens m = absurd m.spell
proof_found (l ∷ ls) rest end tokens m =
    rw (
      line_found count_of l (ls ++ rest) end (length tokens) (count_found l.words (length tokens) m.spell.0 m.some m.few),
      lines_found token_reader same_state tt ls tokens rest end (tokens_read ls tokens m.spell.1),
    ) refl

pub proof_read : IsReader proof_at MeansProof
proof_read = record { taken = proof_taken; found = proof_found }

-- so what is read is a proof within its limits
pub tokens_count : (n : ℕ) (text : Text) (x : Read (List Bool) Text) → tokens_at n text ≡ Ok x → length x.value ≡ n
tokens_count n text x e = (lines_taken token_reader same_state n tt text x e).count
