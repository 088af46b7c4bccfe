-- Values that are read one after the other: by a loop, and from one line each.
use Rattle.std.proofs.Common.{◌≡◌, ℕ, zero, suc, ◌+◌, ◌-◌, ◌<◌, ◌≤◌, List, [], ◌∷◌, ◌++◌, length, Result, Ok, Err, refl, sym, ap, subst, ◌∙◌, arith}
use Rattle.std.proofs.lemmas.List.{append-nil}
use Rattle.pq_io.specs.declared.text.fault.Cause.{Cause}
use Rattle.pq_io.specs.declared.text.fault.BadInput.{BadInput}
use Rattle.pq_io.specs.declared.text.fault.ReadRefusal.{ReadRefusal}
use Rattle.pq_io.specs.declared.text.fault.ReadRefusal.TheVariants as refusals
use Rattle.pq_io.specs.Lines.{Line, Text}
use Rattle.pq_io.specs.Reading.{◌>>=◌, Read, Refuses, at_line_end, on_line, line_at}
use Rattle.pq_io.proofs.Binds.{ok_is, bind_ok, with_prefix, prefix_grows}
use Rattle.pq_io.proofs.Taken.{line_taken, line_found}
use Rattle.inst_text.specs.Several.{several, with_line}

-- a loop

-- one more value
pub goes_on : {S A Rest E : Type 0} (read : S → Rest → Result (Read A Rest) E) (next : S → A → S) (prefix : List A) (count i : ℕ) (s : S) (rest : Rest) (x : A) (after : Rest) (total : Result (Read (List A) Rest) E) → i < count
    → read s rest ≡ Ok (record { value = x; rest = after })
    → with_prefix prefix (several read next (count - i) s rest) ≡ total → with_prefix (prefix ++ x ∷ []) (several read next (count - (i + 1)) (next s x) after) ≡ total
unfolding several
goes_on read next prefix count i s rest x after total lt h so_far =
    let k : count - i ≡ suc (count - (i + 1)) = omega arith in
    let one : with_prefix prefix (several read next (count - i) s rest) ≡ with_prefix (prefix ++ x ∷ []) (several read next (count - (i + 1)) (next s x) after) =
    rw (k, h) (prefix_grows prefix x (several read next (count - (i + 1)) (next s x) after)) in
    sym one ∙ so_far

-- a faulty one
pub ends : {S A Rest E : Type 0} (read : S → Rest → Result (Read A Rest) E) (next : S → A → S) (prefix : List A) (count i : ℕ) (s : S) (rest : Rest) (fault : E) (total : Result (Read (List A) Rest) E) → i < count
    → read s rest ≡ Err fault → with_prefix prefix (several read next (count - i) s rest) ≡ total → total ≡ Err fault
unfolding several
ends read next prefix count i s rest fault total lt h so_far =
    let k : count - i ≡ suc (count - (i + 1)) = omega arith in
    let one : with_prefix prefix (several read next (count - i) s rest) ≡ Err fault = rw (k, h) refl in
    sym so_far ∙ one

-- The same where a call refused to read it, maybe for want of memory.
pub refused : {S A Rest : Type 0} (read : S → Rest → Result (Read A Rest) BadInput) (next : S → A → S) (prefix : List A) (count i : ℕ) (s : S) (rest : Rest) (refusal : ReadRefusal) (total : Result (Read (List A) Rest) BadInput) → i < count
    → Refuses refusal (read s rest) → with_prefix prefix (several read next (count - i) s rest) ≡ total → Refuses refusal total
refused read next prefix count i s rest (refusals.BadInput fault) total lt h so_far = ends read next prefix count i s rest fault total lt h so_far
refused read next prefix count i s rest refusals.NoMemory total lt h so_far = tt

-- what goes on behind what was refused is refused
pub refused_then : {A B : Type 0} (refusal : ReadRefusal) (r : Result A BadInput) (f : A → Result B BadInput) → Refuses refusal r → Refuses refusal (r >>= f)
refused_then (refusals.BadInput fault) r f h = rw h refl
refused_then refusals.NoMemory r f h = tt

-- the last one
pub is_done : {S A Rest E : Type 0} (read : S → Rest → Result (Read A Rest) E) (next : S → A → S) (prefix : List A) (count i : ℕ) (s : S) (rest : Rest) (total : Result (Read (List A) Rest) E) → count ≤ i
    → with_prefix prefix (several read next (count - i) s rest) ≡ total → total ≡ Ok (record { value = prefix; rest = rest })
unfolding several
is_done {A = A} read next prefix count i s rest total le so_far =
    let k : count - i ≡ 0 = omega arith in
    let one : with_prefix prefix (several read next (count - i) s rest) ≡ Ok (record { value = prefix; rest = rest }) =
    rw k (ap (λ (xs : List A). Ok (record { value = xs; rest = rest })) (append-nil prefix)) in
    sym so_far ∙ one

-- the values of one line

on_line_then : {A B : Type 0} (n : ℕ) (r : Result A Cause) (f : A → Result B Cause) → on_line n (r >>= f) ≡ on_line n r >>= λ x. on_line n (f x)
on_line_then n (Ok x) f = refl
on_line_then n (Err c) f = refl

then_so : {A B E : Type 0} (r : Result A E) (f g : A → Result B E) → ((x : A) → f x ≡ g x) → (r >>= f) ≡ (r >>= g)
then_so (Ok x) f g same = same x
then_so (Err e) f g same = refl

-- what was read, and then what was read behind it
abbrev pub before : {A Rest E : Type 0} → A → Result (Read (List A) Rest) E → Result (Read (List A) Rest) E
before x xs = xs >>= λ ys. Ok (record { value = x ∷ ys.value; rest = ys.rest })

-- a fault may get the line's number at each value or at the end
pub with_line_at_each : {S A Rest : Type 0} (line : ℕ) (read : S → Rest → Result (Read A Rest) Cause) (next : S → A → S) (n : ℕ) (s : S) (rest : Rest)
    → on_line line (several read next n s rest) ≡ several (λ t r. on_line line (read t r)) next n s rest
unfolding several
with_line_at_each line read next zero s rest = refl
with_line_at_each line read next (suc n) s rest =
    on_line_then line (read s rest) (λ x. before x.value (several read next n (next s x.value) x.rest))
    ∙ then_so (on_line line (read s rest)) (λ x. on_line line (before x.value (several read next n (next s x.value) x.rest))) (λ x. before x.value (several (λ t r. on_line line (read t r)) next n (next s x.value) x.rest)) (λ x.
    on_line_then line (several read next n (next s x.value) x.rest) (λ ys. Ok (record { value = x.value ∷ ys.value; rest = ys.rest }))
    ∙ ap (before x.value) (with_line_at_each line read next n (next s x.value) x.rest))

-- a line of several values
pub line_of_several : {S A : Type 0} (line : ℕ) (read : S → List (List ℕ) → Result (Read A (List (List ℕ))) Cause) (next : S → A → S) (n : ℕ) (s : S) (words : List (List ℕ))
    → on_line line (several read next n s words >>= λ xs. at_line_end xs.rest >>= λ end. Ok xs.value) ≡ several (with_line line read) next n s words >>= λ xs. on_line line (at_line_end xs.rest) >>= λ end. Ok xs.value
line_of_several {A = A} line read next n s words =
    on_line_then line (several read next n s words) (λ xs. at_line_end xs.rest >>= λ end. Ok xs.value)
    ∙ ap (λ (r : Result (Read (List A) (List (List ℕ))) BadInput). r >>= λ xs. on_line line (at_line_end xs.rest >>= λ end. Ok xs.value)) (with_line_at_each line read next n s words)
    ∙ then_so (several (with_line line read) next n s words) (λ xs. on_line line (at_line_end xs.rest >>= λ end. Ok xs.value)) (λ xs. on_line line (at_line_end xs.rest) >>= λ end. Ok xs.value) (λ xs. on_line_then line (at_line_end xs.rest) (λ end. Ok xs.value))

-- a value from each line

-- Each line reads as the value at its place, each in the state that the values before it left.
abbrev pub EachReads : {S A : Type 0} → (S → List (List ℕ) → Result A Cause) → (S → A → S) → S → List Line → List A → Type 0
EachReads read next s [] [] = Unit {0}
EachReads read next s (l ∷ ls) (x ∷ xs) = (read s l.words ≡ Ok x) × EachReads read next (next s x) ls xs
EachReads read next s ls xs = ⊥

-- lines of this text were taken
pub record LinesTaken {S A : Type 0} (read : S → List (List ℕ) → Result A Cause) (next : S → A → S) (n : ℕ) (s : S) (text : Text) (x : Read (List A) Text) : Type 0 where
  pub lines : List Line
  pub first : text.lines ≡ lines ++ x.rest.lines
  pub count : length x.value ≡ n
  pub each : EachReads read next s lines x.value

pub prefix_then : (line : Line) (all after lines rest : List Line) → all ≡ line ∷ after → after ≡ lines ++ rest → all ≡ line ∷ (lines ++ rest)
prefix_then line all after lines rest e f = e ∙ ap (λ (t : List Line). line ∷ t) f

pub lines_taken : {S A : Type 0} (read : S → List (List ℕ) → Result A Cause) (next : S → A → S) (n : ℕ) (s : S) (text : Text) (x : Read (List A) Text)
    → several (λ t. line_at (read t)) next n s text ≡ Ok x → LinesTaken read next n s text x
unfolding several
lines_taken {A = A} read next zero s text x e =
    subst (λ (y : Read (List A) Text). LinesTaken read next 0 s text y) (ok_is (record { value = []; rest = text }) x e)
    (record { lines = []; first = refl; count = refl; each = tt })
lines_taken {A = A} read next (suc n) s text x e =
    let p = bind_ok (line_at (read s) text) (λ y. before y.value (several (λ t. line_at (read t)) next n (next s y.value) y.rest)) x e in
    let y = p.0 in
    let q = bind_ok (several (λ t. line_at (read t)) next n (next s y.value) y.rest) (λ ys. Ok (record { value = y.value ∷ ys.value; rest = ys.rest })) x p.2 in
    let l = line_taken (read s) text y p.1 in
    let ls = lines_taken read next n (next s y.value) y.rest q.0 q.1 in
    let made : Read (List A) Text = record { value = y.value ∷ q.0.value; rest = q.0.rest } in
    subst (λ (z : Read (List A) Text). LinesTaken read next (suc n) s text z) (ok_is made x q.2)
    (record {
      lines = l.line ∷ ls.lines;
      first = prefix_then l.line text.lines y.rest.lines ls.lines q.0.rest.lines l.first ls.first;
      count = ap suc ls.count;
      each = (l.value, ls.each);
    })

pub lines_found : {S A : Type 0} (read : S → List (List ℕ) → Result A Cause) (next : S → A → S) (s : S) (ls : List Line) (xs : List A) (rest : List Line) (end : ℕ) → EachReads read next s ls xs
    → several (λ t. line_at (read t)) next (length xs) s (record { lines = ls ++ rest; end = end }) ≡ Ok (record { value = xs; rest = record { lines = rest; end = end } })
unfolding several
lines_found read next s [] [] rest end each = refl
lines_found read next s [] (x ∷ xs) rest end each = absurd each
lines_found read next s (l ∷ ls) [] rest end each = absurd each
lines_found read next s (l ∷ ls) (x ∷ xs) rest end each =
    rw (line_found (read s) l (ls ++ rest) end x each.0, lines_found read next (next s x) ls xs rest end each.1) refl
