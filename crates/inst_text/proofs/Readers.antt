-- Readings that take what a relation says, one behind another, and of a whole text.
use Rattle.std.proofs.Common.{◌≡◌, ℕ, ◌≤◌, true, cond, leb, List, [], ◌++◌, length, Result, Ok, Err, refl, sym, ap, subst, ◌∙◌, append_assoc}
use Rattle.std.specs.Prelude.{IfOk}
use Rattle.std.proofs.lemmas.Bool.{leb-true, le-leb}
use Rattle.std.proofs.lemmas.List.{append-nil}
use Rattle.pq_io.specs.declared.text.fault.BadInput.{BadInput}
use Rattle.pq_io.specs.declared.text.fault.ReadRefusal.{ReadRefusal}
use Rattle.pq_io.specs.Inputs.{longest_input, too_large, text_within}
use Rattle.pq_io.specs.Lines.{Line, Text, text_of}
use Rattle.pq_io.specs.Reading.{◌>>=◌, Read, Gives, at_text_end}
use Rattle.pq_io.proofs.Binds.{ok_is, bind_ok, guard_ok}
use Rattle.pq_io.proofs.Taken.{text_ends, text_end_found}
use Rattle.inst_text.specs.Several.{both, whole}

-- the first lines of a text mean what was read
pub record Prefix {A : Type 0} (Means : List Line → A → Type 0) (text : Text) (x : Read A Text) : Type 0 where
  pub lines : List Line
  pub first : text.lines ≡ lines ++ x.rest.lines
  pub means : Means lines x.value

-- What is read stands first as lines that mean it, and what the first lines mean is read.
pub record IsReader {A : Type 0} (read : Text → Result (Read A Text) BadInput) (Means : List Line → A → Type 0) : Type 0 where
  pub taken : (text : Text) (x : Read A Text) → read text ≡ Ok x → Prefix Means text x
  pub found : (lines rest : List Line) (end : ℕ) (a : A) → Means lines a → read (record { lines = lines ++ rest; end = end }) ≡ Ok (record { value = a; rest = record { lines = rest; end = end } })

-- a pair, whose second part means what it means for the first
pub record MeansBoth {A B : Type 0} (First : List Line → A → Type 0) (Second : A → List Line → B → Type 0) (lines : List Line) (v : A × B) : Type 0 where
  pub prefix : List Line
  pub suffix : List Line
  pub lines_are : lines ≡ prefix ++ suffix
  pub first : First prefix v.0
  pub second : Second v.0 suffix v.1

both_taken : {A B : Type 0} (p : Text → Result (Read A Text) BadInput) (q : A → Text → Result (Read B Text) BadInput) (First : List Line → A → Type 0) (Second : A → List Line → B → Type 0)
    → IsReader p First → ((lines : List Line) (a : A) → First lines a → IsReader (q a) (Second a)) → (text : Text) (x : Read (A × B) Text) → both p q text ≡ Ok x → Prefix (MeansBoth First Second) text x
unfolding both
both_taken {A = A} {B = B} p q First Second f s text x e =
    let a = bind_ok (p text) (λ a. q a.value a.rest >>= λ b. Ok (record { value = (a.value, b.value); rest = b.rest })) x e in
    let b = bind_ok (q a.0.value a.0.rest) (λ b. Ok (record { value = (a.0.value, b.value); rest = b.rest })) x a.2 in
    let l = f.taken text a.0 a.1 in
    let m = (s l.lines a.0.value l.means).taken a.0.rest b.0 b.1 in
    let made : Read (A × B) Text = record { value = (a.0.value, b.0.value); rest = b.0.rest } in
    subst (λ (y : Read (A × B) Text). Prefix (MeansBoth First Second) text y) (ok_is made x b.2)
    (record {
      lines = l.lines ++ m.lines;
      first = l.first ∙ ap (λ (t : List Line). l.lines ++ t) m.first ∙ sym (append_assoc l.lines m.lines b.0.rest.lines);
      means = record { prefix = l.lines; suffix = m.lines; lines_are = refl; first = l.means; second = m.means };
    })

both_found : {A B : Type 0} (p : Text → Result (Read A Text) BadInput) (q : A → Text → Result (Read B Text) BadInput) (First : List Line → A → Type 0) (Second : A → List Line → B → Type 0)
    → IsReader p First → ((lines : List Line) (a : A) → First lines a → IsReader (q a) (Second a)) → (lines rest : List Line) (end : ℕ) (v : A × B) → MeansBoth First Second lines v
    → both p q (record { lines = lines ++ rest; end = end }) ≡ Ok (record { value = v; rest = record { lines = rest; end = end } })
unfolding both
both_found p q First Second f s lines rest end v m =
    let split : lines ++ rest ≡ m.prefix ++ (m.suffix ++ rest) = ap (λ (t : List Line). t ++ rest) m.lines_are ∙ append_assoc m.prefix m.suffix rest in
    rw (split, f.found m.prefix (m.suffix ++ rest) end v.0 m.first, (s m.prefix v.0 m.first).found m.suffix rest end v.1 m.second) refl

pub both_read : {A B : Type 0} (p : Text → Result (Read A Text) BadInput) (q : A → Text → Result (Read B Text) BadInput) (First : List Line → A → Type 0) (Second : A → List Line → B → Type 0)
    → IsReader p First → ((lines : List Line) (a : A) → First lines a → IsReader (q a) (Second a)) → IsReader (both p q) (MeansBoth First Second)
both_read p q First Second f s = record { taken = both_taken p q First Second f s; found = both_found p q First Second f s }

-- a whole text

-- the bytes are not too many, and their lines mean the value
pub record WholeMeans {A : Type 0} (Means : List Line → A → Type 0) (bytes : List ℕ) (a : A) : Type 0 where
  pub size : length bytes ≤ longest_input
  pub means : Means (text_of bytes).lines a

pub whole_taken : {A : Type 0} (read : Text → Result (Read A Text) BadInput) (Means : List Line → A → Type 0) → IsReader read Means → (bytes : List ℕ) (a : A) → whole read bytes ≡ Ok a → WholeMeans Means bytes a
unfolding whole
whole_taken {A = A} read Means r bytes a e =
    let p = bind_ok (text_within bytes) (λ text. read text >>= λ x. at_text_end x.rest.lines >>= λ end. Ok x.value) a e in
    let g = guard_ok (leb (length bytes) longest_input) (text_of bytes) p.0 too_large p.1 in
    let q = bind_ok (read p.0) (λ x. at_text_end x.rest.lines >>= λ end. Ok x.value) a p.2 in
    let z = bind_ok (at_text_end q.0.rest.lines) (λ end. Ok q.0.value) a q.2 in
    let f = r.taken p.0 q.0 q.1 in
    let all : f.lines ≡ p.0.lines = sym (f.first ∙ ap (λ (t : List Line). f.lines ++ t) (text_ends q.0.rest.lines z.0 z.1) ∙ append-nil f.lines) in
    let here : f.lines ≡ (text_of bytes).lines = all ∙ ap (λ (t : Text). t.lines) (sym g.1) in
    record {
      size = leb-true (length bytes) longest_input g.0;
      means = subst (λ (ls : List Line). Means ls a) here (subst (λ (b : A). Means f.lines b) (ok_is q.0.value a z.2) f.means);
    }

pub whole_found : {A : Type 0} (read : Text → Result (Read A Text) BadInput) (Means : List Line → A → Type 0) → IsReader read Means → (bytes : List ℕ) (a : A) → WholeMeans Means bytes a → whole read bytes ≡ Ok a
unfolding whole
whole_found {A = A} read Means r bytes a w =
    let text = text_of bytes in
    let fits : leb (length bytes) longest_input ≡ true = le-leb (length bytes) longest_input w.size in
    let e : read (record { lines = text.lines ++ []; end = text.end }) ≡ Ok (record { value = a; rest = record { lines = []; end = text.end } }) = r.found text.lines [] text.end a w.means in
    let f : read text ≡ Ok (record { value = a; rest = record { lines = []; end = text.end } }) =
    ap (λ (ls : List Line). read (record { lines = ls; end = text.end })) (sym (append-nil text.lines)) ∙ e in
    let opened : text_within bytes ≡ Ok text = ap (λ b. cond b (Ok text) (Err too_large)) fits in
    rw (opened, f, text_end_found) refl

-- What reading gives is so, and what is so reading gives: then a call that says what reading gives tells it.
pub given_is : {A : Type 0} (read : Result A BadInput) (P : A → Type 0) → ((a : A) → read ≡ Ok a → P a) → (r : Result A ReadRefusal) → Gives (λ a. a) r read → IfOk r P
given_is read P so (Ok a) e = so a e
given_is read P so (Err e) given = tt
