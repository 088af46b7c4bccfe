-- Lines of two numbers: those that were read, and those that are found where they are spelled.
use Rattle.std.proofs.Common.{◌≡◌, ℕ, ◌≤◌, List, [], ◌∷◌, Result, Ok, refl, sym, ap, subst, ◌∙◌, arith}
use Rattle.pq_io.specs.declared.text.fault.Cause.{Cause}
use Rattle.pq_io.specs.Reading.{◌>>=◌, Spells, number_at, at_line_end}
use Rattle.pq_io.proofs.Binds.{ok_is, bind_ok}
use Rattle.pq_io.proofs.Taken.{number_taken, number_found, line_ends, end_found}
use Rattle.inst_text.specs.Knapsack.{SpellsTwo}

abbrev pub two_of : {A : Type 0} → ℕ → ℕ → (ℕ → ℕ → A) → List (List ℕ) → Result A Cause
two_of m n make words =
    number_at 0 m words >>= λ a. number_at 0 n a.rest >>= λ b. at_line_end b.rest >>= λ end. Ok (make a.value b.value)

pub record TwoTaken {A : Type 0} (m n : ℕ) (make : ℕ → ℕ → A) (words : List (List ℕ)) (x : A) : Type 0 where
  pub a : ℕ
  pub b : ℕ
  pub spells : SpellsTwo words a b
  pub first : a ≤ m
  pub second : b ≤ n
  pub made : make a b ≡ x

pub spells_two : (words : List (List ℕ)) (a b : ℕ) (v w : List ℕ) (rest last : List (List ℕ)) → words ≡ v ∷ rest → rest ≡ w ∷ last → last ≡ [] → Spells v a → Spells w b → SpellsTwo words a b
spells_two words a b v w rest last e f g p q =
    let whole : v ∷ w ∷ [] ≡ words = sym (e ∙ ap (λ (t : List (List ℕ)). v ∷ t) (f ∙ ap (λ (t : List (List ℕ)). w ∷ t) g)) in
    subst (λ (t : List (List ℕ)). SpellsTwo t a b) whole (p, q)

pub two_taken : {A : Type 0} (m n : ℕ) (make : ℕ → ℕ → A) (words : List (List ℕ)) (x : A) → two_of m n make words ≡ Ok x → TwoTaken m n make words x
two_taken m n make words x e =
    let p = bind_ok (number_at 0 m words) (λ a. number_at 0 n a.rest >>= λ b. at_line_end b.rest >>= λ end. Ok (make a.value b.value)) x e in
    let q = bind_ok (number_at 0 n p.0.rest) (λ b. at_line_end b.rest >>= λ end. Ok (make p.0.value b.value)) x p.2 in
    let r = bind_ok (at_line_end q.0.rest) (λ end. Ok (make p.0.value q.0.value)) x q.2 in
    let v = number_taken 0 m words p.0 p.1 in
    let w = number_taken 0 n p.0.rest q.0 q.1 in
    record {
      a = p.0.value;
      b = q.0.value;
      spells = spells_two words p.0.value q.0.value v.word w.word p.0.rest q.0.rest v.first w.first (line_ends q.0.rest r.0 r.1) v.spells w.spells;
      first = v.below;
      second = w.below;
      made = ok_is (make p.0.value q.0.value) x r.2;
    }

pub two_found : {A : Type 0} (m n : ℕ) (make : ℕ → ℕ → A) (words : List (List ℕ)) (a b : ℕ) → SpellsTwo words a b → a ≤ m → b ≤ n → two_of m n make words ≡ Ok (make a b)
two_found m n make [] a b spells p q = absurd spells
two_found m n make (v ∷ []) a b spells p q = absurd spells
two_found m n make (v ∷ w ∷ []) a b spells p q =
    rw (number_found 0 m v (w ∷ []) a spells.0 (omega arith) p, number_found 0 n w [] b spells.1 (omega arith) q, end_found) refl
two_found m n make (v ∷ w ∷ x ∷ ws) a b spells p q = absurd spells
