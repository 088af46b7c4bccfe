-- Which words of a mound are locks.
use Rattle.std.proofs.Common.{◌≡◌, ◌≢◌, ◌⊎◌, ℕ, suc, ◌%◌, ◌<◌, ◌≤◌, Bool, true, false, inl, inr}
use Rattle.std.proofs.Common.{⊎_elim, refl, sym, ap}
use Rattle.std.proofs.Common.{◌∙◌, arith, eqb, eqb-true, eq-eqb, leb, ltb, ◌&&◌, ◌||◌}
use Rattle.std.proofs.lemmas.Bool.Decides.{eqb_tells}
use Rattle.std.proofs.lemmas.Bool.{leb-true, ltb-true, le-leb}
use Rattle.pq_nodes.specs.Layout.{lock_of, word_of}
use Rattle.pq_mound.specs.Layout.{cell_base, node_count, is_lock}

both : (a b : Bool) → (a && b) ≡ true → (a ≡ true) × (b ≡ true)
both true b e = (refl, e)
both false b e = absurd (cc)

pub lock_cases : (c i : ℕ) → is_lock c i ≡ true → (i ≡ 24) ⊎ ((36 ≤ i) × (i < cell_base c) × (i % 4 ≡ 0))
lock_cases c i is = ⊎_elim (λ t. inl t.1) (λ t. inr (far t.0 is)) (eqb_tells i 24)
  where
    far : eqb i 24 ≡ false → is_lock c i ≡ true → (36 ≤ i) × (i < cell_base c) × (i % 4 ≡ 0)
    far e is = let rest = sym (ap (λ (z : Bool). z || (leb 36 i && (ltb i (cell_base c) && eqb (i % 4) 0))) e) ∙ is in
        let a = both (leb 36 i) (ltb i (cell_base c) && eqb (i % 4) 0) rest in
        let b = both (ltb i (cell_base c)) (eqb (i % 4) 0) a.1 in
        (leb-true 36 i a.0, ltb-true i (cell_base c) b.0, eqb-true (i % 4) 0 b.1)

false_by : (b : Bool) → (b ≡ true → ⊥) → b ≡ false
false_by true never = absurd (never refl)
false_by false never = refl

-- the word of a node is no lock
pub word_is_no_lock : (c i : ℕ) → is_lock c (word_of i) ≡ false
word_is_no_lock c i = false_by (is_lock c (word_of i))
    (λ is. ⊎_elim (λ e. omega arith) (λ r. let even = r.2 in omega arith) (lock_cases c (word_of i) is))

-- nor are the words of a cell, or those before the nodes but one
pub cell_is_no_lock : (c i : ℕ) → cell_base c ≤ i → is_lock c i ≡ false
cell_is_no_lock c i far = false_by (is_lock c i)
    (λ is. ⊎_elim (λ e. omega arith) (λ r. let less = r.1 in omega arith) (lock_cases c i is))

pub low_is_no_lock : (c i : ℕ) → i ≢ 24 → i < 36 → is_lock c i ≡ false
low_is_no_lock c i ne low = false_by (is_lock c i)
    (λ is. ⊎_elim (λ e. absurd (ne e)) (λ r. let least = r.0 in omega arith) (lock_cases c i is))

-- that of a node is one
pub is_node_lock : (c i : ℕ) → 1 ≤ i → i < node_count c → is_lock c (lock_of i) ≡ true
is_node_lock c i low high = ap (λ (z : Bool). eqb (lock_of i) 24 || z)
    (λ j. le-leb 36 (lock_of i) (omega arith) j && (le-leb (suc (lock_of i)) (cell_base c) (omega arith) j
    && eq-eqb (lock_of i % 4) 0 (omega arith) j))
    ∙ or_true (eqb (lock_of i) 24)
  where
    or_true : (b : Bool) → (b || true) ≡ true
    or_true true = refl
    or_true false = refl
