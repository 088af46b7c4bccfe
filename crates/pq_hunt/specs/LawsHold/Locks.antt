-- Which words of a heap are locks.
use Rattle.std.proofs.Common.{◌≡◌, ◌⊎◌, ℕ, suc, ◌%◌, ◌<◌, ◌≤◌, Bool, true, false, inl, inr, ⊎_elim, refl, sym, ap, ◌∙◌, arith}
use Rattle.std.proofs.Common.{eqb, eqb-true, eq-eqb, leb, ltb, ◌&&◌, ◌||◌}
use Rattle.std.proofs.lemmas.Bool.Decides.{eqb_tells}
use Rattle.std.proofs.lemmas.Bool.{leb-true, ltb-true, le-leb}
use Rattle.pq_nodes.specs.Layout.{node_words, lock_of, word_of}
use Rattle.pq_hunt.specs.Layout.{word_count, heap_lock, size_word, is_lock}

both : (a b : Bool) → (a && b) ≡ true → (a ≡ true) × (b ≡ true)
both true b e = (refl, e)
both false b e = absurd (cc)

pub lock_cases : (c i : ℕ) → is_lock c i ≡ true → (i ≡ heap_lock) ⊎ ((lock_of 1 ≤ i) × (i < word_count c) × (i % node_words ≡ 0))
lock_cases c i is = ⊎_elim (λ t. inl t.1) (λ t. inr (far t.0 is)) (eqb_tells i heap_lock)
  where
    far : eqb i heap_lock ≡ false → is_lock c i ≡ true → (lock_of 1 ≤ i) × (i < word_count c) × (i % node_words ≡ 0)
    far e is = let rest = sym (ap (λ (z : Bool). z || (leb (lock_of 1) i && (ltb i (word_count c) && eqb (i % node_words) 0))) e) ∙ is in
        let a = both (leb (lock_of 1) i) (ltb i (word_count c) && eqb (i % node_words) 0) rest in
        let b = both (ltb i (word_count c)) (eqb (i % node_words) 0) a.1 in
        (leb-true (lock_of 1) i a.0, ltb-true i (word_count c) b.0, eqb-true (i % node_words) 0 b.1)

false_by : (b : Bool) → (b ≡ true → ⊥) → b ≡ false
false_by true never = absurd (never refl)
false_by false never = refl

-- the word of a node, and the size, are no locks
pub word_is_no_lock : (c i : ℕ) → is_lock c (word_of i) ≡ false
word_is_no_lock c i = false_by (is_lock c (word_of i)) (λ is. ⊎_elim (λ e. omega arith) (λ r. let even = r.2 in omega arith) (lock_cases c (word_of i) is))

pub size_is_no_lock : (c : ℕ) → is_lock c size_word ≡ false
size_is_no_lock c = false_by (is_lock c size_word) (λ is. ⊎_elim (λ e. omega arith) (λ r. let far = r.0 in omega arith) (lock_cases c size_word is))

-- that of a node is one
pub is_node_lock : (c i : ℕ) → 1 ≤ i → i ≤ c → is_lock c (lock_of i) ≡ true
is_node_lock c i low high = ap (λ (z : Bool). eqb (lock_of i) heap_lock || z)
    (λ j. le-leb (lock_of 1) (lock_of i) (omega arith) j && (le-leb (suc (lock_of i)) (word_count c) (omega arith) j && eq-eqb (lock_of i % node_words) 0 (omega arith) j))
    ∙ or_true (eqb (lock_of i) heap_lock)
  where
    or_true : (b : Bool) → (b || true) ≡ true
    or_true true = refl
    or_true false = refl
