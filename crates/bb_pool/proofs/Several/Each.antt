-- A fact of each index and what stands there, in lists that lose their first element or gain a last.
use Rattle.std.proofs.Common.{◌≡◌, ℕ, zero, suc, ◌+◌, ◌<◌, ◌≤◌, List, [], ◌∷◌, ◌++◌, length, take, ap, sym, ◌∙◌, subst, arith}
use Rattle.std.specs.Prelude.{remove, slice_index_or, slice_set, replicate}
use Rattle.std.proofs.Math.Seq.{take-append_seam}
use Rattle.pq_api.specs.Answers.{EachAt}

pub each_snoc : {X : Type 0} (P : ℕ → X → Type 0) (xs : List X) (x : X) → EachAt P xs → P (length xs) x → EachAt P (xs ++ x ∷ [])
each_snoc P [] x each last zero d lt = last
each_snoc P [] x each last (suc k) d lt = absurd (omega arith)
each_snoc P (y ∷ ys) x each last zero d lt = each 0 d (omega arith)
each_snoc P (y ∷ ys) x each last (suc k) d lt = each_snoc (λ i. P (suc i)) ys x (λ i e l. each (suc i) e (omega arith)) last k d (omega arith)

-- the first is removed
pub each_rest : {X : Type 0} (P : ℕ → X → Type 0) (xs ys : List X) → ys ≡ remove xs 0 → EachAt P xs → EachAt (λ k. P (suc k)) ys
each_rest {X} P [] ys is each = subst (EachAt (λ k. P (suc k))) (sym is) (λ k d lt. absurd (omega arith))
each_rest {X} P (x ∷ xs) ys is each = subst (EachAt (λ k. P (suc k))) (sym is) (λ k d lt. each (suc k) d (omega arith))

pub length_rest : {X : Type 0} (xs ys : List X) → ys ≡ remove xs 0 → 1 ≤ length xs → 1 + length ys ≡ length xs
length_rest [] ys is some = absurd (omega arith)
length_rest {X} (x ∷ xs) ys is some = subst (λ (l : List X). 1 + length l ≡ length (x ∷ xs)) (sym is) (omega arith)

-- a fact of each element, where the first has this place
abbrev pub EachFrom : {X : Type 0} → ℕ → (ℕ → X → Type 0) → List X → Type 0
EachFrom n P xs = (k : ℕ) (d : _) → k < length xs → P (n + k) (slice_index_or xs k d)

pub first_of : {X : Type 0} (n : ℕ) (P : ℕ → X → Type 0) (x : X) (xs : List X) → EachFrom n P (x ∷ xs) → P n x
first_of n P x xs all = let same : n + 0 ≡ n = omega arith in subst (λ j. P j x) same (all 0 x (omega arith))

pub others_of : {X : Type 0} (n : ℕ) (P : ℕ → X → Type 0) (x : X) (xs : List X) → EachFrom n P (x ∷ xs) → EachFrom (n + 1) P xs
others_of n P x xs all k d lt = let same : n + suc k ≡ n + 1 + k = omega arith in subst (λ j. P j (slice_index_or xs k d)) same (all (suc k) d (omega arith))

-- the first is another now, and each other has a fact more
pub each_set_first : {X : Type 0} (P Q : ℕ → X → Type 0) (xs : List X) (x : X) → P 0 x → ((k : ℕ) (y : X) → Q (suc k) y → P (suc k) y) → EachAt Q xs → EachAt P (slice_set xs 0 x)
each_set_first P Q [] x here more each k d lt = absurd (omega arith)
each_set_first P Q (y ∷ ys) x here more each zero d lt = here
each_set_first P Q (y ∷ ys) x here more each (suc k) d lt = more k (slice_index_or ys k d) (each (suc k) d (omega arith))

-- the next of some that are all alike
pub next_of : {X : Type 0} (n : ℕ) (s x : X) {xs ys : List X} → xs ≡ replicate (suc n) s → xs ≡ x ∷ ys → (x ≡ s) × (ys ≡ replicate n s)
next_of n s x {xs} {ys} alike is = let e : x ∷ ys ≡ s ∷ replicate n s = sym is ∙ alike in ((cc), (cc))

-- the list as the vector has it that was lent
pub written_back : {X : Type 0} (xs ys : List X) (n : ℕ) → n ≡ length xs → take n (xs ++ ys) ≡ xs
written_back xs ys n many = ap (λ k. take k (xs ++ ys)) many ∙ take-append_seam xs ys
