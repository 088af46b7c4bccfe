-- What decisions take.
use Rattle.std.proofs.Common.{◌≡◌, ℕ, zero, suc, ◌+◌, ◌<◌, ◌≤◌, Bool, true, false, cond, List, [], ◌∷◌, ◌++◌, inl, inr}
use Rattle.std.proofs.Common.{refl, ap, ◌∙◌, length, drop, eqb, arith}
use Rattle.std.specs.Prelude.{◌||◌}
use Rattle.std.proofs.lemmas.Bool.{cases_lt}
use Rattle.std.proofs.lemmas.Bool.Decides.{eqb_tells}
use Rattle.inst_text.specs.Knapsack.{AreNumbers}
use Rattle.bb_problem.specs.Tree.{total}
use Rattle.bb_knap.specs.Branching.{taken}
use Rattle.bb_knap.specs.TreeLawsHold.InOrder.{sum_below}

-- what more decisions take comes behind
pub taken-append : (ks ds es : List ℕ) → taken ks (ds ++ es) ≡ taken ks ds ++ taken (drop (length ds) ks) es
unfolding taken
taken-append [] [] es = refl
taken-append [] (d ∷ ds) es = refl
taken-append (k ∷ ks) [] es = refl
taken-append (k ∷ ks) (zero ∷ ds) es = taken-append ks ds es
taken-append (k ∷ ks) (suc d ∷ ds) es = ap (λ xs. k ∷ xs) (taken-append ks ds es)

pub taken-none : (ks : List ℕ) → taken ks [] ≡ []
unfolding taken
taken-none [] = refl
taken-none (k ∷ ks) = refl

pub taken-nothing : (ds : List ℕ) → taken [] ds ≡ []
unfolding taken
taken-nothing ds = refl

-- to take or to leave the next
pub taken-left : (k : ℕ) (ks ds : List ℕ) → taken (k ∷ ks) (0 ∷ ds) ≡ taken ks ds
unfolding taken
taken-left k ks ds = refl

pub taken-taken : (k d : ℕ) (ks ds : List ℕ) → taken (k ∷ ks) (suc d ∷ ds) ≡ k ∷ taken ks ds
unfolding taken
taken-taken k d ks ds = refl

pub total-taken-le : (f : ℕ → ℕ) (ks ds : List ℕ) → total f (taken ks ds) ≤ total f ks
unfolding taken
total-taken-le f [] ds = omega arith
total-taken-le f (k ∷ ks) [] = omega arith
total-taken-le f (k ∷ ks) (zero ∷ ds) = omega (arith, total-taken-le f ks ds)
total-taken-le f (k ∷ ks) (suc d ∷ ds) = omega (arith, total-taken-le f ks ds)

-- whether the number is among these
abbrev pub is_among : List ℕ → ℕ → Bool
is_among [] k = false
is_among (c ∷ cs) k = eqb c k || is_among cs k

-- the decisions to take these numbers
abbrev pub decisions_for : List ℕ → List ℕ → List ℕ
decisions_for choice [] = []
decisions_for choice (k ∷ ks) = cond (is_among choice k) 1 0 ∷ decisions_for choice ks

-- f of a number that passes the test, else 0
abbrev pub where_ : (ℕ → Bool) → (ℕ → ℕ) → ℕ → ℕ
where_ p f k = cond (p k) (f k) 0

total-decided_at : (f : ℕ → ℕ) (k : ℕ) (ks ds : List ℕ) (rest : ℕ) → total f (taken ks ds) ≡ rest → (b : Bool)
    → total f (taken (k ∷ ks) (cond b 1 0 ∷ ds)) ≡ cond b (f k) 0 + rest
unfolding taken
total-decided_at f k ks ds rest e true = ap (λ n. f k + n) e
total-decided_at f k ks ds rest e false = omega (arith, e)

pub total-decided : (f : ℕ → ℕ) (choice ks : List ℕ)
    → total f (taken ks (decisions_for choice ks)) ≡ total (where_ (is_among choice) f) ks
total-decided f choice [] = ap (total f) (taken-nothing [])
total-decided f choice (k ∷ ks) =
    total-decided_at f k ks (decisions_for choice ks) (total (where_ (is_among choice) f) ks)
    (total-decided f choice ks) (is_among choice k)

-- one number more that passes the test
more_at : (f : ℕ → ℕ) (k : ℕ) (b : Bool) → b ≡ false → cond (true || b) (f k) 0 ≡ f k + cond b (f k) 0
more_at f k b h = rw h (omega arith)

sum_below-without : (p : ℕ → Bool) (f : ℕ → ℕ) (c n : ℕ) → n ≤ c
    → sum_below (where_ (λ k. eqb c k || p k) f) n ≡ sum_below (where_ p f) n
sum_below-without p f c zero le = refl
sum_below-without p f c (suc n) le =
    elim (eqb_tells c n) [
      | inl same ↦ absurd (omega (arith, same.1))
      | inr other ↦ rw (other.0) (ap (λ m. where_ p f n + m) (sum_below-without p f c n (omega arith)))
    ]

below_other : (c n : ℕ) → c < suc n → (c ≡ n → ⊥) → c < n
below_other c n lt other = elim (cases_lt c n) [ inl below ↦ below | inr le ↦ absurd (other (omega (arith, lt, le))) ]

sum_below-with : (p : ℕ → Bool) (f : ℕ → ℕ) (c n : ℕ) → p c ≡ false → c < n
    → sum_below (where_ (λ k. eqb c k || p k) f) n ≡ f c + sum_below (where_ p f) n
sum_below-with p f c zero not_yet lt = absurd (omega arith)
sum_below-with p f c (suc n) not_yet lt =
    elim (eqb_tells c n) [
      | inl same ↦
          let here : p n ≡ false = rw (same.1) at not_yet in
          rw (same.0, here) (omega (arith, sum_below-without p f c n (omega (arith, same.1)), ap f (same.1)))
      | inr other ↦ rw (other.0) (omega (arith, sum_below-with p f c n not_yet (below_other c n lt (other.1))))
    ]

is_among-low : (low n c : ℕ) (ks : List ℕ) → AreNumbers low n ks → c < low → is_among ks c ≡ false
is_among-low low n c [] numbers lt = refl
is_among-low low n c (k ∷ ks) numbers lt =
    elim (eqb_tells k c) [
      | inl same ↦ absurd (omega (arith, same.1, numbers.0))
      | inr other ↦ rw (other.0) (is_among-low (k + 1) n c ks (numbers.2) (omega (arith, numbers.0)))
    ]

sum_below-zero : (n : ℕ) → sum_below (λ k. 0) n ≡ 0
sum_below-zero zero = refl
sum_below-zero (suc n) = omega (arith, sum_below-zero n)

-- a choice adds up as its numbers do among all
pub sum_below-among : (f : ℕ → ℕ) (low n : ℕ) (ks : List ℕ) → AreNumbers low n ks
    → sum_below (where_ (is_among ks) f) n ≡ total f ks
sum_below-among f low n [] numbers = sum_below-zero n
sum_below-among f low n (k ∷ ks) numbers =
    sum_below-with (is_among ks) f k n (is_among-low (k + 1) n k ks (numbers.2) (omega arith)) (numbers.1)
    ∙ ap (λ m. f k + m) (sum_below-among f (k + 1) n ks (numbers.2))
