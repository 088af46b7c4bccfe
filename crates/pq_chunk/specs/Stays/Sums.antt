-- Sums of the first places, and over lists.
use Rattle.std.proofs.Common.{◌≡◌, ◌≢◌, ℕ, zero, suc, ◌+◌, ◌<◌, List, [], ◌∷◌, refl, arith, Contains, sum_by, sym, ap}
use Rattle.std.proofs.lemmas.List.Sums.{sum_by-cons}
use native.Mathlib.Decide.{ℕ_discrete}
use mathlib.Core.Logic.{dite}
use Rattle.pq_seats.proofs.Lists.{in_first, in_later}
use Rattle.pq_chunk.specs.Places.{sum_to}

pub sum_to_same : (f g : ℕ → ℕ) (n : ℕ) → ((i : ℕ) → i < n → f i ≡ g i) → sum_to f n ≡ sum_to g n
unfolding sum_to
sum_to_same f g zero same = refl
sum_to_same f g (suc n) same = let a = sum_to_same f g n (λ i lt. same i (omega arith)) in let b = same n (omega arith) in omega arith

-- the sums of two that differ in one place alone
pub sum_to_one : (f g : ℕ → ℕ) (n j : ℕ) → j < n → ((i : ℕ) → i < n → i ≢ j → f i ≡ g i) → sum_to f n + g j ≡ sum_to g n + f j
unfolding sum_to
sum_to_one f g zero j lt same = absurd (omega arith)
sum_to_one f g (suc n) j lt same = dite (ℕ_discrete j n)
    (λ e. let a = sum_to_same f g n (λ i l. same i (omega arith) (λ z. omega arith)) in let b : f j ≡ f n = ap f e in let c : g j ≡ g n = ap g e in omega arith)
    (λ d. let a = sum_to_one f g n j (omega arith) (λ i l ne. same i (omega arith) ne) in let b = same n (omega arith) (λ z. d (sym z)) in omega arith)

pub sum_by_same : {A : Type 0} (f g : A → ℕ) (l : List A) → ((x : A) → Contains l x → f x ≡ g x) → sum_by f l ≡ sum_by g l
sum_by_same f g [] same = refl
sum_by_same f g (x ∷ xs) same = let a = same x (in_first x xs) in let b = sum_by_same f g xs (λ y has. same y (in_later x y xs has)) in
    let c = sum_by-cons f x xs in let d = sum_by-cons g x xs in omega arith
