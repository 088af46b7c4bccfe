-- A fact of each place of a list, from its first place or from a later one on.
use Rattle.std.proofs.Common.{◌≡◌, ◌<◌, ◌+◌, ℕ, zero, suc, List, [], ◌∷◌, ◌++◌, length, subst, arith}
use Rattle.std.specs.Prelude.{slice_index_or}
use Rattle.pq_api.specs.Answers.{EachAt}

-- a fact of each element, where the first has this place
abbrev pub EachFrom : {X : Type 0} → ℕ → (ℕ → X → Type 0) → List X → Type 0
EachFrom n P xs = (k : ℕ) (d : _) → k < length xs → P (n + k) (slice_index_or xs k d)

pub each_push : {X : Type 0} (P : ℕ → X → Type 0) (xs : List X) (x : X) → EachAt P xs → P (length xs) x → EachAt P (xs ++ x ∷ [])
each_push P [] x all last zero d lt = last
each_push P [] x all last (suc k) d lt = absurd (omega arith)
each_push P (y ∷ ys) x all last zero d lt = all 0 d (omega arith)
each_push P (y ∷ ys) x all last (suc k) d lt = each_push (λ j. P (suc j)) ys x (λ j e l. all (suc j) e (omega arith)) last k d (omega arith)

pub from_start : {X : Type 0} (P : ℕ → X → Type 0) (xs : List X) → EachAt P xs → EachFrom 0 P xs
from_start P xs all k d lt = let same : k ≡ 0 + k = omega arith in subst (λ j. P j (slice_index_or xs k d)) same (all k d lt)

pub first_of : {X : Type 0} (n : ℕ) (P : ℕ → X → Type 0) (x : X) (xs : List X) → EachFrom n P (x ∷ xs) → P n x
first_of n P x xs all = let same : n + 0 ≡ n = omega arith in subst (λ j. P j x) same (all 0 x (omega arith))

pub others_of : {X : Type 0} (n : ℕ) (P : ℕ → X → Type 0) (x : X) (xs : List X) → EachFrom n P (x ∷ xs) → EachFrom (n + 1) P xs
others_of n P x xs all k d lt = let same : n + suc k ≡ n + 1 + k = omega arith in subst (λ j. P j (slice_index_or xs k d)) same (all (suc k) d (omega arith))
