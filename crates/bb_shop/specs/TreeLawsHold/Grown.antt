-- Proofs of the laws of the bounds: what does not fall where ready times do not. They define nothing that a
-- contract says.
use Rattle.std.proofs.Common.{◌≡◌, ℕ, zero, suc, ◌+◌, ◌<◌, ◌≤◌, List, [], ◌∷◌, inl, inr, refl, arith}
use Rattle.std.proofs.lemmas.Bool.{cases_eq}
use Rattle.inst_text.specs.declared.shop.Operation.{Operation}
use Rattle.inst_text.specs.Shop.{row_time}
use Rattle.bb_shop.specs.Dispatching.{number_in}
use Rattle.bb_shop.specs.Bounds.{greatest, head_of, finish, each_from}

-- each number of the one list is at most the number at its place in the other
pub record AreAtMost (xs ys : List ℕ) : Type 0 where
  pub each : (k : ℕ) → number_in xs k ≤ number_in ys k

pub number_in-le-greatest : (xs : List ℕ) (k : ℕ) → number_in xs k ≤ greatest xs
number_in-le-greatest [] k = omega arith
number_in-le-greatest (x ∷ xs) zero = omega arith
number_in-le-greatest (x ∷ xs) (suc k) = omega (arith, number_in-le-greatest xs k)

pub greatest-le : (xs : List ℕ) (v : ℕ) → ((k : ℕ) → number_in xs k ≤ v) → greatest xs ≤ v
greatest-le [] v each = omega arith
greatest-le (x ∷ xs) v each = omega (arith, each 0, greatest-le xs v (λ k. each (suc k)))

pub greatest_grows : (xs ys : List ℕ) → AreAtMost xs ys → greatest xs ≤ greatest ys
greatest_grows xs ys most = greatest-le xs (greatest ys) (λ k. omega (arith, most.each k, number_in-le-greatest ys k))

-- the greatest of something of each number
pub le-greatest_each : (f : ℕ → ℕ) (i n k : ℕ) → i ≤ k → k < i + n → f k ≤ greatest (each_from f i n)
le-greatest_each f i zero k low high = absurd (omega arith)
le-greatest_each f i (suc n) k low high =
    elim (cases_eq i k) [
      | inl same ↦ rw same (omega arith)
      | inr other ↦ omega (arith, le-greatest_each f (i + 1) n k (omega (arith, other)) (omega arith))
    ]

pub greatest_each-le : (f : ℕ → ℕ) (i n v : ℕ) → ((k : ℕ) → i ≤ k → k < i + n → f k ≤ v)
    → greatest (each_from f i n) ≤ v
greatest_each-le f i zero v each = omega arith
greatest_each-le f i (suc n) v each =
    omega (
      arith,
      each i (omega arith) (omega arith),
      greatest_each-le f (i + 1) n v
          (λ k low high. each k (omega arith) (omega arith)),
    )

-- A job finishes no earlier where it and the machines are ready no earlier.
pub finish_grows : (old new : List ℕ) (r ready : ℕ) (os : List Operation) → AreAtMost old new → r ≤ ready
    → finish old r os ≤ finish new ready os
unfolding finish
finish_grows old new r ready [] most le = le
finish_grows old new r ready (o ∷ os) most le =
    finish_grows old new (head_of old r o + o.time) (head_of new ready o + o.time) os most
    (omega (arith, most.each o.machine))

pub finish-nil : (machines : List ℕ) (ready : ℕ) → finish machines ready [] ≡ ready
unfolding finish
finish-nil machines ready = refl

pub finish-cons : (machines : List ℕ) (ready : ℕ) (o : Operation) (os : List Operation)
    → finish machines ready (o ∷ os) ≡ finish machines (head_of machines ready o + o.time) os
unfolding finish
finish-cons machines ready o os = refl

-- it takes at least the sum of its times
pub time-le-finish : (machines : List ℕ) (ready : ℕ) (os : List Operation)
    → ready + row_time os ≤ finish machines ready os
unfolding finish
time-le-finish machines ready [] = omega arith
time-le-finish machines ready (o ∷ os) = omega (arith, time-le-finish machines (head_of machines ready o + o.time) os)
