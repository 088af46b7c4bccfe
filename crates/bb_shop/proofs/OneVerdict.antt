-- No start times have two verdicts.
use Rattle.std.proofs.Common.{◌≡◌, ℕ, zero, suc, ◌-◌, ◌<◌, ◌≤◌, ◌⊎◌, List, inl, inr, refl, sym, ap, ◌∙◌, add-one, arith}
use Rattle.std.proofs.lemmas.Bool.{cases_order}
use Rattle.inst_text.specs.Shop.{JobShop}
use Rattle.bb_shop.specs.declared.verdict.ShopVerdict.{ShopVerdict}
use Rattle.bb_shop.specs.declared.verdict.ShopVerdict.TheVariants.{Feasible, BadOrder, BadMachine, BadMakespan}
use Rattle.bb_shop.specs.Plans.{start_at, end_at, IsOperation, IsBefore, AreInOrder, IsFeasible}
use Rattle.bb_shop.specs.Verdicts.{IsEarly, IsFirstEarly, IsFirstOverlap, IsVerdict}

-- of two operations one stands before the other, or they are the same
one_is_before : (i h j k : ℕ) → IsBefore i h j k ⊎ IsBefore j k i h ⊎ ((i ≡ j) × (h ≡ k))
one_is_before i h j k =
    elim (cases_order i j) [
      | inl job ↦
          elim (cases_order h k) [
            | inl step ↦ inr (inr (job, step))
            | inr other ↦
                elim other [
                  | inl lt ↦ inl (inr (job, lt))
                  | inr lt ↦ inr (inl (inr (sym job, lt)))
                ]
          ]
      | inr other ↦
          elim other [
            | inl lt ↦ inl (inl lt)
            | inr lt ↦ inr (inl (inl lt))
          ]
    ]

-- the first operation that starts too early is one and no other
first_early_is_one : (s : JobShop) (starts : List (List ℕ)) (i h j k : ℕ) → IsFirstEarly s starts i h → IsFirstEarly s starts j k → (i ≡ j) × (h ≡ k)
first_early_is_one s starts i h j k p q =
    elim (one_is_before i h j k) [
      | inl before ↦ absurd (q.first i h p.operation before p.early)
      | inr other ↦
          elim other [
            | inl after ↦ absurd (p.first j k q.operation after q.early)
            | inr same ↦ same
          ]
    ]

-- and so is the first pair that overlaps
first_overlap_is_one : (s : JobShop) (starts : List (List ℕ)) (i h j k a b c d : ℕ) → IsFirstOverlap s starts i h j k → IsFirstOverlap s starts a b c d
    → (i ≡ a) × (h ≡ b) × (j ≡ c) × (k ≡ d)
first_overlap_is_one s starts i h j k a b c d p q =
    elim (one_is_before i h a b) [
      | inl before ↦ absurd (q.first i h j k (inl before) p.overlap)
      | inr other ↦
          elim other [
            | inl after ↦ absurd (p.first a b c d (inl after) q.overlap)
            | inr one ↦
                elim (one_is_before j k c d) [
                  | inl before ↦ absurd (q.first i h j k (inr (one.0, one.1, before)) p.overlap)
                  | inr rest ↦
                      elim rest [
                        | inl after ↦ absurd (p.first a b c d (inr (sym one.0, sym one.1, after)) q.overlap)
                        | inr same ↦ (one.0, one.1, same.0, same.1)
                      ]
                ]
          ]
    ]

-- where the operations are in order, none starts too early
none_is_early : (s : JobShop) (starts : List (List ℕ)) (j k : ℕ) → AreInOrder s starts → IsOperation s j k → IsEarly s starts j k → ⊥
none_is_early s starts j zero ordered operation early = omega (arith, early.0)
none_is_early s starts j (suc k) ordered operation early =
    let e : suc k - 1 ≡ k = omega arith in
    let lt : start_at starts j (suc k) < end_at s starts j k = rw e at early.1 in
    let le : end_at s starts j k ≤ start_at starts j (suc k) = rw (add-one k) at (ordered j k (operation.0, omega (arith, operation.1))) in
    omega (arith, lt, le)

not_in_order : (s : JobShop) (starts : List (List ℕ)) (j k : ℕ) → IsFirstEarly s starts j k → AreInOrder s starts → ⊥
not_in_order s starts j k first ordered = none_is_early s starts j k ordered first.operation first.early

-- and where a pair overlaps, they are not apart
not_apart : (s : JobShop) (starts : List (List ℕ)) (i h j k : ℕ) → IsFirstOverlap s starts i h j k → IsFeasible s starts → ⊥
not_apart s starts i h j k first feasible =
    let overlap = first.overlap in
    elim (feasible.apart i h j k overlap.pair) [
      | inl le ↦ omega (arith, le, overlap.other)
      | inr le ↦ omega (arith, le, overlap.one)
    ]

pub verdict_is_one : (s : JobShop) (starts : List (List ℕ)) (stated : ℕ) (v w : ShopVerdict) → IsVerdict s starts stated v → IsVerdict s starts stated w → v ≡ w
verdict_is_one s starts stated (BadOrder i h) (BadOrder j k) p q =
    let same = first_early_is_one s starts i h j k p q in
    rw (same.0, same.1) refl
verdict_is_one s starts stated (BadOrder i h) (BadMachine a b c d) p q = absurd (not_in_order s starts i h p q.0)
verdict_is_one s starts stated (BadOrder i h) (BadMakespan m) p q = absurd (not_in_order s starts i h p q.0.ordered)
verdict_is_one s starts stated (BadOrder i h) Feasible p q = absurd (not_in_order s starts i h p q.0.ordered)
verdict_is_one s starts stated (BadMachine i h j k) (BadOrder a b) p q = absurd (not_in_order s starts a b q p.0)
verdict_is_one s starts stated (BadMachine i h j k) (BadMachine a b c d) p q =
    let same = first_overlap_is_one s starts i h j k a b c d p.1 q.1 in
    rw (same.0, same.1, same.2, same.3) refl
verdict_is_one s starts stated (BadMachine i h j k) (BadMakespan m) p q = absurd (not_apart s starts i h j k p.1 q.0)
verdict_is_one s starts stated (BadMachine i h j k) Feasible p q = absurd (not_apart s starts i h j k p.1 q.0)
verdict_is_one s starts stated (BadMakespan m) (BadOrder a b) p q = absurd (not_in_order s starts a b q p.0.ordered)
verdict_is_one s starts stated (BadMakespan m) (BadMachine a b c d) p q = absurd (not_apart s starts a b c d q.1 p.0)
verdict_is_one s starts stated (BadMakespan m) (BadMakespan n) p q = ap BadMakespan (p.1 ∙ sym q.1)
verdict_is_one s starts stated (BadMakespan m) Feasible p q = absurd (p.2 (p.1 ∙ q.1))
verdict_is_one s starts stated Feasible (BadOrder a b) p q = absurd (not_in_order s starts a b q p.0.ordered)
verdict_is_one s starts stated Feasible (BadMachine a b c d) p q = absurd (not_apart s starts a b c d q.1 p.0)
verdict_is_one s starts stated Feasible (BadMakespan n) p q = absurd (q.2 (q.1 ∙ p.1))
verdict_is_one s starts stated Feasible Feasible p q = refl
