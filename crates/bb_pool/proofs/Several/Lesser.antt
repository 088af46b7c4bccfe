-- The lesser of two costs, and of two plans.
use Rattle.std.proofs.Common.{◌≡◌, ℕ, ◌<◌, ◌≤◌, Bool, true, cond, nat_lt, Option, Some, None, refl, arith}
use Rattle.std.specs.Prelude.{IsTrue}
use Rattle.std.proofs.lemmas.Bool.{ltb-true, ltb-false, lt-ltb}
use Rattle.pq_model.proofs.Choices.{by_test, by_outcome}
use Rattle.bb_shared.specs.Costs.{IsLower, lesser}
use Rattle.bb_pool.specs.declared.found.Found.{Found}
use Rattle.bb_pool.specs.Costs.{is_better}
use Rattle.bb_pool.specs.Underway.{cost_so_far}
use Rattle.bb_pool.specs.Working.{lesser_found}

-- the lesser of two costs is below both
pub lesser_first : (a b : Option ℕ) → IsLower (lesser a b) a
lesser_first None b v better = refl
lesser_first (Some a) None v better = better
lesser_first (Some a) (Some b) v better = by_test (λ (l : Option ℕ). IsTrue (is_better v l) → IsTrue (is_better v (Some a))) (nat_lt b a) (Some b) (Some a)
    (λ t less. let lt : b < a = ltb-true b a t in let under : v < b = ltb-true v b less in lt-ltb v a (omega arith)) (λ t less. less) better

pub lesser_second : (a b : Option ℕ) → IsLower (lesser a b) b
lesser_second None b v better = better
lesser_second (Some a) None v better = refl
lesser_second (Some a) (Some b) v better = by_test (λ (l : Option ℕ). IsTrue (is_better v l) → IsTrue (is_better v (Some b))) (nat_lt b a) (Some b) (Some a)
    (λ t less. less) (λ t less. let le : a ≤ b = ltb-false b a t in let under : v < a = ltb-true v a less in lt-ltb v b (omega arith)) better

-- and what is below both is below the lesser
pub lesser_both : (low a b : Option ℕ) → IsLower low a → IsLower low b → IsLower low (lesser a b)
lesser_both low None b one other v better = other v better
lesser_both low (Some a) None one other v better = one v better
lesser_both low (Some a) (Some b) one other v better = by_test (λ (l : Option ℕ). IsTrue (is_better v l)) (nat_lt b a) (Some b) (Some a) (λ t. other v better) (λ t. one v better)

-- a better cost is the lesser
pub lesser_new : (own : Option ℕ) (cost : ℕ) → is_better cost own ≡ true → lesser own (Some cost) ≡ Some cost
lesser_new None cost good = refl
lesser_new (Some a) cost good = by_test (λ (l : Option ℕ). l ≡ Some cost) (nat_lt cost a) (Some cost) (Some a) (λ t. refl) (λ t. absurd (cc))

pub lesser_told : {L : Type 0} (f g : Option (Found L)) → cost_so_far (lesser_found f g) ≡ lesser (cost_so_far f) (cost_so_far g)
lesser_told None g = refl
lesser_told (Some f) None = refl
lesser_told (Some f) (Some g) = by_outcome (λ (b : Bool). cost_so_far (cond b (Some g) (Some f)) ≡ cond b (Some g.cost) (Some f.cost)) (nat_lt g.cost f.cost) (λ _. refl) (λ _. refl)
