-- Each node that was put has a name, by the order of the numbers; and what the workers know once all are joined.
use Rattle.std.proofs.Common.{◌≡◌, ℕ, zero, suc, ◌+◌, ◌<◌, ◌≤◌, List, [], Option, Some, None, subst, inl, inr, arith}
use Rattle.std.specs.Prelude.{Contains, IsSomeAnd}
use Rattle.pq_model.specs.declared.passes.Known.{Known}
use Rattle.bb_problem.specs.Meaning.{Meaning, IsLawful}
use Rattle.bb_shared.specs.Costs.{IsLower}
use Rattle.bb_shared.specs.declared.store.stored.Numbered.{Numbered}
use Rattle.bb_shared.specs.declared.store.stored.Stored.{Stored}
use Rattle.bb_shared.specs.Stores.{AreMatched, KnowsStore}
use Rattle.bb_shared.specs.declared.control.told.Told.{Told}
use Rattle.bb_shared.specs.Controls.{cut_of}
use Rattle.bb_pool.specs.declared.found.Found.{Found}
use Rattle.bb_pool.specs.Outcomes.{IsOptimal}
use Rattle.bb_pool.specs.Underway.{cost_so_far}
use Rattle.bb_pool.specs.Costs.{limit_of}
use Rattle.bb_pool.specs.Endings.{EndsAt}
use Rattle.bb_pool.specs.Working.{IsGrown, IsOfLeaf, IsFoundBy, IsWorking, IsRooted}
use Rattle.bb_pool.proofs.Several.Lesser.{lesser_both}
use Rattle.bb_pool.proofs.Several.Turning.{lower_cut}
use Rattle.bb_pool.proofs.Several.Following.{best_is_least}

module _ {N L : Type 0} (m : Meaning N L) (puts takes : List (Numbered N)) (matched : AreMatched puts takes) (grown : IsGrown m puts takes) where
  pub put_stands : (n : ℕ) (p : Numbered N) → p.number < n → Contains puts p → (name : List ℕ) × m.stands p.node name
  put_stands zero p lt there = absurd (omega arith)
  put_stands (suc n) p lt there = elim (grown p there) [
    | inl root ↦ ([], root)
    | inr h ↦ (let before = h.before in let up = put_stands n h.parent (omega arith) (matched.from_puts h.parent h.taken) in h.follows up.0 up.1)
  ]

  pub plan_is_feasible : (plan : L) → IsOfLeaf m takes plan → m.is_feasible plan
  plan_is_feasible plan is = let at = put_stands (is.from.number + 1) is.from (omega arith) (matched.from_puts is.from is.taken) in (is.follows at.0 at.1).1

pub best_is_optimal : {N L : Type 0} (m : Meaning N L) (seats capacity nodes : ℕ) (k : Known) (s : Stored N) (c : Told) (found : Option (Found L))
    → IsLawful m → IsWorking m k s c found → IsRooted m k s.puts → EndsAt seats capacity (limit_of (cost_so_far found)) k
    → KnowsStore nodes s → s.parts ≡ s.seats → IsLower c.own c.read → IsSomeAnd found (λ f. IsOptimal m.is_feasible m.cost_of f.plan f.cost)
best_is_optimal {N} {L} m seats capacity nodes k s c found laws w rooted ends store all_seats control =
    let low : IsLower (cost_so_far found) (cut_of c) = subst (λ (o : Option ℕ). IsLower o (cut_of c)) w.told (lesser_both c.own c.own c.read (λ v b. b) control) in
    let searched = lower_cut m k s.puts s.takes (cut_of c) (cost_so_far found) low w.searched in
    let matched = store.matched all_seats in
    optimal found w.found_is (best_is_least m seats capacity k s.puts s.takes (cost_so_far found) laws searched matched rooted ends)
  where
    optimal : (f : Option (Found L)) → IsFoundBy m s.takes f → IsSomeAnd (cost_so_far f) (λ b. (plan : L) → m.is_feasible plan → b ≤ m.cost_of plan) → IsSomeAnd f (λ f. IsOptimal m.is_feasible m.cost_of f.plan f.cost)
    optimal None is least = absurd least
    optimal (Some f) is least = record { feasible_is = plan_is_feasible m s.puts s.takes (store.matched all_seats) w.grown f.plan is.0; cost_is = is.1; least = least }
