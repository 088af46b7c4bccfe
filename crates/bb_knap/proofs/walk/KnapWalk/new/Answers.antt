use Rattle.std.proofs.Common.{◌≡◌, ◌≤◌, List, Bool, [], ◌∷◌, ap, refl, arith, subst, sym}
use Rattle.inst_text.specs.Limits.{max_knapsack_capacity}
use Rattle.bb_knap.specs.Order.{order_of}
use Rattle.bb_knap.specs.Plans.{weight_of, value_of}
use Rattle.bb_knap.specs.Branching.{taken_of}
use Rattle.bb_knap.specs.Walking.{LeadsTo, left_instead, decisions}
use Rattle.bb_knap.specs.TreeLawsHold.Dantzig.{taken-none}
use Rattle.bb_knap.proofs.Walks.{same_walk}
use Rattle.bb_knap.proofs.walk.KnapWalk.new.Goals as goal

pub invariant_of-result : goal.invariant_of-result
invariant_of-result c =
    let i = c.args.knapsack.now in
    let none : taken_of i [] ≡ [] = taken-none (order_of i.items) in
    let P : List Bool → Type 0 = λ path. LeadsTo i path c.capacity.result 0 in
    let at_root : P [] = record {
      decisions = refl;
      depth = omega arith;
      room = omega (arith, ap (weight_of i.items) none, c.capacity.ensures.capacity);
      value = omega (arith, ap (value_of i.items) none);
    } in
    let small : c.capacity.result ≤ max_knapsack_capacity = omega (arith, c.capacity.ensures.capacity, c.capacity.ensures.within_limits.capacity) in
    (subst P (sym c.in_ok-with_capacity.ensures.items) at_root, small)

pub returns : goal.returns
unfolding left_instead
returns c =
    same_walk c.args.knapsack.now c.args.knapsack.now (decisions c.in_ok-with_capacity.field-0.items ∷ left_instead [] c.in_ok-with_capacity.field-0.items) ([] ∷ []) refl
    (ap (λ path. decisions path ∷ left_instead [] path) c.in_ok-with_capacity.ensures.items)
