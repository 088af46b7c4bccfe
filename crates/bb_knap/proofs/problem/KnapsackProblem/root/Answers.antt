use Rattle.std.proofs.Common.{◌≡◌, [], ap, arith}
use Rattle.bb_knap.specs.Order.{order_of}
use Rattle.bb_knap.specs.Plans.{weight_of, value_of}
use Rattle.bb_knap.specs.Branching.{taken_of}
use Rattle.bb_knap.specs.TreeLawsHold.Taken.{taken-none}
use Rattle.bb_knap.proofs.problem.KnapsackProblem.root.Goals as goal

pub returns-clause-root : goal.returns-clause-root
returns-clause-root c =
    let i = c.args.self.now in
    let none : taken_of i [] ≡ [] = taken-none (order_of i.items) in
    record {
      decisions = ap (λ n. n.decisions) c.root.ensures;
      depth = omega arith;
      room = omega (arith, ap (weight_of i.items) none, ap (λ n. n.room) c.root.ensures, c.capacity.ensures.capacity);
      value = omega (arith, ap (value_of i.items) none, ap (λ n. n.value) c.root.ensures);
    }
