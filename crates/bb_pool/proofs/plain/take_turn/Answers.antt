use Rattle.std.proofs.Common.{sym, ap, ◌∙◌, arith}
use Rattle.pq_api.specs.Plain.{marks_of}
use Rattle.bb_problem.specs.Expanding.{step_of}
use Rattle.bb_pool.specs.Underway.{state_of}
use Rattle.bb_pool.specs.Costs.{is_better}
use Rattle.bb_pool.proofs.OnePass.Turns.{each_stored, over, branched, leaf_found, leaf_left, same_capacity}
use Rattle.bb_pool.proofs.plain.take_turn.Goals as goal

pub take-requires-clause-stored : goal.take-requires-clause-stored
take-requires-clause-stored g c = each_stored c.requires.underway

pub branch-problem-requires-clause-underway : goal.branch-problem-requires-clause-underway
branch-problem-requires-clause-underway g c κs within = let t = c.in-Some.ensures in let nodes = c.expand_into.new.children in
    let b = branched c.in-Some.child nodes (step_of c.in_ok-plan.field-0 nodes) c.requires.underway t (c.left_rises.ensures (marks_of (g.C.OnePass.seat c.args.search.now.pass).known)) c.in_ok-plan.ensures.expanded c.in_ok-plan.ensures.range (ap (λ leaf. step_of leaf nodes) c.in-None.is) in
    (b.0, b.1, same_capacity (sym t.capacity) b.2)

pub returns-in_default-clause-turn : goal.returns-in_default-clause-turn
returns-in_default-clause-turn g c = over (g.P.Problem.meaning c.args.problem.now) c.args.nodes (g.C.OnePass.seat c.args.search.now.pass).capacity
    (state_of g.C.OnePass.seat c.args.search.now) (state_of g.C.OnePass.seat c.take.new.self) c.requires.underway c.in_default.ensures (c.left_rises.ensures (marks_of (g.C.OnePass.seat c.args.search.now.pass).known))

pub returns-then-is_below-clause-turn : goal.returns-then-is_below-clause-turn
returns-then-is_below-clause-turn g c = let t = c.in-Some.ensures in (
  leaf_found c.in-Some.child c.in-Some-2.plan c.cost-cost.result _ (step_of c.in_ok-plan.field-0 c.expand_into.new.children) c.requires.underway t c.in_ok-plan.ensures.expanded (ap (λ leaf. step_of leaf c.expand_into.new.children) c.in-Some-2.is) c.cost-cost.ensures
      (ap (λ b. is_better c.cost-cost.result b) (sym c.best_cost.ensures) ∙ sym c.if-is_below.ensures),
  let more = t.calls in omega arith,
)

pub returns-else-is_below-clause-turn : goal.returns-else-is_below-clause-turn
returns-else-is_below-clause-turn g c = let t = c.in-Some.ensures in (
  leaf_left c.in-Some.child c.in-Some-2.plan c.cost-cost.result (step_of c.in_ok-plan.field-0 c.expand_into.new.children) c.requires.underway t c.in_ok-plan.ensures.expanded (ap (λ leaf. step_of leaf c.expand_into.new.children) c.in-Some-2.is) c.cost-cost.ensures
      (ap (λ b. is_better c.cost-cost.result b) (sym c.best_cost.ensures) ∙ sym c.if-is_below.ensures),
  let more = t.calls in omega arith,
)
