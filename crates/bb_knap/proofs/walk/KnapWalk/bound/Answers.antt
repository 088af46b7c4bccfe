use Rattle.std.proofs.Common.{◌≡◌, ◌-◌, ℕ, List, ◌∷◌, length, drop, ap, ◌∙◌, subst, arith}
use Rattle.inst_text.specs.Knapsack.{total_value}
use Rattle.bb_knap.specs.Order.{order_of}
use Rattle.bb_knap.specs.Branching.{dantzig, bound_of}
use Rattle.bb_knap.specs.Walking.{Walk}
use Rattle.bb_knap.proofs.Walks.{is_next, bound-at, length-decisions}
use Rattle.bb_knap.proofs.walk.KnapWalk.bound.Goals as goal

pub bound_at-requires-clause-from : goal.bound_at-requires-clause-from
bound_at-requires-clause-from c =
    omega (arith, c.len.ensures, c.self.invariant.0.depth, length-decisions c.self.inside.path.items)

pub returns : goal.returns
returns c =
    let w = c.self.inside in
    let len : c.len.result ≡ length w.path.items = omega (arith, c.len.ensures) in
    let P : Walk → Type 0 = λ v. (name : List ℕ) (rest : List (List ℕ)) → v.pending ≡ name ∷ rest → c.bound_at.result ≡ bound_of v.instance name in
    subst P c.self.view_is (λ name rest e.
    let next = is_next w.over w.path.items name rest e in
    c.bound_at.ensures
    ∙ ap (λ d. total_value w.knapsack.now.items - w.value - dantzig w.knapsack.now.items w.room (drop d (order_of w.knapsack.now.items))) len
    ∙ bound-at w.knapsack.now w.path.items w.room w.value name (c.self.invariant.0) next.name_is)
