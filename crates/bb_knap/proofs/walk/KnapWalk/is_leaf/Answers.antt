use Rattle.std.proofs.Common.{◌≡◌, ℕ, List, [], ◌∷◌, leb, length, sym, ap, ◌∙◌, subst, arith}
use Rattle.std.specs.Prelude.{IsTrue, ◌↔◌}
use Rattle.bb_knap.specs.Branching.{children_of}
use Rattle.bb_knap.specs.Walking.{Walk}
use Rattle.bb_knap.proofs.Walks.{is_next, leaf_tells}
use Rattle.bb_knap.proofs.walk.KnapWalk.is_leaf.Goals as goal

pub returns : goal.returns
returns c =
    let w = c.self.inside in
    let i = w.knapsack.now in
    let len : c.len.result ≡ length w.path.items = omega (arith, c.len.ensures) in
    let test : leb (length i.items) (length w.path.items) ≡ leb (length c.items.result.now) c.len.result =
    ap (λ n. leb (length i.items) n) (sym len) ∙ ap (λ xs. leb (length xs) c.len.result) (sym c.items.ensures.items) in
    let P : Walk → Type 0 = λ v. (name : List ℕ) (rest : List (List ℕ)) → v.pending ≡ name ∷ rest → IsTrue (leb (length c.items.result.now) c.len.result) ↔ (children_of v.instance name ≡ []) in
    subst P c.self.view_is (λ name rest e.
    let next = is_next w.over w.path.items name rest e in
    subst (λ b. IsTrue b ↔ (children_of i name ≡ [])) test (leaf_tells i w.path.items w.room w.value name c.items.ensures.within_limits (c.self.invariant.0) next.name_is))
