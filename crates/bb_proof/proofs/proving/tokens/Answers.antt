use Rattle.std.proofs.Common.{◌≡◌, [], ◌∷◌, ◌++◌, length, sym, ap, ◌∙◌, subst, arith}
use Rattle.std.specs.Prelude.{not, nat_le}
use Rattle.std.proofs.lemmas.List.{append_assoc, append-nil, length_push, length-append}
use Rattle.inst_text.specs.Knapsack.{Instance}
use Rattle.bb_knap.specs.Branching.{tree_of}
use Rattle.bb_knap.specs.TreeLawsHold.Tree.{children-none}
use Rattle.bb_proof.specs.Tokens.{canonical, behind}
use Rattle.bb_proof.proofs.Bad.{some_of}
use Rattle.bb_proof.proofs.Canonical.{canonical_all, canonical-root, canonical-next, some_pending}
use Rattle.bb_proof.proofs.proving.tokens.Goals as goal

pub loop-init : goal.loop-init
loop-init c =
    let tree = tree_of c.args.problem.now in
    let started : c.in_ok-walk.walk.pending ≡ [] ∷ [] = ap (λ w. w.pending) c.in_ok-walk.ensures in
    record {
      count = ap length c.new-tokens.ensures.items;
      same = ap (λ w. w.instance) c.in_ok-walk.ensures;
      rest =
          canonical-root tree c.args.cost ∙ ap (canonical_all tree c.args.cost) (sym started)
          ∙ ap (λ ts. ts ++ canonical_all tree c.args.cost c.in_ok-walk.walk.pending) (sym c.new-tokens.ensures.items);
    }

pub returns-then-is_over : goal.returns-then-is_over
returns-then-is_over c =
    let tree = tree_of c.args.problem.now in
    let over : c.loop.walk.pending ≡ [] = c.is_over.ensures.0 c.if-is_over.true in
    let whole : canonical tree c.args.cost ≡ c.loop.tokens.items =
    c.loop.invariant.rest ∙ ap (λ p. c.loop.tokens.items ++ canonical_all tree c.args.cost p) over ∙ append-nil c.loop.tokens.items in
    (sym whole, omega (arith, c.loop.invariant.count, c.loop-test.true))

pub loop-preserved : goal.loop-preserved
loop-preserved c =
    let i = c.args.problem.now in
    let tree = tree_of i in
    let cost = c.args.cost in
    let tokens = c.loop.tokens.items in
    let token = c.in_ok-next_token.field-0 in
    let not_over : c.loop.walk.pending ≡ [] → ⊥ = λ e. let h = c.is_over.ensures.1 e in absurd (cc) in
    let s = some_of c.loop.walk.pending not_over in
    let P : Instance → Type 0 = λ j. (token ≡ not (nat_le cost ((tree_of j).bound s.name))) × (c.next_token.new.walk ≡ record { instance = j; pending = behind (tree_of j) s.name token s.rest }) in
    let n : P i = subst P c.loop.invariant.same (c.in_ok-next_token.ensures s.name s.rest s.is) in
    record {
      count = omega (arith, ap length c.in_ok-push.ensures.items, length_push tokens token, c.loop.invariant.count);
      same = ap (λ w. w.instance) (n.1);
      rest =
          c.loop.invariant.rest ∙ ap (λ p. tokens ++ canonical_all tree cost p) s.is
          ∙ ap (λ ts. tokens ++ ts) (canonical-next tree cost (λ name le. children-none i name le) s.name s.rest token (n.0))
          ∙ sym (append_assoc tokens (token ∷ []) (canonical_all tree cost (behind tree s.name token s.rest)))
          ∙ ap (λ ts. ts ++ canonical_all tree cost (behind tree s.name token s.rest)) (sym c.in_ok-push.ensures.items)
          ∙ ap (λ p. c.push.new.self.items ++ canonical_all tree cost p) (sym (ap (λ w. w.pending) (n.1)));
    }

pub returns-then-is_over-2 : goal.returns-then-is_over-2
returns-then-is_over-2 c =
    let tree = tree_of c.args.problem.now in
    let over : c.loop.walk.pending ≡ [] = c.is_over-2.ensures.0 c.if-is_over-2.true in
    let whole : canonical tree c.args.cost ≡ c.loop.tokens.items =
    c.loop.invariant.rest ∙ ap (λ p. c.loop.tokens.items ++ canonical_all tree c.args.cost p) over ∙ append-nil c.loop.tokens.items in
    (sym whole, omega (arith, c.loop.invariant.count, c.loop.auto.counter-end))

pub returns : goal.returns
returns c =
    let tree = tree_of c.args.problem.now in
    let not_over : c.loop.walk.pending ≡ [] → ⊥ = λ e. let h = c.is_over-2.ensures.1 e in absurd (cc) in
    omega (
      arith,
      c.loop.invariant.count,
      c.loop-test.false,
      ap length c.loop.invariant.rest,
      length-append c.loop.tokens.items (canonical_all tree c.args.cost c.loop.walk.pending),
      some_pending tree c.args.cost c.loop.walk.pending not_over,
    )
