use Rattle.std.proofs.Common.{◌≡◌, ℕ, ◌+◌, false, List, [], Some, length, get_or, refl, sym, ap, ◌∙◌, subst, arith}
use Rattle.inst_text.specs.Knapsack.{Instance}
use Rattle.bb_knap.specs.Branching.{tree_of}
use Rattle.bb_proof.specs.Tokens.{is_right, behind}
use Rattle.bb_proof.proofs.Bad.{IsBadFrom, bad-init, bad-next, bad-here, bad-over, bad-done, bad-more, some_of}
use Rattle.bb_proof.proofs.verifying.first_bad.Goals as goal
use Rattle.bb_proof.proofs.verifying.first_bad.Goals.{then-is_over-via-then-is_over, then-is_over-via-else-is_over+then-not-is_right}

pub loop-place-init : goal.loop-place-init
loop-place-init c =
    let tree = tree_of c.args.problem.now in
    let P : List (List ℕ) → Type 0 = λ p. IsBadFrom tree c.args.cost c.args.tokens.now 0 p in
    record {
      same = ap (λ w. w.instance) c.in_ok-walk.ensures;
      bad = subst P (sym (ap (λ w. w.pending) c.in_ok-walk.ensures)) (bad-init tree c.args.cost c.args.tokens.now);
    }

pub returns-then-is_over : goal.returns-then-is_over
returns-then-is_over c =
    let tree = tree_of c.args.problem.now in
    let cost = c.args.cost in
    let tokens = c.args.tokens.now in
    let place = c.loop-place.place in
    let token = get_or tokens place false in
    elim c.then-is_over.branch [
      | then-is_over-via-then-is_over w ↦
          let over : c.loop-place.walk.pending ≡ [] = c.is_over.ensures.0 w.if-is_over.true in
          let P : List (List ℕ) → Type 0 = λ p. IsBadFrom tree cost tokens place p in
          sym (bad-over tree cost tokens place token (subst P over c.loop-place.invariant.bad) c.loop-place-test.true refl)
      | then-is_over-via-else-is_over+then-not-is_right w ↦
          let not_over : c.loop-place.walk.pending ≡ [] → ⊥ = λ e. let h = c.is_over.ensures.1 e in let f = w.if-is_over.false in absurd (cc) in
          let s = some_of c.loop-place.walk.pending not_over in
          let Q : Instance → Type 0 = λ i. w.is_right.result ≡ is_right (tree_of i) cost s.name token in
          let right = subst Q c.loop-place.invariant.same (w.is_right.ensures s.name s.rest s.is) in
          let P : List (List ℕ) → Type 0 = λ p. IsBadFrom tree cost tokens place p in
          sym (bad-here tree cost tokens place s.name s.rest token (subst P s.is c.loop-place.invariant.bad) c.loop-place-test.true refl (sym right ∙ w.if-not-is_right.true))
    ]

pub loop-place-preserved : goal.loop-place-preserved
loop-place-preserved c =
    let i = c.args.problem.now in
    let tree = tree_of i in
    let cost = c.args.cost in
    let tokens = c.args.tokens.now in
    let place = c.loop-place.place in
    let token = get_or tokens place false in
    let not_over : c.loop-place.walk.pending ≡ [] → ⊥ = λ e. let h = c.is_over.ensures.1 e in let f = c.if-is_over.false in absurd (cc) in
    let s = some_of c.loop-place.walk.pending not_over in
    let Q : Instance → Type 0 = λ j. c.is_right.result ≡ is_right (tree_of j) cost s.name token in
    let right = subst Q c.loop-place.invariant.same (c.is_right.ensures s.name s.rest s.is) in
    let R : Instance → Type 0 = λ j. c.follow.new.walk ≡ record { instance = j; pending = behind (tree_of j) s.name token s.rest } in
    let followed : R i = subst R c.loop-place.invariant.same (c.in_ok-follow.ensures s.name s.rest s.is) in
    let P : List (List ℕ) → Type 0 = λ p. IsBadFrom tree cost tokens place p in
    let N : List (List ℕ) → Type 0 = λ p. IsBadFrom tree cost tokens (place + 1) p in
    let next = bad-next tree cost tokens place s.name s.rest token (subst P s.is c.loop-place.invariant.bad) c.loop-place-test.true refl (sym right ∙ c.if-not-is_right.false) in
    record {
      same = ap (λ w. w.instance) followed;
      bad = subst N (sym (ap (λ w. w.pending) followed)) next;
    }

pub returns-then-is_over-2 : goal.returns-then-is_over-2
returns-then-is_over-2 c =
    let tree = tree_of c.args.problem.now in
    let over : c.loop-place.walk.pending ≡ [] = c.is_over-2.ensures.0 c.if-is_over-2.true in
    let P : List (List ℕ) → Type 0 = λ p. IsBadFrom tree c.args.cost c.args.tokens.now c.loop-place.place p in
    sym (bad-done tree c.args.cost c.args.tokens.now c.loop-place.place (subst P over c.loop-place.invariant.bad) c.loop-place-test.false)

pub returns : goal.returns
returns c =
    let tree = tree_of c.args.problem.now in
    let tokens = c.args.tokens.now in
    let not_over : c.loop-place.walk.pending ≡ [] → ⊥ = λ e. let h = c.is_over-2.ensures.1 e in let f = c.if-is_over-2.false in absurd (cc) in
    let end : c.loop-place.place ≡ length tokens = omega (arith, c.loop-place-test.false, c.loop-place.auto.place-end) in
    ap Some (sym end) ∙ sym (bad-more tree c.args.cost tokens c.loop-place.place c.loop-place.walk.pending c.loop-place.invariant.bad not_over c.loop-place-test.false)
