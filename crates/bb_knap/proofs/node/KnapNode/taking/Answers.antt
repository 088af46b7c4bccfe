use Rattle.std.proofs.Common.{◌≡◌, ℕ, ◌+◌, ◌-◌, ◌/◌, ◌%◌, ◌≤◌, List, [], ◌∷◌, ◌++◌, take, subst, ap, ◌∙◌, arith}
use Rattle.std.specs.Prelude.{min, IfOk}
use Rattle.inst_text.specs.Limits.{max_knapsack_capacity}
use Rattle.bb_knap.specs.Branching.{Node}
use Rattle.bb_knap.specs.Decisions.{word_bits, all_bits, words_of, AreDecisions}
use Rattle.bb_knap.proofs.node.KnapNode.taking.Goals as goal

node_of : List ℕ → ℕ → ℕ → Node
node_of ds room value = record { decisions = ds; room = room; value = value }

pub invariant_of-node : goal.invariant_of-node
invariant_of-node c =
    let n = c.self.inside in
    let kept : AreDecisions c.in_ok-copied.field-0 n.last n.count = record {
      full = c.in_ok-copied.ensures.full (n.count / 64) (c.self.invariant.0.full);
      last = c.self.invariant.0.last;
      few = c.self.invariant.0.few;
    } in
    let small : n.room - c.from.result ≤ max_knapsack_capacity = omega (arith, c.self.invariant.1) in
    (kept, small)

pub returns : goal.returns
unfolding node_of
returns c =
    let n = c.self.inside in
    let bits = λ (ws : List ℕ). all_bits (take (n.count / 64) ws) ++ word_bits (n.count % 64) n.last in
    let same =
    ap (λ ws. node_of (bits ws ++ 1 ∷ []) (n.room - c.from.result) c.saturating_add.result) c.in_ok-copied.ensures.words
    ∙ ap (λ w. node_of (bits (words_of n.full) ++ 1 ∷ []) (n.room - w) c.saturating_add.result) c.from.ensures
    ∙ ap (λ v. node_of (bits (words_of n.full) ++ 1 ∷ []) (n.room - c.args.item.weight) v) c.saturating_add.ensures
    ∙ ap (λ (m : Node). node_of (m.decisions ++ 1 ∷ []) (m.room - c.args.item.weight) (min (m.value + c.args.item.value) 4294967295)) c.self.view_is in
    subst (λ (m : Node). IfOk c.deciding.result (λ child. child ≡ m)) same c.deciding.ensures
