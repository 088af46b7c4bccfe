-- A fresh table is under the rule.
use Rattle.std.proofs.Common.{◌≡◌, ◌+◌, ℕ, sym, ap, ◌∙◌, subst, arith, suc}
use Rattle.std.specs.Prelude.{List, replicate, None}
use Rattle.atomic_table.specs.Table.{opening}
use Rattle.bb_shared.specs.StoreRules.{IsStore, giver}
use Rattle.bb_shared.proofs.StoreDeals.{opens}
use Rattle.bb_shared.proofs.store.nodes.Store.begin.Goals as goal

pub vacant-requires : goal.vacant-requires
vacant-requires g c = let small = c.requires.seats in let e : c.args.nodes + 1 ≡ suc c.args.nodes = omega arith in
    let words : c.as_slice.result.now ≡ replicate (suc c.args.nodes) 0 = c.as_slice.ensures.value ∙ (c.in_ok-words.ensures.items_if_clones_equal (λ y is. is) ∙ ap (λ (z : ℕ). replicate {A = ℕ} z 0) e) in
    subst (λ (z : List ℕ). IsStore c.args.seats (opening z (replicate c.args.nodes None) (giver c.args.seats c.args.seats))) (sym words) (opens c.args.seats c.args.nodes (omega arith))
