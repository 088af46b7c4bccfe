use Rattle.std.proofs.Common.{◌≡◌, ℕ, set, Some, None, sym, ap, ◌∙◌, subst}
use Rattle.std.specs.Prelude.{slice_get}
use Rattle.bb_pool.specs.Keys.{node_in}
use Rattle.bb_pool.proofs.Keys.{Empties, keys_take, nodes_take, key_at}
use Rattle.bb_pool.proofs.store.Store.take.Goals as goal

pub invariant_of-self : goal.invariant_of-self
invariant_of-self g c = let slots = c.self.inside.nodes.slots in let keys = c.self.inside.keys.items in let key = c.index-key.result.now in
    let there = subst (λ l. slice_get l c.args.number ≡ Some (Some c.requires.0)) (sym c.self.view_is) c.requires.1 in
    let at = key_at slots keys c.args.number key c.requires.0 there in
    let e : Empties slots c.remove.new.self.slots key = record { gone = c.remove.ensures.updates.changed; same = c.remove.ensures.updates.others } in
    keys_take slots c.remove.new.self.slots keys c.args.number key c.remove.result c.self.invariant e c.remove.ensures.value (at.0 ∙ ap (λ (k : ℕ). Some k) (sym c.index-key.ensures))

pub returns-clause-node : goal.returns-clause-node
returns-clause-node g c = let slots = c.self.inside.nodes.slots in let keys = c.self.inside.keys.items in let key = c.index-key.result.now in
    let there = subst (λ l. slice_get l c.args.number ≡ Some (Some c.requires.0)) (sym c.self.view_is) c.requires.1 in
    let at = key_at slots keys c.args.number key c.requires.0 there in
    let same : Some c.remove.result ≡ Some c.requires.0 = sym c.remove.ensures.value ∙ ap (node_in slots) c.index-key.ensures ∙ at.1 in
    c.requires.1 ∙ ap (λ o. Some o) (sym same)

pub returns-clause-rest : goal.returns-clause-rest
returns-clause-rest g c = let slots = c.self.inside.nodes.slots in let keys = c.self.inside.keys.items in let key = c.index-key.result.now in
    let there = subst (λ l. slice_get l c.args.number ≡ Some (Some c.requires.0)) (sym c.self.view_is) c.requires.1 in
    let at = key_at slots keys c.args.number key c.requires.0 there in
    let is : slice_get keys c.args.number ≡ Some key = at.0 ∙ ap (λ (k : ℕ). Some k) (sym c.index-key.ensures) in
    let e : Empties slots c.remove.new.self.slots key = record { gone = c.remove.ensures.updates.changed; same = c.remove.ensures.updates.others } in
    let now = keys_take slots c.remove.new.self.slots keys c.args.number key c.remove.result c.self.invariant e c.remove.ensures.value is in
    nodes_take slots c.remove.new.self.slots keys c.args.number key c.remove.result e now.none_taken c.remove.ensures.value is c.self.invariant.apart ∙ ap (λ l. set l c.args.number None) c.self.view_is
