use Rattle.std.proofs.Common.{rules, ◌≡◌, ◌<◌, ◌∷◌, ◌++◌, [], ℕ, map, Some, sym, ap, ◌∙◌, subst, arith}
use Rattle.bb_pool.specs.Keys.{taken_key, node_in, AreKeys}
use Rattle.bb_pool.proofs.Keys.{keys_push, nodes_push}
use Rattle.bb_pool.proofs.store.Store.push.Goals as goal

pub invariant_of-self-2 : goal.invariant_of-self-2
invariant_of-self-2 g c = let keys = c.self.inside.keys.items in let key = c.vacant_key-key.result in
    let is : c.insert_reserved.result ≡ key = c.insert_reserved.ensures.key ∙ sym c.vacant_key-key.ensures.value in
    let few : key < taken_key = search rules in
    let kept : AreKeys c.reserve.new.self.slots keys = subst (λ s. AreKeys s.slots keys) (sym c.reserve.ensures.rest_kept) c.self.invariant in
    subst (AreKeys c.insert_reserved.new.self.slots) (sym c.in_ok-push.ensures.items)
    (keys_push c.reserve.new.self.slots c.insert_reserved.new.self.slots keys key c.args.node kept c.vacant_key-key.ensures.vacant (λ same. omega arith)
    (subst (λ (k : ℕ). node_in c.insert_reserved.new.self.slots k ≡ Some c.args.node) is c.insert_reserved.ensures.updates.changed)
    (λ other apart. c.insert_reserved.ensures.updates.others other (λ same. apart (same ∙ is))))

pub returns : goal.returns
returns g c = let keys = c.self.inside.keys.items in let key = c.vacant_key-key.result in
    let is : c.insert_reserved.result ≡ key = c.insert_reserved.ensures.key ∙ sym c.vacant_key-key.ensures.value in
    let few : key < taken_key = search rules in
    let kept : AreKeys c.reserve.new.self.slots keys = subst (λ s. AreKeys s.slots keys) (sym c.reserve.ensures.rest_kept) c.self.invariant in
    let made = nodes_push c.reserve.new.self.slots c.insert_reserved.new.self.slots keys key c.args.node kept c.vacant_key-key.ensures.vacant (λ same. omega arith)
    (subst (λ (k : ℕ). node_in c.insert_reserved.new.self.slots k ≡ Some c.args.node) is c.insert_reserved.ensures.updates.changed)
    (λ other apart. c.insert_reserved.ensures.updates.others other (λ same. apart (same ∙ is))) in
    let pushed = ap (map (node_in c.insert_reserved.new.self.slots)) c.in_ok-push.ensures.items in
    let before = ap (λ s. map (node_in s.slots) keys ++ Some c.args.node ∷ []) c.reserve.ensures.rest_kept in
    pushed ∙ made ∙ before ∙ ap (λ l. l ++ Some c.args.node ∷ []) c.self.view_is
