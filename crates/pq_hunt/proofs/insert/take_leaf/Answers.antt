use Rattle.std.proofs.Common.{ℕ, ap, sym, ◌∙◌, subst}
use Rattle.pq_seats.specs.declared.views.View.{View}
use Rattle.pq_hunt.specs.declared.nodes.Node.TheVariants.{Busy}
use Rattle.pq_hunt.specs.declared.views.HuntPart.{HuntPart}
use Rattle.pq_hunt.specs.Words.{Means}
use Rattle.pq_hunt.proofs.Calls.Sitting.{within}
use Rattle.pq_hunt.proofs.Calls.Leafing as leafing
use Rattle.pq_hunt.proofs.insert.take_leaf.Goals as goal

pub make_busy-requires-clause-leaf : goal.make_busy-requires-clause-leaf
make_busy-requires-clause-leaf g c =
    let n = c.args.pass.now.number in let leaf = c.args.leaf in let e = c.args.e in let t = c.take_node.ensures.took in let x = c.args.word in
    let v0 = c.args.pass.now.seat.me.0 in let v1 = c.take_node.new.pass.seat.me.0 in let v2 = c.store_size.new.pass.seat.me.0 in
    let q1 = leafing.to_locked n leaf e t.0 x t.1 v0 v1 c.requires.begun t.3 in
    leafing.can_leaf n leaf e t.0 x t.1 v2 c.requires.leaf.0 (leafing.to_sized n leaf e t.0 x t.1 v1 v2 q1 c.store_size.ensures.view)

pub make_busy-requires-clause-word : goal.make_busy-requires-clause-word
make_busy-requires-clause-word g c =
    let n = c.args.pass.now.number in let leaf = c.args.leaf in let e = c.args.e in let t = c.take_node.ensures.took in let x = c.args.word in let own = c.requires.own in let low = own.seated.0 in let high = own.seated.1 in
    let means : Means (Busy c.store_size.new.pass.number e) x = subst (λ (z : ℕ). Means (Busy z e) x) (sym (c.store_size.ensures.stays.same.0 ∙ c.take_node.ensures.stays.same.0)) (subst (λ (z : ℕ). Means (Busy n e) z) (sym c.requires.word) (leafing.busy_means n e low (within c.args.table.now n own))) in
    (e, means)

pub free_heap-requires-clause-held : goal.free_heap-requires-clause-held
free_heap-requires-clause-held g c =
    let n = c.args.pass.now.number in let leaf = c.args.leaf in let e = c.args.e in let t = c.take_node.ensures.took in let x = c.args.word in let own = c.requires.own in let low = own.seated.0 in let high = own.seated.1 in
    let means : Means (Busy c.store_size.new.pass.number e) x = subst (λ (z : ℕ). Means (Busy z e) x) (sym (c.store_size.ensures.stays.same.0 ∙ c.take_node.ensures.stays.same.0)) (subst (λ (z : ℕ). Means (Busy n e) z) (sym c.requires.word) (leafing.busy_means n e low (within c.args.table.now n own))) in
    let v0 = c.args.pass.now.seat.me.0 in let v1 = c.take_node.new.pass.seat.me.0 in let v2 = c.store_size.new.pass.seat.me.0 in
    let q1 = leafing.to_locked n leaf e t.0 x t.1 v0 v1 c.requires.begun t.3 in let q2 = leafing.to_sized n leaf e t.0 x t.1 v1 v2 q1 c.store_size.ensures.view in
    let v3 = c.make_busy.new.pass.seat.me.0 in let q3 = leafing.to_busy n leaf e t.0 x t.1 v2 v3 q2 (c.make_busy.ensures.view e means) in
    leafing.busy_held n leaf e t.0 x t.1 v3 q3

pub free_heap-requires-clause-stored : goal.free_heap-requires-clause-stored
free_heap-requires-clause-stored g c =
    let n = c.args.pass.now.number in let leaf = c.args.leaf in let e = c.args.e in let t = c.take_node.ensures.took in let x = c.args.word in let own = c.requires.own in let low = own.seated.0 in let high = own.seated.1 in
    let means : Means (Busy c.store_size.new.pass.number e) x = subst (λ (z : ℕ). Means (Busy z e) x) (sym (c.store_size.ensures.stays.same.0 ∙ c.take_node.ensures.stays.same.0)) (subst (λ (z : ℕ). Means (Busy n e) z) (sym c.requires.word) (leafing.busy_means n e low (within c.args.table.now n own))) in
    let v0 = c.args.pass.now.seat.me.0 in let v1 = c.take_node.new.pass.seat.me.0 in let v2 = c.store_size.new.pass.seat.me.0 in
    let q1 = leafing.to_locked n leaf e t.0 x t.1 v0 v1 c.requires.begun t.3 in let q2 = leafing.to_sized n leaf e t.0 x t.1 v1 v2 q1 c.store_size.ensures.view in
    let v3 = c.make_busy.new.pass.seat.me.0 in let q3 = leafing.to_busy n leaf e t.0 x t.1 v2 v3 q2 (c.make_busy.ensures.view e means) in
    leafing.busy_stored n leaf e t.0 x t.1 v3 q3

pub free_node-requires-clause-held : goal.free_node-requires-clause-held
free_node-requires-clause-held g c =
    let n = c.args.pass.now.number in let leaf = c.args.leaf in let e = c.args.e in let t = c.take_node.ensures.took in let x = c.args.word in let own = c.requires.own in let low = own.seated.0 in let high = own.seated.1 in
    let means : Means (Busy c.store_size.new.pass.number e) x = subst (λ (z : ℕ). Means (Busy z e) x) (sym (c.store_size.ensures.stays.same.0 ∙ c.take_node.ensures.stays.same.0)) (subst (λ (z : ℕ). Means (Busy n e) z) (sym c.requires.word) (leafing.busy_means n e low (within c.args.table.now n own))) in
    let v0 = c.args.pass.now.seat.me.0 in let v1 = c.take_node.new.pass.seat.me.0 in let v2 = c.store_size.new.pass.seat.me.0 in
    let q1 = leafing.to_locked n leaf e t.0 x t.1 v0 v1 c.requires.begun t.3 in let q2 = leafing.to_sized n leaf e t.0 x t.1 v1 v2 q1 c.store_size.ensures.view in
    let v3 = c.make_busy.new.pass.seat.me.0 in let q3 = leafing.to_busy n leaf e t.0 x t.1 v2 v3 q2 (c.make_busy.ensures.view e means) in
    let v4 = c.free_heap.new.pass.seat.me.0 in let q4 = leafing.to_unheaped n leaf e t.0 x t.1 v3 v4 q3 c.free_heap.ensures.freed in
    leafing.leaf_held n leaf e t.0 x t.1 v4 q4

pub free_node-requires-clause-counted : goal.free_node-requires-clause-counted
free_node-requires-clause-counted g c =
    let n = c.args.pass.now.number in let leaf = c.args.leaf in let e = c.args.e in let t = c.take_node.ensures.took in let x = c.args.word in let own = c.requires.own in let low = own.seated.0 in let high = own.seated.1 in
    let means : Means (Busy c.store_size.new.pass.number e) x = subst (λ (z : ℕ). Means (Busy z e) x) (sym (c.store_size.ensures.stays.same.0 ∙ c.take_node.ensures.stays.same.0)) (subst (λ (z : ℕ). Means (Busy n e) z) (sym c.requires.word) (leafing.busy_means n e low (within c.args.table.now n own))) in
    let v0 = c.args.pass.now.seat.me.0 in let v1 = c.take_node.new.pass.seat.me.0 in let v2 = c.store_size.new.pass.seat.me.0 in
    let q1 = leafing.to_locked n leaf e t.0 x t.1 v0 v1 c.requires.begun t.3 in let q2 = leafing.to_sized n leaf e t.0 x t.1 v1 v2 q1 c.store_size.ensures.view in
    let v3 = c.make_busy.new.pass.seat.me.0 in let q3 = leafing.to_busy n leaf e t.0 x t.1 v2 v3 q2 (c.make_busy.ensures.view e means) in
    let v4 = c.free_heap.new.pass.seat.me.0 in let q4 = leafing.to_unheaped n leaf e t.0 x t.1 v3 v4 q3 c.free_heap.ensures.freed in
    leafing.leaf_freeable n leaf e t.0 x t.1 v4 (subst (λ (z : ℕ). Means (Busy z e) x) (c.store_size.ensures.stays.same.0 ∙ c.take_node.ensures.stays.same.0) means) q4

pub returns-clause-flies : goal.returns-clause-flies
returns-clause-flies g c =
    let n = c.args.pass.now.number in let leaf = c.args.leaf in let e = c.args.e in let t = c.take_node.ensures.took in let x = c.args.word in let own = c.requires.own in let low = own.seated.0 in let high = own.seated.1 in
    let means : Means (Busy c.store_size.new.pass.number e) x = subst (λ (z : ℕ). Means (Busy z e) x) (sym (c.store_size.ensures.stays.same.0 ∙ c.take_node.ensures.stays.same.0)) (subst (λ (z : ℕ). Means (Busy n e) z) (sym c.requires.word) (leafing.busy_means n e low (within c.args.table.now n own))) in
    let v0 = c.args.pass.now.seat.me.0 in let v1 = c.take_node.new.pass.seat.me.0 in let v2 = c.store_size.new.pass.seat.me.0 in
    let q1 = leafing.to_locked n leaf e t.0 x t.1 v0 v1 c.requires.begun t.3 in let q2 = leafing.to_sized n leaf e t.0 x t.1 v1 v2 q1 c.store_size.ensures.view in
    let v3 = c.make_busy.new.pass.seat.me.0 in let q3 = leafing.to_busy n leaf e t.0 x t.1 v2 v3 q2 (c.make_busy.ensures.view e means) in
    let v4 = c.free_heap.new.pass.seat.me.0 in let q4 = leafing.to_unheaped n leaf e t.0 x t.1 v3 v4 q3 c.free_heap.ensures.freed in
    let v5 = c.free_node.new.pass.seat.me.0 in let f = c.free_node.ensures.freed in let u = c.free_heap.ensures.freed in let b = c.make_busy.ensures.view e means in
    record {
      post = leafing.to_flight n leaf e t.0 x t.1 v4 v5 q4 f;
      lanes = f.lanes ∙ (u.lanes ∙ (ap (λ (z : View HuntPart). z.lanes) b ∙ (ap (λ (z : View HuntPart). z.lanes) c.store_size.ensures.view ∙ t.3.lanes)));
      front = f.front ∙ (u.front ∙ (ap (λ (z : View HuntPart). z.front) b ∙ (ap (λ (z : View HuntPart). z.front) c.store_size.ensures.view ∙ t.3.front)));
    }
