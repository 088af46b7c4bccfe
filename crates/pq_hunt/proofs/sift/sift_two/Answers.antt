use Rattle.std.proofs.Common.{◌≡◌, ℕ, ◌+◌, ◌*◌, [], ◌∷◌, refl, sym, subst}
use Rattle.pq_seats.proofs.Lists.{in_first, in_later}
use Rattle.pq_hunt.specs.declared.nodes.Node.TheVariants.{Hole}
use Rattle.pq_nodes.specs.Views.{guard}
use Rattle.pq_hunt.specs.Words.{Means}
use Rattle.pq_hunt.specs.HeldPosts.{Leaves}
use Rattle.pq_hunt.proofs.Calls.Sifted as sifted
use Rattle.pq_hunt.proofs.sift.sift_two.Goals as goal

pub choose-requires-clause-at : goal.choose-requires-clause-at
choose-requires-clause-at g c = let v = c.args.pass.now.seat.me.0 in let hole = c.args.hole in let hand = c.args.hand in let h = c.requires.holds in
    let k = c.args.table.now.table.shared.key.capacity in
    let u = c.take_node.new.pass.seat.me.0 in let w = c.take_node-2.new.pass.seat.me.0 in let x = c.look-left.new.pass.seat.me.0 in let y = c.look-right.new.pass.seat.me.0 in
    let s = c.take_node.ensures.took in let t = c.take_node-2.ensures.took in let left = c.look-left.result in let right = c.look-right.result in
    let g = guard hole h.0 (Hole hand) in let was = guard (2 * hole) s.0 s.1 in let were = guard (2 * hole + 1) t.0 t.1 in let gs = g ∷ was ∷ were ∷ [] in
    let first : Leaves v u (g ∷ was ∷ []) = sifted.takes_second v v u g (2 * hole) (sifted.starts v (g ∷ []) h.1) s in
    let took : Leaves v w gs = sifted.takes_third v u w g was (2 * hole + 1) first t in
    let same : left ≡ s.0 = c.look-left.ensures.word was (sifted.guard_in v w gs took was (in_later g was (was ∷ were ∷ []) (in_first was (were ∷ [])))) refl in
    let saw : Leaves v x gs = sifted.seen v w x gs took c.look-left.ensures.view in
    let same' : right ≡ t.0 = c.look-right.ensures.word were (sifted.guard_in v x gs saw were (in_later g were (was ∷ were ∷ []) (in_later was were (were ∷ []) (in_first were [])))) refl in
    let saw' : Leaves v y gs = sifted.seen v x y gs saw c.look-right.ensures.view in
    let both : Leaves v y (g ∷ guard (2 * hole) left s.1 ∷ guard (2 * hole + 1) right t.1 ∷ []) =
    subst (λ (n : ℕ). Leaves v y (g ∷ guard (2 * hole) n s.1 ∷ guard (2 * hole + 1) right t.1 ∷ [])) (sym same)
    (subst (λ (n : ℕ). Leaves v y (g ∷ was ∷ guard (2 * hole + 1) n t.1 ∷ [])) (sym same') saw') in (
      s.1,
      t.1,
      record {
        word = h.0;
        holds = sifted.holds_then v y (g ∷ guard (2 * hole) left s.1 ∷ guard (2 * hole + 1) right t.1 ∷ []) both;
        left_means = subst (Means s.1) (sym same) s.2;
        right_means = subst (Means t.1) (sym same') t.2;
      },
    )

pub returns-clause-sifted : goal.returns-clause-sifted
returns-clause-sifted g c = let v = c.args.pass.now.seat.me.0 in let hole = c.args.hole in let hand = c.args.hand in let h = c.requires.holds in
    let k = c.args.table.now.table.shared.key.capacity in
    let u = c.take_node.new.pass.seat.me.0 in let w = c.take_node-2.new.pass.seat.me.0 in let x = c.look-left.new.pass.seat.me.0 in let y = c.look-right.new.pass.seat.me.0 in
    let s = c.take_node.ensures.took in let t = c.take_node-2.ensures.took in let left = c.look-left.result in let right = c.look-right.result in
    let g = guard hole h.0 (Hole hand) in let was = guard (2 * hole) s.0 s.1 in let were = guard (2 * hole + 1) t.0 t.1 in let gs = g ∷ was ∷ were ∷ [] in
    let first : Leaves v u (g ∷ was ∷ []) = sifted.takes_second v v u g (2 * hole) (sifted.starts v (g ∷ []) h.1) s in
    let took : Leaves v w gs = sifted.takes_third v u w g was (2 * hole + 1) first t in
    let same : left ≡ s.0 = c.look-left.ensures.word was (sifted.guard_in v w gs took was (in_later g was (was ∷ were ∷ []) (in_first was (were ∷ [])))) refl in
    let saw : Leaves v x gs = sifted.seen v w x gs took c.look-left.ensures.view in
    let same' : right ≡ t.0 = c.look-right.ensures.word were (sifted.guard_in v x gs saw were (in_later g were (was ∷ were ∷ []) (in_later was were (were ∷ []) (in_first were [])))) refl in
    let saw' : Leaves v y gs = sifted.seen v x y gs saw c.look-right.ensures.view in
    let both : Leaves v y (g ∷ guard (2 * hole) left s.1 ∷ guard (2 * hole + 1) right t.1 ∷ []) =
    subst (λ (n : ℕ). Leaves v y (g ∷ guard (2 * hole) n s.1 ∷ guard (2 * hole + 1) right t.1 ∷ [])) (sym same)
    (subst (λ (n : ℕ). Leaves v y (g ∷ was ∷ guard (2 * hole + 1) n t.1 ∷ [])) (sym same') saw') in
    sifted.turns_on k v y c.choose.new.pass.seat.me.0 (g ∷ guard (2 * hole) left s.1 ∷ guard (2 * hole + 1) right t.1 ∷ []) hole hand c.choose.result both c.choose.ensures.sifted
