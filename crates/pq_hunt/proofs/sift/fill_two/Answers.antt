use Rattle.std.proofs.Common.{◌+◌, ◌*◌, [], ◌∷◌, refl, arith}
use Rattle.pq_seats.proofs.Lists.{in_first, in_later}
use Rattle.pq_hunt.specs.declared.nodes.Node.TheVariants.{Hole}
use Rattle.pq_nodes.specs.Views.{guard}
use Rattle.pq_hunt.specs.HeldPosts.{Leaves}
use Rattle.pq_hunt.specs.Sifting.{CanFillFirst}
use Rattle.pq_hunt.proofs.Calls.Sifted as sifted
use Rattle.pq_hunt.proofs.sift.fill_two.Goals as goal

pub fill_hole-requires-clause-fill : goal.fill_hole-requires-clause-fill
fill_hole-requires-clause-fill c = let v = c.args.pass.now.seat.me.0 in let hole = c.args.hole in let hand = c.args.hand in let at = c.requires.at in let t = at.4 in
    let k = c.args.table.now.table.shared.key.capacity in let positive = c.requires.hole.0 in
    let g = guard hole t.word (Hole hand) in let l = guard (2 * hole) at.0 at.1 in let r = guard (2 * hole + 1) at.2 at.3 in (
      l ∷ r ∷ [],
      record {
        word = t.word;
        holds = t.holds;
        apart = ((λ e. omega arith), ((λ e. omega arith), tt));
        over_left = sifted.may_stand k v (g ∷ l ∷ r ∷ []) t.holds l (in_later g l (l ∷ r ∷ []) (in_first l (r ∷ []))) hand at.5;
        over_right = sifted.may_stand k v (g ∷ l ∷ r ∷ []) t.holds r (in_later g r (l ∷ r ∷ []) (in_later l r (r ∷ []) (in_first r []))) hand at.6;
      },
    )

pub free_node-requires-clause-held : goal.free_node-requires-clause-held
free_node-requires-clause-held c = let v = c.args.pass.now.seat.me.0 in let hole = c.args.hole in let hand = c.args.hand in let at = c.requires.at in let t = at.4 in
    let k = c.args.table.now.table.shared.key.capacity in let positive = c.requires.hole.0 in
    let g = guard hole t.word (Hole hand) in let l = guard (2 * hole) at.0 at.1 in let r = guard (2 * hole + 1) at.2 at.3 in
    let fits : CanFillFirst k v hole hand (l ∷ r ∷ []) = record {
      word = t.word;
      holds = t.holds;
      apart = ((λ e. omega arith), ((λ e. omega arith), tt));
      over_left = sifted.may_stand k v (g ∷ l ∷ r ∷ []) t.holds l (in_later g l (l ∷ r ∷ []) (in_first l (r ∷ []))) hand at.5;
      over_right = sifted.may_stand k v (g ∷ l ∷ r ∷ []) t.holds r (in_later g r (l ∷ r ∷ []) (in_later l r (r ∷ []) (in_first r []))) hand at.6;
    } in
    let y = c.fill_hole.new.pass.seat.me.0 in
    let one : Leaves v y (l ∷ r ∷ []) = c.fill_hole.ensures.filled (l ∷ r ∷ []) fits in
    sifted.held_lock v y (l ∷ r ∷ []) one l (in_first l (r ∷ []))

pub free_node-requires-clause-counted : goal.free_node-requires-clause-counted
free_node-requires-clause-counted c = let v = c.args.pass.now.seat.me.0 in let hole = c.args.hole in let hand = c.args.hand in let at = c.requires.at in let t = at.4 in
    let k = c.args.table.now.table.shared.key.capacity in let positive = c.requires.hole.0 in
    let g = guard hole t.word (Hole hand) in let l = guard (2 * hole) at.0 at.1 in let r = guard (2 * hole + 1) at.2 at.3 in
    let fits : CanFillFirst k v hole hand (l ∷ r ∷ []) = record {
      word = t.word;
      holds = t.holds;
      apart = ((λ e. omega arith), ((λ e. omega arith), tt));
      over_left = sifted.may_stand k v (g ∷ l ∷ r ∷ []) t.holds l (in_later g l (l ∷ r ∷ []) (in_first l (r ∷ []))) hand at.5;
      over_right = sifted.may_stand k v (g ∷ l ∷ r ∷ []) t.holds r (in_later g r (l ∷ r ∷ []) (in_later l r (r ∷ []) (in_first r []))) hand at.6;
    } in
    let y = c.fill_hole.new.pass.seat.me.0 in
    let one : Leaves v y (l ∷ r ∷ []) = c.fill_hole.ensures.filled (l ∷ r ∷ []) fits in
    sifted.freeable v y (l ∷ r ∷ []) one l (in_first l (r ∷ [])) t.left_means

pub free_node-requires-2-clause-held : goal.free_node-requires-2-clause-held
free_node-requires-2-clause-held c = let v = c.args.pass.now.seat.me.0 in let hole = c.args.hole in let hand = c.args.hand in let at = c.requires.at in let t = at.4 in
    let k = c.args.table.now.table.shared.key.capacity in let positive = c.requires.hole.0 in
    let g = guard hole t.word (Hole hand) in let l = guard (2 * hole) at.0 at.1 in let r = guard (2 * hole + 1) at.2 at.3 in
    let fits : CanFillFirst k v hole hand (l ∷ r ∷ []) = record {
      word = t.word;
      holds = t.holds;
      apart = ((λ e. omega arith), ((λ e. omega arith), tt));
      over_left = sifted.may_stand k v (g ∷ l ∷ r ∷ []) t.holds l (in_later g l (l ∷ r ∷ []) (in_first l (r ∷ []))) hand at.5;
      over_right = sifted.may_stand k v (g ∷ l ∷ r ∷ []) t.holds r (in_later g r (l ∷ r ∷ []) (in_later l r (r ∷ []) (in_first r []))) hand at.6;
    } in
    let y = c.fill_hole.new.pass.seat.me.0 in
    let one : Leaves v y (l ∷ r ∷ []) = c.fill_hole.ensures.filled (l ∷ r ∷ []) fits in
    let z = c.free_node.new.pass.seat.me.0 in
    let two : Leaves v z (r ∷ []) = sifted.frees_first v y z (2 * hole) l (r ∷ []) one c.free_node.ensures.freed refl ((λ e. omega arith), tt) in
    sifted.held_lock v z (r ∷ []) two r (in_first r [])

pub free_node-requires-2-clause-counted : goal.free_node-requires-2-clause-counted
free_node-requires-2-clause-counted c = let v = c.args.pass.now.seat.me.0 in let hole = c.args.hole in let hand = c.args.hand in let at = c.requires.at in let t = at.4 in
    let k = c.args.table.now.table.shared.key.capacity in let positive = c.requires.hole.0 in
    let g = guard hole t.word (Hole hand) in let l = guard (2 * hole) at.0 at.1 in let r = guard (2 * hole + 1) at.2 at.3 in
    let fits : CanFillFirst k v hole hand (l ∷ r ∷ []) = record {
      word = t.word;
      holds = t.holds;
      apart = ((λ e. omega arith), ((λ e. omega arith), tt));
      over_left = sifted.may_stand k v (g ∷ l ∷ r ∷ []) t.holds l (in_later g l (l ∷ r ∷ []) (in_first l (r ∷ []))) hand at.5;
      over_right = sifted.may_stand k v (g ∷ l ∷ r ∷ []) t.holds r (in_later g r (l ∷ r ∷ []) (in_later l r (r ∷ []) (in_first r []))) hand at.6;
    } in
    let y = c.fill_hole.new.pass.seat.me.0 in
    let one : Leaves v y (l ∷ r ∷ []) = c.fill_hole.ensures.filled (l ∷ r ∷ []) fits in
    let z = c.free_node.new.pass.seat.me.0 in
    let two : Leaves v z (r ∷ []) = sifted.frees_first v y z (2 * hole) l (r ∷ []) one c.free_node.ensures.freed refl ((λ e. omega arith), tt) in
    sifted.freeable v z (r ∷ []) two r (in_first r []) t.right_means

pub returns-clause-filled : goal.returns-clause-filled
returns-clause-filled c = let v = c.args.pass.now.seat.me.0 in let hole = c.args.hole in let hand = c.args.hand in let at = c.requires.at in let t = at.4 in
    let k = c.args.table.now.table.shared.key.capacity in let positive = c.requires.hole.0 in
    let g = guard hole t.word (Hole hand) in let l = guard (2 * hole) at.0 at.1 in let r = guard (2 * hole + 1) at.2 at.3 in
    let fits : CanFillFirst k v hole hand (l ∷ r ∷ []) = record {
      word = t.word;
      holds = t.holds;
      apart = ((λ e. omega arith), ((λ e. omega arith), tt));
      over_left = sifted.may_stand k v (g ∷ l ∷ r ∷ []) t.holds l (in_later g l (l ∷ r ∷ []) (in_first l (r ∷ []))) hand at.5;
      over_right = sifted.may_stand k v (g ∷ l ∷ r ∷ []) t.holds r (in_later g r (l ∷ r ∷ []) (in_later l r (r ∷ []) (in_first r []))) hand at.6;
    } in
    let y = c.fill_hole.new.pass.seat.me.0 in
    let one : Leaves v y (l ∷ r ∷ []) = c.fill_hole.ensures.filled (l ∷ r ∷ []) fits in
    let z = c.free_node.new.pass.seat.me.0 in
    let two : Leaves v z (r ∷ []) = sifted.frees_first v y z (2 * hole) l (r ∷ []) one c.free_node.ensures.freed refl ((λ e. omega arith), tt) in
    sifted.frees_first v z c.free_node-2.new.pass.seat.me.0 (2 * hole + 1) r [] two c.free_node-2.ensures.freed refl tt
