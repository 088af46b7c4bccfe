use Rattle.std.proofs.Common.{◌+◌, ◌*◌, [], ◌∷◌, refl, arith}
use Rattle.pq_seats.proofs.Lists.{in_first, in_later}
use Rattle.pq_hunt.specs.declared.nodes.Node.TheVariants.{Hole}
use Rattle.pq_nodes.specs.Views.{guard}
use Rattle.pq_hunt.specs.HeldPosts.{Leaves}
use Rattle.pq_hunt.proofs.Allowing.Moves.{may_raise_third}
use Rattle.pq_hunt.proofs.Calls.Sifted as sifted
use Rattle.pq_hunt.proofs.sift.rise_right.Goals as goal

pub raise_third-requires-clause-raise : goal.raise_third-requires-clause-raise
raise_third-requires-clause-raise c = let v = c.args.pass.now.seat.me.0 in let hole = c.args.hole in let hand = c.args.hand in let at = c.requires.at in let t = at.3 in let u = at.4 in
    let k = c.args.table.now.table.shared.key.capacity in let positive = c.requires.hole.0 in
    let g = guard hole t.word (Hole hand) in let l = guard (2 * hole) at.0 at.1 in let r = guard (2 * hole + 1) c.args.word at.2 in
    record {
      first = g;
      second = l;
      child = r;
      others = [];
      guards = sifted.guards_are v (g ∷ l ∷ r ∷ []) t.holds;
      is = refl;
      stored = refl;
      allowed = may_raise_third c.args.table.now.table.shared.key c.args.pass.now.seat.id v g l r [] (2 * hole) hand u.entry
          (sifted.guards_are v (g ∷ l ∷ r ∷ []) t.holds) refl (omega arith) (omega arith) u.has u.under
          (sifted.may_stand k v (g ∷ l ∷ r ∷ []) t.holds l (in_later g l (l ∷ r ∷ []) (in_first l (r ∷ []))) u.entry u.over);
    }

pub free_node-requires-clause-held : goal.free_node-requires-clause-held
free_node-requires-clause-held c = let v = c.args.pass.now.seat.me.0 in let hole = c.args.hole in let hand = c.args.hand in let at = c.requires.at in let t = at.3 in let u = at.4 in
    let k = c.args.table.now.table.shared.key.capacity in let positive = c.requires.hole.0 in
    let g = guard hole t.word (Hole hand) in let l = guard (2 * hole) at.0 at.1 in let r = guard (2 * hole + 1) c.args.word at.2 in
    let up = guard hole c.args.word at.2 in let f = guard (2 * hole + 1) c.args.word (Hole hand) in
    let y = c.raise_third.new.pass.seat.me.0 in
    let one : Leaves v y (up ∷ l ∷ f ∷ []) = sifted.sifts_right v y g l r [] t.holds c.raise_third.ensures.view in
    sifted.held_lock v y (up ∷ l ∷ f ∷ []) one up (in_first up (l ∷ f ∷ []))

pub free_node-requires-clause-counted : goal.free_node-requires-clause-counted
free_node-requires-clause-counted c = let v = c.args.pass.now.seat.me.0 in let hole = c.args.hole in let hand = c.args.hand in let at = c.requires.at in let t = at.3 in let u = at.4 in
    let k = c.args.table.now.table.shared.key.capacity in let positive = c.requires.hole.0 in
    let g = guard hole t.word (Hole hand) in let l = guard (2 * hole) at.0 at.1 in let r = guard (2 * hole + 1) c.args.word at.2 in
    let up = guard hole c.args.word at.2 in let f = guard (2 * hole + 1) c.args.word (Hole hand) in
    let y = c.raise_third.new.pass.seat.me.0 in
    let one : Leaves v y (up ∷ l ∷ f ∷ []) = sifted.sifts_right v y g l r [] t.holds c.raise_third.ensures.view in
    sifted.freeable v y (up ∷ l ∷ f ∷ []) one up (in_first up (l ∷ f ∷ [])) t.right_means

pub free_node-requires-2-clause-held : goal.free_node-requires-2-clause-held
free_node-requires-2-clause-held c = let v = c.args.pass.now.seat.me.0 in let hole = c.args.hole in let hand = c.args.hand in let at = c.requires.at in let t = at.3 in let u = at.4 in
    let k = c.args.table.now.table.shared.key.capacity in let positive = c.requires.hole.0 in
    let g = guard hole t.word (Hole hand) in let l = guard (2 * hole) at.0 at.1 in let r = guard (2 * hole + 1) c.args.word at.2 in
    let up = guard hole c.args.word at.2 in let f = guard (2 * hole + 1) c.args.word (Hole hand) in
    let y = c.raise_third.new.pass.seat.me.0 in
    let one : Leaves v y (up ∷ l ∷ f ∷ []) = sifted.sifts_right v y g l r [] t.holds c.raise_third.ensures.view in
    let z = c.free_node.new.pass.seat.me.0 in
    let two : Leaves v z (l ∷ f ∷ []) = sifted.frees_first v y z hole up (l ∷ f ∷ []) one c.free_node.ensures.freed refl ((λ e. omega arith), ((λ e. omega arith), tt)) in
    sifted.held_lock v z (l ∷ f ∷ []) two l (in_first l (f ∷ []))

pub free_node-requires-2-clause-counted : goal.free_node-requires-2-clause-counted
free_node-requires-2-clause-counted c = let v = c.args.pass.now.seat.me.0 in let hole = c.args.hole in let hand = c.args.hand in let at = c.requires.at in let t = at.3 in let u = at.4 in
    let k = c.args.table.now.table.shared.key.capacity in let positive = c.requires.hole.0 in
    let g = guard hole t.word (Hole hand) in let l = guard (2 * hole) at.0 at.1 in let r = guard (2 * hole + 1) c.args.word at.2 in
    let up = guard hole c.args.word at.2 in let f = guard (2 * hole + 1) c.args.word (Hole hand) in
    let y = c.raise_third.new.pass.seat.me.0 in
    let one : Leaves v y (up ∷ l ∷ f ∷ []) = sifted.sifts_right v y g l r [] t.holds c.raise_third.ensures.view in
    let z = c.free_node.new.pass.seat.me.0 in
    let two : Leaves v z (l ∷ f ∷ []) = sifted.frees_first v y z hole up (l ∷ f ∷ []) one c.free_node.ensures.freed refl ((λ e. omega arith), ((λ e. omega arith), tt)) in
    sifted.freeable v z (l ∷ f ∷ []) two l (in_first l (f ∷ [])) t.left_means

pub returns-clause-risen : goal.returns-clause-risen
returns-clause-risen c = let v = c.args.pass.now.seat.me.0 in let hole = c.args.hole in let hand = c.args.hand in let at = c.requires.at in let t = at.3 in let u = at.4 in
    let k = c.args.table.now.table.shared.key.capacity in let positive = c.requires.hole.0 in
    let g = guard hole t.word (Hole hand) in let l = guard (2 * hole) at.0 at.1 in let r = guard (2 * hole + 1) c.args.word at.2 in
    let up = guard hole c.args.word at.2 in let f = guard (2 * hole + 1) c.args.word (Hole hand) in
    let y = c.raise_third.new.pass.seat.me.0 in
    let one : Leaves v y (up ∷ l ∷ f ∷ []) = sifted.sifts_right v y g l r [] t.holds c.raise_third.ensures.view in
    let z = c.free_node.new.pass.seat.me.0 in
    let two : Leaves v z (l ∷ f ∷ []) = sifted.frees_first v y z hole up (l ∷ f ∷ []) one c.free_node.ensures.freed refl ((λ e. omega arith), ((λ e. omega arith), tt)) in
    sifted.frees_first v z c.free_node-2.new.pass.seat.me.0 (2 * hole) l (f ∷ []) two c.free_node-2.ensures.freed refl ((λ e. omega arith), tt)
