use Rattle.std.proofs.Common.{◌+◌, ◌*◌, [], ◌∷◌, refl, arith}
use Rattle.pq_seats.proofs.Lists.{in_first, in_later}
use Rattle.pq_hunt.specs.declared.nodes.Node.TheVariants.{Hole}
use Rattle.pq_nodes.specs.Views.{guard}
use Rattle.pq_hunt.specs.HeldPosts.{Leaves}
use Rattle.pq_hunt.specs.Sifting.{CanRiseLeft}
use Rattle.pq_hunt.proofs.Calls.Sifted as sifted
use Rattle.pq_hunt.proofs.sift.rise_left_of_two.Goals as goal

pub rise_left-requires-clause-rise : goal.rise_left-requires-clause-rise
rise_left-requires-clause-rise c = let v = c.args.pass.now.seat.me.0 in let hole = c.args.hole in let hand = c.args.hand in let at = c.requires.at in let t = at.3 in let u = at.4 in
    let k = c.args.table.now.table.shared.key.capacity in let positive = c.requires.hole.0 in
    let g = guard hole t.word (Hole hand) in let l = guard (2 * hole) c.args.word at.0 in let r = guard (2 * hole + 1) at.1 at.2 in
    let f = guard (2 * hole) c.args.word (Hole hand) in (
      at.0,
      r ∷ [],
      record {
        hole_word = t.word;
        holds = t.holds;
        apart = ((λ e. omega arith), tt);
        means = t.left_means;
        entry = u.entry;
        has = u.has;
        under = u.under;
        over = sifted.may_stand k v (g ∷ l ∷ r ∷ []) t.holds r (in_later g r (l ∷ r ∷ []) (in_later l r (r ∷ []) (in_first r []))) u.entry u.over;
      },
    )

pub free_node-requires-clause-held : goal.free_node-requires-clause-held
free_node-requires-clause-held c = let v = c.args.pass.now.seat.me.0 in let hole = c.args.hole in let hand = c.args.hand in let at = c.requires.at in let t = at.3 in let u = at.4 in
    let k = c.args.table.now.table.shared.key.capacity in let positive = c.requires.hole.0 in
    let g = guard hole t.word (Hole hand) in let l = guard (2 * hole) c.args.word at.0 in let r = guard (2 * hole + 1) at.1 at.2 in
    let f = guard (2 * hole) c.args.word (Hole hand) in
    let fits : CanRiseLeft k v hole c.args.word hand at.0 (r ∷ []) = record {
      hole_word = t.word;
      holds = t.holds;
      apart = ((λ e. omega arith), tt);
      means = t.left_means;
      entry = u.entry;
      has = u.has;
      under = u.under;
      over = sifted.may_stand k v (g ∷ l ∷ r ∷ []) t.holds r (in_later g r (l ∷ r ∷ []) (in_later l r (r ∷ []) (in_first r []))) u.entry u.over;
    } in
    let y = c.rise_left.new.pass.seat.me.0 in
    let one : Leaves v y (f ∷ r ∷ []) = c.rise_left.ensures.risen at.0 (r ∷ []) fits in
    sifted.held_lock v y (f ∷ r ∷ []) one r (in_later f r (r ∷ []) (in_first r []))

pub free_node-requires-clause-counted : goal.free_node-requires-clause-counted
free_node-requires-clause-counted c = let v = c.args.pass.now.seat.me.0 in let hole = c.args.hole in let hand = c.args.hand in let at = c.requires.at in let t = at.3 in let u = at.4 in
    let k = c.args.table.now.table.shared.key.capacity in let positive = c.requires.hole.0 in
    let g = guard hole t.word (Hole hand) in let l = guard (2 * hole) c.args.word at.0 in let r = guard (2 * hole + 1) at.1 at.2 in
    let f = guard (2 * hole) c.args.word (Hole hand) in
    let fits : CanRiseLeft k v hole c.args.word hand at.0 (r ∷ []) = record {
      hole_word = t.word;
      holds = t.holds;
      apart = ((λ e. omega arith), tt);
      means = t.left_means;
      entry = u.entry;
      has = u.has;
      under = u.under;
      over = sifted.may_stand k v (g ∷ l ∷ r ∷ []) t.holds r (in_later g r (l ∷ r ∷ []) (in_later l r (r ∷ []) (in_first r []))) u.entry u.over;
    } in
    let y = c.rise_left.new.pass.seat.me.0 in
    let one : Leaves v y (f ∷ r ∷ []) = c.rise_left.ensures.risen at.0 (r ∷ []) fits in
    sifted.freeable v y (f ∷ r ∷ []) one r (in_later f r (r ∷ []) (in_first r [])) t.right_means

pub returns-clause-risen : goal.returns-clause-risen
returns-clause-risen c = let v = c.args.pass.now.seat.me.0 in let hole = c.args.hole in let hand = c.args.hand in let at = c.requires.at in let t = at.3 in let u = at.4 in
    let k = c.args.table.now.table.shared.key.capacity in let positive = c.requires.hole.0 in
    let g = guard hole t.word (Hole hand) in let l = guard (2 * hole) c.args.word at.0 in let r = guard (2 * hole + 1) at.1 at.2 in
    let f = guard (2 * hole) c.args.word (Hole hand) in
    let fits : CanRiseLeft k v hole c.args.word hand at.0 (r ∷ []) = record {
      hole_word = t.word;
      holds = t.holds;
      apart = ((λ e. omega arith), tt);
      means = t.left_means;
      entry = u.entry;
      has = u.has;
      under = u.under;
      over = sifted.may_stand k v (g ∷ l ∷ r ∷ []) t.holds r (in_later g r (l ∷ r ∷ []) (in_later l r (r ∷ []) (in_first r []))) u.entry u.over;
    } in
    let y = c.rise_left.new.pass.seat.me.0 in
    let one : Leaves v y (f ∷ r ∷ []) = c.rise_left.ensures.risen at.0 (r ∷ []) fits in
    sifted.frees_second v y c.free_node.new.pass.seat.me.0 (2 * hole + 1) f r [] one c.free_node.ensures.freed refl (λ e. omega arith) tt
