use Rattle.std.proofs.Common.{◌+◌, ◌*◌, ◌∷◌, refl, arith}
use Rattle.pq_seats.proofs.Lists.{in_first}
use Rattle.pq_hunt.specs.declared.nodes.Node.TheVariants.{Hole}
use Rattle.pq_nodes.specs.Views.{guard}
use Rattle.pq_hunt.proofs.Allowing.Moves.{may_raise_second}
use Rattle.pq_hunt.proofs.Calls.Sifted as sifted
use Rattle.pq_hunt.proofs.sift.rise_left.Goals as goal

pub raise_second-requires-clause-raise : goal.raise_second-requires-clause-raise
raise_second-requires-clause-raise c = let r = c.requires.rise.2 in let gs = c.requires.rise.1 in let hole = c.args.hole in
    let g = guard hole r.hole_word (Hole c.args.hand) in let h = guard (2 * hole) c.args.word c.requires.rise.0 in record {
      first = g;
      child = h;
      others = gs;
      guards = sifted.guards_are c.args.pass.now.seat.me.0 (g ∷ h ∷ gs) r.holds;
      is = refl;
      stored = refl;
      allowed = may_raise_second c.args.table.now.table.shared.key c.args.pass.now.seat.id c.args.pass.now.seat.me.0 g h gs (2 * hole + 1) c.args.hand r.entry
          (sifted.guards_are c.args.pass.now.seat.me.0 (g ∷ h ∷ gs) r.holds) refl (omega arith) (omega arith) r.has r.under r.over;
    }

pub free_node-requires-clause-held : goal.free_node-requires-clause-held
free_node-requires-clause-held c = let r = c.requires.rise.2 in let gs = c.requires.rise.1 in let v = c.args.pass.now.seat.me.0 in let x = c.raise_second.new.pass.seat.me.0 in let hole = c.args.hole in let word = c.args.word in
    let h = guard (2 * hole) word c.requires.rise.0 in let g = guard hole word c.requires.rise.0 in let f = guard (2 * hole) word (Hole c.args.hand) in
    sifted.held_lock v x (g ∷ f ∷ gs) (sifted.sifts_left v x (guard hole r.hole_word (Hole c.args.hand)) h gs r.holds c.raise_second.ensures.view) g (in_first g (f ∷ gs))

pub free_node-requires-clause-counted : goal.free_node-requires-clause-counted
free_node-requires-clause-counted c = let r = c.requires.rise.2 in let gs = c.requires.rise.1 in let v = c.args.pass.now.seat.me.0 in let x = c.raise_second.new.pass.seat.me.0 in let hole = c.args.hole in let word = c.args.word in
    let h = guard (2 * hole) word c.requires.rise.0 in let g = guard hole word c.requires.rise.0 in let f = guard (2 * hole) word (Hole c.args.hand) in
    sifted.freeable v x (g ∷ f ∷ gs) (sifted.sifts_left v x (guard hole r.hole_word (Hole c.args.hand)) h gs r.holds c.raise_second.ensures.view) g (in_first g (f ∷ gs)) r.means

pub returns-clause-risen : goal.returns-clause-risen
returns-clause-risen c = λ left gs r. let v = c.args.pass.now.seat.me.0 in let x = c.raise_second.new.pass.seat.me.0 in let hole = c.args.hole in let word = c.args.word in
    let f = guard (2 * hole) word (Hole c.args.hand) in
    sifted.frees_first v x c.free_node.new.pass.seat.me.0 hole (guard hole word left) (f ∷ gs)
    (sifted.sifts_left v x (guard hole r.hole_word (Hole c.args.hand)) (guard (2 * hole) word left) gs r.holds c.raise_second.ensures.view) c.free_node.ensures.freed refl
    ((λ e. let positive = c.requires.hole.0 in omega arith), r.apart)
