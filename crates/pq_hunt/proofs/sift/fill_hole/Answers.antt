use Rattle.std.proofs.Common.{◌∷◌, refl, sym}
use Rattle.pq_words.specs.declared.heap_words.Tag.TheVariants as tags
use Rattle.pq_seats.proofs.Lists.{in_first}
use Rattle.pq_hunt.specs.declared.nodes.Node.TheVariants.{Available, Hole}
use Rattle.pq_nodes.specs.Views.{guard}
use Rattle.pq_hunt.proofs.Heap.Meanings.{packed_means}
use Rattle.pq_hunt.proofs.Calls.Sifted as sifted
use Rattle.pq_hunt.proofs.sift.fill_hole.Goals as goal

pub fill-requires-clause-fill : goal.fill-requires-clause-fill
fill-requires-clause-fill c = let r = c.requires.fill.1 in record {
  first = guard c.args.hole r.word (Hole c.args.hand);
  others = c.requires.fill.0;
  guards = sifted.guards_are c.args.pass.now.seat.me.0 (guard c.args.hole r.word (Hole c.args.hand) ∷ c.requires.fill.0) r.holds;
  is = refl;
  hand = c.args.hand;
  in_hand = refl;
  over_left = r.over_left;
  over_right = r.over_right;
}

pub free_node-requires-clause-held : goal.free_node-requires-clause-held
free_node-requires-clause-held c = let r = c.requires.fill.1 in let gs = c.requires.fill.0 in let v = c.args.pass.now.seat.me.0 in let x = c.fill.new.pass.seat.me.0 in
    let g = guard c.args.hole c.pack-word.result (Available c.args.hand) in
    sifted.held_lock v x (g ∷ gs) (sifted.fills_hole v x c.args.hole r.word c.pack-word.result c.args.hand gs r.holds c.fill.ensures.view) g (in_first g gs)

pub free_node-requires-clause-counted : goal.free_node-requires-clause-counted
free_node-requires-clause-counted c = let r = c.requires.fill.1 in let gs = c.requires.fill.0 in let v = c.args.pass.now.seat.me.0 in let x = c.fill.new.pass.seat.me.0 in
    let g = guard c.args.hole c.pack-word.result (Available c.args.hand) in
    sifted.freeable v x (g ∷ gs) (sifted.fills_hole v x c.args.hole r.word c.pack-word.result c.args.hand gs r.holds c.fill.ensures.view) g (in_first g gs)
    (packed_means (record { tag = tags.Available; owner = 0; entry = c.args.hand }) c.pack-word.result refl (sym c.pack-word.ensures.number))

pub returns-clause-filled : goal.returns-clause-filled
returns-clause-filled c = λ gs r. let v = c.args.pass.now.seat.me.0 in let x = c.fill.new.pass.seat.me.0 in
    sifted.frees_first v x c.free_node.new.pass.seat.me.0 c.args.hole (guard c.args.hole c.pack-word.result (Available c.args.hand)) gs
    (sifted.fills_hole v x c.args.hole r.word c.pack-word.result c.args.hand gs r.holds c.fill.ensures.view) c.free_node.ensures.freed refl r.apart
