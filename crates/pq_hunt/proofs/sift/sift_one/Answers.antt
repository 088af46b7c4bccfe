use Rattle.std.proofs.Common.{◌≡◌, ℕ, ◌*◌, [], ◌∷◌, refl, sym, subst, inl, inr, arith}
use Rattle.pq_seats.proofs.Lists.{in_first, in_later}
use Rattle.pq_hunt.specs.declared.nodes.Node.TheVariants.{Hole}
use Rattle.pq_nodes.specs.Views.{guard}
use Rattle.pq_hunt.specs.Words.{Means}
use Rattle.pq_hunt.specs.HeldPosts.{Leaves, IsHolding}
use Rattle.pq_hunt.specs.Sifting.{IsRank, CanFillFirst, CanRiseLeft}
use Rattle.pq_hunt.proofs.Calls.Sifted as sifted
use Rattle.pq_hunt.proofs.sift.sift_one.Goals as goal

pub rank-requires : goal.rank-requires
rank-requires g c = let v = c.args.pass.now.seat.me.0 in let hole = c.args.hole in let hand = c.args.hand in let h = c.requires.holds in
    let k = c.args.table.now.table.shared.key.capacity in let positive = c.requires.hole.0 in let last = c.requires.hole.1 in
    let w = c.take_node.new.pass.seat.me.0 in let x = c.look-word.new.pass.seat.me.0 in let t = c.take_node.ensures.took in let word = c.look-word.result in
    let g = guard hole h.0 (Hole hand) in let was = guard (2 * hole) t.0 t.1 in let l = guard (2 * hole) word t.1 in
    let took : Leaves v w (g ∷ was ∷ []) = sifted.takes_second v v w g (2 * hole) (sifted.starts v (g ∷ []) h.1) t in
    let same : word ≡ t.0 = c.look-word.ensures.word was (sifted.guard_in v w (g ∷ was ∷ []) took was (in_later g was (was ∷ []) (in_first was []))) refl in
    let saw : Leaves v x (g ∷ l ∷ []) = subst (λ (n : ℕ). Leaves v x (g ∷ guard (2 * hole) n t.1 ∷ [])) (sym same) (sifted.seen v w x (g ∷ was ∷ []) took c.look-word.ensures.view) in
    let holds : IsHolding x (g ∷ l ∷ []) = sifted.holds_then v x (g ∷ l ∷ []) saw in
    let means : Means t.1 word = subst (Means t.1) (sym same) t.2 in
    (t.1, means)

pub rise_left-requires-clause-rise : goal.rise_left-requires-clause-rise
rise_left-requires-clause-rise g c = let v = c.args.pass.now.seat.me.0 in let hole = c.args.hole in let hand = c.args.hand in let h = c.requires.holds in
    let k = c.args.table.now.table.shared.key.capacity in let positive = c.requires.hole.0 in let last = c.requires.hole.1 in
    let w = c.take_node.new.pass.seat.me.0 in let x = c.look-word.new.pass.seat.me.0 in let t = c.take_node.ensures.took in let word = c.look-word.result in
    let g = guard hole h.0 (Hole hand) in let was = guard (2 * hole) t.0 t.1 in let l = guard (2 * hole) word t.1 in
    let took : Leaves v w (g ∷ was ∷ []) = sifted.takes_second v v w g (2 * hole) (sifted.starts v (g ∷ []) h.1) t in
    let same : word ≡ t.0 = c.look-word.ensures.word was (sifted.guard_in v w (g ∷ was ∷ []) took was (in_later g was (was ∷ []) (in_first was []))) refl in
    let saw : Leaves v x (g ∷ l ∷ []) = subst (λ (n : ℕ). Leaves v x (g ∷ guard (2 * hole) n t.1 ∷ [])) (sym same) (sifted.seen v w x (g ∷ was ∷ []) took c.look-word.ensures.view) in
    let holds : IsHolding x (g ∷ l ∷ []) = sifted.holds_then v x (g ∷ l ∷ []) saw in
    let means : Means t.1 word = subst (Means t.1) (sym same) t.2 in
    let is : IsRank t.1 c.rank.result = c.rank.ensures t.1 means in let raw = c.raw.ensures.number in let below = c.raw.ensures.below in
    let order = c.if-rank-raw.true in let r = sifted.has_rank t.1 c.rank.result is (omega arith) in let at = r.2 in
    let rise : CanRiseLeft k x hole word hand t.1 [] = record { hole_word = h.0; holds = holds; apart = tt; means = means; entry = r.0; has = r.1; under = omega arith; over = inl (omega arith) } in
    (t.1, [], rise)

pub fill_hole-requires-clause-fill : goal.fill_hole-requires-clause-fill
fill_hole-requires-clause-fill g c = let v = c.args.pass.now.seat.me.0 in let hole = c.args.hole in let hand = c.args.hand in let h = c.requires.holds in
    let k = c.args.table.now.table.shared.key.capacity in let positive = c.requires.hole.0 in let last = c.requires.hole.1 in
    let w = c.take_node.new.pass.seat.me.0 in let x = c.look-word.new.pass.seat.me.0 in let t = c.take_node.ensures.took in let word = c.look-word.result in
    let g = guard hole h.0 (Hole hand) in let was = guard (2 * hole) t.0 t.1 in let l = guard (2 * hole) word t.1 in
    let took : Leaves v w (g ∷ was ∷ []) = sifted.takes_second v v w g (2 * hole) (sifted.starts v (g ∷ []) h.1) t in
    let same : word ≡ t.0 = c.look-word.ensures.word was (sifted.guard_in v w (g ∷ was ∷ []) took was (in_later g was (was ∷ []) (in_first was []))) refl in
    let saw : Leaves v x (g ∷ l ∷ []) = subst (λ (n : ℕ). Leaves v x (g ∷ guard (2 * hole) n t.1 ∷ [])) (sym same) (sifted.seen v w x (g ∷ was ∷ []) took c.look-word.ensures.view) in
    let holds : IsHolding x (g ∷ l ∷ []) = sifted.holds_then v x (g ∷ l ∷ []) saw in
    let means : Means t.1 word = subst (Means t.1) (sym same) t.2 in
    let is : IsRank t.1 c.rank.result = c.rank.ensures t.1 means in let raw = c.raw.ensures.number in let below = c.raw.ensures.below in
    let order = c.if-rank-raw.false in
    let fits : CanFillFirst k x hole hand (l ∷ []) = record {
      word = h.0;
      holds = holds;
      apart = ((λ e. omega arith), tt);
      over_left = sifted.may_stand k x (g ∷ l ∷ []) holds l (in_later g l (l ∷ []) (in_first l [])) hand (sifted.may_rank hand t.1 c.rank.result is (omega arith));
      over_right = inl (omega arith);
    } in
    (l ∷ [], fits)

pub free_node-requires-clause-held : goal.free_node-requires-clause-held
free_node-requires-clause-held g c = let v = c.args.pass.now.seat.me.0 in let hole = c.args.hole in let hand = c.args.hand in let h = c.requires.holds in
    let k = c.args.table.now.table.shared.key.capacity in let positive = c.requires.hole.0 in let last = c.requires.hole.1 in
    let w = c.take_node.new.pass.seat.me.0 in let x = c.look-word.new.pass.seat.me.0 in let t = c.take_node.ensures.took in let word = c.look-word.result in
    let g = guard hole h.0 (Hole hand) in let was = guard (2 * hole) t.0 t.1 in let l = guard (2 * hole) word t.1 in
    let took : Leaves v w (g ∷ was ∷ []) = sifted.takes_second v v w g (2 * hole) (sifted.starts v (g ∷ []) h.1) t in
    let same : word ≡ t.0 = c.look-word.ensures.word was (sifted.guard_in v w (g ∷ was ∷ []) took was (in_later g was (was ∷ []) (in_first was []))) refl in
    let saw : Leaves v x (g ∷ l ∷ []) = subst (λ (n : ℕ). Leaves v x (g ∷ guard (2 * hole) n t.1 ∷ [])) (sym same) (sifted.seen v w x (g ∷ was ∷ []) took c.look-word.ensures.view) in
    let holds : IsHolding x (g ∷ l ∷ []) = sifted.holds_then v x (g ∷ l ∷ []) saw in
    let means : Means t.1 word = subst (Means t.1) (sym same) t.2 in
    let is : IsRank t.1 c.rank.result = c.rank.ensures t.1 means in let raw = c.raw.ensures.number in let below = c.raw.ensures.below in
    let order = c.if-rank-raw.false in
    let fits : CanFillFirst k x hole hand (l ∷ []) = record {
      word = h.0;
      holds = holds;
      apart = ((λ e. omega arith), tt);
      over_left = sifted.may_stand k x (g ∷ l ∷ []) holds l (in_later g l (l ∷ []) (in_first l [])) hand (sifted.may_rank hand t.1 c.rank.result is (omega arith));
      over_right = inl (omega arith);
    } in
    let y = c.fill_hole.new.pass.seat.me.0 in let one : Leaves x y (l ∷ []) = c.fill_hole.ensures.filled (l ∷ []) fits in
    sifted.held_lock x y (l ∷ []) one l (in_first l [])

pub free_node-requires-clause-counted : goal.free_node-requires-clause-counted
free_node-requires-clause-counted g c = let v = c.args.pass.now.seat.me.0 in let hole = c.args.hole in let hand = c.args.hand in let h = c.requires.holds in
    let k = c.args.table.now.table.shared.key.capacity in let positive = c.requires.hole.0 in let last = c.requires.hole.1 in
    let w = c.take_node.new.pass.seat.me.0 in let x = c.look-word.new.pass.seat.me.0 in let t = c.take_node.ensures.took in let word = c.look-word.result in
    let g = guard hole h.0 (Hole hand) in let was = guard (2 * hole) t.0 t.1 in let l = guard (2 * hole) word t.1 in
    let took : Leaves v w (g ∷ was ∷ []) = sifted.takes_second v v w g (2 * hole) (sifted.starts v (g ∷ []) h.1) t in
    let same : word ≡ t.0 = c.look-word.ensures.word was (sifted.guard_in v w (g ∷ was ∷ []) took was (in_later g was (was ∷ []) (in_first was []))) refl in
    let saw : Leaves v x (g ∷ l ∷ []) = subst (λ (n : ℕ). Leaves v x (g ∷ guard (2 * hole) n t.1 ∷ [])) (sym same) (sifted.seen v w x (g ∷ was ∷ []) took c.look-word.ensures.view) in
    let holds : IsHolding x (g ∷ l ∷ []) = sifted.holds_then v x (g ∷ l ∷ []) saw in
    let means : Means t.1 word = subst (Means t.1) (sym same) t.2 in
    let is : IsRank t.1 c.rank.result = c.rank.ensures t.1 means in let raw = c.raw.ensures.number in let below = c.raw.ensures.below in
    let order = c.if-rank-raw.false in
    let fits : CanFillFirst k x hole hand (l ∷ []) = record {
      word = h.0;
      holds = holds;
      apart = ((λ e. omega arith), tt);
      over_left = sifted.may_stand k x (g ∷ l ∷ []) holds l (in_later g l (l ∷ []) (in_first l [])) hand (sifted.may_rank hand t.1 c.rank.result is (omega arith));
      over_right = inl (omega arith);
    } in
    let y = c.fill_hole.new.pass.seat.me.0 in let one : Leaves x y (l ∷ []) = c.fill_hole.ensures.filled (l ∷ []) fits in
    sifted.freeable x y (l ∷ []) one l (in_first l []) means

pub returns-then-rank-raw-clause-sifted : goal.returns-then-rank-raw-clause-sifted
returns-then-rank-raw-clause-sifted g c = let v = c.args.pass.now.seat.me.0 in let hole = c.args.hole in let hand = c.args.hand in let h = c.requires.holds in
    let k = c.args.table.now.table.shared.key.capacity in let positive = c.requires.hole.0 in let last = c.requires.hole.1 in
    let w = c.take_node.new.pass.seat.me.0 in let x = c.look-word.new.pass.seat.me.0 in let t = c.take_node.ensures.took in let word = c.look-word.result in
    let g = guard hole h.0 (Hole hand) in let was = guard (2 * hole) t.0 t.1 in let l = guard (2 * hole) word t.1 in
    let took : Leaves v w (g ∷ was ∷ []) = sifted.takes_second v v w g (2 * hole) (sifted.starts v (g ∷ []) h.1) t in
    let same : word ≡ t.0 = c.look-word.ensures.word was (sifted.guard_in v w (g ∷ was ∷ []) took was (in_later g was (was ∷ []) (in_first was []))) refl in
    let saw : Leaves v x (g ∷ l ∷ []) = subst (λ (n : ℕ). Leaves v x (g ∷ guard (2 * hole) n t.1 ∷ [])) (sym same) (sifted.seen v w x (g ∷ was ∷ []) took c.look-word.ensures.view) in
    let holds : IsHolding x (g ∷ l ∷ []) = sifted.holds_then v x (g ∷ l ∷ []) saw in
    let means : Means t.1 word = subst (Means t.1) (sym same) t.2 in
    let is : IsRank t.1 c.rank.result = c.rank.ensures t.1 means in let raw = c.raw.ensures.number in let below = c.raw.ensures.below in
    let order = c.if-rank-raw.true in let r = sifted.has_rank t.1 c.rank.result is (omega arith) in let at = r.2 in
    let rise : CanRiseLeft k x hole word hand t.1 [] = record { hole_word = h.0; holds = holds; apart = tt; means = means; entry = r.0; has = r.1; under = omega arith; over = inl (omega arith) } in
    inr (omega arith, omega arith, (word, sifted.goes_on v x c.rise_left.new.pass.seat.me.0 (g ∷ l ∷ []) (guard (2 * hole) word (Hole hand) ∷ []) saw (c.rise_left.ensures.risen t.1 [] rise)))

pub returns-else-rank-raw-clause-sifted : goal.returns-else-rank-raw-clause-sifted
returns-else-rank-raw-clause-sifted g c = let v = c.args.pass.now.seat.me.0 in let hole = c.args.hole in let hand = c.args.hand in let h = c.requires.holds in
    let k = c.args.table.now.table.shared.key.capacity in let positive = c.requires.hole.0 in let last = c.requires.hole.1 in
    let w = c.take_node.new.pass.seat.me.0 in let x = c.look-word.new.pass.seat.me.0 in let t = c.take_node.ensures.took in let word = c.look-word.result in
    let g = guard hole h.0 (Hole hand) in let was = guard (2 * hole) t.0 t.1 in let l = guard (2 * hole) word t.1 in
    let took : Leaves v w (g ∷ was ∷ []) = sifted.takes_second v v w g (2 * hole) (sifted.starts v (g ∷ []) h.1) t in
    let same : word ≡ t.0 = c.look-word.ensures.word was (sifted.guard_in v w (g ∷ was ∷ []) took was (in_later g was (was ∷ []) (in_first was []))) refl in
    let saw : Leaves v x (g ∷ l ∷ []) = subst (λ (n : ℕ). Leaves v x (g ∷ guard (2 * hole) n t.1 ∷ [])) (sym same) (sifted.seen v w x (g ∷ was ∷ []) took c.look-word.ensures.view) in
    let holds : IsHolding x (g ∷ l ∷ []) = sifted.holds_then v x (g ∷ l ∷ []) saw in
    let means : Means t.1 word = subst (Means t.1) (sym same) t.2 in
    let is : IsRank t.1 c.rank.result = c.rank.ensures t.1 means in let raw = c.raw.ensures.number in let below = c.raw.ensures.below in
    let order = c.if-rank-raw.false in
    let fits : CanFillFirst k x hole hand (l ∷ []) = record {
      word = h.0;
      holds = holds;
      apart = ((λ e. omega arith), tt);
      over_left = sifted.may_stand k x (g ∷ l ∷ []) holds l (in_later g l (l ∷ []) (in_first l [])) hand (sifted.may_rank hand t.1 c.rank.result is (omega arith));
      over_right = inl (omega arith);
    } in
    let y = c.fill_hole.new.pass.seat.me.0 in let one : Leaves x y (l ∷ []) = c.fill_hole.ensures.filled (l ∷ []) fits in
    let z = c.free_node.new.pass.seat.me.0 in
    inl (refl, sifted.goes_on v x z (g ∷ l ∷ []) [] saw (sifted.frees_first x y z (2 * hole) l [] one c.free_node.ensures.freed refl tt))
