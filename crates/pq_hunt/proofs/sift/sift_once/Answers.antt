use Rattle.std.proofs.Common.{[], refl, inl, arith}
use Rattle.pq_hunt.proofs.sift.sift_once.Goals as goal

pub returns-then-capacity-hole-clause-sifted : goal.returns-then-capacity-hole-clause-sifted
returns-then-capacity-hole-clause-sifted g c = let h = c.requires.holds in let test = c.if-capacity-hole.true in let same = c.requires.capacity in
    inl (refl, c.fill_hole.ensures.filled [] record { word = h.0; holds = h.1; apart = tt; over_left = inl (omega arith); over_right = inl (omega arith) })
