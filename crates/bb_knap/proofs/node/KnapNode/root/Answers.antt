use Rattle.std.proofs.Common.{ℕ, List, [], refl, ap}
use Rattle.bb_knap.specs.Branching.{Node}
use Rattle.bb_knap.proofs.Bits.{bits-none}
use Rattle.bb_knap.proofs.node.KnapNode.root.Goals as goal

pub returns : goal.returns
returns c =
    let node = λ (ds : List ℕ). let n : Node = record { decisions = ds; room = c.args.room; value = 0 } in n in
    ap node (bits-none [] refl)
