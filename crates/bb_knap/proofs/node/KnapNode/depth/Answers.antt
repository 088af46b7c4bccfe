use Rattle.std.proofs.Common.{length, take, ◌/◌, sym, ap, ◌∙◌}
use Rattle.bb_knap.specs.Decisions.{words_of}
use Rattle.bb_knap.proofs.FullWords.{length-in_use}
use Rattle.bb_knap.proofs.Bits.{length-bits}
use Rattle.bb_knap.proofs.node.KnapNode.depth.Goals as goal

pub returns-clause-depth : goal.returns-clause-depth
returns-clause-depth c =
    let n = c.self.inside in
    sym (length-bits (take (n.count / 64) (words_of n.full)) n.count n.last (length-in_use (n.count / 64) n.full (c.self.invariant.0.full)))
    ∙ ap (λ m. length m.decisions) c.self.view_is
