use Rattle.std.proofs.Common.{◌≡◌, ◌+◌, ◌*◌, length, replicate, ap, subst, sym, ◌∙◌, arith}
use Rattle.bb_shop.specs.Memory.{times_of, bytes_of}
use Rattle.bb_shop.specs.Working.{IsKept}
use Rattle.bb_shop.proofs.Kept.{IsKept-root, node_of, node_of-root}
use Rattle.bb_shop.proofs.node.ShopNode.root.Goals as goal

pub invariant_of-result : goal.invariant_of-result
invariant_of-result c =
    let n = c.args.jobs in
    let m = c.args.machines in
    let memory = c.in_ok-cleared.field-0 in
    let now = c.in_ok-cleared.ensures in
    subst (λ times. IsKept n m 0 times (bytes_of memory)) (sym now.no_time)
    (subst (IsKept n m 0 (replicate (length (times_of memory)) 0)) (sym now.no_byte)
    (IsKept-root n m (length (times_of memory)) (length (bytes_of memory)) c.requires.jobs c.requires.machines now.times now.bytes))

pub returns : goal.returns
returns c =
    let n = c.args.jobs in
    let m = c.args.machines in
    let memory = c.in_ok-cleared.field-0 in
    let now = c.in_ok-cleared.ensures in
    ap (λ times. node_of n m 0 times (bytes_of memory)) now.no_time
    ∙ ap (node_of n m 0 (replicate (length (times_of memory)) 0)) now.no_byte
    ∙ node_of-root n m (length (times_of memory)) (length (bytes_of memory)) now.times (omega (arith, now.bytes))
