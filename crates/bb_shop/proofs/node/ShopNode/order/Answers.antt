use Rattle.std.proofs.Common.{length, ap, arith}
use Rattle.bb_shop.specs.Memory.{times_of, bytes_of}
use Rattle.bb_shop.proofs.Kept.{depth-le}
use Rattle.bb_shop.proofs.node.ShopNode.order.Goals as goal

pub slice_bounds-result-end : goal.slice_bounds-result-end
slice_bounds-result-end c =
    let memory = c.self.inside.memory in
    let fits = depth-le c.self.inside.job_count c.self.inside.machine_count c.self.inside.depth (times_of memory) (bytes_of memory) c.self.invariant in
    omega (arith, fits, c.self.invariant.bytes_fit, c.from-first.ensures, c.from.ensures, ap length c.bytes.ensures)
