use Rattle.std.proofs.Common.{map, arith}
use Rattle.std.proofs.lemmas.List.{at_drop_more, length-map}
use Rattle.bb_shop.specs.Bounds.{greatest}
use Rattle.bb_shop.specs.Loading.{machine_bound_of}
use Rattle.bb_shop.proofs.MachineLoads.{get_or-machine_bounds}
use Rattle.bb_shop.proofs.machine_load.greatest_machine_bound.Goals as goal

pub loop-load-preserved : goal.loop-load-preserved
loop-load-preserved c =
    let loads = c.args.loads.now in
    let i = c.loop-load.load-index in
    let machine_bounds = map machine_bound_of loads in
    let turn = at_drop_more greatest machine_bounds i 0 (omega (arith, length-map loads machine_bound_of, c.loop-load-test.true)) in
    let here = get_or-machine_bounds loads i (record { head = 0; time = 0; tail = 0 }) 0 c.loop-load-test.true in
    omega (arith, turn, here, c.machine_bound.ensures, c.max-greatest.ensures, c.loop-load.invariant)
