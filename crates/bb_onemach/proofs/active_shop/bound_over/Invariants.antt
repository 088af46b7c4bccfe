use Rattle.std.proofs.Common.{◌≡◌, ◌-◌}
use Rattle.std.specs.Prelude.{max}
use Rattle.bb_shop.specs.Bounds.{greatest, each_from}
use Rattle.bb_onemach.specs.Bounds.{bound_by}
use Rattle.bb_onemach.proofs.RowTasks.{machine_part}
use Rattle.bb_onemach.proofs.active_shop.bound_over.Given as goal

-- the bound so far and those of the machines that are left make up the whole
abbrev pub invariant-loop-row : goal.invariant-loop-row
invariant-loop-row l =
    max l.bound (greatest (each_from (machine_part l.shop l.steps l.jobs l.machines) l.row-index (l.shop.machines - l.row-index)))
    ≡ bound_by l.shop l.steps l.jobs l.machines
