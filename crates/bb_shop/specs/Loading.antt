-- How the program keeps what operations ask of a machine.
use Rattle.std.specs.Prelude.{ℕ, ◌+◌, List, min, nat_eq, if◌then◌else◌, slice_index_or}
use Rattle.bb_shop.specs.declared.machine_load.MachineLoad.{MachineLoad}
use Rattle.bb_shop.specs.Bounds.{Load, Idle, Busy}

-- the least head and the least tail of no operations: the greatest number of 32 bits
abbrev pub no_least : ℕ
no_least = 4294967295

-- Of no operations: the least head and the least tail are the greatest numbers, and the time is 0.
abbrev pub unloaded : MachineLoad
unloaded = record { head = no_least; time = 0; tail = no_least }

-- with what more operations ask of the machine
abbrev pub with_load : MachineLoad → Load → MachineLoad
with_load l Idle = l
with_load l (Busy head time tail) = record { head = min l.head head; time = l.time + time; tail = min l.tail tail }

-- the load of machine m
abbrev pub load_in : List MachineLoad → ℕ → MachineLoad
load_in loads m = slice_index_or loads m unloaded

-- the bound of a load: its least head, its time and its least tail, and 0 of no operations
abbrev pub machine_bound_of : MachineLoad → ℕ
machine_bound_of l = if nat_eq l.head no_least then 0 else l.head + l.time + l.tail
