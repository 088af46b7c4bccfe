-- What a seat's view names of the heap.
use Rattle.std.specs.Prelude.{ℕ, false, List, []}
use Rattle.pq_hunt.specs.declared.views.HuntPart.{HuntPart}
use Rattle.pq_hunt.specs.Guards.{Guard}

-- a seat that holds no lock, and has no insert in flight
abbrev pub idle : HuntPart
idle = record { guards = []; size_stored = 0; size_counted = 0; place = 0; climbing = 0; lettered = false }

-- the view names these guards
abbrev pub with_guards : HuntPart → List Guard → HuntPart
with_guards v guards = record v { guards = guards }

-- the view names the size, as stored and as counted
abbrev pub with_size : HuntPart → ℕ → ℕ → HuntPart
with_size v stored counted = record v { size_stored = stored; size_counted = counted }
