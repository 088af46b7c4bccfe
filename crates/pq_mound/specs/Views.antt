-- What a seat's view names of the mound.
use Rattle.std.specs.Prelude.{ℕ, List, [], ◌∷◌, Option, Some, None}
use Rattle.pq_nodes.specs.declared.guards.Guard.{Guard as NodeGuard}
use Rattle.pq_mound.specs.declared.nodes.Node.{Node}
use Rattle.pq_mound.specs.declared.views.OwnCell.{OwnCell}
use Rattle.pq_mound.specs.declared.views.MoundPart.{MoundPart}

abbrev pub Guard : Type 0
Guard = NodeGuard Node

abbrev pub own_cell : ℕ → ℕ → ℕ → OwnCell
own_cell number entry next = record { number = number; entry = entry; next = next }

-- a seat that holds no lock, and no cell
abbrev pub idle : MoundPart
idle = record { guards = []; free = []; count = 0; held = None }

-- the view names these guards
abbrev pub with_guards : MoundPart → List Guard → MoundPart
with_guards v guards = record v { guards = guards }

-- the view names these free cells, and what the word of their count says
abbrev pub with_free : MoundPart → List ℕ → ℕ → MoundPart
with_free v free count = record v { free = free; count = count }

-- the seat holds this cell, or none
abbrev pub holding : MoundPart → Option OwnCell → MoundPart
holding v held = record v { held = held }

-- the number of the cell that a seat holds
abbrev pub held_number : Option OwnCell → List ℕ
held_number None = []
held_number (Some c) = c.number ∷ []
