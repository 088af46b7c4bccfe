-- Drills: scripts whose lanes each insert some entries and then remove as many.
use Rattle.std.specs.Prelude.{ℕ, ◌≡◌, ◌+◌, ◌*◌, List, [], ◌++◌, length, map, replicate, All}
use Rattle.pq_words.specs.declared.entries.Entry.{Entry}
use Rattle.pq_model.specs.declared.marks.Act.{Act}
use Rattle.pq_model.specs.declared.marks.Act.TheVariants.{Insert, Remove}
use Rattle.pq_model.specs.declared.marks.Mark.{Mark}
use Rattle.pq_model.specs.History.{left}
use Rattle.inst_text.specs.Generator.{made_script}
use Rattle.pq_lanes.specs.Tracing.{IsTraceOf}

-- the lane inserts so many entries, and then removes so many
pub record IsDrillLane (size : ℕ) (acts : List Act) : Type 0 where
  pub entries : List Entry
  pub size_is : length entries ≡ size
  pub acts_are : acts ≡ map Insert entries ++ replicate size Remove

-- a capacity at which no insert of such lanes may be answered Full: there is room for all entries, and one more a lane
abbrev pub drill_capacity : ℕ → ℕ → ℕ
drill_capacity lanes size = lanes * size + lanes

-- In a queue of that capacity each command of a drill has its mark, and nothing is left, in whatever order the lanes
-- take their steps.
abbrev pub DrillsLeaveNothing : Type 0
DrillsLeaveNothing = (size : ℕ) (script : List (List Act)) (marks : List Mark) → All (IsDrillLane size) script
    → IsTraceOf (drill_capacity (length script) size) script marks
    → (length marks ≡ 2 * (length script * size)) × (left marks ≡ [])

-- made scripts are drills of so many lanes
abbrev pub MadeScriptsAreDrills : Type 0
MadeScriptsAreDrills = (seed lanes size : ℕ)
    → All (IsDrillLane size) (made_script seed lanes size) × (length (made_script seed lanes size) ≡ lanes)
