use Rattle.std.proofs.Common.{length, map}
use Rattle.inst_text.specs.Script.{script_in}
use Rattle.inst_text.proofs.ScriptLoop.{SoFar}
use Rattle.inst_text.proofs.script.reading.next_lanes.Given as goal

abbrev pub invariant-loop-words : goal.invariant-loop-words
invariant-loop-words l = SoFar l.allowed (record { commands = l.commands; lanes = l.begun }) (map (λ lane. lane.items) l.lanes.items) l.lane.items l.text.lines (script_in l.allowed l.fn.text.lines)

abbrev pub decreases-loop-words : goal.decreases-loop-words
decreases-loop-words l = length l.text.lines
