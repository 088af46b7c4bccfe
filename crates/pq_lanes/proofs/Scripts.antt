-- The lanes of a script.
use Rattle.std.proofs.Common.{◌≤◌, ◌<◌, ℕ, List, [], length, get_or, arith}
use Rattle.std.specs.List.{AllByRecursion}
use Rattle.std.proofs.lemmas.List.Sums.{get_or-le-sum_by}
use Rattle.pq_model.specs.declared.marks.Act.{Act}
use Rattle.inst_text.specs.Limits.{max_commands}
use Rattle.inst_text.specs.Script.{IsCommand, IsScript}
use Rattle.pq_lanes.proofs.Making.{each_of}

pub lane_is_short : (script : List (List Act)) (k : ℕ) → IsScript script → k < length script → length (get_or script k []) ≤ max_commands
lane_is_short script k limits lt = let within = get_or-le-sum_by length script k [] lt in let all = limits.count in omega arith

pub lane_of_commands : (script : List (List Act)) (k : ℕ) → IsScript script → k < length script → AllByRecursion IsCommand (get_or script k [])
lane_of_commands script k limits lt = each_of (λ (lane : List Act). AllByRecursion IsCommand lane) script k [] lt limits.commands
