use Rattle.std.proofs.Common.{◌≤◌, List, length, sym, subst}
use Rattle.std.specs.List.{AllByRecursion}
use Rattle.pq_model.specs.declared.marks.Act.{Act}
use Rattle.inst_text.specs.Limits.{max_commands}
use Rattle.inst_text.specs.Script.{IsCommand}
use Rattle.pq_lanes.proofs.Scripts.{lane_is_short, lane_of_commands}
use Rattle.pq_lanes.proofs.callers.commands_of.Goals as goal

pub returns-clause-few : goal.returns-clause-few
returns-clause-few c = let lane = c.lane_at.ensures in
    subst (λ (xs : List Act). length xs ≤ max_commands) (sym lane.lane) (lane_is_short c.args.script.now c.args.place lane.limits c.requires)

pub returns-clause-commands : goal.returns-clause-commands
returns-clause-commands c = let lane = c.lane_at.ensures in
    subst (AllByRecursion IsCommand) (sym lane.lane) (lane_of_commands c.args.script.now c.args.place lane.limits c.requires)
