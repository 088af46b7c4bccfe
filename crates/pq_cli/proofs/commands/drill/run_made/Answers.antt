use Rattle.std.proofs.Common.{◌≡◌, ◌∙◌, List, length, ap, arith}
use Rattle.pq_model.specs.declared.marks.Act.{Act}
use Rattle.pq_cli.proofs.commands.drill.run_made.Goals as goal

pub trace_script-requires-clause-lanes : goal.trace_script-requires-clause-lanes
trace_script-requires-clause-lanes g c κs within =
    let count : length c.in_ok-script.script ≡ c.args.workers =
    ap (λ (s : List (List Act)). length s) c.in_ok-script.ensures
    ∙ (c.made_scripts_are_drills.ensures c.args.seed c.args.workers c.args.size).1 in
    (omega (arith, count, c.requires.few), omega (arith, count))
