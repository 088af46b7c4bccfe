use Rattle.inst_text.proofs.ScriptText.{script_fits}
use Rattle.inst_text.proofs.script.reading.whole_script.Goals as goal

pub invariant_of-result : goal.invariant_of-result
invariant_of-result c = script_fits c.args.lanes _ _ c.requires.some c.requires.few c.in_ok-lanes.ensures
