use Rattle.std.proofs.Common.{subst}
use Rattle.pq_io.specs.Reading.{Gives}
use Rattle.inst_text.specs.Script.{IsScriptText, script_of}
use Rattle.inst_text.proofs.Readers.{given_is}
use Rattle.inst_text.proofs.ScriptText.{script_is_spelled, script_is_read}
use Rattle.inst_text.proofs.script.reading.read_script.Goals as goal

pub returns-clause-spelled : goal.returns-clause-spelled
returns-clause-spelled c =
    given_is (script_of c.args.lanes c.args.bytes.now) (IsScriptText c.args.lanes c.args.bytes.now)
    (λ s e. script_is_spelled c.args.lanes c.args.bytes.now s c.requires.some e) c.whole_script.result c.whole_script.ensures

pub returns-clause-read : goal.returns-clause-read
returns-clause-read c = λ s is. subst (λ r. Gives (λ j. j) c.whole_script.result r) (script_is_read c.args.lanes c.args.bytes.now s is) c.whole_script.ensures
