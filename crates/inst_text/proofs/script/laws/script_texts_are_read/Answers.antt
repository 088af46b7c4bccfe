use Rattle.inst_text.proofs.ScriptText.{script_is_spelled, script_is_read}
use Rattle.inst_text.proofs.script.laws.script_texts_are_read.Goals as goal

pub returns : goal.returns
returns c = λ allowed bytes lanes some. (λ e. script_is_spelled allowed bytes lanes some e, script_is_read allowed bytes lanes)
