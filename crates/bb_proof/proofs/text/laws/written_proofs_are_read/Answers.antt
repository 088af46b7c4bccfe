use Rattle.bb_proof.proofs.WrittenProofs.{proof_text_is_read}
use Rattle.bb_proof.proofs.text.laws.written_proofs_are_read.Goals as goal

pub returns : goal.returns
returns c = proof_text_is_read
