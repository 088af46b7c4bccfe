use Rattle.bb_proof.proofs.WrittenProofs.{proof_behind_is_read}
use Rattle.bb_proof.proofs.text.laws.proofs_are_read_behind.Goals as goal

pub returns : goal.returns
returns c = proof_behind_is_read
