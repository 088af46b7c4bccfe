use Rattle.bb_proof.proofs.ProofTexts.{proofs_are_texts}
use Rattle.bb_proof.proofs.text.laws.proof_texts_are_read.Goals as goal

pub returns : goal.returns
returns c = proofs_are_texts
