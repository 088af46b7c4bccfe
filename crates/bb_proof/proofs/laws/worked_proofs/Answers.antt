use Rattle.bb_proof.proofs.Worked.{worked}
use Rattle.bb_proof.proofs.laws.worked_proofs.Goals as goal

pub returns : goal.returns
returns c = worked
