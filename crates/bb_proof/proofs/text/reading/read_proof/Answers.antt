use Rattle.std.proofs.Common.{subst}
use Rattle.pq_io.specs.Reading.{Gives}
use Rattle.bb_proof.specs.Texts.{IsProofText, proof_of}
use Rattle.bb_proof.proofs.ProofTexts.{proof_is_spelled, proof_is_read, given_as}
use Rattle.bb_proof.proofs.text.reading.read_proof.Goals as goal

pub returns-clause-spelled : goal.returns-clause-spelled
returns-clause-spelled c =
    given_as (λ r. (r.0, (r.1, r.2))) (proof_of c.args.bytes.now) (λ v. IsProofText c.args.bytes.now v.0 v.1.0 v.1.1) (proof_is_spelled c.args.bytes.now) c.whole_proof.result c.whole_proof.ensures

pub returns-clause-read : goal.returns-clause-read
returns-clause-read c = λ i p tokens is.
    subst (λ r. Gives (λ v. (v.0, (v.1, v.2))) c.whole_proof.result r) (proof_is_read c.args.bytes.now i p tokens is) c.whole_proof.ensures
