use Rattle.std.proofs.Common.{◌≡◌, length, arith}
use Rattle.bb_proof.proofs.ProofLines.{tokens_count}
use Rattle.bb_proof.proofs.text.reading.next_proof.Goals as goal

pub invariant_of-result : goal.invariant_of-result
invariant_of-result c =
    let count : length c.in_ok-tokens.tokens.items ≡ c.in_ok-count.count = tokens_count c.in_ok-count.count _ _ c.in_ok-tokens.ensures in
    (omega (arith, count, c.in_ok-count.ensures.range), omega (arith, count, c.in_ok-count.ensures.range))
