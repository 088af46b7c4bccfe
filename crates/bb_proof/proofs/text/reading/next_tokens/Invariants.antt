use Rattle.std.proofs.Common.{◌≡◌, ◌-◌}
use Rattle.pq_io.proofs.Binds.{with_prefix}
use Rattle.bb_proof.specs.Texts.{tokens_at}
use Rattle.bb_proof.proofs.text.reading.next_tokens.Given as goal

-- the tokens so far, and what is left to read, make up what is read
abbrev pub invariant-loop : goal.invariant-loop
invariant-loop l = with_prefix l.tokens.items (tokens_at (l.count - l.counter) l.text) ≡ tokens_at l.count l.fn.text
