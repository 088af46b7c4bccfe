use Rattle.std.proofs.lemmas.Result.{err_from_is_err_and}
use Rattle.pq_io.specs.Reading.{line_at}
use Rattle.inst_text.proofs.OneByOne.{goes_on, ends, is_done}
use Rattle.inst_text.proofs.PlanLines.{same_state}
use Rattle.bb_proof.specs.Texts.{token_of}
use Rattle.bb_proof.proofs.text.reading.next_tokens.Goals as goal

pub returns-in_err-next_token : goal.returns-in_err-next_token
returns-in_err-next_token c =
    let p = err_from_is_err_and c.from_residual-in_err-next_token.result c.from_residual-in_err-next_token.ensures.1 in
    rw (p.1, p.2) (ends (λ (s : Unit {0}). line_at token_of) same_state c.loop.tokens.items c.args.count c.loop.counter tt c.loop.text _ _ c.loop-test.true c.in_err-next_token.ensures c.loop.invariant)

pub loop-preserved : goal.loop-preserved
loop-preserved c =
    rw c.in_ok-push.ensures.items
    (goes_on (λ (s : Unit {0}). line_at token_of) same_state c.loop.tokens.items c.args.count c.loop.counter tt c.loop.text c.in_ok-next_token.field-0 _ _ c.loop-test.true c.in_ok-next_token.ensures c.loop.invariant)

pub returns : goal.returns
returns c = is_done (λ (s : Unit {0}). line_at token_of) same_state c.loop.tokens.items c.args.count c.loop.counter tt c.loop.text _ c.loop-test.false c.loop.invariant
