use Rattle.std.proofs.Common.{rules, refl, subst, ◌∙◌, arith}
use Rattle.bb_pool.specs.Together.{doing}
use Rattle.bb_pool.specs.Turns.{IsTurn}
use Rattle.bb_pool.proofs.Several.Runs.{turn_more, idle_more, still_run, run_again, halted}
use Rattle.bb_pool.proofs.workers.running.go_on.Goals as goal

pub returns-in_err-take_turn-clause-stopped : goal.returns-in_err-take_turn-clause-stopped
returns-in_err-take_turn-clause-stopped g c = let why = halted (omega arith) c.loop.invariant.run c.in_err-take_turn.ensures.halt in search (rules, why)

pub loop-preserved-in-Worked : goal.loop-preserved-in-Worked
loop-preserved-in-Worked g c = let sh = c.args.shared.now in let q = g.Q.SharedQueue.known in
    let turn = subst (IsTurn (g.P.Problem.meaning c.args.problem.now) sh.nodes (g.Q.SharedQueue.seats_of sh.queue) (g.Q.SharedQueue.capacity_of sh.queue) (doing q c.loop.worker) (doing q c.take_turn.new.worker)) c.in-Worked.is c.in_ok-take_turn.ensures.turn in
    record { own = c.take_turn.ensures.own; knows = c.take_turn.ensures.knows; run = turn_more c.loop.invariant.run turn.0 turn.1; traced = λ root t. c.take_turn.ensures.traced root (c.loop.invariant.traced root t) }

pub returns-then-over-clause-ended : goal.returns-then-over-clause-ended
returns-then-over-clause-ended g c = let sh = c.args.shared.now in let q = g.Q.SharedQueue.known in
    let turn = subst (IsTurn (g.P.Problem.meaning c.args.problem.now) sh.nodes (g.Q.SharedQueue.seats_of sh.queue) (g.Q.SharedQueue.capacity_of sh.queue) (doing q c.loop.worker) (doing q c.take_turn.new.worker)) c.in-Idle.is c.in_ok-take_turn.ensures.turn in
    still_run (idle_more c.loop.invariant.run turn.0 turn.1) c.is_over-over.ensures.still refl refl refl refl

pub loop-preserved : goal.loop-preserved
loop-preserved g c = let sh = c.args.shared.now in let q = g.Q.SharedQueue.known in
    let turn = subst (IsTurn (g.P.Problem.meaning c.args.problem.now) sh.nodes (g.Q.SharedQueue.seats_of sh.queue) (g.Q.SharedQueue.capacity_of sh.queue) (doing q c.loop.worker) (doing q c.take_turn.new.worker)) c.in-Idle.is c.in_ok-take_turn.ensures.turn in
    let own = c.take_turn.ensures.own in let still = c.is_over-over.ensures in record {
      own = (own.0, own.1, still.own ∙ own.2);
      knows = c.take_turn.ensures.knows;
      run = run_again c.if-worker-ge-IDLE_CALLS.false (still_run (idle_more c.loop.invariant.run turn.0 turn.1) still.still refl refl refl refl);
      traced = λ root t. c.take_turn.ensures.traced root (c.loop.invariant.traced root t);
    }

pub returns-in_err-take_turn-clause-traced : goal.returns-in_err-take_turn-clause-traced
returns-in_err-take_turn-clause-traced g c = λ root t. c.take_turn.ensures.traced root (c.loop.invariant.traced root t)

pub returns-then-over-clause-traced : goal.returns-then-over-clause-traced
returns-then-over-clause-traced g c = λ root t. c.take_turn.ensures.traced root (c.loop.invariant.traced root t)
