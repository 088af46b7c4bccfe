use Rattle.std.proofs.Common.{rules, subst, arith, ◌+◌}
use Rattle.bb_pool.specs.Limits.{idle_calls}
use Rattle.bb_pool.specs.Together.{doing}
use Rattle.bb_pool.specs.Turns.{IsTurn}
use Rattle.bb_pool.proofs.Several.Runs.{run_begun, turn_more, halted, numbered_more}
use Rattle.bb_pool.proofs.Several.Answers.{stop_answer, solved}
use Rattle.bb_pool.proofs.workers.ending.go_alone.Goals as goal

pub loop-init : goal.loop-init
loop-init g c = record { own = c.requires.own; knows = c.requires.together.knows; run = run_begun c.requires.together.counted (c.requires.together.working c.requires.none); traced = λ root t. t }

pub returns-in_err-take_turn-clause-stopped : goal.returns-in_err-take_turn-clause-stopped
returns-in_err-take_turn-clause-stopped g c = let h = halted (omega arith) c.loop.invariant.run c.in_err-take_turn.ensures.halt in let sh = c.args.shared.now in let x = c.requires.together.traced in
    let laws = g.met.P.Problem g.world.𝓛 g.world.𝓜 g.world.𝓡 ((λ s x. x), (λ x. x), (λ x. x), λ x. x) in let lawful = laws.lawful c.args.problem.now c.requires.valid in
    let why = stop_answer (g.P.Problem.meaning c.args.problem.now) sh.nodes (g.Q.SharedQueue.seats_of sh.queue) (g.Q.SharedQueue.capacity_of sh.queue) (idle_calls + 1) (doing g.Q.SharedQueue.known c.take_turn.new.worker) _ lawful sh.limit.1
    (numbered_more h.follows c.requires.together.numbered) h.counted c.take_turn.ensures.knows (x.0, x.1, c.take_turn.ensures.traced x.0 (c.loop.invariant.traced x.0 x.2)) h.cause in search (rules, why)

pub loop-preserved : goal.loop-preserved
loop-preserved g c = let sh = c.args.shared.now in let q = g.Q.SharedQueue.known in
    let turn = subst (IsTurn (g.P.Problem.meaning c.args.problem.now) sh.nodes (g.Q.SharedQueue.seats_of sh.queue) (g.Q.SharedQueue.capacity_of sh.queue) (doing q c.loop.worker) (doing q c.take_turn.new.worker)) c.in-Worked.is c.in_ok-take_turn.ensures.turn in
    record { own = c.take_turn.ensures.own; knows = c.take_turn.ensures.knows; run = turn_more c.loop.invariant.run turn.0 turn.1; traced = λ root t. c.take_turn.ensures.traced root (c.loop.invariant.traced root t) }

pub returns-in-Idle-clause-solved : goal.returns-in-Idle-clause-solved
returns-in-Idle-clause-solved g c = let sh = c.args.shared.now in let q = g.Q.SharedQueue.known in
    let turn = subst (IsTurn (g.P.Problem.meaning c.args.problem.now) sh.nodes (g.Q.SharedQueue.seats_of sh.queue) (g.Q.SharedQueue.capacity_of sh.queue) (doing q c.loop.worker) (doing q c.take_turn.new.worker)) c.in-Idle.is c.in_ok-take_turn.ensures.turn in
    let laws = g.met.P.Problem g.world.𝓛 g.world.𝓜 g.world.𝓡 ((λ s x. x), (λ x. x), (λ x. x), λ x. x) in let lawful = laws.lawful c.args.problem.now c.requires.valid in solved lawful c.requires.none c.requires.together c.loop.invariant.run turn.0 turn.1 turn.2
