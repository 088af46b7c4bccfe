use Rattle.std.proofs.Common.{rules, ◌≡◌, ◌+◌, ℕ, List, length, map, drop, sym, subst}
use Rattle.pq_model.specs.declared.passes.Lane.{Lane}
use Rattle.pq_api.specs.Answers.{EachAt}
use Rattle.pq_lanes.specs.declared.callers.Caller.{Caller}
use Rattle.pq_lanes.specs.Lanes.{HasMade, HaveRun, acts_of}
use Rattle.pq_lanes.proofs.Making.{made_own}
use Rattle.pq_lanes.proofs.Ran.{have_run, written_back}
use Rattle.pq_lanes.proofs.running.run_lanes.Goals as goal

pub joined-requires-clause-made : goal.joined-requires-clause-made
joined-requires-clause-made g c κs within =
    let q = c.args.queue.now in let known = g.Q.SharedQueue.known in
    let many : c.in_ok-callers.callers.len ≡ length c.run_all.new.callers = search rules in
    let same = written_back c.run_all.new.callers (drop (length c.run_all.new.callers) c.in_ok-callers.callers.items) c.in_ok-callers.callers.len many in
    let M : ℕ → Caller g.row.Q-Pass.Denot → Type 0 = λ k x. HasMade (g.Q.SharedQueue.seats_of q) (g.Q.SharedQueue.capacity_of q) (k + 1) (acts_of (known x.pass).calls) (known x.pass) x.tape.lane in
    subst (EachAt M) (sym same) (λ k d lt. made_own _ _ _ _ _ _ (c.run_all.ensures.made k d lt))

pub returns-clause-ran : goal.returns-clause-ran
returns-clause-ran g c =
    let q = c.args.queue.now in let known = g.Q.SharedQueue.known in
    let many : c.in_ok-callers.callers.len ≡ length c.run_all.new.callers = search rules in
    let same = written_back c.run_all.new.callers (drop (length c.run_all.new.callers) c.in_ok-callers.callers.items) c.in_ok-callers.callers.len many in
    let f : Caller g.row.Q-Pass.Denot → Lane = λ x. x.tape.lane in
    let count : length c.run_all.new.callers ≡ length c.args.script.now = search rules in
    subst (λ (ls : List Lane). HaveRun 1 c.args.script.now ls) (sym c.in_ok-ran.ensures.lanes)
    (subst (λ (xs : List (Caller g.row.Q-Pass.Denot)). HaveRun 1 c.args.script.now (map f xs)) (sym same)
    (have_run (g.Q.SharedQueue.seats_of q) (g.Q.SharedQueue.capacity_of q) (λ x. known x.pass) f 1 c.args.script.now c.run_all.new.callers count c.run_all.ensures.made))
