use Rattle.std.proofs.Common.{rules, ◌≡◌, ◌∙◌, ◌+◌, ◌≤◌, [], ℕ, length, length-append, sym, ap, subst, arith}
use Rattle.std.specs.Prelude.{slice_index_or}
use Rattle.pq_model.specs.Passes.{lane, fresh}
use Rattle.pq_api.specs.Answers.{EachAt}
use Rattle.pq_lanes.specs.declared.callers.Caller.{Caller}
use Rattle.pq_lanes.proofs.Each.{EachFrom, each_push, first_of, others_of}
use Rattle.pq_lanes.proofs.callers.callers_of.Goals as goal

pub loop-pass-preserved : goal.loop-pass-preserved
loop-pass-preserved g c =
    let q = c.args.queue.now in let callers = c.loop-pass.callers.items in let n = length callers in
    let P : ℕ → g.row.Q-Pass.Denot → Type 0 = λ k p. g.Q.SharedQueue.belongs q p × (g.Q.SharedQueue.known p ≡ fresh (k + 1)) in
    let steps = c.in-Some.ensures.steps.0 in
    let rest = subst (EachFrom n P) steps c.loop-pass.invariant.rest in
    let one = first_of n P c.in-Some.pass c.next.new.self.rest.items rest in
    let push = c.in_ok-push.ensures.items in
    let longer : length c.push.new.self.items ≡ n + 1 = ap length push ∙ length-append callers _ in
    let fewer = ap length steps in let count = c.loop-pass.invariant.count in
    let C : ℕ → Caller g.row.Q-Pass.Denot → Type 0 = λ k c. P k c.pass in
    let T : ℕ → Caller g.row.Q-Pass.Denot → Type 0 = λ k t. (t.tape.lane ≡ lane (k + 1) []) × (length (slice_index_or c.args.script.now k []) ≤ t.tape.room) in
    record {
      count = omega arith;
      new = subst (EachAt C) (sym push) (each_push C callers _ c.loop-pass.invariant.new one);
      tapes = subst (EachAt T) (sym push) (each_push T callers _ c.loop-pass.invariant.tapes (search rules, search rules));
      rest = subst (λ k. EachFrom k P c.next.new.self.rest.items) (sym longer) (others_of n P c.in-Some.pass c.next.new.self.rest.items rest);
    }
