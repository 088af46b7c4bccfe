use Rattle.std.proofs.Common.{ℕ, suc, ◌≡◌, ◌+◌, length, sym, ap, ◌∙◌, subst, arith}
use Rattle.std.specs.Prelude.{slice_index_or}
use Rattle.bb_pool.specs.Limits.{idle_calls}
use Rattle.bb_pool.specs.Together.{doing, IsTogether}
use Rattle.bb_pool.specs.Runs.{HasEnded, AreEnded}
use Rattle.bb_pool.proofs.Several.Each.{each_rest, length_rest}
use Rattle.bb_pool.proofs.Several.Runs.{are_apart, together_joined}
use Rattle.bb_pool.proofs.workers.ending.join_all.Goals as goal

pub loop-other-init : goal.loop-other-init
loop-other-init g c = let sh = c.args.shared.now in let Q = g.Q.SharedQueue in let m = g.P.Problem.meaning c.args.problem.now in
    let W = HasEnded Q.belongs Q.known Q.seats_of Q.capacity_of m sh in
    let rest = c.into_iter-other-iterator.ensures.into_iter_gives.0 in let items = rest ∙ c.remove-first.ensures.items in
    let head = subst (W 1) (sym c.remove-first.ensures.value) (c.requires.ended 0 c.remove-first.result (let some = c.requires.some in omega arith)) in
    let each = each_rest (λ k w. W (k + 1) w) c.args.workers.items _ items c.requires.ended in
    record {
      own = head.0;
      joined = (1, omega arith, length_rest c.args.workers.items _ items c.requires.some, head.1, λ k d lt. subst (λ i. W i (slice_index_or c.into_iter-other-iterator.result.rest.items k d)) (let e : suc k + 1 ≡ 1 + k + 1 = omega arith in e) (each k d lt));
    }

pub join-requires-clause-own : goal.join-requires-clause-own
join-requires-clause-own g c κs among = let sh = c.args.shared.now in let Q = g.Q.SharedQueue in let m = g.P.Problem.meaning c.args.problem.now in
    let j = c.loop-other.invariant.joined in
    let ended = subst (λ xs. AreEnded Q.belongs Q.known Q.seats_of Q.capacity_of m sh j.0 xs) c.in-Some.ensures.steps.0 j.4 in
    (c.loop-other.invariant.own, (ended 0 c.in-Some.other (omega arith)).0)

pub join-requires-clause-apart : goal.join-requires-clause-apart
join-requires-clause-apart g c κs among = let sh = c.args.shared.now in let Q = g.Q.SharedQueue in let m = g.P.Problem.meaning c.args.problem.now in
    let j = c.loop-other.invariant.joined in
    let ended = subst (λ xs. AreEnded Q.belongs Q.known Q.seats_of Q.capacity_of m sh j.0 xs) c.in-Some.ensures.steps.0 j.4 in
    let head = ended 0 c.in-Some.other (omega arith) in are_apart (let n : ℕ = j.0 in omega arith) j.3.numbered head.1.numbered

pub loop-other-preserved : goal.loop-other-preserved
loop-other-preserved g c = let sh = c.args.shared.now in let Q = g.Q.SharedQueue in let m = g.P.Problem.meaning c.args.problem.now in
    let W = HasEnded Q.belongs Q.known Q.seats_of Q.capacity_of m sh in
    let j = c.loop-other.invariant.joined in let n : ℕ = j.0 in let steps = c.in-Some.ensures.steps.0 in
    let ended = subst (λ xs. AreEnded Q.belongs Q.known Q.seats_of Q.capacity_of m sh n xs) steps j.4 in
    let head = ended 0 c.in-Some.other (omega arith) in let long = ap length steps in let total = j.2 in
    record {
      own = c.join.ensures.own;
      joined = (
        n + 0 + 1,
        omega arith,
        omega arith,
        together_joined (omega arith) (omega arith) j.1 c.join.ensures.joined j.3 head.1,
        λ k d lt. subst (λ i. W i (slice_index_or c.next.new.self.rest.items k d)) (let e : n + suc k + 1 ≡ n + 0 + 1 + k + 1 = omega arith in e) (ended (suc k) d (omega arith)),
      );
    }

pub returns-clause-together : goal.returns-clause-together
returns-clause-together g c = let sh = c.args.shared.now in let Q = g.Q.SharedQueue in let m = g.P.Problem.meaning c.args.problem.now in
    let j = c.loop-other.invariant.joined in let zero = c.in-None.ensures.steps.0 in let ok = c.loop-other.other-iterator.rest.ok in let total = j.2 in
    subst (λ n. IsTogether m sh.nodes (Q.seats_of sh.queue) (Q.capacity_of sh.queue) (idle_calls + 1) 1 n (doing Q.known c.loop-other.first)) (omega arith) j.3
