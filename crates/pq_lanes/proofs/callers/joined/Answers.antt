use Rattle.std.proofs.Common.{rules, ◌≡◌, ◌∙◌, ◌+◌, [], ◌∷◌, ◌++◌, ℕ, List, length, length-append, map, sym, ap, subst, arith}
use Rattle.pq_model.specs.declared.passes.Lane.{Lane}
use Rattle.pq_model.specs.Passes.{lanes}
use Rattle.pq_lanes.specs.declared.callers.Caller.{Caller}
use Rattle.pq_lanes.specs.Lanes.{HasMade, acts_of, on_tapes}
use Rattle.pq_lanes.proofs.Each.{EachFrom, from_start, first_of, others_of}
use Rattle.pq_lanes.proofs.Making.{one_lane}
use Rattle.pq_lanes.proofs.Joining.{lanes_more, taped_more, below_more, below_first, apart_from_next}
use Rattle.pq_lanes.proofs.callers.joined.Goals as goal

pub loop-caller-init : goal.loop-caller-init
loop-caller-init g c =
    let q = c.args.queue.now in let known = g.Q.SharedQueue.known in
    let first = c.in-Some.field-0 in let rest = c.into_iter-caller-iterator.result.rest.items in
    let B : ℕ → Caller g.row.Q-Pass.Denot → Type 0 = λ k x. g.Q.SharedQueue.belongs q x.pass in
    let M : ℕ → Caller g.row.Q-Pass.Denot → Type 0 = λ k x. HasMade (g.Q.SharedQueue.seats_of q) (g.Q.SharedQueue.capacity_of q) (k + 1) (acts_of (known x.pass).calls) (known x.pass) x.tape.lane in
    let whole : c.args.callers.items ≡ first ∷ rest = search rules in
    let own = subst (EachFrom 0 B) whole (from_start B c.args.callers.items c.requires.own) in
    let made = subst (EachFrom 0 M) whole (from_start M c.args.callers.items c.requires.made) in
    let mine = first_of 0 M first rest made in
    let one : lanes (known first.pass) ≡ first.tape.lane ∷ [] = one_lane _ _ _ _ _ _ mine in
    let number : first.tape.lane.number ≡ 0 + 1 = ap (λ (l : Lane). l.number) mine.taped in
    let push : c.push.new.self.items ≡ first.tape ∷ [] = search rules in
    let count : length c.push.new.self.items ≡ 0 + 1 = ap length push ∙ (omega arith) in
    record {
      own = first_of 0 B first rest own;
      all = ap (λ (ls : List Lane). ls ++ map (λ (x : Caller g.row.Q-Pass.Denot). x.tape.lane) rest) one ∙ sym (ap (map (λ (x : Caller g.row.Q-Pass.Denot). x.tape.lane)) whole);
      taped = ap on_tapes push ∙ sym one;
      knows = mine.knows;
      below = below_first (known first.pass) first.tape.lane (length c.push.new.self.items) one (omega arith);
      rest_own = subst (λ (n : ℕ). EachFrom n B rest) (sym count) (others_of 0 B first rest own);
      rest_made = subst (λ (n : ℕ). EachFrom n M rest) (sym count) (others_of 0 M first rest made);
    }

pub join-requires-clause-own : goal.join-requires-clause-own
join-requires-clause-own g c =
    let B : ℕ → Caller g.row.Q-Pass.Denot → Type 0 = λ k x. g.Q.SharedQueue.belongs c.args.queue.now x.pass in
    let n = length c.loop-caller.tapes.items in
    let own = subst (EachFrom n B) c.in-Some-caller.ensures.steps.0 c.loop-caller.invariant.rest_own in
    (c.loop-caller.invariant.own, first_of n B c.in-Some-caller.caller c.next-in-loop-caller.new.self.rest.items own)

pub join-requires-clause-apart : goal.join-requires-clause-apart
join-requires-clause-apart g c =
    let q = c.args.queue.now in let known = g.Q.SharedQueue.known in let next = c.in-Some-caller.caller in
    let M : ℕ → Caller g.row.Q-Pass.Denot → Type 0 = λ k x. HasMade (g.Q.SharedQueue.seats_of q) (g.Q.SharedQueue.capacity_of q) (k + 1) (acts_of (known x.pass).calls) (known x.pass) x.tape.lane in
    let n = length c.loop-caller.tapes.items in
    let made = subst (EachFrom n M) c.in-Some-caller.ensures.steps.0 c.loop-caller.invariant.rest_made in
    let mine = first_of n M next c.next-in-loop-caller.new.self.rest.items made in
    apart_from_next (known c.loop-caller.pass) (known next.pass) next.tape.lane n (one_lane _ _ _ _ _ _ mine) (ap (λ (l : Lane). l.number) mine.taped) c.loop-caller.invariant.below

pub loop-caller-preserved : goal.loop-caller-preserved
loop-caller-preserved g c =
    let q = c.args.queue.now in let known = g.Q.SharedQueue.known in
    let next = c.in-Some-caller.caller in let rest = c.next-in-loop-caller.new.self.rest.items in
    let B : ℕ → Caller g.row.Q-Pass.Denot → Type 0 = λ k x. g.Q.SharedQueue.belongs q x.pass in
    let M : ℕ → Caller g.row.Q-Pass.Denot → Type 0 = λ k x. HasMade (g.Q.SharedQueue.seats_of q) (g.Q.SharedQueue.capacity_of q) (k + 1) (acts_of (known x.pass).calls) (known x.pass) x.tape.lane in
    let n = length c.loop-caller.tapes.items in
    let steps = c.in-Some-caller.ensures.steps.0 in
    let own = subst (EachFrom n B) steps c.loop-caller.invariant.rest_own in
    let made = subst (EachFrom n M) steps c.loop-caller.invariant.rest_made in
    let mine = first_of n M next rest made in
    let one : lanes (known next.pass) ≡ next.tape.lane ∷ [] = one_lane _ _ _ _ _ _ mine in
    let number : next.tape.lane.number ≡ n + 1 = ap (λ (l : Lane). l.number) mine.taped in
    let push = c.in_ok-push-2.ensures.items in
    let count : length c.push-in-loop-caller.new.self.items ≡ n + 1 = ap length push ∙ length-append c.loop-caller.tapes.items (next.tape ∷ []) in
    let joined = c.join.ensures.joined in
    let f : Caller g.row.Q-Pass.Denot → Lane = λ x. x.tape.lane in
    record {
      own = c.join.ensures.own;
      all = lanes_more (known c.loop-caller.pass) (known next.pass) (known c.join.new.into) next.tape.lane (map f rest) (map f c.args.callers.items) joined one
          (subst (λ (xs : List (Caller g.row.Q-Pass.Denot)). lanes (known c.loop-caller.pass) ++ map f xs ≡ map f c.args.callers.items) steps c.loop-caller.invariant.all);
      taped = taped_more (known c.loop-caller.pass) (known next.pass) (known c.join.new.into) next.tape c.loop-caller.tapes.items c.push-in-loop-caller.new.self.items joined one push c.loop-caller.invariant.taped;
      knows = c.join.ensures.knows;
      below = below_more (known c.loop-caller.pass) (known next.pass) (known c.join.new.into) next.tape.lane n (length c.push-in-loop-caller.new.self.items) joined one number count c.loop-caller.invariant.below;
      rest_own = subst (λ (m : ℕ). EachFrom m B rest) (sym count) (others_of n B next rest own);
      rest_made = subst (λ (m : ℕ). EachFrom m M rest) (sym count) (others_of n M next rest made);
    }
