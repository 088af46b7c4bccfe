-- Each turn gives one part to one seat more.
use Rattle.std.proofs.Common.{◌≡◌, ◌+◌, ◌-◌, ℕ, List, [], ◌∷◌, ◌++◌, replicate, ap, ◌∙◌, arith, suc}
use Rattle.pq_timers.specs.Words.{TimersSeen, TimerSeated, new_timer_seat}
use Rattle.pq_timers.specs.WordRules.{giver}
use Rattle.pq_timers.proofs.Hands.{hand_of, replicate-snoc}
use Rattle.pq_timers.proofs.words.table.TimerTable.deal_all.Goals as goal

pub deal-requires-clause-parts : goal.deal-requires-clause-parts
deal-requires-clause-parts c =
    let more = c.loop-test.true in let seats = c.args.self.now.limits.seats in let is = ap (λ (z : TimersSeen). z.limits.seats) c.self.view_is in
    let left : seats - c.loop.counter ≡ suc (seats - (c.loop.counter + 1)) = omega arith in
    (seats - (c.loop.counter + 1), c.loop.invariant.1 ∙ ap (λ (n : ℕ). hand_of (giver c.args.self.now.limits n)) left)

pub loop-preserved : goal.loop-preserved
loop-preserved c =
    let more = c.loop-test.true in let seats = c.args.self.now.limits.seats in let is = ap (λ (z : TimersSeen). z.limits.seats) c.self.view_is in
    let left : seats - c.loop.counter ≡ suc (seats - (c.loop.counter + 1)) = omega arith in
    let dealt = c.deal.ensures.dealt (seats - (c.loop.counter + 1)) (c.loop.invariant.1 ∙ ap (λ (n : ℕ). hand_of (giver c.args.self.now.limits n)) left) in
    let one : TimerSeated = new_timer_seat c.args.self.now in (
      c.deal.ensures.own ∙ c.loop.invariant.0,
      dealt.0,
      c.in_ok-push.ensures.items ∙ (ap (λ (l : List TimerSeated). l ++ c.deal.result ∷ []) c.loop.invariant.2 ∙ (ap (λ (x : TimerSeated). replicate c.loop.counter one ++ x ∷ []) dealt.1 ∙ replicate-snoc c.loop.counter one)),
    )
