-- Each turn gives one part to one seat more.
use Rattle.std.proofs.Common.{◌≡◌, ◌+◌, ◌-◌, ℕ, List, [], ◌∷◌, ◌++◌, replicate, ap, ◌∙◌, arith, suc}
use Rattle.bb_shared.specs.Stores.{StoreSeated, new_store_seat}
use Rattle.bb_shared.specs.StoreRules.{giver}
use Rattle.bb_shared.proofs.StoreSeats.{seat_of, replicate-snoc}
use Rattle.bb_shared.proofs.store.nodes.Store.deal_all.Goals as goal

pub deal-requires-clause-parts : goal.deal-requires-clause-parts
deal-requires-clause-parts g c = let more = c.loop-test.true in let left : c.args.seats - c.loop.counter ≡ suc (c.args.seats - (c.loop.counter + 1)) = omega arith in
    (c.args.seats, c.args.seats - (c.loop.counter + 1), c.loop.invariant.1 ∙ ap (λ (n : ℕ). seat_of (giver c.args.seats n) []) left)

pub loop-preserved : goal.loop-preserved
loop-preserved g c = let more = c.loop-test.true in let left : c.args.seats - c.loop.counter ≡ suc (c.args.seats - (c.loop.counter + 1)) = omega arith in
    let dealt = c.deal.ensures.dealt c.args.seats (c.args.seats - (c.loop.counter + 1)) (c.loop.invariant.1 ∙ ap (λ (n : ℕ). seat_of (giver c.args.seats n) []) left) in
    let one : StoreSeated g.row.N.Denot = new_store_seat c.args.self.now c.args.seats in (
      c.deal.ensures.own ∙ c.loop.invariant.0,
      dealt.0,
      c.in_ok-push.ensures.items ∙ (ap (λ (l : List (StoreSeated g.row.N.Denot)). l ++ c.deal.result ∷ []) c.loop.invariant.2 ∙ (ap (λ (x : StoreSeated g.row.N.Denot). replicate c.loop.counter one ++ x ∷ []) dealt.1 ∙ replicate-snoc c.loop.counter one)),
    )
