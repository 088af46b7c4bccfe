-- Each turn gives one part to one seat more.
use Rattle.std.proofs.Common.{◌≡◌, ◌+◌, ◌-◌, ℕ, List, [], ◌∷◌, ◌++◌, replicate, ap, ◌∙◌, arith, suc}
use Rattle.atomic_table.specs.Table.{Me}
use Rattle.bb_shared.specs.declared.control.told.Told.{Told}
use Rattle.bb_shared.specs.Controls.{ControlSeated, new_told}
use Rattle.bb_shared.specs.ControlRules.{teller}
use Rattle.bb_shared.proofs.StoreSeats.{replicate-snoc}
use Rattle.bb_shared.proofs.control.words.Control.deal_all.Goals as goal

abbrev hand : Told → Me (Unit {0}) Told
hand v = (v, [])

pub deal-requires-clause-parts : goal.deal-requires-clause-parts
deal-requires-clause-parts c = let more = c.loop-test.true in let left : c.args.seats - c.loop.counter ≡ suc (c.args.seats - (c.loop.counter + 1)) = omega arith in
    (c.args.seats, c.args.seats - (c.loop.counter + 1), c.loop.invariant.1 ∙ ap (λ (n : ℕ). hand (teller c.args.seats n)) left)

pub loop-preserved : goal.loop-preserved
loop-preserved c = let more = c.loop-test.true in let left : c.args.seats - c.loop.counter ≡ suc (c.args.seats - (c.loop.counter + 1)) = omega arith in
    let dealt = c.deal.ensures.dealt c.args.seats (c.args.seats - (c.loop.counter + 1)) (c.loop.invariant.1 ∙ ap (λ (n : ℕ). hand (teller c.args.seats n)) left) in
    let one : ControlSeated = record { control = c.args.self.now; kept = new_told c.args.seats } in (
      c.deal.ensures.own ∙ c.loop.invariant.0,
      dealt.0,
      c.in_ok-push.ensures.items ∙ (ap (λ (l : List ControlSeated). l ++ c.deal.result ∷ []) c.loop.invariant.2 ∙ (ap (λ (x : ControlSeated). replicate c.loop.counter one ++ x ∷ []) dealt.1 ∙ replicate-snoc c.loop.counter one)),
    )
