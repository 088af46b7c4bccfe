use Rattle.std.proofs.Common.{◌≡◌, ◌+◌, ◌-◌, ℕ, suc, List, [], length, arith, subst, ap, ◌∙◌, sym}
use Rattle.pq_seats.specs.declared.shared.SeatPass.{SeatPass}
use Rattle.pq_seats.specs.Seats.{Sits, dealt, newcomer}
use Rattle.pq_api.specs.Answers.{EachAt}
use Rattle.pq_seats.proofs.Rows.{EachAt-push, length-push}
use Rattle.pq_seats.proofs.shared.Shared.open.Goals as goal

pub deal-requires-clause-lanes : goal.deal-requires-clause-lanes
deal-requires-clause-lanes g c = let inv = c.loop-i.invariant in let more = c.loop-i-test.true in let i = c.loop-i.i in let n = c.args.seats in
    let f : n - i ≡ suc (n - (i + 1)) = omega arith in
    (n - (i + 1), inv.more ∙ ap (λ (z : ℕ). (dealt g.R.SeatRule.rule c.in_ok-shared.shared.table.shared.key (i + 1) z, [])) f)

pub loop-i-preserved : goal.loop-i-preserved
loop-i-preserved g c = let inv = c.loop-i.invariant in let more = c.loop-i-test.true in let i = c.loop-i.i in let n = c.args.seats in let k = c.in_ok-shared.shared.table.shared.key in let R = g.R.SeatRule.rule in
    let f : n - i ≡ suc (n - (i + 1)) = omega arith in record {
      dealer = c.deal.ensures.dealer.0 ∙ inv.dealer;
      key = inv.key;
      more = c.deal.ensures.dealer.1 (n - (i + 1)) (inv.more ∙ ap (λ (z : ℕ). (dealt R k (i + 1) z, [])) f);
      many = ap length c.in_ok-push.ensures.items ∙ (length-push c.loop-i.passes.items c.deal.result ∙ ap (λ (z : ℕ). z + 1) inv.many);
      passes = let P : ℕ → SeatPass g.row.R.Denot g.row.R-Own.Denot → Type 0 = λ j p. Sits c.in_ok-shared.shared.table.shared.table_id k p.number p.lanes p.seat × (p.seat.me.0 ≡ newcomer R k (j + 1)) in
          subst (λ (z : List (SeatPass g.row.R.Denot g.row.R-Own.Denot)). EachAt P z) (sym c.in_ok-push.ensures.items)
          (EachAt-push P c.loop-i.passes.items c.deal.result inv.passes
          (subst (λ (z : ℕ). P z c.deal.result) (sym inv.many) (c.deal.ensures.pass, c.deal.ensures.new)));
    }
