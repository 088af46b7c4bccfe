use Rattle.std.proofs.Common.{length, arith, sym, subst, ap, ◌∙◌, []}
use Rattle.atomic_table.specs.Table.{Me, Splits}
use Rattle.pq_seats.specs.declared.views.View.{View}
use Rattle.pq_seats.specs.Rules.{Holds}
use Rattle.pq_seats.specs.Seats.{deal_left, deal_right}
use Rattle.pq_seats.proofs.Dealing.{deals}
use Rattle.pq_seats.proofs.shared.Shared.deal.Goals as goal

pub split_seat-seat-requires : goal.split_seat-seat-requires
split_seat-seat-requires g c = let R = g.R.SeatRule.rule in let k = c.args.self.now.table.shared.key in let size = c.args.self.now.sized.0 in let wide = c.args.self.now.wide in (
  c.requires.table,
  omega arith,
  subst (λ (m : Me (Unit {0}) (View g.row.R-Own.Denot)). Splits (Holds R k) c.args.dealer.now.id m.0 (deal_left m.0) (deal_right R m.0)) (sym c.requires.lanes.1)
      (deals R k c.args.dealer.now.id c.args.number c.requires.lanes.0 g.R.SeatRule.lawful),
)

pub returns-clause-dealer : goal.returns-clause-dealer
returns-clause-dealer g c = let e = c.split_seat-seat.ensures in
    (e.0, λ more is. e.2 ∙ ap (λ (m : Me (Unit {0}) (View g.row.R-Own.Denot)). let z : Me (Unit {0}) (View g.row.R-Own.Denot) = (deal_left m.0, m.1) in z) is)

pub returns-clause-pass : goal.returns-clause-pass
returns-clause-pass g c = let R = g.R.SeatRule.rule in let e = c.split_seat-seat.ensures in let k = c.args.self.now.table.shared.key in
    let right = e.4 ∙ ap (λ (m : Me (Unit {0}) (View g.row.R-Own.Denot)). let z : Me (Unit {0}) (View g.row.R-Own.Denot) = (deal_right R m.0, []) in z) c.requires.lanes.1 in
    let view = ap (λ (m : Me (Unit {0}) (View g.row.R-Own.Denot)). m.0) right in record {
      table = e.3 ∙ c.requires.table;
      limits = ap (λ (v : View g.row.R-Own.Denot). v.limits) view;
      empty = ap (λ (m : Me (Unit {0}) (View g.row.R-Own.Denot)). m.1) right;
      seated = c.requires.seated;
      named = sym (ap (λ (v : View g.row.R-Own.Denot). v.post.number) view);
      first = ([], [], ap (λ (v : View g.row.R-Own.Denot). v.lanes) view);
      counted = sym (ap (λ (v : View g.row.R-Own.Denot). length v.lanes) view);
    }

pub returns-clause-new : goal.returns-clause-new
returns-clause-new g c = let R = g.R.SeatRule.rule in let e = c.split_seat-seat.ensures in
    ap (λ (m : Me (Unit {0}) (View g.row.R-Own.Denot)). m.0) (e.4 ∙ ap (λ (m : Me (Unit {0}) (View g.row.R-Own.Denot)). let z : Me (Unit {0}) (View g.row.R-Own.Denot) = (deal_right R m.0, []) in z) c.requires.lanes.1)
