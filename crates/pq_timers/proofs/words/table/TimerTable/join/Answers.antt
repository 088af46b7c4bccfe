-- The other seat is spent, and then the seat learns what it knows.
use Rattle.std.proofs.Common.{ap, ◌∙◌, sym, subst, arith}
use Rattle.pq_timers.specs.Words.{TimersSeen, TimerSeated}
use Rattle.pq_timers.specs.WordRules.{AreTimers}
use Rattle.pq_timers.proofs.Hands.{Hand, joined_timers}
use Rattle.pq_timers.proofs.Deals.{joins}
use Rattle.pq_timers.proofs.Reading.{learns}
use Rattle.pq_timers.proofs.words.table.TimerTable.join.Goals as goal

pub join_seat-requires : goal.join_seat-requires
join_seat-requires c = let wide = c.self.invariant.0 in (
  ap (λ (z : TimerSeated). z.table) c.into.view_is ∙ (c.requires.own.0.0 ∙ sym (ap (λ (z : TimersSeen). z.table) c.self.view_is)),
  ap (λ (z : TimerSeated). z.table) c.other.view_is ∙ (c.requires.own.1.0 ∙ sym (ap (λ (z : TimersSeen). z.table) c.self.view_is)),
  c.other.invariant.0,
  omega arith,
  joins c.self.inside.table.shared.key _ _ _ _ c.into.invariant.2 c.other.invariant.1,
)

pub load-requires : goal.load-requires
load-requires c = let wide = c.self.invariant.0 in (
  c.join_seat.ensures.0 ∙ (ap (λ (z : TimerSeated). z.table) c.into.view_is ∙ (c.requires.own.0.0 ∙ sym (ap (λ (z : TimersSeen). z.table) c.self.view_is))),
  omega arith,
  learns c.self.inside.table.shared.key _ _ c.join_seat.new.seat.me
      (let parts = ap (λ (z : Hand). z.0.kept.parts) c.join_seat.ensures.2 in let some_part = c.into.invariant.2 in omega arith)
      (ap (λ (z : Hand). z.0.arming) c.join_seat.ensures.2 ∙ c.into.invariant.1),
)

pub invariant_of-into : goal.invariant_of-into
invariant_of-into c =
    let joined = c.join_seat.ensures.2 in let learned = c.load.ensures.2.0 in
    let limits = ap (λ (z : TimerSeated). z.kept.limits) c.into.view_is ∙ (c.requires.own.0.1 ∙ sym (ap (λ (z : TimerSeated). z.kept.limits) c.other.view_is ∙ c.requires.own.1.1)) in (
      ap (λ (z : Hand). z.1) learned ∙ (ap (λ (z : Hand). z.1) joined ∙ c.into.invariant.0),
      ap (λ (z : Hand). z.0.arming) learned ∙ (ap (λ (z : Hand). z.0.arming) joined ∙ c.into.invariant.1),
      (let a = ap (λ (z : Hand). z.0.kept.parts) learned in let b = ap (λ (z : Hand). z.0.kept.parts) joined in let some = c.into.invariant.2 in omega arith),
      subst (λ (z : Hand). AreTimers z.0.kept) (sym (learned ∙ joined)) (joined_timers c.into.inside.seat.me.0.kept c.other.inside.seat.me.0.kept limits c.into.invariant.3 c.other.invariant.3),
    )
