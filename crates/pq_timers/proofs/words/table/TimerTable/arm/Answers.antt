-- The number is drawn, and its timer gets its moment and then its state.
use Rattle.std.proofs.Common.{◌<◌, ap, ◌∙◌, sym, subst, arith}
use Rattle.pq_timers.specs.declared.words.kept.TimerLimits.{TimerLimits}
use Rattle.pq_timers.specs.Words.{TimersSeen, TimerSeated, ticket, with_armed}
use Rattle.pq_timers.specs.WordRules.{AreTimers, drawn_view}
use Rattle.pq_timers.proofs.Hands.{Hand, spent_idle, timer_arming, more_timers}
use Rattle.pq_timers.proofs.Drawing.{stores_moment}
use Rattle.pq_timers.proofs.Setting.{sets_armed}
use Rattle.pq_timers.proofs.words.table.TimerTable.arm.Goals as goal

pub invariant_of-seat : goal.invariant_of-seat
invariant_of-seat c =
    let d = c.draw_as-number.ensures.drawn.0 in
    let limits = ap (λ (z : TimerSeated). z.kept.limits) c.seat.view_is ∙ (c.requires.own.1 ∙ sym (ap (λ (z : TimersSeen). z.limits) c.self.view_is)) in
    let same = ap (λ (l : TimerLimits). l.timers) limits in let past = c.if-number-self.true in (
      ap (λ (z : Hand). z.1) d ∙ c.seat.invariant.0,
      ap (λ (z : Hand). z.0.arming) d ∙ spent_idle c.seat.inside.seat.me.0 c.draw_as-number.result c.args.moment (omega arith),
      subst (λ (z : Hand). 0 < z.0.kept.parts) (sym d) c.seat.invariant.2,
      subst (λ (z : Hand). AreTimers z.0.kept) (sym d) c.seat.invariant.3,
    )

pub returns-then-number-self-clause-knows : goal.returns-then-number-self-clause-knows
returns-then-number-self-clause-knows c =
    let limits = ap (λ (z : TimerSeated). z.kept.limits) c.seat.view_is ∙ (c.requires.own.1 ∙ sym (ap (λ (z : TimersSeen). z.limits) c.self.view_is)) in
    let same = ap (λ (l : TimerLimits). l.timers) limits in let past = c.if-number-self.true in
    c.draw_as-number.ensures.drawn.2 (omega arith)

pub store-requires : goal.store-requires
store-requires c =
    let d = c.draw_as-number.ensures.drawn.0 in let wide = c.self.invariant.0 in
    let limits = ap (λ (z : TimerSeated). z.kept.limits) c.seat.view_is ∙ (c.requires.own.1 ∙ sym (ap (λ (z : TimersSeen). z.limits) c.self.view_is)) in
    let same = ap (λ (l : TimerLimits). l.timers) limits in let key = ap (λ (l : TimerLimits). l.timers) c.self.invariant.2 in let within = c.if-number-self.false in (
      c.draw_as-number.ensures.own ∙ (ap (λ (z : TimerSeated). z.table) c.seat.view_is ∙ (c.requires.own.0 ∙ sym (ap (λ (z : TimersSeen). z.table) c.self.view_is))),
      omega arith,
      stores_moment c.self.inside.table.shared.key _ c.draw_as-number.new.seat.id c.draw_as-number.new.seat.me (ticket c.draw_as-number.result c.args.moment)
          (subst (λ (z : Hand). 0 < z.0.kept.parts) (sym d) c.seat.invariant.2)
          (ap (λ (z : Hand). z.0.arming) d ∙ timer_arming c.seat.inside.seat.me.0 c.draw_as-number.result c.args.moment (omega arith)) (omega arith),
    )

pub store-requires-2 : goal.store-requires-2
store-requires-2 c =
    let d = c.draw_as-number.ensures.drawn.0 in let wide = c.self.invariant.0 in let stored = c.store.ensures.2 in
    let limits = ap (λ (z : TimerSeated). z.kept.limits) c.seat.view_is ∙ (c.requires.own.1 ∙ sym (ap (λ (z : TimersSeen). z.limits) c.self.view_is)) in
    let same = ap (λ (l : TimerLimits). l.timers) limits in let key = ap (λ (l : TimerLimits). l.timers) c.self.invariant.2 in let within = c.if-number-self.false in (
      c.store.ensures.0 ∙ (c.draw_as-number.ensures.own ∙ (ap (λ (z : TimerSeated). z.table) c.seat.view_is ∙ (c.requires.own.0 ∙ sym (ap (λ (z : TimersSeen). z.table) c.self.view_is)))),
      omega arith,
      sets_armed c.self.inside.table.shared.key _ c.store.new.seat.id c.store.new.seat.me (ticket c.draw_as-number.result c.args.moment)
          (let a = ap (λ (z : Hand). z.0.kept.parts) stored in let b = ap (λ (z : Hand). z.0.kept.parts) d in let some = c.seat.invariant.2 in omega arith)
          (ap (λ (z : Hand). z.0.arming) stored ∙ (ap (λ (z : Hand). z.0.arming) d ∙ timer_arming c.seat.inside.seat.me.0 c.draw_as-number.result c.args.moment (omega arith)))
          (ap (λ (z : Hand). z.0.stored) stored) (omega arith),
    )

pub invariant_of-seat-2 : goal.invariant_of-seat-2
invariant_of-seat-2 c =
    let d = c.draw_as-number.ensures.drawn.0 in let stored = c.store.ensures.2 in
    let limits = ap (λ (z : TimerSeated). z.kept.limits) c.seat.view_is ∙ (c.requires.own.1 ∙ sym (ap (λ (z : TimersSeen). z.limits) c.self.view_is)) in
    let same = ap (λ (l : TimerLimits). l.timers) limits in let within = c.if-number-self.false in
    let arming = ap (λ (z : Hand). z.0.arming) stored ∙ (ap (λ (z : Hand). z.0.arming) d ∙ timer_arming c.seat.inside.seat.me.0 c.draw_as-number.result c.args.moment (omega arith)) in
    let done = (c.store-2.ensures.2 (ticket c.draw_as-number.result c.args.moment) arming).0 in (
      ap (λ (z : Hand). z.1) done ∙ (ap (λ (z : Hand). z.1) stored ∙ (ap (λ (z : Hand). z.1) d ∙ c.seat.invariant.0)),
      ap (λ (z : Hand). z.0.arming) done,
      (let a = ap (λ (z : Hand). z.0.kept.parts) done in let b = ap (λ (z : Hand). z.0.kept.parts) stored in let e = ap (λ (z : Hand). z.0.kept.parts) d in let some = c.seat.invariant.2 in omega arith),
      subst AreTimers (sym (ap (λ (z : Hand). z.0.kept) done ∙ (ap (λ (z : Hand). with_armed z.0.kept (ticket c.draw_as-number.result c.args.moment)) stored ∙ ap (λ (z : Hand). with_armed z.0.kept (ticket c.draw_as-number.result c.args.moment)) d)))
          (more_timers (drawn_view c.seat.inside.seat.me.0 c.draw_as-number.result c.args.moment).kept (ticket c.draw_as-number.result c.args.moment) c.seat.invariant.3 (omega arith)),
    )

pub returns-clause-own : goal.returns-clause-own
returns-clause-own c =
    let d = c.draw_as-number.ensures.drawn.0 in let stored = c.store.ensures.2 in
    let limits = ap (λ (z : TimerSeated). z.kept.limits) c.seat.view_is ∙ (c.requires.own.1 ∙ sym (ap (λ (z : TimersSeen). z.limits) c.self.view_is)) in
    let same = ap (λ (l : TimerLimits). l.timers) limits in let within = c.if-number-self.false in
    let arming = ap (λ (z : Hand). z.0.arming) stored ∙ (ap (λ (z : Hand). z.0.arming) d ∙ timer_arming c.seat.inside.seat.me.0 c.draw_as-number.result c.args.moment (omega arith)) in
    let done = (c.store-2.ensures.2 (ticket c.draw_as-number.result c.args.moment) arming).0 in (
      c.store-2.ensures.0 ∙ (c.store.ensures.0 ∙ (c.draw_as-number.ensures.own ∙ (ap (λ (z : TimerSeated). z.table) c.seat.view_is ∙ c.requires.own.0))),
      ap (λ (z : Hand). z.0.kept.limits) done ∙ (ap (λ (z : Hand). z.0.kept.limits) stored ∙ (ap (λ (z : Hand). z.0.kept.limits) d ∙ (ap (λ (z : TimerSeated). z.kept.limits) c.seat.view_is ∙ c.requires.own.1))),
    )

pub returns-clause-knows : goal.returns-clause-knows
returns-clause-knows c =
    let d = c.draw_as-number.ensures.drawn.0 in let stored = c.store.ensures.2 in
    let limits = ap (λ (z : TimerSeated). z.kept.limits) c.seat.view_is ∙ (c.requires.own.1 ∙ sym (ap (λ (z : TimersSeen). z.limits) c.self.view_is)) in
    let same = ap (λ (l : TimerLimits). l.timers) limits in let within = c.if-number-self.false in
    let arming = ap (λ (z : Hand). z.0.arming) stored ∙ (ap (λ (z : Hand). z.0.arming) d ∙ timer_arming c.seat.inside.seat.me.0 c.draw_as-number.result c.args.moment (omega arith)) in
    (c.store-2.ensures.2 (ticket c.draw_as-number.result c.args.moment) arming).1
