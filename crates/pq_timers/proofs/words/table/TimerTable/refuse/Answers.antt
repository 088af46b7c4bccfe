-- The state is exchanged where it is armed.
use Rattle.std.proofs.Common.{ap, ◌∙◌, sym, subst, refl, arith}
use Rattle.std.specs.Prelude.{Contains}
use Rattle.pq_timers.specs.declared.words.kept.TimerLimits.{TimerLimits}
use Rattle.pq_timers.specs.Words.{TimersSeen, TimerSeated}
use Rattle.pq_timers.proofs.Hands.{rests_on, refused_keeps}
use Rattle.pq_timers.proofs.Ending.{tries_refuse}
use Rattle.pq_timers.proofs.words.table.TimerTable.refuse.Goals as goal

pub compare_exchange-requires : goal.compare_exchange-requires
compare_exchange-requires c =
    let wide = c.self.invariant.0 in let key = ap (λ (l : TimerLimits). l.timers) c.self.invariant.2 in
    let limits = ap (λ (z : TimerSeated). z.kept.limits) c.seat.view_is ∙ (c.requires.own.1 ∙ sym (ap (λ (z : TimersSeen). z.limits) c.self.view_is)) in
    let same = ap (λ (l : TimerLimits). l.timers) limits in
    let has = subst (λ (z : TimerSeated). Contains z.kept.armed c.args.ticket) (sym c.seat.view_is) c.requires.armed in
    let within = c.seat.invariant.3 c.args.ticket has in (
      ap (λ (z : TimerSeated). z.table) c.seat.view_is ∙ (c.requires.own.0 ∙ sym (ap (λ (z : TimersSeen). z.table) c.self.view_is)),
      omega arith,
      tries_refuse c.self.inside.table.shared.key _ c.seat.inside.seat.id c.seat.inside.seat.me c.args.ticket c.seat.invariant.2 c.seat.invariant.1 (omega arith) has,
    )

pub invariant_of-seat : goal.invariant_of-seat
invariant_of-seat c =
    let has = subst (λ (z : TimerSeated). Contains z.kept.armed c.args.ticket) (sym c.seat.view_is) c.requires.armed in
    let done = c.compare_exchange.ensures.2 c.args.ticket has refl in
    rests_on c.seat.inside.seat.me c.compare_exchange.new.seat.me (refused_keeps c.seat.inside.seat.me c.compare_exchange.new.seat.me c.args.ticket c.compare_exchange.result done.0 done.1) c.seat.invariant

pub returns-clause-own : goal.returns-clause-own
returns-clause-own c =
    let has = subst (λ (z : TimerSeated). Contains z.kept.armed c.args.ticket) (sym c.seat.view_is) c.requires.armed in
    let done = c.compare_exchange.ensures.2 c.args.ticket has refl in
    let keeps = refused_keeps c.seat.inside.seat.me c.compare_exchange.new.seat.me c.args.ticket c.compare_exchange.result done.0 done.1 in (
      c.compare_exchange.ensures.0 ∙ (ap (λ (z : TimerSeated). z.table) c.seat.view_is ∙ c.requires.own.0),
      keeps.limits ∙ (ap (λ (z : TimerSeated). z.kept.limits) c.seat.view_is ∙ c.requires.own.1),
    )

pub returns-clause-knows : goal.returns-clause-knows
returns-clause-knows c =
    let has = subst (λ (z : TimerSeated). Contains z.kept.armed c.args.ticket) (sym c.seat.view_is) c.requires.armed in
    (c.compare_exchange.ensures.2 c.args.ticket has refl).3
