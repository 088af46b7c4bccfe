-- The state word is loaded.
use Rattle.std.proofs.Common.{ap, ◌∙◌, sym, refl, arith}
use Rattle.pq_timers.specs.Words.{TimersSeen, TimerSeated, with_state}
use Rattle.pq_timers.proofs.Hands.{Hand, rests_on, state_keeps}
use Rattle.pq_timers.proofs.Reading.{sees_state}
use Rattle.pq_timers.proofs.words.table.TimerTable.state.Goals as goal

pub load-requires : goal.load-requires
load-requires c =
    let wide = c.self.invariant.0 in let within = c.requires.within in let same = ap (λ (z : TimersSeen). z.limits.timers) c.self.view_is in (
      ap (λ (z : TimerSeated). z.table) c.seat.view_is ∙ (c.requires.own.0 ∙ sym (ap (λ (z : TimersSeen). z.table) c.self.view_is)),
      omega arith,
      sees_state c.self.inside.table.shared.key _ c.seat.inside.seat.id c.args.number c.seat.inside.seat.me c.seat.invariant.2,
    )

pub invariant_of-seat : goal.invariant_of-seat
invariant_of-seat c = rests_on c.seat.inside.seat.me c.load.new.seat.me (state_keeps c.seat.inside.seat.me c.load.new.seat.me c.args.number c.load.result (c.load.ensures.2 c.args.number refl)) c.seat.invariant

pub returns-clause-own : goal.returns-clause-own
returns-clause-own c =
    let keeps = state_keeps c.seat.inside.seat.me c.load.new.seat.me c.args.number c.load.result (c.load.ensures.2 c.args.number refl) in (
      c.load.ensures.0 ∙ (ap (λ (z : TimerSeated). z.table) c.seat.view_is ∙ c.requires.own.0),
      keeps.limits ∙ (ap (λ (z : TimerSeated). z.kept.limits) c.seat.view_is ∙ c.requires.own.1),
    )

pub returns-clause-read : goal.returns-clause-read
returns-clause-read c = ap (λ (z : Hand). z.0.kept) (c.load.ensures.2 c.args.number refl) ∙ ap (λ (z : TimerSeated). with_state z.kept c.args.number c.load.result) c.seat.view_is
