-- The state is read until it is set, then the moment word, and then the state is exchanged where it is armed.
use Rattle.std.proofs.Common.{◌≡◌, ℕ, ap, ◌∙◌, sym, refl, inl, inr, arith}
use Rattle.pq_timers.specs.declared.words.kept.TimerLimits.{TimerLimits}
use Rattle.pq_timers.specs.declared.words.kept.Kept.{Kept}
use Rattle.pq_timers.specs.Words.{TimersSeen, TimerSeated, with_moment, with_state, with_fired, firing, looked}
use Rattle.pq_timers.specs.WordRules.{read_ticket}
use Rattle.pq_timers.proofs.Hands.{Hand, rests_on, seen_keeps, fired_keeps, both_keep, read_back, fired_or_dropped}
use Rattle.pq_timers.proofs.Reading.{sees_moment}
use Rattle.pq_timers.proofs.words.table.TimerTable.fire.Goals as goal

pub load-requires : goal.load-requires
load-requires g c =
    let wide = c.self.invariant.0 in let key = ap (λ (l : TimerLimits). l.timers) c.self.invariant.2 in let within = c.if-ticket-self.false in (
      ap (λ (z : TimerSeated). z.table) c.seat.view_is ∙ (c.wait_until_set.ensures.own.0 ∙ sym (ap (λ (z : TimersSeen). z.table) c.self.view_is)),
      omega arith,
      sees_moment c.self.inside.table.shared.key _ c.seat.inside.seat.id c.args.ticket.number c.seat.inside.seat.me c.seat.invariant.2 (omega arith),
    )

pub invariant_of-seat : goal.invariant_of-seat
invariant_of-seat g c = rests_on c.seat.inside.seat.me c.load.new.seat.me (seen_keeps c.seat.inside.seat.me c.load.new.seat.me c.args.ticket.number c.load.result (c.load.ensures.2 c.args.ticket.number refl).0) c.seat.invariant

pub returns-then-load-ticket-clause-own : goal.returns-then-load-ticket-clause-own
returns-then-load-ticket-clause-own g c =
    let keeps = seen_keeps c.seat.inside.seat.me c.load.new.seat.me c.args.ticket.number c.load.result (c.load.ensures.2 c.args.ticket.number refl).0 in (
      c.load.ensures.0 ∙ (ap (λ (z : TimerSeated). z.table) c.seat.view_is ∙ c.wait_until_set.ensures.own.0),
      keeps.limits ∙ (ap (λ (z : TimerSeated). z.kept.limits) c.seat.view_is ∙ c.wait_until_set.ensures.own.1),
    )

pub returns-then-load-ticket-clause-answer : goal.returns-then-load-ticket-clause-answer
returns-then-load-ticket-clause-answer g c =
    let seen = (c.load.ensures.2 c.args.ticket.number refl).0 in
    inr (c.wait_until_set.new.seat.kept, c.wait_until_set.ensures.waited, inl (c.load.result, c.if-load-ticket.true, ap (λ (z : Hand). z.0.kept) seen ∙ ap (λ (z : TimerSeated). with_moment z.kept c.args.ticket.number c.load.result) c.seat.view_is))

pub fire_as-requires-clause-rests : goal.fire_as-requires-clause-rests
fire_as-requires-clause-rests g c =
    let rests = rests_on c.seat.inside.seat.me c.load.new.seat.me (seen_keeps c.seat.inside.seat.me c.load.new.seat.me c.args.ticket.number c.load.result (c.load.ensures.2 c.args.ticket.number refl).0) c.seat.invariant in (rests.1, rests.2)

pub fire_as-requires-clause-looked : goal.fire_as-requires-clause-looked
fire_as-requires-clause-looked g c =
    let seen = (c.load.ensures.2 c.args.ticket.number refl).0 in
    (c.seat.inside.seat.me.0.kept, ap (λ (z : Hand). z.0.kept) seen ∙ ap (λ (n : ℕ). with_moment c.seat.inside.seat.me.0.kept c.args.ticket.number n) c.if-load-ticket.false)

pub fire_as-requires-clause-waited : goal.fire_as-requires-clause-waited
fire_as-requires-clause-waited g c =
    let seen = (c.load.ensures.2 c.args.ticket.number refl).0 in let waited = c.wait_until_set.ensures.waited in (
      ap (λ (z : Hand). z.0.kept.state_of) seen ∙ (ap (λ (z : TimerSeated). z.kept.state_of) c.seat.view_is ∙ ap (λ (k : Kept). k.state_of) waited.4),
      λ z. waited.2 (sym (ap (λ (z : Hand). z.0.kept.state_word) seen ∙ (ap (λ (z : TimerSeated). z.kept.state_word) c.seat.view_is ∙ ap (λ (k : Kept). k.state_word) waited.4)) ∙ z),
    )

pub invariant_of-seat-2 : goal.invariant_of-seat-2
invariant_of-seat-2 g c =
    let keeps = seen_keeps c.seat.inside.seat.me c.load.new.seat.me c.args.ticket.number c.load.result (c.load.ensures.2 c.args.ticket.number refl).0 in
    let is = c.fire_as.ensures.fired in
    let ends = fired_keeps c.load.new.seat.me c.fire_as.new.hand.me (read_ticket c.load.new.seat.me.0.kept) c.args.now c.fire_as.result is.0 is.1 in
    rests_on c.seat.inside.seat.me c.fire_as.new.hand.me (both_keep c.seat.inside.seat.me c.load.new.seat.me c.fire_as.new.hand.me keeps ends) c.seat.invariant

pub returns-clause-own : goal.returns-clause-own
returns-clause-own g c =
    let keeps = seen_keeps c.seat.inside.seat.me c.load.new.seat.me c.args.ticket.number c.load.result (c.load.ensures.2 c.args.ticket.number refl).0 in
    let is = c.fire_as.ensures.fired in
    let ends = fired_keeps c.load.new.seat.me c.fire_as.new.hand.me (read_ticket c.load.new.seat.me.0.kept) c.args.now c.fire_as.result is.0 is.1 in (
      c.fire_as.ensures.own ∙ (c.load.ensures.0 ∙ (ap (λ (z : TimerSeated). z.table) c.seat.view_is ∙ c.wait_until_set.ensures.own.0)),
      ends.limits ∙ (keeps.limits ∙ (ap (λ (z : TimerSeated). z.kept.limits) c.seat.view_is ∙ c.wait_until_set.ensures.own.1)),
    )

pub returns-clause-answer : goal.returns-clause-answer
returns-clause-answer g c =
    let seen = (c.load.ensures.2 c.args.ticket.number refl).0 in let found = c.fire_as.result in
    let t = c.args.ticket in let k = c.wait_until_set.new.seat.kept in let is = c.fire_as.ensures.fired in
    let kept_at : c.load.new.seat.me.0.kept ≡ looked k t =
    ap (λ (z : Hand). z.0.kept) seen ∙ (ap (λ (n : ℕ). with_moment c.seat.inside.seat.me.0.kept t.number n) c.if-load-ticket.false ∙ ap (λ (z : TimerSeated). looked z.kept t) c.seat.view_is) in
    let ticket_is : read_ticket c.load.new.seat.me.0.kept ≡ t = ap read_ticket kept_at ∙ read_back k t in
    let same = ap (λ (l : TimerLimits). l.timers) (c.requires.own.1 ∙ sym (ap (λ (z : TimersSeen). z.limits) c.self.view_is)) in let within = c.if-ticket-self.false in
    fired_or_dropped c.args.seat.now.kept k c.fire_as.new.hand.me.0.kept t c.args.now found (omega arith) c.wait_until_set.ensures.waited
    (λ e. ap (λ (z : Hand). z.0.kept) (is.0 e) ∙ (λ i. with_fired (with_state (kept_at i) (ticket_is i).number found) (firing (ticket_is i) c.args.now)))
    (λ ne. ap (λ (z : Hand). z.0.kept) (is.1 ne) ∙ (λ i. with_state (kept_at i) (ticket_is i).number found))
    is.2 is.3
