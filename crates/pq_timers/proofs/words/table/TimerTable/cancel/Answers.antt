-- The moment word is read, and then the state exchanged where it is armed.
use Rattle.std.proofs.Common.{◌≡◌, ℕ, ap, ◌∙◌, sym, subst, refl, inl, inr, arith}
use Rattle.pq_timers.specs.declared.words.kept.TimerLimits.{TimerLimits}
use Rattle.pq_timers.specs.declared.words.kept.Kept.{Kept}
use Rattle.pq_timers.specs.declared.ticket.Ticket.{Ticket}
use Rattle.pq_timers.specs.declared.answers.Cancel.{Cancel}
use Rattle.pq_timers.specs.Words.{TimersSeen, TimerSeated, HasArmed, IsCancel, with_moment, looked}
use Rattle.pq_timers.specs.WordRules.{read_ticket, cancelling}
use Rattle.pq_timers.proofs.Hands.{Hand, rests_on, seen_keeps, cancelled_keeps, both_keep, read_back, answered, is_known}
use Rattle.pq_timers.proofs.Reading.{sees_moment}
use Rattle.pq_timers.proofs.Cancelling.{tries_cancel}
use Rattle.pq_timers.proofs.words.table.TimerTable.cancel.Goals as goal

pub returns-then-ticket-self-clause-known : goal.returns-then-ticket-self-clause-known
returns-then-ticket-self-clause-known c has e =
    let own = subst (λ (z : TimerSeated). HasArmed z.kept c.args.ticket) (sym c.seat.view_is) has in
    let limits = ap (λ (z : TimerSeated). z.kept.limits) c.seat.view_is ∙ (c.requires.own.1 ∙ sym (ap (λ (z : TimersSeen). z.limits) c.self.view_is)) in
    let same = ap (λ (l : TimerLimits). l.timers) limits in let within = c.seat.invariant.3 c.args.ticket own.0 in let past = c.if-ticket-self.true in absurd (omega arith)

pub load-requires : goal.load-requires
load-requires c =
    let wide = c.self.invariant.0 in let key = ap (λ (l : TimerLimits). l.timers) c.self.invariant.2 in let within = c.if-ticket-self.false in (
      ap (λ (z : TimerSeated). z.table) c.seat.view_is ∙ (c.requires.own.0 ∙ sym (ap (λ (z : TimersSeen). z.table) c.self.view_is)),
      omega arith,
      sees_moment c.self.inside.table.shared.key _ c.seat.inside.seat.id c.args.ticket.number c.seat.inside.seat.me c.seat.invariant.2 (omega arith),
    )

pub invariant_of-seat-then-load-ticket : goal.invariant_of-seat-then-load-ticket
invariant_of-seat-then-load-ticket c = rests_on c.seat.inside.seat.me c.load.new.seat.me (seen_keeps c.seat.inside.seat.me c.load.new.seat.me c.args.ticket.number c.load.result (c.load.ensures.2 c.args.ticket.number refl).0) c.seat.invariant

pub returns-then-load-ticket-clause-own : goal.returns-then-load-ticket-clause-own
returns-then-load-ticket-clause-own c =
    let keeps = seen_keeps c.seat.inside.seat.me c.load.new.seat.me c.args.ticket.number c.load.result (c.load.ensures.2 c.args.ticket.number refl).0 in (
      c.load.ensures.0 ∙ (ap (λ (z : TimerSeated). z.table) c.seat.view_is ∙ c.requires.own.0),
      keeps.limits ∙ (ap (λ (z : TimerSeated). z.kept.limits) c.seat.view_is ∙ c.requires.own.1),
    )

pub returns-then-load-ticket-clause-answer : goal.returns-then-load-ticket-clause-answer
returns-then-load-ticket-clause-answer c =
    let seen = (c.load.ensures.2 c.args.ticket.number refl).0 in
    inr (inl (c.load.result, c.if-load-ticket.true, ap (λ (z : Hand). z.0.kept) seen ∙ ap (λ (z : TimerSeated). with_moment z.kept c.args.ticket.number c.load.result) c.seat.view_is))

pub returns-then-load-ticket-clause-known : goal.returns-then-load-ticket-clause-known
returns-then-load-ticket-clause-known c has e =
    let own = subst (λ (z : TimerSeated). HasArmed z.kept c.args.ticket) (sym c.seat.view_is) has in
    let is = (c.load.ensures.2 c.args.ticket.number refl).1 c.args.ticket own.0 refl in c.if-load-ticket.true is

pub compare_exchange-requires : goal.compare_exchange-requires
compare_exchange-requires c =
    let wide = c.self.invariant.0 in let key = ap (λ (l : TimerLimits). l.timers) c.self.invariant.2 in let within = c.if-ticket-self.false in
    let seen = (c.load.ensures.2 c.args.ticket.number refl).0 in let moment = c.if-load-ticket.false in
    let rests = rests_on c.seat.inside.seat.me c.load.new.seat.me (seen_keeps c.seat.inside.seat.me c.load.new.seat.me c.args.ticket.number c.load.result seen) c.seat.invariant in (
      c.load.ensures.0 ∙ (ap (λ (z : TimerSeated). z.table) c.seat.view_is ∙ (c.requires.own.0 ∙ sym (ap (λ (z : TimersSeen). z.table) c.self.view_is))),
      omega arith,
      tries_cancel c.self.inside.table.shared.key _ c.load.new.seat.id c.args.ticket.number c.load.new.seat.me rests.2 rests.1 (omega arith)
          (ap (λ (z : Hand). z.0.kept.at) seen) (let a = ap (λ (z : Hand). z.0.kept.moment_word) seen in λ z. omega arith),
    )

pub invariant_of-seat-2 : goal.invariant_of-seat-2
invariant_of-seat-2 c =
    let keeps = seen_keeps c.seat.inside.seat.me c.load.new.seat.me c.args.ticket.number c.load.result (c.load.ensures.2 c.args.ticket.number refl).0 in
    let ends = cancelled_keeps c.load.new.seat.me c.compare_exchange.new.seat.me (read_ticket c.load.new.seat.me.0.kept) c.compare_exchange.result c.compare_exchange.ensures.2.0 in
    rests_on c.seat.inside.seat.me c.compare_exchange.new.seat.me (both_keep c.seat.inside.seat.me c.load.new.seat.me c.compare_exchange.new.seat.me keeps ends) c.seat.invariant

pub returns-clause-own : goal.returns-clause-own
returns-clause-own c =
    let keeps = seen_keeps c.seat.inside.seat.me c.load.new.seat.me c.args.ticket.number c.load.result (c.load.ensures.2 c.args.ticket.number refl).0 in
    let ends = cancelled_keeps c.load.new.seat.me c.compare_exchange.new.seat.me (read_ticket c.load.new.seat.me.0.kept) c.compare_exchange.result c.compare_exchange.ensures.2.0 in (
      c.compare_exchange.ensures.0 ∙ (c.load.ensures.0 ∙ (ap (λ (z : TimerSeated). z.table) c.seat.view_is ∙ c.requires.own.0)),
      ends.limits ∙ (keeps.limits ∙ (ap (λ (z : TimerSeated). z.kept.limits) c.seat.view_is ∙ c.requires.own.1)),
    )

pub returns-clause-answer : goal.returns-clause-answer
returns-clause-answer c =
    let seen = (c.load.ensures.2 c.args.ticket.number refl).0 in let found = c.compare_exchange.result in let moment = c.if-load-ticket.false in
    let is = c.compare_exchange.ensures.2 in
    let before = ap (λ (z : TimerSeated). z.kept) c.seat.view_is in
    let looked_at : c.load.new.seat.me.0.kept ≡ looked c.seat.inside.seat.me.0.kept c.args.ticket = ap (λ (z : Hand). z.0.kept) seen ∙ ap (λ (n : ℕ). with_moment c.seat.inside.seat.me.0.kept c.args.ticket.number n) moment in
    let ticket_is : read_ticket c.load.new.seat.me.0.kept ≡ c.args.ticket = ap read_ticket looked_at ∙ read_back c.seat.inside.seat.me.0.kept c.args.ticket in
    let now : c.compare_exchange.new.seat.me.0.kept ≡ cancelling (looked c.args.seat.now.kept c.args.ticket) c.args.ticket found =
    ap (λ (z : Hand). z.0.kept) is.0 ∙ ((λ i. cancelling (looked_at i) (ticket_is i) found) ∙ ap (λ (k : Kept). cancelling (looked k c.args.ticket) c.args.ticket found) before) in
    let same = ap (λ (l : TimerLimits). l.timers) (c.requires.own.1 ∙ sym (ap (λ (z : TimersSeen). z.limits) c.self.view_is)) in let within = c.if-ticket-self.false in
    subst (λ (z : Cancel × Kept). IsCancel c.args.seat.now.kept c.args.ticket z.0 z.1) (λ i. (sym c.cancel_of.ensures i, sym now i))
    (answered c.args.seat.now.kept c.args.ticket found is.2 (omega arith))

pub returns-clause-known : goal.returns-clause-known
returns-clause-known c has e =
    let seen = (c.load.ensures.2 c.args.ticket.number refl).0 in let moment = c.if-load-ticket.false in
    let is = c.compare_exchange.ensures.2 in
    let own = subst (λ (z : TimerSeated). HasArmed z.kept c.args.ticket) (sym c.seat.view_is) has in
    let looked_at : c.load.new.seat.me.0.kept ≡ looked c.seat.inside.seat.me.0.kept c.args.ticket = ap (λ (z : Hand). z.0.kept) seen ∙ ap (λ (n : ℕ). with_moment c.seat.inside.seat.me.0.kept c.args.ticket.number n) moment in
    let ticket_is : read_ticket c.load.new.seat.me.0.kept ≡ c.args.ticket = ap read_ticket looked_at ∙ read_back c.seat.inside.seat.me.0.kept c.args.ticket in
    let facts = is.1 (subst (λ (z : Kept × Ticket). HasArmed z.0 z.1) (λ i. (sym looked_at i, sym ticket_is i)) own) in
    is_known c.compare_exchange.result is.2 facts.0 facts.1 (sym c.cancel_of.ensures ∙ e)
