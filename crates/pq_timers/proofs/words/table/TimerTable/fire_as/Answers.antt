-- The state is exchanged where it is armed.
use Rattle.std.proofs.Common.{ℕ, ap, ◌∙◌, sym, subst, arith, eqb}
use mathlib.Core.Option.{none}
use prog.Atomic.{either}
use Rattle.atomic_table.specs.Table.{Allows, step}
use Rattle.pq_timers.specs.declared.words.kept.Kept.{Kept}
use Rattle.pq_timers.specs.declared.words.kept.TimerLimits.{TimerLimits}
use Rattle.pq_timers.specs.Words.{TimersSeen}
use Rattle.pq_timers.specs.WordRules.{IsTimers, state_at, tried_fire}
use Rattle.pq_timers.proofs.Ending.{tries_fire}
use Rattle.pq_timers.proofs.words.table.TimerTable.fire_as.Goals as goal

pub compare_exchange-requires : goal.compare_exchange-requires
compare_exchange-requires g c =
    let wide = c.self.invariant.0 in let key = ap (λ (l : TimerLimits). l.timers) c.self.invariant.2 in let within = c.requires.within in let same = ap (λ (z : TimersSeen). z.limits.timers) c.self.view_is in
    let me = c.args.hand.now.me in let x = c.args.ticket.number in let slots = c.self.inside.table.shared.table_id.slots in
    let at = ap (λ (k : Kept). k.at) c.requires.looked.1 in let word = ap (λ (k : Kept). k.moment_word) c.requires.looked.1 in let due = c.requires.due in (
      c.requires.own ∙ sym (ap (λ (z : TimersSeen). z.table) c.self.view_is),
      omega arith,
      subst (λ (z : ℕ). Allows (IsTimers c.self.inside.table.shared.key) slots c.args.hand.now.id me (state_at x) (λ n. either (eqb n 1) 3 n) (λ n w. tried_fire (step slots (state_at x) 1 3 none) me n w z)) (sym c.requires.picked)
          (tries_fire c.self.inside.table.shared.key slots c.args.hand.now.id x c.args.now me c.requires.rests.1 c.requires.rests.0 (omega arith) at (λ z. omega arith) c.requires.waited.0 c.requires.waited.1 (omega arith)),
    )
