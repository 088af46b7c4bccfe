use Rattle.std.proofs.Common.{◌≡◌, sym, subst, ℕ, ◌+◌, ◌%◌, ◌^◌, arith}
use mathlib.Core.Option.{none}
use Rattle.atomic_table.specs.Table.{step, Allows}
use Rattle.pq_model.specs.declared.marks.Act.{Act}
use Rattle.pq_seats.specs.Rules.{Holds}
use Rattle.pq_seats.specs.Steps.{draws}
use Rattle.pq_seats.proofs.Drawing.{drawn}
use Rattle.pq_seats.proofs.shared.Shared.draw_as.Goals as goal

pub fetch_add-requires : goal.fetch_add-requires
fetch_add-requires g c = let R = g.R.SeatRule.rule in let k = c.args.self.now.table.shared.key in let seat = c.requires.own in let low = seat.seated.0 in let named = seat.named in
    let size = c.args.self.now.sized.0 in let wide = c.args.self.now.wide in let mine = c.args.pass.now.seat in let slots = c.args.self.now.table.shared.table_id.slots in
    let same : c.from.result ≡ c.args.marks = c.from.ensures in (
      seat.table,
      omega arith,
      subst (λ (n : ℕ). Allows (Holds R k) slots mine.id mine.me 0 (λ x. (x + n) % 2 ^ 64) (λ x m'. draws R (step slots 0 n 0 none) mine.me x m' g.I.Intent.act)) (sym same)
          (subst (λ (a : Act). Allows (Holds R k) slots mine.id mine.me 0 (λ x. (x + c.args.marks) % 2 ^ 64) (λ x m'. draws R (step slots 0 c.args.marks 0 none) mine.me x m' a)) c.requires.picked
          (drawn R k slots mine.id mine.me c.args.act c.args.marks g.R.SeatRule.lawful (λ e. omega arith) c.requires.marks c.requires.plain c.requires.few c.requires.allowed)),
    )
