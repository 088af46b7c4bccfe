use Rattle.std.proofs.Common.{◌≡◌, ℕ, sym, subst, arith}
use mathlib.Core.Option.{none}
use Rattle.atomic_table.specs.Table.{step, Allows}
use Rattle.pq_words.specs.Letters.{letter_number}
use Rattle.pq_seats.specs.Rules.{Holds}
use Rattle.pq_seats.specs.Steps.{leaves}
use Rattle.pq_seats.proofs.Leaving.{leaving}
use Rattle.pq_seats.proofs.shared.Shared.leave_letter.Goals as goal

pub store-requires : goal.store-requires
store-requires g c = let R = g.R.SeatRule.rule in let k = c.args.self.now.table.shared.key in let seat = c.requires.own in let low = seat.seated.0 in let named = seat.named in
    let size = c.args.self.now.sized.0 in let room = c.requires.owner in let mine = c.args.pass.now.seat in let slots = c.args.self.now.table.shared.table_id.slots in
    let word : c.pack-word.result ≡ letter_number c.args.letter = c.pack-word.ensures.number in (
      seat.table,
      omega arith,
      subst (λ (z : ℕ). Allows (Holds R k) slots mine.id mine.me c.args.owner (λ _. z) (λ _. leaves R (step slots c.args.owner z 0 none) mine.me z)) (sym word)
          (leaving R k slots mine.id mine.me c.args.owner (letter_number c.args.letter) g.R.SeatRule.lawful (λ e. omega arith) c.requires.owed c.requires.allowed),
    )
