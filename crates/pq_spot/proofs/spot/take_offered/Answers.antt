use Rattle.std.proofs.Common.{◌+◌, ◌++◌, suc, ◌-◌, [], arith, ap, sym, ◌∙◌, subst}
use Rattle.std.specs.Prelude.{Contains}
use Rattle.pq_seats.specs.declared.views.Post.{Post}
use Rattle.pq_seats.specs.declared.views.View.{View}
use Rattle.pq_seats.specs.Batches.{letters_from}
use Rattle.pq_seats.proofs.Lists.{in_first}
use Rattle.pq_spot.specs.declared.views.SpotPart.{SpotPart}
use Rattle.pq_spot.specs.Spot.{lock_word, removal}
use Rattle.pq_spot.proofs.Allows.{may_take_offered, may_leave, letters_are}
use Rattle.pq_spot.proofs.spot.take_offered.Goals as goal

pub draw-first-requires-clause-allowed : goal.draw-first-requires-clause-allowed
draw-first-requires-clause-allowed c = let post = c.requires.post in let own = c.requires.own in let named = own.named in
    may_take_offered c.args.table.now.table.shared.key c.args.pass.now.seat.id c.args.pass.now.seat.me.0 (subst (λ (p : Post SpotPart). Contains p.locks lock_word) (sym post) (in_first lock_word []))
    (ap (λ (p : Post SpotPart). p.flight) post) (c.args.owner - 1) ((ap (λ (p : Post SpotPart). p.own.counted) post) ∙ ap suc (let low = c.requires.owner.0 in omega arith))

pub leave_letter-requires-clause-allowed : goal.leave_letter-requires-clause-allowed
leave_letter-requires-clause-allowed c = let first = c.draw-first.result in
    let put = ap (λ (v : View SpotPart). v.post.owed) c.put.ensures.view in
    let drew = ap (λ (v : View SpotPart). v.post.owed) c.draw-first.ensures.view in
    let letters = ap (λ (p : Post SpotPart). p.owed ++ letters_from first (removal p.own.counted)) c.requires.post ∙ letters_are c.args.owner first c.requires.owner.0 in
    may_leave c.args.table.now.table.shared.key c.put.new.pass.seat.id c.put.new.pass.seat.me.0 c.args.owner (first + 1) (put ∙ (drew ∙ letters))
