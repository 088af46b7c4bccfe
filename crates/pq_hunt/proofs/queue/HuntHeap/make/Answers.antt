use Rattle.std.proofs.Common.{ℕ, ap, ◌∙◌, sym}
use Rattle.pq_seats.specs.declared.views.View.{View}
use Rattle.pq_seats.specs.Views.{empty_post}
use Rattle.pq_hunt.specs.declared.views.HuntPart.{HuntPart}
use Rattle.pq_hunt.specs.Views.{idle}
use Rattle.pq_hunt.proofs.Ends.Opening.{begins}
use Rattle.pq_hunt.proofs.queue.HuntHeap.make.Goals as goal

pub open-requires : goal.open-requires
open-requires g c = begins c.args.capacity c.args.seats c.in_ok-words.words.items c.requires.seats.0 c.requires.seats.2 c.in_ok-words.ensures c.requires.seats.1

pub returns-clause-passes : goal.returns-clause-passes
returns-clause-passes g c = λ i d lt. let e = c.in_ok-table.ensures.passes i d lt in
    let post = ap (λ (v : View HuntPart). v.post) e.2 in
    let number = e.0.named ∙ ap (λ (v : View HuntPart). v.post.number) e.2 in
    ((e.0, post ∙ ap (λ (n : ℕ). empty_post idle n) (sym number)), e.1)
