use Rattle.std.proofs.Common.{◌≡◌, ℕ, List, [], ◌∷◌, arith, sym, ap, ◌∙◌, subst, length, get_or, length-append}
use Rattle.std.specs.Prelude.{slice_index_or}
use Rattle.pq_seats.specs.declared.views.Limits.{Limits}
use Rattle.pq_seats.specs.declared.views.View.{View}
use Rattle.pq_seats.specs.Seats.{limits_for}
use Rattle.pq_spot.specs.declared.views.SpotPart.{SpotPart}
use Rattle.pq_spot.specs.Passes.{resting}
use Rattle.pq_seats.proofs.Lists.{zero_more}
use Rattle.pq_spot.proofs.Opening.{spot_begins}
use Rattle.pq_spot.proofs.spot.open.Goals as goal

pub loop-preserved : goal.loop-preserved
loop-preserved c = let v = c.loop.invariant in let e = c.in_ok-push.ensures.items in
    (ap (λ (l : List ℕ). length l) e ∙ (let a = length-append c.loop.words.items (0 ∷ []) in let b = v.0 in omega arith), subst (λ (l : List ℕ). (i : ℕ) → get_or l i 0 ≡ 0) (sym e) (zero_more c.loop.words.items v.1))

pub open-requires : goal.open-requires
open-requires c = let v = c.loop.invariant in let n = v.0 in let at_end = c.loop-test.false in let most = c.loop.auto.counter-end in
    spot_begins (limits_for c.args.capacity c.args.seats c.loop.words.items) c.loop.words.items c.requires.seats c.requires.capacity (omega arith) v.1

pub returns-clause-passes : goal.returns-clause-passes
returns-clause-passes c = let q = c.in_ok-table.table in λ i d lt.
    let p = slice_index_or c.in_ok-table.passes.items i d in let e = c.in_ok-table.ensures.passes i d lt in
    let v = c.loop.invariant in let n = v.0 in let at_end = c.loop-test.false in let most = c.loop.auto.counter-end in
    let words = ap (λ (k : Limits). k.words) c.in_ok-table.ensures.limits in let sized = q.sized.1 in (
      (e.0, ap (λ (w : View SpotPart). w.post) e.2 ∙ ap resting (sym (e.0.named ∙ ap (λ (w : View SpotPart). w.post.number) e.2)), omega arith),
      e.1,
    )
