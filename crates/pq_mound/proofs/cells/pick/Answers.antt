use Rattle.std.proofs.Common.{◌≡◌, ℕ, ◌+◌, ◌-◌, List, ◌∷◌, length, ap, ◌∙◌, subst, arith}
use Rattle.pq_seats.specs.declared.views.View.{View}
use Rattle.pq_seats.specs.Passes.{view_of}
use Rattle.pq_mound.specs.declared.views.MoundPart.{MoundPart}
use Rattle.pq_seats.specs.Views.{with_post}
use Rattle.pq_mound.specs.Chains.{first_or}
use Rattle.pq_mound.specs.Steps.{counting, taking}
use Rattle.pq_mound.proofs.Picking.{first_free, picked_view}
use Rattle.pq_mound.proofs.cells.pick.Goals as goal

pub look_at_next-next-requires-clause-first : goal.look_at_next-next-requires-clause-first
look_at_next-next-requires-clause-first c =
    let v : View MoundPart = view_of c.args.pass.now in let free : List ℕ = v.post.own.free in
    let first = c.look_at_free.ensures.first
    ∙ ap (λ (z : View MoundPart). first_or z.post.own.free 0) c.look_at_count-count.ensures.view in
    let r = first_free free c.look_at_count-count.result c.look_at_free.result
    (c.look_at_count-count.ensures.count ∙ c.requires.counted) c.if-count-eq0.false first in (
      r.0,
      ap (λ (z : View MoundPart). z.post.own.free) (c.look_at_free.ensures.view
          ∙ c.look_at_count-count.ensures.view) ∙ r.1,
    )

pub take_off-requires-clause-first : goal.take_off-requires-clause-first
take_off-requires-clause-first c =
    let v : View MoundPart = view_of c.args.pass.now in let free : List ℕ = v.post.own.free in
    let first = c.look_at_free.ensures.first
    ∙ ap (λ (z : View MoundPart). first_or z.post.own.free 0) c.look_at_count-count.ensures.view in
    let r = first_free free c.look_at_count-count.result c.look_at_free.result
    (c.look_at_count-count.ensures.count ∙ c.requires.counted) c.if-count-eq0.false first in
    let here = ap (λ (z : View MoundPart). z.post.own.free) (c.look_at_free.ensures.view
    ∙ c.look_at_count-count.ensures.view) ∙ r.1 in (
      r.0,
      ap (λ (z : View MoundPart). z.post.own.free) c.look_at_next-next.ensures.view ∙ here,
      c.look_at_next-next.ensures.next r.0 here,
    )

pub overflow_cast-count : goal.overflow_cast-count
overflow_cast-count c = let count = c.look_at_count-count.ensures.count ∙ c.requires.counted in
    omega (arith, c.requires.within, c.requires.table.few)

pub returns-clause-picked : goal.returns-clause-picked
returns-clause-picked c = λ cell e.
    let v : View MoundPart = view_of c.args.pass.now in let free : List ℕ = v.post.own.free in
    let first = c.look_at_free.ensures.first
    ∙ ap (λ (z : View MoundPart). first_or z.post.own.free 0) c.look_at_count-count.ensures.view in
    let counted = c.look_at_count-count.ensures.count ∙ c.requires.counted in
    let r = first_free free c.look_at_count-count.result c.look_at_free.result counted c.if-count-eq0.false first in
    let same = c.look_at_next-next.ensures.view ∙ (c.look_at_free.ensures.view ∙ c.look_at_count-count.ensures.view) in
    let taken = c.take_off.ensures.view r.0 (ap (λ (z : View MoundPart). z.post.own.free) same ∙ r.1) in
    let long : length free ≡ length r.0 + 1 = ap (λ (z : List ℕ). length z) r.1 ∙ omega arith in
    let is : c.look_at_free.result - 1 ≡ cell = cc in
    subst (λ (z : ℕ). (rest : List ℕ) × (entry : ℕ) × (next : ℕ) × (free ≡ z ∷ rest)
    × (view_of c.store_count.new.pass ≡ with_post v (counting (taking v.post z rest entry next) (length rest)))) is (
      r.0,
      taken.0,
      c.look_at_next-next.result,
      r.1,
      picked_view v (view_of c.look_at_next-next.new.pass)
          (view_of c.take_off.new.pass) (view_of c.store_count.new.pass) (c.look_at_free.result - 1) taken.0
          c.look_at_next-next.result (c.look_at_count-count.result - 1) (length r.0) r.0 same taken.1
          c.store_count.ensures.view (omega arith),
    )
