use Rattle.std.proofs.Common.{◌≡◌, arith, subst, sym, ap, ◌∙◌}
use Rattle.pq_seats.specs.declared.views.View.{View}
use Rattle.pq_pool.specs.declared.views.PoolView.{PoolView}
use Rattle.pq_pool.specs.States.{state_of}
use Rattle.pq_pool.specs.Views.{moved}
use Rattle.pq_pool.specs.Parts.{pool_view, with_pool_view}
use Rattle.pq_pool.specs.Steps.{GivenOut}
use Rattle.pq_pool.proofs.PassLemmas.{changes_more}
use Rattle.pq_pool.proofs.chunks.take.Goals as goal

pub returns-then-load_state-eq-FREE-clause-taken : goal.returns-then-load_state-eq-FREE-clause-taken
returns-then-load_state-eq-FREE-clause-taken g c =
    let R = g.R.SeatRule.rule in let P = g.R.PoolRule.pool in let B = g.R.PoolRule.BUILDER in let laws = g.met.R.PoolRule.pool_laws in
    let old = c.args.pass.now.seat.me.0 in let swept = c.sweep.new.pass.seat.me.0 in let at = c.loop-chunk.pass.seat.me.0 in let seen = c.load_state.new.pass.seat.me.0 in
    let i = c.loop-chunk.invariant in let e = c.load_state.ensures in let b = c.begin_chunk.ensures in let chunk = c.loop-chunk.chunk in
    let v = pool_view P swept in let a = c.sweep.ensures.agrees in
    let same : pool_view P seen ≡ v = e.view ∙ i.1 in
    let found = c.if-load_state-eq-FREE.true in
    let written : state_of v.stored chunk ≡ 0 = sym (e.state ∙ ap (λ (x : PoolView). state_of x.stored chunk) i.1) ∙ found in
    let is_swept : seen ≡ with_pool_view P old v = changes_more R P B laws old at seen (changes_more R P B laws old swept at c.sweep.ensures.same.rest i.0.rest) e.same.rest
    ∙ ap (with_pool_view P old) same in
    let count = c.chunk_count-chunk-end.ensures.counted in let lt = c.loop-chunk-test.true in (
      v,
      c.sweep.ensures.swept,
      (
        record {
          chunk = omega arith;
          free = sym (a.states chunk) ∙ written;
          least = λ d below is. i.2 d below (a.states d ∙ is);
          built = b.view ∙ ap (λ (x : PoolView). moved x chunk 1) same;
        },
        subst (λ (x : View _). GivenOut R P x chunk) is_swept b.given,
      ),
    )
