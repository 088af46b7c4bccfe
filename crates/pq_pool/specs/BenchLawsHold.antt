-- Proofs of the laws of the bench. They stand here since its `impl` names them.
use Rattle.std.proofs.Common.{◌≡◌, ◌≢◌, ℕ, ◌+◌, ◌*◌, List, [], map, get_or, set, refl, ap, ◌∙◌, sym, ⊎_elim, arith}
use Rattle.std.proofs.Common.{eqb-true, get_or-set_other}
use mathlib.Core.Option.{some}
use lib.ListN.{get_elem?}
use Rattle.atomic_table.proofs.Lists.{at_set, at_snoc, at_map}
use Rattle.pq_seats.specs.declared.views.Post.{Post}
use Rattle.pq_seats.specs.Views.{post_of, empty_post}
use Rattle.pq_seats.specs.Rules.{Lawful}
use Rattle.pq_seats.proofs.Lists.{not_in}
use Rattle.pq_seats.proofs.Keeps.{number_in, number_low}
use Rattle.pq_pool.specs.declared.views.PoolView.{PoolView}
use Rattle.pq_pool.specs.Layout.{builder_word}
use Rattle.pq_pool.specs.Views.{pinned_on}
use Rattle.pq_pool.specs.Parts.{with_pool_post}
use Rattle.pq_pool.specs.PoolLaws.{PoolLaws}
use Rattle.pq_pool.specs.Bench.{bench_rule, bench_pool}
use Rattle.pq_pool.specs.FactsStay.Words.{low_not_swept, next_not_swept}
use Rattle.pq_pool.specs.FactsStay.Seats.{one_seat, alone}
use Rattle.pq_pool.specs.FactsStay.Building.{builds_stays}
use Rattle.pq_pool.specs.FactsStay.Pinning.{pin_stays}
use Rattle.pq_pool.specs.FactsStay.Framing.{come_stays, go_stays}

-- a post changes that owes as much
pub unowed_still : (posts : List (Post PoolView)) (id : ℕ) (p p' : Post PoolView) → get_elem? posts id ≡ some p → p'.owed ≡ p.owed → ((j : ℕ) (q : Post PoolView) → get_elem? posts j ≡ some q → q.owed ≡ [])
    → (j : ℕ) (q : Post PoolView) → get_elem? (set posts id p') j ≡ some q → q.owed ≡ []
unowed_still posts id p p' at same old j q to = ⊎_elim (λ e. ap (λ (z : Post PoolView). z.owed) (sym e.1) ∙ (same ∙ old id p at)) (λ r. old j q r.1) (at_set posts id j p' q to)

pub bench_lawful : Lawful bench_rule
bench_lawful = record {
  apart = λ k i is. let e = eqb-true i 17 is in omega arith;
  within = λ k i is. let e = eqb-true i 17 is in omega arith;
  admits = λ k s h n none_there fresh_number. let t = h.tied in let ps = map post_of s.views in let f = empty_post bench_rule.idle n in record {
    pool = come_stays bench_pool.view_of k s.words ps t.pool f refl (not_in builder_word);
    unwritten = t.unwritten;
    unowed = λ j p to. ⊎_elim (λ a. t.unowed j p a) (λ e. ap (λ (z : Post PoolView). z.owed) (sym e)) (at_snoc ps f p j to);
    unlinked = t.unlinked;
  };
  idles = refl;
  spends = λ k s h j v at rest. let t = h.tied in let ps = map post_of s.views in let f = empty_post bench_rule.idle 0 in let there = at_map post_of s.views j v at in record {
    pool = go_stays bench_pool.view_of k s.words ps t.pool j v.post f there rest.rests refl (not_in builder_word);
    unwritten = t.unwritten;
    unowed = unowed_still ps j v.post f there (sym (ap (λ (z : Post PoolView). z.owed) rest.bare)) t.unowed;
    unlinked = t.unlinked;
  };
  takes_over = λ k s h j v at positive ne not_back. absurd (ne (h.tied.unwritten v.post.number (number_low bench_rule k s h j v at positive)));
  takes_back = λ k s h j v at positive e. let z = h.tied.unwritten v.post.number (number_low bench_rule k s h j v at positive) in absurd (omega arith);
  informed = λ k s h j v l at positive is. tt;
}

pub bench_pool_laws : PoolLaws bench_rule bench_pool builder_word
bench_pool_laws = record {
  builder = refl;
  lock = λ k i. refl;
  reads = λ o v. refl;
  again = λ o v w. refl;
  back = λ o. refl;
  facts = λ k s h. h.tied.pool;
  pins = λ k s h id v at positive no_lock stands safe kept.
      let b = h.tied in let ps = map post_of s.views in let there = at_map post_of s.views id v at in
      let ne : v.post.number ≢ 0 = λ z. omega arith in
      let low = number_low bench_rule k s h id v at positive in
      let p' = with_pool_post bench_pool v.post (pinned_on v.post.own stands) in
      let i : ℕ = 17 + v.post.number in
      let other : (j : ℕ) → j ≢ i → get_or (set s.words i 1) j 0 ≡ get_or s.words j 0 = λ j ne'. get_or-set_other s.words i j 1 0 ne' in record {
        pool = pin_stays bench_pool.view_of k s.words ps b.pool id v.post there (number_in bench_rule k s h id v at ne) (one_seat bench_rule k s h id v at ne) no_lock p' refl refl stands refl safe;
        unwritten = λ n seat. let high = seat.1 in let l = low.0 in other n (λ z. omega arith) ∙ b.unwritten n seat;
        unowed = unowed_still ps id v.post p' there refl b.unowed;
        unlinked = λ c. let l = low.1 in other (115 + 69 * c) (λ z. omega arith) ∙ b.unlinked c;
      };
  builds = λ k s h id v at has i x w B.
      let b = h.tied in let t = b.pool in let ps = map post_of s.views in let there = at_map post_of s.views id v at in
      let few = t.few_seats in
      let p' = with_pool_post bench_pool v.post w in record {
        pool = builds_stays bench_pool.view_of k s.words ps t id v.post there has (alone bench_rule k s h id v at builder_word has) p' refl (set s.words i x) B;
        unwritten = λ n seat. let high = seat.1 in B.others n (low_not_swept t.chunks.count k.seats n (omega arith)) ∙ b.unwritten n seat;
        unowed = unowed_still ps id v.post p' there refl b.unowed;
        unlinked = λ c. B.others (115 + 69 * c) (next_not_swept t.chunks.count k.seats few c) ∙ b.unlinked c;
      };
  rests = λ o rest. rest;
  taken = λ k o o' e. e;
}
