-- When a pass of the bench is at rest.
use Rattle.std.proofs.Common.{◌≡◌, ℕ, refl, sym, ap, ◌∙◌, subst}
use Rattle.std.specs.Prelude.{Contains}
use Rattle.pq_seats.specs.declared.views.Limits.{Limits}
use Rattle.pq_seats.specs.declared.views.Post.{Post}
use Rattle.pq_seats.specs.declared.views.View.{View}
use Rattle.pq_seats.specs.Views.{known_of, empty_post}
use Rattle.pq_seats.specs.Rules.{IsBare, IsAtRest}
use Rattle.pq_seats.specs.Seats.{newcomer}
use Rattle.pq_seats.proofs.Lists.{not_in}
use Rattle.pq_seats.proofs.Resting.{at_rest}
use Rattle.pq_pool.specs.declared.views.PoolView.{PoolView}
use Rattle.pq_pool.specs.Layout.{builder_word}
use Rattle.pq_pool.specs.Views.{unpinned}
use Rattle.pq_pool.specs.Parts.{ChangesPool}
use Rattle.pq_pool.specs.Bench.{bench_rule, bench_pool}

-- a new pass
pub newcomer_rests : (v : View PoolView) (k : Limits) (n : ℕ) → v ≡ newcomer bench_rule k n → IsAtRest bench_rule v.post
newcomer_rests v k n new = at_rest bench_rule v.post bench_rule.idle n refl (ap (λ (u : View PoolView). u.post) new)

-- one that holds nothing does not build
pub no_lock : (p : Post PoolView) → IsBare p → ¬ Contains p.locks builder_word
no_lock p bare has = not_in builder_word (subst (λ (q : Post PoolView). Contains q.locks builder_word) bare has)

module _ (v w : View PoolView) (rest : ChangesPool bench_pool v w) where
  -- whatever the pool makes of its part, the seat holds nothing then if it did not before
  pub still_bare : IsBare v.post → IsBare w.post
  still_bare bare = let own : PoolView = w.post.own in let f : Post PoolView → Post PoolView = λ p. record p { own = own } in
      let is : w.post ≡ f v.post = ap (λ (u : View PoolView). u.post) rest in
      let number : w.post.number ≡ v.post.number = ap (λ (p : Post PoolView). p.number) is in
      (is ∙ ap f bare) ∙ ap (empty_post own) (sym number)

  -- once its pin has ended it is at rest
  pub unpinned_rests : w.post.own ≡ unpinned v.post.own → IsBare v.post → IsAtRest bench_rule w.post
  unpinned_rests view bare = record { bare = still_bare bare; rests = ap (λ (d : PoolView). d.pinned) view }

  -- and knows what it knew
  pub still_known : known_of w ≡ known_of v
  still_known = ap (λ (u : View PoolView). known_of u) rest
