-- Where the pool's part stands in what a view holds of a queue's own.
use Rattle.std.specs.Prelude.{◌≡◌}
use Rattle.pq_seats.specs.declared.views.Post.{Post}
use Rattle.pq_seats.specs.declared.views.View.{View}
use Rattle.pq_seats.specs.Views.{with_post}
use Rattle.pq_pool.specs.declared.views.PoolView.{PoolView}

pub record PoolPart (O : Type 0) : Type 0 where
  pub view_of : O → PoolView
  pub with_view : O → PoolView → O

module _ {O : Type 0} (P : PoolPart O) where
  -- the pool's part of a view
  abbrev pub pool_view : View O → PoolView
  pool_view v = P.view_of v.post.own

  abbrev pub with_pool_post : Post O → PoolView → Post O
  with_pool_post p d = record p { own = P.with_view p.own d }

  abbrev pub with_pool_view : View O → PoolView → View O
  with_pool_view v d = with_post v (with_pool_post v.post d)

  -- nothing but the pool's part of the view has changed
  abbrev pub ChangesPool : View O → View O → Type 0
  ChangesPool v w = w ≡ with_pool_view v (pool_view w)
