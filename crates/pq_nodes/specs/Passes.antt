-- What a call on nodes makes of its pass.
use Rattle.std.specs.Prelude.{◌≡◌, ◌≢◌, ℕ, ◌<◌, ◌≤◌, Contains}
use Rattle.pq_seats.specs.declared.views.Post.{Post}
use Rattle.pq_seats.specs.declared.views.View.{View}
use Rattle.pq_seats.specs.declared.shared.Shared.{Shared}
use Rattle.pq_seats.specs.declared.shared.SeatPass.{SeatPass}
use Rattle.pq_seats.specs.Passes.{limits_of, Belongs, IsSamePass}
use Rattle.pq_nodes.specs.Layout.{lock_of, word_of, max_node}
use Rattle.pq_nodes.specs.Views.{guard}
use Rattle.pq_nodes.specs.Parts.{NodePart, with_node, IsFreeable}

-- the seat has this post now, and knows what it knew
pub record ComesTo {O : Type 0} (v w : View O) (p : Post O) : Type 0 where
  pub post : w.post ≡ p
  pub lanes : w.lanes ≡ v.lanes
  pub front : w.front ≡ v.front

-- the pass is one of the table still, with the number, the seat and the number of lanes that it had
pub record Stays {R O : Type 0} (q : Shared R O) (p p' : SeatPass R O) : Type 0 where
  pub own : Belongs q p'
  pub same : IsSamePass p p'

module _ {O N : Type 0} (P : NodePart O N) where
  -- a node of the table with this number, whose words the table has
  abbrev pub IsNode : {R : Type 0} → Shared R O → ℕ → Type 0
  IsNode q i = (1 ≤ i) × (i ≤ P.count (limits_of q)) × (i ≤ max_node) × (word_of i < q.words)

  -- the seat took the node's lock, and its view names the node's word, and what the node counts as by it
  abbrev pub TookNode : View O → View O → ℕ → Type 0
  TookNode v w i = (word : ℕ) × (counted : N) × P.means counted word
      × ComesTo v w (with_node P v.post (guard i word counted))

  -- two different nodes' locks are held, and may be freed
  pub record HoldsTwo (v : View O) (first second : ℕ) : Type 0 where
    pub differ : first ≢ second
    pub first_held : Contains v.post.locks (lock_of first)
    pub second_held : Contains v.post.locks (lock_of second)
    pub first_freeable : IsFreeable P v first
    pub second_freeable : IsFreeable P v second
