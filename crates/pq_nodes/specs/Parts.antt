-- What a queue that is a tree of locked nodes tells of its nodes: where its views name them, and what their words mean.
use Rattle.std.specs.Prelude.{◌≡◌, ℕ, List, [], ◌∷◌, ◌++◌, Contains}
use Rattle.pq_seats.specs.declared.views.Limits.{Limits}
use Rattle.pq_seats.specs.declared.views.Post.{Post}
use Rattle.pq_seats.specs.declared.views.View.{View}
use Rattle.pq_seats.specs.Posts.{with_lock, without_lock}
use Rattle.pq_nodes.specs.declared.guards.Guard.{Guard}
use Rattle.pq_nodes.specs.Guards.{Kind}
use Rattle.pq_nodes.specs.Layout.{lock_of, word_of}
use Rattle.pq_nodes.specs.Views.{without_guard, restored}

-- O is what a view holds of the queue's own, and a node counts as an N
pub record NodePart (O N : Type 0) : Type 1 where
  -- the own part's guards, one for each node whose lock the seat holds, in the order in which the locks were taken
  pub guards : O → List (Guard N)
  pub with_guards : O → List (Guard N) → O
  pub empty : N  -- what a node past the end counts as
  pub means : N → ℕ → Type 0  -- the word says that the node counts as this
  pub count : Limits → ℕ  -- nodes are numbered from 1 to this
  -- what the queue asks beside, of the post of who frees a node's lock, and of who stores a node's word
  pub may_free : Post O → ℕ → Type 0
  pub may_store : Post O → ℕ → ℕ → Type 0
  -- what is so of a seat's post between any two steps, as a load of a node's word tells
  pub shows : Post O → Type 0

module _ {O N : Type 0} (P : NodePart O N) where
  -- the nodes as guarded words
  abbrev pub kind_of : Kind (Post O) (Guard N) N
  kind_of = record {
    guards = λ p. P.guards p.own;
    place = λ g. g.node;
    stored = λ g. g.stored;
    counted = λ g. g.counted;
    empty = P.empty;
    means = P.means;
  }

  -- the post has these guards
  abbrev pub guarding : Post O → List (Guard N) → Post O
  guarding p gs = record p { own = P.with_guards p.own gs }

  -- a lock of a node was taken: behind its other guards the post has this one
  abbrev pub with_node : Post O → Guard N → Post O
  with_node p g = with_lock p (lock_of g.node) (P.with_guards p.own (P.guards p.own ++ g ∷ []))

  -- a lock of a node was freed
  abbrev pub without_node : Post O → ℕ → Post O
  without_node p i = without_lock p (lock_of i) (P.with_guards p.own (without_guard (lock_of i) (P.guards p.own)))

  -- a node's word was stored, and the node counts as it did
  abbrev pub with_word : Post O → ℕ → ℕ → Post O
  with_word p i x = guarding p (restored (word_of i) x (P.guards p.own))

  -- a guard of the view is of this node
  pub record HasGuard (v : View O) (i : ℕ) : Type 0 where
    pub guard : Guard N
    pub has : Contains (P.guards v.post.own) guard
    pub is : guard.node ≡ i

  -- and the node counts as its word says, and the queue allows that the lock is freed
  pub record IsFreeable (v : View O) (i : ℕ) : Type 0 where
    pub guard : Guard N
    pub has : Contains (P.guards v.post.own) guard
    pub is : guard.node ≡ i
    pub means : P.means guard.counted guard.stored
    pub allowed : P.may_free v.post i
