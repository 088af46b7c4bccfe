-- What an insert has to hold at its leaf and in its climb.
use Rattle.std.specs.Prelude.{◌≡◌, ℕ, ◌+◌, ◌/◌, ◌≤◌, List, [], ◌∷◌}
use Rattle.std.specs.Prelude.{Contains, Some, None}
use Rattle.pq_words.specs.declared.entries.Entry.{Entry}
use Rattle.pq_words.specs.Entries.{raw_of}
use Rattle.pq_seats.specs.declared.views.View.{View}
use Rattle.pq_hunt.specs.declared.nodes.Node.{Node}
use Rattle.pq_hunt.specs.declared.nodes.Node.TheVariants.{Available, Busy}
use Rattle.pq_hunt.specs.Guards.{Guard}
use Rattle.pq_hunt.specs.declared.views.HuntPart.{HuntPart}
use Rattle.pq_hunt.specs.Layout.{heap_lock}
use Rattle.pq_hunt.specs.Words.{Means}
use Rattle.pq_nodes.specs.Views.{guard}
use Rattle.pq_nodes.specs.Passes.{ComesTo}
use Rattle.pq_hunt.specs.HeldPosts.{guarding_flight}

-- The heap's lock and the next node's are held, the size is as it counted, and no insert of the seat is in flight
pub record CanLeaf (v : View HuntPart) (node : ℕ) : Type 0 where
  pub guard : Guard
  pub others : List Guard
  pub guards : v.post.own.guards ≡ guard ∷ others
  pub is : guard.node ≡ node
  pub locked : Contains v.post.locks heap_lock
  pub next : node ≡ v.post.own.size_counted + 1
  pub idle : v.post.own.climbing ≡ 0
  pub quiet : v.post.flight ≡ None

-- The second guard's node is a child of the parent and holds the seat's entry, with this word; the parent's entry is
-- Available and not below it
pub record CanClimb (v : View HuntPart) (parent word : ℕ) : Type 0 where
  pub above : Guard
  pub below : Guard
  pub others : List Guard
  pub guards : v.post.own.guards ≡ above ∷ below ∷ others
  pub is : above.node ≡ parent
  pub child : below.node / 2 ≡ above.node
  pub entry : Entry
  pub other : Entry
  pub available : above.counted ≡ Available other
  pub busy : below.counted ≡ Busy v.post.number entry
  pub under : raw_of entry ≤ raw_of other
  pub stored : word ≡ below.stored
  pub climbing : v.post.own.climbing ≡ 1
  pub place : v.post.own.place ≡ below.node

-- The seat's insert is in flight, and it looks for its entry at this node, which counts as its word says
pub record CanFind (v : View HuntPart) (node : ℕ) : Type 0 where
  pub guard : Guard
  pub has : Contains v.post.own.guards guard
  pub is : guard.node ≡ node
  pub means : Means guard.counted guard.stored
  pub place : v.post.own.place ≡ node
  pub climbing : v.post.own.climbing ≡ 1
  pub entry : Entry
  pub flies : v.post.flight ≡ Some entry

-- The seat holds the locks of a node and of its parent. The node has its entry, by this word, and the parent an
-- Available one, by this
pub record IsPaired (v : View HuntPart) (number : ℕ) (e : Entry) (parent child above mine : ℕ) : Type 0 where
  pub other : Entry
  pub means : Means (Available other) above
  pub post : v.post ≡ guarding_flight number e child
      (guard parent above (Available other) ∷ guard child mine (Busy number e) ∷ [])

-- Both locks were taken, the parent's first, and the view names both words and what the nodes count as by them
pub record TookPair (v w : View HuntPart) (number : ℕ) (e : Entry) (parent child : ℕ) : Type 0 where
  pub above : ℕ
  pub below : ℕ
  pub upper : Node
  pub lower : Node
  pub upper_means : Means upper above
  pub lower_means : Means lower below
  pub holds : ComesTo v w (guarding_flight number e child (guard parent above upper ∷ guard child below lower ∷ []))
