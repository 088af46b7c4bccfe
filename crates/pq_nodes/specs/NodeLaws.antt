-- What a queue shows of its rule, so that the calls on its nodes keep it.
use Rattle.std.specs.Prelude.{◌≡◌, ℕ, ◌+◌, ◌<◌, ◌≤◌, true, false, List, [], ◌∷◌, ◌++◌, map, length, slice_index}
use Rattle.std.specs.Prelude.{slice_set}
use lib.ListN.{get_or}
use Rattle.pq_model.specs.History.{left}
use Rattle.pq_seats.specs.declared.views.Limits.{Limits}
use Rattle.pq_seats.specs.declared.views.Post.{Post}
use Rattle.pq_seats.specs.declared.views.View.{View}
use Rattle.pq_seats.specs.Views.{post_of}
use Rattle.pq_seats.specs.Rules.{Table, Rule, TiedAfter, Holds, Stands}
use Rattle.pq_nodes.specs.declared.guards.Guard.{Guard}
use Rattle.pq_nodes.specs.Layout.{lock_of, word_of}
use Rattle.pq_nodes.specs.Views.{guard, without_guard}
use Rattle.pq_nodes.specs.Parts.{NodePart, with_node, without_node, with_word, HasGuard, IsFreeable}
use Rattle.pq_nodes.specs.Facts.{words_in, NodeFacts}

-- the own part once the lock of a node was taken: it has a guard more, of the node, which counts as its word says
abbrev pub IsNodeTaken : {O N : Type 0} → NodePart O N → O → ℕ → O → Type 0
IsNodeTaken {O} {N} P o i o' = (word : ℕ) × (counted : N) × P.means counted word
    × (o' ≡ P.with_guards o (P.guards o ++ guard i word counted ∷ []))

module _ {O N : Type 0} (R : Rule O) (P : NodePart O N) where
  -- the nodes' words and posts after a step of the seat id that makes the word i x and its post p
  abbrev pub NodeFactsAfter : Table O → ℕ → ℕ → ℕ → Post O → List N → Type 0
  NodeFactsAfter s i x id p nodes = NodeFacts P (slice_set s.words i x) (slice_set (map post_of s.views) id p) nodes

  pub record NodeLaws : Type 0 where
    -- the guards are what was last put there
    pub reads : (o : O) (gs : List (Guard N)) → P.guards (P.with_guards o gs) ≡ gs
    -- the first word of a node is a lock, and its second is none
    pub locks : (k : Limits) (i : ℕ) → 1 ≤ i → i ≤ P.count k → R.locks k (lock_of i) ≡ true
    pub words : (k : Limits) (i : ℕ) → i ≤ P.count k → R.locks k (word_of i) ≡ false
    pub within : (k : Limits) → word_of (P.count k) < R.width k
    -- what the own part becomes where the lock of a node is taken, and where it is freed
    pub taken : (k : Limits) (o : O) (i : ℕ) (o' : O) → R.taken k o (lock_of i) o' → IsNodeTaken P o i o'
    pub takes_so : (k : Limits) (o : O) (i : ℕ) (o' : O) → IsNodeTaken P o i o' → R.taken k o (lock_of i) o'
    pub freed : (k : Limits) (o : O) (i : ℕ)
        → R.freed k o (lock_of i) ≡ P.with_guards o (without_guard (lock_of i) (P.guards o))
    -- what the nodes count as, in each state in which the rule holds. The list has a place 0, which is no node's
    pub nodes : (k : Limits) (s : Table O) → Holds R k s → List N
    pub long : (k : Limits) (s : Table O) (h : Holds R k s) → length (nodes k s h) ≡ P.count k + 1
    pub facts : (k : Limits) (s : Table O) (h : Holds R k s) → NodeFacts P s.words (map post_of s.views) (nodes k s h)
    pub shown : (k : Limits) (s : Table O) → Holds R k s → (id : ℕ) (v : View O) → Stands R s id v → P.shows v.post
    -- what the queue asks of who frees a lock stays so where another is freed
    pub may_free_on : (p : Post O) (i j : ℕ) → P.may_free p i → P.may_free (without_node P p j) i
    -- the rest of the rule outlives a step that takes or frees a node's lock, or stores a node's word, where all nodes
    -- count as they did
    pub takes : (k : Limits) (s : Table O) (h : Holds R k s) (id : ℕ) (v : View O) (i : ℕ) → Stands R s id v
        → 0 < v.post.number → 1 ≤ i → i ≤ P.count k → slice_index s.words (lock_of i) ≡ 0
        → let p : Post O = with_node P v.post (guard i (words_in s.words i) (get_or (nodes k s h) i P.empty)) in
        NodeFactsAfter s (lock_of i) v.post.number id p (nodes k s h)
        → TiedAfter R k s (lock_of i) v.post.number id p (left h.history)
    pub frees : (k : Limits) (s : Table O) (h : Holds R k s) (id : ℕ) (v : View O) (i : ℕ) → Stands R s id v
        → IsFreeable P v i → let p : Post O = without_node P v.post i in
        NodeFactsAfter s (lock_of i) 0 id p (nodes k s h) → TiedAfter R k s (lock_of i) 0 id p (left h.history)
    pub stores : (k : Limits) (s : Table O) (h : Holds R k s) (id : ℕ) (v : View O) (i x : ℕ) → Stands R s id v
        → HasGuard P v i → P.may_store v.post i x → let p : Post O = with_word P v.post i x in
        NodeFactsAfter s (word_of i) x id p (nodes k s h) → TiedAfter R k s (word_of i) x id p (left h.history)
