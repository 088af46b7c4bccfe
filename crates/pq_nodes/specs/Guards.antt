-- Nodes with a word and a lock word each. Views have guards for nodes that are locked: a guard names its node's word as
-- stored, and what the node counts as. A node whose lock is free counts as its word says. That the holder of a lock has
-- a guard for its node is the queue's to keep.
use Rattle.std.specs.Prelude.{◌≡◌, ◌≢◌, ℕ, ◌<◌, List, length, Contains}
use mathlib.Core.Option.{some}
use lib.ListN.{get_elem?, get_or}

-- how a queue's views V have guards G, and what its nodes count as, which is an N
pub record Kind (V G N : Type 0) : Type 1 where
  pub guards : V → List G
  pub place : G → ℕ  -- the number of the guarded node
  pub stored : G → ℕ  -- its word
  pub counted : G → N  -- what it counts as
  pub empty : N  -- what a node past the end counts as
  pub means : N → ℕ → Type 0  -- the word says that the node counts as this

-- the guard's node is locked, its word is the one that the guard names, and it counts as the guard says
pub record IsGuard {V G N : Type 0} (k : Kind V G N) (locks words : ℕ → ℕ) (nodes : List N) (g : G) : Type 0 where
  pub within : k.place g < length nodes
  pub locked : locks (k.place g) ≢ 0
  pub stored : words (k.place g) ≡ k.stored g
  pub counted : get_or nodes (k.place g) k.empty ≡ k.counted g

-- what locks, words and views have to do with what the nodes count as
pub record IsGuarded {V G N : Type 0} (k : Kind V G N) (locks words : ℕ → ℕ) (views : List V) (nodes : List N)
    : Type 0 where
  -- a node whose lock is free counts as its word says
  pub free : (i : ℕ) → i < length nodes → locks i ≡ 0 → k.means (get_or nodes i k.empty) (words i)
  -- a node with a guard counts as the guard says
  pub held : (j : ℕ) (v : V) (g : G) → get_elem? views j ≡ some v → Contains (k.guards v) g
      → IsGuard k locks words nodes g
  -- a node has guards in one view
  pub view : (i j : ℕ) (u v : V) (g h : G) → get_elem? views i ≡ some u → get_elem? views j ≡ some v
      → Contains (k.guards u) g → Contains (k.guards v) h → k.place g ≡ k.place h → i ≡ j
  -- and one guard there
  pub once : (j : ℕ) (v : V) (g h : G) → get_elem? views j ≡ some v → Contains (k.guards v) g → Contains (k.guards v) h
      → k.place g ≡ k.place h → g ≡ h

-- the i-th word is x after a step, and the others are as they were
pub record IsSetAt (words words' : ℕ → ℕ) (i x : ℕ) : Type 0 where
  pub own : words' i ≡ x
  pub others : (j : ℕ) → j ≢ i → words' j ≡ words j
