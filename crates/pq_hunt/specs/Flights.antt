-- Inserts in flight: whose Busy entry stands where.
use Rattle.std.specs.Prelude.{◌≡◌, ◌≢◌, ℕ, ◌+◌, ◌≤◌, List, sum_by}
use Rattle.pq_words.specs.declared.entries.Entry.{Entry}
use Rattle.pq_model.specs.History.{IsSeat}
use Rattle.pq_nodes.specs.Ancestors.{IsAtOrAbove}
use Rattle.pq_hunt.specs.declared.nodes.Node.{Node}
use Rattle.pq_hunt.specs.declared.nodes.Node.TheVariants.{Busy}
use Rattle.pq_hunt.specs.Nodes.{node, busy_of}

-- the insert in flight of one owner
pub record Flight : Type 0 where
  pub entry : Entry
  pub place : ℕ  -- the node where the owner looks for the entry next
  pub waiting : ℕ  -- 1 where its place in the history is not drawn, else 0

-- Fact 4: each Busy entry belongs to the insert in flight of its owner, whose place is not drawn. It stands at the node
-- where its owner looks for it, or at an ancestor of that node.
pub record IsFlown (seats : ℕ) (of : ℕ → Flight) (nodes : List Node) : Type 0 where
  pub entry : (i o : ℕ) (e : Entry) → node nodes i ≡ Busy o e → e ≡ (of o).entry
  pub place : (i o : ℕ) (e : Entry) → node nodes i ≡ Busy o e → IsAtOrAbove i (of o).place
  pub seat : (i o : ℕ) (e : Entry) → node nodes i ≡ Busy o e → IsSeat seats o
  -- an owner has one Busy node where its place is not drawn, and else none
  pub once : (o : ℕ) → sum_by (busy_of o) nodes ≡ (of o).waiting
  pub most : (o : ℕ) → (of o).waiting ≤ 1

-- one owner has this flight after a step, and the others have theirs
pub record IsOther (of of' : ℕ → Flight) (o : ℕ) (flight : Flight) : Type 0 where
  pub own : of' o ≡ flight
  pub others : (p : ℕ) → p ≢ o → of' p ≡ of p

abbrev pub flight : Entry → ℕ → ℕ → Flight
flight entry place waiting = record { entry = entry; place = place; waiting = waiting }

-- the flight with another node to look at next
abbrev pub looking_at : Flight → ℕ → Flight
looking_at f place = flight f.entry place f.waiting

-- each owner waits for so much less after a step, and nothing else of the flights changes
pub record WaitsLess (of of' : ℕ → Flight) (less : ℕ → ℕ) : Type 0 where
  pub entries : (o : ℕ) → (of' o).entry ≡ (of o).entry
  pub places : (o : ℕ) → (of' o).place ≡ (of o).place
  pub waits : (o : ℕ) → (of' o).waiting + less o ≡ (of o).waiting
