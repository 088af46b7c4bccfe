-- What the workers of a search have done, said of the calls that their passes keep and of what their seats have put and
-- taken. One worker and several that were joined into one are spoken of alike.
use Rattle.std.specs.Prelude.{ℕ, ◌≡◌, ◌+◌, ◌<◌, List, [], ◌∷◌, length, Contains, ◌⊎◌, Option, None, Some, IsTrue}
use Rattle.std.specs.Prelude.{nat_lt, if◌then◌else◌}
use Rattle.pq_words.specs.declared.entries.Entry.{Entry}
use Rattle.pq_model.specs.declared.marks.Act.{Act}
use Rattle.pq_model.specs.declared.marks.Act.TheVariants.{Insert}
use Rattle.pq_model.specs.declared.marks.Reply.{Reply}
use Rattle.pq_model.specs.declared.marks.Reply.TheVariants.{Done, Got}
use Rattle.pq_model.specs.declared.passes.Call.{Call}
use Rattle.pq_model.specs.declared.passes.Lane.{Lane}
use Rattle.pq_model.specs.declared.passes.Known.{Known}
use Rattle.pq_model.specs.Passes.{lanes}
use Rattle.bb_problem.specs.declared.step.Step.TheVariants.{Leaf}
use Rattle.bb_problem.specs.Meaning.{Meaning}
use Rattle.bb_problem.specs.Expanding.{IsExpanded}
use Rattle.bb_shared.specs.declared.store.stored.Numbered.{Numbered}
use Rattle.bb_shared.specs.declared.store.stored.Stored.{Stored}
use Rattle.bb_shared.specs.declared.control.told.Told.{Told}
use Rattle.bb_shared.specs.Stores.{numbered, HasNoOver}
use Rattle.bb_shared.specs.Controls.{cut_of}
use Rattle.bb_pool.specs.declared.found.Found.{Found}
use Rattle.bb_pool.specs.Costs.{is_better}
use Rattle.bb_pool.specs.Underway.{cost_so_far}

-- the pass, or one that was joined into it, has made such a call
abbrev pub HasMade : Known → Act → Reply → Type 0
HasMade k act reply =
    (l : Lane) × Contains (lanes k) l × (c : Call) × Contains l.calls c × (c.act ≡ act) × (c.reply ≡ reply)

-- an entry for the node of this number, with this key, was inserted
pub record IsInserted (k : Known) (number key : ℕ) : Type 0 where
  pub entry : Entry
  pub id : entry.id ≡ number
  pub key_is : entry.key ≡ key
  pub made : HasMade k (Insert entry) Done

-- an entry for the node of this number was removed
abbrev pub IsRemoved : Known → ℕ → Type 0
IsRemoved k number = (e : Entry) × (act : Act) × (e.id ≡ number) × HasMade k act (Got e)

-- and so of each of these nodes
abbrev pub AreRemoved : {N : Type 0} → Known → List (Numbered N) → Type 0
AreRemoved {N} k takes = (p : Numbered N) → Contains takes p → IsRemoved k p.number

-- The cost is reached from a child of the node of this name, and the child was put into the store and an entry for it
-- inserted.
pub record IsPassedOn {N L : Type 0} (m : Meaning N L) (k : Known) (puts : List (Numbered N)) (name : List ℕ) (v : ℕ)
    : Type 0 where
  pub within : length name < m.tree.height
  pub next : List ℕ
  pub longer : length next ≡ length name + 1
  pub child : Numbered N
  pub put : Contains puts child
  pub standing : m.stands child.node next
  pub reached : m.reaches next v
  pub inserted : IsInserted k child.number (m.tree.bound next)

-- Each cost that is reached from the node and is below the cut was passed on, if the key is the node's bound. Who takes
-- the node can know neither the node's name nor that the key is its bound.
abbrev pub IsExhausted : {N L : Type 0} → Meaning N L → Known → List (Numbered N) → Option ℕ → ℕ → N → Type 0
IsExhausted m k puts cut key node = (name : List ℕ) (v : ℕ) → m.stands node name → key ≡ m.tree.bound name
    → m.reaches name v → IsTrue (is_better v cut) → IsPassedOn m k puts name v

-- the node of the entry's number was taken from the store, and is exhausted
pub record IsHandled {N L : Type 0} (m : Meaning N L) (k : Known) (puts takes : List (Numbered N)) (cut : Option ℕ)
    (e : Entry) : Type 0 where
  pub found : Numbered N
  pub number : found.number ≡ e.id
  pub taken : Contains takes found
  pub exhausted : IsExhausted m k puts cut e.key found.node

-- Each entry that was removed is handled. The cut is the least cost that was read or told.
pub record IsSearched {N L : Type 0} (m : Meaning N L) (k : Known) (puts takes : List (Numbered N)) (cut : Option ℕ)
    : Type 0 where
  pub each : (e : Entry) (act : Act) → HasMade k act (Got e) → IsHandled m k puts takes cut e

-- the root was put into the store and an entry for it inserted
pub record IsRooted {N L : Type 0} (m : Meaning N L) (k : Known) (puts : List (Numbered N)) : Type 0 where
  pub root : Numbered N
  pub put : Contains puts root
  pub standing : m.stands root.node []
  pub inserted : IsInserted k root.number (m.tree.bound [])

-- The node has a name if the node of a lesser number has one, which was taken. So a child's node does.
pub record HasParent {N L : Type 0} (m : Meaning N L) (takes : List (Numbered N)) (p : Numbered N) : Type 0 where
  pub parent : Numbered N
  pub taken : Contains takes parent
  pub before : parent.number < p.number
  pub follows : (name : List ℕ) → m.stands parent.node name → (next : List ℕ) × m.stands p.node next

-- each node that was put is the root, or has a parent
abbrev pub IsGrown : {N L : Type 0} → Meaning N L → List (Numbered N) → List (Numbered N) → Type 0
IsGrown {N} m puts takes = (p : Numbered N) → Contains puts p → m.stands p.node [] ⊎ HasParent m takes p

-- a plan that a leaf gave: the leaf's node expands to it, if the node has a name
pub record IsOfLeaf {N L : Type 0} (m : Meaning N L) (takes : List (Numbered N)) (plan : L) : Type 0 where
  pub from : Numbered N
  pub taken : Contains takes from
  pub follows : (name : List ℕ) → m.stands from.node name → IsExpanded m name (Leaf plan)

-- the best plan so far is one that a leaf gave, with its cost
abbrev pub IsFoundBy : {N L : Type 0} → Meaning N L → List (Numbered N) → Option (Found L) → Type 0
IsFoundBy m takes None = Unit {0}
IsFoundBy m takes (Some found) = IsOfLeaf m takes found.plan × (found.cost ≡ m.cost_of found.plan)

-- the cheaper of two plans, the first where they cost the same
abbrev pub lesser_found : {L : Type 0} → Option (Found L) → Option (Found L) → Option (Found L)
lesser_found None g = g
lesser_found (Some f) None = Some f
lesser_found (Some f) (Some g) = if nat_lt g.cost f.cost then Some g else Some f

-- What one worker has done, or several that were joined into one.
pub record IsWorking {N L : Type 0} (m : Meaning N L) (k : Known) (s : Stored N) (c : Told) (found : Option (Found L))
    : Type 0 where
  pub searched : IsSearched m k s.puts s.takes (cut_of c)
  pub grown : IsGrown m s.puts s.takes
  pub below : (p : Numbered N) → Contains s.takes p → p.number < s.front
  pub removed : AreRemoved k s.takes
  pub found_is : IsFoundBy m s.takes found
  pub told : c.own ≡ cost_so_far found
  pub under : HasNoOver s

-- The same while it holds a node: of the entries removed each is handled but this one, whose node was taken.
pub record IsHolding {N L : Type 0} (m : Meaning N L) (k : Known) (s : Stored N) (c : Told) (found : Option (Found L))
    (e : Entry) (node : N) : Type 0 where
  pub each : (f : Entry) (act : Act) → HasMade k act (Got f) → (f ≡ e) ⊎ IsHandled m k s.puts s.takes (cut_of c) f
  pub taken : Contains s.takes (numbered e.id node)
  pub grown : IsGrown m s.puts s.takes
  pub below : (p : Numbered N) → Contains s.takes p → p.number < s.front
  pub removed : AreRemoved k s.takes
  pub found_is : IsFoundBy m s.takes found
  pub told : c.own ≡ cost_so_far found
  pub under : HasNoOver s

-- a child that is to be put, and its bound
pub record Waiting (N : Type 0) : Type 0 where
  pub key : ℕ
  pub node : N

-- of these nodes, whose bounds these keys are, those that are kept: whose bounds are below the best cost
abbrev pub kept_of : {N : Type 0} → Option ℕ → List N → List ℕ → List (Waiting N)
kept_of best [] _ = []
kept_of best (n ∷ ns) [] = []
kept_of best (n ∷ ns) (k ∷ ks) =
    if is_better k best then record { key = k; node = n } ∷ kept_of best ns ks else kept_of best ns ks

-- the cost is reached from a child of the node of this name, and the child waits to be put
pub record IsWaitedFor {N L : Type 0} (m : Meaning N L) (waiting : List (Waiting N)) (name : List ℕ) (v : ℕ)
    : Type 0 where
  pub within : length name < m.tree.height
  pub next : List ℕ
  pub longer : length next ≡ length name + 1
  pub child : Waiting N
  pub waits : Contains waiting child
  pub standing : m.stands child.node next
  pub keyed : child.key ≡ m.tree.bound next
  pub reached : m.reaches next v

-- It holds a node, and these children wait: each cost that is reached from the node and is below the cut was passed on,
-- or waits. Each child that waits has a name where the node has one.
pub record IsInTurn {N L : Type 0} (m : Meaning N L) (k : Known) (s : Stored N) (c : Told) (found : Option (Found L))
    (e : Entry) (node : N) (waiting : List (Waiting N)) : Type 0 where
  pub holding : IsHolding m k s c found e node
  pub passes : (name : List ℕ) (v : ℕ) → m.stands node name → e.key ≡ m.tree.bound name → m.reaches name v
      → IsTrue (is_better v (cut_of c)) → IsPassedOn m k s.puts name v ⊎ IsWaitedFor m waiting name v
  pub follows : (w : Waiting N) → Contains waiting w → (name : List ℕ) → m.stands node name
      → (next : List ℕ) × m.stands w.node next
