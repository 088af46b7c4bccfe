-- A search with one caller.
use Rattle.std.specs.Prelude.{ℕ, ◌≡◌, ◌+◌, ◌*◌, ◌≤◌, ◌<◌, List, [], ◌∷◌, ◌++◌, length, slice_get, slice_set}
use Rattle.std.specs.Prelude.{Option, Some, None, IfSome}
use Rattle.std.specs.declared.ops.ControlFlow.{ControlFlow}
use Rattle.std.specs.declared.ops.ControlFlow.TheVariants.{Continue, Break}
use Rattle.pq_words.specs.declared.entries.Entry.{Entry}
use Rattle.pq_model.specs.declared.passes.Known.{Known}
use Rattle.pq_model.specs.Multiset.{add, least}
use Rattle.bb_problem.specs.Meaning.{Meaning, IsLawful}
use Rattle.bb_pool.specs.declared.outcome.Outcome.{Outcome}
use Rattle.bb_pool.specs.declared.outcome.Outcome.TheVariants as outcomes
use Rattle.bb_shared.specs.declared.control.stop.Stop.{Stop}
use Rattle.bb_shared.specs.declared.control.stop.Stop.TheVariants.{NodeLimit, Full, NoMemory}
use Rattle.bb_pool.specs.declared.found.Found.{Found}
use Rattle.bb_pool.specs.declared.child.Child.{Child}
use Rattle.bb_pool.specs.declared.state.Search.{Search}
use Rattle.bb_pool.specs.OneSeat.{OneSeat, held}
use Rattle.bb_pool.specs.Keys.{Holds}
use Rattle.bb_pool.specs.Costs.{limit_of}
use Rattle.bb_pool.specs.Endings.{EndsAt, IsFullMark}
use Rattle.bb_pool.specs.Outcomes.{IsBest}
use Rattle.bb_pool.specs.Searching.{IsSearching}

-- A search at one moment: its queue, the nodes made so far by number, each until it is taken, and the best plan so
-- far.
pub record State (N P : Type 0) : Type 0 where
  pub queue : OneSeat
  pub store : List (Option N)
  pub best : Option (Found P)

-- a search as its fields have it, where this is said of its pass
abbrev pub state_of : {C N P : Type 0} → (C → OneSeat) → Search C N P → State N P
state_of seat search = record { queue = seat search.pass; store = search.store; best = search.best }

-- the cost of the best plan so far
abbrev pub cost_so_far : {P : Type 0} → Option (Found P) → Option ℕ
cost_so_far None = None
cost_so_far (Some found) = Some found.cost

-- a plan that was found is feasible, and its cost is the plan's
abbrev pub IsFound : {N P : Type 0} → Meaning N P → Option (Found P) → Type 0
IsFound m None = Unit {0}
IsFound m (Some found) = m.is_feasible found.plan × (found.cost ≡ m.cost_of found.plan)

-- Two of the pass's calls have been made for each node that was put and taken again, and one for each that is held.
pub record IsUnderway {N P : Type 0} (m : Meaning N P) (nodes capacity : ℕ) (search : State N P)
    (waiting : List (List ℕ)) : Type 0 where
  pub lawful : IsLawful m
  pub names : List (List ℕ)
  pub searching : IsSearching m capacity names (held search.queue) search.store waiting (cost_so_far search.best)
  pub found : IsFound m search.best
  pub calls : length search.queue.known.calls + length (held search.queue) ≡ 2 * length search.store
  pub number : search.queue.known.number ≡ 1
  pub within : length search.store ≤ nodes
  pub capacity_is : search.queue.capacity ≡ capacity

-- the node was put into the store, and an entry for it into the queue, which had room
pub record IsPut {N P : Type 0} (before : State N P) (key : ℕ) (node : N) (now : State N P) : Type 0 where
  pub entry : Entry
  pub key_is : entry.key ≡ key
  pub id : entry.id ≡ length before.store
  pub stored : now.store ≡ before.store ++ Some node ∷ []
  pub room : length (held before.queue) < before.queue.capacity
  pub added : held now.queue ≡ add entry (held before.queue)
  pub calls : length now.queue.known.calls ≡ length before.queue.known.calls + 1
  pub number : now.queue.known.number ≡ before.queue.known.number
  pub capacity : now.queue.capacity ≡ before.queue.capacity
  pub best : now.best ≡ before.best

-- why a node was not put: the queue was full, at this place
abbrev pub IsNotPut : {N P : Type 0} → State N P → Stop → Type 0
IsNotPut before (Full place) =
    (length (held before.queue) ≡ before.queue.capacity) × (place ≡ length before.queue.known.calls)
    × IsFullMark 1 before.queue.capacity place
IsNotPut before NoMemory = Unit {0}
IsNotPut before (NodeLimit asked) = ⊥

-- each of these entries has a node in the store
abbrev pub IsStored : {N : Type 0} → List (Option N) → Entry → Type 0
IsStored store e = Holds store e.id

-- the least entry was removed, whose key is below the best cost, and its node taken out of the store
pub record IsTaken {N P : Type 0} (before : State N P) (child : Child N) (now : State N P) : Type 0 where
  pub entry : Entry
  pub key : child.key ≡ entry.key
  pub better : child.key < limit_of (cost_so_far before.best)
  pub first : held before.queue ≡ entry ∷ held now.queue
  pub node : slice_get before.store entry.id ≡ Some (Some child.node)
  pub emptied : now.store ≡ slice_set before.store entry.id None
  pub calls : length now.queue.known.calls ≡ length before.queue.known.calls + 1
  pub number : now.queue.known.number ≡ before.queue.known.number
  pub capacity : now.queue.capacity ≡ before.queue.capacity
  pub best : now.best ≡ before.best

-- No entry was left whose key is below the best cost, and a removal below it said so.
pub record IsSpent {N P : Type 0} (before now : State N P) : Type 0 where
  pub same : held now.queue ≡ held before.queue
  pub high : IfSome (least (held before.queue)) (λ (e : Entry). limit_of (cost_so_far before.best) ≤ e.key)
  pub ended : EndsAt 1 before.queue.capacity (limit_of (cost_so_far before.best)) now.queue.known
  pub best : now.best ≡ before.best

-- the best plan so far is one of least cost, and the limits leave room for what no search gets around
abbrev pub IsOver : {N P : Type 0} → Meaning N P → ℕ → ℕ → Option (Found P) → Known → Type 0
IsOver m nodes capacity None known = ⊥
IsOver m nodes capacity (Some found) known = IsBest m nodes capacity found.plan found.cost known

-- After a turn the search is underway and has made one more call at least, or it is over.
abbrev pub IsTurnOfOne : {N P : Type 0} → Meaning N P → ℕ → ℕ → State N P → ControlFlow (Unit {0}) (Unit {0})
    → State N P → Type 0
IsTurnOfOne m nodes capacity before (Continue _) now =
    IsUnderway m nodes capacity now [] × (length before.queue.known.calls + 1 ≤ length now.queue.known.calls)
IsTurnOfOne m nodes capacity before (Break _) now = IsOver m nodes capacity now.best now.queue.known

-- the outcome of a search that is over
abbrev pub best_outcome : {P : Type 0} → Option (Found P) → Outcome P
best_outcome None = outcomes.NoMemory
best_outcome (Some found) = outcomes.Best found.plan found.cost
