-- What a worker has within a turn.
use Rattle.std.specs.Prelude.{ℕ, ◌≡◌, ◌+◌, ◌<◌, ◌≤◌, true, List, Contains, Option}
use Rattle.pq_words.specs.declared.entries.Entry.{Entry}
use Rattle.pq_model.specs.declared.marks.Act.TheVariants.{Insert}
use Rattle.pq_model.specs.declared.marks.Reply.TheVariants.{Done}
use Rattle.pq_model.specs.Passes.{with_call}
use Rattle.bb_problem.specs.declared.step.Step.{Step}
use Rattle.bb_problem.specs.Meaning.{Meaning}
use Rattle.bb_problem.specs.Expanding.{IsExpanded}
use Rattle.bb_shared.specs.declared.control.stop.Stop.{Stop}
use Rattle.pq_numbers.specs.declared.draws.Draw.{Draw}
use Rattle.bb_shared.specs.declared.store.stored.Numbered.{Numbered}
use Rattle.bb_shared.specs.declared.store.stored.Stored.{Stored}
use Rattle.bb_shared.specs.Costs.{IsLower}
use Rattle.bb_shared.specs.Stores.{numbered, with_put}
use Rattle.bb_shared.specs.Controls.{IsTellable}
use Rattle.bb_pool.specs.declared.child.Child.{Child}
use Rattle.bb_pool.specs.declared.workers.turn.Turn.{Turn}
use Rattle.bb_pool.specs.declared.workers.turn.Turn.TheVariants.{Worked, Idle}
use Rattle.bb_pool.specs.Underway.{cost_so_far}
use Rattle.bb_pool.specs.Costs.{limit_of}
use Rattle.bb_pool.specs.Endings.{IsWhole, EndsAt}
use Rattle.bb_pool.specs.Working.{Waiting, IsHolding, IsInTurn}
use Rattle.bb_pool.specs.Together.{Doing, AtWork, GoesOn, IsCause}

-- It holds a node of this key.
abbrev pub HoldsNode : {N L : Type 0} → Meaning N L → Doing N L → Child N → Type 0
HoldsNode m w child = (e : Entry) × (e.key ≡ child.key) × IsHolding m w.known w.stored w.told w.found e child.node

-- It holds a node, and this is the step that the node was expanded to.
abbrev pub HasExpanded : {N L : Type 0} → Meaning N L → Doing N L → Step L N → Type 0
HasExpanded {N} m w step = (e : Entry) × (node : N) × IsHolding m w.known w.stored w.told w.found e node
    × ((name : List ℕ) → m.stands node name → IsExpanded m name step)

-- This is the best cost that it read last, which is at most what it told before.
abbrev pub HasRead : {N L : Type 0} → Doing N L → Option ℕ → Type 0
HasRead w best = (w.told.read ≡ best) × IsLower best w.told.own

-- It holds a node, these children wait, and they will have the numbers from this one on, which are above the node's.
pub record WaitsFrom {N L : Type 0} (m : Meaning N L) (w : Doing N L) (waiting : List (Waiting N)) (number : ℕ)
    : Type 0 where
  pub entry : Entry
  pub node : N
  pub turn : IsInTurn m w.known w.stored w.told w.found entry node waiting
  pub above : entry.id < number

-- So many numbers from this one on are free: one draw gave them, and nothing was put under them or above.
pub record AreFree {N : Type 0} (s : Stored N) (number count : ℕ) : Type 0 where
  pub draw : Draw
  pub drawn : Contains s.draws draw
  pub good : draw.within ≡ true
  pub from : draw.first ≤ number
  pub to : number + count ≤ draw.first + draw.count
  pub unput : (p : Numbered N) → Contains s.puts p → p.number < number

-- The child was put under the number, and an entry for it inserted. Nothing else was done.
pub record IsPut {N L : Type 0} (v w : Doing N L) (child : Child N) (number : ℕ) : Type 0 where
  pub entry : Entry
  pub place : ℕ
  pub id : entry.id ≡ number
  pub key : entry.key ≡ child.key
  pub inserted : w.known ≡ with_call v.known place (Insert entry) Done
  pub stored : w.stored ≡ with_put v.stored (numbered number child.node)
  pub told : w.told ≡ v.told
  pub found : w.found ≡ v.found

-- The pass asked last for an entry below the best cost, which was read before, and there was none. This speaks of all
-- workers, once all are joined.
abbrev pub EndsIfWhole : {N L : Type 0} → ℕ → ℕ → Doing N L → Type 0
EndsIfWhole seats capacity w = w.told.parts ≡ w.told.seats → IsWhole seats w.known
    → EndsAt seats capacity (limit_of (cost_so_far w.found)) w.known × (w.told.read ≡ w.told.own)

-- Since the first of these moments no call found nothing, and it is at work again.
abbrev pub HasWorked : {N L : Type 0} → Meaning N L → ℕ → Doing N L → Doing N L → Type 0
HasWorked m nodes v w = GoesOn nodes 0 v w × AtWork m w

-- After a turn it is at work again. Where it met no entry, one call more found nothing.
abbrev pub IsTurn : {N L : Type 0} → Meaning N L → ℕ → ℕ → ℕ → Doing N L → Doing N L → Turn → Type 0
IsTurn m nodes seats capacity v w Worked = HasWorked m nodes v w
IsTurn m nodes seats capacity v w Idle = GoesOn nodes 1 v w × AtWork m w × EndsIfWhole seats capacity w

-- A stop comes with its cause, and can be told.
abbrev pub IsHalt : {N L : Type 0} → ℕ → Doing N L → Doing N L → Stop → Type 0
IsHalt nodes v w stop = GoesOn nodes 0 v w × IsCause nodes w.known w.stored.draws stop × IsTellable stop
