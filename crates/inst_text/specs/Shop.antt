-- A job shop and start times of its operations, their limits, and their texts.
use Rattle.std.specs.Prelude.{ℕ, ◌≡◌, ◌+◌, ◌-◌, ◌*◌, ◌≤◌, ◌<◌, nat_le, if◌then◌else◌, List, [], ◌∷◌, length, map, codes}
use Rattle.std.specs.Prelude.{Result, Ok, Err}
use Rattle.std.specs.List.{AllByRecursion}
use Rattle.std.specs.Fmt.{decimal}
use Rattle.pq_io.specs.declared.text.fault.Cause.{Cause}
use Rattle.pq_io.specs.declared.text.fault.Cause.TheVariants.{Range}
use Rattle.pq_io.specs.declared.text.fault.BadInput.{BadInput}
use Rattle.pq_io.specs.Inputs.{longest_input}
use Rattle.pq_io.specs.Lines.{Line, Text, text_of}
use Rattle.pq_io.specs.Reading.{◌>>=◌, Read, Spells, number_at, at_line_end, line_at}
use Rattle.pq_io.specs.Writing.{lines_text}
use Rattle.inst_text.specs.declared.shop.Operation.{Operation}
use Rattle.inst_text.specs.Limits.{max_jobs, max_machines, max_operations, max_total}
use Rattle.inst_text.specs.Several.{several, with_line, EachLine, whole}
use Rattle.inst_text.specs.Knapsack.{SpellsTwo, two_words}

-- a job shop without where it lies in memory: how many machines it has, and the operations of each job
pub record JobShop : Type 0 where
  pub machines : ℕ
  pub rows : List (List Operation)

-- the sum of the times of these operations
abbrev pub row_time : List Operation → ℕ
row_time [] = 0
row_time (o ∷ os) = o.time + row_time os

-- the same of several rows
abbrev pub rows_time : List (List Operation) → ℕ
rows_time [] = 0
rows_time (r ∷ rs) = row_time r + rows_time rs

-- how many operations there are: one for each job and step, and a job has as many steps as there are machines
abbrev pub operations : JobShop → ℕ
operations s = length s.rows * s.machines

-- the limits of every job shop
pub record IsJobShop (s : JobShop) : Type 0 where
  pub some_job : 1 ≤ length s.rows
  pub jobs : length s.rows ≤ max_jobs
  pub some_machine : 1 ≤ s.machines
  pub machines : s.machines ≤ max_machines
  pub size : operations s ≤ max_operations
  pub steps : AllByRecursion (λ (row : List Operation). length row ≡ s.machines) s.rows
  pub named : AllByRecursion (λ (row : List Operation).
      AllByRecursion (λ (o : Operation). o.machine < s.machines) row) s.rows
  pub times : rows_time s.rows ≤ max_total

-- rows of start times, each within its limit
abbrev pub AreStarts : List (List ℕ) → Type 0
AreStarts rows = AllByRecursion (λ (row : List ℕ). AllByRecursion (λ (t : ℕ). t ≤ max_total) row) rows

-- The first line of a shop: how many jobs, and how many machines.
unfoldable pub shop_head_of : List (List ℕ) → Result (ℕ × ℕ) Cause
shop_head_of words = do
  jobs ← number_at 1 max_jobs words
  machines ← number_at 1 max_machines jobs.rest
  end ← if nat_le (jobs.value * machines.value) max_operations then at_line_end machines.rest else Err Range
  Ok (jobs.value, machines.value)

-- a number of machines that a shop may have
abbrev pub IsMachineCount : ℕ → Type 0
IsMachineCount machines = (1 ≤ machines) × (machines ≤ max_machines)

-- An operation on one of so many machines, whose time may be at most room.
unfoldable pub operation_at : ℕ → ℕ → List (List ℕ) → Result (Read Operation (List (List ℕ))) Cause
operation_at machines room words = do
  machine ← number_at 0 (machines - 1) words
  time ← number_at 0 room machine.rest
  Ok (record { value = record { machine = machine.value; time = time.value }; rest = time.rest })

-- Some operations, whose times may add up to at most room.
abbrev pub operations_at : ℕ → ℕ → ℕ → List (List ℕ) → Result (Read (List Operation) (List (List ℕ))) Cause
operations_at n machines room words = several (operation_at machines) (λ r o. r - o.time) n room words

-- the same, with faults on this line
abbrev pub line_operations_at : ℕ → ℕ → ℕ → ℕ → List (List ℕ) → Result (Read (List Operation) (List (List ℕ))) BadInput
line_operations_at line n machines room words =
    several (with_line line (operation_at machines)) (λ r o. r - o.time) n room words

-- The line of a job: an operation for each machine.
unfoldable pub row_of : ℕ → ℕ → List (List ℕ) → Result (List Operation) Cause
row_of machines room words = do
  row ← operations_at machines machines room words
  end ← at_line_end row.rest
  Ok row.value

-- The lines of n jobs, whose times may add up to at most room.
abbrev pub rows_at : ℕ → ℕ → ℕ → Text → Result (Read (List (List Operation)) Text) BadInput
rows_at n machines room text = several (λ r. line_at (row_of machines r)) (λ r row. r - row_time row) n room text

-- A shop, and what is left behind it.
unfoldable pub shop_at : Text → Result (Read JobShop Text) BadInput
shop_at text = do
  head ← line_at shop_head_of text
  rows ← rows_at head.value.0 head.value.1 max_total head.rest
  Ok (record { value = record { machines = head.value.1; rows = rows.value }; rest = rows.rest })

-- the shop that these bytes read as, or their first fault
unfoldable pub shop_of : List ℕ → Result JobShop BadInput
shop_of bytes = whole shop_at bytes

-- The words are two for each operation, which spell its machine and its time.
abbrev pub SpellRow : List (List ℕ) → List Operation → Type 0
SpellRow [] [] = Unit {0}
SpellRow (v ∷ w ∷ ws) (o ∷ os) = Spells v o.machine × Spells w o.time × SpellRow ws os
SpellRow words row = ⊥

-- The first line spells how many jobs and how many machines there are; each further line spells a job.
abbrev pub SpellShop : List Line → JobShop → Type 0
SpellShop [] s = ⊥
SpellShop (l ∷ ls) s = SpellsTwo l.words (length s.rows) s.machines × EachLine SpellRow ls s.rows

-- A text of this shop: its lines spell a shop within the limits, and it is not too long.
pub record IsShopText (bytes : List ℕ) (s : JobShop) : Type 0 where
  pub size : length bytes ≤ longest_input
  pub lines : SpellShop (text_of bytes).lines s
  pub limits : IsJobShop s

-- machine and time of each operation, in decimal
abbrev pub row_words : List Operation → List (List ℕ)
row_words [] = []
row_words (o ∷ os) = decimal o.machine ∷ decimal o.time ∷ row_words os

abbrev pub shop_lines : JobShop → List (List (List ℕ))
shop_lines s = two_words (length s.rows) s.machines ∷ map row_words s.rows

-- the text of a shop
abbrev pub shop_text : JobShop → List ℕ
shop_text s = lines_text (shop_lines s)

abbrev pub starts_lines : ℕ → List (List ℕ) → List (List (List ℕ))
starts_lines makespan rows = (codes "makespan" ∷ decimal makespan ∷ []) ∷ map (λ row. map decimal row) rows

-- the text of start times and their makespan
abbrev pub starts_text : ℕ → List (List ℕ) → List ℕ
starts_text makespan rows = lines_text (starts_lines makespan rows)
