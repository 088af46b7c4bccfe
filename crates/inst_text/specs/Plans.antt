-- Texts of an instance with a plan behind it, and the number that they state for the plan.
use Rattle.std.specs.Prelude.{ℕ, ◌≡◌, ◌+◌, ◌≤◌, nat_lt, if◌then◌else◌, List, [], ◌∷◌, length, codes, Result, Ok, Err}
use Rattle.std.specs.List.{AllByRecursion}
use Rattle.pq_io.specs.declared.text.fault.Cause.{Cause}
use Rattle.pq_io.specs.declared.text.fault.Cause.TheVariants.{Range}
use Rattle.pq_io.specs.declared.text.fault.BadInput.{BadInput}
use Rattle.pq_io.specs.Inputs.{longest_input}
use Rattle.pq_io.specs.Lines.{Line, Text, text_of}
use Rattle.pq_io.specs.Reading.{◌>>=◌, Read, Spells, number_at, number_of, word_at, after_word, at_line_end, line_at}
use Rattle.inst_text.specs.declared.plan.Claimed.{Claimed}
use Rattle.inst_text.specs.Limits.{max_stated, max_total}
use Rattle.inst_text.specs.Several.{several, with_line, EachLine, both, Follow, whole}
use Rattle.inst_text.specs.Knapsack.{Instance, IsInstance, AreNumbers, SpellKnapsack, instance_at}
use Rattle.inst_text.specs.Shop.{JobShop, IsJobShop, AreStarts, SpellShop, shop_at}

-- The line with the number that is stated for a plan, behind this word.
unfoldable pub stated_of : List ℕ → List (List ℕ) → Result ℕ Cause
stated_of word words = do
  rest ← after_word word words
  number ← number_at 0 max_stated rest
  end ← at_line_end number.rest
  Ok number.value

-- An item number below n, and not below low.
unfoldable pub item_number_of : ℕ → ℕ → List ℕ → Result ℕ Cause
item_number_of n low word = do
  number ← number_of low n word
  if nat_lt number n then Ok number else Err Range

-- The same of the next word, and what is left behind it.
unfoldable pub item_number_at : ℕ → ℕ → List (List ℕ) → Result (Read ℕ (List (List ℕ))) Cause
item_number_at n low words = do
  word ← word_at words
  number ← item_number_of n low word.value
  Ok (record { value = number; rest = word.rest })

-- Item numbers below n up to the end of the line, which rise, and of which none is below low.
abbrev pub item_numbers_of : ℕ → ℕ → List (List ℕ) → Result (List ℕ) Cause
item_numbers_of n low [] = Ok []
item_numbers_of n low (w ∷ ws) = do
  number ← item_number_of n low w
  numbers ← item_numbers_of n (number + 1) ws
  Ok (number ∷ numbers)

-- The line of a choice among n items.
unfoldable pub choice_of : ℕ → List (List ℕ) → Result (List ℕ) Cause
choice_of n words = do
  rest ← after_word (codes "items") words
  item_numbers_of n 0 rest

-- A plan of a knapsack of n items, and what is left behind it.
unfoldable pub choice_at : ℕ → Text → Result (Read (Claimed (List ℕ)) Text) BadInput
choice_at n text = do
  value ← line_at (stated_of (codes "value")) text
  choice ← line_at (choice_of n) value.rest
  Ok (record { value = record { stated = value.value; plan = choice.value }; rest = choice.rest })

-- Some start times.
abbrev pub starts_on : ℕ → List (List ℕ) → Result (Read (List ℕ) (List (List ℕ))) Cause
starts_on n words = several (λ (s : Unit {0}). number_at 0 max_total) (λ s start. s) n tt words

-- the same, with faults on this line
abbrev pub line_starts_on : ℕ → ℕ → List (List ℕ) → Result (Read (List ℕ) (List (List ℕ))) BadInput
line_starts_on line n words =
    several (with_line line (λ (s : Unit {0}). number_at 0 max_total)) (λ s start. s) n tt words

-- The line of a job's start times, n of them.
unfoldable pub start_row_of : ℕ → List (List ℕ) → Result (List ℕ) Cause
start_row_of n words = do
  row ← starts_on n words
  end ← at_line_end row.rest
  Ok row.value

-- The lines of the start times of so many jobs, n of them each.
abbrev pub start_rows_at : ℕ → ℕ → Text → Result (Read (List (List ℕ)) Text) BadInput
start_rows_at jobs n text = several (λ (s : Unit {0}). line_at (start_row_of n)) (λ s row. s) jobs tt text

-- A plan of a shop of so many jobs and machines, and what is left behind it.
unfoldable pub starts_at : ℕ → ℕ → Text → Result (Read (Claimed (List (List ℕ))) Text) BadInput
starts_at jobs machines text = do
  makespan ← line_at (stated_of (codes "makespan")) text
  rows ← start_rows_at jobs machines makespan.rest
  Ok (record { value = record { stated = makespan.value; plan = rows.value }; rest = rows.rest })

-- the instance and the plan that these bytes read as, or their first fault
unfoldable pub knapsack_plan_of : List ℕ → Result (Instance × Claimed (List ℕ)) BadInput
knapsack_plan_of bytes = whole (both instance_at (λ i. choice_at (length i.items))) bytes

-- the shop and the plan that these bytes read as, or their first fault
unfoldable pub shop_plan_of : List ℕ → Result (JobShop × Claimed (List (List ℕ))) BadInput
shop_plan_of bytes = whole (both shop_at (λ s. starts_at (length s.rows) s.machines)) bytes

-- The line is this word, and then a word that spells the number.
abbrev pub SpellsStated : List ℕ → List (List ℕ) → ℕ → Type 0
SpellsStated fixed (v ∷ w ∷ []) n = (v ≡ fixed) × Spells w n
SpellsStated fixed words n = ⊥

-- Each word spells the number at its place.
abbrev pub SpellNumbers : List (List ℕ) → List ℕ → Type 0
SpellNumbers [] [] = Unit {0}
SpellNumbers (w ∷ ws) (n ∷ ns) = Spells w n × SpellNumbers ws ns
SpellNumbers words numbers = ⊥

-- The line is the word `items`, and then words that spell the numbers.
abbrev pub SpellsItems : List (List ℕ) → List ℕ → Type 0
SpellsItems [] numbers = ⊥
SpellsItems (w ∷ ws) numbers = (w ≡ codes "items") × SpellNumbers ws numbers

-- There are two lines: `value V`, and the line of the item numbers.
abbrev pub SpellChoice : List Line → Claimed (List ℕ) → Type 0
SpellChoice (k ∷ l ∷ []) c = SpellsStated (codes "value") k.words c.stated × SpellsItems l.words c.plan
SpellChoice lines c = ⊥

-- The first line is `makespan C`, and each further line spells the start times of a job.
abbrev pub SpellStarts : List Line → Claimed (List (List ℕ)) → Type 0
SpellStarts [] c = ⊥
SpellStarts (l ∷ ls) c = SpellsStated (codes "makespan") l.words c.stated × EachLine SpellNumbers ls c.plan

-- There is a row of start times for each job, and in it as many as there are machines, each within its limit.
pub record AreStartsOf (s : JobShop) (rows : List (List ℕ)) : Type 0 where
  pub jobs : length rows ≡ length s.rows
  pub steps : AllByRecursion (λ (row : List ℕ). length row ≡ s.machines) rows
  pub limits : AreStarts rows

-- A text of this instance with this plan behind it, a choice of its items.
pub record IsKnapsackPlanText (bytes : List ℕ) (i : Instance) (c : Claimed (List ℕ)) : Type 0 where
  pub size : length bytes ≤ longest_input
  pub lines : Follow SpellKnapsack SpellChoice (text_of bytes).lines i c
  pub limits : IsInstance i
  pub stated : c.stated ≤ max_stated
  pub shape : AreNumbers 0 (length i.items) c.plan

-- A text of this shop with this plan behind it, start times of its operations.
pub record IsShopPlanText (bytes : List ℕ) (s : JobShop) (c : Claimed (List (List ℕ))) : Type 0 where
  pub size : length bytes ≤ longest_input
  pub lines : Follow SpellShop SpellStarts (text_of bytes).lines s c
  pub limits : IsJobShop s
  pub stated : c.stated ≤ max_stated
  pub shape : AreStartsOf s c.plan
