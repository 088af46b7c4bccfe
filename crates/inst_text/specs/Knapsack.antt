-- A knapsack instance and a choice of its items, their limits, and their texts.
use Rattle.std.specs.Prelude.{ℕ, ◌+◌, ◌-◌, ◌≤◌, ◌<◌, List, [], ◌∷◌, length, map, codes, Result, Ok}
use Rattle.std.specs.List.{AllByRecursion}
use Rattle.std.specs.Fmt.{decimal}
use Rattle.pq_io.specs.declared.text.fault.Cause.{Cause}
use Rattle.pq_io.specs.declared.text.fault.BadInput.{BadInput}
use Rattle.pq_io.specs.Inputs.{longest_input}
use Rattle.pq_io.specs.Lines.{Line, Text, text_of}
use Rattle.pq_io.specs.Reading.{◌>>=◌, Read, Spells, number_at, at_line_end, line_at}
use Rattle.pq_io.specs.Writing.{lines_text}
use Rattle.inst_text.specs.declared.knapsack.Item.{Item}
use Rattle.inst_text.specs.Limits.{max_items, max_weight, max_knapsack_capacity, max_total}
use Rattle.inst_text.specs.Several.{several, EachLine, whole}

-- an instance without where it lies in memory
pub record Instance : Type 0 where
  pub capacity : ℕ
  pub items : List Item

abbrev pub total_value : List Item → ℕ
total_value [] = 0
total_value (i ∷ is) = i.value + total_value is

-- the limits of every instance
pub record IsInstance (i : Instance) : Type 0 where
  pub count : length i.items ≤ max_items
  pub capacity : i.capacity ≤ max_knapsack_capacity
  pub weights : AllByRecursion (λ (j : Item). j.weight ≤ max_weight) i.items
  pub values : total_value i.items ≤ max_total

-- rising item numbers, none below low, each below n
abbrev pub AreNumbers : ℕ → ℕ → List ℕ → Type 0
AreNumbers low n [] = Unit {0}
AreNumbers low n (k ∷ ks) = (low ≤ k) × (k < n) × AreNumbers (k + 1) n ks

-- The first line of a knapsack: how many items, and the capacity.
unfoldable pub head_of : List (List ℕ) → Result (ℕ × ℕ) Cause
head_of words = do
  count ← number_at 0 max_items words
  capacity ← number_at 0 max_knapsack_capacity count.rest
  end ← at_line_end capacity.rest
  Ok (count.value, capacity.value)

-- The line of an item, whose value may be at most room.
unfoldable pub item_of : ℕ → List (List ℕ) → Result Item Cause
item_of room words = do
  weight ← number_at 0 max_weight words
  value ← number_at 0 room weight.rest
  end ← at_line_end value.rest
  Ok (record { weight = weight.value; value = value.value })

-- The lines of n items, whose values may add up to at most room.
abbrev pub items_at : ℕ → ℕ → Text → Result (Read (List Item) Text) BadInput
items_at n room text = several (λ r. line_at (item_of r)) (λ r item. r - item.value) n room text

-- An instance, and what is left behind it.
unfoldable pub instance_at : Text → Result (Read Instance Text) BadInput
instance_at text = do
  head ← line_at head_of text
  items ← items_at head.value.0 max_total head.rest
  Ok (record { value = record { capacity = head.value.1; items = items.value }; rest = items.rest })

-- the instance that these bytes read as, or their first fault
unfoldable pub knapsack_of : List ℕ → Result Instance BadInput
knapsack_of bytes = whole instance_at bytes

-- The line is two words, which spell these two numbers.
abbrev pub SpellsTwo : List (List ℕ) → ℕ → ℕ → Type 0
SpellsTwo (v ∷ w ∷ []) m n = Spells v m × Spells w n
SpellsTwo words m n = ⊥

-- Each line spells the weight and the value of the item at its place.
abbrev pub SpellItems : List Line → List Item → Type 0
SpellItems ls is = EachLine (λ words (i : Item). SpellsTwo words i.weight i.value) ls is

-- The first line spells how many items there are, and the capacity; each further line spells an item.
abbrev pub SpellKnapsack : List Line → Instance → Type 0
SpellKnapsack [] i = ⊥
SpellKnapsack (l ∷ ls) i = SpellsTwo l.words (length i.items) i.capacity × SpellItems ls i.items

-- A text of this instance: its lines spell an instance within the limits, and it is not too long.
pub record IsKnapsackText (bytes : List ℕ) (i : Instance) : Type 0 where
  pub size : length bytes ≤ longest_input
  pub lines : SpellKnapsack (text_of bytes).lines i
  pub limits : IsInstance i

-- two numbers in decimal
abbrev pub two_words : ℕ → ℕ → List (List ℕ)
two_words m n = decimal m ∷ decimal n ∷ []

abbrev pub knapsack_lines : Instance → List (List (List ℕ))
knapsack_lines i = two_words (length i.items) i.capacity ∷ map (λ (j : Item). two_words j.weight j.value) i.items

-- the text of an instance
abbrev pub knapsack_text : Instance → List ℕ
knapsack_text i = lines_text (knapsack_lines i)

abbrev pub choice_lines : ℕ → List ℕ → List (List (List ℕ))
choice_lines value numbers = (codes "value" ∷ decimal value ∷ []) ∷ (codes "items" ∷ map decimal numbers) ∷ []

-- the text of a choice and its value
abbrev pub choice_text : ℕ → List ℕ → List ℕ
choice_text value numbers = lines_text (choice_lines value numbers)
