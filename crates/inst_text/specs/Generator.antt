-- Instances and scripts that are made from a number: the generator, and what it makes.
use Rattle.std.specs.Prelude.{ℕ, zero, suc, ◌+◌, ◌*◌, ◌/◌, ◌%◌, ◌^◌, List, ◌++◌, map, replicate, sum_by, bit_xor}
use Rattle.std.specs.List.{range_with_len}
use Rattle.pq_words.specs.Limits.{key_limit}
use Rattle.pq_model.specs.EntryWords.{entry_of}
use Rattle.pq_model.specs.declared.marks.Act.{Act}
use Rattle.pq_model.specs.declared.marks.Act.TheVariants.{Insert, Remove}
use Rattle.inst_text.specs.declared.knapsack.Item.{Item}
use Rattle.inst_text.specs.declared.shop.Operation.{Operation}
use Rattle.inst_text.specs.Limits.{max_made_number, max_made_time}
use Rattle.inst_text.specs.Knapsack.{Instance}
use Rattle.inst_text.specs.Shop.{JobShop}

-- The next state of 64 bits: a xorshift of Marsaglia's. Bits that are shifted out at the top are lost.
unfoldable pub next_state : ℕ → ℕ
next_state s =
    let a = bit_xor s (s * 2 ^ 13 % 2 ^ 64) in
    let b = bit_xor a (a / 2 ^ 7) in
    bit_xor b (b * 2 ^ 17 % 2 ^ 64)

-- the state after n steps
abbrev pub state_after : ℕ → ℕ → ℕ
state_after seed zero = 2 * seed + 1
state_after seed (suc n) = next_state (state_after seed n)

-- The number below k that is drawn in this state, from the bits of the next one without the lowest 16.
abbrev pub drawn : ℕ → ℕ → ℕ
drawn s k = next_state s / 2 ^ 16 % k

-- a list of what belongs to 0, 1 and so on
abbrev pub each_below : {A : Type 0} → ℕ → (ℕ → A) → List A
each_below n f = map f (range_with_len 0 n)

-- The item that is made in this state by two draws.
abbrev pub item_from : ℕ → Item
item_from s = record { weight = 1 + drawn s max_made_number; value = 1 + drawn (next_state s) max_made_number }

-- so many items
abbrev pub made_items : ℕ → ℕ → List Item
made_items seed size = each_below size (λ i. item_from (state_after seed (2 * i)))

-- The knapsack takes half of what they weigh, rounded down.
abbrev pub made_knapsack : ℕ → ℕ → Instance
made_knapsack seed size = record {
  capacity = sum_by (λ (i : Item). i.weight) (made_items seed size) / 2;
  items = made_items seed size;
}

-- The k-th operation of a job that is made in the states from the n-th on: the first draw gives the machine of the
-- first operation, and the machines follow one another; each further draw gives a time.
abbrev pub made_operation : ℕ → ℕ → ℕ → ℕ → Operation
made_operation seed size n k = record {
  machine = (drawn (state_after seed n) size + k) % size;
  time = 1 + drawn (state_after seed (n + 1 + k)) max_made_time;
}

-- so many operations of that job
abbrev pub made_row : ℕ → ℕ → ℕ → List Operation
made_row seed size n = each_below size (made_operation seed size n)

-- so many jobs for as many machines
abbrev pub made_shop : ℕ → ℕ → JobShop
made_shop seed size = record { machines = size; rows = each_below size (λ j. made_row seed size (j * (size + 1))) }

-- The n-th insert of all lanes, from 0 on: its key is drawn, and its id is n.
abbrev pub made_insert : ℕ → ℕ → Act
made_insert seed n = Insert (entry_of (drawn (state_after seed n) key_limit) n)

-- so many inserts from the n-th on, and then as many removals
abbrev pub made_lane : ℕ → ℕ → ℕ → List Act
made_lane seed size n = each_below size (λ i. made_insert seed (n + i)) ++ replicate size Remove

-- so many lanes
abbrev pub made_script : ℕ → ℕ → ℕ → List (List Act)
made_script seed lanes size = each_below lanes (λ w. made_lane seed size (w * size))
