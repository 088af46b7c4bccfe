-- The text of an instance is a text of this instance.
use Rattle.std.proofs.Common.{◌≡◌, ℕ, ◌+◌, ◌<◌, ◌≤◌, ◌^◌, List, [], ◌∷◌, length, map, decimal, Ok, arith}
use Rattle.std.specs.List.{AllByRecursion}
use Rattle.pq_io.specs.Writing.{words_text, IsPlainLine}
use Rattle.pq_io.proofs.Plain.{decimal_plain, decimal_digits}
use Rattle.pq_io.specs.Inputs.{longest_input}
use Rattle.inst_text.specs.Limits.{max_weight, max_total}
use Rattle.inst_text.specs.declared.knapsack.Item.{Item}
use Rattle.inst_text.specs.Knapsack.{Instance, IsInstance, total_value, SpellsTwo, SpellKnapsack, two_words, knapsack_lines, knapsack_text, knapsack_of}
use Rattle.inst_text.proofs.Written.{digits_at_most, word_length, line_length, Writes, WritesEach, each_plain, each_means, each_short, one_text}
use Rattle.inst_text.proofs.KnapsackText.{knapsack_is_read}

-- lines of two numbers

pub two_plain : (m n : ℕ) → m < 2 ^ 64 → n < 2 ^ 64 → IsPlainLine (two_words m n)
two_plain m n p q = let a = decimal_plain m p in let b = decimal_plain n q in ((a.0, (b.0, tt)), a.1)

pub two_spelled : (m n : ℕ) → m < 2 ^ 64 → n < 2 ^ 64 → SpellsTwo (two_words m n) m n
two_spelled m n p q = (decimal_digits m p, decimal_digits n q)

pub two_length : (j k m n : ℕ) → length (decimal m) ≤ j → length (decimal n) ≤ k → length (words_text (two_words m n)) ≤ j + k + 1
two_length j k m n p q = omega (arith, word_length (decimal m) (decimal n ∷ []))

-- the items

abbrev item_words : Item → List (List ℕ)
item_words j = two_words j.weight j.value

record ItemWithin (j : Item) : Type 0 where
  weight : j.weight ≤ max_weight
  value : j.value ≤ max_total

items_within : (is : List Item) → AllByRecursion (λ (j : Item). j.weight ≤ max_weight) is → total_value is ≤ max_total → AllByRecursion ItemWithin is
items_within [] weights values = tt
items_within (i ∷ is) weights values = (record { weight = weights.0; value = omega arith }, items_within is weights.1 (omega arith))

item_plain : (j : Item) → ItemWithin j → IsPlainLine (item_words j)
item_plain j w = two_plain j.weight j.value (omega (arith, w.weight)) (omega (arith, w.value))

item_spelled : (j : Item) → ItemWithin j → SpellsTwo (item_words j) j.weight j.value
item_spelled j w = two_spelled j.weight j.value (omega (arith, w.weight)) (omega (arith, w.value))

item_short : (j : Item) → ItemWithin j → length (words_text (item_words j)) < 20
item_short j w =
    let a : length (decimal j.weight) ≤ 10 = digits_at_most 10 j.weight (omega arith) (omega (arith, w.weight)) (omega (arith, w.weight)) in
    let b : length (decimal j.value) ≤ 8 = digits_at_most 8 j.value (omega arith) (omega (arith, w.value)) (omega (arith, w.value)) in
    omega (arith, two_length 10 8 j.weight j.value a b)

abbrev MeansItem : List (List ℕ) → Item → Type 0
MeansItem words j = SpellsTwo words j.weight j.value

items_written : WritesEach ItemWithin MeansItem item_words 20
items_written = record { plain = item_plain; means = item_spelled; short = item_short }

-- the instance

pub instance_written : (i : Instance) → IsInstance i → Writes SpellKnapsack (knapsack_lines i) i 20500
instance_written i limits =
    let count : length i.items < 2 ^ 64 = omega (arith, limits.count) in
    let capacity : i.capacity < 2 ^ 64 = omega (arith, limits.capacity) in
    let within = items_within i.items limits.weights limits.values in
    let c : length (decimal (length i.items)) ≤ 4 = digits_at_most 4 (length i.items) (omega arith) (omega (arith, limits.count)) count in
    let w : length (decimal i.capacity) ≤ 13 = digits_at_most 13 i.capacity (omega arith) (omega (arith, limits.capacity)) capacity in
    record {
      plain = (two_plain (length i.items) i.capacity count capacity, each_plain ItemWithin MeansItem item_words 20 items_written i.items within);
      means = λ n. (two_spelled (length i.items) i.capacity count capacity, each_means ItemWithin MeansItem item_words 20 items_written (n + 1) i.items within);
      short =
          omega (
            arith,
            limits.count,
            line_length (two_words (length i.items) i.capacity) (map item_words i.items),
            two_length 4 13 (length i.items) i.capacity c w,
            each_short ItemWithin MeansItem item_words 20 items_written i.items within,
          );
    }

pub instance_is_read : (i : Instance) → IsInstance i → knapsack_of (knapsack_text i) ≡ Ok i
instance_is_read i limits =
    let w = instance_written i limits in
    let size : length (knapsack_text i) ≤ longest_input = omega (arith, w.short) in
    knapsack_is_read (knapsack_text i) i (record { size = size; lines = one_text SpellKnapsack (knapsack_lines i) i 20500 w; limits = limits })
