-- The text of a shop is a text of this shop.
use Rattle.std.proofs.Common.{◌≡◌, ℕ, ◌+◌, ◌*◌, ◌<◌, ◌≤◌, ◌^◌, List, [], ◌∷◌, length, map, decimal, Ok, arith}
use Rattle.std.specs.List.{AllByRecursion}
use Rattle.pq_io.specs.Writing.{words_text, IsPlainWord, IsPlainLine}
use Rattle.pq_io.proofs.Plain.{decimal_plain, decimal_digits}
use Rattle.pq_io.specs.Inputs.{longest_input}
use Rattle.inst_text.specs.Limits.{max_machines, max_total}
use Rattle.inst_text.specs.declared.shop.Operation.{Operation}
use Rattle.inst_text.specs.Knapsack.{two_words}
use Rattle.inst_text.specs.Shop.{JobShop, IsJobShop, row_time, rows_time, SpellRow, SpellShop, row_words, shop_lines, shop_text, shop_of}
use Rattle.inst_text.proofs.Written.{digits_at_most, word_length, line_length, Writes, WritesEach, each_plain, each_means, each_short, one_text}
use Rattle.inst_text.proofs.WrittenKnapsack.{two_plain, two_spelled, two_length}
use Rattle.inst_text.proofs.ShopLines.{AreNamed}
use Rattle.inst_text.proofs.ShopText.{shop_is_read}

record OperationWithin (o : Operation) : Type 0 where
  machine : o.machine < max_machines
  time : o.time ≤ max_total

abbrev AreWithin : List Operation → Type 0
AreWithin row = AllByRecursion OperationWithin row

record RowWithin (row : List Operation) : Type 0 where
  some : 1 ≤ length row
  few : length row ≤ max_machines
  each : AreWithin row

operations_within : (machines : ℕ) (row : List Operation) → machines ≤ max_machines → AreNamed machines row → row_time row ≤ max_total → AreWithin row
operations_within machines [] few named times = tt
operations_within machines (o ∷ os) few named times =
    let n = named.0 in
    (record { machine = omega arith; time = omega arith }, operations_within machines os few named.1 (omega arith))

rows_within : (machines : ℕ) (rows : List (List Operation)) → 1 ≤ machines → machines ≤ max_machines → AllByRecursion (λ (row : List Operation). length row ≡ machines) rows → AllByRecursion (λ (row : List Operation). AreNamed machines row) rows
    → rows_time rows ≤ max_total → AllByRecursion RowWithin rows
rows_within machines [] some few steps named times = tt
rows_within machines (r ∷ rs) some few steps named times =
    let count = steps.0 in
    (record { some = omega arith; few = omega arith; each = operations_within machines r few named.0 (omega arith) }, rows_within machines rs some few steps.1 named.1 (omega arith))

words_plain : (row : List Operation) → AreWithin row → AllByRecursion IsPlainWord (row_words row)
words_plain [] within = tt
words_plain (o ∷ os) within =
    let w = within.0 in
    ((decimal_plain o.machine (omega arith)).0, ((decimal_plain o.time (omega arith)).0, words_plain os within.1))

row_plain : (row : List Operation) → RowWithin row → IsPlainLine (row_words row)
row_plain [] within = let some = within.some in absurd (omega arith)
row_plain (o ∷ os) within =
    let each = within.each in
    let w = each.0 in
    (words_plain (o ∷ os) each, (decimal_plain o.machine (omega arith)).1)

words_spelled : (row : List Operation) → AreWithin row → SpellRow (row_words row) row
words_spelled [] within = tt
words_spelled (o ∷ os) within =
    let w = within.0 in
    (decimal_digits o.machine (omega arith), decimal_digits o.time (omega arith), words_spelled os within.1)

words_length : (row : List Operation) → AreWithin row → length (words_text (row_words row)) ≤ 12 * length row
words_length [] within = omega arith
words_length (o ∷ os) within =
    let w = within.0 in
    let a : length (decimal o.machine) ≤ 2 = digits_at_most 2 o.machine (omega arith) (omega arith) (omega arith) in
    let b : length (decimal o.time) ≤ 8 = digits_at_most 8 o.time (omega arith) (omega arith) (omega arith) in
    omega (arith, word_length (decimal o.machine) (decimal o.time ∷ row_words os), word_length (decimal o.time) (row_words os), words_length os within.1)

rows_written : WritesEach RowWithin SpellRow row_words 1201
rows_written = record {
  plain = row_plain;
  means = λ row within. words_spelled row within.each;
  short = λ row within. omega (arith, words_length row within.each, within.few);
}

pub shop_written : (s : JobShop) → IsJobShop s → Writes SpellShop (shop_lines s) s 120200
shop_written s limits =
    let jobs : length s.rows < 2 ^ 64 = omega (arith, limits.jobs) in
    let machines : s.machines < 2 ^ 64 = omega (arith, limits.machines) in
    let within = rows_within s.machines s.rows limits.some_machine limits.machines limits.steps limits.named limits.times in
    let n : length (decimal (length s.rows)) ≤ 3 = digits_at_most 3 (length s.rows) (omega arith) (omega (arith, limits.jobs)) jobs in
    let m : length (decimal s.machines) ≤ 3 = digits_at_most 3 s.machines (omega arith) (omega (arith, limits.machines)) machines in
    record {
      plain = (two_plain (length s.rows) s.machines jobs machines, each_plain RowWithin SpellRow row_words 1201 rows_written s.rows within);
      means = λ k. (two_spelled (length s.rows) s.machines jobs machines, each_means RowWithin SpellRow row_words 1201 rows_written (k + 1) s.rows within);
      short =
          omega (
            arith,
            limits.jobs,
            line_length (two_words (length s.rows) s.machines) (map row_words s.rows),
            two_length 3 3 (length s.rows) s.machines n m,
            each_short RowWithin SpellRow row_words 1201 rows_written s.rows within,
          );
    }

pub shop_text_is_read : (s : JobShop) → IsJobShop s → shop_of (shop_text s) ≡ Ok s
shop_text_is_read s limits =
    let w = shop_written s limits in
    let size : length (shop_text s) ≤ longest_input = omega (arith, w.short) in
    shop_is_read (shop_text s) s (record { size = size; lines = one_text SpellShop (shop_lines s) s 120200 w; limits = limits })
