-- The text of an instance with the text of a plan behind it is a text of the two.
use Rattle.std.proofs.Common.{◌≡◌, ℕ, ◌+◌, ◌*◌, ◌≤◌, List, [], ◌∷◌, ◌++◌, length, map, codes, decimal, Ok, refl, arith}
use Rattle.std.specs.List.{AllByRecursion}
use Rattle.pq_io.specs.Writing.{words_text, IsPlainWord, IsPlainLine}
use Rattle.pq_io.proofs.Plain.{decimal_plain, decimal_digits}
use Rattle.pq_io.specs.Inputs.{longest_input}
use Rattle.inst_text.specs.Limits.{max_items, max_machines, max_total, max_stated}
use Rattle.inst_text.specs.declared.plan.Claimed.{Claimed}
use Rattle.inst_text.specs.Knapsack.{Instance, IsInstance, AreNumbers, SpellKnapsack, IsKnapsackText, knapsack_lines, knapsack_text, choice_lines, choice_text}
use Rattle.inst_text.specs.Shop.{JobShop, IsJobShop, AreStarts, SpellShop, IsShopText, shop_lines, shop_text, starts_lines, starts_text}
use Rattle.inst_text.specs.Plans.{AreStartsOf, SpellNumbers, SpellChoice, SpellStarts, knapsack_plan_of, shop_plan_of}
use Rattle.inst_text.proofs.Written.{digits_at_most, word_length, line_length, Writes, WritesEach, each_plain, each_means, each_short, two_texts, two_short}
use Rattle.inst_text.proofs.LinesBehind.{text_behind}
use Rattle.inst_text.proofs.WrittenKnapsack.{instance_written}
use Rattle.inst_text.proofs.WrittenShop.{shop_written}
use Rattle.inst_text.proofs.PlanLines.{AreInTime}
use Rattle.inst_text.proofs.PlanTexts.{knapsack_plan_is_read, shop_plan_is_read}

-- the fixed words

value_plain : IsPlainWord (codes "value")
value_plain = (refl, (refl, (refl, (refl, (refl, tt)))))

items_plain : IsPlainWord (codes "items")
items_plain = (refl, (refl, (refl, (refl, (refl, tt)))))

makespan_plain : IsPlainWord (codes "makespan")
makespan_plain = (refl, (refl, (refl, (refl, (refl, (refl, (refl, (refl, tt))))))))

-- numbers in decimal

numbers_plain : (ks : List ℕ) → AllByRecursion (λ k. k ≤ max_total) ks → AllByRecursion IsPlainWord (map decimal ks)
numbers_plain [] within = tt
numbers_plain (k ∷ ks) within = let w = within.0 in ((decimal_plain k (omega arith)).0, numbers_plain ks within.1)

numbers_spelled : (ks : List ℕ) → AllByRecursion (λ k. k ≤ max_total) ks → SpellNumbers (map decimal ks) ks
numbers_spelled [] within = tt
numbers_spelled (k ∷ ks) within = let w = within.0 in (decimal_digits k (omega arith), numbers_spelled ks within.1)

numbers_length : (ks : List ℕ) → AllByRecursion (λ k. k ≤ max_total) ks → length (words_text (map decimal ks)) ≤ 9 * length ks
numbers_length [] within = omega arith
numbers_length (k ∷ ks) within =
    let w = within.0 in
    let a : length (decimal k) ≤ 8 = digits_at_most 8 k (omega arith) (omega arith) (omega arith) in
    omega (arith, word_length (decimal k) (map decimal ks), numbers_length ks within.1)

stated_length : (n : ℕ) → n ≤ max_stated → length (decimal n) ≤ 10
stated_length n le = digits_at_most 10 n (omega arith) (omega arith) (omega arith)

-- a choice

numbers_within : (low n : ℕ) (ks : List ℕ) → n ≤ max_items → AreNumbers low n ks → AllByRecursion (λ k. k ≤ max_total) ks
numbers_within low n [] few are = tt
numbers_within low n (k ∷ ks) few are = (omega (arith, are.1), numbers_within (k + 1) n ks few are.2)

-- rising numbers are few
numbers_count : (low n : ℕ) (ks : List ℕ) → low ≤ n → AreNumbers low n ks → length ks + low ≤ n
numbers_count low n [] le are = omega arith
numbers_count low n (k ∷ ks) le are = let below = are.1 in omega (arith, are.0, numbers_count (k + 1) n ks (omega arith) are.2)

pub choice_written : (n : ℕ) (c : Claimed (List ℕ)) → n ≤ max_items → c.stated ≤ max_stated → AreNumbers 0 n c.plan → Writes SpellChoice (choice_lines c.stated c.plan) c 10000
choice_written n c few limit are =
    let within = numbers_within 0 n c.plan few are in
    let stated = decimal_plain c.stated (omega arith) in
    record {
      plain = (((value_plain, (stated.0, tt)), refl), (((items_plain, numbers_plain c.plan within), refl), tt));
      means = λ k. ((refl, decimal_digits c.stated (omega arith)), (refl, numbers_spelled c.plan within));
      short =
          omega (
            arith,
            line_length (codes "value" ∷ decimal c.stated ∷ []) ((codes "items" ∷ map decimal c.plan) ∷ []),
            line_length (codes "items" ∷ map decimal c.plan) [],
            word_length (codes "value") (decimal c.stated ∷ []),
            word_length (codes "items") (map decimal c.plan),
            stated_length c.stated limit,
            numbers_length c.plan within,
            numbers_count 0 n c.plan (omega arith) are,
          );
    }

pub choice_text_is_read : (i : Instance) (c : Claimed (List ℕ)) → IsInstance i → c.stated ≤ max_stated → AreNumbers 0 (length i.items) c.plan → knapsack_plan_of (knapsack_text i ++ choice_text c.stated c.plan) ≡ Ok (i, c)
choice_text_is_read i c limits stated are =
    let v = instance_written i limits in
    let w = choice_written (length i.items) c limits.count stated are in
    knapsack_plan_is_read (knapsack_text i ++ choice_text c.stated c.plan) i c
    (record {
      size = two_short SpellKnapsack SpellChoice (knapsack_lines i) (choice_lines c.stated c.plan) i c 20500 10000 v w (omega arith);
      lines = two_texts SpellKnapsack SpellChoice (knapsack_lines i) (choice_lines c.stated c.plan) i c 20500 10000 v w;
      limits = limits;
      stated = stated;
      shape = are;
    })

-- behind any text of the instance
pub choice_behind_is_read : (bytes : List ℕ) (i : Instance) (c : Claimed (List ℕ)) → IsKnapsackText (bytes ++ 10 ∷ []) i → c.stated ≤ max_stated → AreNumbers 0 (length i.items) c.plan
    → length (bytes ++ 10 ∷ choice_text c.stated c.plan) ≤ longest_input → knapsack_plan_of (bytes ++ 10 ∷ choice_text c.stated c.plan) ≡ Ok (i, c)
choice_behind_is_read bytes i c text stated are size =
    let limits = text.limits in
    let w = choice_written (length i.items) c limits.count stated are in
    knapsack_plan_is_read (bytes ++ 10 ∷ choice_text c.stated c.plan) i c
    (record {
      size = size;
      lines = text_behind SpellKnapsack SpellChoice bytes (choice_lines c.stated c.plan) i c 10000 text.lines w;
      limits = limits;
      stated = stated;
      shape = are;
    })

-- start times

record StartRowWithin (row : List ℕ) : Type 0 where
  some : 1 ≤ length row
  few : length row ≤ max_machines
  each : AreInTime row

start_rows_within : (n : ℕ) (rows : List (List ℕ)) → 1 ≤ n → n ≤ max_machines → AllByRecursion (λ (row : List ℕ). length row ≡ n) rows → AreStarts rows → AllByRecursion StartRowWithin rows
start_rows_within n [] some few steps limits = tt
start_rows_within n (r ∷ rs) some few steps limits =
    let count = steps.0 in (record { some = omega arith; few = omega arith; each = limits.0 }, start_rows_within n rs some few steps.1 limits.1)

abbrev start_words : List ℕ → List (List ℕ)
start_words row = map decimal row

start_row_plain : (row : List ℕ) → StartRowWithin row → IsPlainLine (start_words row)
start_row_plain [] within = let some = within.some in absurd (omega arith)
start_row_plain (k ∷ ks) within =
    let each = within.each in
    let w = each.0 in
    (numbers_plain (k ∷ ks) each, (decimal_plain k (omega arith)).1)

start_rows_written : WritesEach StartRowWithin SpellNumbers start_words 901
start_rows_written = record {
  plain = start_row_plain;
  means = λ row within. numbers_spelled row within.each;
  short = λ row within. omega (arith, numbers_length row within.each, within.few);
}

starts_written : (s : JobShop) (c : Claimed (List (List ℕ))) → IsJobShop s → c.stated ≤ max_stated → AreStartsOf s c.plan → Writes SpellStarts (starts_lines c.stated c.plan) c 90200
starts_written s c limits limit are =
    let within = start_rows_within s.machines c.plan limits.some_machine limits.machines are.steps are.limits in
    let stated = decimal_plain c.stated (omega arith) in
    record {
      plain = (((makespan_plain, (stated.0, tt)), refl), each_plain StartRowWithin SpellNumbers start_words 901 start_rows_written c.plan within);
      means = λ k. ((refl, decimal_digits c.stated (omega arith)), each_means StartRowWithin SpellNumbers start_words 901 start_rows_written (k + 1) c.plan within);
      short =
          omega (
            arith,
            line_length (codes "makespan" ∷ decimal c.stated ∷ []) (map start_words c.plan),
            word_length (codes "makespan") (decimal c.stated ∷ []),
            stated_length c.stated limit,
            each_short StartRowWithin SpellNumbers start_words 901 start_rows_written c.plan within,
            are.jobs,
            limits.jobs,
          );
    }

pub starts_text_is_read : (s : JobShop) (c : Claimed (List (List ℕ))) → IsJobShop s → c.stated ≤ max_stated → AreStartsOf s c.plan → shop_plan_of (shop_text s ++ starts_text c.stated c.plan) ≡ Ok (s, c)
starts_text_is_read s c limits stated are =
    let v = shop_written s limits in
    let w = starts_written s c limits stated are in
    shop_plan_is_read (shop_text s ++ starts_text c.stated c.plan) s c
    (record {
      size = two_short SpellShop SpellStarts (shop_lines s) (starts_lines c.stated c.plan) s c 120200 90200 v w (omega arith);
      lines = two_texts SpellShop SpellStarts (shop_lines s) (starts_lines c.stated c.plan) s c 120200 90200 v w;
      limits = limits;
      stated = stated;
      shape = are;
    })

-- behind any text of the shop
pub starts_behind_are_read : (bytes : List ℕ) (s : JobShop) (c : Claimed (List (List ℕ))) → IsShopText (bytes ++ 10 ∷ []) s → c.stated ≤ max_stated → AreStartsOf s c.plan
    → length (bytes ++ 10 ∷ starts_text c.stated c.plan) ≤ longest_input → shop_plan_of (bytes ++ 10 ∷ starts_text c.stated c.plan) ≡ Ok (s, c)
starts_behind_are_read bytes s c text stated are size =
    let w = starts_written s c text.limits stated are in
    shop_plan_is_read (bytes ++ 10 ∷ starts_text c.stated c.plan) s c
    (record {
      size = size;
      lines = text_behind SpellShop SpellStarts bytes (starts_lines c.stated c.plan) s c 90200 text.lines w;
      limits = text.limits;
      stated = stated;
      shape = are;
    })
