-- What a generator makes, one after the other, and that it keeps the limits.
use Rattle.std.proofs.Common.{◌≡◌, ℕ, zero, suc, ◌+◌, ◌-◌, ◌*◌, ◌/◌, ◌^◌, ◌<◌, ◌≤◌, List, [], ◌∷◌, ◌++◌, length, map, take, replicate, sum_by, refl, sym, ap, subst, ◌∙◌, arith, length-append}
use Rattle.std.specs.List.{AllByRecursion, range_with_len}
use Rattle.std.proofs.Math.Nat.{mod-lt}
use Rattle.std.proofs.lemmas.List.FromFn.{map-range_with_len_more, sum_by-map-range_with_len_more, length-map-range_with_len}
use Rattle.std.proofs.lemmas.List.{take_all, length-replicate}
use Rattle.std.proofs.lemmas.List.Sums.{sum_by-cons}
use Rattle.std.proofs.lemmas.Nat.{mul-le}
use Rattle.pq_words.specs.Limits.{key_limit}
use Rattle.pq_words.specs.declared.entries.Entry.{Entry}
use Rattle.pq_model.proofs.EntryWords.{entry_is}
use Rattle.pq_model.specs.declared.marks.Act.{Act}
use Rattle.pq_model.specs.declared.marks.Act.TheVariants.{Insert, Remove}
use Rattle.inst_text.specs.declared.knapsack.Item.{Item}
use Rattle.inst_text.specs.declared.shop.Operation.{Operation}
use Rattle.inst_text.specs.Limits.{max_items, max_weight, max_operations, max_lanes, max_made_shop, max_made_inserts}
use Rattle.inst_text.specs.Knapsack.{IsInstance, total_value}
use Rattle.inst_text.specs.Shop.{IsJobShop, row_time, rows_time}
use Rattle.inst_text.specs.Script.{IsCommand, IsScript, command_count}
use Rattle.inst_text.specs.Generator.{next_state, state_after, drawn, each_below, item_from, made_items, made_knapsack}
use Rattle.inst_text.specs.Generator.{made_operation, made_row, made_shop, made_insert, made_lane, made_script}

-- one more
pub one_more : {A : Type 0} (f : ℕ → A) (n : ℕ) → each_below (n + 1) f ≡ each_below n f ++ f n ∷ []
one_more f n = map-range_with_len_more f 0 n n (omega arith)

-- a loop has come to its end
pub all_made : (n size : ℕ) → n ≤ size → size ≤ n → n ≡ size
all_made n size p q = omega arith

-- a state some steps on
pub steps_on : (seed m n : ℕ) → m ≡ n → state_after seed m ≡ state_after seed n
steps_on seed m n e = ap (state_after seed) e

pub one_step : (seed n s : ℕ) → s ≡ state_after seed n → next_state s ≡ state_after seed (n + 1)
one_step seed n s e = ap next_state e ∙ steps_on seed (suc n) (n + 1) (omega arith)

pub drawn_below : (s k : ℕ) → 1 ≤ k → drawn s k < k
drawn_below s k some = mod-lt (next_state s / 2 ^ 16) some

-- items

pub weight_more : (seed n : ℕ) → sum_by (λ (i : Item). i.weight) (made_items seed (n + 1)) ≡ sum_by (λ (i : Item). i.weight) (made_items seed n) + (item_from (state_after seed (2 * n))).weight
weight_more seed n = sum_by-map-range_with_len_more (λ (i : Item). i.weight) (λ i. item_from (state_after seed (2 * i))) 0 n n (omega arith)

record AreLight (n : ℕ) (items : List Item) : Type 0 where
  weights : AllByRecursion (λ (j : Item). j.weight ≤ max_weight) items
  weight : sum_by (λ (i : Item). i.weight) items ≤ 100 * n
  value : total_value items ≤ 100 * n

items_light : (f : ℕ → ℕ) (a n : ℕ) → AreLight n (map (λ i. item_from (f i)) (range_with_len a n))
items_light f a zero = record { weights = tt; weight = omega arith; value = omega arith }
items_light f a (suc n) =
    let rest = items_light f (a + 1) n in
    let w = drawn_below (f a) 100 (omega arith) in
    let v = drawn_below (next_state (f a)) 100 (omega arith) in
    record {
      weights = (omega (arith, w), rest.weights);
      weight = omega (arith, w, rest.weight, sum_by-cons (λ (i : Item). i.weight) (item_from (f a)) (map (λ i. item_from (f i)) (range_with_len (a + 1) n)));
      value = omega (arith, v, rest.value);
    }

pub knapsack_fits : (seed size : ℕ) → size ≤ max_items → IsInstance (made_knapsack seed size)
knapsack_fits seed size few =
    let light = items_light (λ i. state_after seed (2 * i)) 0 size in
    let count : length (made_items seed size) ≡ size = length-map-range_with_len (λ i. item_from (state_after seed (2 * i))) 0 size in
    record {
      count = omega (arith, count);
      capacity = omega (arith, light.weight);
      weights = light.weights;
      values = omega (arith, light.value);
    }

-- every one of them

all_each : {A : Type 0} (P : A → Type 0) (f : ℕ → A) → ((i : ℕ) → P (f i)) → (a n : ℕ) → AllByRecursion P (map f (range_with_len a n))
all_each P f each a zero = tt
all_each P f each a (suc n) = (each a, all_each P f each (a + 1) n)

times_next : (k m : ℕ) → k * m + m ≡ (k + 1) * m
times_next k m = grind arith

pub next_from : (seed k m : ℕ) → state_after seed (k * m + m) ≡ state_after seed ((k + 1) * m)
next_from seed k m = steps_on seed (k * m + m) ((k + 1) * m) (times_next k m)

-- shops

row_time_within : (f : ℕ → Operation) (m : ℕ) → ((i : ℕ) → (f i).time ≤ m) → (a n : ℕ) → row_time (map f (range_with_len a n)) ≤ n * m
row_time_within f m each a zero = omega arith
row_time_within f m each a (suc n) = let here = each a in let rest = row_time_within f m each (a + 1) n in omega (arith, here, rest, sym (times_next n m))

rows_time_within : (f : ℕ → List Operation) (m : ℕ) → ((i : ℕ) → row_time (f i) ≤ m) → (a n : ℕ) → rows_time (map f (range_with_len a n)) ≤ n * m
rows_time_within f m each a zero = omega arith
rows_time_within f m each a (suc n) = let here = each a in let rest = rows_time_within f m each (a + 1) n in omega (arith, here, rest, sym (times_next n m))

pub shop_fits : (seed size : ℕ) → 1 ≤ size → size ≤ max_made_shop → IsJobShop (made_shop seed size)
shop_fits seed size some few =
    let row = λ (j : ℕ). made_row seed size (j * (size + 1)) in
    let jobs : length (each_below size row) ≡ size = length-map-range_with_len row 0 size in
    let time : (n k : ℕ) → (made_operation seed size n k).time ≤ 20 =
    λ n k. let below = drawn_below (state_after seed (n + 1 + k)) 20 (omega arith) in omega (arith, below) in
    let times : rows_time (each_below size row) ≤ size * (size * 20) =
    rows_time_within row (size * 20) (λ j. row_time_within (made_operation seed size (j * (size + 1))) 20 (time (j * (size + 1))) 0 size) 0 size in
    let square : size * size ≤ 32 * 32 = mul-le size size 32 32 few few in
    let all : size * (size * 20) ≤ 32 * (32 * 20) = mul-le size (size * 20) 32 (32 * 20) few (mul-le size 20 32 20 few (omega arith)) in
    record {
      some_job = omega (arith, jobs);
      jobs = omega (arith, jobs);
      some_machine = some;
      machines = omega arith;
      size = subst (λ k. k * size ≤ max_operations) (sym jobs) (omega (arith, square));
      steps = all_each (λ (r : List Operation). length r ≡ size) row (λ j. length-map-range_with_len (made_operation seed size (j * (size + 1))) 0 size) 0 size;
      named = all_each (λ (r : List Operation). AllByRecursion (λ (o : Operation). o.machine < size) r) row
          (λ j. all_each (λ (o : Operation). o.machine < size) (made_operation seed size (j * (size + 1))) (λ k. mod-lt (drawn (state_after seed (j * (size + 1))) size + k) some) 0 size) 0 size;
      times = omega (arith, times, all);
    }

-- scripts

all_behind : (xs : List Act) (n : ℕ) → AllByRecursion IsCommand xs → AllByRecursion IsCommand (xs ++ replicate n Remove)
all_behind [] zero all = tt
all_behind [] (suc n) all = (tt, all_behind [] n tt)
all_behind (x ∷ xs) n all = (all.0, all_behind xs n all.1)

lane_length : (seed size n : ℕ) → length (made_lane seed size n) ≡ 2 * size
lane_length seed size n =
    let inserts : length (each_below size (λ i. made_insert seed (n + i))) ≡ size = length-map-range_with_len (λ i. made_insert seed (n + i)) 0 size in
    omega (arith, inserts, length-append (each_below size (λ i. made_insert seed (n + i))) (replicate size Remove), length-replicate size Remove)

count_within : (f : ℕ → List Act) (m : ℕ) → ((i : ℕ) → length (f i) ≡ m) → (a n : ℕ) → command_count (map f (range_with_len a n)) ≡ n * m
count_within f m each a zero = let none : 0 ≡ 0 * m = omega arith in none
count_within f m each a (suc n) =
    let here = each a in
    let rest = count_within f m each (a + 1) n in
    omega (arith, here, rest, sum_by-cons length (f a) (map f (range_with_len (a + 1) n)), sym (times_next n m))

pub script_fits : (seed lanes size : ℕ) → 1 ≤ lanes → lanes ≤ max_lanes → size ≤ max_made_inserts → IsScript (made_script seed lanes size)
script_fits seed lanes size some few short =
    let lane = λ (w : ℕ). made_lane seed size (w * size) in
    let count : length (each_below lanes lane) ≡ lanes = length-map-range_with_len lane 0 lanes in
    let commands : command_count (each_below lanes lane) ≡ lanes * (2 * size) = count_within lane (2 * size) (λ w. lane_length seed size (w * size)) 0 lanes in
    let double : 2 * size ≤ 2000 = omega arith in
    let all : lanes * (2 * size) ≤ 16 * 2000 = mul-le lanes (2 * size) 16 2000 few double in
    record {
      some = omega (arith, count);
      few = omega (arith, count);
      count = omega (arith, commands, all);
      commands = all_each (λ (l : List Act). AllByRecursion IsCommand l) lane
          (λ w. all_behind (each_below size (λ i. made_insert seed (w * size + i))) size (all_each IsCommand (λ i. made_insert seed (w * size + i)) (λ i. tt) 0 size)) 0 lanes;
    }

-- the insert of an entry with the drawn key
pub insert_is : (seed n : ℕ) (e : Entry) → e.key ≡ drawn (state_after seed n) key_limit → e.id ≡ n → Insert e ≡ made_insert seed n
insert_is seed n e key id = ap Insert (sym (entry_is (drawn (state_after seed n) key_limit) n e key id))

-- inserts, and then removals
pub lane_made : (seed size n index : ℕ) (inserts : List Act) (count : ℕ) → index ≡ size → count ≡ length inserts → inserts ≡ each_below index (λ i. made_insert seed (n + i))
    → take (2 * size) inserts ++ replicate (2 * size - count) Remove ≡ made_lane seed size n
lane_made seed size n index inserts count all counted made =
    let whole : inserts ≡ each_below size (λ i. made_insert seed (n + i)) = made ∙ ap (λ k. each_below k (λ i. made_insert seed (n + i))) all in
    let long : length inserts ≡ size = ap length whole ∙ length-map-range_with_len (λ i. made_insert seed (n + i)) 0 size in
    let removals : 2 * size - count ≡ size = omega (arith, counted, long) in
    let taken : take (2 * size) inserts ≡ inserts = take_all (2 * size) inserts (omega (arith, long)) in
    rw (taken, removals, whole) refl
