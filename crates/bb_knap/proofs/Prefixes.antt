-- Sums over the first items of an order, and Dantzig's bound by them.
use Rattle.std.proofs.Common.{◌≡◌, ℕ, zero, suc, ◌+◌, ◌-◌, ◌*◌, ◌/◌, ◌<◌, ◌≤◌, List, [], ◌∷◌, ◌++◌, inl, inr, refl, sym, ap, ◌∙◌, subst, length, drop, take, get_or, add-one, arith}
use Rattle.std.specs.List.{AllByRecursion}
use Rattle.std.specs.List.Sorted.{IsNonDecreasing}
use Rattle.std.proofs.lemmas.List.Sorted.{IsNonDecreasingBy-from_default}
use Rattle.std.proofs.lemmas.Bool.{cases_lt}
use Rattle.std.proofs.lemmas.Bool.Decides.{leb_tells}
use Rattle.std.proofs.lemmas.List.{take_more, take-append-drop, drop-drop, append-nil, at_drop_more, get_or_append_left, get_or_push, length_push}
use Rattle.std.proofs.Math.Seq.{drop-cons, take-add}
use Rattle.std.proofs.Math.Nat.{div-le_of_le-mul, mul-le-mul_right}
use Rattle.std.proofs.Math.ListN.{drop_of_length-le}
use Rattle.inst_text.specs.declared.knapsack.Item.{Item}
use Rattle.inst_text.specs.Limits.{max_items, max_weight, max_total}
use Rattle.inst_text.specs.Knapsack.{Instance, IsInstance, AreNumbers, total_value}
use Rattle.bb_knap.specs.Plans.{item_at, weight_of, value_of}
use Rattle.bb_knap.specs.Order.{order_of}
use Rattle.bb_knap.specs.Branching.{dantzig}
use Rattle.bb_knap.specs.Sums.{AreSums, weight_sum_limit}
use Rattle.bb_knap.specs.TreeLawsHold.InOrder.{weight_of-append, value_of-append, value_of-total, sum_below, total-order_below, length-order_below}
use Rattle.bb_knap.proofs.Totals.{total_value-drop}

-- the first numbers, one more
pub weight_of-take_more : (items : List Item) (ks : List ℕ) (i : ℕ) → i < length ks → weight_of items (take (i + 1) ks) ≡ weight_of items (take i ks) + (item_at items (get_or ks i 0)).weight
weight_of-take_more items ks i inside =
    omega (arith, ap (weight_of items) (take_more ks i 0 inside), weight_of-append items (take i ks) (get_or ks i 0 ∷ []))

pub value_of-take_more : (items : List Item) (ks : List ℕ) (i : ℕ) → i < length ks → value_of items (take (i + 1) ks) ≡ value_of items (take i ks) + (item_at items (get_or ks i 0)).value
value_of-take_more items ks i inside =
    omega (arith, ap (value_of items) (take_more ks i 0 inside), value_of-append items (take i ks) (get_or ks i 0 ∷ []))

-- the first numbers measure at most what all do
pub weight_of-take-le : (items : List Item) (ks : List ℕ) (i : ℕ) → weight_of items (take i ks) ≤ weight_of items ks
weight_of-take-le items [] zero = omega arith
weight_of-take-le items [] (suc i) = omega arith
weight_of-take-le items (k ∷ ks) zero = omega arith
weight_of-take-le items (k ∷ ks) (suc i) = omega (arith, weight_of-take-le items ks i)

pub value_of-take-le : (items : List Item) (ks : List ℕ) (i : ℕ) → value_of items (take i ks) ≤ value_of items ks
value_of-take-le items [] zero = omega arith
value_of-take-le items [] (suc i) = omega arith
value_of-take-le items (k ∷ ks) zero = omega arith
value_of-take-le items (k ∷ ks) (suc i) = omega (arith, value_of-take-le items ks i)

-- each item is light
item_weight-le : (items : List Item) (k : ℕ) → AllByRecursion (λ (j : Item). j.weight ≤ max_weight) items → (item_at items k).weight ≤ max_weight
item_weight-le [] zero light = omega arith
item_weight-le [] (suc k) light = omega arith
item_weight-le (i ∷ is) zero light = light.0
item_weight-le (i ∷ is) (suc k) light = item_weight-le is k (light.1)

weight_of-le : (items : List Item) (ks : List ℕ) → AllByRecursion (λ (j : Item). j.weight ≤ max_weight) items → weight_of items ks ≤ max_weight * length ks
weight_of-le items [] light = omega arith
weight_of-le items (k ∷ ks) light = omega (arith, item_weight-le items k light, weight_of-le items ks light)

length-numbers : (low n : ℕ) (ks : List ℕ) → AreNumbers low n ks → length ks ≤ n - low
length-numbers low n [] numbers = omega arith
length-numbers low n (k ∷ ks) numbers = omega (arith, numbers.0, numbers.1, length-numbers (k + 1) n ks numbers.2)

-- a choice weighs little
pub weight_of-numbers-le : (items : List Item) (ks : List ℕ) → AreNumbers 0 max_items ks → AllByRecursion (λ (j : Item). j.weight ≤ max_weight) items → weight_of items ks ≤ weight_sum_limit
weight_of-numbers-le items ks numbers light = omega (arith, weight_of-le items ks light, length-numbers 0 max_items ks numbers)

-- the weight of the numbers from one place on: that of the number there, and of those behind it
pub weight_of-drop : (items : List Item) (ks : List ℕ) (i : ℕ) → i < length ks → weight_of items (drop i ks) ≡ (item_at items (get_or ks i 0)).weight + weight_of items (drop (i + 1) ks)
weight_of-drop items ks i inside = at_drop_more (weight_of items) ks i 0 inside

-- all items weigh little
pub weight_of-order-le : (i : Instance) → IsInstance i → weight_of i.items (order_of i.items) ≤ weight_sum_limit
weight_of-order-le i limits =
    omega (arith, weight_of-le i.items (order_of i.items) limits.weights, length-order_below i.items (length i.items), limits.count)

sum_below-drop : (items : List Item) (n : ℕ) → sum_below (λ k. (item_at items k).value) n + total_value (drop n items) ≡ total_value items
sum_below-drop items zero = omega arith
sum_below-drop items (suc n) =
    let next = rw (add-one n) at (total_value-drop items n) in
    omega (arith, sum_below-drop items n, next)

-- the order has all values
pub value_of-order : (items : List Item) → value_of items (order_of items) ≡ total_value items
value_of-order items =
    let none : drop (length items) items ≡ [] = drop_of_length-le items (omega arith) in
    value_of-total items (order_of items) ∙ total-order_below (λ k. (item_at items k).value) items (length items)
    ∙ omega (arith, sum_below-drop items (length items), ap total_value none)

pub value_of-order-le : (i : Instance) (k : ℕ) → IsInstance i → value_of i.items (take k (order_of i.items)) ≤ max_total
value_of-order-le i k limits = omega (arith, value_of-take-le i.items (order_of i.items) k, value_of-order i.items, limits.values)

-- where all items fit
pub dantzig-all : (items : List Item) (room : ℕ) (ks : List ℕ) → weight_of items ks ≤ room → dantzig items room ks ≡ value_of items ks
unfolding dantzig
dantzig-all items room [] fits = refl
dantzig-all items room (k ∷ ks) fits =
    elim (leb_tells (item_at items k).weight room) [
      | inl light ↦ rw (light.0) (ap (λ v. (item_at items k).value + v) (dantzig-all items (room - (item_at items k).weight) ks (omega (arith, fits))))
      | inr heavy ↦ absurd (omega (arith, heavy.1, fits))
    ]

less_nothing : (n : ℕ) → n ≡ n - 0
less_nothing n = omega arith

nothing_more : (n : ℕ) → n ≡ 0 + n
nothing_more n = omega arith

-- where k is the first that does not fit
pub dantzig-break : (items : List Item) (room : ℕ) (xs : List ℕ) (k : ℕ) (ys : List ℕ) → weight_of items xs ≤ room → room < weight_of items xs + (item_at items k).weight
    → dantzig items room (xs ++ k ∷ ys) ≡ value_of items xs + (room - weight_of items xs) * (item_at items k).value / (item_at items k).weight
unfolding dantzig
dantzig-break items room [] k ys fits breaks =
    elim (leb_tells (item_at items k).weight room) [
      | inl light ↦ absurd (omega (arith, light.1, breaks))
      | inr heavy ↦ rw (heavy.0) (ap (λ r. r * (item_at items k).value / (item_at items k).weight) (less_nothing room) ∙ nothing_more ((room - 0) * (item_at items k).value / (item_at items k).weight))
    ]
dantzig-break items room (x ∷ xs) k ys fits breaks =
    elim (leb_tells (item_at items x).weight room) [
      | inl light ↦
          let e : room - (item_at items x).weight - weight_of items xs ≡ room - ((item_at items x).weight + weight_of items xs) = omega arith in
          let next = dantzig-break items (room - (item_at items x).weight) xs k ys (omega (arith, fits)) (omega (arith, breaks, light.1, fits)) in
          rw (light.0) (omega (arith, next, ap (λ r. r * (item_at items k).value / (item_at items k).weight) e))
      | inr heavy ↦ absurd (omega (arith, heavy.1, fits))
    ]

-- a list from one place on, up to another and from there on
pub drop-mid : (ks : List ℕ) (from more : ℕ) → drop from ks ≡ take more (drop from ks) ++ drop (from + more) ks
drop-mid ks from more = sym (take-append-drop more (drop from ks)) ∙ ap (λ xs. take more (drop from ks) ++ xs) (drop-drop more from ks)

-- the number at a place, and those behind it
pub at_place : (ks : List ℕ) (place : ℕ) → place < length ks → drop place ks ≡ get_or ks place 0 ∷ drop (place + 1) ks
at_place ks place inside = rw (add-one place) (drop-cons ks place 0 inside)

-- the weight and the value between two places
pub weight-mid : (items : List Item) (ks : List ℕ) (from more : ℕ) → weight_of items (take (from + more) ks) ≡ weight_of items (take from ks) + weight_of items (take more (drop from ks))
weight-mid items ks from more = ap (weight_of items) (take-add from more ks) ∙ weight_of-append items (take from ks) (take more (drop from ks))

pub value-mid : (items : List Item) (ks : List ℕ) (from more : ℕ) → value_of items (take (from + more) ks) ≡ value_of items (take from ks) + value_of items (take more (drop from ks))
value-mid items ks from more = ap (value_of items) (take-add from more ks) ∙ value_of-append items (take from ks) (take more (drop from ks))

-- Dantzig's bound from one place on where the numbers up to another fit, and the one there does not
pub dantzig-from_break : (items : List Item) (room : ℕ) (ks : List ℕ) (from more : ℕ) → from + more < length ks
    → weight_of items (take (from + more) ks) ≤ weight_of items (take from ks) + room
    → weight_of items (take from ks) + room < weight_of items (take (from + more + 1) ks)
    → dantzig items room (drop from ks) ≡ value_of items (take (from + more) ks) - value_of items (take from ks)
    + (weight_of items (take from ks) + room - weight_of items (take (from + more) ks)) * (item_at items (get_or ks (from + more) 0)).value / (item_at items (get_or ks (from + more) 0)).weight
dantzig-from_break items room ks from more inside fits breaks =
    let mid = take more (drop from ks) in
    let k = get_or ks (from + more) 0 in
    let weight = weight-mid items ks from more in
    let value = value-mid items ks from more in
    let more_weight = weight_of-take_more items ks (from + more) inside in
    let split : drop from ks ≡ mid ++ k ∷ drop (from + more + 1) ks = drop-mid ks from more ∙ ap (λ xs. mid ++ xs) (at_place ks (from + more) inside) in
    let e : weight_of items (take from ks) + room - weight_of items (take (from + more) ks) ≡ room - weight_of items mid = omega (arith, weight) in
    let law = dantzig-break items room mid k (drop (from + more + 1) ks) (omega (arith, weight, fits)) (omega (arith, weight, breaks, more_weight)) in
    let at : dantzig items room (drop from ks) ≡ dantzig items room (mid ++ k ∷ drop (from + more + 1) ks) = ap (dantzig items room) split in
    omega (arith, at, law, value, ap (λ r. r * (item_at items k).value / (item_at items k).weight) e)

-- the same where all from that place on fit
pub dantzig-from_all : (items : List Item) (room : ℕ) (ks : List ℕ) (from more : ℕ) → from + more ≡ length ks
    → weight_of items (take (from + more) ks) ≤ weight_of items (take from ks) + room
    → dantzig items room (drop from ks) ≡ value_of items (take (from + more) ks) - value_of items (take from ks)
dantzig-from_all items room ks from more end fits =
    let mid = take more (drop from ks) in
    let weight = weight-mid items ks from more in
    let value = value-mid items ks from more in
    let split : drop from ks ≡ mid ++ [] = drop-mid ks from more ∙ ap (λ xs. mid ++ xs) (drop_of_length-le ks (omega (arith, end))) in
    let whole : drop from ks ≡ mid = split ∙ append-nil mid in
    ap (dantzig items room) whole ∙ dantzig-all items room mid (omega (arith, weight, fits)) ∙ omega (arith, value)

le_of : (left w : ℕ) → left < w → left ≤ w
le_of left w lt = omega (arith, lt)

-- what the part of an item that fills the room is at most
pub part-le : (left v w : ℕ) → left < w → left * v / w ≤ v
part-le left v w lt =
    div-le_of_le-mul w (omega (arith, mul-le-mul_right v (le_of left w lt)))

-- more items are worth no less
pub value_of-take-mono : (items : List Item) (ks : List ℕ) (from place : ℕ) → from ≤ place → value_of items (take from ks) ≤ value_of items (take place ks)
value_of-take-mono items ks from place le =
    let e : from + (place - from) ≡ place = omega (arith, le) in
    let P : ℕ → Type 0 = λ p. value_of items (take p ks) ≡ value_of items (take from ks) + value_of items (take (place - from) (drop from ks)) in
    omega (arith, subst P e (value-mid items ks from (place - from)))

pub weight_of-take-mono : (items : List Item) (ks : List ℕ) (from place : ℕ) → from ≤ place → weight_of items (take from ks) ≤ weight_of items (take place ks)
weight_of-take-mono items ks from place le =
    let e : from + (place - from) ≡ place = omega (arith, le) in
    let P : ℕ → Type 0 = λ p. weight_of items (take p ks) ≡ weight_of items (take from ks) + weight_of items (take (place - from) (drop from ks)) in
    omega (arith, subst P e (weight-mid items ks from (place - from)))

-- the sums of weights do not fall
pub weight_sums-rise : (items : List Item) (ks sums : List ℕ) → AreSums (weight_of items) ks sums → IsNonDecreasing sums
weight_sums-rise items ks sums s =
    IsNonDecreasingBy-from_default (λ x. x) sums 0 (λ j k le inside.
    let k_in : k ≤ length ks = omega (arith, inside, s.count) in
    omega (arith, s.each j (omega (arith, le, k_in)), s.each k k_in, weight_of-take-mono items ks j k le))

-- Dantzig's bound where all items from one place on fit
pub dantzig-at_end : (items : List Item) (room : ℕ) (ks : List ℕ) (from place : ℕ) → from ≤ place → place ≡ length ks → weight_of items (take place ks) ≤ weight_of items (take from ks) + room
    → dantzig items room (drop from ks) ≡ value_of items (take place ks) - value_of items (take from ks)
dantzig-at_end items room ks from place le =
    let e : from + (place - from) ≡ place = omega (arith, le) in
    let P : ℕ → Type 0 = λ p. p ≡ length ks → weight_of items (take p ks) ≤ weight_of items (take from ks) + room
    → dantzig items room (drop from ks) ≡ value_of items (take p ks) - value_of items (take from ks) in
    subst P e (dantzig-from_all items room ks from (place - from))

-- and where the item at a place is the first that does not
pub dantzig-at_break : (items : List Item) (room : ℕ) (ks : List ℕ) (from place : ℕ) → from ≤ place → place < length ks → weight_of items (take place ks) ≤ weight_of items (take from ks) + room
    → weight_of items (take from ks) + room < weight_of items (take (place + 1) ks)
    → dantzig items room (drop from ks) ≡ value_of items (take place ks) - value_of items (take from ks)
    + (weight_of items (take from ks) + room - weight_of items (take place ks)) * (item_at items (get_or ks place 0)).value / (item_at items (get_or ks place 0)).weight
dantzig-at_break items room ks from place le =
    let e : from + (place - from) ≡ place = omega (arith, le) in
    let P : ℕ → Type 0 = λ p. p < length ks → weight_of items (take p ks) ≤ weight_of items (take from ks) + room
    → weight_of items (take from ks) + room < weight_of items (take (p + 1) ks)
    → dantzig items room (drop from ks) ≡ value_of items (take p ks) - value_of items (take from ks)
    + (weight_of items (take from ks) + room - weight_of items (take p ks)) * (item_at items (get_or ks p 0)).value / (item_at items (get_or ks p 0)).weight in
    subst P e (dantzig-from_break items room ks from (place - from))

-- the sums over the first i of these numbers, and the last of them
pub record AreSumsTo (measure : List ℕ → ℕ) (ks : List ℕ) (i sum : ℕ) (sums : List ℕ) : Type 0 where
  pub last : sum ≡ measure (take i ks)
  pub count : length sums ≡ i + 1
  pub each : (k : ℕ) → k ≤ i → get_or sums k 0 ≡ measure (take k ks)

-- of no numbers
pub sums-none : (measure : List ℕ → ℕ) (ks sums : List ℕ) → sums ≡ 0 ∷ [] → measure [] ≡ 0 → AreSumsTo measure ks 0 0 sums
sums-none measure ks sums is none = record {
  last = sym none;
  count = ap length is;
  each = λ k le. let e : k ≡ 0 = omega (arith, le) in rw (e, is) (sym none);
}

-- one sum more
pub sums-more : (measure : List ℕ → ℕ) (ks : List ℕ) (i sum next : ℕ) (sums new : List ℕ) → AreSumsTo measure ks i sum sums
    → next ≡ measure (take (i + 1) ks) → new ≡ sums ++ next ∷ [] → AreSumsTo measure ks (i + 1) next new
sums-more measure ks i sum next sums new s last is = record {
  last = last;
  count = omega (arith, ap length is, length_push sums next, s.count);
  each = λ k le. rw is
      (elim (cases_lt k (i + 1)) [
        | inl lt ↦ get_or_append_left sums (next ∷ []) 0 k (omega (arith, s.count, lt)) ∙ s.each k (omega (arith, lt))
        | inr ge ↦
            let e : k ≡ i + 1 = omega (arith, le, ge) in
            get_or_push sums next 0 k (omega (arith, s.count, e)) ∙ last ∙ ap (λ n. measure (take n ks)) (sym e)
      ]);
}

-- the sums over all numbers
pub sums-all : (measure : List ℕ → ℕ) (ks : List ℕ) (i sum : ℕ) (sums : List ℕ) → AreSumsTo measure ks i sum sums → i ≡ length ks → AreSums measure ks sums
sums-all measure ks i sum sums s end = record {
  count = omega (arith, s.count, end);
  each = λ k le. s.each k (omega (arith, le, end));
}

-- what the sums say where an item does not fit
pub record IsBreak (items : List Item) (room : ℕ) (ks weights values : List ℕ) (from place : ℕ) : Type 0 where
  pub inside : place < length ks
  pub from_weight : get_or weights from 0 ≡ weight_of items (take from ks)
  pub place_weight : get_or weights place 0 ≡ weight_of items (take place ks)
  pub from_value : get_or values from 0 ≡ value_of items (take from ks)
  pub place_value : get_or values place 0 ≡ value_of items (take place ks)
  pub rises : value_of items (take from ks) ≤ value_of items (take place ks)
  pub next_weight : weight_of items (take (place + 1) ks) ≡ weight_of items (take place ks) + (item_at items (get_or ks place 0)).weight
  pub next_value : value_of items (take place ks) + (item_at items (get_or ks place 0)).value ≤ value_of items ks
  pub fits : weight_of items (take place ks) ≤ weight_of items (take from ks) + room
  pub breaks : weight_of items (take from ks) + room < weight_of items (take (place + 1) ks)

pub is_break : (items : List Item) (room : ℕ) (ks weights values : List ℕ) (from place : ℕ) → AreSums (weight_of items) ks weights → AreSums (value_of items) ks values
    → from ≤ place → place < length ks → get_or weights place 0 ≤ get_or weights from 0 + room
    → (place + 1 < length weights → get_or weights from 0 + room < get_or weights (place + 1) 0) → IsBreak items room ks weights values from place
is_break items room ks weights values from place w v le inside fits breaks =
    let from_weight = w.each from (omega (arith, le, inside)) in
    let place_weight = w.each place (omega (arith, inside)) in
    let next = w.each (place + 1) (omega (arith, inside)) in
    let heavy = breaks (omega (arith, w.count, inside)) in
    record {
      inside = inside;
      from_weight = from_weight;
      place_weight = place_weight;
      from_value = v.each from (omega (arith, le, inside));
      place_value = v.each place (omega (arith, inside));
      rises = value_of-take-mono items ks from place le;
      next_weight = weight_of-take_more items ks place inside;
      next_value = omega (arith, value_of-take_more items ks place inside, value_of-take-le items ks (place + 1));
      fits = omega (arith, from_weight, place_weight, fits);
      breaks = omega (arith, from_weight, next, heavy);
    }
