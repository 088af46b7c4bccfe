-- The greatest value of items that fit is that of a choice, and no choice is worth more.
use Rattle.std.proofs.Common.{◌≡◌, ℕ, zero, suc, ◌+◌, ◌-◌, ◌<◌, ◌≤◌, true, false, List, [], ◌∷◌, ◌⊎◌, inl, inr, refl}
use Rattle.std.proofs.Common.{sym, ap, ◌∙◌, length, drop, leb, add-one, arith}
use Rattle.std.specs.Prelude.{max}
use Rattle.std.proofs.lemmas.Bool.{cases_lt}
use Rattle.std.proofs.lemmas.Bool.Decides.{leb_tells}
use Rattle.std.proofs.Math.Seq.{drop-cons}
use Rattle.std.proofs.Math.ListN.{drop_of_length-le}
use Rattle.inst_text.specs.declared.knapsack.Item.{Item}
use Rattle.inst_text.specs.Knapsack.{Instance, AreNumbers}
use Rattle.bb_knap.specs.Plans.{item_at, weight_of, value_of, IsFeasible}
use Rattle.bb_knap.specs.Branching.{best_value}

best-fits : (room : ℕ) (x : Item) (xs : List Item) → leb x.weight room ≡ true
    → best_value room (x ∷ xs) ≡ max (x.value + best_value (room - x.weight) xs) (best_value room xs)
unfolding best_value
best-fits room x xs h = rw h refl

best-heavy : (room : ℕ) (x : Item) (xs : List Item) → leb x.weight room ≡ false
    → best_value room (x ∷ xs) ≡ best_value room xs
unfolding best_value
best-heavy room x xs h = rw h refl

-- the items from one on
from_next : (items : List Item) (low : ℕ) → low < length items
    → drop low items ≡ item_at items low ∷ drop (low + 1) items
from_next items low inside = rw (add-one low) (drop-cons items low (record { weight = 0; value = 0 }) inside)

-- numbers from low on that fit into the room and are worth the most
record IsBestFrom (items : List Item) (low room : ℕ) : Type 0 where
  ks : List ℕ
  numbers : AreNumbers low (length items) ks
  fits : weight_of items ks ≤ room
  value : value_of items ks ≡ best_value room (drop low items)

AreNumbers-lower : (low high n : ℕ) (ks : List ℕ) → low ≤ high → AreNumbers high n ks → AreNumbers low n ks
AreNumbers-lower low high n [] le numbers = tt
AreNumbers-lower low high n (k ∷ ks) le numbers = (omega (arith, numbers.0), numbers.1, numbers.2)

best_left : (items : List Item) (low room : ℕ)
    → best_value room (drop low items) ≡ best_value room (drop (low + 1) items) → IsBestFrom items (low + 1) room
    → IsBestFrom items low room
best_left items low room e b = record {
  ks = b.ks;
  numbers = AreNumbers-lower low (low + 1) (length items) b.ks (omega arith) b.numbers;
  fits = b.fits;
  value = b.value ∙ sym e;
}

best_taken : (items : List Item) (low room : ℕ) → low < length items → (item_at items low).weight ≤ room
    → best_value room (drop low items) ≡ (item_at items low).value + best_value (room - (item_at items low).weight)
    (drop (low + 1) items) → IsBestFrom items (low + 1) (room - (item_at items low).weight) → IsBestFrom items low room
best_taken items low room inside light e b = record {
  ks = low ∷ b.ks;
  numbers = (omega arith, inside, b.numbers);
  fits = omega (arith, b.fits, light);
  value = ap (λ v. (item_at items low).value + v) b.value ∙ sym e;
}

-- the greater of two
max_cases : (m n : ℕ) → (max m n ≡ m) ⊎ (max m n ≡ n)
max_cases m n = elim (cases_lt m n) [ inl lt ↦ inr (omega (arith, lt)) | inr le ↦ inl (omega (arith, le)) ]

best_from : (items : List Item) (more low room : ℕ) → low + more ≡ length items → IsBestFrom items low room
unfolding best_value
best_from items zero low room e =
    let none : drop low items ≡ [] = drop_of_length-le items (omega (arith, e)) in
    record { ks = []; numbers = tt; fits = omega arith; value = rw none refl }
best_from items (suc more) low room e =
    let inside : low < length items = omega (arith, e) in
    let next = from_next items low inside in
    elim (leb_tells (item_at items low).weight room) [
      | inl light ↦
          let is = ap (best_value room) next ∙ best-fits room (item_at items low) (drop (low + 1) items) (light.0) in
          elim (max_cases ((item_at items low).value + best_value (room - (item_at items low).weight)
          (drop (low + 1) items)) (best_value room (drop (low + 1) items))) [
            | inl take_it ↦ best_taken items low room inside (light.1) (is ∙ take_it)
                (best_from items more (low + 1) (room - (item_at items low).weight) (omega (arith, e)))
            | inr leave_it ↦
                best_left items low room (is ∙ leave_it) (best_from items more (low + 1) room (omega (arith, e)))
          ]
      | inr heavy ↦ best_left items low room (ap (best_value room) next
          ∙ best-heavy room (item_at items low) (drop (low + 1) items) (heavy.0))
          (best_from items more (low + 1) room (omega (arith, e)))
    ]

-- what is left of the choice behind one item
record IsNext (items : List Item) (low room : ℕ) (ks : List ℕ) : Type 0 where
  rest : List ℕ
  numbers : AreNumbers (low + 1) (length items) rest
  split : (ks ≡ rest) ⊎ (ks ≡ low ∷ rest)

next_of : (items : List Item) (low room : ℕ) (ks : List ℕ) → AreNumbers low (length items) ks → IsNext items low room ks
next_of items low room [] numbers = record { rest = []; numbers = tt; split = inl refl }
next_of items low room (k ∷ ks) numbers =
    elim (cases_lt low k) [
      | inl lt ↦ record { rest = k ∷ ks; numbers = (omega (arith, lt), numbers.1, numbers.2); split = inl refl }
      | inr le ↦
          let e : k ≡ low = omega (arith, le, numbers.0) in
          record { rest = ks; numbers = rw e at (numbers.2); split = inr (rw e refl) }
    ]

-- leaving the next item is no better than the best
leave_le : (items : List Item) (low room : ℕ) → low < length items
    → best_value room (drop (low + 1) items) ≤ best_value room (drop low items)
leave_le items low room inside =
    let next = from_next items low inside in
    elim (leb_tells (item_at items low).weight room) [
      | inl light ↦
          omega (arith, ap (best_value room) next ∙ best-fits room (item_at items low) (drop (low + 1) items) (light.0))
      | inr heavy ↦ omega (
        arith,
        ap (best_value room) next
            ∙ best-heavy room (item_at items low) (drop (low + 1) items) (heavy.0),
      )
    ]

take_le : (items : List Item) (low room : ℕ) → low < length items → (item_at items low).weight ≤ room
    → (item_at items low).value + best_value (room - (item_at items low).weight)
    (drop (low + 1) items) ≤ best_value room (drop low items)
take_le items low room inside light_enough =
    let next = from_next items low inside in
    elim (leb_tells (item_at items low).weight room) [
      | inl light ↦
          omega (arith, ap (best_value room) next ∙ best-fits room (item_at items low) (drop (low + 1) items) (light.0))
      | inr heavy ↦ absurd (omega (arith, heavy.1))
    ]

value-le-best : (items : List Item) (more low room : ℕ) (ks : List ℕ) → low + more ≡ length items
    → AreNumbers low (length items) ks → weight_of items ks ≤ room
    → value_of items ks ≤ best_value room (drop low items)
value-le-best items zero low room [] e numbers fits = omega arith
value-le-best items zero low room (k ∷ ks) e numbers fits = absurd (omega (arith, e, numbers.0, numbers.1))
value-le-best items (suc more) low room ks e numbers fits =
    let inside : low < length items = omega (arith, e) in
    let next = next_of items low room ks numbers in
    elim next.split [
      | inl same ↦
          let f : weight_of items next.rest ≤ room = rw same at fits in
          rw same (omega (
            arith,
            leave_le items low room inside,
            value-le-best items more (low + 1) room next.rest
                (omega (arith, e)) next.numbers f,
          ))
      | inr taken ↦
          let f : (item_at items low).weight + weight_of items next.rest ≤ room = rw taken at fits in
          rw taken (omega (
            arith,
            take_le items low room inside (omega (arith, f)),
            value-le-best items more (low + 1)
                (room - (item_at items low).weight) next.rest (omega (arith, e)) next.numbers (omega (arith, f)),
          ))
    ]

-- a feasible choice that is worth the greatest value
pub record IsAttained (i : Instance) : Type 0 where
  pub choice : List ℕ
  pub feasible : IsFeasible i choice
  pub value : value_of i.items choice ≡ best_value i.capacity i.items

pub best_is_attained : (i : Instance) → IsAttained i
best_is_attained i =
    let b = best_from i.items (length i.items) 0 i.capacity (omega arith) in
    record { choice = b.ks; feasible = record { chosen = b.numbers; fits = b.fits }; value = b.value }

pub best_is_greatest : (i : Instance) (choice : List ℕ) → IsFeasible i choice
    → value_of i.items choice ≤ best_value i.capacity i.items
best_is_greatest i choice feasible =
    value-le-best i.items (length i.items) 0 i.capacity choice (omega arith) feasible.chosen feasible.fits
