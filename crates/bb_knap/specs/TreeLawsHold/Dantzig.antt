-- Dantzig's law: no items of a list in order that fit into a room are worth more than Dantzig's bound.
use Rattle.std.proofs.Common.{◌≡◌, ℕ, zero, suc, ◌+◌, ◌-◌, ◌*◌, ◌/◌, ◌<◌, ◌≤◌, true, false, List, [], ◌∷◌, ◌⊎◌, inl}
use Rattle.std.proofs.Common.{inr, refl, ◌∙◌, subst, leb, arith}
use Rattle.std.proofs.lemmas.Bool.{cases_lt}
use Rattle.std.proofs.lemmas.Bool.Decides.{leb_tells}
use Rattle.std.proofs.lemmas.Nat.{le-div}
use Rattle.std.proofs.Math.Nat.{mul-le-mul_left}
use Rattle.inst_text.specs.declared.knapsack.Item.{Item}
use Rattle.bb_knap.specs.Plans.{item_at, weight_of, value_of}
use Rattle.bb_knap.specs.Order.{goes_before}
use Rattle.bb_knap.specs.Branching.{taken, dantzig}
use Rattle.bb_knap.specs.TreeLawsHold.Denser.{ratio_behind}
use Rattle.bb_knap.specs.TreeLawsHold.Ordered.{NoneBefore, IsInOrder}

-- no decision takes nothing
pub taken-none : (ks : List ℕ) → taken ks [] ≡ []
unfolding taken
taken-none [] = refl
taken-none (k ∷ ks) = refl

-- items that do not stand before j are worth at most what their weight is worth at j's ratio
behind : (items : List Item) (j : ℕ) (ks ds : List ℕ) → NoneBefore (goes_before items) j ks
    → value_of items (taken ks ds) * (item_at items j).weight ≤ (item_at items j).value * weight_of items (taken ks ds)
unfolding taken
behind items j [] ds none = omega arith
behind items j (k ∷ ks) [] none = omega arith
behind items j (k ∷ ks) (zero ∷ ds) none = behind items j ks ds (none.1)
behind items j (k ∷ ks) (suc d ∷ ds) none =
    omega (arith, behind items j ks ds (none.1), ratio_behind items k j (none.0))

-- the same where the first is j itself
behind_first : (items : List Item) (j : ℕ) (ks ds : List ℕ) → NoneBefore (goes_before items) j ks
    → value_of items (taken (j ∷ ks) ds) * (item_at items j).weight ≤ (item_at items j).value * weight_of items
    (taken (j ∷ ks) ds)
unfolding taken
behind_first items j ks [] none = omega arith
behind_first items j ks (zero ∷ ds) none = behind items j ks ds none
behind_first items j ks (suc d ∷ ds) none = omega (arith, behind items j ks ds none)

-- The first item that does not fit, with the value of the whole ones before it and the room that they leave.
record Breaks (items : List Item) (room : ℕ) (ks : List ℕ) : Type 0 where
  item : ℕ
  whole : ℕ
  left : ℕ
  heavy : 0 < (item_at items item).weight
  bound : dantzig items room ks ≡ whole + left * (item_at items item).value / (item_at items item).weight
  later : (j : ℕ) → NoneBefore (goes_before items) j ks → goes_before items item j ≡ false
  at_most : (ds : List ℕ) → value_of items (taken ks ds) * (item_at items item).weight +
      (item_at items item).value * room
      ≤ whole * (item_at items item).weight + (item_at items item).value * (left + weight_of items (taken ks ds))

-- Dantzig's bound at its first item
dantzig-fits : (items : List Item) (room k : ℕ) (ks : List ℕ) → leb (item_at items k).weight room ≡ true
    → dantzig items room (k ∷ ks) ≡ (item_at items k).value + dantzig items (room - (item_at items k).weight) ks
unfolding dantzig
dantzig-fits items room k ks h = rw h refl

dantzig-breaks : (items : List Item) (room k : ℕ) (ks : List ℕ) → leb (item_at items k).weight room ≡ false
    → dantzig items room (k ∷ ks) ≡ room * (item_at items k).value / (item_at items k).weight
unfolding dantzig
dantzig-breaks items room k ks h = rw h refl

breaks_here : (items : List Item) (room k : ℕ) (ks : List ℕ) → NoneBefore (goes_before items) k ks
    → leb (item_at items k).weight room ≡ false → room < (item_at items k).weight → Breaks items room (k ∷ ks)
breaks_here items room k ks none h lt = record {
  item = k;
  whole = 0;
  left = room;
  heavy = omega (arith, lt);
  bound = dantzig-breaks items room k ks h ∙ omega arith;
  later = λ j n. n.0;
  at_most = λ ds. omega (arith, behind_first items k ks ds none);
}

-- what a whole item does to the comparison: the values and weights of what is taken (s, t), of the item that does
-- not fit (v, w), and of the whole item (x, y)
split_room : (room y z v : ℕ) → y ≤ room → z ≡ room - y → v * room ≡ v * z + v * y
split_room room y z v fits e = let whole : room ≡ z + y = omega (arith, e) in rw whole (omega arith)

left_more : (s t w v room y x whole left : ℕ) → y ≤ room → v * y ≤ x * w
    → s * w + v * (room - y) ≤ whole * w + v * (left + t) → s * w + v * room ≤ (x + whole) * w + v * (left + t)
left_more s t w v room y x whole left fits ratio h =
    omega (arith, h, ratio, split_room room y (room - y) v fits refl)

taken_more : (s t w v room y x whole left : ℕ) → y ≤ room → s * w + v * (room - y) ≤ whole * w + v * (left + t)
    → (x + s) * w + v * room ≤ (x + whole) * w + v * (left + (y + t))
taken_more s t w v room y x whole left fits h =
    omega (arith, h, split_room room y (room - y) v fits refl)

at_most_more : (items : List Item) (room k item whole left : ℕ) (ks : List ℕ) → (item_at items k).weight ≤ room
    → goes_before items item k ≡ false
    → ((ds : List ℕ) → value_of items (taken ks ds) * (item_at items item).weight + (item_at items item).value *
    (room - (item_at items k).weight)
    ≤ whole * (item_at items item).weight + (item_at items item).value * (left + weight_of items (taken ks ds)))
    → (ds : List ℕ) → value_of items (taken (k ∷ ks) ds) * (item_at items item).weight +
    (item_at items item).value * room
    ≤ ((item_at items k).value + whole) * (item_at items item).weight + (item_at items item).value *
    (left + weight_of items (taken (k ∷ ks) ds))
unfolding taken
at_most_more items room k item whole left ks fits later each [] =
    left_more 0 0 (item_at items item).weight (item_at items item).value room (item_at items k).weight
    (item_at items k).value whole left fits (ratio_behind items item k later) (rw (taken-none ks) at (each []))
at_most_more items room k item whole left ks fits later each (zero ∷ ds) =
    left_more (value_of items (taken ks ds)) (weight_of items (taken ks ds)) (item_at items item).weight
    (item_at items item).value room (item_at items k).weight (item_at items k).value whole left fits
    (ratio_behind items item k later) (each ds)
at_most_more items room k item whole left ks fits later each (suc d ∷ ds) =
    taken_more (value_of items (taken ks ds)) (weight_of items (taken ks ds)) (item_at items item).weight
    (item_at items item).value room (item_at items k).weight (item_at items k).value whole left fits (each ds)

breaks_later : (items : List Item) (room k : ℕ) (ks : List ℕ) → NoneBefore (goes_before items) k ks
    → leb (item_at items k).weight room ≡ true → (item_at items k).weight ≤ room
    → Breaks items (room - (item_at items k).weight) ks → Breaks items room (k ∷ ks)
breaks_later items room k ks none h le b = record {
  item = b.item;
  whole = (item_at items k).value + b.whole;
  left = b.left;
  heavy = b.heavy;
  bound = dantzig-fits items room k ks h ∙ omega (arith, b.bound);
  later = λ j n. b.later j (n.1);
  at_most = at_most_more items room k b.item b.whole b.left ks le (b.later k none) b.at_most;
}

-- all items fit, or one does not
dantzig-cases : (items : List Item) (room : ℕ) (ks : List ℕ) → IsInOrder (goes_before items) ks
    → (dantzig items room ks ≡ value_of items ks) ⊎ Breaks items room ks
unfolding dantzig
dantzig-cases items room [] in_order = inl refl
dantzig-cases items room (k ∷ ks) in_order =
    elim (leb_tells (item_at items k).weight room) [
      | inl fits ↦ elim (dantzig-cases items (room - (item_at items k).weight) ks (in_order.1)) [
        | inl all ↦ inl (dantzig-fits items room k ks (fits.0) ∙ omega (arith, all))
        | inr b ↦ inr (breaks_later items room k ks (in_order.0) (fits.0) (fits.1) b)
      ]
      | inr heavy ↦ inr (breaks_here items room k ks (in_order.0) (heavy.0) (heavy.1))
    ]

-- some items are worth at most all
pub value_of-taken-le : (items : List Item) (ks ds : List ℕ) → value_of items (taken ks ds) ≤ value_of items ks
unfolding taken
value_of-taken-le items [] ds = omega arith
value_of-taken-le items (k ∷ ks) [] = omega arith
value_of-taken-le items (k ∷ ks) (zero ∷ ds) = omega (arith, value_of-taken-le items ks ds)
value_of-taken-le items (k ∷ ks) (suc d ∷ ds) = omega (arith, value_of-taken-le items ks ds)

within : (s t room whole left v w : ℕ) → t ≤ room → s * w + v * room ≤ whole * w + v * (left + t)
    → s * w ≤ whole * w + v * left
within s t room whole left v w fits h = omega (arith, h, mul-le-mul_left v fits)

part_at : (more whole left v w : ℕ) → (whole + more) * w ≤ whole * w + v * left → more * w ≤ left * v
part_at more whole left v w h = omega (arith, h)

part_more : (value whole left v w : ℕ) → whole < value → value * w ≤ whole * w + v * left
    → (value - whole) * w ≤ left * v
part_more value whole left v w lt h =
    let e : value ≡ whole + (value - whole) = omega (arith, lt) in
    let P : ℕ → Type 0 = λ n. n * w ≤ whole * w + v * left in
    part_at (value - whole) whole left v w (subst P e h)

-- from products to the quotient
part : (value whole left v w : ℕ) → 0 < w → value * w ≤ whole * w + v * left → value ≤ whole + left * v / w
part value whole left v w pos h =
    elim (cases_lt whole value) [
      | inl lt ↦
          let more : (value - whole) * w ≤ left * v = part_more value whole left v w lt h in
          omega (arith, le-div (value - whole) (left * v) w pos more)
      | inr le ↦ omega (arith, le)
    ]

-- no items that fit are worth more than Dantzig's bound
pub dantzig_law : (items : List Item) (room : ℕ) (ks ds : List ℕ) → IsInOrder (goes_before items) ks
    → weight_of items (taken ks ds) ≤ room → value_of items (taken ks ds) ≤ dantzig items room ks
dantzig_law items room ks ds in_order fits =
    elim (dantzig-cases items room ks in_order) [
      | inl all ↦ omega (arith, all, value_of-taken-le items ks ds)
      | inr b ↦ rw b.bound (part (value_of items (taken ks ds)) b.whole b.left (item_at items b.item).value
          (item_at items b.item).weight b.heavy
          (within (value_of items (taken ks ds)) (weight_of items (taken ks ds)) room b.whole b.left
          (item_at items b.item).value (item_at items b.item).weight fits (b.at_most ds)))
    ]
