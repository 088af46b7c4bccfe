-- That items stand in order by their values for their weight.
use Rattle.std.proofs.Common.{◌≡◌, ℕ, zero, suc, ◌*◌, ◌<◌, ◌≤◌, Bool, true, false, cond, ◌⊎◌, inl, inr, refl, arith}
use Rattle.std.proofs.lemmas.Bool.{cases_lt, cases_Bool, ltb-true, ltb-false}
use Rattle.std.proofs.lemmas.Bool.Decides.{nat_tests}
use Rattle.std.proofs.lemmas.Nat.{le-div}
use Rattle.std.proofs.Math.Nat.{mul-le-mul_right, mul-div_cancel}
use Rattle.std.specs.Cmp.{IsStrictWeakOrder}
use Rattle.std.specs.Prelude.{List, nat_lt, nat_eq, ◌&&◌, ◌||◌, not}
use Rattle.inst_text.specs.declared.knapsack.Item.{Item}
use Rattle.bb_knap.specs.Plans.{item_at}
use Rattle.bb_knap.specs.Order.{is_denser, goes_before}

-- a value over a weight, of which that of no weight is above all others
abbrev pub score : Item → ℕ
score a = cond (nat_eq a.weight 0) 1 a.value

cancel : (m n k : ℕ) → 0 < k → m * k ≤ n * k → m ≤ n
cancel m n k pos h = rw (mul-div_cancel n pos) at (le-div m (n * k) k pos h)

no_weight : (s w : ℕ) → 0 < s → s * w ≤ 0 → w ≡ 0
no_weight (suc s) zero pos h = refl
no_weight (suc s) (suc w) pos h = absurd (omega arith)
no_weight zero w pos h = absurd (omega arith)

-- a over its weight is at most b, and b at most c
cross : (sa wa sb wb sc wc : ℕ) → (wb ≡ 0 → 0 < sb) → sa * wb ≤ sb * wa → sb * wc ≤ sc * wb → sa * wc ≤ sc * wa
cross sa wa sb zero sc wc some ab bc =
    let none : wc ≡ 0 = no_weight sb wc (some refl) (omega arith) in rw none (omega arith)
cross sa wa sb (suc w) sc wc some ab bc =
    cancel (sa * wc) (sc * wa) (suc w) (omega arith) (omega (arith, mul-le-mul_right wc ab, mul-le-mul_right wa bc))

denser-true_at : (va wa vb wb : ℕ) → cond (nat_eq wa 0) (nat_lt 0 wb) (nat_lt (vb * wa) (va * wb)) ≡ true
    → cond (nat_eq wb 0) 1 vb * wa < cond (nat_eq wa 0) 1 va * wb
denser-true_at va zero vb zero h = absurd (cc)
denser-true_at va zero vb (suc w) h = omega arith
denser-true_at va (suc w) vb zero h =
    let lt : vb * suc w < va * zero = grind (arith, nat_tests) in absurd (omega (arith, lt))
denser-true_at va (suc w) vb (suc u) h = grind (arith, nat_tests)

denser-false_at : (va wa vb wb : ℕ) → cond (nat_eq wa 0) (nat_lt 0 wb) (nat_lt (vb * wa) (va * wb)) ≡ false
    → cond (nat_eq wa 0) 1 va * wb ≤ cond (nat_eq wb 0) 1 vb * wa
denser-false_at va zero vb zero h = omega arith
denser-false_at va zero vb (suc w) h = absurd (omega (arith, ltb-false 0 (suc w) h))
denser-false_at va (suc w) vb zero h = omega arith
denser-false_at va (suc w) vb (suc u) h = grind (arith, nat_tests)

denser-true : (a b : Item) → is_denser a b ≡ true → score b * a.weight < score a * b.weight
unfolding is_denser
denser-true a b h = denser-true_at a.value a.weight b.value b.weight h

denser-false : (a b : Item) → is_denser a b ≡ false → score a * b.weight ≤ score b * a.weight
unfolding is_denser
denser-false a b h = denser-false_at a.value a.weight b.value b.weight h

ratio_at : (va wa vb wb : ℕ) → cond (nat_eq wa 0) (nat_lt 0 wb) (nat_lt (vb * wa) (va * wb)) ≡ false → va * wb ≤ vb * wa
ratio_at va zero vb zero h = omega arith
ratio_at va zero vb (suc w) h = absurd (omega (arith, ltb-false 0 (suc w) h))
ratio_at va (suc w) vb wb h = grind (arith, nat_tests)

-- an item that is not worth more for its weight, by products
ratio : (a b : Item) → is_denser a b ≡ false → a.value * b.weight ≤ b.value * a.weight
unfolding is_denser
ratio a b h = ratio_at a.value a.weight b.value b.weight h

score_pos_at : (v w : ℕ) → w ≡ 0 → 0 < cond (nat_eq w 0) 1 v
score_pos_at v zero e = omega arith
score_pos_at v (suc w) e = absurd (omega arith)

score_pos : (a : Item) → a.weight ≡ 0 → 0 < score a
score_pos a e = score_pos_at a.value a.weight e

or_true : (d e l : Bool) → (d || (not e && l)) ≡ true → (d ≡ true) ⊎ ((e ≡ false) × (l ≡ true))
or_true true e l h = inl refl
or_true false true l h = absurd (cc)
or_true false false l h = inr (refl, h)

or_false : (d e l : Bool) → (d || (not e && l)) ≡ false → (d ≡ false) × ((e ≡ true) ⊎ (l ≡ false))
or_false true e l h = absurd (cc)
or_false false true l h = (refl, inl refl)
or_false false false l h = (refl, inr h)

-- the first item's value for its weight is at most the second's, and their numbers tell apart equal ones
record IsAtMost (items : List Item) (j k : ℕ) : Type 0 where
  ratio : score (item_at items j) * (item_at items k).weight ≤ score (item_at items k) * (item_at items j).weight
  number : (score (item_at items j) * (item_at items k).weight < score (item_at items k) * (item_at items j).weight)
      ⊎ (k ≤ j)

before-true : (items : List Item) (j k : ℕ) → goes_before items j k ≡ true
    → (score (item_at items k) * (item_at items j).weight ≤ score (item_at items j) * (item_at items k).weight)
    × ((score (item_at items k) * (item_at items j).weight < score (item_at items j) * (item_at items k).weight)
    ⊎ (j < k))
unfolding goes_before
before-true items j k h =
    let a = item_at items j in
    let b = item_at items k in
    elim (or_true (is_denser a b) (is_denser b a) (nat_lt j k) h) [
      | inl denser ↦ let lt = denser-true a b denser in (omega (arith, lt), inl lt)
      | inr other ↦ (denser-false b a (other.0), inr (ltb-true j k (other.1)))
    ]

before-false : (items : List Item) (j k : ℕ) → goes_before items j k ≡ false → IsAtMost items j k
unfolding goes_before
before-false items j k h =
    let a = item_at items j in
    let b = item_at items k in
    let parts = or_false (is_denser a b) (is_denser b a) (nat_lt j k) h in
    record {
      ratio = denser-false a b (parts.0);
      number = elim (parts.1) [
        | inl denser ↦ inl (denser-true b a denser)
        | inr not_less ↦ inr (ltb-false j k not_less)
      ];
    }

IsAtMost-trans : (items : List Item) (i j k : ℕ) → IsAtMost items i j → IsAtMost items j k → IsAtMost items i k
IsAtMost-trans items i j k first second =
    let a = item_at items i in
    let b = item_at items j in
    let c = item_at items k in
    let whole : score a * c.weight ≤ score c * a.weight =
    cross (score a) a.weight (score b) b.weight (score c) c.weight (score_pos b) first.ratio second.ratio in
    record {
      ratio = whole;
      number = elim (cases_lt (score a * c.weight) (score c * a.weight)) [
        | inl lt ↦ inl lt
        | inr le ↦
            let ba : score b * a.weight ≤ score a * b.weight =
            cross (score b) b.weight (score c) c.weight (score a) a.weight (score_pos c) second.ratio le in
            let cb : score c * b.weight ≤ score b * c.weight =
            cross (score c) c.weight (score a) a.weight (score b) b.weight (score_pos a) le first.ratio in
            inr (elim first.number [
              | inl lt ↦ absurd (omega (arith, lt, ba))
              | inr le1 ↦ elim second.number [
                | inl lt ↦ absurd (omega (arith, lt, cb))
                | inr le2 ↦ omega (arith, le1, le2)
              ]
            ])
      ];
    }

-- a number that is at most another does not stand before it
at_most-before : (items : List Item) (j k : ℕ) → IsAtMost items j k → goes_before items j k ≡ true → ⊥
at_most-before items j k at_most before =
    let b = before-true items j k before in
    elim (b.1) [
      | inl lt ↦ omega (arith, lt, at_most.ratio)
      | inr less ↦ elim at_most.number [
        | inl lt ↦ omega (arith, lt, b.0)
        | inr le ↦ omega (arith, less, le)
      ]
    ]

-- the order of numbers is a strict order
pub is_order : (items : List Item) → IsStrictWeakOrder (goes_before items)
is_order items = record {
  one_way = λ j k h.
      elim (cases_Bool (goes_before items k j)) [
        | inl stands ↦
            let one = before-true items j k h in
            let other = before-true items k j stands in
            absurd (elim (one.1) [
              | inl lt ↦ omega (arith, lt, other.0)
              | inr less ↦ elim (other.1) [ inl lt ↦ omega (arith, lt, one.0) | inr more ↦ omega (arith, less, more) ]
            ])
        | inr fails ↦ fails
      ];
  chain = λ i j k ij jk.
      elim (cases_Bool (goes_before items i k)) [
        | inl stands ↦ absurd (at_most-before items i k
            (IsAtMost-trans items i j k (before-false items i j ij) (before-false items j k jk)) stands)
        | inr fails ↦ fails
      ];
}

-- numbers of which neither stands before the other are one
pub same_place : (items : List Item) (j k : ℕ) → goes_before items j k ≡ false → goes_before items k j ≡ false → j ≡ k
same_place items j k one other =
    let a = before-false items j k one in
    let b = before-false items k j other in
    elim a.number [
      | inl lt ↦ absurd (omega (arith, lt, b.ratio))
      | inr le ↦ elim b.number [
        | inl lt ↦ absurd (omega (arith, lt, a.ratio))
        | inr ge ↦ omega (arith, le, ge)
      ]
    ]

-- the values for their weight, by products, of items that do not stand before another
pub ratio_behind : (items : List Item) (j k : ℕ) → goes_before items j k ≡ false
    → (item_at items j).value * (item_at items k).weight ≤ (item_at items k).value * (item_at items j).weight
unfolding goes_before
ratio_behind items j k h =
    let a = item_at items j in
    let b = item_at items k in
    ratio a b ((or_false (is_denser a b) (is_denser b a) (nat_lt j k) h).0)
