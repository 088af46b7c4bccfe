-- What the steps of a table keep of the numbers that its seats drew, and of the words that stand for numbers.
use Rattle.std.proofs.Common.{◌≡◌, ◌≢◌, ℕ, ◌+◌, ◌<◌, Bool, ltb, List, [], ◌∷◌, ◌++◌, length, get_or, set, sym, ap, ◌∙◌, subst, arith, get_or-set_same, get_or-set_other}
use Rattle.std.specs.Prelude.{sum_by}
use Rattle.std.proofs.lemmas.Bool.{le-ltb}
use Rattle.std.proofs.lemmas.List.Sums.{sum_by_push, sum_by-append}
use mathlib.Core.Option.{some}
use mathlib.Core.Logic.{dite}
use native.Mathlib.Decide.{ℕ_discrete, dec_lt}
use lib.ListN.{get_elem?}
use Rattle.pq_numbers.specs.declared.draws.Draw.{Draw}
use Rattle.pq_numbers.specs.Draws.{draw_of, times_drawn, drawn_in_all, AreTiled}
use Rattle.pq_numbers.specs.Tables.{Kind, AreDrawn, AreTold}
use Rattle.pq_numbers.proofs.Sums.{sum_set, sum_kept, one-le-sum, sum_alone, sum_split, sum_joined, each_set, each_split, each_joined, at_before, one_view}
use Rattle.pq_numbers.proofs.Counts.{one_if, times_drawn-push, times_drawn-append, in_next_draw}

module _ {V : Type 0} (k : Kind V) (seats : ℕ) where
  abbrev drawn_by : ℕ → V → ℕ
  drawn_by x v = times_drawn x (k.draws v)

  abbrev count_by : V → ℕ
  count_by v = drawn_in_all (k.draws v)

  abbrev IsIdle : V → Type 0
  IsIdle v = k.parts v ≡ 0 → k.draws v ≡ []

  -- A table opens with one view, which stands for all seats
  pub opens : (v : V) → k.parts v ≡ seats → k.draws v ≡ [] → AreDrawn k seats 0 (v ∷ [])
  opens v parts none = record {
    parts = omega arith;
    counted = let a = ap drawn_in_all none in omega arith;
    drawn = λ x. let a = ap (times_drawn x) none in let b = ap one_if (le-ltb x 0 (omega arith)) in omega arith;
    idle = λ j u at z. subst (λ (w : V). k.draws w ≡ []) (one_view v j u at) none;
  }

  module _ (made : ℕ) (views : List V) (h : AreDrawn k seats made views) (id : ℕ) (v : V) (at : get_elem? views id ≡ some v) where
    -- a number that is drawn lies below the made word
    pub low : (x : ℕ) → 0 < times_drawn x (k.draws v) → x < made
    low x some_draw = dite (dec_lt x made) (λ lt. lt)
        (λ no. let a = one-le-sum (drawn_by x) views id v at in let b = h.drawn x in let c = ap one_if (le-ltb x made (omega arith)) in absurd (omega arith))

    -- A view that stands for all seats has all of what a view has that stands for none only where it is nothing
    pub alone : (f : V → ℕ) → k.parts v ≡ seats → ((j : ℕ) (u : V) → get_elem? views j ≡ some u → k.parts u ≡ 0 → f u ≡ 0) → sum_by f views ≡ f v
    alone f all idle = sum_alone f k.parts views id v at (all ∙ sym h.parts) idle

    -- and the numbers that it drew are those below the made word, each once
    pub tiled : k.parts v ≡ seats → AreTiled (k.draws v)
    tiled all x =
        let a = alone (drawn_by x) all (λ j u there z. ap (times_drawn x) (h.idle j u there z)) in
        let b = alone count_by all (λ j u there z. ap drawn_in_all (h.idle j u there z)) in
        sym a ∙ (h.drawn x ∙ ap (λ (n : ℕ). one_if (ltb x n)) (h.counted ∙ b))

    -- a view changed that stands for as many seats, which drew the same
    pub kept : (w : V) → k.parts w ≡ k.parts v → k.draws w ≡ k.draws v → AreDrawn k seats made (set views id w)
    kept w parts draws = record {
      parts = sum_kept k.parts views id v w at parts ∙ h.parts;
      counted = h.counted ∙ sym (sum_kept count_by views id v w at (ap drawn_in_all draws));
      drawn = λ x. sum_kept (drawn_by x) views id v w at (ap (times_drawn x) draws) ∙ h.drawn x;
      idle = each_set IsIdle views id w (λ z. draws ∙ h.idle id v at (omega arith)) h.idle;
    }

    -- numbers were drawn, from the made word on
    pub drew : (w : V) (count : ℕ) (within : Bool) → 0 < k.parts v → k.parts w ≡ k.parts v → k.draws w ≡ k.draws v ++ draw_of made count within ∷ [] → AreDrawn k seats (made + count) (set views id w)
    drew w count within some_part parts draws = record {
      parts = sum_kept k.parts views id v w at parts ∙ h.parts;
      counted = let a = sum_set count_by views id v w at in let b = ap drawn_in_all draws in let c = sum_by_push (λ (d : Draw). d.count) (k.draws v) (draw_of made count within) in let e = h.counted in omega arith;
      drawn = λ x. let a = sum_set (drawn_by x) views id v w at in let b = ap (times_drawn x) draws in let c = times_drawn-push x (k.draws v) (draw_of made count within) in let d = h.drawn x in let e = in_next_draw x made count within in omega arith;
      idle = each_set IsIdle views id w (λ z. absurd (omega arith)) h.idle;
    }

    -- a view was cut in two, whose seats drew nothing
    pub split : (left right : V) → k.parts left + k.parts right ≡ k.parts v → k.draws v ≡ [] → k.draws left ≡ [] → k.draws right ≡ [] → AreDrawn k seats made (set views id left ++ right ∷ [])
    split left right parts none none_left none_right = record {
      parts = sum_split k.parts views id v left right at parts ∙ h.parts;
      counted = h.counted ∙ sym (sum_split count_by views id v left right at (let a = ap drawn_in_all none in let b = ap drawn_in_all none_left in let c = ap drawn_in_all none_right in omega arith));
      drawn = λ x. sum_split (drawn_by x) views id v left right at (let a = ap (times_drawn x) none in let b = ap (times_drawn x) none_left in let c = ap (times_drawn x) none_right in omega arith) ∙ h.drawn x;
      idle = each_split IsIdle views id left right (λ z. none_left) (λ z. none_right) h.idle;
    }

    -- a view took in another, which is spent
    pub joined : (other : ℕ) (w both spent : V) → other ≢ id → get_elem? (set views id both) other ≡ some w → k.parts both ≡ k.parts v + k.parts w → k.draws both ≡ k.draws v ++ k.draws w → k.parts spent ≡ 0 → k.draws spent ≡ [] → AreDrawn k seats made (set (set views id both) other spent)
    joined other w both spent apart to parts draws no_part none = record {
      parts = sum_joined k.parts views id other v w both spent at to parts no_part ∙ h.parts;
      counted = h.counted ∙ sym (sum_joined count_by views id other v w both spent at to (ap drawn_in_all draws ∙ sum_by-append (λ (d : Draw). d.count) (k.draws v) (k.draws w)) (ap drawn_in_all none));
      drawn = λ x. sum_joined (drawn_by x) views id other v w both spent at to (ap (times_drawn x) draws ∙ times_drawn-append x (k.draws v) (k.draws w)) (ap (times_drawn x) none) ∙ h.drawn x;
      idle = each_joined IsIdle views id other both spent
          (λ z. draws ∙ (ap (λ (ds : List Draw). ds ++ k.draws w) (h.idle id v at (omega arith)) ∙ h.idle other w (at_before views id other both w apart to) (omega arith)))
          (λ z. none)
          h.idle;
    }

module _ {V : Type 0} (count : ℕ → V → ℕ) (tells place : ℕ → ℕ) (words : List ℕ) (views : List V) (h : AreTold count tells place words views) (id : ℕ) (v w : V) (at : get_elem? views id ≡ some v) where
  -- The word of one number changed, and how often the view counts the number follows it
  pub told : (x n : ℕ) → ((y : ℕ) → place y ≡ place x → y ≡ x) → place x < length words → tells n + count x v ≡ tells (get_or words (place x) 0) + count x w → ((y : ℕ) → y ≢ x → count y w ≡ count y v) → AreTold count tells place (set words (place x) n) (set views id w)
  told x n one within moved others y = let a = sum_set (count y) views id v w at in let b = h y in dite (ℕ_discrete y x)
      (λ e. subst (λ z. sum_by (count z) (set views id w) ≡ tells (get_or (set words (place x) n) (place z) 0)) (sym e)
      (let a' = sum_set (count x) views id v w at in let b' = h x in let c = ap tells (get_or-set_same words (place x) n 0 within) in omega arith))
      (λ ne. let c = ap tells (get_or-set_other words (place x) (place y) n 0 (λ e. ne (one y e))) in let d = others y ne in omega arith)

  -- A word changed that is no number's
  pub told_else : (i n : ℕ) → ((y : ℕ) → place y ≢ i) → ((y : ℕ) → count y w ≡ count y v) → AreTold count tells place (set words i n) (set views id w)
  told_else i n apart same y = sum_kept (count y) views id v w at (same y) ∙ (h y ∙ ap tells (sym (get_or-set_other words i (place y) n 0 (apart y))))
