-- What follows of draws that are tiled.
use Rattle.std.proofs.Common.{◌≡◌, ℕ, zero, suc, ◌+◌, ◌<◌, ◌≤◌, List, [], ◌∷◌, Some, refl, ap, arith, Bool, ltb}
use Rattle.std.specs.Prelude.{Contains, slice_get, ◌&&◌}
use Rattle.std.proofs.lemmas.Bool.{lt-ltb, le-ltb, le-leb, lt-leb}
use Rattle.std.proofs.lemmas.List.Sums.{sum_by-cons}
use mathlib.Core.Logic.{dite}
use native.Mathlib.Decide.{ℕ_discrete, dec_lt, dec_le}
use Rattle.pq_numbers.specs.declared.draws.Draw.{Draw}
use Rattle.pq_numbers.specs.Draws.{IsIn, drawn_in_all, times_drawn, DrawsAreApart, DrawsCover}
use Rattle.pq_numbers.proofs.Counts.{one_if, one_if-le, in_draw, in_one}

one_drawn : (draws : List Draw) (i number : ℕ) (d : Draw) → slice_get draws i ≡ Some d → IsIn number d → 0 < times_drawn number draws
one_drawn [] i number d at is = absurd (cc)
one_drawn (x ∷ xs) zero number d at is = let same : x ≡ d = cc in let a = ap (in_draw number) same in let b = in_one number d is in let c = sum_by-cons (in_draw number) x xs in omega arith
one_drawn (x ∷ xs) (suc i) number d at is = let r = one_drawn xs i number d at is in let c = sum_by-cons (in_draw number) x xs in omega arith

-- a number that is drawn once at most is in one draw
once_apart : (draws : List Draw) (i j number : ℕ) (d e : Draw) → times_drawn number draws ≤ 1 → slice_get draws i ≡ Some d → slice_get draws j ≡ Some e → IsIn number d → IsIn number e → i ≡ j
once_apart [] i j number d e once at to is is' = absurd (cc)
once_apart (x ∷ xs) zero zero number d e once at to is is' = refl
once_apart (x ∷ xs) zero (suc j) number d e once at to is is' = let same : x ≡ d = cc in let a = ap (in_draw number) same in let b = in_one number d is in let c = sum_by-cons (in_draw number) x xs in let r = one_drawn xs j number e to is' in absurd (omega arith)
once_apart (x ∷ xs) (suc i) zero number d e once at to is is' = let same : x ≡ e = cc in let a = ap (in_draw number) same in let b = in_one number e is' in let c = sum_by-cons (in_draw number) x xs in let r = one_drawn xs i number d at is in absurd (omega arith)
once_apart (x ∷ xs) (suc i) (suc j) number d e once at to is is' = let c = sum_by-cons (in_draw number) x xs in ap suc (once_apart xs i j number d e (omega arith) at to is is')

pub apart : DrawsAreApart
apart draws i j number d e tiled = once_apart draws i j number d e (let a = tiled number in let b = one_if-le (ltb number (drawn_in_all draws)) in omega arith)

-- a draw with this number
record Found (number : ℕ) (draws : List Draw) : Type 0 where
  pub draw : Draw
  pub within : Contains draws draw
  pub is : IsIn number draw

in_some : (number : ℕ) (d : Draw) → 0 < in_draw number d → IsIn number d
in_some number d more = dite (dec_le d.first number)
    (λ from. dite (dec_lt number (d.first + d.count))
    (λ to. (from, to))
    (λ no. let a : in_draw number d ≡ 0 = ap (λ (t : Bool × Bool). one_if (t.0 && t.1)) (λ i. (le-leb d.first number from i, le-ltb number (d.first + d.count) (omega arith) i)) in absurd (omega arith)))
    (λ no. let a : in_draw number d ≡ 0 = ap (λ (t : Bool). one_if (t && ltb number (d.first + d.count))) (lt-leb d.first number (omega arith)) in absurd (omega arith))

found : (draws : List Draw) (number : ℕ) → 0 < times_drawn number draws → Found number draws
found [] number more = absurd (omega arith)
found (x ∷ xs) number more = let c = sum_by-cons (in_draw number) x xs in dite (ℕ_discrete (in_draw number x) 0)
    (λ e. let r = found xs number (omega arith) in let there = r.within in record { draw = r.draw; within = (suc there.0, (let within = there.1 in omega arith), there.2); is = r.is })
    (λ ne. record { draw = x; within = (0, omega arith, refl); is = in_some number x (omega arith) })

pub cover : DrawsCover
cover draws number tiled low = let a = tiled number in let b = ap one_if (lt-ltb number (drawn_in_all draws) low) in let r = found draws number (omega arith) in (r.draw, r.within, r.is)
