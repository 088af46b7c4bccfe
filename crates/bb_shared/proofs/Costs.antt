-- Costs and the best word, stops and the stop word.
use Rattle.std.proofs.Common.{◌≡◌, ◌≢◌, ◌⊎◌, ℕ, ◌+◌, ◌-◌, ◌*◌, ◌/◌, ◌%◌, ◌^◌, ◌<◌, ◌≤◌, Bool, true, false, eqb, cond, max, Some, None, Option, sym, refl, ap, ◌∙◌, subst, inl, inr, arith, eq-eqb, ne_eqb}
use Rattle.std.proofs.lemmas.Bool.{lt-ltb, le-ltb, ltb-true}
use mathlib.Core.Logic.{dite}
use native.Mathlib.Decide.{ℕ_discrete, dec_lt}
use Rattle.bb_shared.specs.declared.control.stop.Stop.{Stop}
use Rattle.bb_shared.specs.declared.control.stop.Stop.TheVariants.{NodeLimit, Full, NoMemory}
use Rattle.bb_shared.specs.Costs.{IsLower, lesser}
use Rattle.bb_shared.specs.Controls.{cost_in, stop_word, stop_in, IsTellable}
use Rattle.bb_shared.specs.ControlRules.{rank, IsSmall, word_of}

pub lower_both : (low a b : Option ℕ) → IsLower low a → IsLower low b → IsLower low (lesser a b)
lower_both low None b ha hb = hb
lower_both low (Some a) None ha hb = ha
lower_both low (Some a) (Some b) ha hb = dite (dec_lt b a)
    (λ lt. subst (λ (t : Bool). IsLower low (cond t (Some b) (Some a))) (sym (lt-ltb b a lt)) hb)
    (λ no. subst (λ (t : Bool). IsLower low (cond t (Some b) (Some a))) (sym (le-ltb b a (omega arith))) ha)

-- a cost asks for a greater word just where it is lesser
pub rank_lesser : (a b : Option ℕ) → rank (lesser a b) ≡ max (rank a) (rank b)
rank_lesser None None = refl
rank_lesser None (Some b) = omega arith
rank_lesser (Some a) None = omega arith
rank_lesser (Some a) (Some b) = dite (dec_lt b a)
    (λ lt. ap (λ (t : Bool). rank (cond t (Some b) (Some a))) (lt-ltb b a lt) ∙ (let z : 67108864 - b ≡ max (67108864 - a) (67108864 - b) = omega arith in z))
    (λ no. ap (λ (t : Bool). rank (cond t (Some b) (Some a))) (le-ltb b a (omega arith)) ∙ (let z : 67108864 - a ≡ max (67108864 - a) (67108864 - b) = omega arith in z))

pub small_lesser : (a b : Option ℕ) → IsSmall a → IsSmall b → IsSmall (lesser a b)
small_lesser None b ha hb = hb
small_lesser (Some a) None ha hb = ha
small_lesser (Some a) (Some b) ha hb = dite (dec_lt b a)
    (λ lt. subst (λ (t : Bool). IsSmall (cond t (Some b) (Some a))) (sym (lt-ltb b a lt)) hb)
    (λ no. subst (λ (t : Bool). IsSmall (cond t (Some b) (Some a))) (sym (le-ltb b a (omega arith))) ha)

-- the cost of a word that is not 0
cost_some : (word : ℕ) → word ≢ 0 → cost_in word ≡ Some (67108864 - word)
cost_some word ne = ap (λ (t : Bool). cond t None (Some (67108864 - word))) (ne_eqb word 0 ne)

pub small_cost : (word : ℕ) → IsSmall (cost_in word)
small_cost word = dite (ℕ_discrete word 0)
    (λ e. subst (λ (z : ℕ). IsSmall (cost_in z)) (sym e) tt)
    (λ ne. subst IsSmall (sym (cost_some word ne)) (let z : 67108864 - word < 67108864 = omega arith in z))

pub rank_cost : (word : ℕ) → rank (cost_in word) ≤ word
rank_cost word = dite (ℕ_discrete word 0)
    (λ e. subst (λ (z : ℕ). rank (cost_in z) ≤ z) (sym e) (let z : 0 ≤ 0 = omega arith in z))
    (λ ne. subst (λ (o : Option ℕ). rank o ≤ word) (sym (cost_some word ne)) (let z : 67108864 - (67108864 - word) ≤ word = omega arith in z))

pub rank-le : (o : Option ℕ) → rank o ≤ 67108864
rank-le None = let z : 0 ≤ 67108864 = omega arith in z
rank-le (Some c) = let z : 67108864 - c ≤ 67108864 = omega arith in z

-- the word of a cost tells the cost
pub cost_rank : (o : Option ℕ) → IsSmall o → cost_in (rank o) ≡ o
cost_rank None small = refl
cost_rank (Some c) small = let lt : c < 67108864 = small in cost_some (67108864 - c) (λ e. omega arith) ∙ ap Some (let z : 67108864 - (67108864 - c) ≡ c = omega arith in z)

-- the cost of a word is at most each cost that asks for no more
pub low_rank : (word : ℕ) (o : Option ℕ) → word ≤ 67108864 → IsSmall o → rank o ≤ word → IsLower (cost_in word) o
low_rank word None within small le = λ v better. refl
low_rank word (Some c) within small le = let lt : c < 67108864 = small in let le' : 67108864 - c ≤ word = le in
    subst (λ (z : Option ℕ). IsLower z (Some c)) (sym (cost_some word (λ e. omega arith))) (λ v better. let a = ltb-true v (67108864 - word) better in lt-ltb v c (omega arith))

pub stop_word-positive : (x : Stop) → 0 < stop_word x
stop_word-positive (NodeLimit asked) = let z : 0 < 4 * asked + 1 = omega arith in z
stop_word-positive (Full place) = let z : 0 < 4 * place + 2 = omega arith in z
stop_word-positive NoMemory = let z : 0 < 3 = omega arith in z

-- a stop's word tells the stop
pub stop_in_word : (x : Stop) → stop_in (stop_word x) ≡ Some x
stop_in_word (NodeLimit asked) =
    let a : eqb (4 * asked + 1) 0 ≡ false = ne_eqb (4 * asked + 1) 0 (λ e. omega arith) in
    let b : eqb ((4 * asked + 1) % 4) 1 ≡ true = eq-eqb ((4 * asked + 1) % 4) 1 (omega arith) in
    let q : (4 * asked + 1) / 4 ≡ asked = omega arith in
    ap (λ (t : Bool). cond t None (cond (eqb ((4 * asked + 1) % 4) 1) (Some (NodeLimit ((4 * asked + 1) / 4))) (cond (eqb ((4 * asked + 1) % 4) 2) (Some (Full ((4 * asked + 1) / 4))) (Some NoMemory)))) a
    ∙ (ap (λ (t : Bool). cond t (Some (NodeLimit ((4 * asked + 1) / 4))) (cond (eqb ((4 * asked + 1) % 4) 2) (Some (Full ((4 * asked + 1) / 4))) (Some NoMemory))) b ∙ ap (λ (z : ℕ). Some (NodeLimit z)) q)
stop_in_word (Full place) =
    let a : eqb (4 * place + 2) 0 ≡ false = ne_eqb (4 * place + 2) 0 (λ e. omega arith) in
    let b : eqb ((4 * place + 2) % 4) 1 ≡ false = ne_eqb ((4 * place + 2) % 4) 1 (λ e. omega arith) in
    let c : eqb ((4 * place + 2) % 4) 2 ≡ true = eq-eqb ((4 * place + 2) % 4) 2 (omega arith) in
    let q : (4 * place + 2) / 4 ≡ place = omega arith in
    ap (λ (t : Bool). cond t None (cond (eqb ((4 * place + 2) % 4) 1) (Some (NodeLimit ((4 * place + 2) / 4))) (cond (eqb ((4 * place + 2) % 4) 2) (Some (Full ((4 * place + 2) / 4))) (Some NoMemory)))) a
    ∙ (ap (λ (t : Bool). cond t (Some (NodeLimit ((4 * place + 2) / 4))) (cond (eqb ((4 * place + 2) % 4) 2) (Some (Full ((4 * place + 2) / 4))) (Some NoMemory))) b
    ∙ (ap (λ (t : Bool). cond t (Some (Full ((4 * place + 2) / 4))) (Some NoMemory)) c ∙ ap (λ (z : ℕ). Some (Full z)) q))
stop_in_word NoMemory = refl

pub stop_in_word_of : (first : Option Stop) → stop_in (word_of first) ≡ first
stop_in_word_of None = refl
stop_in_word_of (Some x) = stop_in_word x

pub one_stop : (x y : Stop) → stop_word x ≡ stop_word y → x ≡ y
one_stop x y e = let same : Some x ≡ Some y = sym (stop_in_word x) ∙ (ap stop_in e ∙ stop_in_word y) in cc

-- a place fits
pub place_fits : (first : Option Stop) → ((x : Stop) → first ≡ Some x → IsTellable x) → word_of first % 4 ≡ 2 → word_of first / 4 < 2 ^ 32
place_fits None tellable e = let z : 0 / 4 < 2 ^ 32 = omega arith in z
place_fits (Some (NodeLimit asked)) tellable e = let e' : (4 * asked + 1) % 4 ≡ 2 = e in absurd (omega arith)
place_fits (Some (Full place)) tellable e = let lt : place < 2 ^ 32 = tellable (Full place) refl in let z : (4 * place + 2) / 4 < 2 ^ 32 = omega arith in z
place_fits (Some NoMemory) tellable e = let e' : 3 % 4 ≡ 2 = e in absurd (omega arith)

-- a word is that of no stop, or of one
pub none_or_some : (first : Option Stop) → (first ≡ None) ⊎ ((x : Stop) × (first ≡ Some x))
none_or_some None = inl refl
none_or_some (Some x) = inr (x, refl)
