-- Lists after one place was written, and after two. What is past the end is d.
use Rattle.std.proofs.Common.{◌≡◌, ◌≢◌, ℕ, ◌+◌, ◌<◌, List, length, get_or, set, sym, ap, ◌∙◌, subst, arith}
use Rattle.std.specs.Prelude.{sum_by}
use native.Mathlib.Decide.{ℕ_discrete}
use mathlib.Core.Logic.{dite}
use Rattle.std.proofs.lemmas.List.{get_or-set_same, get_or-set_other, length-set}
use Rattle.std.proofs.lemmas.List.Sums.{sum_by-set}

-- a fact of each place
pub each_place : {A : Type 0} (P : A → Type 0) (t : List A) (h : ℕ) (v d : A) → h < length t → P v
    → ((i : ℕ) → P (get_or t i d)) → (i : ℕ) → P (get_or (set t h v) i d)
each_place {A} P t h v d lt one all i = dite (ℕ_discrete i h)
    (λ e. subst P (sym (ap (λ (z : ℕ). get_or (set t h v) z d) e ∙ get_or-set_same t h v d lt)) one)
    (λ ne. subst P (sym (get_or-set_other t h i v d ne)) (all i))

-- what two writes leave
pub record IsTwo {A : Type 0} (t : List A) (h : ℕ) (v : A) (c : ℕ) (w d : A) (t' : List A) : Type 0 where
  pub long : length t' ≡ length t
  pub at_first : get_or t' h d ≡ v
  pub at_second : get_or t' c d ≡ w
  pub others : (i : ℕ) → i ≢ h → i ≢ c → get_or t' i d ≡ get_or t i d

pub two_places : {A : Type 0} (t : List A) (h : ℕ) (v : A) (c : ℕ) (w d : A) → h ≢ c → h < length t → c < length t
    → IsTwo t h v c w d (set (set t h v) c w)
two_places {A} t h v c w d ne h_in c_in = record {
  long = length-set (set t h v) c w ∙ length-set t h v;
  at_first = get_or-set_other (set t h v) c h w d ne ∙ get_or-set_same t h v d h_in;
  at_second = get_or-set_same (set t h v) c w d (omega (arith, length-set t h v));
  others = λ i ih ic. get_or-set_other (set t h v) c i w d ic ∙ get_or-set_other t h i v d ih;
}

-- sums after two writes
pub two_place_sums : {A : Type 0} (f : A → ℕ) (t : List A) (h : ℕ) (v : A) (c : ℕ) (w d : A) → h ≢ c → h < length t
    → c < length t
    → sum_by f (set (set t h v) c w) + f (get_or t h d) + f (get_or t c d) ≡ sum_by f t + f v + f w
two_place_sums {A} f t h v c w d ne h_in c_in = let one = sum_by-set f t h v d h_in in
    let more = sum_by-set f (set t h v) c w d (omega (arith, length-set t h v)) in
    let at : f (get_or (set t h v) c d) ≡ f (get_or t c d) = ap f (get_or-set_other t h c v d (λ e. ne (sym e))) in
    omega arith
