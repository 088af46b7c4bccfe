-- The fields of a front, read off its number.
use Rattle.std.proofs.Common.{◌≡◌, ℕ, ◌-◌, ◌/◌, ◌%◌, sym, refl, ◌∙◌, arith}
use Rattle.pq_words.specs.declared.fronts.Front.{Front}
use Rattle.pq_words.specs.Fronts.{FitsFront, front_number, here}
use Rattle.pq_chunk.specs.Rules.{length_in}

pub total_of : (f : Front) (w : ℕ) → FitsFront f → front_number f ≡ w → w / 4294967296 ≡ f.total
total_of f w r e = let a = r.claimed in let b = r.first in let c = r.remaining in omega arith

pub claimed_of : (f : Front) (w : ℕ) → FitsFront f → front_number f ≡ w → w / 131072 % 32768 ≡ f.claimed
claimed_of f w r e = let a = r.claimed in let b = r.first in let c = r.remaining in omega arith

pub first_of : (f : Front) (w : ℕ) → FitsFront f → front_number f ≡ w → w / 128 % 1024 ≡ f.first
first_of f w r e = let b = r.first in let c = r.remaining in omega arith

pub remaining_of : (f : Front) (w : ℕ) → FitsFront f → front_number f ≡ w → w % 128 ≡ f.remaining
remaining_of f w r e = let c = r.remaining in omega arith

same_front : (f g : Front) → f.total ≡ g.total → f.claimed ≡ g.claimed → f.first ≡ g.first → f.remaining ≡ g.remaining → f ≡ g
same_front f g a b c d = λ j. record { total = a j; claimed = b j; first = c j; remaining = d j }

-- fronts with one number are one
pub one_front : (f g : Front) → FitsFront f → FitsFront g → front_number f ≡ front_number g → f ≡ g
one_front f g r s e = let w : ℕ = front_number g in
    same_front f g (sym (total_of f w r e) ∙ total_of g w s refl) (sym (claimed_of f w r e) ∙ claimed_of g w s refl) (sym (first_of f w r e) ∙ first_of g w s refl) (sym (remaining_of f w r e) ∙ remaining_of g w s refl)

pub length_front : (f : Front) → FitsFront f → length_in (front_number f) ≡ f.total - here f
length_front f r = let a = total_of f (front_number f) r refl in let b = remaining_of f (front_number f) r refl in omega arith
