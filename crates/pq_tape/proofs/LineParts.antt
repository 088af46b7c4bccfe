-- Words that were read, and those that are found where they are spelled.
use Rattle.std.proofs.Common.{◌≡◌, ℕ, Bool, true, false, cond, List, ◌∷◌, Result, Ok, Err, refl, ◌⊎◌, inl, inr}
use Rattle.pq_io.specs.Reading.{word_at}

-- of two ways to read, one was taken
pub cases_ok : {A E : Type 0} (b : Bool) (x y : Result A E) (z : A) → cond b x y ≡ Ok z → ((b ≡ true) × (x ≡ Ok z)) ⊎ (y ≡ Ok z)
cases_ok true x y z is = inl (refl, is)
cases_ok false x y z is = inr is

-- of two words that are allowed, one was there
pub either_ok : {A E : Type 0} (a b : Bool) (x y : Result A E) (z : A) (e : E) → cond a x (cond b y (Err e)) ≡ Ok z → ((a ≡ true) × (x ≡ Ok z)) ⊎ ((b ≡ true) × (y ≡ Ok z))
either_ok true b x y z e is = inl (refl, is)
either_ok false true x y z e is = inr (refl, is)
either_ok false false x y z e is = absurd cc

pub word_found : (w : List ℕ) (ws : List (List ℕ)) → word_at (w ∷ ws) ≡ Ok (record { value = w; rest = ws })
unfolding word_at
word_found w ws = refl
