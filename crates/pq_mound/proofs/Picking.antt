-- What a seat that holds the cells' lock makes of the free cells.
use Rattle.std.proofs.Common.{◌≡◌, ℕ, ◌-◌, List, [], ◌∷◌, length, ap, ◌∙◌, arith}
use Rattle.pq_seats.specs.declared.views.View.{View}
use Rattle.pq_seats.specs.Views.{with_post}
use Rattle.pq_mound.specs.declared.views.MoundPart.{MoundPart}
use Rattle.pq_mound.specs.Chains.{first_or}
use Rattle.pq_mound.specs.Steps.{counting, taking}

-- the first free cell, and the rest of them
pub first_free : (free : List ℕ) (count x : ℕ) → count ≡ length free → (count ≡ 0 → ⊥) → x ≡ first_or free 0
    → (rest : List ℕ) × (free ≡ (x - 1) ∷ rest)
first_free [] count x counted some_free first = absurd (some_free counted)
first_free (n ∷ rest) count x counted some_free first =
    let same : n ≡ x - 1 = omega arith in (rest, ap (λ (z : ℕ). z ∷ rest) same)

-- it was taken off, and their count stored
pub picked_view : (v w x y : View MoundPart) (cell entry next count n : ℕ) (rest : List ℕ) → w ≡ v
    → x ≡ with_post w (taking w.post cell rest entry next) → y ≡ with_post x (counting x.post count) → count ≡ n
    → y ≡ with_post v (counting (taking v.post cell rest entry next) n)
picked_view v w x y cell entry next count n rest same taken stored is =
    stored ∙ (ap (λ (z : View MoundPart). with_post z (counting z.post count))
    (taken ∙ ap (λ (z : View MoundPart). with_post z (taking z.post cell rest entry next)) same)
    ∙ ap (λ (m : ℕ). with_post v (counting (taking v.post cell rest entry next) m)) is)
