-- The cells that seats hold, where a post changes.
use Rattle.std.proofs.Common.{◌≡◌, ℕ, zero, suc, ◌+◌, List, [], ◌∷◌, ◌++◌, set}
use Rattle.std.proofs.Common.{refl, sym, ap, ◌∙◌, arith}
use Rattle.std.specs.Prelude.{cond, sum_by, flat_map, ◌==◌}
use Rattle.std.proofs.lemmas.Grind.{flat_map-append}
use Rattle.std.proofs.lemmas.List.{append-nil}
use Rattle.std.proofs.lemmas.List.Concat.{flat_map-cons}
use mathlib.Core.Option.{some, some-injective}
use lib.ListN.{get_elem?}
use Rattle.pq_seats.specs.declared.views.Post.{Post}
use Rattle.pq_seats.proofs.Lists.{sum_set}
use Rattle.pq_mound.specs.declared.views.MoundPart.{MoundPart}
use Rattle.pq_mound.specs.Cells.{times}
use Rattle.pq_mound.specs.Ties.{held_by}
use Rattle.pq_mound.specs.Views.{held_number}
use Rattle.pq_mound.specs.LawsHold.Sums.{flat_sum}

flat_same : {A B : Type 0} (g : A → List B) (l : List A) (i : ℕ) (v w : A) → get_elem? l i ≡ some v → g w ≡ g v
    → flat_map g (set l i w) ≡ flat_map g l
flat_same g [] i v w at same = refl
flat_same g (x ∷ xs) zero v w at same = flat_map-cons g w xs
    ∙ (ap (λ (z : List _). z ++ flat_map g xs) (same ∙ ap g (sym (some-injective x v at))) ∙ sym (flat_map-cons g x xs))
flat_same g (x ∷ xs) (suc i) v w at same = flat_map-cons g x (set xs i w)
    ∙ (ap (λ (z : List _). g x ++ z) (flat_same g xs i v w at same) ∙ sym (flat_map-cons g x xs))

-- a seat that holds the same cell
pub held_same : (posts : List (Post MoundPart)) (id : ℕ) (p p' : Post MoundPart) → get_elem? posts id ≡ some p
    → held_number p'.own.held ≡ held_number p.own.held → held_by (set posts id p') ≡ held_by posts
held_same posts id p p' at same = flat_same (λ (q : Post MoundPart). held_number q.own.held) posts id p p' at same

-- a seat that comes holds none
pub held_more : (posts : List (Post MoundPart)) (p : Post MoundPart) → held_number p.own.held ≡ []
    → held_by (posts ++ p ∷ []) ≡ held_by posts
held_more posts p none = let g : Post MoundPart → List ℕ = λ q. held_number q.own.held in
    flat_map-append g posts (p ∷ []) ∙ (ap (λ (z : List ℕ). flat_map g posts ++ z)
    (flat_map-cons g p [] ∙ ap (λ (z : List ℕ). z ++ []) none) ∙ append-nil (flat_map g posts))

-- how often a cell is held, after a step
pub held_times : (k : ℕ) (posts : List (Post MoundPart)) (id : ℕ) (p p' : Post MoundPart) → get_elem? posts id ≡ some p
    → times k (held_by (set posts id p')) + times k (held_number p.own.held)
    ≡ times k (held_by posts) + times k (held_number p'.own.held)
held_times k posts id p p' at = let g : Post MoundPart → List ℕ = λ q. held_number q.own.held in
    let f : ℕ → ℕ = λ n. cond {A = ℕ} (n == k) 1 0 in
    let sums = sum_set (λ (q : Post MoundPart). sum_by f (g q)) posts id p p' at in
    omega (arith, flat_sum f g posts, flat_sum f g (set posts id p'))
