-- What is left of a machine's operations, whatever order they stand in, and with heads from a table.
use Rattle.std.proofs.Common.{◌≡◌, ℕ, ◌≤◌, List, [], ◌∷◌, inl, inr, true, refl, sym, ap, ◌∙◌, subst, get_or, map, arith}
use Rattle.std.specs.Prelude.{if◌then◌else◌, Bool, All, Contains, filter}
use Rattle.std.specs.List.Sorted.{IsPermutation}
use Rattle.std.proofs.lemmas.Bool.{cases_Bool, cond-true, cond-false}
use Rattle.std.proofs.lemmas.List.{get_or-map, length-map}
use Rattle.std.proofs.lemmas.List.Elements.{All-head, All-tail, All-contains, All-contains_itself, All-filter, filter_passes}
use Rattle.std.proofs.lemmas.List.Kept.{AllPairs-filter}
use Rattle.std.proofs.lemmas.List.Sorted.{IsPermutation-sym, Contains-permutation, sum_by-IsPermutation}
use Rattle.bb_problem.specs.Tree.{total}
use Rattle.bb_onemach.specs.declared.task.Task.{Task}
use Rattle.bb_onemach.specs.declared.visit.Visit.{Visit}
use Rattle.bb_onemach.specs.Working.{Falls, TailsFall}
use Rattle.bb_onemach.specs.TreeLawsHold.Above.{time_asked}
use Rattle.bb_onemach.specs.TreeLawsHold.Bounded.{contains_map, comes_from}
use Rattle.bb_onemach.specs.TreeLawsHold.Packing.{total-sum_by}
use Rattle.bb_onemach.specs.TreeLawsHold.Passing.{contains_passing}
use Rattle.bb_onemach.proofs.Sweeping.{AreSame}

-- a number of each that passes, and 0 of the others
abbrev passing : {X : Type 0} → (X → Bool) → (X → ℕ) → X → ℕ
passing p g x = if p x then g x else 0

total-passing : (p : Visit → Bool) (f : Visit → Task) (g : Task → ℕ) (vs : List Visit) → total g (map f (filter p vs)) ≡ total (passing p (λ v. g (f v))) vs
total-passing p f g [] = refl
total-passing p f g (v ∷ vs) =
    let rest = total-passing p f g vs in
    elim (cases_Bool (p v)) [
      | inl is ↦
          omega (arith, rest, ap (λ ws. total g (map f ws)) (cond-true (p v) (v ∷ filter p vs) (filter p vs) is), cond-true (p v) (g (f v)) 0 is)
      | inr is ↦
          omega (arith, rest, ap (λ ws. total g (map f ws)) (cond-false (p v) (v ∷ filter p vs) (filter p vs) is), cond-false (p v) (g (f v)) 0 is)
    ]

pub total-permutation : (g : Visit → ℕ) (vs ws : List Visit) → IsPermutation vs ws → total g vs ≡ total g ws
total-permutation g vs ws moved = omega (arith, total-sum_by g vs, total-sum_by g ws, sum_by-IsPermutation g vs ws moved)

some_visit : Visit
some_visit = record { job = 0; step = 0; time = 0; tail = 0 }

moved_there : (p : Visit → Bool) (f : Visit → Task) (vs ws : List Visit) → IsPermutation vs ws → (x : Task) → Contains (map f (filter p vs)) x → Contains (map f (filter p ws)) x
moved_there p f vs ws moved x there =
    let of = comes_from f some_visit (filter p vs) x there in
    let inside : Contains vs of.source = All-contains (Contains vs) (filter p vs) of.source (All-filter p (Contains vs) vs (All-contains_itself vs)) of.there in
    let passes : p of.source ≡ true = All-contains (λ v. p v ≡ true) (filter p vs) of.source (filter_passes p vs) of.there in
    let found : Contains (filter p ws) of.source = contains_passing p ws of.source (Contains-permutation vs ws of.source moved inside) passes in
    subst (Contains (map f (filter p ws))) of.same (contains_map f (filter p ws) of.source found)

-- in another order they are the same tasks
pub moved_are_same : (p : Visit → Bool) (f : Visit → Task) (vs ws : List Visit) → IsPermutation vs ws → AreSame (map f (filter p vs)) (map f (filter p ws))
moved_are_same p f vs ws moved = record {
  time =
      λ h t.
      total-passing p f (time_asked h t) vs ∙ total-permutation (passing p (λ v. time_asked h t (f v))) vs ws moved ∙ sym (total-passing p f (time_asked h t) ws);
  there = moved_there p f vs ws moved;
  back = moved_there p f ws vs (IsPermutation-sym vs ws moved);
}

-- what is left falls as all does
pub left_falls : (p : Visit → Bool) (f : Visit → Task) (vs : List Visit) → ((v : Visit) → (f v).tail ≡ v.tail) → TailsFall vs → Falls (map f (filter p vs))
left_falls p f vs same falls = λ i j d lt inside.
    let kept = filter p vs in
    let size = length-map kept f in
    let both = AllPairs-filter (λ (v w : Visit). w.tail ≤ v.tail) p vs falls i j some_visit lt (omega (arith, inside, size)) in
    omega (
      arith,
      both,
      ap (λ (x : Task). x.tail) (get_or-map f kept i some_visit d (omega (arith, lt, inside, size))),
      ap (λ (x : Task). x.tail) (get_or-map f kept j some_visit d (omega (arith, inside, size))),
      same (get_or kept i some_visit),
      same (get_or kept j some_visit),
    )

-- two readings of the heads that agree on what is left
pub left_agrees : (p : Visit → Bool) (f g : Visit → Task) (vs : List Visit) → All (λ v. p v ≡ true → f v ≡ g v) vs → map f (filter p vs) ≡ map g (filter p vs)
left_agrees p f g [] each = refl
left_agrees p f g (v ∷ vs) each =
    let P : Visit → Type 0 = λ w. p w ≡ true → f w ≡ g w in
    let rest = left_agrees p f g vs (All-tail P v vs each) in
    elim (cases_Bool (p v)) [
      | inl is ↦
          ap (map f) (cond-true (p v) (v ∷ filter p vs) (filter p vs) is) ∙ ap (λ x. x ∷ map f (filter p vs)) (All-head P v vs each is) ∙ ap (λ xs. g v ∷ xs) rest
          ∙ ap (map g) (sym (cond-true (p v) (v ∷ filter p vs) (filter p vs) is))
      | inr is ↦
          ap (map f) (cond-false (p v) (v ∷ filter p vs) (filter p vs) is) ∙ rest ∙ ap (map g) (sym (cond-false (p v) (v ∷ filter p vs) (filter p vs) is))
    ]
