-- What at most one of each seat has is no more than the seats, and less where one seat has none.
use Rattle.std.proofs.Common.{◌≡◌, ℕ, zero, suc, ◌<◌, ◌≤◌, Bool, true, false, cond, List, [], ◌∷◌, map, length, sym, refl, ap, ◌∙◌, subst, arith, sum_by}
use Rattle.std.proofs.lemmas.List.Sums.{sum_by-cons}
use mathlib.Core.Option.{some, some-injective, some-ne-none}
use lib.ListN.{get_elem?}
use native.Mathlib.Decide.{ℕ_discrete}
use mathlib.Core.Logic.{dite}
use Rattle.pq_model.specs.declared.passes.Lane.{Lane}
use Rattle.pq_seats.specs.declared.views.Limits.{Limits}
use Rattle.pq_seats.specs.declared.views.Post.{Post}
use Rattle.pq_seats.specs.declared.views.View.{View}
use Rattle.pq_seats.specs.Views.{post_of, empty_post}
use Rattle.pq_seats.specs.Rules.{Table, Holds, Stands}
use Rattle.pq_chunk.specs.declared.views.ChunkView.{ChunkView}
use Rattle.pq_chunk.specs.Views.{idle_chunk}
use Rattle.pq_chunk.specs.Rules.{chunk_rule}

pub at_most_one : (b : Bool) → cond b 1 0 ≤ 1
at_most_one true = omega arith
at_most_one false = omega arith

module _ (f : Post ChunkView → ℕ) where
  abbrev Few : List (View ChunkView) → Type 0
  Few vs = (j : ℕ) (u : View ChunkView) → get_elem? vs j ≡ some u → f u.post ≤ length u.lanes

  pub most : (vs : List (View ChunkView)) → Few vs → sum_by f (map post_of vs) ≤ sum_by (λ (u : View ChunkView). length u.lanes) vs
  most [] each = omega arith
  most (x ∷ xs) each = let a = each 0 x refl in let r = most xs (λ j u at. each (suc j) u at) in
      let c = sum_by-cons f x.post (map post_of xs) in let d = sum_by-cons (λ (u : View ChunkView). length u.lanes) x xs in omega arith

  -- the seat that has none is not counted
  pub fewer : (vs : List (View ChunkView)) (id : ℕ) (v : View ChunkView) → get_elem? vs id ≡ some v → Few vs → f v.post ≡ 0 → 0 < length v.lanes
      → sum_by f (map post_of vs) < sum_by (λ (u : View ChunkView). length u.lanes) vs
  fewer [] id v at each none_here some_lane = absurd (some-ne-none v (sym at))
  fewer (x ∷ xs) zero v at each none_here some_lane =
      let is : x ≡ v = some-injective x v at in
      let a : f x.post ≡ 0 = ap (λ (z : View ChunkView). f z.post) is ∙ none_here in
      let b : 0 < length x.lanes = subst (λ (z : View ChunkView). 0 < length z.lanes) (sym is) some_lane in
      let r = most xs (λ j u to. each (suc j) u to) in
      let c = sum_by-cons f x.post (map post_of xs) in let d = sum_by-cons (λ (u : View ChunkView). length u.lanes) x xs in omega arith
  fewer (x ∷ xs) (suc id) v at each none_here some_lane = let a = each 0 x refl in let r = fewer xs id v at (λ j u to. each (suc j) u to) none_here some_lane in
      let c = sum_by-cons f x.post (map post_of xs) in let d = sum_by-cons (λ (u : View ChunkView). length u.lanes) x xs in omega arith

  module _ (k : Limits) (s : Table ChunkView) (h : Holds chunk_rule k s) (one : (p : Post ChunkView) → f p ≤ 1) (none : f (empty_post idle_chunk 0) ≡ 0) where
    few_each : Few s.views
    few_each j u to = dite (ℕ_discrete u.post.number 0)
        (λ e. let a : f u.post ≡ f (empty_post idle_chunk 0) = ap f ((h.each j u to).empty e) in omega arith)
        (λ ne. let o = (h.each j u to).first ne in let a = one u.post in let b : 1 ≤ length u.lanes = subst (λ (l : List Lane). 1 ≤ length l) (sym o.2) (omega arith) in omega arith)

    pub few_of_seats : (id : ℕ) (v : View ChunkView) → Stands chunk_rule s id v → 0 < v.post.number → f v.post ≡ 0 → sum_by f (map post_of s.views) < k.seats
    few_of_seats id v at positive none_here = let o = (h.each id v at).first (λ z. omega arith) in
        let a = fewer s.views id v at few_each none_here (subst (λ (l : List Lane). 0 < length l) (sym o.2) (omega arith)) in let b = h.lanes in omega arith
