-- The facts of the front word stay.
use Rattle.std.proofs.Common.{◌≡◌, ℕ, suc, ◌+◌, ◌≤◌, List, [], ◌∷◌, ◌++◌, get_or, set, ap, ◌∙◌, arith, sum_by}
use Rattle.std.proofs.lemmas.List.Sums.{sum_by_push}
use mathlib.Core.Option.{some}
use lib.ListN.{get_elem?}
use Rattle.pq_words.specs.declared.fronts.Front.{Front}
use Rattle.pq_words.specs.Fronts.{FitsFront, front_number, here, used_of}
use Rattle.pq_seats.specs.declared.views.Limits.{Limits}
use Rattle.pq_seats.specs.declared.views.Post.{Post}
use Rattle.pq_seats.proofs.Lists.{sum_kept}
use Rattle.pq_chunk.specs.declared.views.ChunkView.{ChunkView}
use Rattle.pq_chunk.specs.Views.{claim_of, armed_of}
use Rattle.pq_chunk.specs.Letters.{tells, told_words, told_by, told}
use Rattle.pq_chunk.specs.Stays.Sums.{sum_to_same}
use Rattle.pq_chunk.specs.Front.{FrontFacts}

-- letters that tell a place stay where their words do, and where the seat owes the same
pub told_stays : (words words' : List ℕ) (posts : List (Post ChunkView)) (id : ℕ) (p p' : Post ChunkView) → get_elem? posts id ≡ some p
    → ((i : ℕ) → 1 ≤ i → i ≤ 16 → get_or words' i 0 ≡ get_or words i 0) → p'.owed ≡ p.owed → told words' (set posts id p') ≡ told words posts
told_stays words words' posts id p p' at same owed =
    let a : told_words words' ≡ told_words words = sum_to_same (λ n. tells (get_or words' (suc n) 0)) (λ n. tells (get_or words (suc n) 0)) 16 (λ i lt. ap tells (same (suc i) (omega arith) (omega arith))) in
    let b = sum_kept told_by posts id p p' at (ap (λ (l : List (ℕ × ℕ)). sum_by (λ (x : ℕ × ℕ). tells x.1) l) owed) in omega arith

module _ (k : Limits) (f : Front) (size : ℕ) (words : List ℕ) (posts : List (Post ChunkView)) (t : FrontFacts k f size words posts) where
  -- any step on the front word and one post
  pub front_step : (g : Front) (size' : ℕ) (words' : List ℕ) (posts' : List (Post ChunkView))
      → get_or words' 0 0 ≡ front_number g → FitsFront g → here g ≤ g.total → used_of g + told words' posts' ≡ size' + sum_by claim_of posts' → used_of g ≤ k.capacity
      → sum_by armed_of posts' ≤ g.remaining → FrontFacts k g size' words' posts'
  front_step g size' words' posts' packed fits enough used bound armed =
      record { packed = packed; fits = fits; enough = enough; used = used; bound = bound; capacity = t.capacity; armed = armed }

  -- the frame
  pub front_kept : (words' : List ℕ) (id : ℕ) (p p' : Post ChunkView) → get_elem? posts id ≡ some p
      → get_or words' 0 0 ≡ get_or words 0 0 → told words' (set posts id p') ≡ told words posts → claim_of p' ≡ claim_of p → armed_of p' ≡ armed_of p
      → FrontFacts k f size words' (set posts id p')
  front_kept words' id p p' at word letters claim arm =
      let a = t.used in let b = sum_kept claim_of posts id p p' at claim in let c = t.armed in let d = sum_kept armed_of posts id p p' at arm in
      front_step f size words' (set posts id p') (word ∙ t.packed) t.fits t.enough (omega arith) t.bound (omega arith)

  pub front_come : (p' : Post ChunkView) → claim_of p' ≡ 0 → armed_of p' ≡ 0 → told_by p' ≡ 0 → FrontFacts k f size words (posts ++ p' ∷ [])
  front_come p' claim arm letters =
      let u = t.used in let a = t.armed in let s = sum_by_push claim_of posts p' in let r = sum_by_push armed_of posts p' in let q = sum_by_push told_by posts p' in
      front_step f size words (posts ++ p' ∷ []) t.packed t.fits t.enough (omega arith) t.bound (omega arith)
