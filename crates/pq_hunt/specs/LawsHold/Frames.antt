-- What keeps the inserts in flight where a step leaves the nodes as they are, and the numbers of seats.
use Rattle.std.proofs.Common.{◌≡◌, ℕ, ◌+◌, ◌<◌, ◌≤◌, List, [], map, sym, ap, ◌∙◌, subst, arith}
use Rattle.std.specs.Prelude.{Contains}
use mathlib.Core.Option.{some}
use lib.ListN.{get_elem?}
use native.Mathlib.Decide.{ℕ_discrete}
use mathlib.Core.Logic.{dite}
use Rattle.pq_model.specs.Passes.{lane}
use Rattle.pq_seats.specs.declared.views.Limits.{Limits}
use Rattle.pq_seats.specs.declared.views.Post.{Post}
use Rattle.pq_seats.specs.declared.views.View.{View}
use Rattle.pq_seats.specs.Views.{HasFirst, lanes_of, post_of}
use Rattle.pq_seats.specs.Letters.{letter_count}
use Rattle.pq_seats.specs.Rules.{Table, Holds}
use Rattle.pq_seats.proofs.Lists.{sum_two, at_unmap, first_in, lanes_of_has, numbered_once}
use Rattle.pq_hunt.specs.Flights.{Flight}
use Rattle.pq_hunt.specs.Guards.{Guard}
use Rattle.pq_hunt.specs.declared.views.HuntPart.{HuntPart}
use Rattle.pq_hunt.specs.Ties.{IsInserting}
use Rattle.pq_hunt.specs.Rules.{hunt_rule}

pub no_guard : (g : Guard) → Contains {X = Guard} [] g → ⊥
no_guard g has = let lt = has.1 in omega arith

-- a seat's insert, where its letters are as many
pub told_on : (words words' : List ℕ) (posts posts' : List (Post HuntPart)) (of : ℕ → Flight) (p : Post HuntPart)
    → letter_count p.number words' posts' ≡ letter_count p.number words posts → IsInserting words posts of p → IsInserting words' posts' of p
told_on words words' posts posts' of p same f = record {
  told = record { most = f.told.most; told = ap (λ (z : ℕ). (of p.number).waiting + z) same ∙ f.told.told };
  place = f.place;
  flies = f.flies;
  rests = f.rests;
}

-- two posts with one number are one
pub one_number : (k : Limits) (s : Table HuntPart) (h : Holds hunt_rule k s) (i j : ℕ) (p q : Post HuntPart)
    → get_elem? (map post_of s.views) i ≡ some p → get_elem? (map post_of s.views) j ≡ some q
    → 0 < p.number → p.number ≡ q.number → j ≡ i
one_number k s h i j p q at to positive e =
    let v = at_unmap post_of s.views i p at in let w = at_unmap post_of s.views j q to in
    let n : ℕ = p.number in
    let named : v.0.post.number ≡ n = ap (λ (z : Post HuntPart). z.number) v.2 in
    let same : w.0.post.number ≡ n = ap (λ (z : Post HuntPart). z.number) w.2 ∙ sym e in
    let a = subst (λ (z : ℕ). HasFirst z v.0.lanes) named ((h.each i v.0 v.1).first (λ z. omega arith)) in
    let b = subst (λ (z : ℕ). HasFirst z w.0.lanes) same ((h.each j w.0 w.1).first (λ z. omega arith)) in
    let one = lanes_of_has v.0.lanes (lane n a.0) (first_in n v.0.lanes a) in
    let two = lanes_of_has w.0.lanes (lane n b.0) (first_in n w.0.lanes b) in
    let once = h.once n in let most = numbered_once n 1 k.seats in
    dite (ℕ_discrete j i) (λ z. z) (λ ne. let both = sum_two (λ (z : View HuntPart). lanes_of n z.lanes) s.views i j v.0 w.0 v.1 w.1 ne in absurd (omega arith))

-- a seat's number is at most 16
pub number_low : (k : Limits) (s : Table HuntPart) (h : Holds hunt_rule k s) (j : ℕ) (v : View HuntPart) → get_elem? s.views j ≡ some v → 0 < v.post.number
    → (v.post.number ≤ k.seats) × (v.post.number ≤ 16)
number_low k s h j v at positive = let f = h.each j v at in let a = f.first (λ z. omega arith) in let few = h.few in
    let r = f.ranged (lane v.post.number a.0) (first_in v.post.number v.lanes a) in let high = r.1 in (high, omega arith)
