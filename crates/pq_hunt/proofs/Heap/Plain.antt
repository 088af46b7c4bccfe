-- The order by bounds and numbers is the order in plain words, and the weights are those of the entries that stand.
use Rattle.std.proofs.Common.{◌≡◌, ℕ, ◌≤◌, List, [], ◌∷◌, inl, inr, ⊎_elim, refl, ap, ◌∙◌, sym, arith}
use Rattle.std.specs.Prelude.{sum_by}
use Rattle.std.proofs.lemmas.List.Sums.{sum_by-cons}
use Rattle.pq_words.specs.declared.entries.Entry.{Entry}
use Rattle.pq_words.specs.Entries.{raw_of}
use Rattle.pq_model.specs.Multiset.{IsRising, sorted_of}
use Rattle.pq_model.proofs.Multisets.{sum_by-sorted_of, IsRising-sorted_of, same_from_weights}
use Rattle.pq_nodes.specs.Order.{IsOrder}
use Rattle.pq_hunt.specs.declared.nodes.Node.{Node}
use Rattle.pq_hunt.specs.declared.nodes.Node.TheVariants.{Empty, Available, Busy, Hole}
use Rattle.pq_hunt.specs.Nodes.{node, standing}
use Rattle.pq_hunt.specs.Order.{StandsAt, HasWord, IsOrdered}
use Rattle.pq_hunt.proofs.Heap.Counting.{bound, stand, weigh, bounds, stands, Holds, bound-le}

order_from_plain : (u v : Node) → ((y x : Entry) → HasWord u y → StandsAt v x → raw_of y ≤ raw_of x) → bound u ≤ stand v
order_from_plain u Empty plain = bound-le u
order_from_plain u (Busy o x) plain = bound-le u
order_from_plain Empty (Available x) plain = omega arith
order_from_plain (Available y) (Available x) plain = plain y x (inl refl) (inl refl)
order_from_plain (Busy o y) (Available x) plain = plain y x (inr (o, refl)) (inl refl)
order_from_plain (Hole y) (Available x) plain = omega arith
order_from_plain Empty (Hole x) plain = omega arith
order_from_plain (Available y) (Hole x) plain = plain y x (inl refl) (inr refl)
order_from_plain (Busy o y) (Hole x) plain = plain y x (inr (o, refl)) (inr refl)
order_from_plain (Hole y) (Hole x) plain = omega arith

pub by_bounds : (t : List Node) → IsOrdered t → IsOrder (bounds t) (stands t)
by_bounds t o = record {
  order = λ a i up. order_from_plain (node t a) (node t i)
      (λ y x has at. o.order a i y x up has at);
}

pub in_words : (t : List Node) → IsOrder (bounds t) (stands t) → IsOrdered t
in_words t o = record {
  order = λ a i y x up has at. let le = o.order a i up in
      let b : bound (node t a) ≡ raw_of y = ⊎_elim (λ q. ap bound q) (λ q. ap bound q.1) has in
      let s : stand (node t i) ≡ raw_of x = ⊎_elim (λ q. ap stand q) (λ q. ap stand q) at in omega arith;
}

standing_weighs : (w : ℕ → ℕ) (t : List Node) → sum_by (weigh w) t ≡ sum_by (λ (e : Entry). w (raw_of e)) (standing t)
standing_weighs w [] = refl
standing_weighs w (Empty ∷ t) = let rest = standing_weighs w t in omega (arith, sum_by-cons (weigh w) Empty t)
standing_weighs w (Available e ∷ t) = let rest = standing_weighs w t in
    omega (arith, sum_by-cons (weigh w) (Available e) t, sum_by-cons (λ (z : Entry). w (raw_of z)) e (standing t))
standing_weighs w (Busy o e ∷ t) = let rest = standing_weighs w t in omega (arith, sum_by-cons (weigh w) (Busy o e) t)
standing_weighs w (Hole e ∷ t) = let rest = standing_weighs w t in
    omega (arith, sum_by-cons (weigh w) (Hole e) t, sum_by-cons (λ (z : Entry). w (raw_of z)) e (standing t))

sorted_holds : (t : List Node) → Holds t (sorted_of (standing t))
sorted_holds t = record {
  same = λ w. standing_weighs w t ∙ sym
      (sum_by-sorted_of (λ (e : Entry). w (raw_of e)) (standing t));
}

pub by_weights : (t : List Node) (m : List Entry) → m ≡ sorted_of (standing t) → Holds t m × IsRising m
by_weights t m is = rw is (sorted_holds t, IsRising-sorted_of (standing t))

pub in_entries : (t : List Node) (m : List Entry) → Holds t m → IsRising m → m ≡ sorted_of (standing t)
in_entries t m holds rising = same_from_weights m (sorted_of (standing t)) rising (IsRising-sorted_of (standing t))
    (λ w. sym (holds.same w) ∙ (sorted_holds t).same w)
