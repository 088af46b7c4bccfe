-- What each step keeps of the heap's shape and order.
use Rattle.std.proofs.Common.{◌≡◌, ◌≢◌, ◌⊎◌, ℕ, ◌+◌, ◌-◌, ◌*◌, ◌/◌, ◌<◌, ◌≤◌, List, length, set, inl, inr, ⊎_elim, refl}
use Rattle.std.proofs.Common.{sym, ap, ◌∙◌, subst, arith}
use native.Mathlib.Decide.{ℕ_discrete}
use mathlib.Core.Logic.{dite}
use Rattle.std.proofs.lemmas.List.{length-set}
use Rattle.pq_words.specs.declared.entries.Entry.{Entry}
use Rattle.pq_words.specs.Entries.{raw_of}
use Rattle.pq_words.specs.Limits.{raw_limit}
use Rattle.pq_words.proofs.Order.{raw_of-fits}
use Rattle.pq_nodes.specs.Order.{IsOrder}
use Rattle.pq_nodes.proofs.Ancestors.{above_lt}
use Rattle.pq_nodes.specs.OrderLaws.{IsSame, IsOver}
use Rattle.pq_nodes.proofs.Orders.{under_parent, over_bound, over_children, changed, sifted, climbed}
use Rattle.pq_hunt.specs.declared.nodes.Node.{Node}
use Rattle.pq_hunt.specs.declared.nodes.Node.TheVariants.{Empty, Available, Busy, Hole}
use Rattle.pq_hunt.specs.Nodes.{node, used, IsShape}
use Rattle.pq_hunt.specs.Order.{HasWord, MayStandOver, MaySettle}
use Rattle.pq_hunt.proofs.Heap.Counting.{bound, stand, bounds, stands, IsHeap, bound-le, stand-le}
use Rattle.pq_hunt.specs.LawsHold.Owners.{in_use}
use Rattle.pq_hunt.proofs.Heap.Writes.{node_same, node_other, two_writes}

pub used_word : (v : Node) (e : Entry) → HasWord v e → used v ≡ 1
used_word v e has = ⊎_elim (λ q. ap used q) (λ q. ap used q.1) has

pub bound_word : (v : Node) (e : Entry) → HasWord v e → bound v ≡ raw_of e
bound_word v e has = ⊎_elim (λ q. ap bound q) (λ q. ap bound q.1) has

-- one node in use is written, and stays in use
pub shape_set : (size : ℕ) (t : List Node) (h : ℕ) (v : Node) → IsShape size t → used (node t h) ≡ 1 → used v ≡ 1
    → IsShape size (set t h v)
shape_set size t h v s was is = let within = s.within in let place = in_use size t h s was in let low = place.0 in
    let high = place.1 in record {
      within = omega (arith, length-set t h v);
      filled = λ i one le. dite (ℕ_discrete i h) (λ e. ap used (ap (node (set t h v)) e ∙ node_same t h v (omega arith))
          ∙ is) (λ ne. ap used (node_other t h i v ne) ∙ s.filled i one le);
      clear = λ i lt. node_other t h i v (omega arith) ∙ s.clear i lt;
      first = node_other t h 0 v (omega arith) ∙ s.first;
    }

-- the others count as they did
pub same_other : (t t' : List Node) (i : ℕ) → node t' i ≡ node t i
    → IsSame (bounds t) (stands t) (bounds t') (stands t') i
same_other t t' i is = record { bound = ap bound is; stand = ap stand is }

-- nothing stands below an empty node
over_empty : (size : ℕ) (t : List Node) (x c : ℕ) → IsShape size t → x ≤ raw_limit → node t c ≡ Empty
    → IsOver (stands t) x c
over_empty size t x c s le is = record {
  at = let at : stand (node t c) ≡ raw_limit = ap stand is in omega arith;
  below = λ i up. let lt = above_lt c i up in let some = up.positive in
      let past : size < c = dite (ℕ_discrete (c - size) 0) (λ e. let one = s.filled c some (omega arith) in
      let none : used (node t c) ≡ 0 = ap used is in absurd (omega arith)) (λ ne. omega arith) in
      let at : stand (node t i) ≡ raw_limit = ap stand (s.clear i (omega arith)) in omega arith;
}

over_node : (size : ℕ) (t : List Node) (e : Entry) (c : ℕ) (v : Node) → IsHeap size t → node t c ≡ v → MayStandOver e v
    → IsOver (stands t) (raw_of e) c
over_node size t e c Empty f is may = let lt = raw_of-fits e in over_empty size t (raw_of e) c f.shape (omega arith) is
over_node size t e c (Available y) f is may = let b : bound (node t c) ≡ raw_of y = ap bound is in
    let s : stand (node t c) ≡ raw_of y = ap stand is in
    over_bound (bounds t) (stands t) (raw_of e) c f.ordered (omega arith) (omega arith)
over_node size t e c (Busy o y) f is may = let b : bound (node t c) ≡ raw_of y = ap bound is in
    let s : stand (node t c) ≡ raw_limit = ap stand is in let lt = raw_of-fits e in
    over_bound (bounds t) (stands t) (raw_of e) c f.ordered (omega arith) (omega arith)
over_node size t e c (Hole y) f is may = absurd may

may_stand : (size : ℕ) (t : List Node) (e : Entry) (c : ℕ) → IsHeap size t → MayStandOver e (node t c)
    → IsOver (stands t) (raw_of e) c
may_stand size t e c f may = over_node size t e c (node t c) f refl may

-- an insert takes the next node
pub leaf : (size : ℕ) (t : List Node) (o : ℕ) (e : Entry) → IsHeap size t → size + 1 < length t
    → IsHeap (size + 1) (set t (size + 1) (Busy o e))
leaf size t o e f room = let v : Node = Busy o e in let h : ℕ = size + 1 in let t' : List Node = set t h v in
    let at : node t' h ≡ v = node_same t h v room in
    record {
      shape = record {
        within = omega (arith, length-set t h v);
        filled = λ i one most. dite (ℕ_discrete i h) (λ q. ap used (ap (node t') q ∙ at))
            (λ ne. ap used (node_other t h i v ne) ∙ f.shape.filled i one (omega arith));
        clear = λ i lt. node_other t h i v (omega arith) ∙ f.shape.clear i (omega arith);
        first = node_other t h 0 v (omega arith) ∙ f.shape.first;
      };
      ordered = changed (bounds t) (stands t) (bounds t') (stands t') h f.ordered
          (λ i ne. same_other t t' i (node_other t h i v ne))
          (λ a up. let is : stand (node t' h) ≡ raw_limit = ap stand at in let le = bound-le (node t a) in omega arith)
          (λ i up. let is : bound (node t' h) ≡ raw_of e = ap bound at in let lt = above_lt h i up in
          let fits = raw_of-fits e in
          let none : stand (node t i) ≡ raw_limit = ap stand (f.shape.clear i (omega arith)) in omega arith);
    }

-- an insert climbs
pub climb : (size : ℕ) (t : List Node) (p c o : ℕ) (x y : Entry) → IsHeap size t → c / 2 ≡ p → node t p ≡ Available y
    → node t c ≡ Busy o x → raw_of x ≤ raw_of y
    → IsHeap size (set (set t p (Busy o x)) c (Available y))
climb size t p c o x y f child parent_is is under =
    let within = f.shape.within in let pin = in_use size t p f.shape (ap used parent_is) in
    let cin = in_use size t c f.shape (ap used is) in
    let p_low = pin.0 in let p_high = pin.1 in let c_high = cin.1 in
    let t1 : List Node = set t p (Busy o x) in let t' : List Node = set t1 c (Available y) in
    let w = two_writes t p (Busy o x) c (Available y) (omega arith) (omega arith) (omega arith) in
    record {
      shape = shape_set size t1 c (Available y) (shape_set size t p (Busy o x) f.shape (ap used parent_is) refl)
          (ap used (node_other t p c (Busy o x) (omega arith) ∙ is)) refl;
      ordered =
          let bp : bound (node t p) ≡ raw_of y = ap bound parent_is in
          let sp : stand (node t p) ≡ raw_of y = ap stand parent_is in
          let bp' : bound (node t' p) ≡ raw_of x = ap bound w.at_first in
          let sp' : stand (node t' p) ≡ raw_limit = ap stand w.at_first in
          let bc' : bound (node t' c) ≡ raw_of y = ap bound w.at_second in
          let sc' : stand (node t' c) ≡ raw_of y = ap stand w.at_second in let lt = raw_of-fits y in
          climbed (bounds t) (stands t) (bounds t') (stands t') p c f.ordered p_low child
          (λ i ip ic. same_other t t' i (w.others i ip ic))
          (omega arith) (omega arith) (omega arith) (omega arith) (omega arith);
    }

-- an insert ends, below an Available parent or at the root
pub settle : (size : ℕ) (t : List Node) (c o : ℕ) (x : Entry) → IsHeap size t → node t c ≡ Busy o x → MaySettle t c x
    → IsHeap size (set t c (Available x))
settle size t c o x f is place =
    let within = f.shape.within in let cin = in_use size t c f.shape (ap used is) in let c_low = cin.0 in
    let c_high = cin.1 in
    let v : Node = Available x in let t' : List Node = set t c v in
    let at : node t' c ≡ v = node_same t c v (omega arith) in
    let bc : bound (node t c) ≡ raw_of x = ap bound is in
    let bc' : bound (node t' c) ≡ raw_of x = ap bound at in let sc' : stand (node t' c) ≡ raw_of x = ap stand at in
    record {
      shape = shape_set size t c v f.shape (ap used is) refl;
      ordered = changed (bounds t) (stands t) (bounds t') (stands t') c f.ordered
          (λ i ne. same_other t t' i (node_other t c i v ne))
          (λ a up. let lt = above_lt a c up in let some = up.positive in ⊎_elim (λ e. absurd (omega arith))
          (λ q. let y : Entry = q.0 in let le = q.2 in let b : bound (node t (c / 2)) ≡ raw_of y = ap bound q.1 in
          let s : stand (node t (c / 2)) ≡ raw_of y = ap stand q.1 in
          let le : bound (node t a) ≤ raw_of x = under_parent (bounds t) (stands t) (raw_of x) c a f.ordered
          (omega arith) (omega arith) up in omega arith) place)
          (λ i up. let le = f.ordered.order c i up in omega arith);
    }

-- a remover moves a child's word up into its hole
pub sift : (size : ℕ) (t : List Node) (h c d : ℕ) (x e : Entry) → IsHeap size t → node t h ≡ Hole x → c / 2 ≡ h
    → c + d ≡ 4 * h + 1
    → HasWord (node t c) e → raw_of e ≤ raw_of x → MayStandOver e (node t d)
    → IsHeap size (set (set t h (node t c)) c (Hole x))
sift size t h c d x e f is child pair word under may =
    let v : Node = node t c in
    let within = f.shape.within in let hin = in_use size t h f.shape (ap used is) in
    let cin = in_use size t c f.shape (used_word v e word) in
    let h_low = hin.0 in let h_high = hin.1 in let c_high = cin.1 in
    let t1 : List Node = set t h v in let t' : List Node = set t1 c (Hole x) in let ne : h ≢ c = omega arith in
    let w = two_writes t h v c (Hole x) ne (omega arith) (omega arith) in
    record {
      shape = shape_set size t1 c (Hole x) (shape_set size t h v f.shape (ap used is) (used_word v e word))
          (ap used (node_other t h c v (omega arith)) ∙ used_word v e word) refl;
      ordered =
          let bv : bound v ≡ raw_of e = bound_word v e word in let sh : stand (node t h) ≡ raw_of x = ap stand is in
          sifted (bounds t) (stands t) (bounds t') (stands t') h c d f.ordered h_low child pair
          (λ i ih ic. same_other t t' i (w.others i ih ic))
          (ap bound w.at_first) (ap stand w.at_first) (ap bound w.at_second) (ap stand w.at_second ∙ sym sh)
          (omega arith)
          (subst (λ (z : ℕ). IsOver (stands t) z d) (sym bv) (may_stand size t e d f may));
    }

-- a remover fills its hole
pub fill : (size : ℕ) (t : List Node) (h : ℕ) (x : Entry) → IsHeap size t → node t h ≡ Hole x
    → MayStandOver x (node t (2 * h)) → MayStandOver x (node t (2 * h + 1))
    → IsHeap size (set t h (Available x))
fill size t h x f is left right =
    let within = f.shape.within in let hin = in_use size t h f.shape (ap used is) in let h_low = hin.0 in
    let h_high = hin.1 in
    let v : Node = Available x in let t' : List Node = set t h v in
    let at : node t' h ≡ v = node_same t h v (omega arith) in
    let b' : bound (node t' h) ≡ raw_of x = ap bound at in let s' : stand (node t' h) ≡ raw_of x = ap stand at in
    let s : stand (node t h) ≡ raw_of x = ap stand is in
    record {
      shape = shape_set size t h v f.shape (ap used is) refl;
      ordered = changed (bounds t) (stands t) (bounds t') (stands t') h f.ordered
          (λ i ne. same_other t t' i (node_other t h i v ne))
          (λ a up. let le = f.ordered.order a h up in omega arith)
          (λ i up. let le : raw_of x ≤ stand (node t i) = over_children (stands t) (raw_of x) h i
          (λ c child. dite (ℕ_discrete c (2 * h)) (λ e. subst
          (λ (z : ℕ). IsOver (stands t) (raw_of x) z) (sym e) (may_stand size t x (2 * h) f left))
          (λ ne. let e : c ≡ 2 * h + 1 = omega arith in subst
          (λ (z : ℕ). IsOver (stands t) (raw_of x) z) (sym e) (may_stand size t x (2 * h + 1) f right))) up in
          omega arith);
    }

-- a node changes to one that bounds less, and at which no less stands
lowered : (t : List Node) (h : ℕ) (v : Node) → IsOrder (bounds t) (stands t) → h < length t → bound v ≤ bound (node t h)
    → (h ≡ 1) ⊎ (stand (node t h) ≤ stand v)
    → IsOrder (bounds (set t h v)) (stands (set t h v))
lowered t h v o within less more = let t' : List Node = set t h v in let at : node t' h ≡ v = node_same t h v within in
    let b' : bound (node t' h) ≡ bound v = ap bound at in let s' : stand (node t' h) ≡ stand v = ap stand at in
    changed (bounds t) (stands t) (bounds t') (stands t') h o (λ i ne. same_other t t' i (node_other t h i v ne))
    (λ a up. let lt = above_lt a h up in let some = up.positive in ⊎_elim (λ e. absurd (omega arith))
    (λ le. let was = o.order a h up in omega arith) more)
    (λ i up. let le = o.order h i up in omega arith)

-- the last node goes
shape_drop : (size : ℕ) (t : List Node) → IsShape size t → 1 ≤ size → IsShape (size - 1) (set t size Empty)
shape_drop size t s some = let within = s.within in record {
  within = omega (arith, length-set t size Empty);
  filled = λ i one le. ap used (node_other t size i Empty (omega arith)) ∙ s.filled i one (omega arith);
  clear = λ i lt. dite (ℕ_discrete i size) (λ e. ap (node (set t size Empty)) e ∙ node_same t size Empty (omega arith))
      (λ ne. node_other t size i Empty ne ∙ s.clear i (omega arith));
  first = node_other t size 0 Empty (omega arith) ∙ s.first;
}

-- a remover takes the root's entry away and another one in hand, and the last node goes
pub draw : (size : ℕ) (t : List Node) (x : Entry) → IsHeap size t → 2 ≤ size → used (node t 1) ≡ 1
    → IsHeap (size - 1) (set (set t 1 (Hole x)) size Empty)
draw size t x f some root =
    let within = f.shape.within in let v : Node = Hole x in let t1 : List Node = set t 1 v in
    let long = length-set t 1 v in
    let none : stand Empty ≡ raw_limit = refl in let most = stand-le (node t1 size) in
    record {
      shape = shape_drop size t1 (shape_set size t 1 v f.shape root refl) (omega arith);
      ordered = lowered t1 size Empty (lowered t 1 v f.ordered (omega arith) (omega arith) (inl refl)) (omega arith)
          (omega arith) (inr (omega arith));
    }

-- a remover takes the only entry
pub draw_only : (t : List Node) → IsHeap 1 t → IsHeap 0 (set t 1 Empty)
draw_only t f = let within = f.shape.within in record {
  shape = shape_drop 1 t f.shape (omega arith);
  ordered = lowered t 1 Empty f.ordered (omega arith) (omega arith) (inl refl);
}
