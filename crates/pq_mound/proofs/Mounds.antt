-- What each step keeps of the mound's order.
use Rattle.std.proofs.Common.{◌≡◌, ℕ, ◌+◌, ◌*◌, ◌/◌, ◌<◌, ◌≤◌, List, [], ◌∷◌, ◌++◌, length, set, ⊎_elim}
use Rattle.std.proofs.Common.{sym, ap, ◌∙◌}
use Rattle.std.proofs.Common.{subst, arith}
use Rattle.std.proofs.lemmas.Bool.{cases_lt}
use Rattle.std.proofs.lemmas.List.{length-set, get_or-set_same, get_or-set_other}
use Rattle.pq_words.specs.Entries.{raw_of}
use Rattle.pq_model.specs.Multiset.{IsRising}
use Rattle.pq_nodes.specs.Ancestors.{IsAbove}
use Rattle.pq_nodes.proofs.Ancestors.{above_lt}
use Rattle.pq_nodes.specs.OrderLaws.{IsSame}
use Rattle.pq_nodes.proofs.Orders.{under_parent, over_bound, over_children, changed, sifted}
use Rattle.pq_nodes.proofs.Written.{each_place, two_places}
use Rattle.pq_mound.specs.declared.nodes.Cell.{Cell}
use Rattle.pq_mound.specs.declared.nodes.Node.{Node}
use Rattle.pq_mound.specs.declared.nodes.Node.TheVariants.{Resting, Hole}
use Rattle.pq_mound.specs.Nodes.{node, cells, entries}
use Rattle.pq_mound.specs.Order.{value_of, value, bound, IsOrdered, MayJoin, before, behind, joined}
use Rattle.pq_mound.specs.LawsHold.Sums.{past_end}
use Rattle.pq_mound.proofs.Lists.{value_fits, bound_value, split, put_cells, put_bound, rising_put, value_put}

abbrev bounds : List Node → ℕ → ℕ
bounds t i = bound (node t i)

abbrev values : List Node → ℕ → ℕ
values t i = value (node t i)

abbrev IsSorted : Node → Type 0
IsSorted v = IsRising (entries (cells v))

pub record IsMound (t : List Node) : Type 0 where
  pub first : node t 0 ≡ Resting []
  pub sorted : (i : ℕ) → IsRising (entries (cells (node t i)))
  pub ordered : IsOrdered t

same_other : (t t' : List Node) (i : ℕ) → node t' i ≡ node t i → IsSame (bounds t) (values t) (bounds t') (values t') i
same_other t t' i is = record { bound = ap bound is; stand = ap value is }

-- one list is written
one_list : (t : List Node) (h : ℕ) (v : Node) → IsMound t → 1 ≤ h → h < length t → IsSorted v
    → ((a : ℕ) → IsAbove a h → bounds t a ≤ value v) → ((i : ℕ) → IsAbove h i → bound v ≤ values t i)
    → IsMound (set t h v)
one_list t h v f some within sorted above below =
    let t' : List Node = set t h v in let at : node t' h ≡ v = get_or-set_same t h v (Resting []) within in
    let b : bound (node t' h) ≡ bound v = ap bound at in let s : value (node t' h) ≡ value v = ap value at in record {
      first = get_or-set_other t h 0 v (Resting []) (omega arith) ∙ f.first;
      sorted = each_place IsSorted t h v (Resting []) within sorted f.sorted;
      ordered = changed (bounds t) (values t) (bounds t') (values t') h f.ordered
          (λ i ne. same_other t t' i (get_or-set_other t h i v (Resting []) ne))
          (λ a up. let le = above a up in omega arith) (λ i up. let le = below i up in omega arith);
    }

-- a cell joins a list
pub join : (t : List Node) (h : ℕ) (c : Cell) (list : List Cell) → IsMound t → 1 ≤ h → h < length t
    → node t h ≡ Resting list → MayJoin t h c.entry → IsMound (set t h (joined list c))
join t h c list f some within is may =
    let s = split c.entry list in let front : List Cell = before c.entry list in
    let back : List Cell = behind c.entry list in
    let rising : IsRising (entries (front ++ back)) = subst (λ (z : List Cell). IsRising (entries z)) (sym s.whole)
    (subst IsSorted is (f.sorted h)) in
    let least = value_put front back c s.low s.high in let less = least.0 in
    let whole = put_cells front back c in
    let new : value (joined list c) ≡ value_of (front ++ c ∷ back) = ap value_of whole in
    let bounded : bound (joined list c) ≡ value_of (front ++ c ∷ back) = put_bound front back c in
    let old : value_of (front ++ back) ≡ value_of list = ap value_of s.whole in
    let b : bound (node t h) ≡ value_of list = ap bound is in let v : value (node t h) ≡ value_of list = ap value is in
    one_list t h (joined list c) f some within
    (subst (λ (z : List Cell). IsRising (entries z)) (sym whole) (rising_put front back c rising s.low s.high))
    (λ a up. let le = f.ordered.order a h up in let lt = above_lt a h up in let low = up.positive in
    ⊎_elim (λ e. ⊎_elim (λ q. omega arith) (λ q. ⊎_elim (λ r. absurd (omega arith))
    (λ r. let under = bound_value (node t (h / 2)) in
    let most : bounds t a ≤ raw_of c.entry = under_parent (bounds t) (values t) (raw_of c.entry) h a f.ordered
    (omega arith) r up in
    omega arith) q) may) (λ e. omega arith) least.1)
    (λ i up. let le = f.ordered.order h i up in omega arith)

-- a list, or the same under another name, is written over itself
pub rest : (t : List Node) (h : ℕ) (v : Node) (list : List Cell) → IsMound t → 1 ≤ h → h < length t
    → node t h ≡ v → cells v ≡ list → bound v ≡ value_of list → IsMound (set t h (Resting list))
rest t h v list f some within is same at =
    let b : bound (node t h) ≡ bound v = ap bound is in
    let s : value (node t h) ≡ value_of list = ap value is ∙ ap value_of same in
    one_list t h (Resting list) f some within
    (subst (λ (z : List Cell). IsRising (entries z)) same (subst IsSorted is (f.sorted h)))
    (λ a up. let le = f.ordered.order a h up in omega arith) (λ i up. let le = f.ordered.order h i up in omega arith)

-- the head is taken off the root's list, and the root is the hole
pub take_head : (t : List Node) (c : Cell) (list : List Cell) → IsMound t → 1 < length t → node t 1 ≡ Resting (c ∷ list)
    → IsMound (set t 1 (Hole list))
take_head t c list f within is = let sorted : IsRising (entries (c ∷ list)) = subst IsSorted is (f.sorted 1) in
    one_list t 1 (Hole list) f (omega arith) within sorted.1
    (λ a up. let lt = above_lt a 1 up in let low = up.positive in absurd (omega arith)) (λ i up. omega arith)

-- the lists of the hole and of a child change places
pub swap : (t : List Node) (h c d : ℕ) (lower upper : List Cell) → IsMound t → 1 ≤ h → c < length t → c / 2 ≡ h
    → c + d ≡ 4 * h + 1 → node t h ≡ Hole lower → node t c ≡ Resting upper → value_of upper ≤ value_of lower
    → value_of upper ≤ bound (node t d) → IsMound (set (set t h (Resting upper)) c (Hole lower))
swap t h c d lower upper f some within child pair at_h at_c le may =
    let t1 : List Node = set t h (Resting upper) in let t' : List Node = set t1 c (Hole lower) in
    let w = two_places t h (Resting upper) c (Hole lower) (Resting []) (omega arith) (omega arith) within in
    let bc : bound (node t c) ≡ value_of upper = ap bound at_c in
    let sc : value (node t c) ≡ value_of upper = ap value at_c in
    let sh : value (node t h) ≡ value_of lower = ap value at_h in let less = bound_value (node t d) in
    record {
      first = w.others 0 (omega arith) (omega arith) ∙ f.first;
      sorted = each_place IsSorted t1 c (Hole lower) (Resting []) (omega (arith, length-set t h (Resting upper)))
          (subst IsSorted at_h (f.sorted h))
          (each_place IsSorted t h (Resting upper) (Resting []) (omega arith) (subst IsSorted at_c
          (f.sorted c)) f.sorted);
      ordered = sifted (bounds t) (values t) (bounds t') (values t') h c d f.ordered some child pair
          (λ i ih ic. same_other t t' i (w.others i ih ic))
          (ap bound w.at_first ∙ sym bc) (ap value w.at_first ∙ sym sc) (ap bound w.at_second)
          (ap value w.at_second ∙ sym sh) (omega arith)
          (over_bound (bounds t) (values t) (bounds t c) d f.ordered (omega arith) (omega arith));
    }

-- the hole ends above children that are not below its list
pub end : (t : List Node) (h : ℕ) (list : List Cell) → IsMound t → 1 ≤ h → h < length t → node t h ≡ Hole list
    → ((c : ℕ) → c / 2 ≡ h → c < length t → value_of list ≤ bound (node t c)) → IsMound (set t h (Resting list))
end t h list f some within is may =
    let s : value (node t h) ≡ value_of list = ap value is in let x : ℕ = value_of list in let fits = value_fits list in
    one_list t h (Resting list) f some within (subst IsSorted is (f.sorted h))
    (λ a up. let le = f.ordered.order a h up in omega arith)
    (λ i up. over_children (values t) x h i
    (λ c child. let le : x ≤ bound (node t c) = bounded c child in let less = bound_value (node t c) in
    over_bound (bounds t) (values t) x c f.ordered le (omega arith)) up)
  where
    bounded : (c : ℕ) → c / 2 ≡ h → value_of list ≤ bound (node t c)
    bounded c child = ⊎_elim (λ lt. may c child lt)
        (λ past. let at : bound (node t c) ≡ bound (Resting []) = ap bound (past_end t c past) in
        let fits = value_fits list in
        omega arith)
        (cases_lt c (length t))
