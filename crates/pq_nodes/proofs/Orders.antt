-- What a step keeps of the order of a tree.
use Rattle.std.proofs.Common.{◌≡◌, ℕ, ◌/◌, ◌≤◌, ⊎_elim, sym, ap, ◌∙◌, subst, arith}
use native.Mathlib.Decide.{ℕ_discrete}
use mathlib.Core.Logic.{dite}
use Rattle.pq_nodes.specs.Ancestors.{IsAbove}
use Rattle.pq_nodes.specs.Order.{IsOrder}
use Rattle.pq_nodes.specs.OrderLaws.{IsOver, RootsAreLeast, ChangesKeepOrder, SwapsKeepOrder, ClimbsKeepOrder}
use Rattle.pq_nodes.proofs.Ancestors.{parent, above_child, below_end, above_twice, above_lt, above_root, is_child}
use Rattle.pq_nodes.proofs.Ancestors.{below_child, upper_end, above_above}

-- what stands at a node is bounded by the root
pub root_least : RootsAreLeast
root_least b s i o some = o.order 1 i (above_root i some)

-- a number that the parent neither bounds nor stands above may stand at a child
pub under_parent : (b s : ℕ → ℕ) (x c a : ℕ) → IsOrder b s → b (c / 2) ≤ x → s (c / 2) ≤ x → IsAbove a c → b a ≤ x
under_parent b s x c a o at most up = ⊎_elim (λ e. rw e at) (λ h. let le = o.order a (c / 2) h in omega arith)
    (below_end a c up)

pub over_bound : (b s : ℕ → ℕ) (x c : ℕ) → IsOrder b s → x ≤ b c → x ≤ s c → IsOver s x c
over_bound b s x c o under at = record { at = at; below = λ i up. let le = o.order c i up in omega arith }

pub over_children : (s : ℕ → ℕ) (x h i : ℕ) → ((c : ℕ) → c / 2 ≡ h → IsOver s x c) → IsAbove h i → x ≤ s i
over_children s x h i all up = elim (upper_end h i up) as (λ _. x ≤ s i) [
  | is_child e ↦
      (all i e).at
  | below_child c e down ↦ (all c e).below i down
]

-- one node changes
pub changed : ChangesKeepOrder
changed b s b' s' h o same above below = record {
  order = λ a i up. dite (ℕ_discrete a h)
      (λ e. subst (λ (z : ℕ). b' z ≤ s' i) (sym e) (let down : IsAbove h i = subst (λ (z : ℕ). IsAbove z i) e up in
      let le = below i down in let lt = above_lt h i down in let is = (same i (omega arith)).stand in omega arith))
      (λ ne. let is = (same a ne).bound in dite (ℕ_discrete i h)
      (λ e. subst (λ (z : ℕ). b' a ≤ s' z) (sym e) (let le = above a (subst (λ (z : ℕ). IsAbove a z) e up) in
      omega arith))
      (λ no. let le = o.order a i up in let too = (same i no).stand in omega arith));
}

-- what stood at a child moves into the hole h, and what was in hand there moves to the child c, which is the hole
pub sifted : SwapsKeepOrder
sifted b s b' s' h c d o some child pair same bh sh bc sc under over = record {
  order = λ a i up. dite (ℕ_discrete a c) (λ e. let none : b' a ≡ 0 = ap b' e ∙ bc in omega arith)
      (λ ac. dite (ℕ_discrete a h)
      (λ e. from_hole i (subst (λ (z : ℕ). IsAbove z i) e up) (ap b' e ∙ bh))
      (λ ah. let is = (same a ah ac).bound in dite (ℕ_discrete i h)
      (λ e. let le = o.order a c (above_child a c (subst (λ (z : ℕ). IsAbove a z) (e ∙ sym child) up)) in
      let at : s' i ≡ s c = ap s' e ∙ sh in omega arith)
      (λ ih. dite (ℕ_discrete i c)
      (λ e. let at : s' i ≡ s h = ap s' e ∙ sc in ⊎_elim (λ q. absurd (ah (q ∙ (ap (λ (z : ℕ). z / 2) e ∙ child))))
      (λ q. let le = o.order a h (subst (λ (z : ℕ). IsAbove a z) (ap (λ (z : ℕ). z / 2) e ∙ child) q) in
      omega arith) (below_end a i up))
      (λ ic. let le = o.order a i up in let too = (same i ih ic).stand in omega arith))));
}
  where
    from_hole : {a : ℕ} (i : ℕ) → IsAbove h i → b' a ≡ b c → b' a ≤ s' i
    from_hole {a} i up is = elim (upper_end h i up) as (λ _. b' a ≤ s' i) [
      | is_child e ↦ dite (ℕ_discrete i c) (λ q. let at : s' i ≡ s h = ap s' q ∙ sc in omega arith)
          (λ q. let sibling : i ≡ d = omega arith in let le = over.at in let too = (same i (omega arith) q).stand in
          let at : s d ≡ s i = ap s (sym sibling) in omega arith)
      | below_child x e down ↦ let far = above_twice x i down in let too = (same i (omega arith) (omega arith)).stand in
          dite (ℕ_discrete x c) (λ q. let le = o.order c i (subst (λ (z : ℕ). IsAbove z i) q down) in omega arith)
          (λ q. let sibling : x ≡ d = omega arith in let le = over.below i
          (subst (λ (z : ℕ). IsAbove z i) sibling down) in omega arith)
    ]

-- what climbs from the child c takes the place of what stood at its parent p, which goes to c
pub climbed : ClimbsKeepOrder
climbed b s b' s' p c o some child same bp sp bc sc under = record {
  order = λ a i up. let far = above_lt a i up in dite (ℕ_discrete a c)
      (λ e. let is : b' a ≡ b' c = ap b' e in let ci : IsAbove c i = subst (λ (z : ℕ). IsAbove z i) e up in
      let le = o.order p i (above_above p c i (subst (λ (z : ℕ). IsAbove z c) child (parent c (omega arith))) ci) in
      let too = (same i (omega arith) (omega arith)).stand in omega arith)
      (λ ac. dite (ℕ_discrete a p)
      (λ e. let is : b' a ≡ b' p = ap b' e in dite (ℕ_discrete i c) (λ q. let at : s' i ≡ s' c = ap s' q in omega arith)
      (λ q. let le = o.order p i (subst (λ (z : ℕ). IsAbove z i) e up) in
      let too = (same i (omega arith) q).stand in omega arith))
      (λ ap'. let is = (same a ap' ac).bound in dite (ℕ_discrete i p)
      (λ q. let at : s' i ≡ s' p = ap s' q in let le = o.order a p (subst (λ (z : ℕ). IsAbove a z) q up) in omega arith)
      (λ ip. dite (ℕ_discrete i c)
      (λ q. let at : s' i ≡ s p = ap s' q ∙ sc in ⊎_elim (λ z. absurd (ap' (z ∙ (ap (λ (n : ℕ). n / 2) q ∙ child))))
      (λ z. let le = o.order a p (subst (λ (n : ℕ). IsAbove a n) (ap (λ (n : ℕ). n / 2) q ∙ child) z) in
      omega arith) (below_end a i up))
      (λ ic. let le = o.order a i up in let too = (same i ip ic).stand in omega arith))));
}
