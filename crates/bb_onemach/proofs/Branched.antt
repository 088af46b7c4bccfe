-- Which jobs compete at a node that stands, and that some do while any is left.
use Rattle.std.proofs.Common.{◌≡◌, ℕ, ◌≤◌, inl, inr, List, [], ◌∷◌, refl, sym, ap, ◌∙◌, subst, length, arith}
use Rattle.std.proofs.lemmas.Bool.{cases_lt}
use Rattle.std.specs.Prelude.{not, if◌then◌else◌, nat_eq, nat_lt, ◌&&◌, ◌||◌, Bool, Contains}
use Rattle.std.proofs.lemmas.List.{nil_from_length}
use Rattle.std.proofs.lemmas.List.Elements.{All-contains_itself, filter_agree}
use Rattle.std.proofs.lemmas.List.Filters.{length-filter_both}
use Rattle.inst_text.specs.Shop.{JobShop, IsJobShop}
use Rattle.bb_shop.specs.declared.booking.Booking.{Booking}
use Rattle.bb_shop.specs.Plans.{IsFeasible, makespan}
use Rattle.bb_shop.specs.Dispatching.{state_of}
use Rattle.bb_shop.specs.Branching.{Node, Stands}
use Rattle.bb_shop.specs.Working.{left_in, next_at}
use Rattle.bb_shop.specs.TreeLawsHold.Children.{children-none}
use Rattle.bb_shop.specs.TreeLawsHold.Leaves.{leaf_is_feasible}
use Rattle.bb_shop.specs.TreeLawsHold.Standing.{next_at-is, left_are_children, none_left_is_whole}
use Rattle.bb_onemach.specs.Branching.{sooner, soonest, critical, competes, competing, next_in, active_children, Reaches}
use Rattle.bb_onemach.specs.TreeLawsHold.Lawful.{own_cost-le}
use Rattle.bb_onemach.specs.TreeLawsHold.Passing.{active-are, contains_passing, competes-itself}
use Rattle.bb_onemach.proofs.Soonest.{soonest-cons, soonest-nil, critical-keeps}

-- what agrees for each job has the same jobs compete
soonest-agree : (f g : ℕ → Booking) → ((j : ℕ) → f j ≡ g j) → (j : ℕ) (ks : List ℕ) → soonest f j ks ≡ soonest g j ks
soonest-agree f g same j [] = soonest-nil f j ∙ sym (soonest-nil g j)
soonest-agree f g same j (k ∷ ks) =
    let chosen : Booking → Booking → ℕ = λ a b. if nat_lt b.end a.end then k else j in
    let one : sooner f j k ≡ sooner g j k = ap (λ a. chosen a (f k)) (same j) ∙ ap (chosen (g j)) (same k) in
    soonest-cons f j k ks ∙ soonest-agree f g same (sooner f j k) ks ∙ ap (λ x. soonest g x ks) one ∙ sym (soonest-cons g j k ks)

critical-agree : (f g : ℕ → Booking) → ((j : ℕ) → f j ≡ g j) → (ks : List ℕ) → critical f ks ≡ critical g ks
critical-agree f g same [] = refl
critical-agree f g same (k ∷ ks) = soonest-agree f g same k ks

competing-agree : (f g : ℕ → Booking) → ((j : ℕ) → f j ≡ g j) → (ks : List ℕ) → competing f ks ≡ competing g ks
competing-agree f g same ks =
    let test : Booking → Booking → ℕ → ℕ → Bool = λ a b x c. nat_eq x c || (nat_eq a.machine b.machine && nat_lt a.start b.end) in
    let first = critical f ks in
    filter_agree (competes f first) (competes g (critical g ks))
    (λ i. ap (λ a. test a (f first) i first) (same i) ∙ ap (λ b. test (g i) b i first) (same first) ∙ ap (λ c. test (g i) (g c) i c) (critical-agree f g same ks))
    ks

-- some job competes where there is one
competing-some : (next : ℕ → Booking) (ks : List ℕ) → 1 ≤ length ks → 1 ≤ length (competing next ks)
competing-some next ks some =
    let c = critical next ks in
    let there : Contains ks c = critical-keeps next (Contains ks) ks some (All-contains_itself ks) in
    let kept = contains_passing (competes next c) ks c there (competes-itself next c) in
    omega (arith, kept.1)

-- the jobs that compete at a node that stands are its children, and where there is none, no job is left
pub competing_are_children : (s : JobShop) (node : Node) (name : List ℕ) → Stands s node name → 1 ≤ length (competing (next_at s node) (left_in s.machines node.steps))
    → competing (next_at s node) (left_in s.machines node.steps) ≡ active_children s name
competing_are_children s node name stands some =
    let left = left_in s.machines node.steps in
    let next = next_at s node in
    let p = competes next (critical next left) in
    let more : 1 ≤ length left = omega (arith, some, length-filter_both p (λ j. not (p j)) (λ _. refl) left) in
    competing-agree next (next_in s (state_of s name)) (λ j. next_at-is s node name j stands) left
    ∙ sym (active-are s name left (sym (left_are_children s node name stands more)))

pub none_compete : (s : JobShop) (node : Node) → competing (next_at s node) (left_in s.machines node.steps) ≡ [] → left_in s.machines node.steps ≡ []
none_compete s node none =
    let left = left_in s.machines node.steps in
    elim (cases_lt 0 (length left)) [
      | inl lt ↦ absurd (omega (arith, competing-some (next_at s node) left (omega (arith, lt)), ap (λ (xs : List ℕ). length xs) none))
      | inr le ↦ nil_from_length left (omega (arith, le))
    ]

-- where no job is left, the node's plan is the leaf's
pub leaf_stands : (s : JobShop) (node : Node) (name : List ℕ) (starts : List (List ℕ)) → IsJobShop s → Stands s node name → left_in s.machines node.steps ≡ [] → starts ≡ (state_of s name).starts
    → (active_children s name ≡ []) × IsFeasible s starts × ((v : ℕ) → Reaches s name v → makespan s starts ≤ v)
leaf_stands s node name starts shop stands none made =
    let whole = none_left_is_whole s node name stands none in
    (active-are s name [] (children-none s name (omega (arith, whole))), subst (IsFeasible s) (sym made) (leaf_is_feasible s name shop stands.order whole), λ v r. omega (arith, ap (makespan s) made, own_cost-le s name v shop r))
