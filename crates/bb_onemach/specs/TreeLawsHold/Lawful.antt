-- The laws of the tree of active schedules, all together.
use Rattle.std.proofs.Common.{◌≡◌, ℕ, ◌<◌, ◌≤◌, ◌^◌, refl, sym, ap, subst, false, List, [], length, arith}
use Rattle.std.specs.Prelude.{nat_eq, not, filter, Bool}
use Rattle.std.specs.List.{IsDistinct}
use Rattle.std.proofs.lemmas.List.Filters.{length-filter_both}
use Rattle.std.proofs.lemmas.List.Kept.{AllPairs-filter}
use Rattle.std.proofs.lemmas.Map.Keys.{apart_from_distinct, IsDistinct-from_apart}
use Rattle.inst_text.specs.Shop.{JobShop, IsJobShop}
use Rattle.bb_problem.specs.Meaning.{IsLawful}
use Rattle.bb_problem.specs.Tree.{node_count}
use Rattle.bb_shop.specs.Plans.{operation_at, IsFeasible, makespan}
use Rattle.bb_shop.specs.Dispatching.{state_of}
use Rattle.bb_shop.specs.Branching.{children_of, tree_size}
use Rattle.bb_shop.specs.TreeLawsHold.States.{state_of-nil, step_of-opened, job-opened, machine-opened}
use Rattle.bb_shop.specs.TreeLawsHold.Children.{children-none, length-children}
use Rattle.bb_shop.specs.TreeLawsHold.Branches as dispatched
use Rattle.bb_shop.specs.TreeLawsHold.Least.{attained, least_of_all}
use Rattle.bb_shop.specs.TreeLawsHold.Reaching.{keeps_cost}
use Rattle.bb_onemach.specs.Branching.{competes, critical, next_in, active_children, tree_of, Reaches, meaning_of}
use Rattle.bb_onemach.specs.TreeLawsHold.Passing.{active-are, passed_on}
use Rattle.bb_onemach.specs.TreeLawsHold.Bounded.{keeps, bounded}

pub reached : (s : JobShop) (plan : List (List ℕ)) → IsFeasible s plan → Reaches s [] (makespan s plan)
reached s plan feasible =
    let e = state_of-nil s in
    record {
      order = tt;
      plan = plan;
      feasible = feasible;
      cost = omega arith;
      kept = λ j k op started. absurd (omega (arith, rw e at started, step_of-opened s j));
      ready = λ j k op later. rw e (omega (arith, job-opened s j));
      free = λ j k op later. rw e (omega (arith, machine-opened s (operation_at s j k).machine));
    }

-- what a node reaches, its own start times cost at most
pub own_cost-le : (s : JobShop) (name : List ℕ) (v : ℕ) → IsJobShop s → Reaches s name v
    → makespan s (state_of s name).starts ≤ v
own_cost-le s name v shop r =
    omega (arith, r.cost, keeps_cost s r.plan (state_of s name) shop r.feasible (keeps s name v r))

distinct_filter : (p : ℕ → Bool) (xs : List ℕ) → IsDistinct nat_eq xs → IsDistinct nat_eq (filter p xs)
distinct_filter p xs distinct =
    IsDistinct-from_apart nat_eq (filter p xs)
    (AllPairs-filter (λ x y. nat_eq x y ≡ false) p xs
    (λ i j d lt inside. apart_from_distinct nat_eq xs i j d distinct lt inside))

-- the children are some of those of dispatching
told_apart : (s : JobShop) (name : List ℕ) → IsJobShop s → IsDistinct nat_eq (active_children s name)
told_apart s name shop =
    let next = next_in s (state_of s name) in
    let ks = children_of s name in
    subst (IsDistinct nat_eq) (sym (active-are s name ks refl))
    (distinct_filter (competes next (critical next ks)) ks (dispatched.told_apart s name shop))

few : (s : JobShop) (name : List ℕ) → length (active_children s name) ≤ length s.rows
few s name =
    let next = next_in s (state_of s name) in
    let ks = children_of s name in
    let p = competes next (critical next ks) in
    omega (
      arith,
      ap (λ (xs : List ℕ). length xs) (active-are s name ks refl),
      length-filter_both p (λ i. not (p i))
          (λ _. refl) ks,
      length-children s name,
    )

counted : (s : JobShop) → tree_size s < 2 ^ 64 → node_count (tree_of s) ≤ tree_size s
counted s small = dispatched.few_nodes (tree_of s) (length s.rows) (few s) small

pub lawful : (s : JobShop) → IsJobShop s → IsLawful (meaning_of s)
lawful s shop = record {
  reached = λ plan feasible. reached s plan feasible;
  bounded = λ name v r. bounded s name v shop r;
  passed_on = λ name v r some. passed_on s name v shop r some;
  told_apart = λ name. told_apart s name shop;
  ends = λ name le. active-are s name [] (children-none s name le);
  attained = attained s shop;
  least_of_all = λ plan feasible. least_of_all s plan shop feasible;
  counted = counted s;
}
