-- The laws of the tree of dispatch orders.
use Rattle.std.proofs.Common.{◌≡◌, ◌≢◌, ℕ, zero, suc, ◌+◌, ◌*◌, ◌^◌, ◌<◌, ◌≤◌, List, [], ◌∷◌, ◌++◌, inl, inr, ap, ◌∙◌}
use Rattle.std.proofs.Common.{length, arith}
use Rattle.std.specs.Prelude.{min, nat_eq, Contains}
use Rattle.std.specs.List.{IsDistinct}
use Rattle.std.proofs.lemmas.Bool.{cases_lt}
use Rattle.std.proofs.lemmas.List.{append_assoc, append-nil, length-append, nil_from_length}
use Rattle.std.proofs.Math.Nat.{mul-le-mul, mul-add, mul_comm, pow-suc, pow-zero}
use Rattle.bb_problem.specs.Tree.{Tree, below, total, nodes_from, node_count}
use Rattle.inst_text.specs.Shop.{JobShop, operations, IsJobShop}
use Rattle.bb_shop.specs.Dispatching.{opened, state_of, IsLeft, IsOrder}
use Rattle.bb_shop.specs.Branching.{children_of, tree_of, powers, tree_size, order_cost, Reaches}
use Rattle.bb_shop.specs.TreeLawsHold.States.{AreLeft-rest}
use Rattle.bb_shop.specs.TreeLawsHold.Children.{children-none, children-some, left_is_child, length-children}
use Rattle.bb_shop.specs.TreeLawsHold.Children.{jobs_left-distinct}

-- an order that goes on is not whole, and its next job is a child
pass : (s : JobShop) (name : List ℕ) (v : ℕ) (more : List ℕ) → length name < operations s → IsOrder s (name ++ more)
    → length (name ++ more) ≡ operations s → order_cost s (name ++ more) ≤ v
    → (k : ℕ) × Contains (children_of s name) k × Reaches s (below name k) v
pass s name v [] short order whole cost = absurd (omega (arith, length-append name [], whole, short))
pass s name v (k ∷ more) short order whole cost =
    let left : IsLeft s (state_of s name) k = (AreLeft-rest s (opened s) name (k ∷ more) order).0 in
    let e : (name ++ k ∷ []) ++ more ≡ name ++ k ∷ more = append_assoc name (k ∷ []) more in (
      k,
      left_is_child s name k short left,
      record {
        more = more;
        order = rw e order;
        whole = rw e whole;
        cost = rw e cost;
      },
    )

pub passed_on : (s : JobShop) (name : List ℕ) (v : ℕ) → IsJobShop s → Reaches s name v → children_of s name ≢ []
    → (k : ℕ) × Contains (children_of s name) k × Reaches s (below name k) v
passed_on s name v shop r some =
    elim (cases_lt (length name) (operations s)) [
      | inl short ↦ pass s name v r.more short r.order r.whole r.cost
      | inr full ↦ absurd (some (children-none s name full))
    ]

pub told_apart : (s : JobShop) (name : List ℕ) → IsJobShop s → IsDistinct nat_eq (children_of s name)
unfolding IsDistinct
told_apart s name shop =
    elim (cases_lt (length name) (operations s)) [
      | inl short ↦ rw (children-some s name short) (jobs_left-distinct s.machines 0 (state_of s name).starts)
      | inr full ↦ rw (children-none s name full) tt
    ]

pub ends : (s : JobShop) (name : List ℕ) → IsJobShop s → operations s ≤ length name → children_of s name ≡ []
ends s name shop full = children-none s name full

-- what a whole order reaches, it costs at most
pub leaf_is_least : (s : JobShop) (name : List ℕ) (v : ℕ) → Reaches s name v → length name ≡ operations s
    → order_cost s name ≤ v
leaf_is_least s name v r whole =
    let none : r.more ≡ [] = nil_from_length r.more (omega (arith, length-append name r.more, r.whole, whole)) in
    let e : name ++ r.more ≡ name = ap (λ more. name ++ more) none ∙ append-nil name in
    omega (arith, r.cost, ap (order_cost s) e)

-- numbers that are each at most m
total-le : (f : ℕ → ℕ) (m : ℕ) → ((k : ℕ) → f k ≤ m) → (ks : List ℕ) → total f ks ≤ length ks * m
total-le f m each [] = omega arith
total-le f m each (k ∷ ks) = omega (arith, each k, total-le f m each ks)

-- a power more, from below and from above
powers-suc : (n k : ℕ) → powers n (suc k) ≡ 1 + n * powers n k
powers-suc n zero = omega (arith, pow-suc n 0, ap (λ p. p * n) (pow-zero n))
powers-suc n (suc k) =
    omega (arith, powers-suc n k, pow-suc n (suc k), mul-add n (powers n k) (n ^ suc k), mul_comm n (n ^ suc k))

node_count-within : (t : Tree) (n : ℕ) → ((name : List ℕ) → length (t.children name) ≤ n) → (more : ℕ) (name : List ℕ)
    → nodes_from t more name ≤ powers n more
node_count-within t n few zero name = omega arith
node_count-within t n few (suc more) name =
    let each = total-le (λ k. nodes_from t more (below name k)) (powers n more)
    (λ k. node_count-within t n few more (below name k)) (t.children name) in
    let within : length (t.children name) * powers n more ≤ n * powers n more = mul-le-mul (few name) (omega arith) in
    omega (arith, each, within, powers-suc n more)

under_min : (a b n : ℕ) → min a b < b → n ≤ a → n ≤ min a b
under_min a b n lt le = omega (arith, lt, le)

-- a tree has no more nodes than the powers of the number of children that a node has at most add up to
pub few_nodes : (t : Tree) (n : ℕ) → ((name : List ℕ) → length (t.children name) ≤ n)
    → min (powers n t.height) (2 ^ 64) < 2 ^ 64 → node_count t ≤ min (powers n t.height) (2 ^ 64)
few_nodes t n few small =
    under_min (powers n t.height) (2 ^ 64) (node_count t) small (node_count-within t n few t.height [])

pub counted : (s : JobShop) → IsJobShop s → tree_size s < 2 ^ 64 → node_count (tree_of s) ≤ tree_size s
counted s shop small = few_nodes (tree_of s) (length s.rows) (length-children s) small
