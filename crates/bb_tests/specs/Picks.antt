-- A problem for tests: the root has three leaves, and each plan costs 4, as each bound is.
use Rattle.std.specs.Prelude.{ℕ, ◌≡◌, ◌≢◌, ◌≤◌, Bool, true, false, List, [], ◌∷◌, length, nat_eq, Contains, refl}
use Rattle.std.specs.List.{IsDistinct}
use Rattle.std.proofs.Common.{lit≤, arith}
use Rattle.bb_problem.specs.Tree.{Tree, node_count}
use Rattle.bb_problem.specs.Meaning.{Meaning, IsLawful}
use Rattle.bb_problem.specs.Expanding.{StandBelow}

abbrev pub children_of : List ℕ → List ℕ
children_of [] = 0 ∷ 1 ∷ 2 ∷ []
children_of (k ∷ ks) = []

abbrev pub picks : Tree
picks = record { children = children_of; bound = λ name. 4; height = 1 }

-- the root, or a leaf
abbrev pub Stands : Bool → List ℕ → Type 0
Stands true name = name ≡ []
Stands false name = 1 ≤ length name

-- what it means to a search; a plan is a number
abbrev pub meaning : Meaning Bool ℕ
meaning = record {
  is_feasible = λ plan. Unit {0};
  cost_of = λ plan. 4;
  least = 4;
  tree = picks;
  tree_size = 4;
  stands = Stands;
  reaches = λ name v. 4 ≤ v;
}

some_child : (name : List ℕ) (v : ℕ) → 4 ≤ v → children_of name ≢ [] → (k : ℕ) × Contains (children_of name) k × (4 ≤ v)
some_child [] v le some = (0, (0, lit≤ tt, refl), le)
some_child (k ∷ ks) v le some = absurd (some refl)

children_differ : (name : List ℕ) → IsDistinct nat_eq (children_of name)
unfolding IsDistinct
children_differ [] = ((refl, (refl, tt)), ((refl, tt), (tt, tt)))
children_differ (k ∷ ks) = tt

leaves_end : (name : List ℕ) → 1 ≤ length name → children_of name ≡ []
leaves_end [] le = absurd (omega arith)
leaves_end (k ∷ ks) le = refl

four : node_count picks ≤ 4
four = lit≤ tt

pub root_expands : (name : List ℕ) → name ≡ [] → StandBelow Stands name (false ∷ false ∷ false ∷ []) (children_of name)
root_expands [] is = (lit≤ tt, (lit≤ tt, (lit≤ tt, tt)))
root_expands (k ∷ ks) is = absurd (cc)

pub lawful : IsLawful meaning
lawful = record {
  reached = λ plan feasible. lit≤ tt;
  bounded = λ name v r. r;
  passed_on = some_child;
  told_apart = children_differ;
  ends = leaves_end;
  attained = (9, tt, refl);
  least_of_all = λ plan feasible. lit≤ tt;
  counted = λ few. four;
}
