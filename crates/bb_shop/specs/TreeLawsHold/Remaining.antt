-- The jobs that have operations left, by their next steps.
use Rattle.std.proofs.Common.{◌≡◌, ℕ, zero, suc, ◌+◌, ◌<◌, ◌≤◌, List, [], ◌∷◌, ◌++◌, refl, sym, ap, ◌∙◌, length, get_or}
use Rattle.std.proofs.Common.{take, replicate, arith}
use Rattle.std.specs.Prelude.{All}
use Rattle.std.proofs.lemmas.List.Elements.{All-weaker}
use Rattle.inst_text.specs.Shop.{JobShop}
use Rattle.std.proofs.lemmas.List.{length-map, length-replicate, take-map}
use Rattle.bb_shop.specs.Dispatching.{number_in}
use Rattle.bb_shop.specs.Branching.{jobs_left, Node}
use Rattle.bb_shop.specs.Working.{rows_of, left_in, IsLeftAt}
use Rattle.bb_shop.specs.TreeLawsHold.Children.{jobs_left-nil, jobs_left-more_short, jobs_left-more_full}
use Rattle.bb_shop.specs.TreeLawsHold.Children.{jobs_left-are_short, length-jobs_left, IsShort}

pub left_in-none : (m : ℕ) → left_in m [] ≡ []
left_in-none m = jobs_left-nil m 0

pub length-row_of : (steps : List ℕ) (i : ℕ) → length (get_or (rows_of steps) i []) ≡ number_in steps i
length-row_of [] i = refl
length-row_of (k ∷ ks) zero = length-replicate k 0
length-row_of (k ∷ ks) (suc i) = length-row_of ks i

take-rows_of : (m i : ℕ) (steps : List ℕ) → jobs_left m 0 (take i (rows_of steps)) ≡ left_in m (take i steps)
take-rows_of m i steps = ap (jobs_left m 0) (take-map (λ (k : ℕ). replicate k 0) i steps)

length-rows_of : (steps : List ℕ) → length (rows_of steps) ≡ length steps
length-rows_of steps = length-map steps (λ (k : ℕ). replicate k 0)

pub length-left_in : (m : ℕ) (steps : List ℕ) → length (left_in m steps) ≤ length steps
length-left_in m steps = omega (arith, length-jobs_left m 0 (rows_of steps), length-rows_of steps)

-- one job more, which has an operation left or not
pub left_in-more : (m i : ℕ) (steps : List ℕ) → i < length steps → number_in steps i < m
    → left_in m (take (i + 1) steps) ≡ left_in m (take i steps) ++ i ∷ []
left_in-more m i steps lt left =
    sym (take-rows_of m (i + 1) steps)
    ∙ jobs_left-more_short m 0 i i (rows_of steps) (omega arith) (omega (arith, length-rows_of steps, lt))
    (omega (arith, length-row_of steps i, left))
    ∙ ap (λ js. js ++ i ∷ []) (take-rows_of m i steps)

pub left_in-no_more : (m i : ℕ) (steps : List ℕ) → i < length steps → m ≤ number_in steps i
    → left_in m (take (i + 1) steps) ≡ left_in m (take i steps)
left_in-no_more m i steps lt done =
    sym (take-rows_of m (i + 1) steps)
    ∙ jobs_left-more_full m 0 i (rows_of steps) (omega (arith, length-rows_of steps, lt))
    (omega (arith, length-row_of steps i, done))
    ∙ take-rows_of m i steps

-- each job that is listed has an operation left, and no more are listed than there are
pub left_in-are_left : (s : JobShop) (node : Node) → All (IsLeftAt s node) (left_in s.machines node.steps)
left_in-are_left s node =
    All-weaker (IsShort s.machines 0 (rows_of node.steps)) (IsLeftAt s node)
    (λ j is.
    let e : j ≡ is.place = omega (arith, is.number) in
    record {
      inside = omega (arith, e, is.inside, length-rows_of node.steps);
      left = omega (arith, is.short, length-row_of node.steps is.place, ap (number_in node.steps) e);
    })
    (left_in s.machines node.steps) (jobs_left-are_short s.machines 0 (rows_of node.steps))
