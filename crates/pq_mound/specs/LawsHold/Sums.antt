-- Sums over the cells of all lists, and how often a cell is among them.
use Rattle.std.proofs.Common.{◌≡◌, ℕ, zero, suc, ◌+◌, ◌<◌, ◌≤◌, Bool, List, [], ◌∷◌, ◌++◌, map, length, ⊎_elim, refl}
use Rattle.std.proofs.Common.{ap}
use Rattle.std.proofs.Common.{arith}
use Rattle.std.specs.Prelude.{cond, sum_by, flat_map, ◌==◌}
use Rattle.std.proofs.lemmas.Bool.{eq-eqb, cases_lt}
use Rattle.std.proofs.lemmas.List.Concat.{flat_map-cons}
use Rattle.std.proofs.lemmas.List.Sums.{sum_by-cons, sum_by-append, get_or-le-sum_by}
use Rattle.pq_mound.specs.declared.nodes.Cell.{Cell}
use Rattle.pq_mound.specs.declared.nodes.Node.{Node}
use Rattle.pq_mound.specs.declared.nodes.Node.TheVariants.{Resting}
use Rattle.pq_mound.specs.Nodes.{node, cells, all_cells, numbers}
use Rattle.pq_mound.specs.Cells.{times}

pub flat_sum : {A B : Type 0} (f : B → ℕ) (g : A → List B) (xs : List A)
    → sum_by f (flat_map g xs) ≡ sum_by (λ (a : A). sum_by f (g a)) xs
flat_sum f g [] = refl
flat_sum {A} f g (x ∷ xs) = let rest = flat_sum f g xs in
    let parts : sum_by f (flat_map g (x ∷ xs)) ≡ sum_by f (g x ++ flat_map g xs) =
    ap (sum_by f) (flat_map-cons g x xs) in
    omega (arith, sum_by-append f (g x) (flat_map g xs), sum_by-cons (λ (a : A). sum_by f (g a)) x xs)

pub map_sum : {A B : Type 0} (f : B → ℕ) (g : A → B) (xs : List A)
    → sum_by f (map g xs) ≡ sum_by (λ (a : A). f (g a)) xs
map_sum f g [] = refl
map_sum {A} f g (x ∷ xs) = let rest = map_sum f g xs in
    omega (arith, sum_by-cons f (g x) (map g xs), sum_by-cons (λ (a : A). f (g a)) x xs)

abbrev pub is_cell : ℕ → Cell → ℕ
is_cell k c = cond (c.number == k) 1 0

pub numbers_times : (k : ℕ) (cs : List Cell) → times k (numbers cs) ≡ sum_by (is_cell k) cs
numbers_times k cs = map_sum (λ (n : ℕ). cond {A = ℕ} (n == k) 1 0) (λ (c : Cell). c.number) cs

pub times-here : (k : ℕ) (ns : List ℕ) → times k (k ∷ ns) ≡ 1 + times k ns
times-here k ns = let one : cond {A = ℕ} (k == k) 1 0 ≡ 1 = ap (λ (b : Bool). cond {A = ℕ} b 1 0) (eq-eqb k k refl) in
    omega (arith, sum_by-cons (λ (n : ℕ). cond {A = ℕ} (n == k) 1 0) k ns)

-- what is past the last node is empty
pub past_end : (t : List Node) (i : ℕ) → length t ≤ i → node t i ≡ Resting []
past_end [] i past = refl
past_end (u ∷ t) zero past = absurd (omega arith)
past_end (u ∷ t) (suc i) past = past_end t i (omega arith)

-- no list has more than all lists have
pub part_sum : (f : Cell → ℕ) (t : List Node) (i : ℕ) → i < length t
    → sum_by f (cells (node t i)) ≤ sum_by f (all_cells t)
part_sum f t i within = let le = get_or-le-sum_by (λ (u : Node). sum_by f (cells u)) t i (Resting []) within in
    omega (arith, flat_sum f cells t)

pub in_list : (k : ℕ) (t : List Node) (i : ℕ) → times k (numbers (cells (node t i))) ≤ times k (numbers (all_cells t))
in_list k t i = ⊎_elim
    (λ lt. let part = part_sum (is_cell k) t i lt in
    omega (arith, numbers_times k (cells (node t i)), numbers_times k (all_cells t)))
    (λ past. let none : times k (numbers (cells (node t i))) ≡ 0 = ap
    (λ (v : Node). times k (numbers (cells v))) (past_end t i past) in
    omega arith)
    (cases_lt i (length t))
