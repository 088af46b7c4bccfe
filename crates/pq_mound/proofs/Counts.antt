-- How many cells there are.
use Rattle.std.proofs.Common.{◌≡◌, ℕ, zero, suc, ◌+◌, ◌<◌, ◌≤◌, Bool, cond, List, [], ◌∷◌, ◌++◌, length, get_or, refl}
use Rattle.std.proofs.Common.{ap, arith}
use Rattle.std.specs.Prelude.{All, ◌==◌, nat_lt}
use native.Mathlib.Decide.{ℕ_discrete}
use mathlib.Core.Logic.{dite}
use Rattle.std.proofs.lemmas.Bool.{eq-eqb}
use Rattle.std.proofs.lemmas.Bool.Decides.{nat_tests}
use Rattle.std.proofs.lemmas.List.{length-append}
use Rattle.std.proofs.lemmas.List.Elements.{All-from_get_or, All-head, All-tail}
use Rattle.std.proofs.lemmas.List.Sums.{sum_by-cons, sum_by-append, get_or-le-sum_by}
use Rattle.pq_mound.specs.Cells.{times, IsDealt}

pub times-cons : (k n : ℕ) (ns : List ℕ) → times k (n ∷ ns) ≡ cond (n == k) 1 0 + times k ns
times-cons k n ns = sum_by-cons (λ (m : ℕ). cond {A = ℕ} (m == k) 1 0) n ns

pub times-append : (k : ℕ) (xs ys : List ℕ) → times k (xs ++ ys) ≡ times k xs + times k ys
times-append k xs ys = sum_by-append (λ (m : ℕ). cond {A = ℕ} (m == k) 1 0) xs ys

-- the sum of f over the numbers below this
abbrev total : (ℕ → ℕ) → ℕ → ℕ
total f zero = 0
total f (suc n) = f n + total f n

total_both : (f g h : ℕ → ℕ) (n : ℕ) → ((k : ℕ) → k < n → f k ≡ g k + h k) → total f n ≡ total g n + total h n
total_both f g h zero same = refl
total_both f g h (suc n) same = let last = same n (omega arith) in
    let rest = total_both f g h n (λ k lt. same k (omega arith)) in omega arith

total_none : (f : ℕ → ℕ) (n : ℕ) → ((k : ℕ) → k < n → f k ≡ 0) → total f n ≡ 0
total_none f zero none = refl
total_none f (suc n) none = let last = none n (omega arith) in
    let rest = total_none f n (λ k lt. none k (omega arith)) in omega arith

total_ones : (f : ℕ → ℕ) (n : ℕ) → ((k : ℕ) → k < n → f k ≡ 1) → total f n ≡ n
total_ones f zero ones = refl
total_ones f (suc n) ones = let last = ones n (omega arith) in
    let rest = total_ones f n (λ k lt. ones k (omega arith)) in omega arith

-- one of the numbers below n is x
total_at : (x n : ℕ) → x < n → total (λ k. cond {A = ℕ} (x == k) 1 0) n ≡ 1
total_at x zero lt = absurd (omega arith)
total_at x (suc n) lt = dite (ℕ_discrete x n)
    (λ e. let one : cond {A = ℕ} (x == n) 1 0 ≡ 1 = grind (arith, nat_tests) in
    let rest = total_none (λ k. cond {A = ℕ} (x == k) 1 0) n (λ k less. grind (arith, nat_tests)) in omega arith)
    (λ ne. let none : cond {A = ℕ} (x == n) 1 0 ≡ 0 = grind (arith, nat_tests) in
    let rest = total_at x n (omega arith) in omega arith)

-- numbers below n are as many as are counted of each number below n
total_times : (n : ℕ) (ns : List ℕ) → All (λ (x : ℕ). x < n) ns → total (λ k. times k ns) n ≡ length ns
total_times n [] all = total_none (λ k. times k []) n (λ k lt. refl)
total_times n (x ∷ ns) all = let one = total_at x n (All-head (λ (y : ℕ). y < n) x ns all) in
    let rest = total_times n ns (All-tail (λ (y : ℕ). y < n) x ns all) in
    let both = total_both (λ k. times k (x ∷ ns)) (λ k. cond {A = ℕ} (x == k) 1 0) (λ k. times k ns) n
    (λ k lt. times-cons k x ns) in omega arith

pub once_each : (n : ℕ) (ns : List ℕ) → ((k : ℕ) → times k ns ≡ cond (nat_lt k n) 1 0) → length ns ≡ n
once_each n ns once = let low : All (λ (x : ℕ). x < n) ns = All-from_get_or (λ (x : ℕ). x < n) ns 0
    (λ i lt. let x : ℕ = get_or ns i 0 in let some = get_or-le-sum_by
    (λ (m : ℕ). cond {A = ℕ} (m == x) 1 0) ns i 0 lt in
    let one : cond {A = ℕ} (x == x) 1 0 ≡ 1 = ap (λ (b : Bool). cond {A = ℕ} b 1 0) (eq-eqb x x refl) in
    let is = once x in let most : 1 ≤ cond {A = ℕ} (nat_lt x n) 1 0 = omega arith in grind (arith, nat_tests)) in
    let whole = total_times n ns low in
    let full = total_ones (λ k. times k ns) n (λ k lt. let is = once k in grind (arith, nat_tests)) in omega arith

-- all cells are in lists, free or held
pub dealt_count : (capacity : ℕ) (listed free held : List ℕ) → IsDealt capacity listed free held
    → length listed + length free + length held ≡ capacity
dealt_count capacity listed free held d = let all : length (listed ++ (free ++ held)) ≡ capacity =
    once_each capacity (listed ++ (free ++ held))
    (λ k. let is = d.once k in omega (arith, times-append k listed (free ++ held), times-append k free held)) in
    omega (arith, length-append listed (free ++ held), length-append free held)

pub times-some : (k : ℕ) (ns : List ℕ) → 1 ≤ times k ns → 1 ≤ length ns
times-some k [] some = absurd (omega arith)
times-some k (n ∷ ns) some = omega arith
