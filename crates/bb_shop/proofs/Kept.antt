-- How a node is kept: what writes to its lists make of its parts.
use Rattle.std.proofs.Common.{◌≡◌, ℕ, zero, suc, subst, ◌+◌, ◌-◌, ◌*◌, ◌<◌, ◌≤◌, List, [], ◌∷◌, ◌++◌, refl, sym, ap, ◌∙◌, length, set, take, drop, replicate, arith}
use Rattle.std.specs.Prelude.{sum}
use Rattle.std.proofs.lemmas.List.{take-set-le, drop-set-lt, drop-set-add, get_or-take, get_or-drop, get_or-set_other, length-set, length-drop, length-take, length-replicate, take-replicate, drop-replicate}
use Rattle.std.proofs.lemmas.List.Elements.{All-from_get_or}
use Rattle.std.proofs.lemmas.List.Sums.{sum_by-set, sum_by-le}
use Rattle.inst_text.specs.declared.shop.Operation.{Operation}
use Rattle.inst_text.specs.Limits.{max_jobs, max_machines, max_total}
use Rattle.bb_shop.specs.Dispatching.{number_in}
use Rattle.bb_shop.specs.Branching.{Node}
use Rattle.bb_shop.specs.Working.{AreUpTo, IsKept, part, ending, child_by}
use Rattle.bb_shop.specs.TreeLawsHold.States.{get_or-same}

-- the node of so many jobs, machines and dispatched operations that these lists are
abbrev pub node_of : ℕ → ℕ → ℕ → List ℕ → List ℕ → Node
node_of n m d times bytes = record { order = part n (n + d) bytes; steps = take n bytes; jobs = take n times; machines = part n (n + m) times }

take-set_any : (n : ℕ) (xs : List ℕ) (i y : ℕ) → take n (set xs i y) ≡ set (take n xs) i y
take-set_any zero xs i y = refl
take-set_any (suc n) [] i y = refl
take-set_any (suc n) (x ∷ xs) zero y = refl
take-set_any (suc n) (x ∷ xs) (suc i) y = ap (λ zs. x ∷ zs) (take-set_any n xs i y)

-- a write to a part, before it and behind it
part-set : (a b : ℕ) (xs : List ℕ) (k y : ℕ) → part a b (set xs (a + k) y) ≡ set (part a b xs) k y
part-set a b xs k y = ap (take (b - a)) (drop-set-add a xs k y) ∙ take-set_any (b - a) (drop a xs) k y

part-set_before : (a b : ℕ) (xs : List ℕ) (i y : ℕ) → i < a → part a b (set xs i y) ≡ part a b xs
part-set_before a b xs i y lt = ap (take (b - a)) (drop-set-lt a xs i y lt)

pub part-at : (a b : ℕ) (xs : List ℕ) (k : ℕ) → k < b - a → number_in (part a b xs) k ≡ number_in xs (a + k)
part-at a b xs k lt = get_or-take (b - a) (drop a xs) k 0 lt ∙ get_or-drop a xs k 0

part-replicate : (a b n k : ℕ) → b ≤ n → b - a ≡ k → part a b (replicate n 0) ≡ replicate k 0
part-replicate a b n k le is =
    ap (take (b - a)) (drop-replicate a n 0) ∙ take-replicate (b - a) (n - a) 0 (omega (arith, le)) ∙ ap (λ i. replicate i 0) is

same_node : (order steps jobs machines order' steps' jobs' machines' : List ℕ) → order ≡ order' → steps ≡ steps' → jobs ≡ jobs' → machines ≡ machines'
    → (let a : Node = record { order = order; steps = steps; jobs = jobs; machines = machines } in
    let b : Node = record { order = order'; steps = steps'; jobs = jobs'; machines = machines' } in a ≡ b)
same_node order steps jobs machines order' steps' jobs' machines' p q r s = cc

-- a list up to a place that was written
take-set_at : (d : ℕ) (xs : List ℕ) (y : ℕ) → d < length xs → take (suc d) (set xs d y) ≡ take d xs ++ y ∷ []
take-set_at d [] y lt = absurd (omega (arith, lt))
take-set_at zero (x ∷ xs) y lt = refl
take-set_at (suc d) (x ∷ xs) y lt = ap (λ zs. x ∷ zs) (take-set_at d xs y (omega (arith, lt)))

-- the jobs and the machines of a node are so many
pub job-inside : (n m d : ℕ) (times bytes : List ℕ) (v : Node) (j : ℕ) → node_of n m d times bytes ≡ v → j < length v.steps → j < n
job-inside n m d times bytes v j is lt = omega (arith, lt, ap (λ (v : Node). length v.steps) is, length-take n bytes)

machines-within : (n m d : ℕ) (times bytes : List ℕ) (v : Node) → node_of n m d times bytes ≡ v → length v.machines ≤ m
machines-within n m d times bytes v is = omega (arith, ap (λ (v : Node). length v.machines) is, length-take (n + m - n) (drop n times))

pub machine-inside : (n m d : ℕ) (times bytes : List ℕ) (v : Node) (k : ℕ) → node_of n m d times bytes ≡ v → k < length v.machines → k < m
machine-inside n m d times bytes v k is lt = omega (arith, lt, machines-within n m d times bytes v is)

pub step-inside : (n m d : ℕ) (times bytes : List ℕ) (v : Node) (j : ℕ) → node_of n m d times bytes ≡ v → number_in v.steps j < length v.machines → number_in (take n bytes) j < m
step-inside n m d times bytes v j is lt = omega (arith, lt, machines-within n m d times bytes v is, ap (λ (v : Node). number_in v.steps j) is)

-- the ready times once the operation is dispatched, with this end
abbrev pub times_after : ℕ → List ℕ → Operation → ℕ → ℕ → List ℕ
times_after n times o j end = set (set times j end) (n + o.machine) end

-- the bytes once it is
abbrev pub bytes_after : ℕ → ℕ → List ℕ → ℕ → List ℕ
bytes_after n d bytes j = set (set bytes j (number_in bytes j + 1)) (n + d) j

pub steps_after : (n d : ℕ) (bytes : List ℕ) (j : ℕ) → j < n → take n (bytes_after n d bytes j) ≡ set (take n bytes) j (number_in (take n bytes) j + 1)
steps_after n d bytes j lt =
    take-set-le n (set bytes j (number_in bytes j + 1)) (n + d) j (omega arith) ∙ take-set_any n bytes j (number_in bytes j + 1)
    ∙ ap (λ k. set (take n bytes) j (k + 1)) (sym (get_or-take n bytes j 0 lt))

order_after : (n d : ℕ) (bytes : List ℕ) (j : ℕ) → j < n → n + d < length bytes → part n (n + (d + 1)) (bytes_after n d bytes j) ≡ part n (n + d) bytes ++ j ∷ []
order_after n d bytes j lt room =
    let one = set bytes j (number_in bytes j + 1) in
    let up : n + (d + 1) - n ≡ suc d = omega arith in
    let down : d ≡ n + d - n = omega arith in
    ap (λ k. take k (drop n (bytes_after n d bytes j))) up
    ∙ ap (take (suc d)) (drop-set-add n one d j ∙ ap (λ zs. set zs d j) (drop-set-lt n bytes j (number_in bytes j + 1) lt))
    ∙ take-set_at d (drop n bytes) j (omega (arith, length-drop n bytes, room))
    ∙ ap (λ k. take k (drop n bytes) ++ j ∷ []) down

pub child_is : (n m d : ℕ) (times bytes : List ℕ) (o : Operation) (j end : ℕ) → j < n → o.machine < m → n + d < length bytes → end ≡ ending (node_of n m d times bytes) o j
    → node_of n m (d + 1) (times_after n times o j end) (bytes_after n d bytes j) ≡ child_by (node_of n m d times bytes) o j
child_is n m d times bytes o j end lt below room is =
    let one = set times j end in
    same_node (part n (n + (d + 1)) (bytes_after n d bytes j)) (take n (bytes_after n d bytes j)) (take n (times_after n times o j end)) (part n (n + m) (times_after n times o j end))
    (part n (n + d) bytes ++ j ∷ []) (set (take n bytes) j (number_in (take n bytes) j + 1)) (set (take n times) j (ending (node_of n m d times bytes) o j)) (set (part n (n + m) times) o.machine (ending (node_of n m d times bytes) o j))
    (order_after n d bytes j lt room)
    (steps_after n d bytes j lt)
    (take-set-le n one (n + o.machine) end (omega arith) ∙ take-set_any n times j end ∙ ap (set (take n times) j) is)
    (part-set n (n + m) one o.machine end ∙ ap (λ ys. set ys o.machine end) (part-set_before n (n + m) times j end lt) ∙ ap (set (part n (n + m) times) o.machine) is)

set_within : (limit : ℕ) (xs : List ℕ) (i y k : ℕ) → number_in xs k ≤ limit → y ≤ limit → number_in (set xs i y) k ≤ limit
set_within limit [] i y k le small = le
set_within limit (x ∷ xs) zero y zero le small = small
set_within limit (x ∷ xs) zero y (suc k) le small = le
set_within limit (x ∷ xs) (suc i) y zero le small = le
set_within limit (x ∷ xs) (suc i) y (suc k) le small = set_within limit xs i y k le small

-- one step more
sum_after : (xs : List ℕ) (j : ℕ) → j < length xs → sum (set xs j (number_in xs j + 1)) ≡ sum xs + 1
sum_after xs j lt = omega (arith, sum_by-set (λ x. x) xs j (number_in xs j + 1) 0 lt)

-- numbers up to m add up to at most so many times m
sum_within : (m : ℕ) (xs : List ℕ) → AreUpTo m xs → sum xs ≤ length xs * m
sum_within m xs up = sum_by-le (λ x. x) m xs (All-from_get_or (λ x. x ≤ m) xs 0 (λ i lt. up.each i))

up_after : (m : ℕ) (xs : List ℕ) (j : ℕ) → AreUpTo m xs → number_in xs j < m → AreUpTo m (set xs j (number_in xs j + 1))
up_after m xs j up lt = record { each = λ k. set_within m xs j (number_in xs j + 1) k (up.each k) (omega (arith, lt)) }

-- no more operations are dispatched than there are
pub depth-le : (n m d : ℕ) (times bytes : List ℕ) → IsKept n m d times bytes → d ≤ n * m
depth-le n m d times bytes kept =
    let steps = take n bytes in
    let size : length steps * m ≡ n * m = ap (λ k. k * m) (let e : length steps ≡ n = omega (arith, length-take n bytes, kept.bytes_fit) in e) in
    omega (arith, kept.dispatched, sum_within m steps kept.steps, size)

-- where a job has a step left, one operation more is among them
pub room_left : (n m d : ℕ) (times bytes : List ℕ) (j : ℕ) → IsKept n m d times bytes → j < n → number_in (take n bytes) j < m → d + 1 ≤ n * m
room_left n m d times bytes j kept lt step =
    let steps = take n bytes in
    let long : length steps ≡ n = omega (arith, length-take n bytes, kept.bytes_fit) in
    let more = set steps j (number_in steps j + 1) in
    let sums = sum_after steps j (omega (arith, long, lt)) in
    let most = sum_within m more (up_after m steps j kept.steps step) in
    let size : length more * m ≡ n * m = ap (λ k. k * m) (length-set steps j (number_in steps j + 1) ∙ long) in
    omega (arith, kept.dispatched, sums, most, size)

pub IsKept-child : (n m d : ℕ) (times bytes : List ℕ) (o : Operation) (j end : ℕ) → IsKept n m d times bytes → j < n → number_in (take n bytes) j < m → end ≤ max_total
    → IsKept n m (d + 1) (times_after n times o j end) (bytes_after n d bytes j)
IsKept-child n m d times bytes o j end kept lt step small =
    let one = set times j end in
    let steps = take n bytes in
    let written = set bytes j (number_in bytes j + 1) in
    let after = steps_after n d bytes j lt in
    let long : length steps ≡ n = omega (arith, length-take n bytes, kept.bytes_fit) in
    record {
      few_jobs = kept.few_jobs;
      few_machines = kept.few_machines;
      times_fit = omega (arith, kept.times_fit, length-set one (n + o.machine) end, length-set times j end);
      bytes_fit = omega (arith, kept.bytes_fit, length-set written (n + d) j, length-set bytes j (number_in bytes j + 1));
      within = λ k below. set_within max_total one (n + o.machine) end k (set_within max_total times j end k (kept.within k below) small) small;
      steps = subst (AreUpTo m) (sym after) (up_after m steps j kept.steps step);
      dispatched = ap sum after ∙ sum_after steps j (omega (arith, long, lt)) ∙ ap (λ k. k + 1) kept.dispatched;
    }

-- the sum of zeros
sum_none : (n : ℕ) → sum (replicate n 0) ≡ 0
sum_none n =
    omega (arith, sum_within 0 (replicate n 0) (record { each = λ k. omega (arith, get_or-same {X = ℕ} n k 0) }), let e : length (replicate {A = ℕ} n 0) * 0 ≡ 0 = omega arith in e)

-- the lists of a node that dispatches nothing
pub IsKept-root : (n m t b : ℕ) → n ≤ max_jobs → m ≤ max_machines → n + m ≤ t → n + n * m ≤ b → IsKept n m 0 (replicate t 0) (replicate b 0)
IsKept-root n m t b jobs machines times bytes =
    let steps : take n (replicate {A = ℕ} b 0) ≡ replicate n 0 = take-replicate n b 0 (omega (arith, bytes)) in
    record {
      few_jobs = jobs;
      few_machines = machines;
      times_fit = omega (arith, times, length-replicate {A = ℕ} t 0);
      bytes_fit = omega (arith, bytes, length-replicate {A = ℕ} b 0);
      within = λ k lt. omega (arith, get_or-same {X = ℕ} t k 0);
      steps = subst (AreUpTo m) (sym steps) (record { each = λ k. omega (arith, get_or-same {X = ℕ} n k 0) });
      dispatched = ap sum steps ∙ sum_none n;
    }

pub node_of-root : (n m t b : ℕ) → n + m ≤ t → n ≤ b → node_of n m 0 (replicate t 0) (replicate b 0) ≡ record { order = []; steps = replicate n 0; jobs = replicate n 0; machines = replicate m 0 }
node_of-root n m t b times bytes =
    let none = replicate {A = ℕ} t 0 in
    let few = replicate {A = ℕ} b 0 in
    same_node (part n (n + 0) few) (take n few) (take n none) (part n (n + m) none) [] (replicate n 0) (replicate n 0) (replicate m 0)
    (part-replicate n (n + 0) b 0 (omega (arith, bytes)) (omega arith))
    (take-replicate n b 0 bytes)
    (take-replicate n t 0 (omega (arith, times)))
    (part-replicate n (n + m) t m times (omega arith))
