use Rattle.std.proofs.Common.{◌≡◌, ℕ, zero, suc, ◌+◌, ◌-◌, ◌<◌, ◌≤◌, leb, true, false, List, length, take, drop, get_or, ap, subst, rules, arith}
use Rattle.std.specs.List.Sorted.{IsNonDecreasing, IsPartitionPoint}
use Rattle.std.proofs.lemmas.Bool.{leb-true, leb-false}
use Rattle.std.proofs.lemmas.List.{get_or-drop, length-drop, take_all}
use Rattle.std.proofs.lemmas.List.Sorted.{IsNonDecreasingBy-drop, IsPartitionedBy-leb, IsPartitionPoint-from_clause}
use Rattle.bb_knap.proofs.dantzig.break_place.Goals as goal

-- so many sums behind the first are within the limit, and the next one is not
IsBreak : List ℕ → ℕ → ℕ → ℕ → Type 0
IsBreak weights from limit more = IsPartitionPoint (λ y. leb y limit ≡ true) (λ y. leb y limit ≡ false) (drop (from + 1) weights) more

fits-at : (weights : List ℕ) (from limit more : ℕ) → get_or weights from 0 ≤ limit → IsBreak weights from limit more → get_or weights (from + more) 0 ≤ limit
unfolding IsBreak
fits-at weights from limit zero first p = let e : from ≡ from + zero = omega arith in let P : ℕ → Type 0 = λ k. get_or weights k 0 ≤ limit in subst P e first
fits-at weights from limit (suc more) first p =
    let e : from + 1 + more ≡ from + suc more = omega arith in
    let P : ℕ → Type 0 = λ k. get_or weights k 0 ≤ limit in
    subst P e (rw (get_or-drop (from + 1) weights more 0) at (leb-true (get_or (drop (from + 1) weights) more 0) limit (p.0 more 0 (omega arith) (omega arith))))

breaks-at : (weights : List ℕ) (from limit more : ℕ) → IsBreak weights from limit more → from + more + 1 < length weights → limit < get_or weights (from + more + 1) 0
unfolding IsBreak
breaks-at weights from limit more p inside =
    let e : from + 1 + more ≡ from + more + 1 = omega arith in
    let P : ℕ → Type 0 = λ k. limit < get_or weights k 0 in
    subst P e (rw (get_or-drop (from + 1) weights more 0) at (leb-false (get_or (drop (from + 1) weights) more 0) limit (p.1 more 0 (omega arith) (omega (arith, length-drop (from + 1) weights, inside)))))

pub returns : goal.returns
unfolding IsBreak
returns c =
    let weights = c.args.weights.now in
    let from = c.args.from in
    let behind = take (length weights - (from + 1)) (drop (from + 1) weights) in
    let same : behind ≡ drop (from + 1) weights = take_all (length weights - (from + 1)) (drop (from + 1) weights) (omega (arith, length-drop (from + 1) weights)) in
    let rises : IsNonDecreasing behind = rw same (IsNonDecreasingBy-drop (λ x. x) (from + 1) weights c.requires.rising) in
    let point : IsPartitionPoint (λ y. leb y c.args.limit ≡ true) (λ y. leb y c.args.limit ≡ false) behind c.partition_point.result =
    IsPartitionPoint-from_clause (λ y. leb y c.args.limit) behind c.partition_point.result c.partition_point.ensures.partitioned
    (IsPartitionedBy-leb (λ x. x) behind c.args.limit rises) (λ a r q k. search rules) in
    let P : List ℕ → Type 0 = λ xs. IsPartitionPoint (λ y. leb y c.args.limit ≡ true) (λ y. leb y c.args.limit ≡ false) xs c.partition_point.result in
    let p : IsBreak weights from c.args.limit c.partition_point.result = subst P same point in
    record {
      from = omega arith;
      inside = omega (arith, c.partition_point.ensures.bound, ap length same, length-drop (from + 1) weights, c.requires.inside);
      fits = fits-at weights from c.args.limit c.partition_point.result c.requires.fits p;
      breaks = breaks-at weights from c.args.limit c.partition_point.result p;
    }
