-- Costs beside the best so far.
use Rattle.std.proofs.Common.{◌≡◌, ℕ, ◌<◌, ◌≤◌, true, false, Some, None, Option, refl, arith}
use Rattle.std.specs.Prelude.{IsTrue}
use Rattle.std.proofs.lemmas.Bool.{ltb-true, ltb-false, lt-ltb, le-ltb}
use Rattle.pq_words.specs.Limits.{key_limit}
use Rattle.bb_pool.specs.Costs.{is_better, limit_of, IsAtLeast}

-- what is below one that is better is better
pub better_below : (u v : ℕ) (best : Option ℕ) → u ≤ v → IsTrue (is_better v best) → IsTrue (is_better u best)
better_below u v None le better = better
better_below u v (Some b) le better = let lt : v < b = ltb-true v b better in lt-ltb u b (omega arith)

-- what is better is at most what is not
pub not_above : (best : Option ℕ) (u v : ℕ) → is_better v best ≡ false → IsTrue (is_better u best) → u ≤ v
not_above None u v bad better = absurd (cc)
not_above (Some b) u v bad better = let lt : u < b = ltb-true u b better in let le : b ≤ v = ltb-false v b bad in omega arith

-- what is not better is at least the least cost
pub not_better : (least v : ℕ) (best : Option ℕ) → IsAtLeast least best → is_better v best ≡ false → least ≤ v
not_better least v None above bad = absurd (cc)
not_better least v (Some b) above bad = let le : b ≤ v = ltb-false v b bad in omega arith

pub not_below_itself : (cost v : ℕ) → cost ≤ v → IsTrue (is_better v (Some cost)) → ⊥
not_below_itself cost v le better = let lt : v < cost = ltb-true v cost better in omega arith

-- what is below a cost that is better than the best is better than the best
pub below_better : (cost v : ℕ) (best : Option ℕ) → IsTrue (is_better cost best) → IsTrue (is_better v (Some cost)) → IsTrue (is_better v best)
below_better cost v best better less = let lt : v < cost = ltb-true v cost less in better_below v cost best (omega arith) better

-- a key below the limit is better
pub below_limit : (key : ℕ) (best : Option ℕ) → key < limit_of best → is_better key best ≡ true
below_limit key None lt = refl
below_limit key (Some b) lt = lt-ltb key b lt

-- a key that is not below the limit is not better
pub from_limit : (key : ℕ) (best : Option ℕ) → key < key_limit → limit_of best ≤ key → is_better key best ≡ false
from_limit key None fits le = absurd (omega arith)
from_limit key (Some b) fits le = le-ltb key b le
