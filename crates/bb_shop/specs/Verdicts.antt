-- The verdict on start times and the makespan that is stated for them.
use Rattle.std.specs.Prelude.{ℕ, ◌≡◌, ◌≢◌, ◌-◌, ◌≤◌, ◌<◌, ◌⊎◌, List}
use Rattle.inst_text.specs.Shop.{JobShop}
use Rattle.bb_shop.specs.declared.verdict.ShopVerdict.{ShopVerdict}
use Rattle.bb_shop.specs.declared.verdict.ShopVerdict.TheVariants.{Feasible, BadOrder, BadMachine, BadMakespan}
use Rattle.bb_shop.specs.Plans.{start_at, end_at, IsOperation, IsBefore, ArePair, AreInOrder, IsFeasible, makespan}

-- the operation of job j at step k starts before the end of the one before it
abbrev pub IsEarly : JobShop → List (List ℕ) → ℕ → ℕ → Type 0
IsEarly s starts j k = (1 ≤ k) × (start_at starts j k < end_at s starts j (k - 1))

-- it is the first such operation, by job and step
pub record IsFirstEarly (s : JobShop) (starts : List (List ℕ)) (j k : ℕ) : Type 0 where
  pub operation : IsOperation s j k
  pub early : IsEarly s starts j k
  pub first : (i h : ℕ) → IsOperation s i h → IsBefore i h j k → IsEarly s starts i h → ⊥

-- a pair of one machine's operations of which each starts before the other ends
pub record Overlap (s : JobShop) (starts : List (List ℕ)) (i h j k : ℕ) : Type 0 where
  pub pair : ArePair s i h j k
  pub one : start_at starts i h < end_at s starts j k
  pub other : start_at starts j k < end_at s starts i h

-- the pair of a and b stands before the pair of c and d, each given by job and step
abbrev pub IsPairBefore : ℕ → ℕ → ℕ → ℕ → ℕ → ℕ → ℕ → ℕ → Type 0
IsPairBefore aj ak bj bk cj ck dj dk = IsBefore aj ak cj ck ⊎ ((aj ≡ cj) × (ak ≡ ck) × IsBefore bj bk dj dk)

-- it is the first such pair, by job and step of the one and then of the other
pub record IsFirstOverlap (s : JobShop) (starts : List (List ℕ)) (i h j k : ℕ) : Type 0 where
  pub overlap : Overlap s starts i h j k
  pub first : (a b c d : ℕ) → IsPairBefore a b c d i h j k → Overlap s starts a b c d → ⊥

-- The first clause that fails: the first operation that starts too early, else the first pair that overlaps on a
-- machine, else a makespan that is not the stated one.
abbrev pub IsVerdict : JobShop → List (List ℕ) → ℕ → ShopVerdict → Type 0
IsVerdict s starts stated (BadOrder j k) = IsFirstEarly s starts j k
IsVerdict s starts stated (BadMachine i h j k) = AreInOrder s starts × IsFirstOverlap s starts i h j k
IsVerdict s starts stated (BadMakespan m) = IsFeasible s starts × (m ≡ makespan s starts) × (m ≢ stated)
IsVerdict s starts stated Feasible = IsFeasible s starts × (makespan s starts ≡ stated)
