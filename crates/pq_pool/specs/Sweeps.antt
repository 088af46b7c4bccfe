-- What a sweep does to the view of the builder, and what the taking of a chunk does after it.
use Rattle.std.specs.Prelude.{◌≡◌, ◌≢◌, ◌⊎◌, ℕ, ◌+◌, ◌<◌, ◌≤◌, Bool, true, false, List, [], ◌∷◌, ◌++◌, length, Contains}
use Rattle.pq_pool.specs.declared.views.PoolView.{PoolView}
use Rattle.pq_pool.specs.States.{grace_of, built_state, IsFree, Agrees}
use Rattle.pq_pool.specs.Views.{KeepsPin, batches_turned, moved}

-- A seat's bit after the loads of a sweep: it was not set; or the seat's pin word was loaded as 0, and it is cleared;
-- or the word was loaded as 1, and it is left. These are the loads of this sweep alone
abbrev pub WasUnset : PoolView → ℕ → Type 0
WasUnset v n = grace_of v.counted n ≡ 0

abbrev pub IsCleared : List (ℕ × ℕ) → PoolView → ℕ → Type 0
IsCleared loads v n = (grace_of v.counted n ≡ 0) × Contains loads (n, 0)

abbrev pub IsLeft : List (ℕ × ℕ) → PoolView → PoolView → ℕ → Type 0
IsLeft loads v w n = (grace_of w.counted n ≡ grace_of v.counted n) × (grace_of w.counted n ≢ 0) × Contains loads (n, 1)

-- The loads of one pass over the seats below n, the last first: each is of a lower seat than the one after it, so no
-- seat's word is loaded twice
abbrev pub IsOnePass : ℕ → List (ℕ × ℕ) → Type 0
IsOnePass n [] = Unit {0}
IsOnePass n (x ∷ xs) = (x.0 < n) × IsOnePass x.0 xs

-- The bits of the seats below n have been gone over once, and `left` tells whether one of them is left
pub record GoneOver (seats : ℕ) (v w : PoolView) (n : ℕ) (left : Bool) : Type 0 where
  pub states : w.counted.states ≡ v.counted.states
  pub agrees : Agrees seats w.stored w.counted
  pub pin : KeepsPin v w
  -- whose pin words this sweep has loaded, and what was read: once for each seat whose bit was set
  pub loads : List (ℕ × ℕ)
  pub loaded : w.loaded ≡ loads ++ v.loaded
  pub once : IsOnePass n loads
  pub where_set : (x : ℕ × ℕ) → Contains loads x → grace_of v.counted x.0 ≢ 0
  pub each : (m : ℕ) → 1 ≤ m → m < n
      → ((WasUnset v m × (grace_of w.counted m ≡ 0)) ⊎ (IsCleared loads w m ⊎ IsLeft loads v w m))
  pub rest : (m : ℕ) → n ≤ m → grace_of w.counted m ≡ grace_of v.counted m
  pub none : left ≡ false → (m : ℕ) → 1 ≤ m → m < n → grace_of w.counted m ≡ 0
  pub some : left ≡ true → (m : ℕ) × (1 ≤ m) × (m < n) × (grace_of w.counted m ≢ 0)

-- The batches have turned: the old chunks are free, the young ones old, and the bits of all seats but the builder's own
-- are set
pub record Turned (seats builder : ℕ) (v w : PoolView) : Type 0 where
  pub counted : w.counted ≡ batches_turned v.counted seats builder
  pub agrees : Agrees seats w.stored w.counted
  pub pin : KeepsPin v w
  pub loaded : w.loaded ≡ v.loaded

-- A whole sweep: where it leaves no bit, and only there, the batches turn
pub record Swept (seats builder : ℕ) (v w : PoolView) : Type 0 where
  pub between : PoolView
  pub left : Bool
  pub gone_over : GoneOver seats v between (seats + 1) left
  pub waits : left ≡ true → w ≡ between
  pub turns : left ≡ false → Turned seats builder between w

-- After the sweep no chunk was free
pub record NoneFree (swept w : PoolView) : Type 0 where
  pub same : w ≡ swept
  pub all : (c : ℕ) → c < length swept.counted.states → ¬ IsFree swept.counted c

-- The free chunk of least number is being built
pub record LeastFree (swept w : PoolView) (c : ℕ) : Type 0 where
  pub chunk : c < length swept.counted.states
  pub free : IsFree swept.counted c
  pub least : (b : ℕ) → b < c → ¬ IsFree swept.counted b
  pub built : w ≡ moved swept c built_state
