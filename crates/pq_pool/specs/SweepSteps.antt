-- What a sweep has done between its steps.
use Rattle.std.specs.Prelude.{◌≡◌, ◌≢◌, ◌⊎◌, ℕ, ◌<◌, ◌≤◌, Bool, true, false, ◌∷◌}
use Rattle.pq_pool.specs.declared.views.PoolView.{PoolView}
use Rattle.pq_pool.specs.States.{state_of, grace_of, Agrees}
use Rattle.pq_pool.specs.Views.{KeepsPin}

-- the bit of one seat was gone over, and `left` tells whether it is left
pub record SeatHeard (seats : ℕ) (v w : PoolView) (n : ℕ) (left : Bool) : Type 0 where
  pub states : w.counted.states ≡ v.counted.states
  pub agrees : Agrees seats w.stored w.counted
  pub pin : KeepsPin v w
  pub others : (m : ℕ) → m ≢ n → grace_of w.counted m ≡ grace_of v.counted m
  pub kept : left ≡ true
      → (grace_of w.counted n ≡ grace_of v.counted n) × (grace_of w.counted n ≢ 0) × (w.loaded ≡ (n, 1) ∷ v.loaded)
  pub gone : left ≡ false → (grace_of w.counted n ≡ 0)
      × (((grace_of v.counted n ≡ 0) × (w.loaded ≡ v.loaded))
      ⊎ ((grace_of v.counted n ≢ 0) × (w.loaded ≡ (n, 0) ∷ v.loaded)))

-- the bits of the seats below n are written as they count
pub record GraceStored (v w : PoolView) (n : ℕ) : Type 0 where
  pub counted : w.counted ≡ v.counted
  pub pin : KeepsPin v w
  pub loaded : w.loaded ≡ v.loaded
  pub states : w.stored.states ≡ v.stored.states
  pub grace : (m : ℕ) → 1 ≤ m → m < n → grace_of w.stored m ≡ grace_of w.counted m

-- the states of the chunks below n are written as they count
pub record StatesStored (v w : PoolView) (n : ℕ) : Type 0 where
  pub counted : w.counted ≡ v.counted
  pub pin : KeepsPin v w
  pub loaded : w.loaded ≡ v.loaded
  pub grace : w.stored.grace ≡ v.stored.grace
  pub below : (c : ℕ) → c < n → state_of w.stored c ≡ state_of v.counted c
  pub above : (c : ℕ) → n ≤ c → state_of w.stored c ≡ state_of v.stored c
