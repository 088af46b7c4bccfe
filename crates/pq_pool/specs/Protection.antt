-- What happens to the chunks while a seat stays pinned.
use Rattle.std.specs.Prelude.{◌≡◌, ◌≢◌, ◌⊎◌, ℕ, zero, suc, ◌<◌, ◌≤◌, List, slice_index}
use Rattle.pq_model.specs.History.{IsSeat}
use Rattle.pq_pool.specs.declared.views.PoolState.{PoolState}
use Rattle.pq_pool.specs.Layout.{pin_word}
use Rattle.pq_pool.specs.States.{state_of, grace_of, old_state, IsFree, IsLive, IsYoung, IsSafe}
use Rattle.pq_pool.specs.Builds.{Rests, Turns}

-- Some chunks become live or young, and the bits stay: a chunk is published or retired, or a rule above makes several
-- live at once
pub record Moves (a b : PoolState) : Type 0 where
  pub states : (c : ℕ) → (state_of b c ≡ state_of a c) ⊎ (IsLive b c ⊎ IsYoung b c)
  pub grace : (n : ℕ) → grace_of b n ≡ grace_of a n

-- What a step makes of the chunks and bits as they count, where the words before it are these and this seat builds.
-- That nothing changes is a case of `Rests`
abbrev pub Goes : ℕ → ℕ → List ℕ → PoolState → PoolState → Type 0
Goes seats builder words a b = Rests seats words a b ⊎ (Turns seats builder a b ⊎ Moves a b)

-- The words, and the chunks and bits as they count, at moments one after the other from 0 to `last`. At all of them
-- the seat n is pinned, so it is no builder
pub record WhilePinned (seats n last : ℕ) (words : ℕ → List ℕ) (counted : ℕ → PoolState) : Type 0 where
  pub seat : IsSeat seats n
  pub kinds : (c : ℕ) → state_of (counted zero) c ≤ old_state
  pub pinned : (i : ℕ) → i ≤ last → slice_index (words i) (pin_word n) ≡ 1
  pub builder : ℕ → ℕ
  pub apart : (i : ℕ) → builder i ≢ n
  pub steps : (i : ℕ) → i < last → Goes seats (builder i) (words i) (counted i) (counted (suc i))

-- A chunk that is live, or young, or safe for the seat in another way, at any moment of its pin is safe for it at each
-- later one, and so not free
abbrev pub PinsProtect : Type 0
PinsProtect = (seats n last : ℕ) (words : ℕ → List ℕ) (counted : ℕ → PoolState)
    → WhilePinned seats n last words counted → (i j c : ℕ) → i ≤ j → j ≤ last
    → IsLive (counted i) c ⊎ (IsYoung (counted i) c ⊎ IsSafe (counted i) n c)
    → IsSafe (counted j) n c × ¬ IsFree (counted j) c
