-- The steps of the builder that leave the live chunks: those of a sweep, and the taking of a free chunk. A rule that
-- stands on the pool has to allow these, and sees no more of a sweep.
use Rattle.std.specs.Prelude.{◌≡◌, ◌≢◌, ◌⊎◌, ℕ, ◌<◌, List, ◌∷◌, length, slice_index}
use Rattle.pq_model.specs.History.{IsSeat}
use Rattle.pq_pool.specs.declared.views.PoolState.{PoolState}
use Rattle.pq_pool.specs.declared.views.PoolView.{PoolView}
use Rattle.pq_pool.specs.Layout.{pin_word, grace_word, state_word}
use Rattle.pq_pool.specs.States.{state_of, grace_of, IsFree, IsBuilt, Sized, Written, turned}
use Rattle.pq_pool.specs.Views.{KeepsPin}

-- the word is a grace bit or a state
abbrev pub IsSwept : ℕ → ℕ → ℕ → Type 0
IsSwept chunks seats i =
    ((n : ℕ) × IsSeat seats n × (i ≡ grace_word n)) ⊎ ((c : ℕ) × (c < chunks) × (i ≡ state_word c))

-- No chunk changes its state, but a free one may be taken. A bit changes only where the seat's pin word is 0
pub record Rests (seats : ℕ) (words : List ℕ) (a b : PoolState) : Type 0 where
  pub states : (c : ℕ) → (state_of b c ≡ state_of a c) ⊎ (IsFree a c × IsBuilt b c)
  pub grace : (n : ℕ) → IsSeat seats n → (grace_of b n ≡ grace_of a n) ⊎ (slice_index words (pin_word n) ≡ 0)

-- No bit was left: the old chunks become free, the young ones old, and the bits of all seats but the builder's own
-- are set
pub record Turns (seats builder : ℕ) (a b : PoolState) : Type 0 where
  pub cleared : (n : ℕ) → IsSeat seats n → grace_of a n ≡ 0
  pub states : (c : ℕ) → state_of b c ≡ turned (state_of a c)
  pub grace : (n : ℕ) → IsSeat seats n → n ≢ builder → grace_of b n ≢ 0

-- The list of the pin words that the builder has loaded stays, or has one more, as it is in the words
abbrev pub IsLoaded : ℕ → List ℕ → PoolView → PoolView → Type 0
IsLoaded seats words v v' = (v'.loaded ≡ v.loaded)
    ⊎ ((n : ℕ) × IsSeat seats n × (v'.loaded ≡ (n, slice_index words (pin_word n)) ∷ v.loaded))

-- Such a step, from the words and the view that were to those that are
pub record Builds (chunks seats builder : ℕ) (words words' : List ℕ) (v v' : PoolView) : Type 0 where
  pub long : length words' ≡ length words
  pub others : (i : ℕ) → ¬ IsSwept chunks seats i → slice_index words' i ≡ slice_index words i
  pub stored : Sized chunks seats v'.stored
  pub counted : Sized chunks seats v'.counted
  pub written : Written chunks seats words' v'.stored
  pub moves : Rests seats words v.counted v'.counted ⊎ Turns seats builder v.counted v'.counted
  pub pin : KeepsPin v v'
  pub loaded : IsLoaded seats words v v'
