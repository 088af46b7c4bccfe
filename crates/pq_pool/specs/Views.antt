-- What each step makes of the pool's part of a view.
use Rattle.std.specs.Prelude.{◌≡◌, ℕ, zero, suc, true, false, List, [], ◌∷◌, map, replicate, slice_set}
use Rattle.pq_pool.specs.declared.views.PoolState.{PoolState}
use Rattle.pq_pool.specs.declared.views.PoolView.{PoolView}
use Rattle.pq_pool.specs.States.{turned}

abbrev pub pool_state : List ℕ → List ℕ → PoolState
pool_state states grace = record { states = states; grace = grace }

-- of a seat that has no pin and does not build
abbrev pub idle_view : PoolView
idle_view = record {
  pinned = false;
  stands = [];
  looks = 0;
  stored = pool_state [] [];
  counted = pool_state [] [];
  loaded = [];
}

-- a pin, or a look under it, by which the seat stands on these chunks; and the end of the pin
abbrev pub pinned_on : PoolView → List ℕ → PoolView
pinned_on v stands = record v { pinned = true; stands = stands; looks = suc v.looks }

abbrev pub unpinned : PoolView → PoolView
unpinned v = record v { pinned = false; stands = [] }

-- its pin is as it was, and so are the chunks on which it stands
abbrev pub KeepsPin : PoolView → PoolView → Type 0
KeepsPin v w = (w.pinned ≡ v.pinned) × (w.stands ≡ v.stands) × (w.looks ≡ v.looks)

abbrev pub with_state : PoolState → ℕ → ℕ → PoolState
with_state b c x = pool_state (slice_set b.states c x) b.grace

abbrev pub with_grace : PoolState → ℕ → ℕ → PoolState
with_grace b n x = pool_state b.states (slice_set b.grace n x)

-- a bit no more counts once the pin word of its seat was loaded as 0
abbrev pub heard : PoolState → ℕ → ℕ → PoolState
heard b n zero = with_grace b n 0
heard b n (suc x) = b

-- the builder loads the pin word of a seat
abbrev pub pin_loaded : PoolView → ℕ → ℕ → PoolView
pin_loaded v n found = record v { counted = heard v.counted n found; loaded = (n, found) ∷ v.loaded }

-- it stores a bit or a state, which changes nothing that counts
abbrev pub grace_stored : PoolView → ℕ → ℕ → PoolView
grace_stored v n x = record v { stored = with_grace v.stored n x }

abbrev pub state_stored : PoolView → ℕ → ℕ → PoolView
state_stored v c x = record v { stored = with_state v.stored c x }

-- it stores a state that counts from then on
abbrev pub moved : PoolView → ℕ → ℕ → PoolView
moved v c x = record v { stored = with_state v.stored c x; counted = with_state v.counted c x }

-- the grace bits of all seats but one
abbrev pub all_but : ℕ → ℕ → List ℕ
all_but seats n = slice_set (replicate (suc seats) 1) n 0

-- what counts once the batches have turned
abbrev pub batches_turned : PoolState → ℕ → ℕ → PoolState
batches_turned b seats builder = pool_state (map turned b.states) (all_but seats builder)

-- the batches turn at the store of the first bit
abbrev pub turned_at : PoolView → ℕ → ℕ → ℕ → PoolView
turned_at v seats builder x =
    record v { stored = with_grace v.stored 1 x; counted = batches_turned v.counted seats builder }
