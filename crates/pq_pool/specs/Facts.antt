-- What the words of the pool and the views of the seats keep between any two steps.
use Rattle.std.specs.Prelude.{◌≡◌, ◌≢◌, ℕ, suc, ◌<◌, ◌≤◌, true, false, List, length, Contains, slice_index}
use mathlib.Core.Option.{some}
use lib.ListN.{get_elem?}
use Rattle.pq_model.specs.Limits.{max_seats}
use Rattle.pq_model.specs.History.{IsSeat}
use Rattle.pq_seats.specs.declared.views.Limits.{Limits}
use Rattle.pq_seats.specs.declared.views.Post.{Post}
use Rattle.pq_pool.specs.declared.views.PoolState.{PoolState}
use Rattle.pq_pool.specs.declared.views.PoolView.{PoolView}
use Rattle.pq_pool.specs.Layout.{Chunks, builder_word, pin_word, next_word}
use Rattle.pq_pool.specs.States.{IsInUse, IsSafe, Sized, Written, state_of, old_state}

-- Of each post `view_of` tells the pool's part
module _ {O : Type 0} (view_of : O → PoolView) where
  -- A pinned seat stands on a live or young chunk, or on an old one whose grace bit for that seat is still set
  pub record IsPinned (words : List ℕ) (chunks seats : ℕ) (counted : PoolState) (p : Post O) : Type 0 where
    pub seat : IsSeat seats p.number
    pub word : slice_index words (pin_word p.number) ≡ 1
    pub safe : (c : ℕ) → Contains (view_of p.own).stands c → (c < chunks) × IsSafe counted p.number c

  -- The view of the builder names the states and bits, as they count and as they are written. It has no pin
  pub record IsBuilder (words : List ℕ) (chunks seats : ℕ) (counted : PoolState) (p : Post O) : Type 0 where
    pub seat : IsSeat seats p.number
    pub word : slice_index words builder_word ≡ p.number
    pub names : (view_of p.own).counted ≡ counted
    pub sized : Sized chunks seats (view_of p.own).stored
    pub written : Written chunks seats words (view_of p.own).stored
    pub unpinned : (view_of p.own).pinned ≡ false
    pub no_pin : slice_index words (pin_word p.number) ≡ 0

  pub record PoolFacts (k : Limits) (words : List ℕ) (posts : List (Post O)) : Type 0 where
    pub few_seats : k.seats ≤ max_seats
    pub long : length words ≡ k.words
    pub chunks : Chunks k.words
    -- Each chunk is free, being built, live, young or old. This is how the chunks and the grace bits count
    pub counted : PoolState
    pub sized : Sized chunks.count k.seats counted
    pub kinds : (c : ℕ) → state_of counted c ≤ old_state
    -- Live chunks link to live ones, young ones to live or young ones, old ones to live, young or old ones; each of
    -- them may also have no link
    pub links : (c next : ℕ) → c < chunks.count → slice_index words (next_word c) ≡ suc next → IsInUse counted c
        → (next < chunks.count) × IsInUse counted next × (state_of counted next ≤ state_of counted c)
    -- while the builder's word is free the words are as they count, and while it is held, as the holder's view names
    pub free : slice_index words builder_word ≡ 0 → Written chunks.count k.seats words counted
    pub held : (j : ℕ) (p : Post O) → get_elem? posts j ≡ some p → Contains p.locks builder_word
        → IsBuilder words chunks.count k.seats counted p
    -- a seat whose view says so is pinned, and where a pin word is not 0, the view of its seat says so
    pub pinned : (j : ℕ) (p : Post O) → get_elem? posts j ≡ some p → 0 < p.number → (view_of p.own).pinned ≡ true
        → IsPinned words chunks.count k.seats counted p
    pub loose : (n : ℕ) → IsSeat k.seats n → slice_index words (pin_word n) ≢ 0
        → (j : ℕ) × (p : Post O) × (get_elem? posts j ≡ some p) × (p.number ≡ n) × ((view_of p.own).pinned ≡ true)
