-- What each step of the pool tells the seat that made it.
use Rattle.std.specs.Prelude.{◌≡◌, ◌⊎◌, ℕ, ◌-◌, ◌<◌, true, List, map, Contains}
use mathlib.Core.Option.{some}
use lib.ListN.{get_elem?}
use Rattle.atomic_table.specs.Table.{Me, Step}
use Rattle.pq_seats.specs.declared.views.Limits.{Limits}
use Rattle.pq_seats.specs.declared.views.Post.{Post}
use Rattle.pq_seats.specs.declared.views.View.{View}
use Rattle.pq_seats.specs.Views.{post_of}
use Rattle.pq_seats.specs.Rules.{Table, Rule, Holds, Stands}
use Rattle.pq_pool.specs.declared.views.PoolView.{PoolView}
use Rattle.pq_pool.specs.Layout.{state_word}
use Rattle.pq_pool.specs.States.{state_of, grace_of, built_state, IsFree, IsLive, IsSafe}
use Rattle.pq_pool.specs.Facts.{PoolFacts}
use Rattle.pq_pool.specs.Views.{pin_loaded, grace_stored, state_stored, moved, turned_at, pinned_on, unpinned}
use Rattle.pq_pool.specs.Parts.{PoolPart, pool_view, with_pool_view}

module _ {O : Type 0} (R : Rule O) (P : PoolPart O) where
  -- A state of the table in which the rule holds, under the limits that the view names. Some seat has this view there
  pub record Moment (v : View O) : Type 0 where
    pub limits : Limits
    pub named : v.limits ≡ limits
    pub table : Table O
    pub holds : Holds R limits table
    pub id : ℕ
    pub here : Stands R table id v
    pub posts : List (Post O)
    pub are : posts ≡ map post_of table.views
    pub facts : PoolFacts P.view_of limits table.words posts

  -- At the step, and in each moment in which the seat has this view, the chunk is free and no pinned seat stands on it
  pub record GivenOut (v : View O) (c : ℕ) : Type 0 where
    pub moment : Moment v
    pub free : (m : Moment v) → IsFree m.facts.counted c
    pub nobody : (m : Moment v) (j : ℕ) (p : Post O) → get_elem? m.posts j ≡ some p → 0 < p.number
        → (P.view_of p.own).pinned ≡ true → ¬ Contains (P.view_of p.own).stands c

  -- A seat whose pool's part was `old` has pinned itself: there is a moment at which it has this view, as the step's
  -- own is, and it stands on just the chunks that are live then, and where it was pinned before, on those on which it
  -- stood
  pub record StandsOnLive (old : PoolView) (v : View O) : Type 0 where
    pub moment : Moment v
    pub all : (c : ℕ) → IsLive moment.facts.counted c → Contains (pool_view P v).stands c
    pub only : (c : ℕ) → Contains (pool_view P v).stands c
        → IsLive moment.facts.counted c ⊎ ((old.pinned ≡ true) × Contains old.stands c)
    pub kept : old.pinned ≡ true → (c : ℕ) → Contains old.stands c → Contains (pool_view P v).stands c

  -- It has looked under its pin: there is a moment at which it has this view, as the step's own is, and it stands on
  -- all chunks that are safe for it then, and on each on which it stood
  pub record StandsOnSafe (old : PoolView) (v : View O) : Type 0 where
    pub moment : Moment v
    pub all : (c : ℕ) → IsSafe moment.facts.counted v.post.number c → Contains (pool_view P v).stands c
    pub kept : (c : ℕ) → Contains old.stands c → Contains (pool_view P v).stands c

  -- In each moment in which a seat has this view, each chunk on which it stands is safe for it, so none is free
  abbrev pub StandsSafely : View O → Type 0
  StandsSafely v = (m : Moment v) (c : ℕ) → Contains (pool_view P v).stands c
      → IsSafe m.facts.counted v.post.number c

  -- Of a step on a word: the view that was, what was found, and the view that is
  module _ (st : Step (Unit {0})) (m : Me (Unit {0}) (View O)) (found : ℕ) (m' : Me (Unit {0}) (View O)) where
    -- the builder loads a grace bit, a state, a pin word
    abbrev pub sees_grace : Type 0
    sees_grace = (m' ≡ m) × (found ≡ grace_of (pool_view P m.0).stored (st.word - 33))

    abbrev pub sees_state : Type 0
    sees_state = (m' ≡ m) × ((c : ℕ) × (st.word ≡ state_word c) × (found ≡ state_of (pool_view P m.0).stored c))

    abbrev pub sees_pin : Type 0
    sees_pin = (m' ≡ (with_pool_view P m.0 (pin_loaded (pool_view P m.0) (st.word - 17) found), m.1))
        × ((found ≡ 0) ⊎ (found ≡ 1))

    -- it stores a grace bit, a state, and the first bit of a new batch
    abbrev pub stores_grace : Type 0
    stores_grace = m' ≡ (with_pool_view P m.0 (grace_stored (pool_view P m.0) (st.word - 33) st.first), m.1)

    abbrev pub stores_state : Type 0
    stores_state = (c : ℕ) × (st.word ≡ state_word c)
        × (m' ≡ (with_pool_view P m.0 (state_stored (pool_view P m.0) c st.first), m.1))

    abbrev pub turns : Type 0
    turns = m' ≡ (with_pool_view P m.0 (turned_at (pool_view P m.0) m.0.limits.seats m.0.post.number st.first), m.1)

    -- it takes a free chunk, and makes a chunk live or young
    abbrev pub takes : Type 0
    takes = (c : ℕ) × (st.word ≡ state_word c)
        × (m' ≡ (with_pool_view P m.0 (moved (pool_view P m.0) c built_state), m.1)) × GivenOut m.0 c

    abbrev pub moves : Type 0
    moves = (c : ℕ) × (st.word ≡ state_word c) × (m' ≡ (with_pool_view P m.0 (moved (pool_view P m.0) c st.first), m.1))

    -- a seat pins itself, looks under its pin, and ends the pin
    abbrev pub pins : Type 0
    pins = (stands : List ℕ) × (m' ≡ (with_pool_view P m.0 (pinned_on (pool_view P m.0) stands), m.1))
        × StandsOnLive (pool_view P m.0) m'.0 × StandsSafely m'.0

    abbrev pub looks : Type 0
    looks = (stands : List ℕ) × (m' ≡ (with_pool_view P m.0 (pinned_on (pool_view P m.0) stands), m.1))
        × StandsOnSafe (pool_view P m.0) m'.0 × StandsSafely m'.0

    abbrev pub unpins : Type 0
    unpins = m' ≡ (with_pool_view P m.0 (unpinned (pool_view P m.0)), m.1)
