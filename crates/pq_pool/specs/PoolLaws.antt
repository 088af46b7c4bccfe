-- What a rule that stands on the pool owes it, in each state in which the rule holds.
use Rattle.std.specs.Prelude.{◌≡◌, ℕ, ◌<◌, true, false, ◌==◌, List, [], map, Contains, slice_set}
use Rattle.pq_model.specs.History.{left}
use Rattle.pq_seats.specs.declared.views.Limits.{Limits}
use Rattle.pq_seats.specs.declared.views.View.{View}
use Rattle.pq_seats.specs.Views.{post_of}
use Rattle.pq_seats.specs.Rules.{Table, Rule, TiedAfter, Holds, Stands}
use Rattle.pq_pool.specs.declared.views.PoolView.{PoolView}
use Rattle.pq_pool.specs.Layout.{Chunks, builder_word, pin_word, state_word}
use Rattle.pq_pool.specs.States.{IsSafe, Sized, Agrees}
use Rattle.pq_pool.specs.Facts.{PoolFacts}
use Rattle.pq_pool.specs.Views.{pinned_on, unpinned, moved}
use Rattle.pq_pool.specs.Builds.{Builds}
use Rattle.pq_pool.specs.Parts.{PoolPart, pool_view, with_pool_post}

-- the lists that the view of a builder names have a state for each chunk and a bit for each seat
pub record NamesAll (k : Limits) (v : PoolView) : Type 0 where
  pub chunks : Chunks k.words
  pub stored : Sized chunks.count k.seats v.stored
  pub counted : Sized chunks.count k.seats v.counted

-- the view of who has just taken the builder's word: the words are as they count, the seat has no pin and stands on
-- nothing, and it has neither looked nor loaded a pin word
pub record NamesWords (k : Limits) (v : PoolView) : Type 0 where
  pub all : NamesAll k v
  pub agrees : Agrees k.seats v.stored v.counted
  pub unpinned : v.pinned ≡ false
  pub nowhere : v.stands ≡ []
  pub unlooked : v.looks ≡ 0
  pub unloaded : v.loaded ≡ []

module _ {O : Type 0} (R : Rule O) (P : PoolPart O) where
  -- BUILDER is the number that the rule gives for the builder's word. The pool asks for nothing else, so a queue adds
  -- its own words, facts and steps without a change of the pool
  pub record PoolLaws (BUILDER : ℕ) : Type 0 where
    -- the builder's word is the one lock
    pub builder : BUILDER ≡ builder_word
    pub lock : (k : Limits) (i : ℕ) → R.locks k i ≡ i == builder_word
    -- the pool's part is what was last put there, and is put there alone
    pub reads : (o : O) (v : PoolView) → P.view_of (P.with_view o v) ≡ v
    pub again : (o : O) (v w : PoolView) → P.with_view (P.with_view o v) w ≡ P.with_view o w
    pub back : (o : O) → P.with_view o (P.view_of o) ≡ o
    -- the rule says the facts of the pool
    pub facts : (k : Limits) (s : Table O) → Holds R k s → PoolFacts P.view_of k s.words (map post_of s.views)
    -- Any seat that does not build may pin itself, on chunks that are safe for it. Where it is pinned already, its pin
    -- word is 1, and it may come to further ones: it leaves none on which it stands
    pub pins : (k : Limits) (s : Table O) (h : Holds R k s) (id : ℕ) (v : View O) → Stands R s id v → 0 < v.post.number
        → ¬ Contains v.post.locks builder_word → (stands : List ℕ)
        → ((c : ℕ) → Contains stands c
        → (c < (facts k s h).chunks.count) × IsSafe (facts k s h).counted v.post.number c)
        → ((pool_view P v).pinned ≡ true → (c : ℕ) → Contains (pool_view P v).stands c → Contains stands c)
        → TiedAfter R k s (pin_word v.post.number) 1 id
        (with_pool_post P v.post (pinned_on (pool_view P v) stands)) (left h.history)
    -- the builder may sweep, and take a free chunk
    pub builds : (k : Limits) (s : Table O) (h : Holds R k s) (id : ℕ) (v : View O) → Stands R s id v
        → Contains v.post.locks builder_word → (i x : ℕ) (w : PoolView)
        → Builds (facts k s h).chunks.count k.seats v.post.number s.words (slice_set s.words i x) (pool_view P v) w
        → TiedAfter R k s i x id (with_pool_post P v.post w) (left h.history)
    -- a pinned seat does not rest
    pub rests : (o : O) → R.rests o → (P.view_of o).pinned ≡ false
    -- who takes the builder's word finds the words as they count
    pub taken : (k : Limits) (o o' : O) → R.taken k o builder_word o' → NamesWords k (P.view_of o')

  -- What a rule has to allow at a single call: in each state in which it holds, the step keeps its facts
  module _ (k : Limits) (id : ℕ) (v : View O) where
    abbrev pub MayUnpin : Type 0
    MayUnpin = (s : Table O) (h : Holds R k s) → Stands R s id v
        → TiedAfter R k s (pin_word v.post.number) 0 id
        (with_pool_post P v.post (unpinned (pool_view P v))) (left h.history)

    -- the state of the chunk becomes x: live, or young
    abbrev pub MayMove : ℕ → ℕ → Type 0
    MayMove c x = (s : Table O) (h : Holds R k s) → Stands R s id v
        → TiedAfter R k s (state_word c) x id (with_pool_post P v.post (moved (pool_view P v) c x)) (left h.history)
