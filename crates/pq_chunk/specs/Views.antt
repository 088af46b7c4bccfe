-- The parts of a view, and what they count for.
use Rattle.std.specs.Prelude.{◌≡◌, ℕ, ◌==◌, Bool, true, false, Option, Some, None, List, [], Contains}
use Rattle.std.specs.List.{count_by}
use mathlib.Core.Bool.{cond}
use Rattle.pq_words.specs.declared.entries.Entry.{Entry}
use Rattle.pq_words.specs.Entries.{raw_of}
use Rattle.pq_seats.specs.declared.views.Post.{Post}
use Rattle.pq_pool.specs.declared.views.PoolView.{PoolView}
use Rattle.pq_pool.specs.Views.{idle_view}
use Rattle.pq_pool.specs.Parts.{PoolPart}
use Rattle.pq_chunk.specs.declared.views.ChunkView.{ChunkView}
use Rattle.pq_chunk.specs.declared.views.FrontView.{FrontView}
use Rattle.pq_chunk.specs.declared.views.BuilderView.{BuilderView}
use Rattle.pq_chunk.specs.declared.views.Stage.{Stage}
use Rattle.pq_chunk.specs.declared.views.Stage.TheVariants.{Idle, AtFirst, Past, At, Within, Armed, Drawn, Waiting, Marked, Offered}
use Rattle.pq_chunk.specs.declared.views.Reading.TheVariants.{Nothing}

-- where the pool's part of it stands
abbrev pub pool_of : ChunkView → PoolView
pool_of o = o.pool

abbrev pub chunk_pool : PoolPart ChunkView
chunk_pool = record { view_of = pool_of; with_view = λ o v. record o { pool = v } }

-- of a new seat
abbrev pub idle_front : FrontView
idle_front = record { armed = false; word = 0; loads = 0 }

abbrev pub idle_builder : BuilderView
idle_builder = record { outside = []; freezing = None; notes = []; offers = [] }

abbrev pub idle_chunk : ChunkView
idle_chunk =
    record { pool = idle_view; front = idle_front; stage = Idle; reading = Nothing; builder = idle_builder }

-- A seat at rest may have read front words and looked at chunks. It has no pin, has drawn nothing, and builds nothing
pub record Rests (o : ChunkView) : Type 0 where
  pub unpinned : o.pool.pinned ≡ false
  pub unarmed : o.front.armed ≡ false
  pub idle : o.stage ≡ Idle
  pub unread : o.reading ≡ Nothing
  pub builder : o.builder ≡ idle_builder

-- the seat may stand on the chunk
pub record IsOn (v : PoolView) (c : ℕ) : Type 0 where
  pub pinned : v.pinned ≡ true
  pub stands : Contains v.stands c

-- 1 where the seat has a claim: its insert is in flight
abbrev pub one_for : Option Entry → ℕ
one_for None = 0
one_for (Some e) = 1

abbrev pub claim_of : Post ChunkView → ℕ
claim_of p = one_for p.flight

-- 1 where it is armed for the front word
abbrev pub armed_of : Post ChunkView → ℕ
armed_of p = cond p.own.front.armed 1 0

-- 1 where its insert is armed for the count of the chunk
abbrev pub armed_stage : ℕ → Stage → ℕ
armed_stage c Idle = 0
armed_stage c (AtFirst b) = 0
armed_stage c (Past b e) = 0
armed_stage c (At b e) = 0
armed_stage c (Within b e) = 0
armed_stage c (Armed b e) = cond (b == c) 1 0
armed_stage c (Drawn b i e) = 0
armed_stage c (Waiting b i e) = 0
armed_stage c (Marked b i e) = 0
armed_stage c Offered = 0

abbrev pub armed_for : ℕ → Post ChunkView → ℕ
armed_for c p = armed_stage c p.own.stage

-- what the entry weighs whose mark is made, while its place is not In yet
abbrev pub stage_weight : (ℕ → ℕ) → Stage → ℕ
stage_weight f Idle = 0
stage_weight f (AtFirst b) = 0
stage_weight f (Past b e) = 0
stage_weight f (At b e) = 0
stage_weight f (Within b e) = 0
stage_weight f (Armed b e) = 0
stage_weight f (Drawn b i e) = 0
stage_weight f (Waiting b i e) = 0
stage_weight f (Marked b i e) = f (raw_of e)
stage_weight f Offered = 0

abbrev pub marked_weight : (ℕ → ℕ) → Post ChunkView → ℕ
marked_weight f p = stage_weight f p.own.stage

-- whether it has stored an offer since it last took a letter
abbrev pub is_offered : Stage → Bool
is_offered Idle = false
is_offered (AtFirst b) = false
is_offered (Past b e) = false
is_offered (At b e) = false
is_offered (Within b e) = false
is_offered (Armed b e) = false
is_offered (Drawn b i e) = false
is_offered (Waiting b i e) = false
is_offered (Marked b i e) = false
is_offered Offered = true

-- how often the chunk is in the list, and among the live ones outside the chain
abbrev pub times : ℕ → List ℕ → ℕ
times c l = count_by (λ (x : ℕ). x == c) l

abbrev pub outside_of : ℕ → Post ChunkView → ℕ
outside_of c p = times c p.own.builder.outside
