-- What keeps the rule: each step of an insert and of a removal, in each state in which the whole rule holds.
use Rattle.std.specs.Prelude.{◌≡◌, ℕ, suc, ◌-◌, ◌<◌, ◌≤◌, true, false, Some, None, length, slice_index}
use Rattle.pq_words.specs.Limits.{dry_at}
use Rattle.pq_words.specs.declared.entries.Entry.{Entry}
use Rattle.pq_words.specs.declared.place_words.PlaceWord.TheVariants.{In}
use Rattle.pq_words.specs.declared.fronts.Front.{Front}
use Rattle.pq_words.specs.Entries.{raw_of}
use Rattle.pq_words.specs.Fronts.{FitsFront, front_number, here, length_of, used_of}
use Rattle.pq_words.specs.PlaceWords.{place_number}
use Rattle.pq_model.specs.declared.marks.Act.TheVariants.{Insert, Remove}
use Rattle.pq_model.specs.declared.marks.Reply.TheVariants.{Got, Full}
use Rattle.pq_model.specs.History.{left}
use Rattle.pq_model.specs.Multiset.{least}
use Rattle.pq_api.specs.Limits.{call_limit}
use Rattle.pq_seats.specs.declared.views.Limits.{Limits}
use Rattle.pq_seats.specs.declared.views.View.{View}
use Rattle.pq_seats.specs.Views.{known_of, with_post}
use Rattle.pq_seats.specs.Posts.{placed_view}
use Rattle.pq_seats.specs.Rules.{Table, Holds, Stands}
use Rattle.pq_seats.specs.Laws.{stepped_to}
use Rattle.pq_chunk.specs.declared.views.ChunkView.{ChunkView}
use Rattle.pq_chunk.specs.declared.views.Stage.TheVariants.{Idle, At, Within, Armed, Drawn}
use Rattle.pq_chunk.specs.declared.views.Reading.TheVariants.{Nothing}
use Rattle.pq_chunk.specs.Layout.{place_count, count_limit, place_word, count_word, high_word}
use Rattle.pq_chunk.specs.Rules.{chunk_rule}
use Rattle.pq_chunk.specs.Steps.{with_view, more_claimed, more_total, less_remaining, front_read, front_seen, staged, claimed, got_own, lone}

-- A state of the table in which the rule holds, and a seat with a number whose view is this
pub record Moment (v : View ChunkView) : Type 0 where
  pub limits : Limits
  pub table : Table ChunkView
  pub holds : Holds chunk_rule limits table
  pub id : ℕ
  pub here : Stands chunk_rule table id v
  pub seated : 0 < v.post.number

-- the word i of it is x
abbrev pub WordIs : {v : View ChunkView} → Moment v → ℕ → ℕ → Type 0
WordIs m i x = slice_index m.table.words i ≡ x

-- the rule holds after a step that makes the word i x, and the seat's view w
abbrev pub Keeps : {v : View ChunkView} → Moment v → ℕ → ℕ → View ChunkView → Type 0
Keeps m i x w = Holds chunk_rule m.limits (stepped_to m.table i x m.id w)

-- its front word is that of f
pub record FrontIs {v : View ChunkView} (m : Moment v) (f : Front) : Type 0 where
  pub fits : FitsFront f
  pub word : WordIs m 0 (front_number f)

-- the seat has made few enough calls for one more
abbrev pub HasRoom : View ChunkView → Type 0
HasRoom v = length (known_of v).calls < call_limit - 1

-- *load-front*, and an exchange that lost: nothing but the reading of a word
abbrev pub FrontLoadsKeep : Type 0
FrontLoadsKeep = (v : View ChunkView) (m : Moment v) (word : ℕ) → WordIs m 0 word
    → Keeps m 0 word (with_view v (front_seen v.post.own word))

-- *load-front* of a word that shows an entry left: the seat is armed
abbrev pub FrontArmsKeep : Type 0
FrontArmsKeep = (v : View ChunkView) (m : Moment v) (f : Front) → FrontIs m f
    → v.post.own.front.armed ≡ false → dry_at < f.remaining
    → Keeps m 0 (front_number f) (with_view v (front_read v.post.own true (front_number f)))

-- *claim*: there is room for one more
abbrev pub ClaimsKeep : Type 0
ClaimsKeep = (v : View ChunkView) (m : Moment v) (f : Front) (e : Entry) → FrontIs m f
    → v.post.flight ≡ None → v.post.own.stage ≡ Idle → used_of f < m.limits.capacity → HasRoom v
    → Keeps m 0 (front_number (more_claimed f)) (with_post v (claimed v.post e (front_number f)))

-- *claim*, where as much is used as there is room: Full is the next mark, at the length of the word
abbrev pub FullsKeep : Type 0
FullsKeep = (v : View ChunkView) (m : Moment v) (f : Front) (e : Entry) → FrontIs m f
    → v.post.flight ≡ None → v.post.own.stage ≡ Idle → used_of f ≡ m.limits.capacity → HasRoom v
    → Keeps m 0 (front_number (more_total f))
    (placed_view v (Insert e) (lone Full) (front_seen v.post.own (front_number f)) (length_of f))

-- *draw-from-front* where an entry is left: Got is the next mark, at the length of the word that was found. Its entry
-- is the least of the multiset, and stands at the last place that was left
pub record IsDrawn {v : View ChunkView} (m : Moment v) (f : Front) (e : Entry) : Type 0 where
  pub least : least (left m.holds.history) ≡ Some e
  pub stands : WordIs m (place_word f.first (here f - 1)) (place_number (In e))
  pub keeps : Keeps m 0 (front_number (less_remaining f))
      (placed_view v Remove (lone (Got e))
      (got_own v.post.own (front_number f) f.first (here f - 1) e) (length_of f))

abbrev pub DrawsKeep : Type 0
DrawsKeep = (v : View ChunkView) (m : Moment v) (f : Front) → FrontIs m f
    → v.post.flight ≡ None → v.post.own.stage ≡ Idle → v.post.own.front.armed ≡ true
    → v.post.own.pool.pinned ≡ true → v.post.own.reading ≡ Nothing → dry_at < f.remaining → HasRoom v
    → (e : Entry) × IsDrawn m f e

-- *draw-from-front* where none is left: nothing is marked, and what remains does not fall below 0
pub record IsDry {v : View ChunkView} (m : Moment v) (f : Front) : Type 0 where
  pub some : 0 < f.remaining
  pub keeps : Keeps m 0 (front_number (less_remaining f))
      (with_view v (front_read v.post.own false (front_number f)))

abbrev pub DryDrawsKeep : Type 0
DryDrawsKeep = (v : View ChunkView) (m : Moment v) (f : Front) → FrontIs m f
    → v.post.own.front.armed ≡ true → f.remaining ≤ dry_at → IsDry m f

-- *load-chunk-word* of the high of the insert chunk that an insert has come to: the entry is within its bounds
abbrev pub WithinKeeps : Type 0
WithinKeeps = (v : View ChunkView) (m : Moment v) (c : ℕ) (e : Entry) (high : ℕ) → WordIs m (high_word c) high
    → v.post.own.stage ≡ At c e → raw_of e ≤ high
    → Keeps m (high_word c) high (with_view v (staged v.post.own (Within c e)))

-- *load-chunk-word* of its count, which shows a place left: the seat is armed for the count
abbrev pub CountArmsKeep : Type 0
CountArmsKeep = (v : View ChunkView) (m : Moment v) (c : ℕ) (e : Entry) (count : ℕ) → WordIs m (count_word c) count
    → v.post.own.stage ≡ Within c e → count < place_count
    → Keeps m (count_word c) count (with_view v (staged v.post.own (Armed c e)))

-- *count-up*: the place is drawn that the count named, or none was left. The count does not pass 80
abbrev pub CountsKeep : Type 0
CountsKeep = (v : View ChunkView) (m : Moment v) (c : ℕ) (e : Entry) (count : ℕ) → WordIs m (count_word c) count
    → v.post.own.stage ≡ Armed c e
    → (count < count_limit)
    × (count < place_count → Keeps m (count_word c) (suc count) (with_view v (staged v.post.own (Drawn c count e))))
    × (place_count ≤ count → Keeps m (count_word c) (suc count) (with_view v (staged v.post.own Idle)))
