-- What each step of an insert or a removal makes of the seat's view, and of the front word.
use Rattle.std.specs.Prelude.{ℕ, suc, ◌-◌, Bool, false, Some, [], ◌∷◌}
use Rattle.pq_words.specs.declared.entries.Entry.{Entry}
use Rattle.pq_words.specs.declared.fronts.Front.{Front}
use Rattle.pq_model.specs.declared.marks.Reply.{Reply}
use Rattle.pq_seats.specs.declared.views.Post.{Post}
use Rattle.pq_seats.specs.declared.views.View.{View}
use Rattle.pq_seats.specs.Views.{with_post}
use Rattle.pq_seats.specs.Batches.{Batch}
use Rattle.pq_pool.specs.Views.{pinned_on}
use Rattle.pq_chunk.specs.declared.views.ChunkView.{ChunkView}
use Rattle.pq_chunk.specs.declared.views.Stage.{Stage}
use Rattle.pq_chunk.specs.declared.views.Stage.TheVariants.{Marked}
use Rattle.pq_chunk.specs.declared.views.Reading.TheVariants.{Nothing, Reads}

abbrev pub with_own : Post ChunkView → ChunkView → Post ChunkView
with_own p o = record p { own = o }

abbrev pub with_view : View ChunkView → ChunkView → View ChunkView
with_view v o = with_post v (with_own v.post o)

-- the front word with one claim more, one more in its total, or one less that remains
abbrev pub more_claimed : Front → Front
more_claimed f = record f { claimed = suc f.claimed }

abbrev pub more_total : Front → Front
more_total f = record f { total = suc f.total }

abbrev pub less_remaining : Front → Front
less_remaining f = record f { remaining = f.remaining - 1 }

-- the seat has read this front word, and is armed for it or not
abbrev pub front_read : ChunkView → Bool → ℕ → ChunkView
front_read o armed word = record o { front = record { armed = armed; word = word; loads = suc o.front.loads } }

-- it has read a word, and is armed as before
abbrev pub front_seen : ChunkView → ℕ → ChunkView
front_seen o word = front_read o o.front.armed word

-- its insert has come so far, or to this chunk, on which it stands from then on
abbrev pub staged : ChunkView → Stage → ChunkView
staged o s = record o { stage = s }

abbrev pub come_to : ChunkView → ℕ → Stage → ChunkView
come_to o c s = record o { pool = pinned_on o.pool (c ∷ o.pool.stands); stage = s }

-- its insert is claimed
abbrev pub claimed : Post ChunkView → Entry → ℕ → Post ChunkView
claimed p e word = record p { flight = Some e; own = front_seen p.own word }

-- it drew the entry at this place of the chunk, on which it stands from then on
abbrev pub got_own : ChunkView → ℕ → ℕ → ℕ → Entry → ChunkView
got_own o word c i e =
    record (front_read o false word) { pool = pinned_on o.pool (c ∷ o.pool.stands); reading = Reads c i e }

-- it loaded what it drew
abbrev pub loaded_own : ChunkView → ChunkView
loaded_own o = record o { reading = Nothing }

-- its insert is placed, and its entry is Pending there
abbrev pub done_own : ChunkView → ℕ → ℕ → ℕ → Entry → ChunkView
done_own o word c i e = record (front_seen o word) { stage = Marked c i e }

-- a batch of the seat's own mark alone
abbrev pub lone : Reply → Batch
lone r = record { before = []; reply = r; after = [] }
