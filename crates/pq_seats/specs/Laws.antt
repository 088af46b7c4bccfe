-- What keeps the rule of a table, for the steps that a queue makes itself, and what the rule bounds.
use Rattle.std.specs.Prelude.{◌≡◌, ◌≢◌, ℕ, ◌+◌, ◌-◌, ◌*◌, ◌<◌, ◌≤◌, ◌⊎◌, false, None}
use Rattle.std.specs.Prelude.{List, length, slice_index, slice_set, Contains}
use Rattle.pq_words.specs.declared.entries.Entry.{Entry}
use Rattle.pq_model.specs.declared.marks.Act.{Act}
use Rattle.pq_model.specs.Limits.{max_seats}
use Rattle.pq_model.specs.History.{IsSeat, left}
use Rattle.pq_model.specs.Passes.{Witnesses}
use Rattle.pq_api.specs.Limits.{call_limit}
use Rattle.pq_seats.specs.declared.views.Limits.{Limits}
use Rattle.pq_seats.specs.declared.views.Post.{Post}
use Rattle.pq_seats.specs.declared.views.View.{View}
use Rattle.pq_seats.specs.Views.{known_of, with_post, with_seen}
use Rattle.pq_seats.specs.Letters.{back}
use Rattle.pq_seats.specs.Batches.{Batch, marks_of}
use Rattle.pq_seats.specs.Posts.{placed_view, helped_post, owing_back}
use Rattle.pq_seats.specs.Rules.{Table, Rule, TiedAfter, Holds, Stands}
use Rattle.pq_seats.specs.Allowed.{IsOwnChange, Places, Helps, SendsBack}

-- the greatest length of a history: each of 16 passes has made 2^25 - 1 calls, which is 536,870,896 together
abbrev pub history_limit : ℕ
history_limit = max_seats * (call_limit - 1)

-- a letter is none, Back, or a place plus 1 that is at most that length
abbrev pub IsSmall : ℕ → Type 0
IsSmall letter = (letter ≡ back) ⊎ (letter ≤ history_limit)

-- no history is longer, and no letter, written or owed, names a later place
pub record Fields {O : Type 0} (R : Rule O) (k : Limits) (s : Table O) (h : Holds R k s) : Type 0 where
  pub history : length h.history ≤ history_limit
  pub written : (n : ℕ) → IsSeat k.seats n → IsSmall (slice_index s.words n)
  pub owed : (j : ℕ) (v : View O) (x : ℕ × ℕ) → Stands R s j v → Contains v.post.owed x → IsSmall x.1

-- the state after a step of one seat: this word is x then, and the seat's view is w
abbrev pub stepped_to : {O : Type 0} → Table O → ℕ → ℕ → ℕ → View O → Table O
stepped_to s i x id w = record s { words = slice_set s.words i x; views = slice_set s.views id w }

-- The seat's front may become this: it stays, or it rises to a length that the history has, where no insert of the
-- seat is in flight
abbrev pub MaySee : {O : Type 0} → ℕ → View O → ℕ → Type 0
MaySee long v front = (front ≡ v.front) ⊎ ((v.front ≤ front) × (front ≤ long) × (v.post.flight ≡ None))

module _ {O : Type 0} (R : Rule O) where
  abbrev pub FieldsSuffice : Type 0
  FieldsSuffice = (k : Limits) (s : Table O) (h : Holds R k s) → Fields R k s h

  -- a seat without an insert in flight knows the history of the state
  abbrev pub SeatsKnow : Type 0
  SeatsKnow = (k : Limits) (s : Table O) (h : Holds R k s) (id : ℕ) (v : View O)
      → Stands R s id v → v.post.flight ≡ None → v.post.number ≢ 0
      → Witnesses v.limits.seats v.limits.capacity (known_of v) h.history

  -- a step on a word that is neither the history word, nor a letter, nor a lock
  abbrev pub OwnStepsKeep : Type 0
  OwnStepsKeep = (k : Limits) (s : Table O) (h : Holds R k s) (id : ℕ) (v : View O) (p : Post O) (i x : ℕ)
      → Stands R s id v → v.post.number ≢ 0 → max_seats < i → R.locks k i ≡ false → IsOwnChange v p
      → TiedAfter R k s i x id p (left h.history)
      → Holds R k (stepped_to s i x id (with_post v p))

  -- a step on such a word that sends another seat's insert back
  abbrev pub BackStepsKeep : Type 0
  BackStepsKeep = (k : Limits) (s : Table O) (h : Holds R k s) (id : ℕ) (v : View O) (owner : ℕ) (own : O) (i x : ℕ)
      → Stands R s id v → v.post.number ≢ 0 → max_seats < i → R.locks k i ≡ false
      → SendsBack R k id v owner own i x s h
      → Holds R k (stepped_to s i x id (with_post v (owing_back v.post owner own)))

  -- a step on the history word that places no mark
  abbrev pub SilentStepsKeep : Type 0
  SilentStepsKeep = (k : Limits) (s : Table O) (h : Holds R k s) (id : ℕ) (v : View O) (p : Post O) (front x : ℕ)
      → Stands R s id v → v.post.number ≢ 0 → R.length_of x ≡ length h.history → IsOwnChange v p
      → MaySee (length h.history) v front
      → TiedAfter R k s 0 x id p (left h.history)
      → Holds R k (stepped_to s 0 x id (with_post (with_seen v front) p))

  -- a step on the history word that places a batch with the seat's own call
  abbrev pub PlacingStepsKeep : Type 0
  PlacingStepsKeep = (k : Limits) (s : Table O) (h : Holds R k s) (id : ℕ) (v : View O)
      → (act : Act) (b : Batch) (own : O) (x : ℕ)
      → Stands R s id v → v.post.number ≢ 0 → Places R k id v act b own x s h
      → R.length_of x ≡ length h.history + length (marks_of v.post.number act b)
      → length (known_of v).calls < call_limit - 1
      → Holds R k (stepped_to s 0 x id (placed_view v act b own (length h.history)))

  -- a step on the history word that places inserts of others alone
  abbrev pub HelpingStepsKeep : Type 0
  HelpingStepsKeep = (k : Limits) (s : Table O) (h : Holds R k s) (id : ℕ) (v : View O)
      → (hs : List (ℕ × Entry)) (own : O) (x : ℕ)
      → Stands R s id v → v.post.number ≢ 0 → Helps R k id v hs own x s h
      → Holds R k (stepped_to s 0 x id (with_post v (helped_post v.post hs own (length h.history))))
