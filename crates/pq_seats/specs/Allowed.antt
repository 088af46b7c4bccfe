-- What a queue shows before a step: in each state in which the whole rule holds, the step keeps the queue's facts.
use Rattle.std.specs.Prelude.{◌≡◌, ◌≢◌, ℕ, ◌+◌, ◌-◌, ◌<◌, ◌≤◌, ◌⊎◌, ◌==◌, Some, None}
use Rattle.std.specs.Prelude.{List, map, length, Contains, slice_index}
use Rattle.std.specs.List.{count_by}
use mathlib.Core.Bool.{cond}
use mathlib.Core.Option.{some}
use lib.ListN.{get_elem?}
use Rattle.pq_words.specs.declared.entries.Entry.{Entry}
use Rattle.pq_model.specs.declared.marks.Act.{Act}
use Rattle.pq_model.specs.History.{IsLegalFrom, left_from, left}
use Rattle.pq_api.specs.Limits.{call_limit}
use Rattle.pq_seats.specs.declared.views.Limits.{Limits}
use Rattle.pq_seats.specs.declared.views.Post.{Post}
use Rattle.pq_seats.specs.declared.views.View.{View}
use Rattle.pq_seats.specs.Views.{known_of, post_of, IsAlike}
use Rattle.pq_seats.specs.Letters.{letter_count}
use Rattle.pq_seats.specs.Batches.{Batch, insert_of, marks_of}
use Rattle.pq_seats.specs.Posts.{with_lock, without_lock, without_letter, placed_post, helped_post, owing_back}
use Rattle.pq_seats.specs.Rules.{Table, Rule, TiedAfter, Holds, Stands}

-- What a queue's own step may make of a post: the number, the locks and the letters owed stay. An insert may come into
-- flight where none is, if the pass has made few enough calls
pub record IsOwnChange {O : Type 0} (v : View O) (p : Post O) : Type 0 where
  pub number : p.number ≡ v.post.number
  pub locks : p.locks ≡ v.post.locks
  pub owed : p.owed ≡ v.post.owed
  pub flight : (p.flight ≡ v.post.flight) ⊎ ((v.post.flight ≡ None) × (length (known_of v).calls < call_limit - 1))

-- how many of the inserts are of this seat
abbrev pub helps : ℕ → List (ℕ × Entry) → ℕ
helps n hs = count_by (λ (x : ℕ × Entry). x.0 == n) hs

-- the seat of this number has an insert of this entry in flight, and there is no letter for it
pub record Waits {O : Type 0} (s : Table O) (n : ℕ) (e : Entry) : Type 0 where
  pub id : ℕ
  pub post : Post O
  pub stands : get_elem? (map post_of s.views) id ≡ some post
  pub number : post.number ≡ n
  pub seated : n ≢ 0
  pub flight : post.flight ≡ Some e
  pub unwritten : letter_count n s.words (map post_of s.views) ≡ 0

module _ {O : Type 0} (R : Rule O) (k : Limits) (id : ℕ) (v : View O) where
  -- The step takes this lock word wherever it is 0. The seat may have read further by then
  abbrev pub MayTake : ℕ → Type 0
  MayTake i = (w : View O) → IsAlike v w → (s : Table O) (h : Holds R k s) → Stands R s id w → slice_index s.words i ≡ 0
      → (own : O) × R.taken w.limits w.post.own i own
      × TiedAfter R k s i w.post.number id (with_lock w.post i own) (left h.history)

  abbrev pub MayFree : ℕ → Type 0
  MayFree i = (s : Table O) (h : Holds R k s) → Stands R s id v
      → TiedAfter R k s i 0 id (without_lock v.post i (R.freed v.limits v.post.own i)) (left h.history)

  abbrev pub MayLeave : ℕ → ℕ → Type 0
  MayLeave owner letter = (s : Table O) (h : Holds R k s) → Stands R s id v → slice_index s.words owner ≡ 0
      → TiedAfter R k s owner letter id (without_letter v.post owner) (left h.history)

  -- The step makes the first word `new`, and places this batch with the seat's own call
  pub record Places (act : Act) (b : Batch) (own : O) (new : ℕ) (s : Table O) (h : Holds R k s) : Type 0 where
    pub legal : IsLegalFrom k.seats k.capacity (left h.history) (marks_of v.post.number act b)
    -- no two marks are of one seat
    pub apart : (n : ℕ) → helps n b.before + helps n b.after + cond (v.post.number == n) 1 0 ≤ 1
    pub free : letter_count v.post.number s.words (map post_of s.views) ≡ 0
    pub waiting : (x : ℕ × Entry) → Contains b.before x ⊎ Contains b.after x → Waits s x.0 x.1
    pub tied : TiedAfter R k s 0 new id (placed_post v.post b own (length h.history))
        (left_from (left h.history) (marks_of v.post.number act b))

  -- The step makes the first word `new`, and places these inserts of other seats, and no call of the seat's own
  pub record Helps (hs : List (ℕ × Entry)) (own : O) (new : ℕ) (s : Table O) (h : Holds R k s) : Type 0 where
    pub legal : IsLegalFrom k.seats k.capacity (left h.history) (map insert_of hs)
    pub apart : (n : ℕ) → helps n hs ≤ 1
    pub waiting : (x : ℕ × Entry) → Contains hs x → Waits s x.0 x.1
    pub longer : R.length_of new ≡ length h.history + length hs
    pub tied : TiedAfter R k s 0 new id (helped_post v.post hs own (length h.history))
        (left_from (left h.history) (map insert_of hs))

  -- The step makes the word i x, and sends the insert of this owner back: it is in flight, and there is no letter for it
  pub record SendsBack (owner : ℕ) (own : O) (i x : ℕ) (s : Table O) (h : Holds R k s) : Type 0 where
    pub entry : Entry
    pub waiting : Waits s owner entry
    pub tied : TiedAfter R k s i x id (owing_back v.post owner own) (left h.history)

  -- a draw of this many marks: the batch is the one that the rule tells
  abbrev pub MayDraw : Act → ℕ → Type 0
  MayDraw act n = let b : Batch = R.batch v.limits v.post act n in let own : O = R.drawn v.limits v.post act n in
      (length (marks_of v.post.number act b) ≡ n)
      × ((s : Table O) (h : Holds R k s) → Stands R s id v → Places act b own (slice_index s.words 0 + n) s h)
