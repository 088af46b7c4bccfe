-- What each step of the base tells of the seat that made it.
use Rattle.std.specs.Prelude.{◌≡◌, ◌≢◌, ℕ, ◌+◌, ◌<◌, ◌≤◌, ◌^◌, List, length, Some}
use Rattle.atomic_table.specs.Table.{Me, Step}
use Rattle.pq_words.specs.declared.entries.Entry.{Entry}
use Rattle.pq_words.specs.declared.letters.Letter.{Letter}
use Rattle.pq_words.specs.declared.letters.Letter.TheVariants.{Nothing, At, Back}
use Rattle.pq_words.specs.Letters.{letter_number, FitsLetter}
use Rattle.pq_model.specs.declared.marks.Act.{Act}
use Rattle.pq_model.specs.declared.marks.Act.TheVariants.{Insert}
use Rattle.pq_model.specs.declared.marks.Reply.TheVariants.{Done}
use Rattle.pq_model.specs.declared.marks.Mark.{Mark}
use Rattle.pq_model.specs.Passes.{call, Witnesses, Knows}
use Rattle.pq_api.specs.Answers.{MakesCall}
use Rattle.pq_seats.specs.declared.views.View.{View}
use Rattle.pq_seats.specs.Views.{known_of, with_post, with_seen, with_read, with_made, IsAlike}
use Rattle.pq_seats.specs.Letters.{back}
use Rattle.pq_seats.specs.Batches.{Batch, own_place}
use Rattle.pq_seats.specs.Posts.{with_lock, without_lock, without_letter, placed_view}
use Rattle.pq_seats.specs.Rules.{Rule, taken_over, sent_back}

-- the view of a seat that left an owner its letter
abbrev pub left_view : {O : Type 0} → View O → ℕ → View O
left_view v owner = with_post v (without_letter v.post owner)

module _ {O : Type 0} (R : Rule O) where
  -- the view of a seat that took the lock word
  abbrev pub locked_view : View O → ℕ → O → View O
  locked_view v i own = record (with_read v 0) { post = with_lock v.post i own }

  -- that took a letter which sends its offer back, and that took one with the place of its insert
  abbrev pub back_view : View O → View O
  back_view v = record (with_read v back) { post = sent_back R v.post }

  abbrev pub taken_view : View O → ℕ → Entry → View O
  taken_view v place e = let told : View O = with_read v (place + 1) in
      record (with_made told (call place (Insert e) Done)) { post = taken_over R v.post }

  -- that freed the lock word, and that drew
  abbrev pub freed_view : View O → ℕ → View O
  freed_view v i = with_post v (without_lock v.post i (R.freed v.limits v.post.own i))

  abbrev pub batch_of : View O → Act → ℕ → Batch
  batch_of v act n = R.batch v.limits v.post act n

  abbrev pub drawn_view : View O → Act → ℕ → ℕ → View O
  drawn_view v act n first = placed_view v act (batch_of v act n) (R.drawn v.limits v.post act n) first

  -- what a seat knows by its view
  abbrev pub Informed : View O → Type 0
  Informed v = Knows v.limits.seats v.limits.capacity (known_of v)

  -- The seat read 0, and took the lock word. Or it read another number, and holds what it held. Both have read further
  pub record Took (v w : View O) (i : ℕ) : Type 0 where
    pub read : w.read ≡ 0
    pub more : v.reads < w.reads
    pub own : O
    pub taken : R.taken v.limits v.post.own i own
    pub post : w.post ≡ with_lock v.post i own
    pub lanes : w.lanes ≡ v.lanes
    pub front : w.front ≡ v.front
    pub limits : w.limits ≡ v.limits

  pub record Missed (v w : View O) : Type 0 where
    pub read : 0 < w.read
    pub more : v.reads < w.reads
    pub same : IsAlike v w

  -- The seat's insert in flight was placed here, and is the pass's call now
  pub record IsTold (v : View O) (place : ℕ) (w : View O) : Type 0 where
    pub entry : Entry
    pub waits : v.post.flight ≡ Some entry
    pub view : w ≡ taken_view v place entry
    pub call : MakesCall (known_of v) place (Insert entry) Done (known_of w)
    pub knows : Informed w

  -- what a seat has taken where its letter was this
  abbrev pub IsTaken : View O → Letter → View O → Type 0
  IsTaken v Nothing w = w ≡ with_read v 0
  IsTaken v (At place) w = IsTold v place w
  IsTaken v Back w = w ≡ back_view v

  module _ (v : View O) (found : ℕ) (w : View O) where
    -- the history has the length that was found
    pub record Measured : Type 0 where
      pub small : found < 2 ^ 30
      pub front : v.front ≤ found
      pub view : w ≡ with_seen v found
      pub knows : (history : List Mark)
          × Witnesses w.limits.seats w.limits.capacity (known_of w) history × (length history ≡ found)

    -- a legal history holds the pass's calls, and the lanes are no more than the seats
    pub record Learned : Type 0 where
      pub view : w ≡ v
      pub knows : Informed w
      pub few : length w.lanes ≤ w.limits.seats

    -- the batch was placed, from the place that was found on
    pub record Drew (act : Act) (n : ℕ) : Type 0 where
      pub small : found < 2 ^ 30
      pub view : w ≡ drawn_view v act n found
      pub call : let b : Batch = batch_of v act n in MakesCall (known_of v) (own_place found b) act b.reply (known_of w)
      pub knows : Informed w

    -- the letter that was found was taken
    pub record Received : Type 0 where
      pub letter : Letter
      pub fits : FitsLetter letter
      pub is : letter_number letter ≡ found
      pub knows : R.knows v.post.own letter
      pub taken : IsTaken v letter w

  -- The same of the plays of a table, where a seat has no slot
  module _ (st : Step (Unit {0})) (m : Me (Unit {0}) (View O)) (found : ℕ) (m' : Me (Unit {0}) (View O)) where
    abbrev pub measures : Type 0
    measures = Measured m.0 found m'.0 × (m'.1 ≡ m.1)

    abbrev pub learns : Type 0
    learns = Learned m.0 found m'.0 × (m'.1 ≡ m.1)

    abbrev pub tries : Type 0
    tries = (found ≡ 0 → Took m.0 m'.0 st.word) × (found ≢ 0 → Missed m.0 m'.0) × (m'.1 ≡ m.1)

    abbrev pub frees : Type 0
    frees = m' ≡ (freed_view m.0 st.word, m.1)

    abbrev pub draws : Act → Type 0
    draws act = Drew m.0 found m'.0 act st.first × (m'.1 ≡ m.1)

    abbrev pub leaves : Type 0
    leaves = m' ≡ (left_view m.0 st.word, m.1)

    abbrev pub takes : Type 0
    takes = Received m.0 found m'.0 × (m'.1 ≡ m.1)
