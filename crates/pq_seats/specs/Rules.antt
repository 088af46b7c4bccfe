-- The rule of a table whose seats make the calls of one history. Word 0 tells how long the history is, the words 1 to
-- 16 are the seats' letters, and some of the words behind them are locks. A queue adds its own words and facts.
use Rattle.std.specs.Prelude.{◌≡◌, ◌≢◌, ℕ, ◌+◌, ◌-◌, ◌<◌, ◌≤◌, ◌⊎◌, Bool, true, Option, Some, None, IsSome}
use Rattle.std.specs.Prelude.{List, [], ◌∷◌, ◌++◌, map, length, Contains, slice_index, slice_set}
use Rattle.std.specs.List.{sum_by}
use mathlib.Core.Option.{some}
use lib.ListN.{get_elem?}
use Rattle.atomic_table.specs.Table.{State}
use Rattle.pq_words.specs.declared.entries.Entry.{Entry}
use Rattle.pq_words.specs.declared.letters.Letter.{Letter}
use Rattle.pq_words.specs.Letters.{letter_number}
use Rattle.pq_model.specs.declared.marks.Act.{Act}
use Rattle.pq_model.specs.declared.marks.Act.TheVariants.{Insert}
use Rattle.pq_model.specs.declared.marks.Reply.TheVariants.{Done}
use Rattle.pq_model.specs.declared.marks.Mark.{Mark}
use Rattle.pq_model.specs.declared.passes.Call.{Call}
use Rattle.pq_model.specs.declared.passes.Lane.{Lane}
use Rattle.pq_model.specs.Limits.{max_seats}
use Rattle.pq_model.specs.History.{IsSeat, IsLegal, left}
use Rattle.pq_model.specs.Passes.{call, calls_of, IsBehind}
use Rattle.pq_api.specs.Limits.{call_limit}
use Rattle.pq_seats.specs.declared.views.Limits.{Limits}
use Rattle.pq_seats.specs.declared.views.Post.{Post}
use Rattle.pq_seats.specs.declared.views.View.{View}
use Rattle.pq_seats.specs.Views.{HasFirst, numbered, lanes_of, known_of, post_of, empty_post}
use Rattle.pq_seats.specs.Letters.{back, letter_count, letter_sum}
use Rattle.pq_seats.specs.Batches.{Batch}

-- the state of a table without slots
abbrev pub Table : Type 0 → Type 0
Table O = State (Unit {0}) (View O)

-- What a queue adds. O is what a post holds of the queue's own
pub record Rule (O : Type 0) : Type 1 where
  -- the own part of a new seat, and which own parts rest: a seat may end with these, if it holds nothing
  pub idle : O
  pub rests : O → Type 0
  -- how many words the table has at least
  pub width : Limits → ℕ
  -- which words are locks
  pub locks : Limits → ℕ → Bool
  -- what ties the words, the posts of all seats and the entries that the history leaves
  pub ties : Limits → List ℕ → List (Post O) → List Entry → Type 0
  -- what the own part may become where a lock word is taken, and what it becomes where one is freed
  pub taken : Limits → O → ℕ → O → Type 0
  pub freed : Limits → O → ℕ → O
  -- what a draw places, by the post, the act and the number of marks, and what the own part is then
  pub batch : Limits → Post O → Act → ℕ → Batch
  pub drawn : Limits → Post O → Act → ℕ → O
  -- what the own part becomes where the seat takes its letter
  pub told : O → O
  -- what a seat knows of its letter by its own part
  pub knows : O → Letter → Type 0
  -- how long the history is where the first word is this
  pub length_of : ℕ → ℕ

-- The queue's facts, once a step has made the word i x and the post of the seat j p, where the history leaves m
abbrev pub TiedAfter : {O : Type 0} → Rule O → Limits → Table O → ℕ → ℕ → ℕ → Post O → List Entry → Type 0
TiedAfter R k s i x j p m = R.ties k (slice_set s.words i x) (slice_set (map post_of s.views) j p) m

-- Of a lane: the calls that the history has of its number, how many letters there are for the number, and what they
-- add up to. First: all those calls are the lane's, and there is no letter
pub record IsKept (l : Lane) (made : List Call) (letters : ℕ) : Type 0 where
  pub all : made ≡ l.calls
  pub none : letters ≡ 0

-- All are the lane's, and the one letter sends the offer of the seat's insert in flight back. The seat is given by its
-- number and that insert, and below by its front too
pub record IsSentBack (number : ℕ) (flight : Option Entry) (l : Lane) (made : List Call) (letters sum : ℕ)
    : Type 0 where
  pub all : made ≡ l.calls
  pub one : letters ≡ 1
  pub letter : sum ≡ back
  pub own : number ≡ l.number
  pub waits : IsSome flight

-- There is one more: another seat has placed the seat's insert in flight, and the one letter tells where
pub record IsHelped (number : ℕ) (flight : Option Entry) (front : ℕ) (l : Lane) (made : List Call)
    (letters sum : ℕ) : Type 0 where
  pub place : ℕ
  pub entry : Entry
  pub all : made ≡ l.calls ++ call place (Insert entry) Done ∷ []
  pub one : letters ≡ 1
  pub letter : sum ≡ place + 1
  pub own : number ≡ l.number
  pub waits : flight ≡ Some entry
  pub late : front ≤ place

abbrev pub IsAccounted : ℕ → Option Entry → ℕ → Lane → List Call → ℕ → ℕ → Type 0
IsAccounted number flight front l made letters sum = IsKept l made letters
    ⊎ (IsSentBack number flight l made letters sum ⊎ IsHelped number flight front l made letters sum)

-- The facts of one seat
pub record Fits {O : Type 0} (R : Rule O) (k : Limits) (history : List Mark) (words : List ℕ)
    (posts : List (Post O)) (v : View O) : Type 0 where
  -- a seat that was joined into another has no lane, and other limits
  pub limits : (l : Lane) → Contains v.lanes l → v.limits ≡ k
  pub front : v.front ≤ length history
  pub behind : IsBehind (known_of v)
  pub ranged : (l : Lane) → Contains v.lanes l → IsSeat k.seats l.number
  pub calls : (l : Lane) → Contains v.lanes l → IsAccounted v.post.number v.post.flight v.front l
      (calls_of l.number history) (letter_count l.number words posts) (letter_sum l.number words posts)
  -- who has a number has the lane of that number first, and who has none holds nothing
  pub first : v.post.number ≢ 0 → HasFirst v.post.number v.lanes
  pub empty : v.post.number ≡ 0 → v.post ≡ empty_post R.idle 0
  pub owes : (x : ℕ × ℕ) → Contains v.post.owed x → IsSeat k.seats x.0 × (0 < x.1)
  -- who has an insert in flight has made few enough calls for one more
  pub room : (e : Entry) → v.post.flight ≡ Some e → length (known_of v).calls < call_limit - 1
  pub held : (i : ℕ) → Contains v.post.locks i
      → (R.locks k i ≡ true) × (slice_index words i ≡ v.post.number) × (v.post.number ≢ 0)

-- The rule of the whole table
pub record Holds {O : Type 0} (R : Rule O) (k : Limits) (s : Table O) : Type 0 where
  -- there is a legal history, as long as the first word tells
  pub history : List Mark
  pub legal : IsLegal k.seats k.capacity history
  pub counted : R.length_of (slice_index s.words 0) ≡ length history
  pub few : k.seats ≤ max_seats
  pub few_calls : (n : ℕ) → length (calls_of n history) < call_limit
  -- the table has the words that it was opened with
  pub long : length s.words ≡ k.words
  pub letters : max_seats < length s.words
  pub width : R.width k ≤ length s.words
  -- each number has one lane, among the views of all seats
  pub once : (n : ℕ) → sum_by (λ (v : View O). lanes_of n v.lanes) s.views ≡ lanes_of n (numbered 1 k.seats)
  pub lanes : sum_by (λ (v : View O). length v.lanes) s.views ≡ k.seats
  -- each seat fits, and a lock word that is not 0 has a holder
  pub each : (j : ℕ) (v : View O) → get_elem? s.views j ≡ some v → Fits R k history s.words (map post_of s.views) v
  pub holder : (i : ℕ) → R.locks k i ≡ true → slice_index s.words i ≢ 0
      → (j : ℕ) × (v : View O) × (get_elem? s.views j ≡ some v) × Contains v.post.locks i
  -- and the queue's own facts
  pub tied : R.ties k s.words (map post_of s.views) (left history)

-- The seat has no lock, no insert in flight and no letter to leave. Its own part is what it may be
abbrev pub IsBare : {O : Type 0} → Post O → Type 0
IsBare p = p ≡ empty_post p.own p.number

module _ {O : Type 0} (R : Rule O) where
  -- the seat took its letter: its call was placed, or its offer was sent back
  abbrev pub taken_over : Post O → Post O
  taken_over p = record p { flight = None; own = R.told p.own }

  abbrev pub sent_back : Post O → Post O
  sent_back p = record p { own = R.told p.own }

  -- the seat j of the table has this view
  abbrev pub Stands : Table O → ℕ → View O → Type 0
  Stands s j v = get_elem? s.views j ≡ some v

  -- the seat holds nothing, and its own part rests
  pub record IsAtRest (p : Post O) : Type 0 where
    pub bare : IsBare p
    pub rests : R.rests p.own

  -- What a queue shows of its part: in each state in which the whole rule holds, the queue's facts outlive the steps
  -- that the base makes on its own
  pub record Lawful : Type 0 where
    -- no lock is the history's word or a letter, and each is one of the words
    pub apart : (k : Limits) (i : ℕ) → R.locks k i ≡ true → max_seats < i
    pub within : (k : Limits) (i : ℕ) → R.locks k i ≡ true → i < R.width k
    -- a new seat rests, and may come
    pub idles : R.rests R.idle
    pub admits : (k : Limits) (s : Table O) (h : Holds R k s) (n : ℕ)
        → (0 < n → letter_count n s.words (map post_of s.views) ≡ 0)
        → (0 < n → (j : ℕ) (v : View O) → Stands s j v → v.post.number ≢ n)
        → R.ties k s.words (map post_of s.views ++ empty_post R.idle n ∷ []) (left h.history)
    -- and any seat at rest may go
    pub spends : (k : Limits) (s : Table O) (h : Holds R k s) (j : ℕ) (v : View O)
        → Stands s j v → IsAtRest v.post
        → R.ties k s.words (slice_set (map post_of s.views) j (empty_post R.idle 0)) (left h.history)
    -- a seat takes the letter that tells the place of its call
    pub takes_over : (k : Limits) (s : Table O) (h : Holds R k s) (j : ℕ) (v : View O)
        → Stands s j v → 0 < v.post.number
        → slice_index s.words v.post.number ≢ 0 → slice_index s.words v.post.number ≢ back
        → TiedAfter R k s v.post.number 0 j (taken_over v.post) (left h.history)
    -- or the letter that sends its offer back
    pub takes_back : (k : Limits) (s : Table O) (h : Holds R k s) (j : ℕ) (v : View O)
        → Stands s j v → 0 < v.post.number → slice_index s.words v.post.number ≡ back
        → TiedAfter R k s v.post.number 0 j (sent_back v.post) (left h.history)
    -- and knows of its letter what its own part says
    pub informed : (k : Limits) (s : Table O) → Holds R k s → (j : ℕ) (v : View O) (l : Letter)
        → Stands s j v → 0 < v.post.number → letter_number l ≡ slice_index s.words v.post.number → R.knows v.post.own l
