-- What a text of a history records, its limits, and how it is written.
use Rattle.std.specs.Prelude.{ℕ, ◌+◌, ◌≤◌, List, [], ◌∷◌, ◌++◌, length, codes, All}
use Rattle.std.specs.Fmt.{decimal}
use Rattle.pq_io.specs.Writing.{lines_text}
use Rattle.pq_words.specs.Limits.{key_limit}
use Rattle.pq_model.specs.Limits.{max_seats, max_capacity}
use Rattle.pq_model.specs.declared.marks.Act.{Act}
use Rattle.pq_model.specs.declared.marks.Act.TheVariants.{Insert, Remove, RemoveBelow}
use Rattle.pq_model.specs.declared.marks.Reply.{Reply}
use Rattle.pq_model.specs.declared.marks.Reply.TheVariants.{Done, Got, Empty, Full, Above}
use Rattle.pq_model.specs.declared.marks.Mark.{Mark}
use Rattle.pq_model.specs.History.{IsSeat}
use Rattle.pq_tape.specs.Limits.{max_marks}
use Rattle.pq_tape.specs.declared.history.Head.{Head}

-- the head, the marks in the order of their places, and how many entries are left at the end
pub record Recorded : Type 0 where
  pub head : Head
  pub marks : List Mark
  pub left : ℕ

-- an insert is answered by Done or Full, a removal by Got or Empty, and one below a limit by Above too; the limit
-- is at most that of a key, and no other call has a line
abbrev pub HasLine : Act → Reply → Type 0
HasLine (Insert e) Done = Unit {0}
HasLine (Insert e) Full = Unit {0}
HasLine Remove (Got e) = Unit {0}
HasLine Remove Empty = Unit {0}
HasLine (RemoveBelow limit) (Got e) = limit ≤ key_limit
HasLine (RemoveBelow limit) Empty = limit ≤ key_limit
HasLine (RemoveBelow limit) Above = limit ≤ key_limit
HasLine (Insert e) (Got x) = ⊥
HasLine (Insert e) Empty = ⊥
HasLine (Insert e) Above = ⊥
HasLine Remove Done = ⊥
HasLine Remove Full = ⊥
HasLine Remove Above = ⊥
HasLine (RemoveBelow limit) Done = ⊥
HasLine (RemoveBelow limit) Full = ⊥

-- the limits of what a text records
pub record IsWithinLimits (h : Recorded) : Type 0 where
  pub seats : (1 ≤ h.head.seats) × (h.head.seats ≤ max_seats)
  pub capacity : (1 ≤ h.head.capacity) × (h.head.capacity ≤ max_capacity)
  pub count : length h.marks ≤ max_marks
  pub seated : All (λ (x : Mark). IsSeat h.head.seats x.seat) h.marks
  pub answered : All (λ (x : Mark). HasLine x.act x.reply) h.marks
  pub left : h.left ≤ max_capacity

-- the words of a call's line behind its place and its seat
abbrev pub insert_words : List ℕ → List ℕ → List ℕ → List (List ℕ)
insert_words answer key id = codes "+" ∷ key ∷ id ∷ answer ∷ []

abbrev pub got_words : List ℕ → List ℕ → List (List ℕ)
got_words key id = codes "-" ∷ codes "got" ∷ key ∷ id ∷ []

abbrev pub empty_words : List (List ℕ)
empty_words = codes "-" ∷ codes "empty" ∷ []

abbrev pub below_got_words : List ℕ → List ℕ → List ℕ → List (List ℕ)
below_got_words limit key id = codes "<" ∷ limit ∷ codes "got" ∷ key ∷ id ∷ []

abbrev pub below_words : List ℕ → List ℕ → List (List ℕ)
below_words answer limit = codes "<" ∷ limit ∷ answer ∷ []

-- these words, with each number in decimal
abbrev pub call_words : Act → Reply → List (List ℕ)
call_words (Insert e) Done = insert_words (codes "done") (decimal e.key) (decimal e.id)
call_words (Insert e) Full = insert_words (codes "full") (decimal e.key) (decimal e.id)
call_words Remove (Got e) = got_words (decimal e.key) (decimal e.id)
call_words Remove Empty = empty_words
call_words (RemoveBelow limit) (Got e) = below_got_words (decimal limit) (decimal e.key) (decimal e.id)
call_words (RemoveBelow limit) Empty = below_words (codes "empty") (decimal limit)
call_words (RemoveBelow limit) Above = below_words (codes "above") (decimal limit)
call_words (Insert e) (Got x) = []
call_words (Insert e) Empty = []
call_words (Insert e) Above = []
call_words Remove Done = []
call_words Remove Full = []
call_words Remove Above = []
call_words (RemoveBelow limit) Done = []
call_words (RemoveBelow limit) Full = []

-- the words of a mark's line
abbrev pub mark_words : ℕ → Mark → List (List ℕ)
mark_words place m = decimal place ∷ decimal m.seat ∷ call_words m.act m.reply

-- the lines of marks, the first of which has this place
abbrev pub marks_lines : ℕ → List Mark → List (List (List ℕ))
marks_lines place [] = []
marks_lines place (m ∷ ms) = mark_words place m ∷ marks_lines (place + 1) ms

-- the first line
abbrev pub head_words : Head → List (List ℕ)
head_words head = codes "seats" ∷ decimal head.seats ∷ codes "capacity" ∷ decimal head.capacity ∷ []

-- the last line
abbrev pub left_words : ℕ → List (List ℕ)
left_words left = codes "left" ∷ decimal left ∷ []

abbrev pub history_lines : Head → List Mark → ℕ → List (List (List ℕ))
history_lines head marks left = head_words head ∷ (marks_lines 0 marks ++ left_words left ∷ [])

-- the text of a history: its head, a line for each mark, and how many entries are left
abbrev pub history_text : Head → List Mark → ℕ → List ℕ
history_text head marks left = lines_text (history_lines head marks left)
