-- How a text of a history is read: the history that it records, or its first fault.
use Rattle.std.specs.Prelude.{ℕ, ◌+◌, nat_le, if◌then◌else◌, List, [], ◌∷◌, codes, Result, Ok, Err}
use Rattle.std.specs.Str.{bytes_eq}
use Rattle.pq_io.specs.declared.text.fault.Cause.{Cause}
use Rattle.pq_io.specs.declared.text.fault.Cause.TheVariants.{Word, Missing, Extra}
use Rattle.pq_io.specs.declared.text.fault.BadInput.{BadInput}
use Rattle.pq_io.specs.Lines.{Line, Text}
use Rattle.pq_io.specs.Inputs.{text_within}
use Rattle.pq_io.specs.Reading.{◌>>=◌, Read, number_of, number_at, word_at, after_word, at_line_end}
use Rattle.pq_io.specs.Reading.{on_line, line_at, at_text_end}
use Rattle.pq_words.specs.Limits.{key_limit}
use Rattle.pq_model.specs.Limits.{max_seats, max_capacity}
use Rattle.pq_model.specs.declared.marks.Act.{Act}
use Rattle.pq_model.specs.declared.marks.Act.TheVariants.{Insert, Remove, RemoveBelow}
use Rattle.pq_model.specs.declared.marks.Reply.{Reply}
use Rattle.pq_model.specs.declared.marks.Reply.TheVariants.{Done, Got, Empty, Full, Above}
use Rattle.pq_model.specs.declared.marks.Mark.{Mark}
use Rattle.pq_model.specs.History.{mark}
use Rattle.pq_model.specs.EntryWords.{entry_at}
use Rattle.pq_tape.specs.declared.history.Head.{Head}
use Rattle.pq_tape.specs.declared.history.lines.HistoryLine.{HistoryLine}
use Rattle.pq_tape.specs.declared.history.lines.HistoryLine.TheVariants.{Marked, Ends}
use Rattle.pq_tape.specs.Limits.{max_marks}
use Rattle.pq_tape.specs.HistoryText.{Recorded}

-- The first line: `seats S capacity C`.
unfoldable pub head_of : List (List ℕ) → Result Head Cause
head_of words = do
  first ← after_word (codes "seats") words
  seats ← number_at 1 max_seats first
  second ← after_word (codes "capacity") seats.rest
  capacity ← number_at 1 max_capacity second
  end ← at_line_end capacity.rest
  Ok (record { seats = seats.value; capacity = capacity.value })

-- How an insert was answered.
unfoldable pub answer_of : List ℕ → Result Reply Cause
answer_of word =
    if bytes_eq word (codes "done") then Ok Done
    else if bytes_eq word (codes "full") then Ok Full
    else Err Word

-- Behind `+`: the key and the id that were added, and the answer, `done` or `full`.
unfoldable pub insert_of : ℕ → List (List ℕ) → Result Mark Cause
insert_of seat words = do
  entry ← entry_at words
  word ← word_at entry.rest
  answer ← answer_of word.value
  end ← at_line_end word.rest
  Ok (mark seat (Insert entry.value) answer)

-- Behind `got`: the key and the id that were taken.
unfoldable pub got_of : ℕ → Act → List (List ℕ) → Result Mark Cause
got_of seat act words = do
  entry ← entry_at words
  end ← at_line_end entry.rest
  Ok (mark seat act (Got entry.value))

-- Behind an answer that tells no entry: nothing.
unfoldable pub bare_of : ℕ → Act → Reply → List (List ℕ) → Result Mark Cause
bare_of seat act reply words = do
  end ← at_line_end words
  Ok (mark seat act reply)

-- How a removal was answered, by this word and those behind it: `got` with an entry, or `empty`.
unfoldable pub removed_of : ℕ → Act → List ℕ → List (List ℕ) → Result Mark Cause
removed_of seat act word words =
    if bytes_eq word (codes "got") then got_of seat act words
    else if bytes_eq word (codes "empty") then bare_of seat act Empty words
    else Err Word

-- Behind `-`: the answer.
unfoldable pub remove_of : ℕ → List (List ℕ) → Result Mark Cause
remove_of seat words = do
  word ← word_at words
  removed_of seat Remove word.value word.rest

-- How a removal below a limit was answered: `above`, or as a removal is.
unfoldable pub limited_of : ℕ → Act → List ℕ → List (List ℕ) → Result Mark Cause
limited_of seat act word words =
    if bytes_eq word (codes "above") then bare_of seat act Above words else removed_of seat act word words

-- Behind `<`: the limit and the answer.
unfoldable pub below_of : ℕ → List (List ℕ) → Result Mark Cause
below_of seat words = do
  limit ← number_at 0 key_limit words
  word ← word_at limit.rest
  limited_of seat (RemoveBelow limit.value) word.value word.rest

-- Behind the seat, by this word and those behind it: the act, `+`, `-` or `<`, with what belongs to it.
unfoldable pub call_of : ℕ → List ℕ → List (List ℕ) → Result Mark Cause
call_of seat word words =
    if bytes_eq word (codes "+") then insert_of seat words
    else if bytes_eq word (codes "-") then remove_of seat words
    else if bytes_eq word (codes "<") then below_of seat words
    else Err Word

-- Behind the place: the seat, from 1 to seats, and then the act.
unfoldable pub mark_of : ℕ → List (List ℕ) → Result Mark Cause
mark_of seats words = do
  seat ← number_at 1 seats words
  word ← word_at seat.rest
  call_of seat.value word.value word.rest

-- A line whose first word is the place of its mark, which has to be the number of marks before it. There may be
-- `max_marks` marks.
unfoldable pub placed_of : ℕ → ℕ → List ℕ → List (List ℕ) → Result HistoryLine Cause
placed_of place seats word words = do
  number ← number_of place place word
  mark ← if nat_le max_marks place then Err Extra else mark_of seats words
  Ok (Marked mark)

-- Behind `left`: how many entries are left.
unfoldable pub ends_of : List (List ℕ) → Result HistoryLine Cause
ends_of words = do
  left ← number_at 0 max_capacity words
  end ← at_line_end left.rest
  Ok (Ends left.value)

-- A line behind the first, where this many marks stand before it: `left N`, or the line of a mark.
unfoldable pub line_of : ℕ → ℕ → List (List ℕ) → Result HistoryLine Cause
line_of place seats words = do
  word ← word_at words
  if bytes_eq word.value (codes "left") then ends_of word.rest else placed_of place seats word.value word.rest

-- A line of a mark stands in front of further lines, and `left N` at the end of the text.
abbrev pub with_line : Result HistoryLine BadInput → Result (Unit {0}) BadInput → Result (Read (List Mark) ℕ) BadInput
    → Result (Read (List Mark) ℕ) BadInput
with_line (Ok (Marked mark)) end further =
    further >>= λ marks. Ok (record { value = mark ∷ marks.value; rest = marks.rest })
with_line (Ok (Ends left)) end further = end >>= λ e. Ok (record { value = []; rest = left })
with_line (Err fault) end further = Err fault

-- The lines behind the first, where this many marks stand before them: the marks, and how many entries are left.
unfoldable pub marks_in : ℕ → ℕ → List Line → ℕ → Result (Read (List Mark) ℕ) BadInput
marks_in place seats [] end = Err (record { line = end; cause = Missing })
marks_in place seats (l ∷ ls) end =
    with_line (on_line l.number (line_of place seats l.words)) (at_text_end ls) (marks_in (place + 1) seats ls end)

-- the history that a text records, or its first fault
unfoldable pub history_in : Text → Result Recorded BadInput
history_in text = do
  head ← line_at head_of text
  marks ← marks_in 0 head.value.seats head.rest.lines head.rest.end
  Ok (record { head = head.value; marks = marks.value; left = marks.rest })

-- the same of bytes, of which there may be no more than an input may have
unfoldable pub history_of : List ℕ → Result Recorded BadInput
history_of bytes = text_within bytes >>= history_in
