-- The lines behind the first, read one after the other.
use Rattle.std.proofs.Common.{◌≡◌, ℕ, ◌+◌, ◌<◌, List, [], ◌∷◌, ◌++◌, length, Result, Ok, Err, refl, sym, ap, ◌∙◌, arith, length-append}
use Rattle.std.proofs.lemmas.List.{append-nil}
use Rattle.pq_io.specs.declared.text.fault.Cause.TheVariants.{Missing}
use Rattle.pq_io.specs.declared.text.fault.BadInput.{BadInput}
use Rattle.pq_io.specs.Lines.{Line, Text}
use Rattle.pq_io.specs.Reading.{◌>>=◌, Read, on_line, next_line, line_at, at_text_end}
use Rattle.pq_io.proofs.Binds.{with_prefix, prefix_grows}
use Rattle.pq_io.proofs.Taken.{line_taken}
use Rattle.pq_model.specs.declared.marks.Mark.{Mark}
use Rattle.pq_tape.specs.declared.history.lines.HistoryLine.{HistoryLine}
use Rattle.pq_tape.specs.declared.history.lines.HistoryLine.TheVariants.{Marked, Ends}
use Rattle.pq_tape.specs.Limits.{max_marks}
use Rattle.pq_tape.specs.HistoryReading.{line_of, with_line, marks_in}
use Rattle.pq_tape.proofs.HistoryLines.{marked_taken}

abbrev MarksRead : Type 0
MarksRead = Result (Read (List Mark) ℕ) BadInput

by_parts : (place seats : ℕ) (ls rest : List Line) (end end' : ℕ) (l : Line) (x : HistoryLine) → ls ≡ l ∷ rest → end ≡ end' → line_of place seats l.words ≡ Ok x
    → marks_in place seats ls end ≡ with_line (Ok x) (at_text_end rest) (marks_in (place + 1) seats rest end')
unfolding marks_in
by_parts place seats ls rest end end' l x e f g = rw (e, f, g) refl

-- what a line that was read makes of the reading
line_read : (place seats : ℕ) (text after : Text) (x : HistoryLine) → line_at (line_of place seats) text ≡ Ok (record { value = x; rest = after })
    → marks_in place seats text.lines text.end ≡ with_line (Ok x) (at_text_end after.lines) (marks_in (place + 1) seats after.lines after.end)
line_read place seats text after x e =
    let t = line_taken (line_of place seats) text (record { value = x; rest = after }) e in
    by_parts place seats text.lines after.lines text.end after.end t.line x t.first t.end t.value

-- one line fewer is left
pub line_fewer : (place seats : ℕ) (text after : Text) (x : HistoryLine) → line_at (line_of place seats) text ≡ Ok (record { value = x; rest = after }) → length after.lines < length text.lines
line_fewer place seats text after x e =
    let t = line_taken (line_of place seats) text (record { value = x; rest = after }) e in
    let n = ap (λ (ls : List Line). length ls) t.first in
    omega (arith, n)

-- a mark was read, so there may be one more
pub mark_counts : (place seats : ℕ) (text after : Text) (m : Mark) → line_at (line_of place seats) text ≡ Ok (record { value = Marked m; rest = after }) → place < max_marks
mark_counts place seats text after m e =
    let t = line_taken (line_of place seats) text (record { value = Marked m; rest = after }) e in
    (marked_taken place seats t.line.words m t.value).few

bind_fault : {A B E : Type 0} (r : Result A E) (f : A → B) (e : E) → (r >>= λ x. Ok (f x)) ≡ Err e → r ≡ Err e
bind_fault (Ok x) f e h = absurd cc
bind_fault (Err d) f e h = cc

abbrev failed : {A E : Type 0} → E → Result A E
failed e = Err e

err_is : {A E : Type 0} (d e : E) → failed {A = A} d ≡ failed e → d ≡ e
err_is d e h = cc

-- a faulty line, or none, ends the reading
line_fault : (place seats : ℕ) (ls : List Line) (end : ℕ) (fault : BadInput) → line_at (line_of place seats) (record { lines = ls; end = end }) ≡ Err fault → marks_in place seats ls end ≡ Err fault
unfolding marks_in line_at next_line
line_fault place seats [] end fault e = ap (λ (f : BadInput). Err f) (err_is {A = Read HistoryLine Text} (record { line = end; cause = Missing }) fault e)
line_fault place seats (l ∷ ls) end fault e =
    let rest : Text = record { lines = ls; end = end } in
    let r : on_line l.number (line_of place seats l.words) ≡ Err fault = bind_fault (on_line l.number (line_of place seats l.words)) (λ x. record { value = x; rest = rest }) fault e in
    rw r refl

-- the marks so far in front of those that are still read
abbrev pub SoFar : List Mark → ℕ → Text → MarksRead → Type 0
SoFar front seats text total = with_prefix front (marks_in (length front) seats text.lines text.end) ≡ total

pub goes_on : (front : List Mark) (seats place : ℕ) (text after : Text) (m : Mark) (total : MarksRead) → place ≡ length front
    → line_at (line_of place seats) text ≡ Ok (record { value = Marked m; rest = after }) → SoFar front seats text total → SoFar (front ++ m ∷ []) seats after total
goes_on front seats place text after m total at e so_far =
    let e' : line_at (line_of (length front) seats) text ≡ Ok (record { value = Marked m; rest = after }) = rw (← at) e in
    let n : length (front ++ m ∷ []) ≡ length front + 1 = omega (arith, length-append front (m ∷ [])) in
    let further : MarksRead = marks_in (length front + 1) seats after.lines after.end in
    let same : with_prefix front (marks_in (length front) seats text.lines text.end) ≡ with_prefix (front ++ m ∷ []) further =
    ap (λ (r : MarksRead). with_prefix front r) (line_read (length front) seats text after (Marked m) e') ∙ prefix_grows front m further in
    ap (λ k. with_prefix (front ++ m ∷ []) (marks_in k seats after.lines after.end)) n ∙ sym same ∙ so_far

-- the last line is read, and no line is left
pub is_done : (front : List Mark) (seats place : ℕ) (text after : Text) (left : ℕ) (total : MarksRead) → place ≡ length front
    → line_at (line_of place seats) text ≡ Ok (record { value = Ends left; rest = after }) → at_text_end after.lines ≡ Ok tt → SoFar front seats text total → total ≡ Ok (record { value = front; rest = left })
is_done front seats place text after left total at e end so_far =
    let e' : line_at (line_of (length front) seats) text ≡ Ok (record { value = Ends left; rest = after }) = rw (← at) e in
    let last : marks_in (length front) seats text.lines text.end ≡ Ok (record { value = []; rest = left }) = line_read (length front) seats text after (Ends left) e' ∙ rw end refl in
    sym so_far ∙ ap (λ (r : MarksRead). with_prefix front r) last ∙ ap (λ (ms : List Mark). Ok (record { value = ms; rest = left })) (append-nil front)

-- the last line is read, and a line is left
pub is_extra : (front : List Mark) (seats place : ℕ) (text after : Text) (left : ℕ) (fault : BadInput) (total : MarksRead) → place ≡ length front
    → line_at (line_of place seats) text ≡ Ok (record { value = Ends left; rest = after }) → at_text_end after.lines ≡ Err fault → SoFar front seats text total → total ≡ Err fault
is_extra front seats place text after left fault total at e end so_far =
    let e' : line_at (line_of (length front) seats) text ≡ Ok (record { value = Ends left; rest = after }) = rw (← at) e in
    let last : marks_in (length front) seats text.lines text.end ≡ Err fault = line_read (length front) seats text after (Ends left) e' ∙ rw end refl in
    sym so_far ∙ ap (λ (r : MarksRead). with_prefix front r) last

pub is_faulty : (front : List Mark) (seats place : ℕ) (text : Text) (fault : BadInput) (total : MarksRead) → place ≡ length front
    → line_at (line_of place seats) text ≡ Err fault → SoFar front seats text total → total ≡ Err fault
is_faulty front seats place text fault total at e so_far =
    let e' : line_at (line_of (length front) seats) text ≡ Err fault = rw (← at) e in
    sym so_far ∙ ap (λ (r : MarksRead). with_prefix front r) (line_fault (length front) seats text.lines text.end fault e')
