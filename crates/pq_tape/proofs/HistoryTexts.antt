-- What is read as a history is spelled so and keeps the limits, and what is spelled so is read.
use Rattle.std.proofs.Common.{◌≡◌, ℕ, ◌+◌, ◌≤◌, leb, List, [], ◌∷◌, length, Result, Ok, Err, refl, sym, subst, arith}
use Rattle.std.specs.Prelude.{IfOk}
use Rattle.std.specs.List.{AllByRecursion}
use Rattle.std.proofs.lemmas.Bool.{leb-true, le-leb, cond-true}
use Rattle.std.proofs.lemmas.List.Elements.{All-from_recursion, recursion_from_All}
use Rattle.pq_io.specs.declared.text.fault.Cause.{Cause}
use Rattle.pq_io.specs.declared.text.fault.BadInput.{BadInput}
use Rattle.pq_io.specs.declared.text.fault.ReadRefusal.{ReadRefusal}
use Rattle.pq_io.specs.Lines.{Line, Text, text_of}
use Rattle.pq_io.specs.Inputs.{text_within, longest_input, too_large}
use Rattle.pq_io.specs.Reading.{◌>>=◌, Read, Gives, on_line, line_at, at_text_end}
use Rattle.pq_io.proofs.Binds.{ok_is, bind_ok, cond_ok}
use Rattle.pq_io.proofs.Taken.{text_ends, text_end_found, line_taken, line_found}
use Rattle.pq_model.specs.declared.marks.Mark.{Mark}
use Rattle.pq_model.specs.Limits.{max_capacity}
use Rattle.pq_model.specs.History.{IsSeat}
use Rattle.pq_tape.specs.Limits.{max_marks}
use Rattle.pq_tape.specs.declared.history.lines.HistoryLine.{HistoryLine}
use Rattle.pq_tape.specs.declared.history.lines.HistoryLine.TheVariants.{Marked, Ends}
use Rattle.pq_tape.specs.HistoryText.{Recorded, HasLine, IsWithinLimits}
use Rattle.pq_tape.specs.HistoryReading.{head_of, line_of, with_line, marks_in, history_in, history_of}
use Rattle.pq_tape.specs.HistorySpelling.{SpellsLeft, SpellsLast, SpellMarks, SpellHistory, IsHistoryText}
use Rattle.pq_tape.proofs.HistoryLines.{MarkTaken, marked_taken, left_taken, marked_found, left_found, head_taken, head_found}

abbrev MarksRead : Type 0
MarksRead = Result (Read (List Mark) ℕ) BadInput

abbrev AreSeated : ℕ → List Mark → Type 0
AreSeated seats ms = AllByRecursion (λ (x : Mark). IsSeat seats x.seat) ms

abbrev AreAnswered : List Mark → Type 0
AreAnswered ms = AllByRecursion (λ (x : Mark). HasLine x.act x.reply) ms

-- the lines behind the first

record MarksTaken (place seats : ℕ) (ls : List Line) (x : Read (List Mark) ℕ) : Type 0 where
  spell : SpellMarks place ls x.value x.rest
  seated : AreSeated seats x.value
  answered : AreAnswered x.value
  count : length x.value + place ≤ max_marks
  left : x.rest ≤ max_capacity

abbrev Later : ℕ → ℕ → List Line → MarksRead → Type 0
Later place seats ls further = (y : Read (List Mark) ℕ) → further ≡ Ok y → place ≤ max_marks → MarksTaken place seats ls y

mark_first : (place seats : ℕ) (l : Line) (ls : List Line) (m : Mark) (further : MarksRead) (x : Read (List Mark) ℕ) → MarkTaken place seats l.words m → Later (place + 1) seats ls further
    → (further >>= λ marks. Ok (record { value = m ∷ marks.value; rest = marks.rest })) ≡ Ok x → MarksTaken place seats (l ∷ ls) x
mark_first place seats l ls m further x t later e =
    let a = bind_ok further (λ marks. Ok (record { value = m ∷ marks.value; rest = marks.rest })) x e in
    let ts = later a.0 a.1 (omega (arith, t.few)) in
    let made : Read (List Mark) ℕ = record { value = m ∷ a.0.value; rest = a.0.rest } in
    subst (λ (y : Read (List Mark) ℕ). MarksTaken place seats (l ∷ ls) y) (ok_is made x a.2)
    (record {
      spell = (t.spells, ts.spell);
      seated = (t.seated, ts.seated);
      answered = (t.line, ts.answered);
      count = omega (arith, ts.count);
      left = ts.left;
    })

left_last : (place seats : ℕ) (l : Line) (ls : List Line) (left : ℕ) (x : Read (List Mark) ℕ) → place ≤ max_marks → SpellsLeft l.words left × (left ≤ max_capacity)
    → (at_text_end ls >>= λ e. Ok (record { value = []; rest = left })) ≡ Ok x → MarksTaken place seats (l ∷ ls) x
left_last place seats l ls left x le t e =
    let a = bind_ok (at_text_end ls) (λ e. Ok (record { value = []; rest = left })) x e in
    let made : Read (List Mark) ℕ = record { value = []; rest = left } in
    let alone : [] ≡ ls = sym (text_ends ls a.0 a.1) in
    subst (λ (y : Read (List Mark) ℕ). MarksTaken place seats (l ∷ ls) y) (ok_is made x a.2)
    (record { spell = subst (λ (t : List Line). SpellsLast (l ∷ t) left) alone t.0; seated = tt; answered = tt; count = omega arith; left = t.1 })

one_taken : (place seats : ℕ) (l : Line) (ls : List Line) (r : Result HistoryLine Cause) (further : MarksRead) (x : Read (List Mark) ℕ) → line_of place seats l.words ≡ r → place ≤ max_marks
    → Later (place + 1) seats ls further → with_line (on_line l.number r) (at_text_end ls) further ≡ Ok x → MarksTaken place seats (l ∷ ls) x
one_taken place seats l ls (Ok (Marked m)) further x is le later e = mark_first place seats l ls m further x (marked_taken place seats l.words m is) later e
one_taken place seats l ls (Ok (Ends left)) further x is le later e = left_last place seats l ls left x le (left_taken place seats l.words left is) e
one_taken place seats l ls (Err c) further x is le later e = absurd cc

marks_taken : (place seats : ℕ) (ls : List Line) (end : ℕ) → Later place seats ls (marks_in place seats ls end)
unfolding marks_in
marks_taken place seats [] end x e le = absurd cc
marks_taken place seats (l ∷ ls) end x e le =
    one_taken place seats l ls (line_of place seats l.words) (marks_in (place + 1) seats ls end) x refl le (marks_taken (place + 1) seats ls end) e

last_found : (place seats : ℕ) (ls : List Line) (end left : ℕ) → SpellsLast ls left → left ≤ max_capacity → marks_in place seats ls end ≡ Ok (record { value = []; rest = left })
unfolding marks_in
last_found place seats [] end left s le = absurd s
last_found place seats (l ∷ []) end left s le = rw (left_found place seats l.words left s le, text_end_found) refl
last_found place seats (l ∷ k ∷ ls) end left s le = absurd s

marks_found : (place seats : ℕ) (ls : List Line) (end : ℕ) (ms : List Mark) (left : ℕ) → SpellMarks place ls ms left → AreSeated seats ms → AreAnswered ms → length ms + place ≤ max_marks → left ≤ max_capacity
    → marks_in place seats ls end ≡ Ok (record { value = ms; rest = left })
unfolding marks_in
marks_found place seats ls end [] left s seated answered count le = last_found place seats ls end left s le
marks_found place seats [] end (m ∷ ms) left s seated answered count le = absurd s
marks_found place seats (l ∷ ls) end (m ∷ ms) left s seated answered count le =
    rw (marked_found place seats l.words m s.0 seated.0 answered.0 (omega arith), marks_found (place + 1) seats ls end ms left s.1 seated.1 answered.1 (omega arith) le) refl

-- the history

history_taken : (text : Text) (h : Recorded) → history_in text ≡ Ok h → SpellHistory text.lines h × IsWithinLimits h
unfolding history_in
history_taken text h e =
    let a = bind_ok (line_at head_of text) (λ head. marks_in 0 head.value.seats head.rest.lines head.rest.end >>= λ marks. Ok (record { head = head.value; marks = marks.value; left = marks.rest })) h e in
    let b = bind_ok (marks_in 0 a.0.value.seats a.0.rest.lines a.0.rest.end) (λ marks. Ok (record { head = a.0.value; marks = marks.value; left = marks.rest })) h a.2 in
    let l = line_taken head_of text a.0 a.1 in
    let head = head_taken l.line.words a.0.value l.value in
    let ts = marks_taken 0 a.0.value.seats a.0.rest.lines a.0.rest.end b.0 b.1 (omega arith) in
    let made : Recorded = record { head = a.0.value; marks = b.0.value; left = b.0.rest } in
    let spell : SpellHistory text.lines made = subst (λ (ls : List Line). SpellHistory ls made) (sym l.first) (head.spells, ts.spell) in
    let limits : IsWithinLimits made = record {
      seats = head.seats;
      capacity = head.capacity;
      count = omega (arith, ts.count);
      seated = All-from_recursion (λ (x : Mark). IsSeat a.0.value.seats x.seat) b.0.value ts.seated;
      answered = All-from_recursion (λ (x : Mark). HasLine x.act x.reply) b.0.value ts.answered;
      left = ts.left;
    } in
    subst (λ (j : Recorded). SpellHistory text.lines j × IsWithinLimits j) (ok_is made h b.2) (spell, limits)

history_found : (ls : List Line) (end : ℕ) (h : Recorded) → SpellHistory ls h → IsWithinLimits h → history_in (record { lines = ls; end = end }) ≡ Ok h
unfolding history_in
history_found [] end h spell limits = absurd spell
history_found (l ∷ ls) end h spell limits =
    rw (
      line_found head_of l ls end h.head (head_found l.words h.head spell.0 limits.seats limits.capacity),
      marks_found 0 h.head.seats ls end h.marks h.left spell.1 (recursion_from_All (λ (x : Mark). IsSeat h.head.seats x.seat) h.marks limits.seated)
          (recursion_from_All (λ (x : Mark). HasLine x.act x.reply) h.marks limits.answered) (omega (arith, limits.count)) limits.left,
    ) refl

pub history_is_spelled : (bytes : List ℕ) (h : Recorded) → history_of bytes ≡ Ok h → IsHistoryText bytes h
unfolding history_of
history_is_spelled bytes h e =
    let a = bind_ok (text_within bytes) history_in h e in
    let p = cond_ok (leb (length bytes) longest_input) (Ok (text_of bytes)) a.0 too_large a.1 in
    let same : a.0 ≡ text_of bytes = sym (ok_is (text_of bytes) a.0 p.1) in
    let k = history_taken (text_of bytes) h (subst (λ (t : Text). history_in t ≡ Ok h) same a.2) in
    record { size = leb-true (length bytes) longest_input p.0; lines = k.0; limits = k.1 }

pub history_is_read : (bytes : List ℕ) (h : Recorded) → IsHistoryText bytes h → history_of bytes ≡ Ok h
unfolding history_of
history_is_read bytes h is =
    let within : text_within bytes ≡ Ok (text_of bytes) = cond-true (leb (length bytes) longest_input) (Ok (text_of bytes)) (Err too_large) (le-leb (length bytes) longest_input is.size) in
    rw within (history_found (text_of bytes).lines (text_of bytes).end h is.lines is.limits)

pub is_spelled : (bytes : List ℕ) (r : Result Recorded ReadRefusal) → Gives (λ h. h) r (history_of bytes) → IfOk r (λ h. IsHistoryText bytes h)
is_spelled bytes (Ok h) e = history_is_spelled bytes h e
is_spelled bytes (Err e) given = tt

pub is_limited : (bytes : List ℕ) (r : Result Recorded ReadRefusal) → Gives (λ h. h) r (history_of bytes) → IfOk r (λ h. IsWithinLimits h)
is_limited bytes (Ok h) e = (history_is_spelled bytes h e).limits
is_limited bytes (Err e) given = tt
