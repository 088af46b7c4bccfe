use Rattle.std.proofs.Common.{◌≡◌, ◌+◌, ◌<◌, ◌≤◌, List, [], ◌∷◌, ◌++◌, ℕ, length, get_or, drop, IfSome, sym, ◌∙◌, append_assoc, arith}
use Rattle.std.proofs.lemmas.List.{append-nil}
use Rattle.pq_io.specs.Writing.{words_text, lines_text}
use Rattle.pq_tape.specs.HistoryText.{mark_words, marks_lines, left_words, history_text}
use Rattle.pq_tape.specs.Pending.{Pending}
use Rattle.pq_tape.proofs.Pending.{grows, ends, fails, next_mark, last_line, err_with, err_so, ok_so}
use Rattle.pq_tape.proofs.history.writing.write_history.Goals as goal

pub returns-in_err-make_room-clause-prefix : goal.returns-in_err-make_room-clause-prefix
returns-in_err-make_room-clause-prefix g c =
    err_with c.from_residual.result
    (fails (g.K.Sink.written c.args.sink.now) (g.K.Sink.written c.loop-mark.sink) (g.K.Sink.written c.make_room.new.sink) c.loop-mark.unsent.bytes _ _ c.loop-mark.invariant.pending c.in_err-make_room.ensures.prefix)

pub loop-mark-preserved : goal.loop-mark-preserved
loop-mark-preserved g c =
    let ms = c.args.marks.now in
    let i = c.loop-mark.place in
    let m = c.mark-item.result in
    let lt : i < length ms = omega arith in
    let is : m ≡ get_or ms i m = rw c.loop-mark.invariant.place c.mark-item.is in
    let tail : List (List (List ℕ)) = left_words c.args.left ∷ [] in
    record {
      place = omega arith;
      counted = grind arith;
      pending =
          grows (g.K.Sink.written c.args.sink.now) (g.K.Sink.written c.make_room.new.sink) c.make_room.new.unsent.bytes (words_text (mark_words i m) ++ 10 ∷ [])
          (lines_text (marks_lines i (drop i ms) ++ tail)) c.push_mark.new.unsent.bytes (lines_text (marks_lines (i + 1) (drop (i + 1) ms) ++ tail)) (history_text c.args.head ms c.args.left)
          (next_mark ms i m tail lt is) (c.push_mark.ensures ∙ append_assoc c.make_room.new.unsent.bytes (words_text (mark_words i m)) (10 ∷ []))
          (c.in_ok-make_room.ensures.kept (g.K.Sink.written c.args.sink.now) (lines_text (marks_lines i (drop i ms) ++ tail)) (history_text c.args.head ms c.args.left) c.loop-mark.invariant.pending);
    }

pub returns-in_err-make_room-2-clause-prefix : goal.returns-in_err-make_room-2-clause-prefix
returns-in_err-make_room-2-clause-prefix g c =
    err_with c.from_residual-in_err-make_room-2.result
    (fails (g.K.Sink.written c.args.sink.now) (g.K.Sink.written c.loop-mark.sink) (g.K.Sink.written c.make_room-2.new.sink) c.loop-mark.unsent.bytes _ _ c.loop-mark.invariant.pending c.in_err-make_room-2.ensures.prefix)

-- the last line is held back too, and nothing is to come
abbrev LastPending : (g : _) → goal.After-put_all g → Type 0
LastPending g c = IfSome (g.K.Sink.written c.args.sink.now) (λ before. Pending c.as_bytes.result.now [] (history_text c.args.head c.args.marks.now c.args.left) (g.K.Sink.written c.make_room-2.new.sink) before)

last_pending : (g : _) (c : goal.After-put_all g) → LastPending g c
last_pending g c =
    let ms = c.args.marks.now in
    let i = c.loop-mark.place in
    let le : length ms ≤ i = omega arith in
    let line : List ℕ = words_text (left_words c.args.left) ++ 10 ∷ [] in
    let rest : List ℕ = lines_text (marks_lines i (drop i ms) ++ left_words c.args.left ∷ []) in
    let whole : List ℕ = history_text c.args.head ms c.args.left in
    grows (g.K.Sink.written c.args.sink.now) (g.K.Sink.written c.make_room-2.new.sink) c.make_room-2.new.unsent.bytes line rest c.as_bytes.result.now [] whole
    (last_line ms i (left_words c.args.left) le ∙ sym (append-nil line)) (c.as_bytes.ensures.value ∙ c.as_str.ensures.value ∙ c.push_left.ensures ∙ append_assoc c.make_room-2.new.unsent.bytes (words_text (left_words c.args.left)) (10 ∷ []))
    (c.in_ok-make_room-2.ensures.kept (g.K.Sink.written c.args.sink.now) rest whole c.loop-mark.invariant.pending)

pub returns-clause-appended : goal.returns-clause-appended
returns-clause-appended g c =
    let whole : List ℕ = history_text c.args.head c.args.marks.now c.args.left in
    ok_so c.put_all.result (ends (g.K.Sink.written c.args.sink.now) (g.K.Sink.written c.make_room-2.new.sink) (g.K.Sink.written c.put_all.new.sink) c.as_bytes.result.now whole (last_pending g c)) c.put_all.ensures.appended

pub returns-clause-prefix : goal.returns-clause-prefix
returns-clause-prefix g c =
    let whole : List ℕ = history_text c.args.head c.args.marks.now c.args.left in
    err_so c.put_all.result (fails (g.K.Sink.written c.args.sink.now) (g.K.Sink.written c.make_room-2.new.sink) (g.K.Sink.written c.put_all.new.sink) c.as_bytes.result.now [] whole (last_pending g c)) c.put_all.ensures.prefix
