-- The lines of a history that were read, and those that are found where they are spelled.
use Rattle.std.proofs.Common.{◌≡◌, ℕ, ◌<◌, ◌≤◌, Bool, true, false, cond, leb, List, [], ◌∷◌, codes, Result, Ok, Err, refl, sym, ap, subst, ◌∙◌, arith, ◌⊎◌, inl, inr}
use Rattle.std.specs.Str.{bytes_eq}
use Rattle.std.proofs.lemmas.Bool.{cases_Bool, true≢false}
use Rattle.std.proofs.lemmas.Bool.Decides.{nat_tests}
use Rattle.pq_io.specs.declared.text.fault.Cause.{Cause}
use Rattle.pq_io.specs.declared.text.fault.Cause.TheVariants.{Word, Extra}
use Rattle.pq_io.specs.Reading.{◌>>=◌, Spells, is_digits, number_of, word_at, number_at, after_word, at_line_end}
use Rattle.pq_io.proofs.Binds.{ok_is, bind_ok}
use Rattle.pq_io.proofs.Taken.{number_taken, number_found, word_first, same_word, fixed_taken, fixed_found, line_ends, end_found, number_of_is}
use Rattle.pq_io.proofs.Plain.{number_spelled}
use Rattle.pq_words.specs.declared.entries.Entry.{Entry}
use Rattle.pq_model.specs.declared.marks.Act.{Act}
use Rattle.pq_model.specs.declared.marks.Act.TheVariants.{Insert, Remove, RemoveBelow}
use Rattle.pq_model.specs.declared.marks.Reply.{Reply}
use Rattle.pq_model.specs.declared.marks.Reply.TheVariants.{Done, Got, Empty, Full, Above}
use Rattle.pq_model.specs.declared.marks.Mark.{Mark}
use Rattle.pq_model.specs.History.{mark, IsSeat}
use Rattle.pq_tape.specs.declared.history.Head.{Head}
use Rattle.pq_tape.specs.declared.history.lines.HistoryLine.{HistoryLine}
use Rattle.pq_tape.specs.declared.history.lines.HistoryLine.TheVariants.{Marked, Ends}
use Rattle.pq_tape.specs.HistoryText.{HasLine, insert_words}
use Rattle.pq_tape.specs.HistoryReading.{head_of, answer_of, insert_of, got_of, bare_of, removed_of, remove_of, limited_of, below_of, call_of, mark_of, placed_of, ends_of, line_of}
use Rattle.pq_tape.specs.HistorySpelling.{SpellsEntry, SpellsCall, SpellsMark, SpellsLeft, SpellsHead}
use Rattle.pq_tape.proofs.LineParts.{cases_ok, either_ok, word_found}
use Rattle.pq_model.specs.EntryWords.{entry_at}
use Rattle.pq_model.proofs.EntryWords.{entry_taken, entry_found}
use Rattle.pq_words.specs.Limits.{key_limit}
use Rattle.pq_model.specs.Limits.{max_seats, max_capacity}
use Rattle.pq_tape.specs.Limits.{max_marks}

abbrev Words : Type 0
Words = List (List ℕ)

-- a mark of this seat, whose act and reply these words spell, and which has a line
record CallTaken (seat : ℕ) (ws : Words) (m : Mark) : Type 0 where
  seat_is : m.seat ≡ seat
  spells : SpellsCall ws m.act m.reply
  line : HasLine m.act m.reply

-- how an insert was answered
answer_taken : (w : List ℕ) (r : Reply) → answer_of w ≡ Ok r → ((w ≡ codes "done") × (r ≡ Done)) ⊎ ((w ≡ codes "full") × (r ≡ Full))
unfolding answer_of
answer_taken w r e = elim (either_ok (bytes_eq w (codes "done")) (bytes_eq w (codes "full")) (Ok Done) (Ok Full) r Word e) [
  | inl p ↦ inl (same_word w (codes "done") p.0, sym (ok_is Done r p.1))
  | inr p ↦ inr (same_word w (codes "full") p.0, sym (ok_is Full r p.1))
]

insert_spelled : (seat : ℕ) (ws : Words) (e : Entry) (r : Reply) (w : List ℕ) → ((w ≡ codes "done") × (r ≡ Done)) ⊎ ((w ≡ codes "full") × (r ≡ Full))
    → (key id : List ℕ) → ws ≡ key ∷ id ∷ w ∷ [] → Spells key e.key → Spells id e.id → CallTaken seat (codes "+" ∷ ws) (mark seat (Insert e) r)
insert_spelled seat ws e r w (inl p) key id f k i =
    let f' : codes "+" ∷ ws ≡ insert_words (codes "done") key id = ap (λ (t : Words). codes "+" ∷ t) f ∙ ap (λ (t : List ℕ). codes "+" ∷ key ∷ id ∷ t ∷ []) p.0 in
    subst (λ (s : Reply). CallTaken seat (codes "+" ∷ ws) (mark seat (Insert e) s)) (sym p.1)
    (record { seat_is = refl; spells = record { key = key; id = id; words_are = f'; spells_key = k; spells_id = i }; line = tt })
insert_spelled seat ws e r w (inr p) key id f k i =
    let f' : codes "+" ∷ ws ≡ insert_words (codes "full") key id = ap (λ (t : Words). codes "+" ∷ t) f ∙ ap (λ (t : List ℕ). codes "+" ∷ key ∷ id ∷ t ∷ []) p.0 in
    subst (λ (s : Reply). CallTaken seat (codes "+" ∷ ws) (mark seat (Insert e) s)) (sym p.1)
    (record { seat_is = refl; spells = record { key = key; id = id; words_are = f'; spells_key = k; spells_id = i }; line = tt })

insert_taken : (seat : ℕ) (ws : Words) (m : Mark) → insert_of seat ws ≡ Ok m → CallTaken seat (codes "+" ∷ ws) m
unfolding insert_of
insert_taken seat ws m h =
    let a = bind_ok (entry_at ws) (λ entry. word_at entry.rest >>= λ word. answer_of word.value >>= λ answer. at_line_end word.rest >>= λ end. Ok (mark seat (Insert entry.value) answer)) m h in
    let b = bind_ok (word_at a.0.rest) (λ word. answer_of word.value >>= λ answer. at_line_end word.rest >>= λ end. Ok (mark seat (Insert a.0.value) answer)) m a.2 in
    let r = bind_ok (answer_of b.0.value) (λ answer. at_line_end b.0.rest >>= λ end. Ok (mark seat (Insert a.0.value) answer)) m b.2 in
    let z = bind_ok (at_line_end b.0.rest) (λ end. Ok (mark seat (Insert a.0.value) r.0)) m r.2 in
    let e = entry_taken ws a.0 a.1 in
    let last : a.0.rest ≡ b.0.value ∷ [] = word_first a.0.rest b.0 b.1 ∙ ap (λ (t : Words). b.0.value ∷ t) (line_ends b.0.rest z.0 z.1) in
    subst (λ (x : Mark). CallTaken seat (codes "+" ∷ ws) x) (ok_is (mark seat (Insert a.0.value) r.0) m z.2)
    (insert_spelled seat ws a.0.value r.0 b.0.value (answer_taken b.0.value r.0 r.1) e.key e.id (e.first ∙ ap (λ (t : Words). e.key ∷ e.id ∷ t) last) e.spells_key e.spells_id)

-- the words of a removal by this act are these in front of its answer, which may be Got or Empty
record Removal (act : Act) (prefix : Words → Words) : Type 0 where
  got : (ws : Words) (e : Entry) → SpellsEntry (λ key id. prefix (codes "got" ∷ key ∷ id ∷ [])) ws e → SpellsCall ws act (Got e) × HasLine act (Got e)
  empty : SpellsCall (prefix (codes "empty" ∷ [])) act Empty × HasLine act Empty

got_taken : (seat : ℕ) (act : Act) (prefix : Words → Words) (ws : Words) (m : Mark) → Removal act prefix → got_of seat act ws ≡ Ok m → CallTaken seat (prefix (codes "got" ∷ ws)) m
unfolding got_of
got_taken seat act prefix ws m removal h =
    let a = bind_ok (entry_at ws) (λ entry. at_line_end entry.rest >>= λ end. Ok (mark seat act (Got entry.value))) m h in
    let z = bind_ok (at_line_end a.0.rest) (λ end. Ok (mark seat act (Got a.0.value))) m a.2 in
    let e = entry_taken ws a.0 a.1 in
    let f : prefix (codes "got" ∷ ws) ≡ prefix (codes "got" ∷ e.key ∷ e.id ∷ []) = ap (λ (t : Words). prefix (codes "got" ∷ t)) (e.first ∙ ap (λ (t : Words). e.key ∷ e.id ∷ t) (line_ends a.0.rest z.0 z.1)) in
    let both = removal.got (prefix (codes "got" ∷ ws)) a.0.value (record { key = e.key; id = e.id; words_are = f; spells_key = e.spells_key; spells_id = e.spells_id }) in
    subst (λ (x : Mark). CallTaken seat (prefix (codes "got" ∷ ws)) x) (ok_is (mark seat act (Got a.0.value)) m z.2) (record { seat_is = refl; spells = both.0; line = both.1 })

bare_taken : (seat : ℕ) (act : Act) (reply : Reply) (prefix : Words → Words) (ws : Words) (m : Mark) → SpellsCall (prefix []) act reply × HasLine act reply → bare_of seat act reply ws ≡ Ok m → CallTaken seat (prefix ws) m
unfolding bare_of
bare_taken seat act reply prefix ws m both h =
    let z = bind_ok (at_line_end ws) (λ end. Ok (mark seat act reply)) m h in
    subst (λ (x : Mark). CallTaken seat (prefix ws) x) (ok_is (mark seat act reply) m z.2)
    (record { seat_is = refl; spells = subst (λ (t : Words). SpellsCall (prefix t) act reply) (sym (line_ends ws z.0 z.1)) both.0; line = both.1 })

removed_taken : (seat : ℕ) (act : Act) (prefix : Words → Words) (w : List ℕ) (ws : Words) (m : Mark) → Removal act prefix → removed_of seat act w ws ≡ Ok m → CallTaken seat (prefix (w ∷ ws)) m
unfolding removed_of
removed_taken seat act prefix w ws m removal h = elim (either_ok (bytes_eq w (codes "got")) (bytes_eq w (codes "empty")) (got_of seat act ws) (bare_of seat act Empty ws) m Word h) [
  | inl p ↦ subst (λ (v : List ℕ). CallTaken seat (prefix (v ∷ ws)) m) (sym (same_word w (codes "got") p.0)) (got_taken seat act prefix ws m removal p.1)
  | inr p ↦ subst (λ (v : List ℕ). CallTaken seat (prefix (v ∷ ws)) m) (sym (same_word w (codes "empty") p.0)) (bare_taken seat act Empty (λ t. prefix (codes "empty" ∷ t)) ws m removal.empty p.1)
]

remove_taken : (seat : ℕ) (ws : Words) (m : Mark) → remove_of seat ws ≡ Ok m → CallTaken seat (codes "-" ∷ ws) m
unfolding remove_of
remove_taken seat ws m h =
    let a = bind_ok (word_at ws) (λ word. removed_of seat Remove word.value word.rest) m h in
    subst (λ (t : Words). CallTaken seat (codes "-" ∷ t) m) (sym (word_first ws a.0 a.1))
    (removed_taken seat Remove (λ t. codes "-" ∷ t) a.0.value a.0.rest m (record { got = λ ws e s. (s, tt); empty = (refl, tt) }) a.2)

limited_taken : (seat limit : ℕ) (number : List ℕ) (w : List ℕ) (ws : Words) (m : Mark) → Spells number limit → limit ≤ key_limit → limited_of seat (RemoveBelow limit) w ws ≡ Ok m → CallTaken seat (codes "<" ∷ number ∷ w ∷ ws) m
unfolding limited_of
limited_taken seat limit number w ws m spells le h = elim (cases_ok (bytes_eq w (codes "above")) (bare_of seat (RemoveBelow limit) Above ws) (removed_of seat (RemoveBelow limit) w ws) m h) [
  | inl p ↦ subst (λ (v : List ℕ). CallTaken seat (codes "<" ∷ number ∷ v ∷ ws) m) (sym (same_word w (codes "above") p.0))
      (bare_taken seat (RemoveBelow limit) Above (λ t. codes "<" ∷ number ∷ codes "above" ∷ t) ws m (record { number = number; spells_limit = spells; behind = refl }, le) p.1)
  | inr p ↦ removed_taken seat (RemoveBelow limit) (λ t. codes "<" ∷ number ∷ t) w ws m (record {
    got = λ vs e s. (record { number = number; spells_limit = spells; behind = s }, le);
    empty = (record { number = number; spells_limit = spells; behind = refl }, le);
  }) p
]

below_taken : (seat : ℕ) (ws : Words) (m : Mark) → below_of seat ws ≡ Ok m → CallTaken seat (codes "<" ∷ ws) m
unfolding below_of
below_taken seat ws m h =
    let a = bind_ok (number_at 0 key_limit ws) (λ limit. word_at limit.rest >>= λ word. limited_of seat (RemoveBelow limit.value) word.value word.rest) m h in
    let b = bind_ok (word_at a.0.rest) (λ word. limited_of seat (RemoveBelow a.0.value) word.value word.rest) m a.2 in
    let n = number_taken 0 key_limit ws a.0 a.1 in
    let whole : ws ≡ n.word ∷ b.0.value ∷ b.0.rest = n.first ∙ ap (λ (t : Words). n.word ∷ t) (word_first a.0.rest b.0 b.1) in
    subst (λ (t : Words). CallTaken seat (codes "<" ∷ t) m) (sym whole)
    (limited_taken seat a.0.value n.word b.0.value b.0.rest m n.spells n.below b.2)

call_taken : (seat : ℕ) (w : List ℕ) (ws : Words) (m : Mark) → call_of seat w ws ≡ Ok m → CallTaken seat (w ∷ ws) m
unfolding call_of
call_taken seat w ws m h = elim (cases_ok (bytes_eq w (codes "+")) (insert_of seat ws) (cond (bytes_eq w (codes "-")) (remove_of seat ws) (cond (bytes_eq w (codes "<")) (below_of seat ws) (Err Word))) m h) [
  | inl p ↦ subst (λ (v : List ℕ). CallTaken seat (v ∷ ws) m) (sym (same_word w (codes "+") p.0)) (insert_taken seat ws m p.1)
  | inr q ↦ elim (either_ok (bytes_eq w (codes "-")) (bytes_eq w (codes "<")) (remove_of seat ws) (below_of seat ws) m Word q) [
    | inl p ↦ subst (λ (v : List ℕ). CallTaken seat (v ∷ ws) m) (sym (same_word w (codes "-") p.0)) (remove_taken seat ws m p.1)
    | inr p ↦ subst (λ (v : List ℕ). CallTaken seat (v ∷ ws) m) (sym (same_word w (codes "<") p.0)) (below_taken seat ws m p.1)
  ]
]

-- a call that is spelled, and has a line, is read
abbrev call_at : ℕ → Words → Result Mark Cause
call_at seat ws = word_at ws >>= λ word. call_of seat word.value word.rest

call_found : (seat : ℕ) (ws : Words) (act : Act) (reply : Reply) → SpellsCall ws act reply → HasLine act reply → call_at seat ws ≡ Ok (mark seat act reply)
unfolding call_of insert_of remove_of below_of limited_of removed_of got_of bare_of answer_of
call_found seat ws (Insert e) Done s line =
    rw (s.words_are, word_found (codes "+") (s.key ∷ s.id ∷ codes "done" ∷ []), entry_found s.key s.id (codes "done" ∷ []) e s.spells_key s.spells_id, word_found (codes "done") [], end_found) refl
call_found seat ws (Insert e) Full s line =
    rw (s.words_are, word_found (codes "+") (s.key ∷ s.id ∷ codes "full" ∷ []), entry_found s.key s.id (codes "full" ∷ []) e s.spells_key s.spells_id, word_found (codes "full") [], end_found) refl
call_found seat ws (Insert e) (Got x) s line = absurd s
call_found seat ws (Insert e) Empty s line = absurd s
call_found seat ws (Insert e) Above s line = absurd s
call_found seat ws Remove (Got e) s line =
    rw (s.words_are, word_found (codes "-") (codes "got" ∷ s.key ∷ s.id ∷ []), word_found (codes "got") (s.key ∷ s.id ∷ []), entry_found s.key s.id [] e s.spells_key s.spells_id, end_found) refl
call_found seat ws Remove Empty s line = rw (s, word_found (codes "-") (codes "empty" ∷ []), word_found (codes "empty") [], end_found) refl
call_found seat ws Remove Done s line = absurd s
call_found seat ws Remove Full s line = absurd s
call_found seat ws Remove Above s line = absurd s
call_found seat ws (RemoveBelow limit) (Got e) s line = let t = s.behind in
    rw (t.words_are, word_found (codes "<") (s.number ∷ codes "got" ∷ t.key ∷ t.id ∷ []), number_found 0 key_limit s.number (codes "got" ∷ t.key ∷ t.id ∷ []) limit s.spells_limit (omega arith) line, word_found (codes "got") (t.key ∷ t.id ∷ []), entry_found t.key t.id [] e t.spells_key t.spells_id, end_found) refl
call_found seat ws (RemoveBelow limit) Empty s line =
    rw (s.behind, word_found (codes "<") (s.number ∷ codes "empty" ∷ []), number_found 0 key_limit s.number (codes "empty" ∷ []) limit s.spells_limit (omega arith) line, word_found (codes "empty") [], end_found) refl
call_found seat ws (RemoveBelow limit) Above s line =
    rw (s.behind, word_found (codes "<") (s.number ∷ codes "above" ∷ []), number_found 0 key_limit s.number (codes "above" ∷ []) limit s.spells_limit (omega arith) line, word_found (codes "above") [], end_found) refl
call_found seat ws (RemoveBelow limit) Done s line = absurd s
call_found seat ws (RemoveBelow limit) Full s line = absurd s

-- what stands behind the place

record SeatedTaken (seats : ℕ) (ws : Words) (m : Mark) : Type 0 where
  word : List ℕ
  others : Words
  first : ws ≡ word ∷ others
  spells_seat : Spells word m.seat
  seated : IsSeat seats m.seat
  spells_call : SpellsCall others m.act m.reply
  line : HasLine m.act m.reply

mark_taken : (seats : ℕ) (ws : Words) (m : Mark) → mark_of seats ws ≡ Ok m → SeatedTaken seats ws m
unfolding mark_of
mark_taken seats ws m h =
    let a = bind_ok (number_at 1 seats ws) (λ seat. call_at seat.value seat.rest) m h in
    let b = bind_ok (word_at a.0.rest) (λ word. call_of a.0.value word.value word.rest) m a.2 in
    let call : CallTaken a.0.value a.0.rest m = subst (λ (t : Words). CallTaken a.0.value t m) (sym (word_first a.0.rest b.0 b.1)) (call_taken a.0.value b.0.value b.0.rest m b.2) in
    let n = number_taken 1 seats ws a.0 a.1 in
    record {
      word = n.word;
      others = a.0.rest;
      first = n.first;
      spells_seat = subst (λ (k : ℕ). Spells n.word k) (sym call.seat_is) n.spells;
      seated = (omega (arith, n.above, call.seat_is), omega (arith, n.below, call.seat_is));
      spells_call = call.spells;
      line = call.line;
    }

mark_found : (seats : ℕ) (word : List ℕ) (others : Words) (m : Mark) → Spells word m.seat → IsSeat seats m.seat → SpellsCall others m.act m.reply → HasLine m.act m.reply → mark_of seats (word ∷ others) ≡ Ok m
unfolding mark_of
mark_found seats word others m p seat call line =
    rw (number_found 1 seats word others m.seat p seat.0 seat.1) (call_found m.seat others m.act m.reply call line)

-- lines of two kinds

marked_is : (m n : Mark) → Marked m ≡ Marked n → m ≡ n
marked_is m n e = cc

ends_is : (j k : ℕ) → Ends j ≡ Ends k → j ≡ k
ends_is j k e = cc

ends_not : {P : Type 0} (m : Mark) (left : ℕ) → Marked m ≡ Ends left → P
ends_not m left e = absurd cc

-- a reading in front of which no fault was found
else_ok : {A E : Type 0} (b : Bool) (x : Result A E) (y : A) (d : E) → cond b (Err d) x ≡ Ok y → (b ≡ false) × (x ≡ Ok y)
else_ok true x y d e = absurd cc
else_ok false x y d e = (refl, e)

not_le : (place : ℕ) → leb max_marks place ≡ false → place < max_marks
not_le place e = grind (arith, nat_tests)

le_not : (place : ℕ) → place < max_marks → leb max_marks place ≡ false
le_not place lt = grind (arith, nat_tests)

-- the line of a mark

pub record MarkTaken (place seats : ℕ) (ws : Words) (m : Mark) : Type 0 where
  pub spells : SpellsMark place ws m
  pub seated : IsSeat seats m.seat
  pub line : HasLine m.act m.reply
  pub few : place < max_marks

placed_taken : (place seats : ℕ) (word : List ℕ) (ws : Words) (m : Mark) → placed_of place seats word ws ≡ Ok (Marked m) → MarkTaken place seats (word ∷ ws) m
unfolding placed_of
placed_taken place seats word ws m h =
    let a = bind_ok (number_of place place word) (λ number. cond (leb max_marks place) (Err Extra) (mark_of seats ws) >>= λ mark. Ok (Marked mark)) (Marked m) h in
    let b = bind_ok (cond (leb max_marks place) (Err Extra) (mark_of seats ws)) (λ mark. Ok (Marked mark)) (Marked m) a.2 in
    let n = number_of_is place place word a.0 a.1 in
    let k : a.0 ≡ place = omega (arith, n.1, n.2) in
    let c = else_ok (leb max_marks place) (mark_of seats ws) b.0 Extra b.1 in
    let t = mark_taken seats ws b.0 c.1 in
    let same : b.0 ≡ m = marked_is b.0 m (ok_is (Marked b.0) (Marked m) b.2) in
    subst (λ (x : Mark). MarkTaken place seats (word ∷ ws) x) same
    (record {
      spells = record { first = word; second = t.word; others = t.others; words_are = ap (λ (x : Words). word ∷ x) t.first; spells_place = subst (λ (j : ℕ). Spells word j) k n.0; spells_seat = t.spells_seat; spells_call = t.spells_call };
      seated = t.seated;
      line = t.line;
      few = not_le place c.0;
    })

placed_ends_not : {P : Type 0} (place seats : ℕ) (word : List ℕ) (ws : Words) (left : ℕ) → placed_of place seats word ws ≡ Ok (Ends left) → P
unfolding placed_of
placed_ends_not place seats word ws left h =
    let a = bind_ok (number_of place place word) (λ number. cond (leb max_marks place) (Err Extra) (mark_of seats ws) >>= λ mark. Ok (Marked mark)) (Ends left) h in
    let b = bind_ok (cond (leb max_marks place) (Err Extra) (mark_of seats ws)) (λ mark. Ok (Marked mark)) (Ends left) a.2 in
    ends_not b.0 left (ok_is (Marked b.0) (Ends left) b.2)

ends_taken : (ws : Words) (left : ℕ) → ends_of ws ≡ Ok (Ends left) → SpellsLeft (codes "left" ∷ ws) left × (left ≤ max_capacity)
unfolding ends_of
ends_taken ws left h =
    let a = bind_ok (number_at 0 max_capacity ws) (λ left. at_line_end left.rest >>= λ end. Ok (Ends left.value)) (Ends left) h in
    let z = bind_ok (at_line_end a.0.rest) (λ end. Ok (Ends a.0.value)) (Ends left) a.2 in
    let n = number_taken 0 max_capacity ws a.0 a.1 in
    let same : a.0.value ≡ left = ends_is a.0.value left (ok_is (Ends a.0.value) (Ends left) z.2) in
    subst (λ (k : ℕ). SpellsLeft (codes "left" ∷ ws) k × (k ≤ max_capacity)) same
    (record { number = n.word; words_are = ap (λ (t : Words). codes "left" ∷ t) (n.first ∙ ap (λ (t : Words). n.word ∷ t) (line_ends a.0.rest z.0 z.1)); spells = n.spells }, n.below)

ends_marked_not : {P : Type 0} (ws : Words) (m : Mark) → ends_of ws ≡ Ok (Marked m) → P
unfolding ends_of
ends_marked_not ws m h =
    let a = bind_ok (number_at 0 max_capacity ws) (λ left. at_line_end left.rest >>= λ end. Ok (Ends left.value)) (Marked m) h in
    let z = bind_ok (at_line_end a.0.rest) (λ end. Ok (Ends a.0.value)) (Marked m) a.2 in
    ends_not m a.0.value (sym (ok_is (Ends a.0.value) (Marked m) z.2))

-- a line behind the first

abbrev behind_first : ℕ → ℕ → List ℕ → Words → Result HistoryLine Cause
behind_first place seats word ws = cond (bytes_eq word (codes "left")) (ends_of ws) (placed_of place seats word ws)

behind_marked : (place seats : ℕ) (word : List ℕ) (ws : Words) (m : Mark) (b : Bool) → cond b (ends_of ws) (placed_of place seats word ws) ≡ Ok (Marked m) → MarkTaken place seats (word ∷ ws) m
behind_marked place seats word ws m true h = ends_marked_not ws m h
behind_marked place seats word ws m false h = placed_taken place seats word ws m h

behind_ends : (place seats : ℕ) (word : List ℕ) (ws : Words) (left : ℕ) (b : Bool) → bytes_eq word (codes "left") ≡ b → cond b (ends_of ws) (placed_of place seats word ws) ≡ Ok (Ends left) → SpellsLeft (word ∷ ws) left × (left ≤ max_capacity)
behind_ends place seats word ws left true e h =
    subst (λ (w : List ℕ). SpellsLeft (w ∷ ws) left × (left ≤ max_capacity)) (sym (same_word word (codes "left") e)) (ends_taken ws left h)
behind_ends place seats word ws left false e h = placed_ends_not place seats word ws left h

pub marked_taken : (place seats : ℕ) (ws : Words) (m : Mark) → line_of place seats ws ≡ Ok (Marked m) → MarkTaken place seats ws m
unfolding line_of
marked_taken place seats ws m h =
    let a = bind_ok (word_at ws) (λ word. behind_first place seats word.value word.rest) (Marked m) h in
    subst (λ (t : Words). MarkTaken place seats t m) (sym (word_first ws a.0 a.1)) (behind_marked place seats a.0.value a.0.rest m (bytes_eq a.0.value (codes "left")) a.2)

pub left_taken : (place seats : ℕ) (ws : Words) (left : ℕ) → line_of place seats ws ≡ Ok (Ends left) → SpellsLeft ws left × (left ≤ max_capacity)
unfolding line_of
left_taken place seats ws left h =
    let a = bind_ok (word_at ws) (λ word. behind_first place seats word.value word.rest) (Ends left) h in
    subst (λ (t : Words). SpellsLeft t left × (left ≤ max_capacity)) (sym (word_first ws a.0 a.1)) (behind_ends place seats a.0.value a.0.rest left (bytes_eq a.0.value (codes "left")) refl a.2)

-- `left` spells no number
left_spells_not : (word : List ℕ) (n : ℕ) → Spells word n → bytes_eq word (codes "left") ≡ false
left_spells_not word n s = elim (cases_Bool (bytes_eq word (codes "left"))) [
  | inl e ↦ absurd (true≢false (sym s.0 ∙ ap is_digits (same_word word (codes "left") e)))
  | inr e ↦ e
]

placed_found : (place seats : ℕ) (word second : List ℕ) (others : Words) (m : Mark) → Spells word place → place < max_marks → Spells second m.seat → IsSeat seats m.seat → SpellsCall others m.act m.reply → HasLine m.act m.reply
    → placed_of place seats word (second ∷ others) ≡ Ok (Marked m)
unfolding placed_of
placed_found place seats word second others m p few q seat call line =
    let n : number_of place place word ≡ Ok place = number_spelled place place word p.0 (omega (arith, p.1)) (omega (arith, p.1)) ∙ ap (λ k. Ok k) p.1 in
    rw (n, le_not place few, mark_found seats second others m q seat call line) refl

pub marked_found : (place seats : ℕ) (ws : Words) (m : Mark) → SpellsMark place ws m → IsSeat seats m.seat → HasLine m.act m.reply → place < max_marks → line_of place seats ws ≡ Ok (Marked m)
unfolding line_of
marked_found place seats ws m s seat line few =
    rw (s.words_are, word_found s.first (s.second ∷ s.others), left_spells_not s.first place s.spells_place)
    (placed_found place seats s.first s.second s.others m s.spells_place few s.spells_seat seat s.spells_call line)

pub left_found : (place seats : ℕ) (ws : Words) (left : ℕ) → SpellsLeft ws left → left ≤ max_capacity → line_of place seats ws ≡ Ok (Ends left)
unfolding line_of ends_of
left_found place seats ws left s le =
    rw (s.words_are, word_found (codes "left") (s.number ∷ []), number_found 0 max_capacity s.number [] left s.spells (omega arith) le, end_found) refl

-- the first line

pub record HeadTaken (ws : Words) (head : Head) : Type 0 where
  pub spells : SpellsHead ws head
  pub seats : (1 ≤ head.seats) × (head.seats ≤ max_seats)
  pub capacity : (1 ≤ head.capacity) × (head.capacity ≤ max_capacity)

pub head_taken : (ws : Words) (head : Head) → head_of ws ≡ Ok head → HeadTaken ws head
unfolding head_of
head_taken ws head h =
    let a = bind_ok (after_word (codes "seats") ws) (λ first. number_at 1 max_seats first >>= λ seats. after_word (codes "capacity") seats.rest >>= λ second. number_at 1 max_capacity second >>= λ capacity. at_line_end capacity.rest >>= λ end. Ok (record { seats = seats.value; capacity = capacity.value })) head h in
    let s = bind_ok (number_at 1 max_seats a.0) (λ seats. after_word (codes "capacity") seats.rest >>= λ second. number_at 1 max_capacity second >>= λ capacity. at_line_end capacity.rest >>= λ end. Ok (record { seats = seats.value; capacity = capacity.value })) head a.2 in
    let b = bind_ok (after_word (codes "capacity") s.0.rest) (λ second. number_at 1 max_capacity second >>= λ capacity. at_line_end capacity.rest >>= λ end. Ok (record { seats = s.0.value; capacity = capacity.value })) head s.2 in
    let c = bind_ok (number_at 1 max_capacity b.0) (λ capacity. at_line_end capacity.rest >>= λ end. Ok (record { seats = s.0.value; capacity = capacity.value })) head b.2 in
    let z = bind_ok (at_line_end c.0.rest) (λ end. Ok (record { seats = s.0.value; capacity = c.0.value })) head c.2 in
    let v = number_taken 1 max_seats a.0 s.0 s.1 in
    let w = number_taken 1 max_capacity b.0 c.0 c.1 in
    let made : Head = record { seats = s.0.value; capacity = c.0.value } in
    let tail : b.0 ≡ w.word ∷ [] = w.first ∙ ap (λ (t : Words). w.word ∷ t) (line_ends c.0.rest z.0 z.1) in
    let middle : s.0.rest ≡ codes "capacity" ∷ w.word ∷ [] = fixed_taken (codes "capacity") s.0.rest b.0 b.1 ∙ ap (λ (t : Words). codes "capacity" ∷ t) tail in
    let whole : ws ≡ codes "seats" ∷ v.word ∷ codes "capacity" ∷ w.word ∷ [] = fixed_taken (codes "seats") ws a.0 a.1 ∙ ap (λ (t : Words). codes "seats" ∷ t) (v.first ∙ ap (λ (t : Words). v.word ∷ t) middle) in
    subst (λ (x : Head). HeadTaken ws x) (ok_is made head z.2)
    (record { spells = record { first = v.word; second = w.word; words_are = whole; spells_seats = v.spells; spells_capacity = w.spells }; seats = (v.above, v.below); capacity = (w.above, w.below) })

pub head_found : (ws : Words) (head : Head) → SpellsHead ws head → (1 ≤ head.seats) × (head.seats ≤ max_seats) → (1 ≤ head.capacity) × (head.capacity ≤ max_capacity) → head_of ws ≡ Ok head
unfolding head_of
head_found ws head s p q =
    rw (
      s.words_are,
      fixed_found (codes "seats") (s.first ∷ codes "capacity" ∷ s.second ∷ []),
      number_found 1 max_seats s.first (codes "capacity" ∷ s.second ∷ []) head.seats s.spells_seats p.0 p.1,
      fixed_found (codes "capacity") (s.second ∷ []),
      number_found 1 max_capacity s.second [] head.capacity s.spells_capacity q.0 q.1,
      end_found,
    ) refl
