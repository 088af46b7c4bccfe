-- The text of a history is a text of this history.
use Rattle.std.proofs.Common.{◌≡◌, ℕ, ◌+◌, ◌*◌, ◌<◌, ◌≤◌, ◌^◌, Bool, true, ◌&&◌, List, [], ◌∷◌, ◌++◌, length, codes, decimal, Ok, refl, sym, ap, subst, arith}
use Rattle.std.specs.List.{AllByRecursion}
use Rattle.std.proofs.lemmas.Bool.{and_parts}
use Rattle.std.proofs.lemmas.List.{length-append}
use Rattle.std.proofs.lemmas.List.Elements.{recursion_from_All}
use Rattle.std.proofs.lemmas.Fmt.{length-decimal-le}
use Rattle.pq_io.specs.Lines.{Line, Text, text_of}
use Rattle.pq_io.specs.Writing.{words_text, lines_text, lines_from, is_plain, IsPlainWord, IsPlainLine}
use Rattle.pq_io.proofs.Plain.{text_again, decimal_plain, decimal_digits}
use Rattle.pq_words.specs.declared.entries.Entry.{Entry}
use Rattle.pq_model.specs.declared.marks.Act.{Act}
use Rattle.pq_model.specs.declared.marks.Act.TheVariants.{Insert, Remove, RemoveBelow}
use Rattle.pq_model.specs.declared.marks.Reply.{Reply}
use Rattle.pq_model.specs.declared.marks.Reply.TheVariants.{Done, Got, Empty, Full, Above}
use Rattle.pq_model.specs.declared.marks.Mark.{Mark}
use Rattle.pq_words.specs.Limits.{key_limit}
use Rattle.pq_model.specs.Limits.{max_seats, max_capacity}
use Rattle.pq_model.specs.History.{IsSeat}
use Rattle.pq_tape.specs.Limits.{max_marks}
use Rattle.pq_tape.specs.declared.history.Head.{Head}
use Rattle.pq_tape.specs.HistoryText.{insert_words, got_words, below_got_words}
use Rattle.pq_tape.specs.HistoryText.{Recorded, HasLine, IsWithinLimits, call_words, mark_words, marks_lines, head_words, left_words, history_lines, history_text}
use Rattle.pq_tape.specs.HistoryReading.{history_of}
use Rattle.pq_tape.specs.HistorySpelling.{SpellsEntry, SpellsCall, SpellsMark, SpellsHead, SpellMarks, SpellHistory, IsHistoryText}
use Rattle.pq_tape.proofs.HistoryTexts.{history_is_read}

-- words that can be written

all_plain : List ℕ → Bool
all_plain [] = true
all_plain (b ∷ bs) = is_plain b && all_plain bs

plain_bytes : (bs : List ℕ) → all_plain bs ≡ true → AllByRecursion (λ c. is_plain c ≡ true) bs
unfolding all_plain
plain_bytes [] e = tt
plain_bytes (b ∷ bs) e = let p = and_parts (is_plain b) (all_plain bs) e in (p.0, plain_bytes bs p.1)

plain_word : (b : ℕ) (bs : List ℕ) → all_plain (b ∷ bs) ≡ true → IsPlainWord (b ∷ bs)
plain_word b bs e = plain_bytes (b ∷ bs) e

abbrev ArePlain : List (List ℕ) → Type 0
ArePlain ws = AllByRecursion IsPlainWord ws

plain_number : (n : ℕ) → n < 2 ^ 64 → IsPlainWord (decimal n)
plain_number n h = (decimal_plain n h).0

call_plain : (act : Act) (reply : Reply) → HasLine act reply → ArePlain (call_words act reply)
unfolding all_plain
call_plain (Insert e) Done h = (plain_word 43 [] refl, (plain_number e.key (omega (arith, e.key_fits)), (plain_number e.id (omega (arith, e.id_fits)), (plain_word 100 (111 ∷ 110 ∷ 101 ∷ []) refl, tt))))
call_plain (Insert e) Full h = (plain_word 43 [] refl, (plain_number e.key (omega (arith, e.key_fits)), (plain_number e.id (omega (arith, e.id_fits)), (plain_word 102 (117 ∷ 108 ∷ 108 ∷ []) refl, tt))))
call_plain (Insert e) (Got x) h = absurd h
call_plain (Insert e) Empty h = absurd h
call_plain (Insert e) Above h = absurd h
call_plain Remove (Got e) h = (plain_word 45 [] refl, (plain_word 103 (111 ∷ 116 ∷ []) refl, (plain_number e.key (omega (arith, e.key_fits)), (plain_number e.id (omega (arith, e.id_fits)), tt))))
call_plain Remove Empty h = (plain_word 45 [] refl, (plain_word 101 (109 ∷ 112 ∷ 116 ∷ 121 ∷ []) refl, tt))
call_plain Remove Done h = absurd h
call_plain Remove Full h = absurd h
call_plain Remove Above h = absurd h
call_plain (RemoveBelow limit) (Got e) h = (plain_word 60 [] refl, (plain_number limit (omega arith), (plain_word 103 (111 ∷ 116 ∷ []) refl, (plain_number e.key (omega (arith, e.key_fits)), (plain_number e.id (omega (arith, e.id_fits)), tt)))))
call_plain (RemoveBelow limit) Empty h = (plain_word 60 [] refl, (plain_number limit (omega arith), (plain_word 101 (109 ∷ 112 ∷ 116 ∷ 121 ∷ []) refl, tt)))
call_plain (RemoveBelow limit) Above h = (plain_word 60 [] refl, (plain_number limit (omega arith), (plain_word 97 (98 ∷ 111 ∷ 118 ∷ 101 ∷ []) refl, tt)))
call_plain (RemoveBelow limit) Done h = absurd h
call_plain (RemoveBelow limit) Full h = absurd h

mark_plain : (place : ℕ) (m : Mark) → place < 2 ^ 64 → m.seat < 2 ^ 64 → HasLine m.act m.reply → IsPlainLine (mark_words place m)
mark_plain place m p q h = ((plain_number place p, (plain_number m.seat q, call_plain m.act m.reply h)), (decimal_plain place p).1)

left_plain : (left : ℕ) → left < 2 ^ 64 → IsPlainLine (left_words left)
unfolding all_plain
left_plain left h = ((plain_word 108 (101 ∷ 102 ∷ 116 ∷ []) refl, (plain_number left h, tt)), refl)

head_plain : (head : Head) → head.seats < 2 ^ 64 → head.capacity < 2 ^ 64 → IsPlainLine (head_words head)
unfolding all_plain
head_plain head p q = ((plain_word 115 (101 ∷ 97 ∷ 116 ∷ 115 ∷ []) refl, (plain_number head.seats p, (plain_word 99 (97 ∷ 112 ∷ 97 ∷ 99 ∷ 105 ∷ 116 ∷ 121 ∷ []) refl, (plain_number head.capacity q, tt)))), refl)

-- words that spell what they were written for

entry_spelled : (shape : List ℕ → List ℕ → List (List ℕ)) (e : Entry) → SpellsEntry shape (shape (decimal e.key) (decimal e.id)) e
entry_spelled shape e = record { key = decimal e.key; id = decimal e.id; words_are = refl; spells_key = decimal_digits e.key (omega (arith, e.key_fits)); spells_id = decimal_digits e.id (omega (arith, e.id_fits)) }

call_spelled : (act : Act) (reply : Reply) → HasLine act reply → SpellsCall (call_words act reply) act reply
call_spelled (Insert e) Done h = entry_spelled (insert_words (codes "done")) e
call_spelled (Insert e) Full h = entry_spelled (insert_words (codes "full")) e
call_spelled (Insert e) (Got x) h = absurd h
call_spelled (Insert e) Empty h = absurd h
call_spelled (Insert e) Above h = absurd h
call_spelled Remove (Got e) h = entry_spelled got_words e
call_spelled Remove Empty h = refl
call_spelled Remove Done h = absurd h
call_spelled Remove Full h = absurd h
call_spelled Remove Above h = absurd h
call_spelled (RemoveBelow limit) (Got e) h = record { number = decimal limit; spells_limit = decimal_digits limit (omega arith); behind = entry_spelled (below_got_words (decimal limit)) e }
call_spelled (RemoveBelow limit) Empty h = record { number = decimal limit; spells_limit = decimal_digits limit (omega arith); behind = refl }
call_spelled (RemoveBelow limit) Above h = record { number = decimal limit; spells_limit = decimal_digits limit (omega arith); behind = refl }
call_spelled (RemoveBelow limit) Done h = absurd h
call_spelled (RemoveBelow limit) Full h = absurd h

mark_spelled : (place : ℕ) (m : Mark) → place < 2 ^ 64 → m.seat < 2 ^ 64 → HasLine m.act m.reply → SpellsMark place (mark_words place m) m
mark_spelled place m p q h = record {
  first = decimal place;
  second = decimal m.seat;
  others = call_words m.act m.reply;
  words_are = refl;
  spells_place = decimal_digits place p;
  spells_seat = decimal_digits m.seat q;
  spells_call = call_spelled m.act m.reply h;
}

-- how long they are

short : (k n : ℕ) → 1 ≤ k → n < 10 ^ k → n < 2 ^ 64 → length (decimal n) ≤ k
short k n a p q = length-decimal-le k n (omega arith) p q

word_length : (w : List ℕ) (ws : List (List ℕ)) → length (words_text (w ∷ ws)) ≤ length w + 1 + length (words_text ws)
word_length w [] = omega arith
word_length w (v ∷ ws) = omega (arith, length-append w (32 ∷ words_text (v ∷ ws)))

entry_length : (e : Entry) → length (decimal e.key) + length (decimal e.id) ≤ 15
entry_length e =
    let k : length (decimal e.key) ≤ 8 = short 8 e.key (omega arith) (omega (arith, e.key_fits)) (omega (arith, e.key_fits)) in
    let i : length (decimal e.id) ≤ 7 = short 7 e.id (omega arith) (omega (arith, e.id_fits)) (omega (arith, e.id_fits)) in
    omega arith

insert_length : (e : Entry) (a b c d : ℕ) → length (words_text (codes "+" ∷ decimal e.key ∷ decimal e.id ∷ (a ∷ b ∷ c ∷ d ∷ []) ∷ [])) ≤ 32
insert_length e a b c d =
    let answer : List ℕ = a ∷ b ∷ c ∷ d ∷ [] in
    omega (arith, entry_length e, length-append (decimal e.key) (32 ∷ (decimal e.id ++ 32 ∷ answer)), length-append (decimal e.id) (32 ∷ answer))

limit_length : (limit : ℕ) → limit ≤ key_limit → length (decimal limit) ≤ 8
limit_length limit h = short 8 limit (omega arith) (omega arith) (omega arith)

call_length : (act : Act) (reply : Reply) → HasLine act reply → length (words_text (call_words act reply)) ≤ 32
call_length (Insert e) Done h = insert_length e 100 111 110 101
call_length (Insert e) Full h = insert_length e 102 117 108 108
call_length (Insert e) (Got x) h = absurd h
call_length (Insert e) Empty h = absurd h
call_length (Insert e) Above h = absurd h
call_length Remove (Got e) h = omega (arith, entry_length e, length-append (decimal e.key) (32 ∷ decimal e.id))
call_length Remove Empty h = omega arith
call_length Remove Done h = absurd h
call_length Remove Full h = absurd h
call_length Remove Above h = absurd h
call_length (RemoveBelow limit) (Got e) h = omega (arith, limit_length limit h, entry_length e, length-append (decimal limit) (32 ∷ 103 ∷ 111 ∷ 116 ∷ 32 ∷ (decimal e.key ++ 32 ∷ decimal e.id)), length-append (decimal e.key) (32 ∷ decimal e.id))
call_length (RemoveBelow limit) Empty h = omega (arith, limit_length limit h, length-append (decimal limit) (32 ∷ codes "empty"))
call_length (RemoveBelow limit) Above h = omega (arith, limit_length limit h, length-append (decimal limit) (32 ∷ codes "above"))
call_length (RemoveBelow limit) Done h = absurd h
call_length (RemoveBelow limit) Full h = absurd h

mark_length : (place : ℕ) (m : Mark) → place ≤ max_marks → m.seat ≤ max_seats → HasLine m.act m.reply → length (words_text (mark_words place m)) ≤ 43
mark_length place m p q h =
    let a : length (decimal place) ≤ 7 = short 7 place (omega arith) (omega arith) (omega arith) in
    let b : length (decimal m.seat) ≤ 2 = short 2 m.seat (omega arith) (omega arith) (omega arith) in
    omega (arith, word_length (decimal place) (decimal m.seat ∷ call_words m.act m.reply), word_length (decimal m.seat) (call_words m.act m.reply), call_length m.act m.reply h)

-- the marks

abbrev AreGood : ℕ → List Mark → Type 0
AreGood seats ms = AllByRecursion (λ (x : Mark). IsSeat seats x.seat) ms × AllByRecursion (λ (x : Mark). HasLine x.act x.reply) ms

marks_plain : (seats place : ℕ) (ms : List Mark) (left : ℕ) → seats ≤ max_seats → AreGood seats ms → length ms + place ≤ max_marks → left ≤ max_capacity → AllByRecursion IsPlainLine (marks_lines place ms ++ left_words left ∷ [])
marks_plain seats place [] left s good count le = (left_plain left (omega arith), tt)
marks_plain seats place (m ∷ ms) left s good count le =
    (mark_plain place m (omega arith) (omega (arith, good.0.0)) good.1.0, marks_plain seats (place + 1) ms left s (good.0.1, good.1.1) (omega arith) le)

marks_spelled : (n seats place : ℕ) (ms : List Mark) (left : ℕ) → seats ≤ max_seats → AreGood seats ms → length ms + place ≤ max_marks → left ≤ max_capacity
    → SpellMarks place (lines_from n (marks_lines place ms ++ left_words left ∷ [])) ms left
marks_spelled n seats place [] left s good count le = record { number = decimal left; words_are = refl; spells = decimal_digits left (omega arith) }
marks_spelled n seats place (m ∷ ms) left s good count le =
    (mark_spelled place m (omega arith) (omega (arith, good.0.0)) good.1.0, marks_spelled (n + 1) seats (place + 1) ms left s (good.0.1, good.1.1) (omega arith) le)

line_length : (l : List (List ℕ)) (ls : List (List (List ℕ))) → length (lines_text (l ∷ ls)) ≡ length (words_text l) + 1 + length (lines_text ls)
line_length l ls = omega (arith, length-append (words_text l) (10 ∷ lines_text ls))

left_length : (left : ℕ) → left ≤ max_capacity → length (words_text (left_words left)) ≤ 12
left_length left le =
    let a : length (decimal left) ≤ 7 = short 7 left (omega arith) (omega arith) (omega arith) in
    omega arith

marks_length : (seats place : ℕ) (ms : List Mark) (left : ℕ) → seats ≤ max_seats → AreGood seats ms → length ms + place ≤ max_marks → left ≤ max_capacity
    → length (lines_text (marks_lines place ms ++ left_words left ∷ [])) ≤ 44 * length ms + 13
marks_length seats place [] left s good count le = omega (arith, line_length (left_words left) [], left_length left le)
marks_length seats place (m ∷ ms) left s good count le =
    omega (
      arith,
      line_length (mark_words place m) (marks_lines (place + 1) ms ++ left_words left ∷ []),
      mark_length place m (omega arith) (omega (arith, good.0.0)) good.1.0,
      marks_length seats (place + 1) ms left s (good.0.1, good.1.1) (omega arith) le,
    )

-- the history

head_length : (head : Head) → head.seats ≤ max_seats → head.capacity ≤ max_capacity → length (words_text (head_words head)) ≤ 25
head_length head p q =
    let a : length (decimal head.seats) ≤ 2 = short 2 head.seats (omega arith) (omega arith) (omega arith) in
    let b : length (decimal head.capacity) ≤ 7 = short 7 head.capacity (omega arith) (omega arith) (omega arith) in
    omega (arith, length-append (decimal head.seats) (32 ∷ words_text (codes "capacity" ∷ decimal head.capacity ∷ [])))

plain_is_text : (h : Recorded) → IsWithinLimits h → IsHistoryText (history_text h.head h.marks h.left) h
plain_is_text h limits =
    let s : h.head.seats ≤ max_seats = limits.seats.1 in
    let k : h.head.capacity ≤ max_capacity = limits.capacity.1 in
    let good : AreGood h.head.seats h.marks = (recursion_from_All (λ (x : Mark). IsSeat h.head.seats x.seat) h.marks limits.seated, recursion_from_All (λ (x : Mark). HasLine x.act x.reply) h.marks limits.answered) in
    let count : length h.marks + 0 ≤ max_marks = omega (arith, limits.count) in
    let tail : List (List (List ℕ)) = marks_lines 0 h.marks ++ left_words h.left ∷ [] in
    let same : (text_of (history_text h.head h.marks h.left)).lines ≡ lines_from 1 (history_lines h.head h.marks h.left) =
    ap (λ (t : Text). t.lines) (text_again 1 (history_lines h.head h.marks h.left) (head_plain h.head (omega arith) (omega arith), marks_plain h.head.seats 0 h.marks h.left s good count limits.left)) in
    let head : SpellsHead (head_words h.head) h.head = record { first = decimal h.head.seats; second = decimal h.head.capacity; words_are = refl; spells_seats = decimal_digits h.head.seats (omega arith); spells_capacity = decimal_digits h.head.capacity (omega arith) } in
    record {
      size = omega (arith, limits.count, line_length (head_words h.head) tail, head_length h.head s k, marks_length h.head.seats 0 h.marks h.left s good count limits.left);
      lines = subst (λ (ls : List Line). SpellHistory ls h) (sym same) (head, marks_spelled 2 h.head.seats 0 h.marks h.left s good count limits.left);
      limits = limits;
    }

pub plain_is_read : (h : Recorded) → IsWithinLimits h → history_of (history_text h.head h.marks h.left) ≡ Ok h
plain_is_read h limits = history_is_read (history_text h.head h.marks h.left) h (plain_is_text h limits)
