-- Which lines of words spell which history: one case for each kind of line.
use Rattle.std.specs.Prelude.{◌≡◌, ℕ, ◌+◌, ◌≤◌, List, [], ◌∷◌, length, codes}
use Rattle.pq_io.specs.Lines.{Line, text_of}
use Rattle.pq_io.specs.Inputs.{longest_input}
use Rattle.pq_io.specs.Reading.{Spells}
use Rattle.pq_words.specs.declared.entries.Entry.{Entry}
use Rattle.pq_model.specs.declared.marks.Act.{Act}
use Rattle.pq_model.specs.declared.marks.Act.TheVariants.{Insert, Remove, RemoveBelow}
use Rattle.pq_model.specs.declared.marks.Reply.{Reply}
use Rattle.pq_model.specs.declared.marks.Reply.TheVariants.{Done, Got, Empty, Full, Above}
use Rattle.pq_model.specs.declared.marks.Mark.{Mark}
use Rattle.pq_tape.specs.declared.history.Head.{Head}
use Rattle.pq_tape.specs.HistoryText.{Recorded, IsWithinLimits}
use Rattle.pq_tape.specs.HistoryText.{insert_words, got_words, empty_words, below_got_words, below_words}

-- The words are these, with two words that spell the key and the id of the entry.
pub record SpellsEntry (shape : List ℕ → List ℕ → List (List ℕ)) (words : List (List ℕ)) (e : Entry) : Type 0 where
  pub key : List ℕ
  pub id : List ℕ
  pub words_are : words ≡ shape key id
  pub spells_key : Spells key e.key
  pub spells_id : Spells id e.id

-- A word spells the limit, and with it the words are as this fact has them.
pub record SpellsLimit (limit : ℕ) (Behind : List ℕ → Type 0) : Type 0 where
  pub number : List ℕ
  pub spells_limit : Spells number limit
  pub behind : Behind number

-- What stands behind the seat: `+ key id done`, `+ key id full`, `- got key id`, `- empty`, `< limit got key id`,
-- `< limit empty` or `< limit above`.
abbrev pub SpellsCall : List (List ℕ) → Act → Reply → Type 0
SpellsCall words (Insert e) Done = SpellsEntry (insert_words (codes "done")) words e
SpellsCall words (Insert e) Full = SpellsEntry (insert_words (codes "full")) words e
SpellsCall words Remove (Got e) = SpellsEntry got_words words e
SpellsCall words Remove Empty = words ≡ empty_words
SpellsCall words (RemoveBelow limit) (Got e) =
    SpellsLimit limit (λ number. SpellsEntry (below_got_words number) words e)
SpellsCall words (RemoveBelow limit) Empty = SpellsLimit limit (λ number. words ≡ below_words (codes "empty") number)
SpellsCall words (RemoveBelow limit) Above = SpellsLimit limit (λ number. words ≡ below_words (codes "above") number)
SpellsCall words (Insert e) (Got x) = ⊥
SpellsCall words (Insert e) Empty = ⊥
SpellsCall words (Insert e) Above = ⊥
SpellsCall words Remove Done = ⊥
SpellsCall words Remove Full = ⊥
SpellsCall words Remove Above = ⊥
SpellsCall words (RemoveBelow limit) Done = ⊥
SpellsCall words (RemoveBelow limit) Full = ⊥

-- The line of a mark: its place, its seat, and its call.
pub record SpellsMark (place : ℕ) (words : List (List ℕ)) (m : Mark) : Type 0 where
  pub first : List ℕ
  pub second : List ℕ
  pub others : List (List ℕ)
  pub words_are : words ≡ first ∷ second ∷ others
  pub spells_place : Spells first place
  pub spells_seat : Spells second m.seat
  pub spells_call : SpellsCall others m.act m.reply

-- The last line: `left N`.
pub record SpellsLeft (words : List (List ℕ)) (left : ℕ) : Type 0 where
  pub number : List ℕ
  pub words_are : words ≡ codes "left" ∷ number ∷ []
  pub spells : Spells number left

-- The first line: `seats S capacity C`.
pub record SpellsHead (words : List (List ℕ)) (head : Head) : Type 0 where
  pub first : List ℕ
  pub second : List ℕ
  pub words_are : words ≡ codes "seats" ∷ first ∷ codes "capacity" ∷ second ∷ []
  pub spells_seats : Spells first head.seats
  pub spells_capacity : Spells second head.capacity

-- There is one line, which spells how many entries are left.
abbrev pub SpellsLast : List Line → ℕ → Type 0
SpellsLast (l ∷ []) left = SpellsLeft l.words left
SpellsLast _ left = ⊥

-- Each line spells the mark at its place, where the first has this place; behind them stands the last line.
abbrev pub SpellMarks : ℕ → List Line → List Mark → ℕ → Type 0
SpellMarks place ls [] left = SpellsLast ls left
SpellMarks place [] (m ∷ ms) left = ⊥
SpellMarks place (l ∷ ls) (m ∷ ms) left = SpellsMark place l.words m × SpellMarks (place + 1) ls ms left

abbrev pub SpellHistory : List Line → Recorded → Type 0
SpellHistory [] h = ⊥
SpellHistory (l ∷ ls) h = SpellsHead l.words h.head × SpellMarks 0 ls h.marks h.left

-- A text of this history: its lines spell it, it keeps the limits, and the text is not too long.
pub record IsHistoryText (bytes : List ℕ) (h : Recorded) : Type 0 where
  pub size : length bytes ≤ longest_input
  pub lines : SpellHistory (text_of bytes).lines h
  pub limits : IsWithinLimits h
