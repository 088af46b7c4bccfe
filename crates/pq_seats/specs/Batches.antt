-- The marks that one step of a history word places.
use Rattle.std.specs.Prelude.{ℕ, ◌+◌, List, [], ◌∷◌, ◌++◌, map, length}
use Rattle.pq_words.specs.declared.entries.Entry.{Entry}
use Rattle.pq_model.specs.declared.marks.Act.{Act}
use Rattle.pq_model.specs.declared.marks.Act.TheVariants.{Insert}
use Rattle.pq_model.specs.declared.marks.Reply.{Reply}
use Rattle.pq_model.specs.declared.marks.Reply.TheVariants.{Done}
use Rattle.pq_model.specs.declared.marks.Mark.{Mark}
use Rattle.pq_model.specs.History.{mark}

-- Beside the stepping seat's own mark, of which this tells the reply, inserts of other seats, each given by the owner's
-- number and the entry: those placed before the own mark, and those behind it
pub record Batch : Type 0 where
  pub before : List (ℕ × Entry)
  pub reply : Reply
  pub after : List (ℕ × Entry)

-- the mark of another seat's insert
abbrev pub insert_of : ℕ × Entry → Mark
insert_of x = mark x.0 (Insert x.1) Done

abbrev pub marks_of : ℕ → Act → Batch → List Mark
marks_of number act b = map insert_of b.before ++ mark number act b.reply ∷ map insert_of b.after

-- the place of the own mark, where the first mark has this place
abbrev pub own_place : ℕ → Batch → ℕ
own_place first b = first + length b.before

-- the letters to the owners of these inserts, of which the first is placed here
abbrev pub letters_of : ℕ → List (ℕ × Entry) → List (ℕ × ℕ)
letters_of place [] = []
letters_of place (x ∷ xs) = (x.0, place + 1) ∷ letters_of (place + 1) xs

-- the letters that a batch makes
abbrev pub letters_from : ℕ → Batch → List (ℕ × ℕ)
letters_from first b = letters_of first b.before ++ letters_of (own_place first b + 1) b.after
