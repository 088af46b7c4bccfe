-- Reading one after the other, and reading a whole text.
use Rattle.std.specs.Prelude.{ℕ, zero, suc, ◌≡◌, List, [], ◌∷◌, ◌++◌, Result, Ok}
use Rattle.pq_io.specs.declared.text.fault.Cause.{Cause}
use Rattle.pq_io.specs.declared.text.fault.BadInput.{BadInput}
use Rattle.pq_io.specs.Inputs.{text_within}
use Rattle.pq_io.specs.Lines.{Line, Text}
use Rattle.pq_io.specs.Reading.{◌>>=◌, Read, on_line, at_text_end}

-- n readings one after the other: each is made in a state, and what it read says in which state the next one is made.
unfoldable pub several : {S A Rest E : Type 0} → (S → Rest → Result (Read A Rest) E) → (S → A → S)
    → ℕ → S → Rest → Result (Read (List A) Rest) E
several read next zero s rest = Ok (record { value = []; rest = rest })
several read next (suc n) s rest = do
  x ← read s rest
  xs ← several read next n (next s x.value) x.rest
  Ok (record { value = x.value ∷ xs.value; rest = xs.rest })

-- a reading of words, whose faults carry the number of the line
abbrev pub with_line : {S A : Type 0} → ℕ → (S → List (List ℕ) → Result A Cause) → S → List (List ℕ) → Result A BadInput
with_line line read s words = on_line line (read s words)

-- Each line up to the end of the text, read in the state that the lines before it left.
unfoldable pub every_line : {S A : Type 0} → (S → List (List ℕ) → Result A Cause) → (S → A → S)
    → S → List Line → Result (List A) BadInput
every_line read next s [] = Ok []
every_line read next s (l ∷ ls) = do
  x ← on_line l.number (read s l.words)
  xs ← every_line read next (next s x) ls
  Ok (x ∷ xs)

-- Each line means the value at its place.
abbrev pub EachLine : {A : Type 0} → (List (List ℕ) → A → Type 0) → List Line → List A → Type 0
EachLine Means [] [] = Unit {0}
EachLine Means (l ∷ ls) (x ∷ xs) = Means l.words x × EachLine Means ls xs
EachLine Means ls xs = ⊥

-- one reading, and behind it another, which knows what the first one read
unfoldable pub both : {A B : Type 0} → (Text → Result (Read A Text) BadInput)
    → (A → Text → Result (Read B Text) BadInput) → Text → Result (Read (A × B) Text) BadInput
both first second text = do
  a ← first text
  b ← second a.value a.rest
  Ok (record { value = (a.value, b.value); rest = b.rest })

-- Some lines mean the first, and the lines behind them the second.
pub record Follow {A B : Type 0} (First : List Line → A → Type 0) (Second : List Line → B → Type 0)
    (lines : List Line) (a : A) (b : B) : Type 0 where
  pub prefix : List Line
  pub suffix : List Line
  pub lines_are : lines ≡ prefix ++ suffix
  pub first : First prefix a
  pub second : Second suffix b

-- what a whole text reads as: no line is left behind it
unfoldable pub whole : {A : Type 0} → (Text → Result (Read A Text) BadInput) → List ℕ → Result A BadInput
whole read bytes = do
  text ← text_within bytes
  x ← read text
  end ← at_text_end x.rest.lines
  Ok x.value
