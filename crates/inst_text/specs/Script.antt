-- A script: what the callers of a queue ask of it, lane by lane; its limits, and its text.
use Rattle.std.specs.Prelude.{ℕ, ◌≡◌, ◌+◌, ◌≤◌, nat_lt, if◌then◌else◌, List, [], ◌∷◌, length, sum_by, codes}
use Rattle.std.specs.Prelude.{Result, Ok, Err}
use Rattle.std.specs.List.{AllByRecursion}
use Rattle.std.specs.Str.{bytes_eq}
use Rattle.pq_io.specs.declared.text.fault.Cause.{Cause}
use Rattle.pq_io.specs.declared.text.fault.Cause.TheVariants.{Word, Range, Extra}
use Rattle.pq_io.specs.declared.text.fault.BadInput.{BadInput}
use Rattle.pq_io.specs.Inputs.{longest_input, text_within}
use Rattle.pq_io.specs.Lines.{Line, text_of}
use Rattle.pq_io.specs.Reading.{◌>>=◌, Spells, number_at, word_at, at_line_end}
use Rattle.pq_words.specs.Limits.{key_limit}
use Rattle.pq_model.specs.EntryWords.{entry_at}
use Rattle.pq_model.specs.declared.marks.Act.{Act}
use Rattle.pq_model.specs.declared.marks.Act.TheVariants.{Insert, Remove, RemoveBelow}
use Rattle.inst_text.specs.declared.script.lines.ScriptLine.{ScriptLine}
use Rattle.inst_text.specs.declared.script.lines.ScriptLine.TheVariants.{Command, NextLane}
use Rattle.inst_text.specs.Limits.{max_lanes, max_commands}
use Rattle.inst_text.specs.Several.{every_line}

-- the limit below which a key is asked for is at most the one that every key is below
abbrev pub IsCommand : Act → Type 0
IsCommand (Insert e) = Unit {0}
IsCommand Remove = Unit {0}
IsCommand (RemoveBelow limit) = limit ≤ key_limit

-- how many commands the lanes have, all together
abbrev pub command_count : List (List Act) → ℕ
command_count lanes = sum_by length lanes

-- the limits of a script that may have so many lanes
pub record IsScriptOf (allowed : ℕ) (lanes : List (List Act)) : Type 0 where
  pub some : 1 ≤ length lanes
  pub few : length lanes ≤ allowed
  pub count : command_count lanes ≤ max_commands
  pub commands : AllByRecursion (λ (lane : List Act). AllByRecursion IsCommand lane) lanes

-- the limits of every script
abbrev pub IsScript : List (List Act) → Type 0
IsScript lanes = IsScriptOf max_lanes lanes

-- how many commands and how many lanes there are so far
pub record Counted : Type 0 where
  pub commands : ℕ
  pub lanes : ℕ

-- the same behind a line
abbrev pub counted_on : Counted → ScriptLine → Counted
counted_on c (Command act) = record { commands = c.commands + 1; lanes = c.lanes }
counted_on c NextLane = record { commands = c.commands; lanes = c.lanes + 1 }

-- Whether one more command may follow.
unfoldable pub room_for : ℕ → Result (Unit {0}) Cause
room_for commands = if nat_lt commands max_commands then Ok tt else Err Extra

-- Behind `+`: the key and the id to add.
unfoldable pub insert_of : ℕ → List (List ℕ) → Result ScriptLine Cause
insert_of commands words = do
  room ← room_for commands
  entry ← entry_at words
  end ← at_line_end entry.rest
  Ok (Command (Insert entry.value))

-- Behind `-`: nothing.
unfoldable pub remove_of : ℕ → List (List ℕ) → Result ScriptLine Cause
remove_of commands words = do
  room ← room_for commands
  end ← at_line_end words
  Ok (Command Remove)

-- Behind `<`: the number that the key is to be below.
unfoldable pub remove_below_of : ℕ → List (List ℕ) → Result ScriptLine Cause
remove_below_of commands words = do
  room ← room_for commands
  limit ← number_at 0 key_limit words
  end ← at_line_end limit.rest
  Ok (Command (RemoveBelow limit.value))

-- Behind `lane`: nothing. A lane above the number allowed is out of range, whatever stands behind it.
unfoldable pub lane_of : ℕ → ℕ → List (List ℕ) → Result ScriptLine Cause
lane_of allowed lanes words = do
  end ← if nat_lt lanes allowed then at_line_end words else Err Range
  Ok NextLane

-- A line of a script, where there are so many commands and lanes before it.
unfoldable pub script_line_of : ℕ → Counted → List (List ℕ) → Result ScriptLine Cause
script_line_of allowed c words = do
  word ← word_at words
  if bytes_eq word.value (codes "+") then insert_of c.commands word.rest
      else if bytes_eq word.value (codes "-") then remove_of c.commands word.rest
      else if bytes_eq word.value (codes "<") then remove_below_of c.commands word.rest
      else if bytes_eq word.value (codes "lane") then lane_of allowed c.lanes word.rest
      else Err Word

-- a command before those of the first of these lanes
abbrev pub onto_first_lane : Act → List (List Act) → List (List Act)
onto_first_lane act [] = (act ∷ []) ∷ []
onto_first_lane act (lane ∷ lanes) = (act ∷ lane) ∷ lanes

-- The commands before the first `lane` belong to the first lane, and each `lane` begins the next one.
abbrev pub lanes_of : List ScriptLine → List (List Act)
lanes_of [] = [] ∷ []
lanes_of (Command act ∷ ls) = onto_first_lane act (lanes_of ls)
lanes_of (NextLane ∷ ls) = [] ∷ lanes_of ls

-- the lanes that these lines read as
unfoldable pub script_in : ℕ → List Line → Result (List (List Act)) BadInput
script_in allowed ls = do
  lines ← every_line (script_line_of allowed) counted_on (record { commands = 0; lanes = 1 }) ls
  Ok (lanes_of lines)

-- The lanes that these bytes read as where so many are allowed, or their first fault.
unfoldable pub script_of : ℕ → List ℕ → Result (List (List Act)) BadInput
script_of allowed bytes = do
  text ← text_within bytes
  script_in allowed text.lines

-- The line spells the command.
abbrev pub SpellsCommand : List (List ℕ) → Act → Type 0
SpellsCommand (w ∷ k ∷ i ∷ []) (Insert e) = (w ≡ codes "+") × Spells k e.key × Spells i e.id
SpellsCommand (w ∷ []) Remove = w ≡ codes "-"
SpellsCommand (w ∷ l ∷ []) (RemoveBelow limit) = (w ≡ codes "<") × Spells l limit
SpellsCommand words act = ⊥

-- There is a line for each command, and a line `lane` between two lanes.
abbrev pub SpellLanes : List Line → List (List Act) → Type 0
SpellLanes [] ([] ∷ []) = Unit {0}
SpellLanes (l ∷ ls) ([] ∷ lane ∷ lanes) = (l.words ≡ codes "lane" ∷ []) × SpellLanes ls (lane ∷ lanes)
SpellLanes (l ∷ ls) ((act ∷ acts) ∷ lanes) = SpellsCommand l.words act × SpellLanes ls (acts ∷ lanes)
SpellLanes ls lanes = ⊥

-- A text of these lanes, of which so many are allowed: its lines spell them, and all limits are kept.
pub record IsScriptText (allowed : ℕ) (bytes : List ℕ) (lanes : List (List Act)) : Type 0 where
  pub size : length bytes ≤ longest_input
  pub lines : SpellLanes (text_of bytes).lines lanes
  pub limits : IsScriptOf allowed lanes
