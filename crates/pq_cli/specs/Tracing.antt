-- The text of a script's history, and what one caller has made of it so far.
use Rattle.std.specs.Prelude.{ℕ, ◌≡◌, List, length, map, min, All, Ok}
use Rattle.pq_model.specs.declared.marks.Act.{Act}
use Rattle.pq_model.specs.declared.marks.Mark.{Mark}
use Rattle.pq_model.specs.History.{IsLegal, left}
use Rattle.pq_tape.specs.HistoryText.{HasLine, history_text}
use Rattle.inst_text.specs.Script.{script_of}
use Rattle.pq_api.specs.Plain.{Plain, held}
use Rattle.pq_lanes.specs.Tracing.{IsTraceOf}
use Rattle.cli_words.specs.declared.queues.Which.{Which}
use Rattle.cli_words.specs.Queues.{profile_of}

-- how many lanes a script may have on a queue of this capacity
abbrev pub lanes_on : Which → ℕ → ℕ
lanes_on queue capacity = min (profile_of queue).most_callers capacity

-- The text of a history of the script that was read, where so many lanes are allowed, and of how many entries it
-- leaves.
pub record IsTraced (allowed capacity : ℕ) (bytes text : List ℕ) : Type 0 where
  pub script : List (List Act)
  pub marks : List Mark
  pub reads : script_of allowed bytes ≡ Ok script
  pub trace : IsTraceOf capacity script marks
  pub written : text ≡ history_text (record { seats = length script; capacity = capacity }) marks (length (left marks))

-- So far these commands were run on a queue of one seat, and the pass holds what the history leaves.
pub record IsTracing (capacity : ℕ) (acts : List Act) (marks : List Mark) (pass : Plain) : Type 0 where
  pub acts_are : map (λ (x : Mark). x.act) marks ≡ acts
  pub legal : IsLegal 1 capacity marks
  pub lines : All (λ (x : Mark). HasLine x.act x.reply) marks
  pub held_is : held pass ≡ left marks
  pub calls : length pass.known.calls ≡ length acts
  pub capacity_is : pass.capacity ≡ capacity
