-- What an answer is: the status that it ends with, and its text.
use Rattle.std.specs.Prelude.{ℕ, List, All}
use Rattle.pq_model.specs.declared.marks.Mark.{Mark}
use Rattle.pq_tape.specs.HistoryText.{HasLine, history_text}
use Rattle.pq_cli.specs.declared.answer.Answer.{Answer}
use Rattle.pq_cli.specs.declared.answer.Answer.TheVariants.{Text, Trace}
use Rattle.pq_cli.specs.declared.status.Status.{Status}
use Rattle.pq_cli.specs.declared.status.Status.TheVariants as statuses

abbrev pub status_in : Answer → Status
status_in (Text status text) = status
status_in (Trace history) = statuses.Ok

abbrev pub text_in : Answer → List ℕ
text_in (Text status text) = text.items
text_in (Trace history) = history_text history.head history.marks history.left

-- each mark of a history has a line
abbrev pub IsWritable : Answer → Type 0
IsWritable (Text status text) = Unit {0}
IsWritable (Trace history) = All (λ (x : Mark). HasLine x.act x.reply) history.marks
