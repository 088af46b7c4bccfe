-- The numbers of the statuses, and which of them come with an answer.
use Rattle.std.specs.Prelude.{ℕ}
use Rattle.pq_cli.specs.declared.status.Status.{Status}
use Rattle.pq_cli.specs.declared.status.Status.TheVariants as statuses

abbrev pub code_of : Status → ℕ
code_of statuses.Ok = 0
code_of statuses.Illegal = 1
code_of statuses.BadWords = 2
code_of (statuses.BadInput fault) = 3
code_of (statuses.NodeLimit asked limit) = 4
code_of (statuses.Full place) = 5
code_of statuses.ReadFault = 6
code_of statuses.WriteFault = 7
code_of statuses.NoMemory = 8
code_of statuses.ProofLimit = 9

-- the statuses that come with an answer
abbrev pub IsAnswered : Status → Type 0
IsAnswered statuses.Ok = Unit {0}
IsAnswered statuses.Illegal = Unit {0}
IsAnswered _ = ⊥
