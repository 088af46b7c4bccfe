-- The line that says why there is no answer.
use Rattle.std.specs.Prelude.{ℕ, List, [], ◌∷◌, ◌++◌, codes}
use Rattle.std.specs.Fmt.{decimal}
use Rattle.pq_io.specs.declared.text.fault.BadInput.{BadInput}
use Rattle.pq_io.specs.declared.text.fault.Cause.{Cause}
use Rattle.pq_io.specs.declared.text.fault.Cause.TheVariants.{Number, Word, Missing, Extra, Range, TooLarge}
use Rattle.pq_cli.specs.declared.status.Status.{Status}
use Rattle.pq_cli.specs.declared.status.Status.TheVariants as statuses

-- how a cause is called
abbrev pub cause_text : Cause → List ℕ
cause_text Number = codes "number"
cause_text Word = codes "word"
cause_text Missing = codes "missing"
cause_text Extra = codes "extra"
cause_text Range = codes "range"
cause_text TooLarge = codes "too large"

abbrev pub bad_input_text : BadInput → List ℕ
bad_input_text fault = codes "line " ++ decimal fault.line ++ codes ": " ++ cause_text fault.cause ++ 10 ∷ []

abbrev pub node_limit_text : ℕ → ℕ → List ℕ
node_limit_text asked limit =
    codes "node limit: asked " ++ decimal asked ++ codes ", limit " ++ decimal limit ++ 10 ∷ []

abbrev pub full_text : ℕ → List ℕ
full_text place = codes "full at place " ++ decimal place ++ 10 ∷ []

-- The line of a status; the statuses that come with an answer have none.
abbrev pub fault_text : Status → List ℕ
fault_text statuses.Ok = []
fault_text statuses.Illegal = []
fault_text statuses.BadWords = codes "bad words\n"
fault_text (statuses.BadInput fault) = bad_input_text fault
fault_text (statuses.NodeLimit asked limit) = node_limit_text asked limit
fault_text (statuses.Full place) = full_text place
fault_text statuses.ReadFault = codes "read fault\n"
fault_text statuses.WriteFault = codes "write fault\n"
fault_text statuses.NoMemory = codes "no memory\n"
fault_text statuses.ProofLimit = codes "proof limit\n"
