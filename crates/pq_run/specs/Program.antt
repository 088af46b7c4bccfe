-- How the program ends: with which status, and what it did to its streams.
use Rattle.std.specs.Prelude.{ℕ, ◌≡◌, List, [], drop, Result, Ok, Err, String}
use Rattle.std.specs.Process.{exit_status}
use Rattle.std.specs.declared.process.ExitCode.{ExitCode}
use Rattle.std.specs.declared.alloc.Global.{Global}
use Rattle.std.specs.declared.vec.IntoIter.{IntoIter}
use Rattle.std.specs.Vec.Iter.{into_iter_items}
use Rattle.pq_cli.specs.declared.status.Status.{Status}
use Rattle.pq_cli.specs.declared.status.Status.TheVariants as statuses
use Rattle.pq_cli.specs.Statuses.{code_of}
use Rattle.cli_words.specs.CommandWords.{texts, command_of}
use Rattle.pq_cli.specs.Runs.{IsRunAndReported, IsReported}
use Rattle.pq_cli.specs.Streams.{Change, IsSame}

-- The words of a command: those behind the first, which is the program's name. Words that are no text are none.
abbrev pub words_given : {E : Type 0} → Result (IntoIter (String Global) Global) E → List (List ℕ)
words_given (Ok all) = texts (drop 1 (into_iter_items all))
words_given (Err e) = []

-- The program ended with the status that the words came to.
pub record IsEnded {I O E : Type 0} (words : List (List ℕ)) (code : ExitCode)
    (input : Change I) (output : Change O) (faults : Change E) : Type 0 where
  pub status : Status
  pub code_is : exit_status code ≡ code_of status
  pub ran : IsRunAndReported (command_of words) status input output faults

-- There was no memory for the words. This was reported, and the program ended with the status of it.
pub record IsEndedWithoutWords {I O E : Type 0} (code : ExitCode)
    (input : Change I) (output : Change O) (faults : Change E) : Type 0 where
  pub status : Status
  pub code_is : exit_status code ≡ code_of status
  pub reported : IsReported statuses.NoMemory status faults
  pub unread : IsSame input
  pub unwritten : IsSame output
