-- A queue of one seat, as its pass knows it.
use Rattle.std.specs.Prelude.{ℕ, List}
use Rattle.pq_words.specs.declared.entries.Entry.{Entry}
use Rattle.pq_model.specs.declared.passes.Known.{Known}
use Rattle.pq_model.specs.History.{left}
use Rattle.pq_api.specs.Plain.{marks_of}

-- how many entries the queue takes, and what its pass knows
pub record OneSeat : Type 0 where
  pub capacity : ℕ
  pub known : Known

-- the entries that the queue holds: its pass has made all calls, so those that its calls leave
abbrev pub held : OneSeat → List Entry
held queue = left (marks_of queue.known)
