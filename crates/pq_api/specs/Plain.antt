-- The plain queue: its one pass has made all calls, so that they are the history.
use Rattle.std.specs.Prelude.{◌≡◌, ℕ, ◌<◌, List, [], ◌∷◌, length, map}
use Rattle.atomic_table.specs.Table.{State, Me}
use Rattle.atomic_table.specs.Seated.{TableId}
use Rattle.pq_words.specs.declared.entries.Entry.{Entry}
use Rattle.pq_model.specs.declared.marks.Act.{Act}
use Rattle.pq_model.specs.declared.marks.Reply.{Reply}
use Rattle.pq_model.specs.declared.marks.Mark.{Mark}
use Rattle.pq_model.specs.declared.passes.Call.{Call}
use Rattle.pq_model.specs.declared.passes.Known.{Known}
use Rattle.pq_model.specs.History.{mark, left}
use Rattle.pq_model.specs.Passes.{Witnesses, with_call, with_front}
use Rattle.pq_api.specs.Limits.{call_limit}

-- what contracts see of a plain pass: how many entries its queue takes, the table that it shares with its queue
-- alone, and what it means
pub record Plain : Type 0 where
  pub capacity : ℕ
  pub table : TableId
  pub known : Known

-- the marks of the pass's own calls, in order
abbrev pub marks_of : Known → List Mark
marks_of k = map (λ (c : Call). mark k.number c.act c.reply) k.calls

-- the entries that a plain pass holds are those that its calls leave
abbrev pub held : Plain → List Entry
held p = left (marks_of p.known)

-- what a plain pass keeps of its calls: they are a legal history of one seat
pub record IsKept (capacity : ℕ) (k : Known) : Type 0 where
  pub first : k.number ≡ 1
  pub alone : k.joined ≡ []
  pub witnessed : Witnesses 1 capacity k (marks_of k)
  pub few : length k.calls < call_limit

-- the rule of the pass's table: there is one view
pub record HasOneView {S : Type 0} (s : State S Known) : Type 0 where
  pub view : Known
  pub alone : s.views ≡ view ∷ []

-- the step of a call: the view keeps the call, whose place is how many there were before it
abbrev pub Draws : {S : Type 0} → Act → Reply → Me S Known → Me S Known → Type 0
Draws act reply m m' = (m'.0 ≡ with_call m.0 (length m.0.calls) act reply) × (m'.1 ≡ m.1)

-- the step of a look: the front rises to how many calls there are
abbrev pub Looks : {S : Type 0} → Me S Known → Me S Known → Type 0
Looks m m' = (m'.0 ≡ with_front m.0 (length m.0.calls)) × (m'.1 ≡ m.1)
