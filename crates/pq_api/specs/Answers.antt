-- What the answers of a queue's calls say of the pass.
use Rattle.std.specs.Prelude.{◌≡◌, ℕ, ◌<◌, ◌≤◌, List, length, slice_index_or}
use Rattle.pq_words.specs.declared.entries.Entry.{Entry}
use Rattle.pq_model.specs.declared.marks.Act.{Act}
use Rattle.pq_model.specs.declared.marks.Act.TheVariants.{Insert, Remove, RemoveBelow}
use Rattle.pq_model.specs.declared.marks.Reply.{Reply}
use Rattle.pq_model.specs.declared.marks.Reply.TheVariants as replies
use Rattle.pq_model.specs.declared.passes.Known.{Known}
use Rattle.pq_model.specs.Passes.{with_call}
use Rattle.pq_api.specs.declared.answers.Inserted.{Inserted}
use Rattle.pq_api.specs.declared.answers.Inserted.TheVariants.{Done, Full}
use Rattle.pq_api.specs.declared.answers.Removed.{Removed}
use Rattle.pq_api.specs.declared.answers.Removed.TheVariants.{Got, Empty}
use Rattle.pq_api.specs.declared.answers.Below.{Below}
use Rattle.pq_api.specs.declared.answers.Below.TheVariants as below
use Rattle.pq_api.specs.declared.answers.CloseWhy.{CloseWhy}
use Rattle.pq_api.specs.declared.answers.CloseWhy.TheVariants.{PassesOut, NoMemory}

-- the pass has made this call more, and no other, at a place that is not below its front
abbrev pub MakesCall : Known → ℕ → Act → Reply → Known → Type 0
MakesCall before place act reply now = (before.front ≤ place) × (now ≡ with_call before place act reply)

abbrev pub IsInserted : Known → Entry → Inserted → Known → Type 0
IsInserted before e (Done r) now = MakesCall before r.place (Insert e) replies.Done now
IsInserted before e (Full r) now = MakesCall before r.place (Insert e) replies.Full now

abbrev pub IsRemoved : Known → Removed → Known → Type 0
IsRemoved before (Got e r) now = MakesCall before r.place Remove (replies.Got e) now
IsRemoved before (Empty r) now = MakesCall before r.place Remove replies.Empty now

abbrev pub IsRemovedBelow : Known → ℕ → Below → Known → Type 0
IsRemovedBelow before limit (below.Got e r) now = MakesCall before r.place (RemoveBelow limit) (replies.Got e) now
IsRemovedBelow before limit (below.Empty r) now = MakesCall before r.place (RemoveBelow limit) replies.Empty now
IsRemovedBelow before limit (below.Above r) now = MakesCall before r.place (RemoveBelow limit) replies.Above now

-- an entry that was got has its key below the limit
abbrev pub IsBelow : ℕ → Below → Type 0
IsBelow limit (below.Got e r) = e.key < limit
IsBelow limit (below.Empty r) = Unit {0}
IsBelow limit (below.Above r) = Unit {0}

-- the reply of an answer
abbrev pub insert_reply : Inserted → Reply
insert_reply (Done r) = replies.Done
insert_reply (Full r) = replies.Full

abbrev pub remove_reply : Removed → Reply
remove_reply (Got e r) = replies.Got e
remove_reply (Empty r) = replies.Empty

abbrev pub below_reply : Below → Reply
below_reply (below.Got e r) = replies.Got e
below_reply (below.Empty r) = replies.Empty
below_reply (below.Above r) = replies.Above

-- why a close was refused, where this many passes are joined
abbrev pub IsRefusal : ℕ → ℕ → CloseWhy → Type 0
IsRefusal joined seats (PassesOut j s) = (joined < seats) × (j ≡ joined) × (s ≡ seats)
IsRefusal joined seats NoMemory = seats ≤ joined

-- a fact of each index and what stands there
abbrev pub EachAt : {X : Type 0} → (ℕ → X → Type 0) → List X → Type 0
EachAt {X} P xs = (k : ℕ) (d : X) → k < length xs → P k (slice_index_or xs k d)
