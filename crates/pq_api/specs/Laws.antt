-- What follows from knowing a legal history.
use Rattle.std.specs.Prelude.{◌≡◌, ℕ, ◌<◌, ◌≤◌, ◌↔◌, List, [], length, take, slice_get, Contains, Some, IsSomeAnd}
use Rattle.pq_words.specs.declared.entries.Entry.{Entry}
use Rattle.pq_model.specs.declared.marks.Act.{Act}
use Rattle.pq_model.specs.declared.marks.Act.TheVariants.{Insert, Remove, RemoveBelow}
use Rattle.pq_model.specs.declared.marks.Reply.{Reply}
use Rattle.pq_model.specs.declared.marks.Reply.TheVariants.{Got, Full, Empty, Above}
use Rattle.pq_model.specs.declared.marks.Mark.{Mark}
use Rattle.pq_model.specs.declared.passes.Call.{Call}
use Rattle.pq_model.specs.declared.passes.Lane.{Lane}
use Rattle.pq_model.specs.declared.passes.Known.{Known}
use Rattle.pq_model.specs.Multiset.{least}
use Rattle.pq_model.specs.History.{mark, IsStep, IsLegal, after, left}
use Rattle.pq_model.specs.Passes.{lanes, HoldsCalls, Witnesses, Knows, IsActual, with_call}
use Rattle.pq_api.specs.Plain.{marks_of}

-- how a removal below a limit is answered where these entries are held
pub record IsAnsweredBelow (limit : ℕ) (m : List Entry) (reply : Reply) : Type 0 where
  pub empty : (reply ≡ Empty) ↔ (m ≡ [])
  pub above : (reply ≡ Above) ↔ IsSomeAnd (least m) (λ (e : Entry). limit ≤ e.key)
  pub got : (e : Entry) → (reply ≡ Got e) ↔ ((least m ≡ Some e) × (e.key < limit))

abbrev pub SizesAreBounded : Type 0
SizesAreBounded = (seats capacity : ℕ) (history : List Mark)
    → IsLegal seats capacity history → length (left history) ≤ capacity

-- the pass keeps this call, in this lane
abbrev pub Keeps : Known → Lane → Call → Type 0
Keeps k l c = Contains (lanes k) l × Contains l.calls c

-- each kept call is a mark at its place, and a step from what the marks before it leave
abbrev pub CallsAreSteps : Type 0
CallsAreSteps = (seats capacity : ℕ) (k : Known) (history : List Mark) (l : Lane) (c : Call)
    → Witnesses seats capacity k history → Keeps k l c
    → (slice_get history c.place ≡ Some (mark l.number c.act c.reply))
    × IsStep seats capacity (left (take c.place history)) c.act c.reply

-- put by place, the kept calls are the actual history: at each place stands one of them, and only one
abbrev pub PlacesAreCalls : Type 0
PlacesAreCalls = (k : Known) (history : List Mark) → IsActual k history
    → ((place : ℕ) → place < length history → (l : Lane) × (c : Call) × Keeps k l c × (c.place ≡ place))
    × ((l m : Lane) (c d : Call) → Keeps k l c → Keeps k m d → c.place ≡ d.place → (l.number ≡ m.number) × (c ≡ d))

-- with one seat, an insert is answered Full exactly where as many entries are held as the capacity is
abbrev pub FullWithOneSeat : Type 0
FullWithOneSeat = (capacity place seat : ℕ) (history : List Mark) (e : Entry) (reply : Reply)
    → IsLegal 1 capacity history → slice_get history place ≡ Some (mark seat (Insert e) reply)
    → (reply ≡ Full) ↔ (length (left (take place history)) ≡ capacity)

-- a removal is answered Empty exactly where no entry is held
abbrev pub EmptyWhereNothingIsLeft : Type 0
EmptyWhereNothingIsLeft = (seats capacity place seat : ℕ) (history : List Mark) (reply : Reply)
    → IsLegal seats capacity history → slice_get history place ≡ Some (mark seat Remove reply)
    → (reply ≡ Empty) ↔ (left (take place history) ≡ [])

-- a removal below a limit is answered by what is held: nothing, a least entry below the limit, or none below it
abbrev pub BelowWhereTheLeastIs : Type 0
BelowWhereTheLeastIs = (seats capacity place seat limit : ℕ) (history : List Mark) (reply : Reply)
    → IsLegal seats capacity history → slice_get history place ≡ Some (mark seat (RemoveBelow limit) reply)
    → IsAnsweredBelow limit (left (take place history)) reply

-- with one seat, the pass that has it has made all calls of each legal history that holds its calls
abbrev pub OneSeatHasMadeAll : Type 0
OneSeatHasMadeAll = (capacity : ℕ) (k : Known) (history : List Mark)
    → IsLegal 1 capacity history → HoldsCalls history k → k.number ≡ 1 → history ≡ marks_of k

-- with one seat, each call of the pass that has it is a step from what its calls before leave
abbrev pub OneSeatSteps : Type 0
OneSeatSteps = (capacity place : ℕ) (before now : Known) (act : Act) (reply : Reply)
    → before.number ≡ 1 → now ≡ with_call before place act reply → Knows 1 capacity now
    → IsStep 1 capacity (left (marks_of before)) act reply
    × (left (marks_of now) ≡ after (left (marks_of before)) act reply)
