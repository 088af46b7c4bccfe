-- How the history of a search ends.
use Rattle.std.specs.Prelude.{ℕ, ◌≡◌, ◌≤◌, List, [], ◌∷◌, ◌++◌, Contains, Some, IfSome, slice_get}
use Rattle.pq_words.specs.declared.entries.Entry.{Entry}
use Rattle.pq_model.specs.declared.marks.Act.TheVariants.{Insert, RemoveBelow}
use Rattle.pq_model.specs.declared.marks.Reply.{Reply}
use Rattle.pq_model.specs.declared.marks.Reply.TheVariants.{Empty, Full, Above}
use Rattle.pq_model.specs.declared.marks.Mark.{Mark}
use Rattle.pq_model.specs.declared.passes.Known.{Known}
use Rattle.pq_model.specs.Multiset.{least}
use Rattle.pq_model.specs.History.{mark, IsSeat, IsLegal, left}
use Rattle.pq_model.specs.Passes.{numbers, Witnesses}

-- all passes of a queue of so many seats are joined into this one
abbrev pub IsWhole : ℕ → Known → Type 0
IsWhole seats k = (n : ℕ) → IsSeat seats n → Contains (numbers k) n

-- a removal below a limit found no entry, or none that is below it
abbrev pub IsNoneBelow : Reply → Type 0
IsNoneBelow Empty = Unit {0}
IsNoneBelow Above = Unit {0}
IsNoneBelow _ = ⊥

-- The last mark of the history is that of a removal below this limit, and there was no such entry.
pub record EndsWithNone (limit : ℕ) (history : List Mark) : Type 0 where
  pub earlier : List Mark
  pub seat : ℕ
  pub reply : Reply
  pub is : history ≡ earlier ++ mark seat (RemoveBelow limit) reply ∷ []
  pub none : IsNoneBelow reply

-- What is known of the end once all passes of a queue are joined into one: there is a legal history of their calls and
-- of no others. Its last mark asked for an entry below the cost, and there was none. At this mark the multiset is
-- empty, or its least key is at least the cost.
pub record EndsAt (seats capacity cost : ℕ) (known : Known) : Type 0 where
  pub whole : IsWhole seats known
  pub history : List Mark
  pub witnessed : Witnesses seats capacity known history
  pub last : EndsWithNone cost history
  pub at_least : IfSome (least (left history)) (λ (e : Entry). cost ≤ e.key)

-- an insert was answered Full at this place of a legal history
abbrev pub IsFullMark : ℕ → ℕ → ℕ → Type 0
IsFullMark seats capacity place = (history : List Mark) × IsLegal seats capacity history
    × (seat : ℕ) × (e : Entry) × (slice_get history place ≡ Some (mark seat (Insert e) Full))
