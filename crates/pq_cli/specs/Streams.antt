-- What a call did to a stream: to a source, or to a sink.
use Rattle.std.specs.Prelude.{ℕ, ◌≡◌, List, [], ◌++◌, Option, Some, IfSome}
use Rattle.pq_io.specs.Gathering.{WritesPrefix}
use Rattle.pq_io.specs.Streams.{Rose, one_more}

-- The bytes that a stream tells, if it does: of a source those that are left, of a sink those that were written.
-- Its count of faults. And the stream as the call found it, and as it left it.
pub record Change (S : Type 0) : Type 0 where
  pub told : S → Option (List ℕ)
  pub faults : S → ℕ
  pub old : S
  pub new : S

-- what a call did to a stream that it found so and left so
abbrev pub change : {S : Type 0} → (S → Option (List ℕ)) → (S → ℕ) → S → S → Change S
change told faults old new = record { told = told; faults = faults; old = old; new = new }

-- nothing: the stream is the value that it was
abbrev pub IsSame : {S : Type 0} → Change S → Type 0
IsSame c = c.new ≡ c.old

-- its count of faults rose
abbrev pub IsFailed : {S : Type 0} → Change S → Type 0
IsFailed c = Rose (c.faults c.old) (c.faults c.new)

-- no call of it failed: its count of faults stands
abbrev pub IsSound : {S : Type 0} → Change S → Type 0
IsSound c = c.faults c.new ≡ c.faults c.old

-- just one call of it failed: its count of faults rose by one
abbrev pub HasFailedOnce : {S : Type 0} → Change S → Type 0
HasFailedOnce c = c.faults c.new ≡ one_more (c.faults c.old)

-- of a source: these bytes were left, where it tells them
abbrev pub WereLeft : {S : Type 0} → Change S → List ℕ → Type 0
WereLeft c bytes = IfSome (c.told c.old) (λ left. bytes ≡ left)

-- of a source: these bytes were left, where it tells them, and were taken to the end; and no read failed
pub record IsTaken {S : Type 0} (c : Change S) (bytes : List ℕ) : Type 0 where
  pub were_left : WereLeft c bytes
  pub end : IfSome (c.told c.old) (λ _. c.told c.new ≡ Some [])
  pub sound : IsSound c

-- of a sink: this was written behind what stood there
abbrev pub IsGained : {S : Type 0} → Change S → List ℕ → Type 0
IsGained c text = IfSome (c.told c.old) (λ before. c.told c.new ≡ Some (before ++ text))

-- of a sink: a prefix of this was, and not all of it
abbrev pub IsGainedInPart : {S : Type 0} → Change S → List ℕ → Type 0
IsGainedInPart c text = IfSome (c.told c.old) (λ before. WritesPrefix before text (c.told c.new))
