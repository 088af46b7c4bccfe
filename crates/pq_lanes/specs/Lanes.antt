-- What the callers of a script have made: each the commands of its lane, in order.
use Rattle.std.specs.Prelude.{ℕ, ◌≡◌, ◌+◌, List, [], ◌∷◌, map}
use Rattle.pq_model.specs.declared.marks.Act.{Act}
use Rattle.pq_model.specs.declared.passes.Call.{Call}
use Rattle.pq_model.specs.declared.passes.Lane.{Lane}
use Rattle.pq_model.specs.declared.passes.Known.{Known}
use Rattle.pq_model.specs.Passes.{lane, Knows}
use Rattle.pq_tape.specs.Tapes.{Taped}

-- what the calls asked, in order
abbrev pub acts_of : List Call → List Act
acts_of calls = map (λ (c : Call). c.act) calls

-- The lanes are numbered from this number on, one for each lane of the script. The calls of each are the commands of
-- its lane, in order, each once, and no others.
abbrev pub HaveRun : ℕ → List (List Act) → List Lane → Type 0
HaveRun number [] [] = Unit {0}
HaveRun number [] (l ∷ ls) = ⊥
HaveRun number (acts ∷ script) [] = ⊥
HaveRun number (acts ∷ script) (l ∷ ls) =
    (l.number ≡ number) × (acts_of l.calls ≡ acts) × HaveRun (number + 1) script ls

-- the lanes that the tapes hold, in the order of the tapes
abbrev pub on_tapes : List Taped → List Lane
on_tapes tapes = map (λ (t : Taped). t.lane) tapes

-- The pass of this number, into which none is joined, has made these commands, and knows a legal history that has its
-- calls. The tape holds the same calls.
pub record HasMade (seats capacity number : ℕ) (acts : List Act) (k : Known) (tape : Lane) : Type 0 where
  pub number_is : k.number ≡ number
  pub alone : k.joined ≡ []
  pub acts_are : acts_of k.calls ≡ acts
  pub taped : tape ≡ lane number k.calls
  pub knows : Knows seats capacity k

-- the lanes are numbered from this number on
abbrev pub AreNumbered : ℕ → List Lane → Type 0
AreNumbered number [] = Unit {0}
AreNumbered number (l ∷ ls) = (l.number ≡ number) × AreNumbered (number + 1) ls
