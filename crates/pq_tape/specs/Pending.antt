-- A text on its way to a sink: a prefix of it is written, what comes next is held back, and the rest is still to come.
use Rattle.std.specs.Prelude.{◌≡◌, ℕ, List, ◌++◌, Option, Some, IfSome}

-- after what stood in the sink before, all of the whole was written that is not held back or still to come
pub record Pending (unsent rest whole : List ℕ) (now : Option (List ℕ)) (before : List ℕ) : Type 0 where
  pub done : List ℕ
  pub written : now ≡ Some (before ++ done)
  pub parts : done ++ (unsent ++ rest) ≡ whole

-- whatever the text was, it is still on its way
abbrev pub IsStillPending : Option (List ℕ) → List ℕ → Option (List ℕ) → List ℕ → Type 0
IsStillPending was unsent_then now unsent_now = (first : Option (List ℕ)) (rest whole : List ℕ)
    → IfSome first (λ before. Pending unsent_then rest whole was before)
    → IfSome first (λ before. Pending unsent_now rest whole now before)
