-- The texts of answers, each of whose lines is words and numbers.
use Rattle.std.specs.Prelude.{ℕ, List, [], ◌∷◌, codes}
use Rattle.std.specs.Fmt.{decimal}
use Rattle.pq_io.specs.Writing.{lines_text}

-- every mark is a step, and so many entries are left
abbrev pub legal_text : ℕ → List ℕ
legal_text left = lines_text ((codes "legal" ∷ []) ∷ (codes "left" ∷ decimal left ∷ []) ∷ [])

-- this is the first place that no bounded priority multiset could have answered
abbrev pub bad_text : ℕ → List ℕ
bad_text place = lines_text ((codes "bad" ∷ decimal place ∷ []) ∷ [])

-- what the root's bound allows
abbrev pub bound_text : ℕ → List ℕ
bound_text bound = lines_text ((codes "bound" ∷ decimal bound ∷ []) ∷ [])

-- the plan is feasible, and this is its number
abbrev pub feasible_text : ℕ → List ℕ
feasible_text stated = lines_text ((codes "feasible" ∷ decimal stated ∷ []) ∷ [])

-- The lanes' history has so many marks and leaves so many entries, and the best choice has this value.
abbrev pub summary_text : ℕ → ℕ → ℕ → List ℕ
summary_text marks left value = lines_text ((codes "marks" ∷ decimal marks ∷ [])
    ∷ (codes "left" ∷ decimal left ∷ []) ∷ (codes "value" ∷ decimal value ∷ []) ∷ [])
