-- The verdict on a choice and the value that is stated for it.
use Rattle.std.specs.Prelude.{ℕ, ◌≡◌, ◌≢◌, ◌<◌, List, ◌++◌, codes}
use Rattle.std.specs.Fmt.{decimal}
use Rattle.inst_text.specs.Knapsack.{Instance}
use Rattle.bb_knap.specs.declared.verdict.KnapVerdict.{KnapVerdict}
use Rattle.bb_knap.specs.declared.verdict.KnapVerdict.TheVariants.{Feasible, BadWeight, BadValue}
use Rattle.bb_knap.specs.Plans.{weight_of, value_of, IsFeasible}

-- The first clause that fails: a weight past the capacity, else a value that is not the stated one.
abbrev pub IsVerdict : Instance → List ℕ → ℕ → KnapVerdict → Type 0
IsVerdict i choice stated (BadWeight w) = (w ≡ weight_of i.items choice) × (i.capacity < w)
IsVerdict i choice stated (BadValue v) = IsFeasible i choice × (v ≡ value_of i.items choice) × (v ≢ stated)
IsVerdict i choice stated Feasible = IsFeasible i choice × (value_of i.items choice ≡ stated)

-- the words of a verdict
abbrev pub verdict_text : KnapVerdict → List ℕ
verdict_text Feasible = codes "feasible"
verdict_text (BadWeight w) = codes "bad weight " ++ decimal w
verdict_text (BadValue v) = codes "bad value " ++ decimal v
