-- What is found of a choice, its stated value and a proof, and what is made where a proof is asked for.
use Rattle.std.specs.Prelude.{ℕ, ◌≡◌, ◌<◌, ◌≤◌, List, ◌++◌, length, codes, Bool, Option, Some, None}
use Rattle.std.specs.Fmt.{decimal}
use Rattle.inst_text.specs.Knapsack.{Instance}
use Rattle.bb_knap.specs.declared.verdict.KnapVerdict.TheVariants as choices
use Rattle.bb_knap.specs.Plans.{IsFeasible, IsBest, value_of, cost_of}
use Rattle.bb_knap.specs.Verdicts.{IsVerdict}
use Rattle.bb_knap.specs.Branching.{tree_of}
use Rattle.bb_proof.specs.declared.verdict.ProofVerdict.{ProofVerdict}
use Rattle.bb_proof.specs.declared.verdict.ProofVerdict.TheVariants.{Proved, BadWeight, BadValue, BadToken}
use Rattle.bb_proof.specs.declared.made.Made.{Made}
use Rattle.bb_proof.specs.declared.made.Made.TheVariants.{Proof, TooLong, NoMemory}
use Rattle.bb_proof.specs.Tokens.{proof_limit, canonical, first_bad}

-- the choice is feasible and has this value, and this is the first place at which the proof fails, if any
pub record FailsAt (i : Instance) (choice : List ℕ) (stated : ℕ) (tokens : List Bool) (place : Option ℕ) : Type 0 where
  pub feasible : IsVerdict i choice stated choices.Feasible
  pub bad : first_bad (tree_of i) (cost_of i choice) tokens ≡ place

-- The first thing that fails: the weight, else the value, else a token.
abbrev pub IsProofVerdict : Instance → List ℕ → ℕ → List Bool → ProofVerdict → Type 0
IsProofVerdict i choice stated tokens (BadWeight w) = IsVerdict i choice stated (choices.BadWeight w)
IsProofVerdict i choice stated tokens (BadValue v) = IsVerdict i choice stated (choices.BadValue v)
IsProofVerdict i choice stated tokens (BadToken place) = FailsAt i choice stated tokens (Some place)
IsProofVerdict i choice stated tokens Proved = FailsAt i choice stated tokens None

-- the words of a verdict
abbrev pub verdict_text : ProofVerdict → List ℕ
verdict_text Proved = codes "proved"
verdict_text (BadWeight w) = codes "bad weight " ++ decimal w
verdict_text (BadValue v) = codes "bad value " ++ decimal v
verdict_text (BadToken place) = codes "bad token " ++ decimal place

-- no feasible choice is worth more than this one, which has the stated value
pub record IsProvedBest (i : Instance) (choice : List ℕ) (stated : ℕ) : Type 0 where
  pub best : IsBest i choice
  pub value : value_of i.items choice ≡ stated

-- what the verdict means where it is that the plan is proved
abbrev pub MeansBest : Instance → List ℕ → ℕ → ProofVerdict → Type 0
MeansBest i choice stated Proved = IsProvedBest i choice stated
MeansBest i choice stated verdict = Unit {0}

-- no feasible choice costs less
abbrev pub IsBelowAll : Instance → ℕ → Type 0
IsBelowAll i cost = (choice : List ℕ) → IsFeasible i choice → cost ≤ cost_of i choice

-- The canonical proof, or that it is too long.
abbrev pub IsMade : Instance → ℕ → Made → Type 0
IsMade i cost (Proof tokens) = tokens ≡ canonical (tree_of i) cost
IsMade i cost TooLong = proof_limit < length (canonical (tree_of i) cost)
IsMade i cost NoMemory = Unit {0}

-- what is made is a proof that no token of fails
abbrev pub IsGoodProof : Instance → ℕ → Made → Type 0
IsGoodProof i cost (Proof tokens) = first_bad (tree_of i) cost tokens ≡ None
IsGoodProof i cost made = Unit {0}
