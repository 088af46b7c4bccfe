-- A best choice of a knapsack with the proof that no choice has more, and the verdict on such a proof.
use Rattle.std.specs.Prelude.{ℕ, ◌≡◌, ◌<◌, ◌≤◌, ◌++◌, List, [], ◌∷◌, length, Bool, codes, Ok}
use Rattle.std.specs.Fmt.{decimal}
use Rattle.pq_io.specs.Inputs.{longest_input}
use Rattle.pq_io.specs.Writing.{lines_text}
use Rattle.inst_text.specs.declared.plan.Claimed.{Claimed}
use Rattle.inst_text.specs.Knapsack.{Instance, knapsack_of}
use Rattle.bb_knap.specs.Plans.{value_of, cost_of}
use Rattle.bb_knap.specs.Branching.{tree_of, meaning_of}
use Rattle.bb_proof.specs.declared.verdict.ProofVerdict.{ProofVerdict}
use Rattle.bb_proof.specs.declared.verdict.ProofVerdict.TheVariants.{Proved}
use Rattle.bb_proof.specs.Tokens.{proof_limit, canonical}
use Rattle.bb_proof.specs.Verdicts.{IsProofVerdict, MeansBest}
use Rattle.bb_proof.specs.Verdicts as verdicts
use Rattle.bb_proof.specs.Texts.{proof_of, proof_text}
use Rattle.cli_words.specs.declared.limits.Limits.{Limits}
use Rattle.pq_cli.specs.declared.status.Status.{Status}
use Rattle.pq_cli.specs.declared.status.Status.TheVariants as statuses
use Rattle.pq_cli.specs.Using.{IsBestPlan, HaveRoom}

-- the proof that no choice costs less than this one: the canonical one of its cost
abbrev pub proof_for : Instance → List ℕ → List Bool
proof_for i choice = canonical (tree_of i) (cost_of i choice)

-- The text of a best choice of the instance that was read, and of the proof that no choice has more. It was found by a
-- search within its limits.
pub record IsProved (limits : Limits) (bytes text : List ℕ) : Type 0 where
  pub instance : Instance
  pub choice : List ℕ
  pub reads : knapsack_of bytes ≡ Ok instance
  pub best : IsBestPlan (meaning_of instance) choice
  pub room : HaveRoom limits (tree_of instance) (meaning_of instance).least
  pub few : length (proof_for instance choice) ≤ proof_limit
  pub written : text ≡ proof_text (record { stated = value_of instance.items choice; plan = choice })
      (proof_for instance choice)

-- The proof for a best choice of the instance that was read has more tokens than a proof may have. The choice was found
-- by a search within its limits.
pub record IsProofTooLong (limits : Limits) (bytes : List ℕ) : Type 0 where
  pub instance : Instance
  pub choice : List ℕ
  pub reads : knapsack_of bytes ≡ Ok instance
  pub best : IsBestPlan (meaning_of instance) choice
  pub room : HaveRoom limits (tree_of instance) (meaning_of instance).least
  pub long : proof_limit < length (proof_for instance choice)

-- the choice with this stated value is proved to be a best one
abbrev pub proved_text : ℕ → List ℕ
proved_text stated = lines_text ((codes "proved" ∷ decimal stated ∷ []) ∷ [])

-- the verdict on a choice with this stated value and a proof
abbrev pub verdict_text : ℕ → ProofVerdict → List ℕ
verdict_text stated Proved = proved_text stated
verdict_text stated verdict = verdicts.verdict_text verdict ++ 10 ∷ []

-- the status that it ends with
abbrev pub verdict_status : ProofVerdict → Status
verdict_status Proved = statuses.Ok
verdict_status _ = statuses.Illegal

-- The status and the text of the verdict on the choice, its stated value and the proof, which were read with their
-- instance. Where it is that the choice is proved, no feasible choice has more.
pub record IsVerified (bytes : List ℕ) (status : Status) (text : List ℕ) : Type 0 where
  pub instance : Instance
  pub claimed : Claimed (List ℕ)
  pub tokens : List Bool
  pub verdict : ProofVerdict
  pub reads : proof_of bytes ≡ Ok (instance, (claimed, tokens))
  pub judged : IsProofVerdict instance claimed.plan claimed.stated tokens verdict
  pub best : MeansBest instance claimed.plan claimed.stated verdict
  pub ended : status ≡ verdict_status verdict
  pub written : text ≡ verdict_text claimed.stated verdict

-- What is proved of an instance is verified behind it, for a text of the instance that ends with a line feed, if both
-- together are no longer than an input may be.
abbrev pub AreVerified : Type 0
AreVerified = (limits : Limits) (bytes text : List ℕ) → IsProved limits (bytes ++ 10 ∷ []) text
    → length (bytes ++ 10 ∷ text) ≤ longest_input
    → (number : ℕ) × IsVerified (bytes ++ 10 ∷ text) statuses.Ok (proved_text number)
