-- What is read as an instance, a plan and a proof is spelled so and keeps the limits, and what is spelled so is read.
use Rattle.std.proofs.Common.{◌≡◌, ℕ, Bool, List, length, Result, Ok, Err}
use Rattle.std.specs.Prelude.{IfOk, ◌↔◌}
use Rattle.pq_io.specs.declared.text.fault.BadInput.{BadInput}
use Rattle.pq_io.specs.declared.text.fault.ReadRefusal.{ReadRefusal}
use Rattle.pq_io.specs.Lines.{Line}
use Rattle.pq_io.specs.Reading.{Gives}
use Rattle.inst_text.specs.declared.plan.Claimed.{Claimed}
use Rattle.inst_text.specs.Several.{both}
use Rattle.inst_text.specs.Knapsack.{Instance, instance_at}
use Rattle.inst_text.specs.Plans.{choice_at}
use Rattle.inst_text.proofs.Readers.{IsReader, MeansBoth, both_read, whole_taken, whole_found}
use Rattle.inst_text.proofs.KnapsackText.{MeansInstance, instance_read}
use Rattle.inst_text.proofs.PlanTexts.{MeansChoice, choice_read}
use Rattle.bb_proof.specs.Texts.{proof_at, proved_at, proof_of, IsProofText}
use Rattle.bb_proof.proofs.ProofLines.{MeansProof, proof_read}

abbrev ProofOf : Claimed (List ℕ) → List Line → List Bool → Type 0
ProofOf c = MeansProof

abbrev ProvedOf : Instance → List Line → Claimed (List ℕ) × List Bool → Type 0
ProvedOf i = MeansBoth (MeansChoice (length i.items)) ProofOf

proved_read : (i : Instance) → IsReader (proved_at (length i.items)) (ProvedOf i)
proved_read i = both_read (choice_at (length i.items)) (λ c. proof_at) (MeansChoice (length i.items)) ProofOf (choice_read (length i.items)) (λ lines c m. proof_read)

all_read : IsReader (both instance_at (λ i. proved_at (length i.items))) (MeansBoth MeansInstance ProvedOf)
all_read = both_read instance_at (λ i. proved_at (length i.items)) MeansInstance ProvedOf instance_read (λ lines i m. proved_read i)

pub proof_is_spelled : (bytes : List ℕ) (v : Instance × (Claimed (List ℕ) × List Bool)) → proof_of bytes ≡ Ok v → IsProofText bytes v.0 v.1.0 v.1.1
unfolding proof_of
proof_is_spelled bytes v e =
    let w = whole_taken (both instance_at (λ i. proved_at (length i.items))) (MeansBoth MeansInstance ProvedOf) all_read bytes v e in
    let m = w.means in
    let p = m.second in
    record {
      size = w.size;
      lines = record {
        prefix = m.prefix;
        suffix = m.suffix;
        lines_are = m.lines_are;
        first = m.first.spell;
        second = record { prefix = p.prefix; suffix = p.suffix; lines_are = p.lines_are; first = p.first.spell; second = p.second.spell };
      };
      limits = m.first.limits;
      stated = p.first.stated;
      shape = p.first.shape;
      some = p.second.some;
      few = p.second.few;
    }

pub proof_is_read : (bytes : List ℕ) (i : Instance) (c : Claimed (List ℕ)) (tokens : List Bool) → IsProofText bytes i c tokens → proof_of bytes ≡ Ok (i, (c, tokens))
unfolding proof_of
proof_is_read bytes i c tokens is =
    let l = is.lines in
    let p = l.second in
    whole_found (both instance_at (λ i. proved_at (length i.items))) (MeansBoth MeansInstance ProvedOf) all_read bytes (i, (c, tokens))
    (record {
      size = is.size;
      means = record {
        prefix = l.prefix;
        suffix = l.suffix;
        lines_are = l.lines_are;
        first = record { spell = l.first; limits = is.limits };
        second = record {
          prefix = p.prefix;
          suffix = p.suffix;
          lines_are = p.lines_are;
          first = record { spell = p.first; stated = is.stated; shape = is.shape };
          second = record { spell = p.second; some = is.some; few = is.few };
        };
      };
    })

pub proofs_are_texts : (bytes : List ℕ) (i : Instance) (c : Claimed (List ℕ)) (tokens : List Bool) → (proof_of bytes ≡ Ok (i, (c, tokens))) ↔ IsProofText bytes i c tokens
proofs_are_texts bytes i c tokens = (proof_is_spelled bytes (i, (c, tokens)), proof_is_read bytes i c tokens)

-- what a call gives, seen by view, is so
pub given_as : {X A : Type 0} (view : X → A) (read : Result A BadInput) (P : A → Type 0) → ((a : A) → read ≡ Ok a → P a) → (r : Result X ReadRefusal) → Gives view r read → IfOk r (λ x. P (view x))
given_as view read P so (Ok x) given = so (view x) given
given_as view read P so (Err e) given = tt
