-- The operations of a machine, as they are gathered from the shop's table.
use Rattle.std.proofs.Common.{◌≡◌, ℕ, ◌+◌, List, [], ◌∷◌, inl, inr, refl, sym, ap, ◌∙◌, length, arith}
use Rattle.std.specs.Prelude.{nat_eq}
use Rattle.std.proofs.lemmas.Bool.{cond-true, cond-false}
use Rattle.std.proofs.lemmas.Bool.Decides.{eqb_tells}
use Rattle.inst_text.specs.declared.shop.Operation.{Operation}
use Rattle.inst_text.specs.Shop.{row_time}
use Rattle.bb_shop.specs.declared.prepared_operation.PreparedOperation.{PreparedOperation}
use Rattle.bb_shop.specs.Tables.{prepared_row}
use Rattle.bb_onemach.specs.declared.visit.Visit.{Visit}
use Rattle.bb_onemach.specs.Visits.{row_visits}
use Rattle.bb_onemach.specs.Working.{prepared_visits}
use Rattle.bb_onemach.specs.TreeLawsHold.Starting.{row_visits-same, row_visits-other, row_visits-nil}

abbrev pub visit_of : ℕ → ℕ → PreparedOperation → Visit
visit_of j k p = record { job = j; step = k; time = p.operation.time; tail = p.tail }

pub prepared-nil : (m j k : ℕ) → prepared_visits m j k [] ≡ []
unfolding prepared_visits
prepared-nil m j k = refl

pub prepared-same : (m j k : ℕ) (p : PreparedOperation) (ps : List PreparedOperation) → p.operation.machine ≡ m → prepared_visits m j k (p ∷ ps) ≡ visit_of j k p ∷ prepared_visits m j (k + 1) ps
unfolding prepared_visits
prepared-same m j k p ps same =
    elim (eqb_tells p.operation.machine m) [
      | inl is ↦ cond-true (nat_eq p.operation.machine m) (visit_of j k p ∷ prepared_visits m j (k + 1) ps) (prepared_visits m j (k + 1) ps) is.0
      | inr is ↦ absurd (is.1 same)
    ]

pub prepared-other : (m j k : ℕ) (p : PreparedOperation) (ps : List PreparedOperation) → (p.operation.machine ≡ m → ⊥) → prepared_visits m j k (p ∷ ps) ≡ prepared_visits m j (k + 1) ps
unfolding prepared_visits
prepared-other m j k p ps other =
    elim (eqb_tells p.operation.machine m) [
      | inl is ↦ absurd (other is.1)
      | inr is ↦ cond-false (nat_eq p.operation.machine m) (visit_of j k p ∷ prepared_visits m j (k + 1) ps) (prepared_visits m j (k + 1) ps) is.0
    ]

-- from the shop's table come the visits of a row
pub prepared_is : (m j k : ℕ) (os : List Operation) → prepared_visits m j k (prepared_row os) ≡ row_visits m j k os
prepared_is m j k [] = prepared-nil m j k ∙ sym (row_visits-nil m j k)
prepared_is m j k (o ∷ os) =
    let p : PreparedOperation = record { operation = o; tail = row_time os } in
    elim (eqb_tells o.machine m) [
      | inl is ↦
          prepared-same m j k p (prepared_row os) is.1 ∙ ap (λ vs. visit_of j k p ∷ vs) (prepared_is m j (k + 1) os) ∙ sym (row_visits-same m j k o os is.1)
      | inr is ↦ prepared-other m j k p (prepared_row os) is.1 ∙ prepared_is m j (k + 1) os ∙ sym (row_visits-other m j k o os is.1)
    ]

pub length-prepared : (os : List Operation) → length (prepared_row os) ≡ length os
length-prepared [] = refl
length-prepared (o ∷ os) = omega (arith, length-prepared os)
