-- The table of heads, job by job.
use Rattle.std.proofs.Common.{◌≡◌, ℕ, ◌+◌, ◌*◌, ◌-◌, ◌<◌, ◌≤◌, List, [], ◌∷◌, inl, inr, refl, sym, ap, ◌∙◌, length, drop, arith}
use Rattle.std.specs.Prelude.{min}
use Rattle.std.proofs.lemmas.Bool.{cases_eq}
use Rattle.std.proofs.lemmas.List.{length-drop}
use Rattle.inst_text.specs.declared.shop.Operation.{Operation}
use Rattle.inst_text.specs.Shop.{JobShop, IsJobShop}
use Rattle.bb_shop.specs.Plans.{row_at}
use Rattle.bb_shop.specs.Dispatching.{number_in}
use Rattle.bb_shop.specs.Bounds.{head_of}
use Rattle.bb_shop.specs.TreeLawsHold.States.{row-length}
use Rattle.bb_shop.specs.TreeLawsHold.Tabled.{job-end}
use Rattle.bb_onemach.specs.Visits.{heads, head_at}
use Rattle.bb_onemach.specs.Working.{IsWritten}

pub heads-cons : (machines : List ℕ) (ready : ℕ) (o : Operation) (os : List Operation) → heads machines ready (o ∷ os) ≡ head_of machines ready o ∷ heads machines (head_of machines ready o + o.time) os
unfolding heads
heads-cons machines ready o os = refl

pub length-heads : (machines : List ℕ) (ready : ℕ) (os : List Operation) → length (heads machines ready os) ≡ length os
unfolding heads
length-heads machines ready [] = refl
length-heads machines ready (o ∷ os) = omega (arith, length-heads machines (head_of machines ready o + o.time) os)

-- the table has the heads of the operations that are left of the first n jobs
abbrev pub HaveHeads : JobShop → List ℕ → List ℕ → List ℕ → ℕ → List ℕ → Type 0
HaveHeads s steps jobs machines n table =
    (j k : ℕ) → j < n → number_in steps j ≤ k → k < s.machines → number_in table (j * s.machines + k) ≡ head_at s steps jobs machines j k

-- one job more
pub one_job_more : (s : JobShop) (steps jobs machines : List ℕ) (n : ℕ) (old new : List ℕ) → IsJobShop s → n < length s.rows
    → IsWritten (n * s.machines + min (number_in steps n) s.machines) (heads machines (number_in jobs n) (drop (min (number_in steps n) s.machines) (row_at s.rows n))) old new
    → HaveHeads s steps jobs machines n old → HaveHeads s steps jobs machines (n + 1) new
one_job_more s steps jobs machines n old new shop inside is so_far = λ j k lt le below.
    let m = s.machines in
    let first = number_in steps n in
    let row = row_at s.rows n in
    elim (cases_eq j n) [
      | inl same ↦
          let start : min first m ≡ first = omega (arith, le, below, ap (number_in steps) same) in
          let i = k - first in
          let hs = heads machines (number_in jobs n) (drop (min first m) row) in
          let size : length hs ≡ length row - first = length-heads machines (number_in jobs n) (drop (min first m) row) ∙ length-drop (min first m) row ∙ ap (λ x. length row - x) start in
          let there = is.there i (omega (arith, size, row-length s n shop inside, le, below, ap (number_in steps) same)) in
          let place : n * m + min first m + i ≡ n * m + k = omega (arith, start, le, ap (number_in steps) same) in
          rw same (ap (number_in new) (sym place) ∙ there ∙ ap (λ x. number_in (heads machines (number_in jobs n) (drop x row)) i) start)
      | inr other ↦
          let sooner : j < n = omega (arith, lt, other) in
          is.before (j * m + k) (omega (arith, job-end j n m sooner, below)) ∙ so_far j k sooner le below
    ]
