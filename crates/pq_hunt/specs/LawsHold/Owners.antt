-- An owner has one Busy node.
use Rattle.std.proofs.Common.{◌≡◌, ℕ, ◌-◌, ◌≤◌, Bool, cond, List, set, refl, ap, ◌∙◌, arith, get_or-set_other}
use Rattle.std.specs.Prelude.{sum_by}
use native.Mathlib.Decide.{ℕ_discrete}
use mathlib.Core.Logic.{dite}
use Rattle.std.proofs.lemmas.Bool.{eq-eqb}
use Rattle.std.proofs.lemmas.List.{length-set}
use Rattle.std.proofs.lemmas.List.Sums.{sum_by-set, get_or-le-sum_by}
use Rattle.pq_words.specs.declared.entries.Entry.{Entry}
use Rattle.pq_hunt.specs.declared.nodes.Node.{Node}
use Rattle.pq_hunt.specs.declared.nodes.Node.TheVariants.{Empty, Busy}
use Rattle.pq_hunt.specs.Nodes.{node, used, busy_of, IsShape}

-- where a node in use is
pub in_use : (size : ℕ) (t : List Node) (h : ℕ) → IsShape size t → used (node t h) ≡ 1 → (1 ≤ h) × (h ≤ size)
in_use size t h s is = (
  dite (ℕ_discrete h 0) (λ e. let none : used (node t h) ≡ 0 = ap (λ (z : ℕ). used (node t z)) e ∙ ap used s.first in
      absurd (omega arith)) (λ ne. omega arith),
  dite (ℕ_discrete (h - size) 0) (λ e. omega arith) (λ ne. let none : used (node t h) ≡ 0 = ap used
      (s.clear h (omega arith)) in absurd (omega arith)),
)

pub busy_own : (o : ℕ) (x : Entry) → busy_of o (Busy o x) ≡ 1
busy_own o x = ap (λ (b : Bool). cond {A = ℕ} b 1 0) (eq-eqb o o refl)

pub busy_at : (o : ℕ) (x : Entry) (v : Node) → v ≡ Busy o x → busy_of o v ≡ 1
busy_at o x v is = ap (busy_of o) is ∙ busy_own o x

-- where it has one, no other is its
pub one_busy : (o : ℕ) (x y : Entry) (i c size : ℕ) (t : List Node) → IsShape size t → sum_by (busy_of o) t ≤ 1
    → node t c ≡ Busy o x → node t i ≡ Busy o y → i ≡ c
one_busy o x y i c size t s most is also = dite (ℕ_discrete i c) (λ e. e)
    (λ ne. let at = in_use size t i s (ap used also) in let high = at.1 in let c_at = in_use size t c s (ap used is) in
    let c_high = c_at.1 in let within = s.within in
    let sum = sum_by-set (busy_of o) t c Empty Empty (omega arith) in
    let part = get_or-le-sum_by (busy_of o) (set t c Empty) i Empty (omega (arith, length-set t c Empty)) in
    let other : busy_of o (node (set t c Empty) i) ≡ 1 = ap (busy_of o) (get_or-set_other t c i Empty Empty ne)
    ∙ busy_at o y (node t i) also in
    let one = busy_at o x (node t c) is in absurd (omega arith))
