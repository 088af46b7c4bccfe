-- No choice has two verdicts.
use Rattle.std.proofs.Common.{◌≡◌, ℕ, ◌<◌, List, refl, sym, ap, ◌∙◌, arith}
use Rattle.inst_text.specs.Knapsack.{Instance}
use Rattle.bb_knap.specs.declared.verdict.KnapVerdict.{KnapVerdict}
use Rattle.bb_knap.specs.declared.verdict.KnapVerdict.TheVariants.{Feasible, BadWeight, BadValue}
use Rattle.bb_knap.specs.Plans.{IsFeasible, weight_of}
use Rattle.bb_knap.specs.Verdicts.{IsVerdict}

-- a choice that passes the capacity is not feasible
passes_or_fits : (i : Instance) (choice : List ℕ) (w : ℕ) → w ≡ weight_of i.items choice → i.capacity < w → IsFeasible i choice → ⊥
passes_or_fits i choice w is past feasible = omega (arith, is, past, feasible.fits)

pub verdict_is_one : (i : Instance) (choice : List ℕ) (stated : ℕ) (v w : KnapVerdict) → IsVerdict i choice stated v → IsVerdict i choice stated w → v ≡ w
verdict_is_one i choice stated (BadWeight a) (BadWeight b) p q = ap BadWeight (p.0 ∙ sym q.0)
verdict_is_one i choice stated (BadWeight a) (BadValue b) p q = absurd (passes_or_fits i choice a p.0 p.1 q.0)
verdict_is_one i choice stated (BadWeight a) Feasible p q = absurd (passes_or_fits i choice a p.0 p.1 q.0)
verdict_is_one i choice stated (BadValue a) (BadWeight b) p q = absurd (passes_or_fits i choice b q.0 q.1 p.0)
verdict_is_one i choice stated (BadValue a) (BadValue b) p q = ap BadValue (p.1 ∙ sym q.1)
verdict_is_one i choice stated (BadValue a) Feasible p q = absurd (p.2 (p.1 ∙ q.1))
verdict_is_one i choice stated Feasible (BadWeight b) p q = absurd (passes_or_fits i choice b q.0 q.1 p.0)
verdict_is_one i choice stated Feasible (BadValue b) p q = absurd (q.2 (q.1 ∙ p.1))
verdict_is_one i choice stated Feasible Feasible p q = refl
