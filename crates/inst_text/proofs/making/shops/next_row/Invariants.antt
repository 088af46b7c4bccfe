use Rattle.std.proofs.Common.{◌≡◌, ◌+◌, ℕ}
use Rattle.inst_text.specs.Generator.{state_after, made_operation, each_below}
use Rattle.inst_text.proofs.making.shops.next_row.Given as goal

abbrev pub invariant-loop-step : goal.invariant-loop-step
invariant-loop-step l = (seed n : ℕ) → l.fn.generator.state ≡ state_after seed n
    → (l.row.items ≡ each_below l.step (made_operation seed l.size n)) × (l.generator.state ≡ state_after seed (n + 1 + l.step))
