use Rattle.std.proofs.Common.{◌≡◌, ◌+◌, ℕ}
use Rattle.inst_text.specs.Generator.{state_after, made_insert, each_below}
use Rattle.inst_text.proofs.making.scripts.next_lane.Given as goal

abbrev pub invariant-loop-index : goal.invariant-loop-index
invariant-loop-index l = (seed : ℕ) → l.fn.generator.state ≡ state_after seed l.first
    → (l.lane.items ≡ each_below l.index (λ i. made_insert seed (l.first + i))) × (l.generator.state ≡ state_after seed (l.first + l.index))
