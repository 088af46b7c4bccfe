use Rattle.std.proofs.Common.{◌≡◌, ◌*◌, map}
use Rattle.inst_text.specs.Generator.{state_after, made_lane, each_below}
use Rattle.inst_text.proofs.making.scripts.make_script.Given as goal

abbrev pub invariant-loop-lane : goal.invariant-loop-lane
invariant-loop-lane l = record {
  state : l.generator.state ≡ state_after l.seed (l.lane * l.size);
  lanes : map (λ lane. lane.items) l.made.items ≡ each_below l.lane (λ w. made_lane l.seed l.size (w * l.size));
}
