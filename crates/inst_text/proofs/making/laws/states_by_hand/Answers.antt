use Rattle.std.proofs.Common.{refl}
use Rattle.inst_text.specs.Generator.{next_state}
use Rattle.inst_text.proofs.making.laws.states_by_hand.Goals as goal

pub returns-clause-first : goal.returns-clause-first
unfolding next_state
returns-clause-first c = refl

pub returns-clause-first_bits : goal.returns-clause-first_bits
unfolding next_state
returns-clause-first_bits c = refl

pub returns-clause-second : goal.returns-clause-second
unfolding next_state
returns-clause-second c = refl

pub returns-clause-second_bits : goal.returns-clause-second_bits
unfolding next_state
returns-clause-second_bits c = refl
