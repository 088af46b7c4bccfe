use Rattle.bb_shared.proofs.Free.{drawn_free}
use Rattle.bb_shared.proofs.laws.drawn_numbers_are_free.Goals as goal

pub returns : goal.returns
returns g c = drawn_free
