use Rattle.bb_shared.proofs.Free.{may_draw_again}
use Rattle.bb_shared.proofs.laws.first_may_draw_again.Goals as goal

pub returns : goal.returns
returns g c = may_draw_again
