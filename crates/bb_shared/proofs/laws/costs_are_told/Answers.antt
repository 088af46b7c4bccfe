use Rattle.std.proofs.Common.{Some}
use Rattle.bb_shared.proofs.Costs.{cost_rank}
use Rattle.bb_shared.proofs.laws.costs_are_told.Goals as goal

pub returns : goal.returns
returns c = λ cost small. cost_rank (Some cost) small
