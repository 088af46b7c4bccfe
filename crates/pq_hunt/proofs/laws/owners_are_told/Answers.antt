-- Each clause is a count of letters.
use Rattle.pq_hunt.proofs.Heap.Told.{letter_is_there, draws_tell, settles_tell}
use Rattle.pq_hunt.proofs.laws.owners_are_told.Goals as goal

pub returns-clause-placed : goal.returns-clause-placed
returns-clause-placed c = letter_is_there

pub returns-clause-draw : goal.returns-clause-draw
returns-clause-draw c = draws_tell

pub returns-clause-settle : goal.returns-clause-settle
returns-clause-settle c = settles_tell
