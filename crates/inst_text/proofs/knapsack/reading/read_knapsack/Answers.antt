use Rattle.std.proofs.Common.{subst}
use Rattle.pq_io.specs.Reading.{Gives}
use Rattle.inst_text.specs.Knapsack.{IsKnapsackText, knapsack_of}
use Rattle.inst_text.proofs.Readers.{given_is}
use Rattle.inst_text.proofs.KnapsackText.{knapsack_is_spelled, knapsack_is_read}
use Rattle.inst_text.proofs.knapsack.reading.read_knapsack.Goals as goal

pub returns-clause-spelled : goal.returns-clause-spelled
unfolding knapsack_of
returns-clause-spelled c = given_is (knapsack_of c.args.bytes.now) (IsKnapsackText c.args.bytes.now) (knapsack_is_spelled c.args.bytes.now) c.read_whole.result c.read_whole.ensures

pub returns-clause-read : goal.returns-clause-read
unfolding knapsack_of
returns-clause-read c = λ i is. subst (λ r. Gives (λ j. j) c.read_whole.result r) (knapsack_is_read c.args.bytes.now i is) c.read_whole.ensures
