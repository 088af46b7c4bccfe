use Rattle.inst_text.proofs.KnapsackText.{knapsack_is_spelled, knapsack_is_read}
use Rattle.inst_text.proofs.knapsack.laws.knapsack_texts_are_read.Goals as goal

pub returns : goal.returns
returns c = λ bytes i. (knapsack_is_spelled bytes i, knapsack_is_read bytes i)
