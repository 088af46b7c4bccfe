use Rattle.std.proofs.Common.{length, arith}
use Rattle.bb_knap.proofs.Totals.{value_of-le}
use Rattle.bb_knap.proofs.laws.best_is_cheapest.Goals as goal

pub returns : goal.returns
returns c = λ i choice. (
  λ b. record {
    feasible = b.feasible;
    cheapest = λ other o. omega (arith, b.best other o);
  },
  λ b. record {
    feasible = b.feasible;
    best =
        λ other o.
        omega (arith, b.cheapest other o, value_of-le i.items (length i.items) choice b.feasible.chosen, value_of-le i.items (length i.items) other o.chosen);
  },
)
