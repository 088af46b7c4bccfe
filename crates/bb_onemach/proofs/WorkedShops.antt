-- The worked shops, computed.
use Rattle.std.proofs.Common.{◌≡◌, [], ◌∷◌, refl}
use Rattle.bb_shop.specs.Dispatching.{state_from, dispatched}
use Rattle.bb_shop.specs.Bounds.{finish, joined}
use Rattle.bb_shop.specs.Branching.{children_of, jobs_left}
use Rattle.bb_shop.specs.Worked.{ft06}
use Rattle.bb_onemach.specs.Visits.{row_visits, rows_visits, heads}
use Rattle.bb_onemach.specs.Thresholds.{load_above}
use Rattle.bb_onemach.specs.Bounds.{bound_by, root_bound}
use Rattle.bb_onemach.specs.Branching.{soonest, active_children}
use Rattle.bb_onemach.specs.Worked.{three_in_turn}

pub in_turn_bound : root_bound three_in_turn ≡ 20
unfolding state_from dispatched finish joined row_visits rows_visits heads load_above bound_by
in_turn_bound = refl

pub ft06_bound : root_bound ft06 ≡ 52
unfolding state_from dispatched finish joined row_visits rows_visits heads load_above bound_by
ft06_bound = refl

pub in_turn_children : active_children three_in_turn [] ≡ 2 ∷ []
unfolding state_from dispatched children_of jobs_left soonest active_children
in_turn_children = refl

-- all of this
pub ruleset worked_shops = (in_turn_bound, ft06_bound, in_turn_children)
