-- The worked shops, computed.
use Rattle.std.proofs.Common.{◌≡◌, [], ◌∷◌, refl}
use Rattle.bb_shop.specs.Plans.{makespan}
use Rattle.bb_shop.specs.Dispatching.{state_of, state_from, dispatched}
use Rattle.bb_shop.specs.Bounds.{finish, joined, job_load, bound_at, root_bound, finishes, machine_bounds, greatest}
use Rattle.bb_shop.specs.Branching.{children_of, jobs_left}
use Rattle.bb_shop.specs.Worked.{ft06, three_by_three}

pub ft06_bound : root_bound ft06 ≡ 52
unfolding state_from dispatched finish joined job_load bound_at
ft06_bound = refl

pub ft06_longest : greatest (finishes ft06 (state_of ft06 [])) ≡ 47
unfolding state_from dispatched finish
ft06_longest = refl

pub ft06_machine_bounds : machine_bounds ft06 (state_of ft06 []) ≡ 42 ∷ 33 ∷ 26 ∷ 25 ∷ 52 ∷ 49 ∷ []
unfolding state_from dispatched finish joined job_load
ft06_machine_bounds = refl

pub three_children : children_of three_by_three (1 ∷ 1 ∷ 1 ∷ 0 ∷ []) ≡ 0 ∷ 2 ∷ []
unfolding state_from dispatched children_of jobs_left
three_children = refl

pub three_starts : (state_of three_by_three (1 ∷ 2 ∷ 0 ∷ 1 ∷ 0 ∷ 1 ∷ 2 ∷ 0 ∷ 2 ∷ [])).starts ≡ (2 ∷ 5 ∷ 7 ∷ []) ∷ (0 ∷ 2 ∷ 7 ∷ []) ∷ (0 ∷ 4 ∷ 7 ∷ []) ∷ []
unfolding state_from dispatched
three_starts = refl

pub three_makespan : makespan three_by_three ((2 ∷ 5 ∷ 7 ∷ []) ∷ (0 ∷ 2 ∷ 7 ∷ []) ∷ (0 ∷ 4 ∷ 7 ∷ []) ∷ []) ≡ 11
three_makespan = refl

-- all of this
pub ruleset worked_shops = (ft06_bound, ft06_longest, ft06_machine_bounds, three_children, three_starts, three_makespan)
