use Rattle.std.proofs.Common.{rules, ◌+◌, [], subst}
use Rattle.std.specs.Prelude.{slice_index_or}
use Rattle.pq_lanes.specs.declared.callers.Caller.{Caller}
use Rattle.pq_lanes.specs.Lanes.{HasMade}
use Rattle.pq_lanes.proofs.callers.run_all.Goals as goal

pub returns-clause-made : goal.returns-clause-made
returns-clause-made g c k d lt =
    let q = c.args.queue.now in
    let e = (c.for_each_mut.ensures k d (search (rules, lt))).1 in
    subst (λ (x : Caller g.row.Q-Pass.Denot). HasMade (g.Q.SharedQueue.seats_of q) (g.Q.SharedQueue.capacity_of q) (k + 1) (slice_index_or c.args.script.now k [])
    (g.Q.SharedQueue.known x.pass) x.tape.lane) e.left e.call.1
