use Rattle.pq_cli.proofs.laws.active_schedules_are_checked.Goals as goal

pub returns : goal.returns
returns c = λ bytes text s size.
    let r = c.solved_schedules_are_checked.ensures bytes text (record {
      instance = s.instance;
      plan = s.plan;
      reads = s.reads;
      best = record { feasible = s.best.feasible; cheapest = s.best.cheapest };
      written = s.written;
    }) size in
    (r.0, record { instance = r.1.instance; claimed = r.1.claimed; reads = r.1.reads; judged = r.1.judged })
