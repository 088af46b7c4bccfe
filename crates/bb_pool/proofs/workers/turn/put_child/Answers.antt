use Rattle.std.proofs.Common.{refl, sym, subst}
use Rattle.bb_shared.specs.Stores.{KnowsStore}
use Rattle.bb_pool.specs.Together.{doing, GoesOn, IsCause}
use Rattle.bb_pool.proofs.Several.Counting.{moved, goes_put}
use Rattle.bb_pool.proofs.Several.Turns.{full_cause}
use Rattle.bb_pool.proofs.workers.turn.put_child.Goals as goal

pub returns-in-Done-clause-put : goal.returns-in-Done-clause-put
returns-in-Done-clause-put g c = let sh = c.args.shared.now in
    let knows = subst (λ n. KnowsStore n c.put.new.seat.kept) sh.limit.0 c.put.ensures.knows in (
      moved (λ w. GoesOn sh.nodes 0 (doing g.Q.SharedQueue.known c.args.worker.now) w) c.in-Done.ensures.call.1 c.put.ensures.put refl
          (goes_put sh.nodes _ _ _ _ _ _ _ _ _ (subst (KnowsStore sh.nodes) c.put.ensures.put knows)),
      record { entry = _; place = _; id = refl; key = refl; inserted = c.in-Done.ensures.call.1; stored = c.put.ensures.put; told = refl; found = refl },
    )

pub returns-in-Full-clause-halt : goal.returns-in-Full-clause-halt
returns-in-Full-clause-halt g c = let sh = c.args.shared.now in
    let knows = subst (λ n. KnowsStore n c.put.new.seat.kept) sh.limit.0 c.put.ensures.knows in (
      moved (λ w. GoesOn sh.nodes 0 (doing g.Q.SharedQueue.known c.args.worker.now) w) c.in-Full.ensures.call.1 c.put.ensures.put refl
          (goes_put sh.nodes _ _ _ _ _ _ _ _ _ (subst (KnowsStore sh.nodes) c.put.ensures.put knows)),
      subst (IsCause sh.nodes (g.Q.SharedQueue.known c.insert.new.pass) c.put.new.seat.kept.draws) (sym c.full_at.ensures.stop) (full_cause sh.nodes (g.Q.SharedQueue.known c.args.worker.now.pass) _ c.put.new.seat.kept.draws _ _ c.in-Full.ensures.call.1),
      c.full_at.ensures.tellable,
    )
