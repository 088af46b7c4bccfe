use Rattle.std.proofs.Common.{◌≡◌, List, sym, subst, arith, mod-lt}
use Rattle.std.specs.Prelude.{Contains, true}
use Rattle.pq_numbers.specs.declared.draws.Draw.{Draw}
use Rattle.bb_shared.proofs.tests.store.work.Goals as goal

pub loop-turn-preserved : goal.loop-turn-preserved
loop-turn-preserved c = (
  c.count.ensures.own,
  mod-lt _ (omega arith),
  subst (λ (ds : List Draw). (d : Draw) → Contains ds d → d.within ≡ true) (sym c.count.ensures.draws) c.in-Some.ensures.under,
)
