use Rattle.std.proofs.Common.{arith}
use Rattle.bb_shop.proofs.judging.judged.Goals as goal

pub overflow_cast-result : goal.overflow_cast-result
overflow_cast-result c = omega (arith, c.in-Some.ensures.first.0.0.0, c.in-Some.ensures.within_limits.jobs)

pub overflow_cast-result-in-Some : goal.overflow_cast-result-in-Some
overflow_cast-result-in-Some c = omega (arith, c.in-Some.ensures.first.0.0.1, c.in-Some.ensures.within_limits.machines)

pub overflow_cast-result-in-Some-first_overlap : goal.overflow_cast-result-in-Some-first_overlap
overflow_cast-result-in-Some-first_overlap c = omega (arith, c.in-Some-first_overlap.ensures.0.pair.one.0, c.first_early.ensures.within_limits.jobs)

pub overflow_cast-result-in-Some-first_overlap-2 : goal.overflow_cast-result-in-Some-first_overlap-2
overflow_cast-result-in-Some-first_overlap-2 c = omega (arith, c.in-Some-first_overlap.ensures.0.pair.one.1, c.first_early.ensures.within_limits.machines)

pub overflow_cast-result-in-Some-first_overlap-3 : goal.overflow_cast-result-in-Some-first_overlap-3
overflow_cast-result-in-Some-first_overlap-3 c = omega (arith, c.in-Some-first_overlap.ensures.0.pair.other.0, c.first_early.ensures.within_limits.jobs)

pub overflow_cast-result-in-Some-first_overlap-4 : goal.overflow_cast-result-in-Some-first_overlap-4
overflow_cast-result-in-Some-first_overlap-4 c = omega (arith, c.in-Some-first_overlap.ensures.0.pair.other.1, c.first_early.ensures.within_limits.machines)
