use Rattle.std.proofs.Common.{◌≡◌, ◌+◌, get_or, drop, sym, ap, subst, ◌∙◌, arith}
use Rattle.std.proofs.lemmas.List.{at_drop_more, at_drop_all}
use Rattle.std.proofs.lemmas.List.Elements.{All-get_or}
use Rattle.bb_shop.specs.declared.booking.Booking.{Booking}
use Rattle.bb_shop.specs.Working.{IsLeftAt, next_at}
use Rattle.bb_onemach.specs.Branching.{sooner, soonest, critical}
use Rattle.bb_onemach.proofs.Soonest.{soonest-cons, soonest-nil, sooner-other, sooner-this, critical-start}
use Rattle.bb_onemach.proofs.branching.critical.Goals as goal
use Rattle.bb_onemach.proofs.branching.critical.Goals.{then-next-soonest, else-next-soonest}

pub loop-job-init : goal.loop-job-init
loop-job-init c =
    let s = c.args.shop.now in
    let node = c.args.node.now in
    let jobs = c.args.jobs.now in
    let first : c.from-critical.result ≡ get_or jobs 0 0 = c.from-critical.ensures in
    record {
      at = c.next-soonest.ensures;
      whole = ap (λ j. soonest (next_at s node) j jobs) first ∙ critical-start (next_at s node) jobs c.requires.some;
      left = subst (IsLeftAt s node) (sym first) (All-get_or (IsLeftAt s node) jobs 0 0 (omega (arith, c.requires.some)) c.requires.left);
    }

pub loop-job-preserved : goal.loop-job-preserved
loop-job-preserved c =
    let s = c.args.shop.now in
    let node = c.args.node.now in
    let jobs = c.args.jobs.now in
    let next = next_at s node in
    let i = c.loop-job.job-index in
    let j = get_or jobs i 0 in
    let rest = drop (i + 1) jobs in
    let k = c.loop-job.critical in
    let turn : soonest next (sooner next k j) rest ≡ critical next jobs =
    sym (at_drop_more (soonest next k) jobs i 0 c.loop-job-test.true ∙ soonest-cons next k j rest) ∙ c.loop-job.invariant.whole in
    let here : c.next-next.result ≡ next j = c.next-next.ensures ∙ ap next c.from.ensures in
    let end_here = ap (λ (b : Booking). b.end) here in
    let end_so_far = ap (λ (b : Booking). b.end) c.loop-job.invariant.at in
    elim c.if-next-soonest.branch [
      | then-next-soonest w ↦
          let same : c.if-next-soonest.critical ≡ j = w.critical-is ∙ w.from-critical-then-next-soonest.ensures in
          let sooner_is : sooner next k j ≡ j = sooner-other next k j (omega (arith, w.if-next-soonest.true, end_here, end_so_far)) in
          record {
            at = w.soonest-is ∙ here ∙ ap next (sym same);
            whole = ap (λ x. soonest next x rest) (same ∙ sym sooner_is) ∙ turn;
            left = subst (IsLeftAt s node) (sym same) (All-get_or (IsLeftAt s node) jobs i 0 c.loop-job-test.true c.requires.left);
          }
      | else-next-soonest w ↦
          let same : c.if-next-soonest.critical ≡ k = w.critical-is in
          let sooner_is : sooner next k j ≡ k = sooner-this next k j (omega (arith, w.if-next-soonest.false, end_here, end_so_far)) in
          record {
            at = w.soonest-is ∙ c.loop-job.invariant.at ∙ ap next (sym same);
            whole = ap (λ x. soonest next x rest) (same ∙ sym sooner_is) ∙ turn;
            left = subst (IsLeftAt s node) (sym same) c.loop-job.invariant.left;
          }
    ]

pub returns-clause-critical : goal.returns-clause-critical
returns-clause-critical c =
    let next = next_at c.args.shop.now c.args.node.now in
    let k = c.loop-job.critical in
    sym (at_drop_all (soonest next k) c.args.jobs.now c.loop-job.job-index c.loop-job-test.false ∙ soonest-nil next k) ∙ c.loop-job.invariant.whole
