use Rattle.std.proofs.Common.{◌∙◌, ℕ, length, refl, sym, ap, subst, arith}
use Rattle.pq_cli.specs.Tracing.{IsTracing}
use Rattle.pq_cli.proofs.Traced.{traced_text}
use Rattle.pq_cli.proofs.commands.trace.trace.Goals as goal

pub overflow_cast-left : goal.overflow_cast-left
overflow_cast-left c =
    let traced = c.in_ok-run_lane.ensures in
    let bounded = c.sizes_are_bounded.ensures 1 c.in_ok-pass.pass.capacity c.run_lane.new.marks.items traced.legal in
    let held_is = ap length traced.held_is in
    omega (arith, bounded, held_is, c.len-left.ensures, c.in_ok-pass.ensures.capacity, c.requires.1)

pub returns : goal.returns
returns c =
    let traced = c.in_ok-run_lane.ensures in
    let kept = traced.capacity_is in
    let own = subst (λ (n : ℕ). IsTracing n c.only_lane-acts.result.now c.run_lane.new.marks.items c.run_lane.new.pass) (sym kept) traced in (
      tt,
      (
        refl,
        traced_text c.args.capacity c.len-left.result c.args.bytes.now c.in_ok-script.script c.only_lane-acts.result.now c.run_lane.new.marks.items c.run_lane.new.pass
            c.in_ok-script.ensures.exact c.only_lane-acts.ensures (kept ∙ c.in_ok-pass.ensures.capacity) c.len-left.ensures own,
      ),
      traced.lines,
    )
