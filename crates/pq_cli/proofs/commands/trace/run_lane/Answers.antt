use Rattle.std.proofs.Common.{◌∙◌, List, ◌++◌, [], ◌∷◌, take, refl, sym, ap, subst, arith}
use Rattle.std.proofs.lemmas.List.{take_more, length-take-le}
use Rattle.pq_model.specs.declared.marks.Act.{Act}
use Rattle.pq_model.specs.declared.marks.Mark.{Mark}
use Rattle.inst_text.specs.Script.{IsCommand}
use Rattle.pq_cli.specs.Tracing.{IsTracing}
use Rattle.pq_cli.proofs.Traced.{nothing_yet, command_at}
use Rattle.pq_cli.proofs.commands.trace.run_lane.Goals as goal

pub loop-act-preserved : goal.loop-act-preserved
loop-act-preserved c =
    let i = c.loop-act.act-index in
    let acts = c.args.acts.now in
    let same = take_more acts i c.act-item.result c.loop-act-test.true ∙ ap (λ (a : Act). take i acts ++ a ∷ []) (sym c.act-item.is) in
    let more = c.in_ok-run_command.ensures c.args.pass.now.capacity (take i acts) c.loop-act.invariant in
    subst (λ (done : List Act). IsTracing c.args.pass.now.capacity done c.run_command.new.marks.items c.run_command.new.pass) (sym same) more

pub loop-act-init : goal.loop-act-init
loop-act-init c = subst (λ (ms : List Mark). IsTracing c.args.pass.now.capacity [] ms c.args.pass.now) (sym c.requires.fresh.1)
    (nothing_yet c.args.pass.now.capacity c.args.pass.now c.requires.fresh.0 refl)

pub run_command-requires : goal.run_command-requires
run_command-requires c =
    let i = c.loop-act.act-index in
    let calls = c.loop-act.invariant.calls in
    let most = length-take-le i c.args.acts.now c.loop-act.auto.act-index-end in
    record {
      command = subst IsCommand (sym c.act-item.is) (command_at c.args.acts.now i c.act-item.result c.loop-act-test.true c.requires.commands);
      few = omega (arith, calls, most, c.loop-act.auto.act-index-end, c.requires.few);
    }
