use Rattle.std.proofs.Common.{List, ◌++◌, [], ◌∷◌, sym, subst}
use Rattle.pq_model.specs.declared.marks.Mark.{Mark}
use Rattle.pq_cli.specs.Tracing.{IsTracing}
use Rattle.pq_cli.proofs.Traced.{one_more}
use Rattle.pq_cli.proofs.commands.trace.run_command.Goals as goal

pub returns : goal.returns
returns c = λ capacity acts t.
    let call = c.reply_to-reply in
    let more = one_more capacity acts c.args.marks.now.items c.args.pass.now call.new.pass c.args.act call.result c.requires.command
    call.ensures.step call.ensures.holds call.ensures.counted call.ensures.capacity t in
    subst (λ (ms : List Mark). IsTracing capacity (acts ++ c.args.act ∷ []) ms call.new.pass) (sym c.in_ok-push.ensures.items) more
