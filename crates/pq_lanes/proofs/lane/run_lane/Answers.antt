use Rattle.std.proofs.Common.{◌∙◌, ◌++◌, [], ◌∷◌, List, take, sym, ap, subst}
use Rattle.std.proofs.lemmas.List.{take_more}
use Rattle.pq_model.specs.declared.marks.Act.{Act}
use Rattle.pq_lanes.specs.Lanes.{HasMade}
use Rattle.pq_lanes.proofs.lane.run_lane.Goals as goal

pub loop-act-preserved : goal.loop-act-preserved
loop-act-preserved g c =
    let i = c.loop-act.act-index in let acts = c.args.acts.now in let known = g.Q.SharedQueue.known in
    let number = (known c.args.pass.now).number in
    let same = take_more acts i c.act-item.result c.loop-act-test.true ∙ ap (λ (a : Act). take i acts ++ a ∷ []) (sym c.act-item.is) in
    record {
      own = c.run_command.ensures.own;
      made = subst (λ (done : List Act). HasMade (g.Q.SharedQueue.seats_of c.args.queue.now) (g.Q.SharedQueue.capacity_of c.args.queue.now) number done (known c.run_command.new.pass) c.run_command.new.tape.lane) (sym same)
          (c.run_command.ensures.made number (take i acts) c.loop-act.invariant.made);
      room = c.run_command.ensures.room ∙ c.loop-act.invariant.room;
    }
