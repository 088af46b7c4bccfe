use Rattle.std.proofs.Common.{◌*◌, sym, ◌∙◌, arith}
use Rattle.std.proofs.lemmas.List.{map-append}
use Rattle.inst_text.specs.Generator.{made_lane}
use Rattle.inst_text.proofs.Made.{all_made, one_more, next_from, script_fits}
use Rattle.inst_text.proofs.making.scripts.make_script.Goals as goal

pub loop-lane-preserved : goal.loop-lane-preserved
loop-lane-preserved c =
    let made = c.in_ok-next_lane.ensures c.args.seed c.loop-lane.invariant.state in
    record {
      state = made.1 ∙ next_from c.args.seed c.loop-lane.lane c.args.size;
      lanes =
          rw (c.in_ok-push.ensures.items, map-append, c.loop-lane.invariant.lanes, made.0)
          (sym (one_more (λ w. made_lane c.args.seed c.args.size (w * c.args.size)) c.loop-lane.lane));
    }

pub invariant_of-result : goal.invariant_of-result
invariant_of-result c =
    let all = all_made c.loop-lane.lane c.args.lanes (omega arith) (omega arith) in
    rw (c.loop-lane.invariant.lanes, all) (script_fits c.args.seed c.args.lanes c.args.size c.requires.some c.requires.few c.requires.size)
