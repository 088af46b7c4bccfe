use Rattle.std.proofs.Common.{◌≡◌, ◌+◌, ◌<◌, ◌++◌, length, arith}
use Rattle.pq_checks.specs.Held.{one_or_none, HasAnswered}
use Rattle.pq_checks.proofs.Makings.{made_more, made_length, wanted_append, wanted_length, if_ok}
use Rattle.pq_checks.proofs.held.call_beside.Goals as goal

pub wait-requires-clause-few : goal.wait-requires-clause-few
wait-requires-clause-few g c = λ κs lives.
    let known = g.Q.SharedQueue.known in let made = c.in-Ok.ensures.made in let few = c.requires.few in
    let more = made_length (known c.args.caller.now.pass) (known c.meanwhile.new.caller.pass) made.0 made.2 in
    let many = wanted_length c.args.row.now.beside.now made.0 made.1 in omega arith

pub returns-in-Ok-clause-answered : goal.returns-in-Ok-clause-answered
returns-in-Ok-clause-answered g c =
    let known = g.Q.SharedQueue.known in let row = c.args.row.now in let made = c.in-Ok.ensures.made in
    if_ok c.wait.result _ _ (λ x then. record {
      calls = made.0 ++ then.0;
      wanted = wanted_append row.beside.now (one_or_none row.waits) made.0 then.0 made.1 then.1;
      made = made_more (known c.args.caller.now.pass) (known c.meanwhile.new.caller.pass) (known c.wait.new.caller.pass) made.0 then.0 made.2 then.2;
    }) c.wait.ensures.made
