use Rattle.std.proofs.Common.{rules, ◌≡◌, ◌∙◌, ◌+◌, ◌<◌, length, ap, arith}
use Rattle.pq_model.specs.declared.passes.Known.{Known}
use Rattle.pq_model.specs.Passes.{fresh}
use Rattle.pq_checks.proofs.Makings.{made_length, wanted_length}
use Rattle.pq_checks.proofs.held.beside_a_held_call.Goals as goal

pub make_joined-requires-clause-few : goal.make_joined-requires-clause-few
make_joined-requires-clause-few g c = λ κs lives.
    let known = g.Q.SharedQueue.known in
    let made = c.in_ok-make_each.ensures.made in let few = c.requires.few in
    let more = made_length (known c.in_ok-first.first.pass) (known c.make_each.new.pass) made.0 made.2 in
    let new : known c.in_ok-first.first.pass ≡ fresh 1 = search rules in
    let none = ap (λ (k : Known). length k.calls) new in
    let many = wanted_length c.args.row.now.before.now made.0 made.1 in omega arith
