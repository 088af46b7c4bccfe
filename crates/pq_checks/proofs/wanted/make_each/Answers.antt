use Rattle.std.proofs.Common.{◌≡◌, ◌∙◌, ◌+◌, ◌++◌, [], ◌∷◌, List, length, length-append, take, sym, ap, subst, arith}
use Rattle.std.proofs.lemmas.List.{take_more}
use Rattle.pq_model.specs.declared.passes.Call.{Call}
use Rattle.pq_checks.specs.declared.wanted.Wanted.{Wanted}
use Rattle.pq_checks.specs.Checks.{AreWanted}
use Rattle.pq_checks.proofs.Makings.{made_more, wanted_append}
use Rattle.pq_checks.proofs.wanted.make_each.Goals as goal

pub loop-wanted-preserved : goal.loop-wanted-preserved
loop-wanted-preserved g c =
    let known = g.Q.SharedQueue.known in
    let i = c.loop-wanted.wanted-index in let ws = c.args.calls.now in let w = c.wanted-item.result in
    let so_far = c.loop-wanted.invariant.made in
    let last = c.in_ok-make_wanted.ensures.made in
    let same = take_more ws i w c.loop-wanted-test.true ∙ ap (λ (x : Wanted). take i ws ++ x ∷ []) (sym c.wanted-item.is) in
    record {
      own = c.make_wanted.ensures.own;
      taped = c.in_ok-make_wanted.ensures.taped;
      made = (
        so_far.0 ++ last.0 ∷ [],
        subst (λ (vs : List Wanted). AreWanted vs (so_far.0 ++ last.0 ∷ [])) (sym same) (wanted_append (take i ws) (w ∷ []) so_far.0 (last.0 ∷ []) so_far.1 (last.1, tt)),
        made_more (known c.args.pass.now) (known c.loop-wanted.pass) (known c.make_wanted.new.pass) so_far.0 (last.0 ∷ []) so_far.2 last.2,
        length-append so_far.0 (last.0 ∷ []) ∙ ap (λ n. n + 1) so_far.3,
      );
    }
