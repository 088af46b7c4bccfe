use Rattle.std.proofs.Common.{◌≡◌, ◌∙◌, ◌+◌, ◌++◌, ◌<◌, ◌≤◌, [], ◌∷◌, List, length, take, sym, ap, subst, arith}
use Rattle.std.proofs.lemmas.Grind.{common_steps}
use Rattle.std.proofs.lemmas.List.{take_more}
use Rattle.pq_model.specs.declared.marks.Act.{Act}
use Rattle.pq_model.specs.declared.marks.Reply.{Reply}
use Rattle.pq_model.specs.declared.passes.Call.{Call}
use Rattle.pq_checks.specs.Checks.{answered_from}
use Rattle.pq_checks.proofs.Makings.{answered_more, made_length}
use Rattle.pq_checks.proofs.answers.make_all.Goals as goal

pub loop-number-preserved : goal.loop-number-preserved
loop-number-preserved g c =
    let known = g.Q.SharedQueue.known in let before = known c.loop-number.pass in let now = known c.make-made.new.pass in
    let i = c.loop-number.number in let acts = c.args.acts.now in let replies = c.args.replies.now in
    let a = c.index-acts-number.result in let r = c.in-Some.reply.now in
    let so_far = c.loop-number.invariant in let answered = c.in_ok-is_answered.ensures in
    let there = c.in-Some.ensures.lookup in let within : i < length replies = there.3.0 in
    let many : length (take i acts) ≡ i = grind (arith, common_steps) in
    let others : length (take i replies) ≡ i = grind (arith, common_steps) in
    let next : take (i + 1) acts ≡ take i acts ++ a ∷ [] = take_more acts i a c.loop-number-test.true ∙ ap (λ (x : Act). take i acts ++ x ∷ []) (sym c.index-acts-number.is) in
    let reply : take (i + 1) replies ≡ take i replies ++ r ∷ [] = take_more replies i r within ∙ ap (λ (x : Reply). take i replies ++ x ∷ []) (sym there.1) in
    let more = answered_more before now (take i acts) (take i replies) a r i c.make-made.result c.make-made.ensures.made so_far.made many others answered.0 c.make-made.ensures.act answered.1 in
    let length_is = made_length before now (c.make-made.result ∷ []) c.make-made.ensures.made in let count = so_far.count in
    record {
      own = c.make-made.ensures.own;
      alone = record { number = c.make-made.ensures.made.number ∙ so_far.alone.number; joined = c.make-made.ensures.made.joined ∙ so_far.alone.joined };
      made = more ∙ (ap (λ (xs : List Act). answered_from 0 xs (take i replies ++ r ∷ [])) (sym next) ∙ ap (λ (xs : List Reply). answered_from 0 (take (i + 1) acts) xs) (sym reply));
      count = omega arith;
      within = omega arith;
    }
