-- The step is a mark more of the pass's own calls.
use Rattle.std.proofs.Common.{refl, length}
use Rattle.pq_api.proofs.Keeps.{kept_call, kept_knows, left_call}
use Rattle.pq_api.proofs.plain.steps.draw.Goals as goal

pub returns-clause-kept : goal.returns-clause-kept
returns-clause-kept c = let before = c.args.seat.now.me.0 in let drawn = c.draw_made.ensures.call in
    kept_call c.args.capacity before c.draw_made.new.seat.me.0 (length before.calls) c.args.act c.args.reply c.requires.kept c.requires.step c.requires.few refl drawn.0

pub returns-clause-knows : goal.returns-clause-knows
returns-clause-knows c = kept_knows (returns-clause-kept c)

pub returns-clause-left : goal.returns-clause-left
returns-clause-left c = let before = c.args.seat.now.me.0 in
    left_call before c.draw_made.new.seat.me.0 (length before.calls) c.args.act c.args.reply c.draw_made.ensures.call.0
