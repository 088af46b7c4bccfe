use Rattle.std.proofs.Common.{arith, ℕ, ◌≡◌, ◌<◌, length, true, false, [], refl, sym, ◌∙◌, subst}
use Rattle.bb_shared.specs.Stores.{KnowsStore}
use Rattle.bb_pool.specs.Children.{AreBounds}
use Rattle.bb_pool.specs.Together.{doing}
use Rattle.bb_pool.specs.Turns.{AreFree}
use Rattle.bb_pool.proofs.Several.Expanded.{kept_length}
use Rattle.bb_pool.proofs.Several.Counting.{goes_further, goes_nowhere, can_go_on}
use Rattle.bb_pool.specs.Working.{kept_of}
use Rattle.bb_pool.specs.Origins.{HasOrigins, IsAmongOrigins}
use Rattle.bb_pool.proofs.Members.{Contains-here}
use Rattle.bb_pool.proofs.Several.Origins.{traced_left, traced_drew, origin_of, is_origin, all_left}
use Rattle.bb_pool.proofs.Several.Turns.{over_cause, waits_from, none_waits, free_drawn, goes_drew, after_ok, after_err, halt_more}
use Rattle.bb_pool.proofs.workers.turn.put_children.Goals as goal

pub returns-then-kept-eq0-clause-worked : goal.returns-then-kept-eq0-clause-worked
returns-then-kept-eq0-clause-worked g c = let m = g.P.Problem.meaning c.args.problem.now in let laws = g.met.P.Problem g.world.𝓛 g.world.𝓜 g.world.𝓡 ((λ s x. x), (λ x. x), (λ x. x), λ x. x) in let lawful = laws.lawful c.args.problem.now c.requires.valid in
    let bounds = subst (λ xs. AreBounds m xs c.bounds.new.keys.items) c.deref.ensures.value c.in-Ok.ensures.bounds in let held = c.requires.branch in (
      goes_nowhere c.args.shared.now.nodes _,
      none_waits (doing g.Q.SharedQueue.known c.args.worker.now) c.args.best c.args.children.items c.bounds.new.keys.items held.0 held.1 lawful c.requires.read held.2 held.3 c.requires.few.0 bounds (let kept = c.in-Ok.ensures.kept in let zero = c.if-kept-eq0.true in omega arith),
    )

pub put_kept-requires-clause-counted : goal.put_kept-requires-clause-counted
put_kept-requires-clause-counted g c κs among = let sh = c.args.shared.now in
    can_go_on sh.nodes _ _ (goes_drew sh.nodes (doing g.Q.SharedQueue.known c.args.worker.now) _ _ refl c.in-First.ensures.drawn.3 refl refl refl (subst (λ n. KnowsStore n c.draw.new.seat.kept) sh.limit.0 c.draw.ensures.knows)) c.requires.counted

pub put_kept-requires-clause-waits : goal.put_kept-requires-clause-waits
put_kept-requires-clause-waits g c κs among = let m = g.P.Problem.meaning c.args.problem.now in let laws = g.met.P.Problem g.world.𝓛 g.world.𝓜 g.world.𝓡 ((λ s x. x), (λ x. x), (λ x. x), λ x. x) in let lawful = laws.lawful c.args.problem.now c.requires.valid in
    let bounds = subst (λ xs. AreBounds m xs c.bounds.new.keys.items) c.deref.ensures.value c.in-Ok.ensures.bounds in let held = c.requires.branch in
    waits_from (doing g.Q.SharedQueue.known c.args.worker.now) _ c.args.best c.args.children.items c.bounds.new.keys.items held.0 held.1 c.in-First.first c.in-Ok.kept lawful c.requires.read held.2 held.3 c.requires.few.0 bounds refl c.in-First.ensures.drawn.3 refl refl c.in-First.ensures.drawn.1

pub put_kept-requires-clause-within : goal.put_kept-requires-clause-within
put_kept-requires-clause-within g c = let m = g.P.Problem.meaning c.args.problem.now in
    let bounds = subst (λ xs. AreBounds m xs c.bounds.new.keys.items) c.deref.ensures.value c.in-Ok.ensures.bounds in
    let same = kept_length m c.args.best c.args.children.items c.bounds.new.keys.items bounds in let kept = c.in-Ok.ensures.kept in let within = c.in-First.ensures.drawn.0 in omega arith

pub put_kept-requires-clause-free : goal.put_kept-requires-clause-free
put_kept-requires-clause-free g c κs among = let m = g.P.Problem.meaning c.args.problem.now in
    let bounds = subst (λ xs. AreBounds m xs c.bounds.new.keys.items) c.deref.ensures.value c.in-Ok.ensures.bounds in
    let same = kept_length m c.args.best c.args.children.items c.bounds.new.keys.items bounds in let kept = c.in-Ok.ensures.kept in
    subst (λ n. AreFree c.draw.new.seat.kept c.in-First.first n) (kept ∙ sym same) (free_drawn c.args.worker.now.seat.kept _ c.in-First.first c.in-Ok.kept c.in-First.ensures.drawn.3 c.in-First.ensures.drawn.2)

pub returns-in-First-clause-worked : goal.returns-in-First-clause-worked
returns-in-First-clause-worked g c = let sh = c.args.shared.now in
    let on = goes_drew sh.nodes (doing g.Q.SharedQueue.known c.args.worker.now) _ _ refl c.in-First.ensures.drawn.3 refl refl refl (subst (λ n. KnowsStore n c.draw.new.seat.kept) sh.limit.0 c.draw.ensures.knows) in
    after_ok (λ x r. (goes_further on r.0, r.1)) c.put_kept.result c.put_kept.ensures.worked

pub returns-in-First-clause-halt : goal.returns-in-First-clause-halt
returns-in-First-clause-halt g c = let sh = c.args.shared.now in
    let on = goes_drew sh.nodes (doing g.Q.SharedQueue.known c.args.worker.now) _ _ refl c.in-First.ensures.drawn.3 refl refl refl (subst (λ n. KnowsStore n c.draw.new.seat.kept) sh.limit.0 c.draw.ensures.knows) in
    after_err (λ stop h. halt_more stop on h) c.put_kept.result c.put_kept.ensures.halt

pub returns-in_default-clause-traced : goal.returns-in_default-clause-traced
returns-in_default-clause-traced g c = λ root parent expanded t. traced_left t

pub returns-then-kept-eq0-clause-traced : goal.returns-then-kept-eq0-clause-traced
returns-then-kept-eq0-clause-traced g c = λ root parent expanded t. traced_left t

pub returns-in-First-clause-traced : goal.returns-in-First-clause-traced
returns-in-First-clause-traced g c = let m = g.P.Problem.meaning c.args.problem.now in let laws = g.met.P.Problem g.world.𝓛 g.world.𝓜 g.world.𝓡 ((λ s x. x), (λ x. x), (λ x. x), λ x. x) in let lawful = laws.lawful c.args.problem.now c.requires.valid in
    let keys = c.bounds.new.keys.items in let children = c.args.children.items in let best = c.args.best in let first : ℕ = c.in-First.first in let count : ℕ = c.in-Ok.kept in
    let bounds = subst (λ xs. AreBounds m xs keys) c.deref.ensures.value c.in-Ok.ensures.bounds in
    let same = kept_length m best children keys bounds in let kept = c.in-Ok.ensures.kept in
    let many : length (kept_of best children keys) ≡ count = omega arith in
    λ root parent expanded t. let low : parent.number < first = (let below = c.requires.branch.2.below parent (t.still parent (Contains-here parent [])) in let front = c.in-First.ensures.drawn.1 in omega arith) in
    let o = origin_of m best keys first count true parent in
    c.put_kept.ensures.traced root o
    (subst (λ s. IsAmongOrigins m root o s) (sym c.in-First.ensures.drawn.3) (traced_drew o (is_origin m best children keys first count parent lawful low many expanded true) t))
    (all_left m best children keys first count parent lawful low many expanded)

pub returns-in-Over-clause-traced : goal.returns-in-Over-clause-traced
returns-in-Over-clause-traced g c = let m = g.P.Problem.meaning c.args.problem.now in let laws = g.met.P.Problem g.world.𝓛 g.world.𝓜 g.world.𝓡 ((λ s x. x), (λ x. x), (λ x. x), λ x. x) in let lawful = laws.lawful c.args.problem.now c.requires.valid in
    let keys = c.bounds.new.keys.items in let children = c.args.children.items in let best = c.args.best in let drawn = c.in-Over.ensures.drawn in let first : ℕ = drawn.1 in let count : ℕ = c.in-Ok.kept in
    let bounds = subst (λ xs. AreBounds m xs keys) c.deref.ensures.value c.in-Ok.ensures.bounds in
    let same = kept_length m best children keys bounds in let kept = c.in-Ok.ensures.kept in
    let many : length (kept_of best children keys) ≡ count = omega arith in
    λ root parent expanded t. let low : parent.number < first = (let below = c.requires.branch.2.below parent (t.still parent (Contains-here parent [])) in let front = drawn.3 in omega arith) in
    let o = origin_of m best keys first count false parent in
    subst (λ s. HasOrigins m root [] s) (sym drawn.5) (traced_drew o (is_origin m best children keys first count parent lawful low many expanded false) t).traced

pub returns-in-Over-clause-halt : goal.returns-in-Over-clause-halt
returns-in-Over-clause-halt g c = let sh = c.args.shared.now in let v = doing g.Q.SharedQueue.known c.args.worker.now in let drawn = c.in-Over.ensures.drawn in (
  goes_drew sh.nodes v _ _ refl drawn.5 refl refl refl (subst (λ n. KnowsStore n c.draw.new.seat.kept) sh.limit.0 c.draw.ensures.knows),
  over_cause sh.nodes (g.Q.SharedQueue.known c.args.worker.now.pass) c.args.worker.now.seat.kept c.draw.new.seat.kept drawn.1 c.in-Ok.kept _ drawn.5 (let some = c.if-kept-eq0.false in omega arith) drawn.0 drawn.2,
  drawn.4,
)
