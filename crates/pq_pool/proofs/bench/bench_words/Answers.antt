use Rattle.std.proofs.Common.{◌≡◌, ℕ, List, [], ◌∷◌, arith, refl, sym, ap, ◌∙◌, subst, length, get_or, length-append}
use Rattle.pq_seats.specs.Seats.{limits_for}
use Rattle.pq_seats.proofs.Lists.{zero_more}
use Rattle.pq_pool.proofs.BenchAllows.{bench_begins}
use Rattle.pq_pool.proofs.bench.bench_words.Goals as goal

pub loop-preserved : goal.loop-preserved
loop-preserved c = let v = c.loop.invariant in let e = c.in_ok-push.ensures.items in
    (ap (λ (l : List ℕ). length l) e ∙ (let a = length-append c.loop.words.items (0 ∷ []) in let b = v.0 in omega arith), subst (λ (l : List ℕ). (i : ℕ) → get_or l i 0 ≡ 0) (sym e) (zero_more c.loop.words.items v.1))

pub returns-clause-begins : goal.returns-clause-begins
returns-clause-begins c = let v = c.loop.invariant in let n = v.0 in let at_end = c.loop-test.false in let most = c.loop.auto.counter-end in
    λ capacity. bench_begins (limits_for capacity c.args.seats c.loop.words.items) c.loop.words.items c.args.chunks c.requires.seats c.requires.chunks.1 (omega arith) refl v.1
