use Rattle.std.proofs.Common.{◌<◌, ◌≤◌, ◌/◌, ◌%◌, ◌^◌, ◌-◌, ltb, length, take, get_or, sym, ap, ◌∙◌, arith}
use Rattle.bb_knap.specs.Decisions.{words_of}
use Rattle.bb_knap.proofs.FullWords.{length-in_use, in_use-le, get_or-in_use}
use Rattle.bb_knap.proofs.Bits.{length-bits, bit-full, bit-last}
use Rattle.bb_knap.proofs.node.KnapNode.takes.Goals as goal

pub word-requires-clause-inside : goal.word-requires-clause-inside
word-requires-clause-inside c =
    let d = c.self.inside in
    omega (arith, in_use-le (d.count / 64) d.full (c.self.invariant.0.full), c.if-place-count.true)

pub returns-then-place-count : goal.returns-then-place-count
returns-then-place-count c =
    let d = c.self.inside in
    let words = take (d.count / 64) (words_of d.full) in
    let count = length-in_use (d.count / 64) d.full (c.self.invariant.0.full) in
    let inside : c.args.place / 64 < length words = omega (arith, c.if-place-count.true, count) in
    c.is_set.ensures
    ∙ ap (λ w. ltb 0 (w / 2 ^ (63 - c.args.place % 64) % 2)) (c.word.ensures ∙ get_or-in_use (d.count / 64) d.full (c.args.place / 64) (omega (arith, c.if-place-count.true)))
    ∙ ap (λ n. ltb 0 n) (sym (bit-full words d.count d.last c.args.place inside))
    ∙ ap (λ m. ltb 0 (get_or m.decisions c.args.place 0)) c.self.view_is

pub overflow_sub-count : goal.overflow_sub-count
overflow_sub-count c =
    let d = c.self.inside in
    let words = take (d.count / 64) (words_of d.full) in
    let count = length-in_use (d.count / 64) d.full (c.self.invariant.0.full) in
    omega (arith, c.requires, ap (λ m. length m.decisions) c.self.view_is, length-bits words d.count d.last count, c.if-place-count.false)

pub overflow_sub-count-2 : goal.overflow_sub-count-2
overflow_sub-count-2 c =
    let d = c.self.inside in
    let words = take (d.count / 64) (words_of d.full) in
    let count = length-in_use (d.count / 64) d.full (c.self.invariant.0.full) in
    omega (arith, c.requires, ap (λ m. length m.decisions) c.self.view_is, length-bits words d.count d.last count, c.if-place-count.false)

pub returns : goal.returns
returns c =
    let d = c.self.inside in
    let words = take (d.count / 64) (words_of d.full) in
    let count = length-in_use (d.count / 64) d.full (c.self.invariant.0.full) in
    let past : length words ≤ c.args.place / 64 = omega (arith, c.if-place-count.false, count) in
    let inside : c.args.place < d.count = omega (arith, c.requires, ap (λ m. length m.decisions) c.self.view_is, length-bits words d.count d.last count) in
    c.is_set-2.ensures
    ∙ ap (λ n. ltb 0 n) (sym (bit-last words d.count d.last c.args.place count past inside))
    ∙ ap (λ m. ltb 0 (get_or m.decisions c.args.place 0)) c.self.view_is
