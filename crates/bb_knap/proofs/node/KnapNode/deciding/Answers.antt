use Rattle.std.proofs.Common.{◌≡◌, ℕ, ◌+◌, ◌*◌, ◌/◌, ◌%◌, ◌<◌, ◌≤◌, List, [], ◌∷◌, ◌++◌, cond, length, take, subst, sym, ap, ◌∙◌, arith}
use Rattle.inst_text.specs.Limits.{max_items}
use Rattle.bb_knap.specs.Branching.{Node}
use Rattle.bb_knap.specs.Decisions.{word_bits, all_bits, words_of, IsFullWords, decisions_in}
use Rattle.bb_knap.proofs.FullWords.{length-in_use}
use Rattle.bb_knap.proofs.Bits.{length-bits, bool_byte-cond, bool_byte-lt, last-pushed, none-last, bits-pushed, bits-full}
use Rattle.bb_knap.proofs.node.KnapNode.deciding.Goals as goal

same_words : (count : ℕ) → count % 64 < 63 → count / 64 ≡ (count + 1) / 64
same_words count inner = omega (arith, inner)

next_words : (count : ℕ) → 63 ≤ count % 64 → count / 64 + 1 ≡ (count + 1) / 64
next_words count full = omega (arith, full)

-- a node with these decisions
node_of : Node → List ℕ → Node
node_of n ds = record { decisions = ds; room = n.room; value = n.value }

pub invariant_of-result : goal.invariant_of-result
invariant_of-result c =
    let n = c.self.inside in
    let inner : n.count % 64 < 63 = c.if-count-lt63.true in
    let bit : c.from.result < 2 = rw c.from.ensures (bool_byte-lt c.args.taken) in
    let few : n.count + 1 ≤ max_items =
    omega (arith, c.requires, ap (λ m. length m.decisions) c.self.view_is, length-bits (take (n.count / 64) (words_of n.full)) n.count n.last (length-in_use (n.count / 64) n.full (c.self.invariant.0.full))) in
    let P : ℕ → Type 0 = λ k. IsFullWords k n.full in (
      record {
        full = subst P (same_words n.count inner) (c.self.invariant.0.full);
        last = last-pushed n.count n.last c.from.result (c.self.invariant.0.last) inner bit;
        few = few;
      },
      c.self.invariant.1,
    )

pub returns-then-count-lt63 : goal.returns-then-count-lt63
unfolding node_of
returns-then-count-lt63 c =
    let n = c.self.inside in
    let inner : n.count % 64 < 63 = c.if-count-lt63.true in
    let bit : c.from.result < 2 = rw c.from.ensures (bool_byte-lt c.args.taken) in
    let is : c.from.result ≡ cond c.args.taken 1 0 = c.from.ensures ∙ bool_byte-cond c.args.taken in
    let more : decisions_in n.full (n.last * 2 + c.from.result) (n.count + 1) ≡ decisions_in n.full n.last n.count ++ cond c.args.taken 1 0 ∷ [] =
    ap (λ k. all_bits (take k (words_of n.full)) ++ word_bits ((n.count + 1) % 64) (n.last * 2 + c.from.result)) (sym (same_words n.count inner))
    ∙ bits-pushed (take (n.count / 64) (words_of n.full)) n.count n.last c.from.result bit inner
    ∙ ap (λ b. decisions_in n.full n.last n.count ++ b ∷ []) is in
    let old : Node = record { decisions = decisions_in n.full n.last n.count; room = n.room; value = n.value } in
    ap (node_of old) more ∙ ap (λ m. node_of m (m.decisions ++ cond c.args.taken 1 0 ∷ [])) c.self.view_is

pub with-requires-clause-full : goal.with-requires-clause-full
with-requires-clause-full c = c.self.invariant.0.full

pub with-requires-clause-room : goal.with-requires-clause-room
with-requires-clause-room c =
    let n = c.self.inside in
    omega (arith, c.requires, ap (λ m. length m.decisions) c.self.view_is, length-bits (take (n.count / 64) (words_of n.full)) n.count n.last (length-in_use (n.count / 64) n.full (c.self.invariant.0.full)))

pub invariant_of-result-2 : goal.invariant_of-result-2
invariant_of-result-2 c =
    let n = c.self.inside in
    let full : 63 ≤ n.count % 64 = c.if-count-lt63.false in
    let few : n.count + 1 ≤ max_items =
    omega (arith, c.requires, ap (λ m. length m.decisions) c.self.view_is, length-bits (take (n.count / 64) (words_of n.full)) n.count n.last (length-in_use (n.count / 64) n.full (c.self.invariant.0.full))) in
    let P : ℕ → Type 0 = λ k. IsFullWords k c.in_ok-with.field-0 in (
      record { full = subst P (next_words n.count full) c.in_ok-with.ensures.full; last = none-last n.count; few = few },
      c.self.invariant.1,
    )

pub returns : goal.returns
unfolding node_of
returns c =
    let n = c.self.inside in
    let full : 63 ≤ n.count % 64 = c.if-count-lt63.false in
    let bit : c.from.result < 2 = rw c.from.ensures (bool_byte-lt c.args.taken) in
    let is : c.from.result ≡ cond c.args.taken 1 0 = c.from.ensures ∙ bool_byte-cond c.args.taken in
    let more : decisions_in c.in_ok-with.field-0 0 (n.count + 1) ≡ decisions_in n.full n.last n.count ++ cond c.args.taken 1 0 ∷ [] =
    ap (λ k. all_bits (take k (words_of c.in_ok-with.field-0)) ++ word_bits ((n.count + 1) % 64) 0) (sym (next_words n.count full))
    ∙ bits-full (take (n.count / 64) (words_of n.full)) (take (n.count / 64 + 1) (words_of c.in_ok-with.field-0)) n.count n.last c.from.result c.in_ok-with.ensures.more bit full
    ∙ ap (λ b. decisions_in n.full n.last n.count ++ b ∷ []) is in
    let old : Node = record { decisions = decisions_in n.full n.last n.count; room = n.room; value = n.value } in
    ap (node_of old) more ∙ ap (λ m. node_of m (m.decisions ++ cond c.args.taken 1 0 ∷ [])) c.self.view_is
