use Rattle.std.proofs.Common.{rules, arith, ◌≡◌, ◌+◌, ◌<◌, [], ◌∷◌, ℕ, length, drop, refl, sym, ap, ◌∙◌, subst}
use Rattle.std.proofs.lemmas.List.{nil_from_length, reverse-append, reverse-reverse}
use Rattle.std.specs.Prelude.{All, reverse}
use Rattle.std.proofs.lemmas.List.Elements.{All-get_or}
use Rattle.pq_words.specs.Limits.{key_limit}
use Rattle.bb_pool.specs.Underway.{state_of}
use Rattle.bb_pool.specs.Children.{AreBounds}
use Rattle.bb_pool.proofs.OnePass.Putting.{IsPutting, all_put, too_many, putting_begun, putting_more, putting_less, putting_stops, first_key, some_key}
use Rattle.bb_pool.proofs.plain.branch.Goals as goal

pub returns-then-asked-from-clause-stops : goal.returns-then-asked-from-clause-stops
returns-then-asked-from-clause-stops g c = let m = g.P.Problem.meaning c.args.problem.now in let before = state_of g.C.OnePass.seat c.args.search.now in
    let bounds = subst (λ xs. AreBounds m xs c.bounds.new.keys.items) c.deref.ensures.value c.in_ok-kept.ensures.bounds in
    let few = too_many m c.args.nodes before.queue.capacity before c.args.children.now.items c.bounds.new.keys.items c.best_cost-best.result c.requires.underway c.best_cost-best.ensures bounds in
    let kept = c.in_ok-kept.ensures.kept in let len = c.len.ensures in
    record { limit_is = refl; over = search rules; within = omega arith }

pub loop-node-init : goal.loop-node-init
loop-node-init g c = let m = g.P.Problem.meaning c.args.problem.now in let before = state_of g.C.OnePass.seat c.args.search.now in
    let bounds = subst (λ xs. AreBounds m xs c.bounds.new.keys.items) c.deref.ensures.value c.in_ok-kept.ensures.bounds in
    let kept = c.in_ok-kept.ensures.kept in let len = c.len.ensures in let asked = c.if-asked-from.false in let limit = c.from.ensures in
    let all : reverse c.reverse.new.self.items ≡ c.args.children.now.items = ap reverse c.reverse.ensures.items ∙ reverse-reverse c.args.children.now.items in
    record {
      putting = subst (λ xs. IsPutting m c.args.nodes before.queue.capacity (length before.queue.known.calls) c.best_cost-best.result before xs c.bounds.new.keys.items) (sym all)
          (putting_begun m c.args.nodes before.queue.capacity before c.args.children.now.items c.bounds.new.keys.items c.best_cost-best.result c.requires.underway c.best_cost-best.ensures bounds (omega arith));
      small = c.in_ok-kept.ensures.small;
    }

pub loop-node-preserved-then-not-is_below : goal.loop-node-preserved-then-not-is_below
loop-node-preserved-then-not-is_below g c = let m = g.P.Problem.meaning c.args.problem.now in let before = state_of g.C.OnePass.seat c.args.search.now in
    let now = state_of g.C.OnePass.seat c.loop-node.search in let keys = c.loop-node.search.keys.items in let place = c.loop-node.place in
    let steps = ap reverse c.in-Some.ensures.items ∙ reverse-append c.pop.new.self.items (c.in-Some.node ∷ []) in
    let lt : place < length keys = some_key (reverse c.loop-node.children.items) keys place c.loop-node.invariant.putting (let long = ap length steps in omega arith) in
    let first : drop place keys ≡ c.index-key.result.now ∷ drop (place + 1) keys = first_key keys place c.index-key.result.now lt ∙ ap (λ (k : ℕ). k ∷ drop (place + 1) keys) (sym c.index-key.ensures) in
    record {
      putting = putting_less c.in-Some.node c.index-key.result.now (reverse c.pop.new.self.items) (drop (place + 1) keys)
          (subst (λ ks. IsPutting m c.args.nodes before.queue.capacity (length before.queue.known.calls) c.best_cost-best.result now (c.in-Some.node ∷ reverse c.pop.new.self.items) ks) first
          (subst (λ xs. IsPutting m c.args.nodes before.queue.capacity (length before.queue.known.calls) c.best_cost-best.result now xs (drop place keys)) steps c.loop-node.invariant.putting))
          (sym c.if-not-is_below.ensures);
      small = c.loop-node.invariant.small;
    }

pub put-requires-clause-key : goal.put-requires-clause-key
put-requires-clause-key g c =
    let now = state_of g.C.OnePass.seat c.loop-node.search in let keys = c.loop-node.search.keys.items in let place = c.loop-node.place in
    let steps = ap reverse c.in-Some.ensures.items ∙ reverse-append c.pop.new.self.items (c.in-Some.node ∷ []) in
    let lt : place < length keys = some_key (reverse c.loop-node.children.items) keys place c.loop-node.invariant.putting (let long = ap length steps in omega arith) in
    subst (λ (k : ℕ). k < key_limit) (sym c.index-key.ensures) (All-get_or (λ (k : ℕ). k < key_limit) keys place c.index-key.result.now lt c.loop-node.invariant.small)

pub loop-node-preserved : goal.loop-node-preserved
loop-node-preserved g c = let m = g.P.Problem.meaning c.args.problem.now in let before = state_of g.C.OnePass.seat c.args.search.now in
    let now = state_of g.C.OnePass.seat c.loop-node.search in let keys = c.loop-node.search.keys.items in let place = c.loop-node.place in
    let steps = ap reverse c.in-Some.ensures.items ∙ reverse-append c.pop.new.self.items (c.in-Some.node ∷ []) in let p = c.in_ok-put.ensures.put in
    let lt : place < length keys = some_key (reverse c.loop-node.children.items) keys place c.loop-node.invariant.putting (let long = ap length steps in omega arith) in
    let first : drop place keys ≡ c.index-key.result.now ∷ drop (place + 1) keys = first_key keys place c.index-key.result.now lt ∙ ap (λ (k : ℕ). k ∷ drop (place + 1) keys) (sym c.index-key.ensures) in
    let same : c.put.new.self.keys.items ≡ keys = ap (λ v. v.items) c.put.ensures.keys in
    record {
      putting = subst (λ ks. IsPutting m c.args.nodes before.queue.capacity (length before.queue.known.calls) c.best_cost-best.result (state_of g.C.OnePass.seat c.put.new.self) (reverse c.pop.new.self.items) (drop (place + 1) ks)) (sym same)
          (putting_more c.in-Some.node c.index-key.result.now (reverse c.pop.new.self.items) (drop (place + 1) keys)
          (subst (λ ks. IsPutting m c.args.nodes before.queue.capacity (length before.queue.known.calls) c.best_cost-best.result now (c.in-Some.node ∷ reverse c.pop.new.self.items) ks) first
          (subst (λ xs. IsPutting m c.args.nodes before.queue.capacity (length before.queue.known.calls) c.best_cost-best.result now xs (drop place keys)) steps c.loop-node.invariant.putting))
          (sym c.if-not-is_below.ensures) p);
      small = subst (All (λ (k : ℕ). k < key_limit)) (sym same) c.loop-node.invariant.small;
    }

pub returns-in_err-put-clause-stops : goal.returns-in_err-put-clause-stops
returns-in_err-put-clause-stops g c = let m = g.P.Problem.meaning c.args.problem.now in let before = state_of g.C.OnePass.seat c.args.search.now in
    let now = state_of g.C.OnePass.seat c.loop-node.search in let keys = c.loop-node.search.keys.items in let place = c.loop-node.place in
    let steps = ap reverse c.in-Some.ensures.items ∙ reverse-append c.pop.new.self.items (c.in-Some.node ∷ []) in
    let lt : place < length keys = some_key (reverse c.loop-node.children.items) keys place c.loop-node.invariant.putting (let long = ap length steps in omega arith) in
    let first : drop place keys ≡ c.index-key.result.now ∷ drop (place + 1) keys = first_key keys place c.index-key.result.now lt ∙ ap (λ (k : ℕ). k ∷ drop (place + 1) keys) (sym c.index-key.ensures) in
    let why = putting_stops m c.args.nodes before.queue.capacity (length before.queue.known.calls) c.best_cost-best.result now c.in-Some.node c.index-key.result.now (reverse c.pop.new.self.items) (drop (place + 1) keys) c.in_err-put.field-0.0
    (subst (λ ks. IsPutting m c.args.nodes before.queue.capacity (length before.queue.known.calls) c.best_cost-best.result now (c.in-Some.node ∷ reverse c.pop.new.self.items) ks) first
    (subst (λ xs. IsPutting m c.args.nodes before.queue.capacity (length before.queue.known.calls) c.best_cost-best.result now xs (drop place keys)) steps c.loop-node.invariant.putting))
    (sym c.if-not-is_below.ensures) c.in_err-put.ensures.refused in search (rules, why)

pub returns-clause-underway : goal.returns-clause-underway
returns-clause-underway g c = all_put (ap reverse (nil_from_length c.loop-node.children.items (let empty = c.in_default.ensures.cases.0 in omega arith))) c.loop-node.invariant.putting
