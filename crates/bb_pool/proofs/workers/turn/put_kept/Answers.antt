use Rattle.std.proofs.Common.{rules, arith, ◌≡◌, ◌+◌, ◌<◌, [], ◌∷◌, ℕ, length, drop, refl, sym, ap, ◌∙◌, subst}
use Rattle.std.specs.Prelude.{All}
use Rattle.std.proofs.lemmas.List.Elements.{All-get_or}
use Rattle.pq_words.specs.Limits.{key_limit}
use Rattle.bb_shared.specs.Stores.{numbered}
use Rattle.bb_pool.specs.Origins.{HasOrigins, IsAmongOrigins, AreLeftOf}
use Rattle.bb_pool.specs.Together.{doing}
use Rattle.bb_pool.proofs.OnePass.Putting.{first_key}
use Rattle.bb_pool.proofs.Several.Origins.{left_less, left_child, left_more, origin_put}
use Rattle.bb_pool.proofs.Several.Counting.{goes_nowhere, can_go_on}
use Rattle.bb_pool.proofs.Several.Turns.{IsPutting, key_left, putting_less, putting_more, number_within, number_free, putting_over, halt_more}
use Rattle.bb_pool.proofs.workers.turn.put_kept.Goals as goal

pub loop-node-init : goal.loop-node-init
loop-node-init g c = let m = g.P.Problem.meaning c.args.problem.now in let v = doing g.Q.SharedQueue.known c.args.worker.now in record {
  own = c.requires.own;
  knows = c.requires.knows;
  putting = subst (λ xs. IsPutting m c.args.shared.now.nodes c.args.best v v xs c.args.worker.now.keys.items c.args.first) (sym c.into_iter-node-iterator.ensures.into_iter_gives.0)
      (record { on = goes_nowhere c.args.shared.now.nodes v; bounds = c.requires.bounds; waits = c.requires.waits; within = c.requires.within; free = c.requires.free });
  small = c.requires.small;
  traced = λ root o has left. (has, subst (λ xs. AreLeftOf m c.args.best o c.args.first xs c.args.worker.now.keys.items) (sym c.into_iter-node-iterator.ensures.into_iter_gives.0) left);
}

pub index-key-requires : goal.index-key-requires
index-key-requires g c = let left = ap length c.in-Some.ensures.steps.0 in
    let lt = key_left c.loop-node.node-iterator.rest.items c.loop-node.worker.keys.items c.loop-node.place c.loop-node.invariant.putting (omega arith) in search (rules, lt)

pub loop-node-preserved-then-not-is_below : goal.loop-node-preserved-then-not-is_below
loop-node-preserved-then-not-is_below g c =
    let keys = c.loop-node.worker.keys.items in let place = c.loop-node.place in
    let steps = c.in-Some.ensures.steps.0 in let m = g.P.Problem.meaning c.args.problem.now in
    let v = doing g.Q.SharedQueue.known c.args.worker.now in let w = doing g.Q.SharedQueue.known c.loop-node.worker in
    let lt : place < length keys = key_left c.loop-node.node-iterator.rest.items keys place c.loop-node.invariant.putting (let long = ap length steps in omega arith) in
    let first : drop place keys ≡ c.index-key.result.now ∷ drop (place + 1) keys = first_key keys place c.index-key.result.now lt ∙ ap (λ (k : ℕ). k ∷ drop (place + 1) keys) (sym c.index-key.ensures) in
    let p = subst (λ xs. IsPutting m c.args.shared.now.nodes c.args.best v w xs (drop place keys) c.loop-node.number) steps c.loop-node.invariant.putting in
    let q = subst (λ ks. IsPutting m c.args.shared.now.nodes c.args.best v w (c.in-Some.node ∷ c.next.new.self.rest.items) ks c.loop-node.number) first p in
    record {
      own = c.loop-node.invariant.own;
      knows = c.loop-node.invariant.knows;
      putting = putting_less (sym c.if-not-is_below.ensures) q;
      small = c.loop-node.invariant.small;
      traced = λ root o has left. let h = c.loop-node.invariant.traced root o has left in
          let a = subst (λ xs. AreLeftOf m c.args.best o c.loop-node.number xs (drop place keys)) steps h.1 in
          let b = subst (λ ks. AreLeftOf m c.args.best o c.loop-node.number (c.in-Some.node ∷ c.next.new.self.rest.items) ks) first a in
          (h.0, left_less (sym c.if-not-is_below.ensures) b);
    }

pub put_child-requires-clause-counted : goal.put_child-requires-clause-counted
put_child-requires-clause-counted g c κs among = can_go_on c.args.shared.now.nodes _ _ c.loop-node.invariant.putting.on c.requires.counted

pub put_child-requires-clause-within : goal.put_child-requires-clause-within
put_child-requires-clause-within g c κs among =
    let keys = c.loop-node.worker.keys.items in let place = c.loop-node.place in
    let steps = c.in-Some.ensures.steps.0 in let m = g.P.Problem.meaning c.args.problem.now in
    let v = doing g.Q.SharedQueue.known c.args.worker.now in let w = doing g.Q.SharedQueue.known c.loop-node.worker in
    let lt : place < length keys = key_left c.loop-node.node-iterator.rest.items keys place c.loop-node.invariant.putting (let long = ap length steps in omega arith) in
    let first : drop place keys ≡ c.index-key.result.now ∷ drop (place + 1) keys = first_key keys place c.index-key.result.now lt ∙ ap (λ (k : ℕ). k ∷ drop (place + 1) keys) (sym c.index-key.ensures) in
    let p = subst (λ xs. IsPutting m c.args.shared.now.nodes c.args.best v w xs (drop place keys) c.loop-node.number) steps c.loop-node.invariant.putting in
    let q = subst (λ ks. IsPutting m c.args.shared.now.nodes c.args.best v w (c.in-Some.node ∷ c.next.new.self.rest.items) ks c.loop-node.number) first p in
    number_within (sym c.if-not-is_below.ensures) q

pub put_child-requires-clause-free : goal.put_child-requires-clause-free
put_child-requires-clause-free g c κs among =
    let keys = c.loop-node.worker.keys.items in let place = c.loop-node.place in
    let steps = c.in-Some.ensures.steps.0 in let m = g.P.Problem.meaning c.args.problem.now in
    let v = doing g.Q.SharedQueue.known c.args.worker.now in let w = doing g.Q.SharedQueue.known c.loop-node.worker in
    let lt : place < length keys = key_left c.loop-node.node-iterator.rest.items keys place c.loop-node.invariant.putting (let long = ap length steps in omega arith) in
    let first : drop place keys ≡ c.index-key.result.now ∷ drop (place + 1) keys = first_key keys place c.index-key.result.now lt ∙ ap (λ (k : ℕ). k ∷ drop (place + 1) keys) (sym c.index-key.ensures) in
    let p = subst (λ xs. IsPutting m c.args.shared.now.nodes c.args.best v w xs (drop place keys) c.loop-node.number) steps c.loop-node.invariant.putting in
    let q = subst (λ ks. IsPutting m c.args.shared.now.nodes c.args.best v w (c.in-Some.node ∷ c.next.new.self.rest.items) ks c.loop-node.number) first p in
    number_free (sym c.if-not-is_below.ensures) q

pub invariant_of-put_child : goal.invariant_of-put_child
invariant_of-put_child g c =
    let keys = c.loop-node.worker.keys.items in let place = c.loop-node.place in
    let steps = c.in-Some.ensures.steps.0 in let m = g.P.Problem.meaning c.args.problem.now in
    let v = doing g.Q.SharedQueue.known c.args.worker.now in let w = doing g.Q.SharedQueue.known c.loop-node.worker in
    let lt : place < length keys = key_left c.loop-node.node-iterator.rest.items keys place c.loop-node.invariant.putting (let long = ap length steps in omega arith) in
    let first : drop place keys ≡ c.index-key.result.now ∷ drop (place + 1) keys = first_key keys place c.index-key.result.now lt ∙ ap (λ (k : ℕ). k ∷ drop (place + 1) keys) (sym c.index-key.ensures) in
    let fits = subst (λ (k : ℕ). k < key_limit) (sym c.index-key.ensures) (All-get_or (λ (k : ℕ). k < key_limit) keys place c.index-key.result.now lt c.loop-node.invariant.small) in
    record { key_fits = fits }

pub loop-node-preserved : goal.loop-node-preserved
loop-node-preserved g c =
    let keys = c.loop-node.worker.keys.items in let place = c.loop-node.place in
    let steps = c.in-Some.ensures.steps.0 in let m = g.P.Problem.meaning c.args.problem.now in
    let v = doing g.Q.SharedQueue.known c.args.worker.now in let w = doing g.Q.SharedQueue.known c.loop-node.worker in
    let lt : place < length keys = key_left c.loop-node.node-iterator.rest.items keys place c.loop-node.invariant.putting (let long = ap length steps in omega arith) in
    let first : drop place keys ≡ c.index-key.result.now ∷ drop (place + 1) keys = first_key keys place c.index-key.result.now lt ∙ ap (λ (k : ℕ). k ∷ drop (place + 1) keys) (sym c.index-key.ensures) in
    let p = subst (λ xs. IsPutting m c.args.shared.now.nodes c.args.best v w xs (drop place keys) c.loop-node.number) steps c.loop-node.invariant.putting in
    let q = subst (λ ks. IsPutting m c.args.shared.now.nodes c.args.best v w (c.in-Some.node ∷ c.next.new.self.rest.items) ks c.loop-node.number) first p in
    let done = c.in_ok-put_child.ensures.put in let same : c.put_child.new.worker.keys.items ≡ keys = ap (λ v. v.items) c.put_child.ensures.keys in
    record {
      own = c.put_child.ensures.own;
      knows = c.put_child.ensures.knows;
      putting = subst (λ ks. IsPutting m c.args.shared.now.nodes c.args.best v (doing g.Q.SharedQueue.known c.put_child.new.worker) c.next.new.self.rest.items (drop (place + 1) ks) (c.loop-node.number + 1)) (sym same)
          (putting_more _ refl refl (sym c.if-not-is_below.ensures) q done.0 done.1);
      small = subst (All (λ (k : ℕ). k < key_limit)) (sym same) c.loop-node.invariant.small;
      traced = λ root o has left. let h = c.loop-node.invariant.traced root o has left in
          let a = subst (λ xs. AreLeftOf m c.args.best o c.loop-node.number xs (drop place keys)) steps h.1 in
          let b = subst (λ ks. AreLeftOf m c.args.best o c.loop-node.number (c.in-Some.node ∷ c.next.new.self.rest.items) ks) first a in (
            subst (λ s. IsAmongOrigins m root o s) (sym c.put_child.ensures.seat) (origin_put (numbered c.loop-node.number c.in-Some.node) (left_child (sym c.if-not-is_below.ensures) b) h.0),
            subst (λ ks. AreLeftOf m c.args.best o (c.loop-node.number + 1) c.next.new.self.rest.items (drop (place + 1) ks)) (sym same) (left_more (sym c.if-not-is_below.ensures) b),
          );
    }

pub returns-in_err-put_child-clause-traced : goal.returns-in_err-put_child-clause-traced
returns-in_err-put_child-clause-traced g c = let m = g.P.Problem.meaning c.args.problem.now in
    let keys = c.loop-node.worker.keys.items in let place = c.loop-node.place in let steps = c.in-Some.ensures.steps.0 in
    let lt : place < length keys = key_left c.loop-node.node-iterator.rest.items keys place c.loop-node.invariant.putting (let long = ap length steps in omega arith) in
    let first : drop place keys ≡ c.index-key.result.now ∷ drop (place + 1) keys = first_key keys place c.index-key.result.now lt ∙ ap (λ (k : ℕ). k ∷ drop (place + 1) keys) (sym c.index-key.ensures) in
    λ root o has left. let h = c.loop-node.invariant.traced root o has left in
    let a = subst (λ xs. AreLeftOf m c.args.best o c.loop-node.number xs (drop place keys)) steps h.1 in
    let b = subst (λ ks. AreLeftOf m c.args.best o c.loop-node.number (c.in-Some.node ∷ c.next.new.self.rest.items) ks) first a in
    subst (λ s. HasOrigins m root [] s) (sym c.put_child.ensures.seat) (origin_put (numbered c.loop-node.number c.in-Some.node) (left_child (sym c.if-not-is_below.ensures) b) h.0).traced

pub returns-clause-traced : goal.returns-clause-traced
returns-clause-traced g c = λ root o has left. (c.loop-node.invariant.traced root o has left).0.traced

pub returns-in_err-put_child-clause-halt : goal.returns-in_err-put_child-clause-halt
returns-in_err-put_child-clause-halt g c = let why = halt_more _ c.loop-node.invariant.putting.on c.in_err-put_child.ensures.halt in search (rules, why)

pub returns-clause-worked : goal.returns-clause-worked
returns-clause-worked g c = (c.loop-node.invariant.putting.on, putting_over (let zero = c.in-None.ensures.steps.0 in let ok = c.loop-node.node-iterator.rest.ok in omega arith) c.loop-node.invariant.putting)
