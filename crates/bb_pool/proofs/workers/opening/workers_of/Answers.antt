use Rattle.std.proofs.Common.{ℕ, ◌≡◌, ◌+◌, ◌∙◌, [], ◌∷◌, None, length, length-append, refl, sym, ap, subst, arith}
use Rattle.std.specs.Prelude.{replicate}
use Rattle.pq_model.specs.Passes.{fresh}
use Rattle.pq_api.specs.Answers.{EachAt}
use Rattle.bb_shared.specs.Stores.{new_store_seat}
use Rattle.bb_shared.specs.Controls.{new_control_seat}
use Rattle.bb_pool.specs.declared.workers.shared.Worker.{Worker}
use Rattle.bb_pool.specs.Together.{doing, IsOneOf, IsNew}
use Rattle.bb_pool.proofs.Several.Each.{EachFrom, each_snoc, first_of, others_of, next_of}
use Rattle.bb_pool.proofs.Several.Runs.{made_new}
use Rattle.bb_pool.proofs.workers.opening.workers_of.Goals as goal

pub loop-pass-preserved : goal.loop-pass-preserved
loop-pass-preserved g c = let Q = g.Q.SharedQueue in let sh = c.args.shared.now in let total : ℕ = length c.args.passes.items in
    let workers = c.loop-pass.workers.items in let n : ℕ = length workers in let inv = c.loop-pass.invariant in
    let steps = c.in-Some.ensures.steps.0 in let left = c.next.new.self.rest.items in let fewer = ap length steps in
    let P : ℕ → g.row.Q-Pass.Denot → Type 0 = λ k p. Q.belongs sh.queue p × (Q.known p ≡ fresh (k + 1)) in
    let W : ℕ → Worker g.row.Q-Pass.Denot g.row.N.Denot g.row.L.Denot → Type 0 = λ k w. IsOneOf Q.belongs sh w × IsNew total (k + 1) (doing Q.known w) in
    let rest = subst (EachFrom n P) steps inv.rest in let one = first_of n P c.in-Some.pass left rest in
    let seat = next_of (length left) (new_store_seat sh.store total) c.in-Some-next.seat (inv.seats ∙ ap (λ k. replicate k (new_store_seat sh.store total)) fewer) c.in-Some-next.ensures.items in
    let control = next_of (length left) (new_control_seat sh.control total) c.in-Some-next-2.control (inv.controls ∙ ap (λ k. replicate k (new_control_seat sh.control total)) fewer) c.in-Some-next-2.ensures.items in
    let push = c.in_ok-push.ensures.items in
    let made : Worker g.row.Q-Pass.Denot g.row.N.Denot g.row.L.Denot = record { pass = c.in-Some.pass; seat = c.in-Some-next.seat; control = c.in-Some-next-2.control; keys = c.new.result; found = None; made = 0 } in
    let longer : length c.push.new.self.items ≡ n + 1 = ap length push ∙ length-append workers (made ∷ []) in let count = inv.count in
    record {
      count = omega arith;
      new = subst (EachAt W) (sym push) (each_snoc W workers made inv.new (made_new Q.belongs Q.known sh total (n + 1) made one.0 one.1 seat.0 control.0 refl refl));
      rest = subst (λ k. EachFrom k P left) (sym longer) (others_of n P c.in-Some.pass left rest);
      seats = seat.1;
      controls = control.1;
    }
