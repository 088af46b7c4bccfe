-- Full comes where as many entries are held as the capacity is.
use Rattle.std.proofs.Common.{◌≡◌, length, ap, subst, arith}
use Rattle.std.specs.Prelude.{◌↔◌}
use Rattle.pq_model.specs.declared.marks.Reply.TheVariants.{Full}
use Rattle.pq_api.specs.Plain.{Plain, held}
use Rattle.pq_api.proofs.Keeps.{full_kept}
use Rattle.pq_api.proofs.plain.pass.PlainPass.add.Goals as goal

pub returns-else-len-self-clause-full : goal.returns-else-len-self-clause-full
returns-else-len-self-clause-full c = let size = ap length c.self.invariant.1 in
    subst (λ (v : Plain). (Full ≡ Full) ↔ (length (held v) ≡ v.capacity)) c.self.view_is (full_kept c.args.e Full c.self.invariant.0 (omega arith))
