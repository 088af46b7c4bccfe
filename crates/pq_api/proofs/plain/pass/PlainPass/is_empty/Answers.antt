-- What is held is what the calls leave.
use Rattle.std.proofs.Common.{ℕ, nat_eq, length, ap, ◌∙◌}
use Rattle.pq_api.specs.Plain.{Plain, held}
use Rattle.pq_api.proofs.plain.pass.PlainPass.is_empty.Goals as goal

pub returns : goal.returns
returns c = c.is_empty.ensures ∙ ap (λ (n : ℕ). nat_eq n 0) (ap length c.self.invariant.1 ∙ ap (λ (v : Plain). length (held v)) c.self.view_is)
