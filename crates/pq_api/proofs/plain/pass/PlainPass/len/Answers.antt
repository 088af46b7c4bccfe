-- What is held is what the calls leave.
use Rattle.std.proofs.Common.{length, ap, arith}
use Rattle.pq_api.specs.Plain.{Plain, held}
use Rattle.pq_api.proofs.plain.pass.PlainPass.len.Goals as goal

pub returns : goal.returns
returns c = let size = ap length c.self.invariant.1 in let seen = ap (λ (v : Plain). length (held v)) c.self.view_is in omega arith
