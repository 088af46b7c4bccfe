use Rattle.std.proofs.Common.{◌≡◌, ℕ, ◌∙◌, [], length, replicate, ap}
use Rattle.std.proofs.lemmas.Result.{IfOk-weaker}
use Rattle.bb_shop.specs.Branching.{Node, Stands}
use Rattle.bb_shop.specs.TreeLawsHold.Standing.{root_stands}
use Rattle.bb_shop.proofs.problem.ShopProblem.root.Goals as goal

abbrev first : ℕ → ℕ → Node
first jobs machines = record { order = []; steps = replicate jobs 0; jobs = replicate jobs 0; machines = replicate machines 0 }

pub returns-clause-root : goal.returns-clause-root
returns-clause-root c =
    let s = c.args.self.now in
    IfOk-weaker c.root.result (λ (node : Node). node ≡ first c.job_count.result c.machine_count.result) (λ (node : Node). Stands s node [])
    (λ node is. root_stands s node (is ∙ ap (λ n. first n c.machine_count.result) c.job_count.ensures.count ∙ ap (first (length s.rows)) c.machine_count.ensures.count)) c.root.ensures
