use Rattle.std.proofs.Common.{◌≡◌, ◌*◌, ◌<◌, length, sym, ap, ◌∙◌, arith}
use Rattle.inst_text.specs.Shop.{JobShop}
use Rattle.bb_shop.specs.declared.prepared_operation.PreparedOperation.{PreparedOperation}
use Rattle.bb_shop.specs.Plans.{operation_at}
use Rattle.bb_shop.specs.TreeLawsHold.Tabled.{length-table, operation_is, job-end}
use Rattle.bb_shop.proofs.shop.Shop.operation.Goals as goal

pub index-requires : goal.index-requires
index-requires c =
    let s = c.self.inside.jobs in
    let n = c.machine_count-machines.result in
    let machines : n ≡ s.machines = c.machine_count-machines.ensures.count ∙ ap (λ (i : JobShop). i.machines) (sym c.self.view_is) in
    let jobs : c.args.job < length s.rows = omega (arith, c.requires.job, ap (λ (i : JobShop). length i.rows) c.self.view_is) in
    omega (arith, length-table s c.self.inside.table.items c.self.invariant, ap (λ m. length s.rows * m) machines, job-end c.args.job (length s.rows) n jobs, c.requires.step, c.machine_count-machines.ensures.count, c.self.inside.table.ok)

pub returns-clause-operation : goal.returns-clause-operation
returns-clause-operation c =
    let s = c.self.inside.jobs in
    let n = c.machine_count-machines.result in
    let machines : n ≡ s.machines = c.machine_count-machines.ensures.count ∙ ap (λ (i : JobShop). i.machines) (sym c.self.view_is) in
    ap (λ (p : PreparedOperation). p.operation) c.index.ensures
    ∙ operation_is s c.self.inside.table.items c.args.job (c.args.job * n) c.args.step _ c.self.invariant
    (omega (arith, c.requires.job, ap (λ (i : JobShop). length i.rows) c.self.view_is))
    (omega (arith, c.requires.step, machines, c.machine_count-machines.ensures.count))
    (ap (λ m. c.args.job * m) machines)
    ∙ ap (λ (i : JobShop). operation_at i c.args.job c.args.step) c.self.view_is
