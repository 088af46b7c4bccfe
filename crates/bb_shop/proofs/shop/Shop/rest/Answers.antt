use Rattle.std.proofs.Common.{◌≡◌, ◌+◌, ◌*◌, ◌<◌, length, drop, sym, ap, ◌∙◌, arith}
use Rattle.std.specs.Prelude.{min}
use Rattle.inst_text.specs.Shop.{JobShop}
use Rattle.bb_shop.specs.Plans.{row_at}
use Rattle.bb_shop.specs.Tables.{prepared_row}
use Rattle.bb_shop.specs.TreeLawsHold.Tabled.{length-table, part_is, job-end}
use Rattle.bb_shop.proofs.shop.Shop.rest.Goals as goal

pub slice_bounds-result-end : goal.slice_bounds-result-end
slice_bounds-result-end c =
    let s = c.self.inside.jobs in
    let n = c.machine_count-machines.result in
    let machines : n ≡ s.machines = c.machine_count-machines.ensures.count ∙ ap (λ (i : JobShop). i.machines) (sym c.self.view_is) in
    let jobs : c.args.job < length s.rows = omega (arith, c.requires, ap (λ (i : JobShop). length i.rows) c.self.view_is) in
    omega (arith, length-table s c.self.inside.table.items c.self.invariant, ap (λ m. length s.rows * m) machines, job-end c.args.job (length s.rows) n jobs, c.deref.ensures.len, ap length c.deref.ensures.value)

pub returns : goal.returns
returns c =
    let s = c.self.inside.jobs in
    let n = c.machine_count-machines.result in
    let machines : n ≡ s.machines = c.machine_count-machines.ensures.count ∙ ap (λ (i : JobShop). i.machines) (sym c.self.view_is) in
    let first = c.args.job * n in
    rw c.deref.ensures.value
    (part_is s c.self.inside.table.items c.args.job first c.args.step (first + c.min.result) (first + n) c.self.invariant
    (omega (arith, c.requires, ap (λ (i : JobShop). length i.rows) c.self.view_is))
    (ap (λ m. c.args.job * m) machines)
    (ap (λ k. first + k) (c.min.ensures ∙ ap (min c.args.step) machines))
    (ap (λ m. first + m) machines)
    ∙ ap (λ (i : JobShop). prepared_row (drop c.args.step (row_at i.rows c.args.job))) c.self.view_is)
