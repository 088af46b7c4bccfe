use Rattle.std.proofs.Common.{◌≤◌, List, [], length, get_or, map, sym, subst, arith}
use Rattle.std.specs.Prelude.{All}
use Rattle.std.specs.Global.{Vec}
use Rattle.std.proofs.lemmas.List.{get_or-map, length-map}
use Rattle.inst_text.specs.Limits.{max_operations}
use Rattle.bb_onemach.specs.declared.visit.Visit.{Visit}
use Rattle.bb_onemach.specs.Working.{IsRow}
use Rattle.bb_onemach.proofs.RowTasks.{row_short}
use Rattle.bb_onemach.proofs.active_shop.ActiveShop.bound_by.Goals as goal

pub bound_with-requires-else-operations-le-SOME_OPERATIONS-clause-tasks : goal.bound_with-requires-else-operations-le-SOME_OPERATIONS-clause-tasks
bound_with-requires-else-operations-le-SOME_OPERATIONS-clause-tasks c =
    let s = c.self.inside.shop in
    let rows = c.self.inside.rows.items in
    let items : Vec Visit → List Visit = λ r. r.items in
    let short : All (λ (row : Vec Visit). length row.items ≤ max_operations) rows =
    λ k d lt.
    let v = get_or rows k d in
    let is : IsRow s k (get_or (map items rows) k []) = c.self.invariant.each k (omega (arith, lt, length-map rows items, c.self.invariant.count)) in
    let row : IsRow s k v.items = subst (IsRow s k) (get_or-map items rows k d [] lt) is in
    row_short s k v.items c.machine_count.ensures.within_limits row in
    subst (All (λ (row : Vec Visit). length row.items ≤ max_operations)) (sym c.as_slice-rows.ensures.value) short
