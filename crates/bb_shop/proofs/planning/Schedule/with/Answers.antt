use Rattle.std.proofs.Common.{◌≡◌, ℕ, ◌<◌, List, [], ◌∷◌, ◌++◌, length, get_or, map, refl, ap, ◌∙◌, arith}
use Rattle.std.specs.Prelude.{max}
use Rattle.std.specs.Global.{Vec}
use Rattle.std.proofs.lemmas.List.{length-map, get_or_read}
use Rattle.bb_shop.specs.Dispatching.{State, number_in}
use Rattle.bb_shop.specs.Working.{dispatched_by}
use Rattle.bb_shop.proofs.Rows.{read_row}
use Rattle.bb_shop.proofs.Planned.{schedule_with}
use Rattle.bb_shop.proofs.planning.Schedule.with.Goals as goal

pub returns : goal.returns
returns c =
    let starts = c.self.inside.starts.items in
    let jobs = c.self.inside.jobs.items in
    let machines = c.self.inside.machines.items in
    let o = c.args.operation in
    let j = c.args.job in
    let rows : List (List ℕ) = map (λ (row : Vec ℕ). row.items) starts in
    let row_lt : j < length starts = omega (arith, c.requires.row, ap (λ (v : State). length v.starts) c.self.view_is, length-map starts (λ (row : Vec ℕ). row.items)) in
    let job_lt : j < length jobs = omega (arith, c.requires.job, ap (λ (v : State). length v.jobs) c.self.view_is) in
    let machine_lt : o.machine < length machines = omega (arith, c.requires.machine, ap (λ (v : State). length v.machines) c.self.view_is) in
    let one : c.index.result.now ≡ number_in jobs j = get_or_read jobs j c.index.result.now job_lt c.index.ensures 0 in
    let other : c.index-2.result.now ≡ number_in machines o.machine = get_or_read machines o.machine c.index-2.result.now machine_lt c.index-2.ensures 0 in
    let start : c.max-start.result ≡ max (number_in jobs j) (number_in machines o.machine) = omega (arith, c.max-start.ensures, one, other) in
    let row : c.push.new.self.items ≡ get_or rows j [] ++ c.max-start.result ∷ [] =
    ◌∙◌ {A = List ℕ} c.in_ok-push.ensures.items
    (ap (λ xs. xs ++ c.max-start.result ∷ []) (read_row starts (λ (v : Vec ℕ). v.items) rows j c.index_mut.result.now c.index_mut.result.now.items refl row_lt c.index_mut.ensures.value refl)) in
    schedule_with starts jobs machines o j c.max-start.result c.push.new.self row start ∙ ap (λ (v : State). dispatched_by v o j) c.self.view_is
