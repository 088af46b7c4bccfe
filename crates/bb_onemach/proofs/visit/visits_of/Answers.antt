use Rattle.std.proofs.Common.{◌≡◌, ◌+◌, ◌-◌, ◌<◌, List, [], ◌++◌, length, get_or, drop, sym, ap, subst, ◌∙◌, rules, arith}
use Rattle.std.specs.Prelude.{All}
use Rattle.std.specs.List.Sorted.{IsPermutation}
use Rattle.std.proofs.lemmas.List.{at_drop_more, drop_all, append_assoc, append-nil}
use Rattle.std.proofs.lemmas.List.Sorted.{IsNonDecreasingBy-from_sort_by_key, All-permutation}
use Rattle.bb_shop.specs.declared.prepared_operation.PreparedOperation.{PreparedOperation}
use Rattle.bb_shop.specs.Plans.{row_at}
use Rattle.bb_shop.specs.TreeLawsHold.States.{row-length}
use Rattle.bb_shop.specs.TreeLawsHold.Times.{row_time-le, row_time-drop}
use Rattle.bb_onemach.specs.declared.visit.Visit.{Visit}
use Rattle.bb_onemach.specs.Visits.{row_visits, rows_visits, visits}
use Rattle.bb_onemach.specs.Working.{prepared_visits}
use Rattle.bb_onemach.specs.TreeLawsHold.Starting.{IsVisit, visits_are, rows_visits-cons, rows_visits-nil}
use Rattle.bb_onemach.proofs.Prepared.{prepared_is, length-prepared}
use Rattle.bb_onemach.proofs.visit.visits_of.Goals as goal

pub loop-job-init : goal.loop-job-init
loop-job-init c = ap (λ vs. vs ++ rows_visits c.args.machine 0 c.args.shop.now.rows) c.new-row.ensures.items

pub add_visits-requires-clause-few : goal.add_visits-requires-clause-few
add_visits-requires-clause-few c =
    let s = c.args.shop.now in
    let j = c.loop-job.job in
    let shop = c.job_count-job-end.ensures.within_limits in
    let inside : j < length s.rows = omega (arith, c.loop-job-test.true, c.job_count-job-end.ensures.count) in
    omega (arith, ap (λ (ps : List PreparedOperation). length ps) c.rest.ensures, length-prepared (row_at s.rows j), row-length s j shop inside, shop.machines)

pub loop-job-preserved : goal.loop-job-preserved
loop-job-preserved c =
    let s = c.args.shop.now in
    let m = c.args.machine in
    let j = c.loop-job.job in
    let r = row_at s.rows j in
    let old = c.loop-job.row.items in
    let rest = rows_visits m (j + 1) (drop (j + 1) s.rows) in
    let inside : j < length s.rows = omega (arith, c.loop-job-test.true, c.job_count-job-end.ensures.count) in
    let added : c.add_visits.new.row.items ≡ old ++ row_visits m j 0 r =
    c.in_ok-add_visits.ensures ∙ ap (λ ps. old ++ prepared_visits m j 0 ps) c.rest.ensures ∙ ap (λ vs. old ++ vs) (prepared_is m j 0 r) in
    let turn : rows_visits m j (drop j s.rows) ≡ row_visits m j 0 r ++ rest = at_drop_more (rows_visits m j) s.rows j [] inside ∙ rows_visits-cons m j r (drop (j + 1) s.rows) in
    ap (λ vs. vs ++ rest) added ∙ append_assoc old (row_visits m j 0 r) rest ∙ ap (λ vs. old ++ vs) (sym turn) ∙ c.loop-job.invariant

pub returns : goal.returns
returns c =
    let s = c.args.shop.now in
    let m = c.args.machine in
    let j = c.loop-job.job in
    let shop = c.job_count-job-end.ensures.within_limits in
    let sorted = c.sort_unstable_by_key.new.self.items in
    let none : rows_visits m j (drop j s.rows) ≡ [] =
    ap (rows_visits m j) (drop_all j s.rows (omega (arith, c.loop-job-test.false, c.job_count-job-end.ensures.count))) ∙ rows_visits-nil m j in
    let whole : c.loop-job.row.items ≡ visits s m =
    sym (append-nil c.loop-job.row.items) ∙ ap (λ vs. c.loop-job.row.items ++ vs) (sym none) ∙ c.loop-job.invariant in
    let same : IsPermutation (visits s m) sorted = subst (λ vs. IsPermutation vs sorted) whole c.sort_unstable_by_key.ensures.permutation in
    let rises = IsNonDecreasingBy-from_sort_by_key (λ (v : Visit). 4294967295 - v.tail) _ c.sort_unstable_by_key.ensures.sorted (λ a r q k. search rules) in
    let each : All (IsVisit s m) sorted = All-permutation (IsVisit s m) (visits s m) sorted same (visits_are s m shop) in
    record {
      same = same;
      falls =
          λ a b d lt inside.
          let v = get_or sorted b d in
          let row = row_at s.rows v.job in
          omega (
            arith,
            rises a b d (omega (arith, lt)) inside,
            (each b d inside).tail,
            row_time-drop (v.step + 1) row,
            row_time-le s.rows v.job,
            shop.times,
          );
    }
