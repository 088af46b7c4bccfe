use Rattle.std.proofs.Common.{◌≡◌, ℕ, [], ◌∷◌, ◌++◌, length, get_or, take, refl, sym, ap, subst, ◌∙◌, arith}
use Rattle.std.specs.Prelude.{Bool, not, nat_eq, nat_lt, ◌&&◌, ◌||◌, All, filter}
use Rattle.std.proofs.lemmas.Bool.{cond-true, cond-false}
use Rattle.std.proofs.lemmas.List.{length-take, append-nil}
use Rattle.std.proofs.lemmas.List.Elements.{All-filter, All-take, filter_more}
use Rattle.std.proofs.lemmas.List.Filters.{length-filter_both}
use Rattle.bb_shop.specs.declared.booking.Booking.{Booking}
use Rattle.bb_shop.specs.Working.{IsLeftAt, next_at}
use Rattle.bb_onemach.specs.Branching.{competes}
use Rattle.bb_onemach.proofs.branching.competing.Goals as goal
use Rattle.bb_onemach.proofs.branching.competing.Goals.{then-competes, else-competes}

pub push-requires : goal.push-requires
push-requires c =
    let items = c.as_slice-job-items.result.now in
    let i = c.loop-job.job-index in
    let p = competes (next_at c.args.shop.now c.args.node.now) c.critical-critical.result in
    let fits = c.as_slice-job-items.ensures.fits in (
      omega arith,
      omega (
        arith,
        ap length c.loop-job.invariant,
        length-filter_both p (λ j. not (p j)) (λ _. refl) (take i items),
        length-take i items,
        c.loop-job-test.true,
        fits,
      ),
    )

pub loop-job-preserved : goal.loop-job-preserved
loop-job-preserved c =
    let next = next_at c.args.shop.now c.args.node.now in
    let items = c.as_slice-job-items.result.now in
    let i = c.loop-job.job-index in
    let j = get_or items i 0 in
    let k = c.critical-critical.result in
    let p = competes next k in
    let test : Booking → Booking → ℕ → Bool = λ a b x. nat_eq x k || (nat_eq a.machine b.machine && nat_lt a.start b.end) in
    let here : c.next-next.result ≡ next j = c.next-next.ensures ∙ ap next c.from.ensures in
    let same : c.competes.result ≡ p j =
    c.competes.ensures ∙ ap (test c.next-next.result c.next-soonest.result) c.from-in-loop-job.ensures ∙ ap (λ a. test a c.next-soonest.result j) here
    ∙ ap (λ b. test (next j) b j) c.next-soonest.ensures in
    let turn = filter_more p items i 0 c.loop-job-test.true in
    elim c.if-competes.branch [
      | then-competes w ↦
          ap (λ v. v.items) w.jobs-is ∙ w.push.ensures.items
          ∙ ap (λ xs. xs ++ j ∷ []) c.loop-job.invariant
          ∙ sym (turn ∙ ap (λ xs. filter p (take i items) ++ xs) (cond-true (p j) (j ∷ []) [] (sym same ∙ w.if-competes.true)))
      | else-competes w ↦
          ap (λ v. v.items) w.jobs-is ∙ c.loop-job.invariant
          ∙ sym (turn ∙ ap (λ xs. filter p (take i items) ++ xs) (cond-false (p j) (j ∷ []) [] (sym same ∙ w.if-competes.false)) ∙ append-nil (filter p (take i items)))
    ]

pub returns-clause-left : goal.returns-clause-left
returns-clause-left c =
    let s = c.args.shop.now in
    let node = c.args.node.now in
    let items = c.as_slice-job-items.result.now in
    let i = c.loop-job.job-index in
    let p = competes (next_at s node) c.critical-critical.result in
    let left : All (IsLeftAt s node) items = subst (All (IsLeftAt s node)) (sym c.as_slice-job-items.ensures.value) c.jobs_left-left.ensures.left in
    subst (All (IsLeftAt s node)) (sym c.loop-job.invariant) (All-filter p (IsLeftAt s node) (take i items) (All-take (IsLeftAt s node) i items left))
