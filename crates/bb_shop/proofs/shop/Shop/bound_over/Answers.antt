use Rattle.std.proofs.Common.{◌≡◌, ◌≤◌, length, take, ap, ◌∙◌, inl, inr, arith}
use Rattle.std.proofs.lemmas.Bool.{cases_lt}
use Rattle.std.proofs.lemmas.List.{length-take, get_or-take, get_or_past}
use Rattle.bb_shop.specs.Bounds.{greatest}
use Rattle.bb_shop.specs.Loading.{unloaded, with_load, load_in, machine_bound_of}
use Rattle.bb_shop.specs.Working.{bound_by, whole_load}
use Rattle.bb_shop.proofs.MachineLoads.{machine_bounds_are, machine_bound_is_small}
use Rattle.bb_shop.proofs.shop.Shop.bound_over.Goals as goal

pub greatest_machine_bound-machine_bound-requires : goal.greatest_machine_bound-machine_bound-requires
greatest_machine_bound-machine_bound-requires c = λ m.
    let s = c.args.self.now in
    let n = c.machine_count-count.result in
    let loads = c.last_finish-finish.new.loads in
    let count = c.machine_count-count.ensures.count in
    elim (cases_lt m n) [
      | inl lt ↦
          let here : load_in (take n loads) m ≡ with_load unloaded (whole_load s c.args.steps.now c.args.jobs.now c.args.machines.now m) =
          get_or-take n loads m unloaded lt ∙ c.last_finish-finish.ensures.loads m (omega (arith, lt, count, c.requires.fit.each_machine)) in
          machine_bound_is_small s c.args.steps.now c.args.jobs.now c.args.machines.now (load_in (take n loads) m) m c.machine_count-count.ensures.within_limits c.requires.fit here
      | inr le ↦
          let size : length (take n loads) ≤ m = omega (arith, length-take n loads, le) in
          omega (arith, ap machine_bound_of (get_or_past (take n loads) m unloaded size))
    ]

pub returns : goal.returns
unfolding bound_by
returns c =
    let s = c.args.self.now in
    let n = c.machine_count-count.result in
    let loads = c.last_finish-finish.new.loads in
    let count = c.machine_count-count.ensures.count in
    let size : length (take n loads) ≡ s.machines = omega (arith, length-take n loads, count, c.machine_count-count.ensures.within_limits.machines, c.last_finish-finish.auto.loads) in
    let machine_bounds = machine_bounds_are s c.args.steps.now c.args.jobs.now c.args.machines.now (take n loads) c.machine_count-count.ensures.within_limits c.requires.fit size
    (λ k lt. get_or-take n loads k unloaded (omega (arith, lt, count)) ∙ c.last_finish-finish.ensures.loads k (omega (arith, lt, c.requires.fit.each_machine))) in
    omega (arith, c.max-2.ensures, c.max.ensures, c.greatest_of.ensures, c.greatest_machine_bound-machine_bound.ensures, c.last_finish-finish.ensures.finish, ap greatest machine_bounds)
