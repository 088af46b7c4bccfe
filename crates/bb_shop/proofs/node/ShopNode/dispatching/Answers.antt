use Rattle.std.proofs.Common.{◌≡◌, ◌+◌, ◌-◌, ◌*◌, ◌<◌, ◌≤◌, length, get_or, take, drop, sym, ap, subst, ◌∙◌, arith}
use Rattle.std.proofs.lemmas.List.{get_or-take, get_or_read}
use Rattle.std.proofs.lemmas.Nat.{mul-le}
use Rattle.inst_text.specs.Limits.{max_jobs, max_machines}
use Rattle.bb_shop.specs.Dispatching.{number_in}
use Rattle.bb_shop.specs.Branching.{Node}
use Rattle.bb_shop.specs.Memory.{times_of, bytes_of}
use Rattle.bb_shop.specs.Working.{IsKept, part, ending, child_by}
use Rattle.bb_shop.proofs.Kept.{node_of, part-at, times_after, bytes_after, job-inside, machine-inside, step-inside, room_left, child_is, IsKept-child}
use Rattle.bb_shop.proofs.node.ShopNode.dispatching.Goals as goal

-- there is room for the operation
room : (c : goal.After-from) → c.self.inside.depth + 1 ≤ c.self.inside.job_count * c.self.inside.machine_count
room c =
    let n = c.self.inside.job_count in
    let m = c.self.inside.machine_count in
    let d = c.self.inside.depth in
    let times = times_of c.self.inside.memory in
    let bytes = bytes_of c.self.inside.memory in
    room_left n m d times bytes c.args.job c.self.invariant (job-inside n m d times bytes c.args.self.now c.args.job c.self.view_is c.requires.job)
    (step-inside n m d times bytes c.args.self.now c.args.job c.self.view_is c.requires.step)

pub overflow_add-result : goal.overflow_add-result
overflow_add-result c =
    omega (arith, room c, mul-le c.self.inside.job_count c.self.inside.machine_count max_jobs max_machines c.self.invariant.few_jobs c.self.invariant.few_machines)

pub changed-requires-clause-small : goal.changed-requires-clause-small
changed-requires-clause-small c =
    let n = c.self.inside.job_count in
    let m = c.self.inside.machine_count in
    let d = c.self.inside.depth in
    let times = times_of c.self.inside.memory in
    let bytes = bytes_of c.self.inside.memory in
    let lt = job-inside n m d times bytes c.args.self.now c.args.job c.self.view_is c.requires.job in
    let step = step-inside n m d times bytes c.args.self.now c.args.job c.self.view_is c.requires.step in
    omega (arith, step, get_or-take n bytes c.args.job 0 lt, c.self.invariant.few_machines)

pub changed-requires-clause-place : goal.changed-requires-clause-place
changed-requires-clause-place c = omega (arith, room c, c.self.invariant.bytes_fit, c.from-first.ensures, c.from.ensures)

-- what is written
times-written : (c : goal.In_ok-changed)
    → times_of c.in_ok-changed.field-0 ≡ times_after c.self.inside.job_count (times_of c.self.inside.memory) c.args.operation c.args.job c.min.result
times-written c =
    c.in_ok-changed.ensures.times ∙ ap (λ n. times_after n (times_of c.self.inside.memory) c.args.operation c.args.job c.min.result) c.from-first.ensures

bytes-written : (c : goal.In_ok-changed)
    → bytes_of c.in_ok-changed.field-0 ≡ bytes_after c.self.inside.job_count c.self.inside.depth (bytes_of c.self.inside.memory) c.args.job
bytes-written c =
    let bytes = bytes_of c.self.inside.memory in
    c.in_ok-changed.ensures.bytes ∙ ap (λ n. bytes_after n c.from.result bytes c.args.job) c.from-first.ensures
    ∙ ap (λ d. bytes_after c.self.inside.job_count d bytes c.args.job) c.from.ensures

pub invariant_of-result : goal.invariant_of-result
invariant_of-result c =
    let n = c.self.inside.job_count in
    let m = c.self.inside.machine_count in
    let d = c.self.inside.depth in
    let times = times_of c.self.inside.memory in
    let bytes = bytes_of c.self.inside.memory in
    let o = c.args.operation in
    let j = c.args.job in
    let end = c.min.result in
    let lt = job-inside n m d times bytes c.args.self.now j c.self.view_is c.requires.job in
    let step = step-inside n m d times bytes c.args.self.now j c.self.view_is c.requires.step in
    subst (λ ts. IsKept n m (d + 1) ts (bytes_of c.in_ok-changed.field-0)) (sym (times-written c))
    (subst (IsKept n m (d + 1) (times_after n times o j end)) (sym (bytes-written c))
    (IsKept-child n m d times bytes o j end c.self.invariant lt step (omega (arith, c.min.ensures))))

pub returns : goal.returns
returns c =
    let n = c.self.inside.job_count in
    let m = c.self.inside.machine_count in
    let d = c.self.inside.depth in
    let times = times_of c.self.inside.memory in
    let bytes = bytes_of c.self.inside.memory in
    let o = c.args.operation in
    let j = c.args.job in
    let all = c.times-times.result.now in
    let is : all ≡ times = c.times-times.ensures in
    let first = c.from-first.ensures in
    let lt = job-inside n m d times bytes c.args.self.now j c.self.view_is c.requires.job in
    let below = machine-inside n m d times bytes c.args.self.now o.machine c.self.view_is c.requires.machine in
    let step = step-inside n m d times bytes c.args.self.now j c.self.view_is c.requires.step in
    let room = room_left n m d times bytes j c.self.invariant lt step in
    let one : number_in all j ≡ number_in (take n times) j = ap (λ ys. number_in ys j) is ∙ sym (get_or-take n times j 0 lt) in
    let other : number_in all (c.from-first.result + o.machine) ≡ number_in (part n (n + m) times) o.machine =
    ap (λ ys. number_in ys (c.from-first.result + o.machine)) is ∙ ap (λ k. number_in times (k + o.machine)) first ∙ sym (part-at n (n + m) times o.machine (omega (arith, below))) in
    let end : c.min.result ≡ ending (node_of n m d times bytes) o j = omega (arith, c.min.ensures, c.saturating_add.ensures, c.max-start.ensures, one, other) in
    ap (λ ts. node_of n m (d + 1) ts (bytes_of c.in_ok-changed.field-0)) (times-written c)
    ∙ ap (node_of n m (d + 1) (times_after n times o j c.min.result)) (bytes-written c)
    ∙ child_is n m d times bytes o j c.min.result lt below (omega (arith, room, c.self.invariant.bytes_fit)) end ∙ ap (λ (v : Node). child_by v o j) c.self.view_is
