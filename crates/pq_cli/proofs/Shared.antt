-- The commands that use a queue, whichever it is.
use Rattle.std.proofs.Common.{◌≡◌, ◌≤◌, ◌*◌, refl, sym, ℕ, Some, arith}
use Rattle.std.proofs.lemmas.Nat.{mul-le}
use Rattle.pq_model.specs.Limits.{max_seats}
use Rattle.bb_pool.specs.Limits.{max_nodes}
use Rattle.cli_words.specs.declared.command.Command.{Command}
use Rattle.cli_words.specs.declared.command.Command.TheVariants.{Solve, Bound, Check, Prove, Verify, Trace, Audit, Make, Drill}
use Rattle.cli_words.specs.declared.limits.Limits.{Limits}
use Rattle.cli_words.specs.declared.queues.Which.{Which}
use Rattle.cli_words.specs.declared.queues.Which.TheVariants.{Plain, Hunt}
use Rattle.cli_words.specs.declared.queues.Profile.{Profile}
use Rattle.cli_words.specs.Limits.{HasLimits, IsDrill, AreLimits, AreWithin}
use Rattle.cli_words.specs.Queues.{profile_of, queue_of}
use Rattle.pq_cli.specs.CommandLimits.{IsDrillWithin, IsShared}

-- a kind of queue is within the limits of all, and has room for a drill
record IsSound (p : Profile) : Type 0 where
  pub callers : p.most_callers ≤ max_seats
  pub nodes : p.most_nodes ≤ max_nodes
  pub room : 16016 ≤ p.most_capacity

is_sound : (queue : Which) → IsSound (profile_of queue)
is_sound Plain = record { callers = omega arith; nodes = omega arith; room = omega arith }
is_sound Hunt = record { callers = omega arith; nodes = omega arith; room = omega arith }

-- a search
search_is_within : (queue : Which) (limits : Limits) → AreLimits queue limits →
    AreWithin (profile_of queue).most_callers max_nodes (profile_of queue).most_capacity limits
search_is_within queue limits h = record {
  workers = h.workers;
  nodes_are = (h.nodes_are.0, omega (arith, h.nodes_are.1, (is_sound queue).nodes));
  capacity_is = h.capacity_is;
}

-- a drill
drill_is_within : (queue : Which) (workers size : ℕ) → IsDrill queue workers size →
    IsDrillWithin (profile_of queue).most_callers (profile_of queue).most_capacity workers size
drill_is_within queue workers size d =
    let sound = is_sound queue in
    let few : workers ≤ 16 = omega (arith, d.workers_are.1, sound.callers) in
    let inserts : workers * size ≤ 16 * 1000 = mul-le workers size 16 1000 few d.size_is in
    record {
      size_is = d.size_is;
      lanes = omega (arith, inserts, few, sound.room);
      search = record {
        workers = d.workers_are;
        nodes_are = (omega arith, omega arith);
        capacity_is = (omega arith, omega (arith, few, sound.room));
      };
    }

within_own : (queue : Which) (c : Command) → HasLimits c → queue_of c ≡ Some queue →
    IsShared (profile_of queue).most_callers (profile_of queue).most_capacity c
within_own queue (Solve kind branching own workers nodes capacity) limits is =
    let same : own ≡ queue = cc in rw (sym same) (search_is_within own _ limits)
within_own queue (Prove own workers nodes capacity) limits is =
    let same : own ≡ queue = cc in rw (sym same) (search_is_within own _ limits)
within_own queue (Trace own capacity) limits is =
    let same : own ≡ queue = cc in rw (sym same) (limits.0, limits.1, refl)
within_own queue (Drill own workers seed size) limits is =
    let same : own ≡ queue = cc in rw (sym same) (drill_is_within own workers size limits)
within_own queue (Bound kind branching) limits is = absurd (cc)
within_own queue (Check kind) limits is = absurd (cc)
within_own queue Verify limits is = absurd (cc)
within_own queue Audit limits is = absurd (cc)
within_own queue (Make kind seed size) limits is = absurd (cc)

-- what uses a queue is within the limits of its kind
pub queue_is_shared : (queue : Which) (callers most : ℕ) (c : Command) → callers ≡ (profile_of queue).most_callers →
    most ≡ (profile_of queue).most_capacity → HasLimits c → queue_of c ≡ Some queue → IsShared callers most c
queue_is_shared queue callers most c seats room limits is = rw seats (rw room (within_own queue c limits is))
