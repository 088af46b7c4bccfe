-- The mound's table: as many words as its capacity needs, in the range of a machine's numbers.
use Rattle.std.specs.Prelude.{◌≡◌, ◌≤◌}
use Rattle.pq_model.specs.Limits.{max_capacity}
use Rattle.pq_seats.specs.declared.shared.Shared.{Shared}
use Rattle.pq_seats.specs.Passes.{limits_of}
use Rattle.pq_mound.specs.Layout.{word_count}

pub record IsMoundTable {R O : Type 0} (q : Shared R O) : Type 0 where
  pub words : q.words ≡ word_count (limits_of q).capacity
  pub some_nodes : 1 ≤ (limits_of q).capacity
  pub few : (limits_of q).capacity ≤ max_capacity
