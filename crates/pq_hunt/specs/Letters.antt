-- Fact 5, on the letters of owners whose inserts a remover placed.
use Rattle.std.specs.Prelude.{◌≡◌, ℕ, ◌+◌, ◌≤◌}
use Rattle.pq_hunt.specs.Flights.{Flight}

-- Fact 5 of one owner. An insert climbs, 1, from the step that made a node Busy until its owner has taken its call
-- over, and else 0. As long as it climbs, either its place is not drawn, and it waits for it, or its owner has one
-- letter: in its word, or owed to it by the view of a remover.
pub record IsClimbing (f : Flight) (climbing letters : ℕ) : Type 0 where
  pub most : climbing ≤ 1
  pub told : f.waiting + letters ≡ climbing
