-- The place of an answer.
use Rattle.std.specs.Prelude.{ℕ}
use Rattle.pq_api.specs.declared.answers.Inserted.{Inserted}
use Rattle.pq_api.specs.declared.answers.Inserted.TheVariants.{Done, Full}
use Rattle.pq_api.specs.declared.answers.Removed.{Removed}
use Rattle.pq_api.specs.declared.answers.Removed.TheVariants.{Got, Empty}
use Rattle.pq_api.specs.declared.answers.Below.{Below}
use Rattle.pq_api.specs.declared.answers.Below.TheVariants as below

abbrev pub insert_place : Inserted → ℕ
insert_place (Done r) = r.place
insert_place (Full r) = r.place

abbrev pub remove_place : Removed → ℕ
remove_place (Got e r) = r.place
remove_place (Empty r) = r.place

abbrev pub below_place : Below → ℕ
below_place (below.Got e r) = r.place
below_place (below.Empty r) = r.place
below_place (below.Above r) = r.place
