use Rattle.pq_api.proofs.Places.{each_place, one_at_place}
use Rattle.pq_api.proofs.laws.places_are_calls.Goals as goal

pub returns : goal.returns
returns c = λ k history actual. (λ place within. each_place k history place actual within, λ l m c d one other same. one_at_place k history l m c d actual one other same)
