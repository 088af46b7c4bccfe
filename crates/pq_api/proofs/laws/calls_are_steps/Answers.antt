use Rattle.pq_model.specs.History.{mark}
use Rattle.pq_api.proofs.Replayed.{step_there}
use Rattle.pq_api.proofs.Places.{kept_mark}
use Rattle.pq_api.proofs.laws.calls_are_steps.Goals as goal

pub returns : goal.returns
returns c = λ seats capacity k history l d w kept. let is = kept_mark k history l d w.holds kept in
    (is, step_there seats capacity d.place history (mark l.number d.act d.reply) w.legal is)
