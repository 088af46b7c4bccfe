use Rattle.std.proofs.Common.{rules, ◌≡◌, ◌∙◌, List, length, sym, ap, subst}
use Rattle.pq_model.specs.declared.marks.Mark.{Mark}
use Rattle.pq_model.specs.History.{IsLegal, left}
use Rattle.pq_model.specs.Passes.{IsActual}
use Rattle.pq_lanes.proofs.Placing.{complete, merged_is}
use Rattle.pq_lanes.proofs.ending.history_of.Goals as goal

pub merge-requires : goal.merge-requires
merge-requires g c = let closed = c.in-Ok.ensures.closed in
    complete c.args.ran.tapes.items (g.Q.SharedQueue.known c.args.ran.pass) closed.history (record { lanes_are = c.requires.tapes; numbered = c.requires.numbered; actual = closed.actual })

pub returns-clause-actual : goal.returns-clause-actual
returns-clause-actual g c = let closed = c.in-Ok.ensures.closed in let k = g.Q.SharedQueue.known c.args.ran.pass in
    let same = merged_is c.args.ran.tapes.items k closed.history c.in_ok-marks.marks.items (record { lanes_are = c.requires.tapes; numbered = c.requires.numbered; actual = closed.actual }) c.in_ok-marks.ensures in
    subst (IsActual k) (sym same) closed.actual

pub returns-clause-legal : goal.returns-clause-legal
returns-clause-legal g c = let closed = c.in-Ok.ensures.closed in let k = g.Q.SharedQueue.known c.args.ran.pass in
    let same = merged_is c.args.ran.tapes.items k closed.history c.in_ok-marks.marks.items (record { lanes_are = c.requires.tapes; numbered = c.requires.numbered; actual = closed.actual }) c.in_ok-marks.ensures in
    subst (λ n. IsLegal (g.Q.SharedQueue.seats_of c.args.queue) n c.in_ok-marks.marks.items) (sym c.requires.capacity)
    (subst (IsLegal (g.Q.SharedQueue.seats_of c.args.queue) (g.Q.SharedQueue.capacity_of c.args.queue)) (sym same) closed.legal)

pub returns-clause-left : goal.returns-clause-left
returns-clause-left g c = let closed = c.in-Ok.ensures.closed in let k = g.Q.SharedQueue.known c.args.ran.pass in
    let same = merged_is c.args.ran.tapes.items k closed.history c.in_ok-marks.marks.items (record { lanes_are = c.requires.tapes; numbered = c.requires.numbered; actual = closed.actual }) c.in_ok-marks.ensures in
    let long : c.len-left.result ≡ length c.closed.inside.left.items = search rules in
    let rest : c.closed.inside.left.items ≡ left closed.history = search rules in
    long ∙ ap length rest ∙ ap (λ (h : List Mark). length (left h)) (sym same)
