use Rattle.std.proofs.Common.{◌≡◌, List, length, ap, arith}
use Rattle.pq_model.specs.declared.marks.Mark.{Mark}
use Rattle.pq_tape.specs.Tapes.{Taped, places}
use Rattle.pq_tape.proofs.Merging.{complete_below, is_by_place}
use Rattle.pq_tape.proofs.tapes.merging.merge.Goals as goal

-- there are as many marks as calls
abbrev Counted : List Mark → List Taped → Type 0
Counted marks tapes = length marks ≡ length (places tapes)

pub put_tapes-requires : goal.put_tapes-requires
put_tapes-requires c =
    let calls = ap (λ (ts : List Taped). length (places ts)) c.deref.ensures.value in
    let counted : Counted c.in_ok-marks.marks.items c.args.tapes.items = omega (arith, c.in_ok-marks.ensures.len, c.in_ok-count.ensures) in
    rw c.deref-2.ensures.value (complete_below c.args.tapes.items (length c.in_ok-marks.marks.items) counted c.requires)

pub returns : goal.returns
returns c =
    let calls = ap (λ (ts : List Taped). length (places ts)) c.deref.ensures.value in
    let counted : Counted c.in_ok-marks.marks.items c.args.tapes.items = omega (arith, c.in_ok-marks.ensures.len, c.in_ok-count.ensures) in
    rw (c.put_tapes.ensures, c.deref-2.ensures.value) (is_by_place c.args.tapes.items c.in_ok-marks.marks.items counted c.requires)
