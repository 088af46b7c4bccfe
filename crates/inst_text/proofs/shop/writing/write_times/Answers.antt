use Rattle.inst_text.proofs.PieceByPiece.{times_written}
use Rattle.inst_text.proofs.shop.writing.write_times.Goals as goal

pub returns : goal.returns
returns c =
    rw (c.in_ok-write_numbers.ensures, c.in_ok-write_number.ensures.ok, c.from.ensures) (times_written c.args.text.now.items c.args.row.now c.in-Some.first.now c.in-Some.others.now c.in-Some.ensures.cases.0)
