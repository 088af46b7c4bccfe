use Rattle.inst_text.proofs.PieceByPiece.{choice_written}
use Rattle.inst_text.proofs.knapsack.writing.write_choice.Goals as goal

pub returns : goal.returns
returns c =
    rw (
      c.in_ok-push.ensures.items,
      c.in_ok-write_numbers.ensures,
      c.in_ok-extend_from_slice.ensures.items,
      c.in_ok-write_number.ensures.ok,
      c.in_ok-text.ensures.items,
      c.from.ensures,
      c.deref.ensures.value,
      c.choice.view_is,
    ) (choice_written c.args.value c.args.choice.now)
