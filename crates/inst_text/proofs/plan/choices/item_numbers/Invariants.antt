use Rattle.std.proofs.Common.{◌≡◌, length}
use Rattle.pq_io.specs.Reading.{on_line}
use Rattle.inst_text.specs.Plans.{item_numbers_of}
use Rattle.inst_text.proofs.ItemNumbers.{behind}
use Rattle.inst_text.proofs.plan.choices.item_numbers.Given as goal

abbrev pub invariant-loop-words : goal.invariant-loop-words
invariant-loop-words l = record {
  line : l.words.number ≡ l.fn.words.number;
  so_far : on_line l.fn.words.number (behind l.numbers.items (item_numbers_of l.count l.low l.words.words)) ≡ on_line l.fn.words.number (item_numbers_of l.count 0 l.fn.words.words);
}

abbrev pub decreases-loop-words : goal.decreases-loop-words
decreases-loop-words l = length l.words.words
