-- The number is the word's own.
use Rattle.std.proofs.Common.{sym}
use Rattle.pq_tests.proofs.tests.words.of_node.Goals as goal

pub unpack-requires : goal.unpack-requires
unpack-requires c = record { packed = (c.args.word, c.requires, sym c.pack-number.ensures.number) }
