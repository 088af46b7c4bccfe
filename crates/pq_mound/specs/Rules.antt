-- The mound's part of the rule of its table.
use Rattle.std.specs.Prelude.{◌≡◌}
use Rattle.pq_words.specs.declared.letters.Letter.TheVariants.{Nothing}
use Rattle.pq_seats.specs.Rules.{Rule}
use Rattle.pq_mound.specs.declared.views.MoundPart.{MoundPart}
use Rattle.pq_mound.specs.Layout.{is_lock, word_count}
use Rattle.pq_mound.specs.NodeParts.{IsLockTaken, freed}
use Rattle.pq_mound.specs.Views.{idle}
use Rattle.pq_mound.specs.Batches.{batch_of, after_draw}
use Rattle.pq_mound.specs.Ties.{MoundTied}

abbrev pub mound_rule : Rule MoundPart
mound_rule = record {
  idle = idle;
  rests = λ v. v ≡ idle;
  width = λ k. word_count k.capacity;
  locks = λ k i. is_lock k.capacity i;
  ties = MoundTied;
  taken = λ k v i w. IsLockTaken k.capacity v i w;
  freed = λ k v i. freed v i;
  batch = λ k p act n. batch_of p.own act;
  drawn = λ k p act n. after_draw p.own act;
  told = λ v. v;
  knows = λ v letter. letter ≡ Nothing;
  length_of = λ x. x;
}
