-- The heap's part of the rule of its table.
use Rattle.std.specs.Prelude.{◌≡◌, false}
use Rattle.pq_words.specs.declared.letters.Letter.{Letter}
use Rattle.pq_words.specs.declared.letters.Letter.TheVariants.{Nothing, At, Back}
use Rattle.pq_seats.specs.Rules.{Rule}
use Rattle.pq_hunt.specs.declared.views.HuntPart.{HuntPart}
use Rattle.pq_hunt.specs.Layout.{is_lock, word_count}
use Rattle.pq_hunt.specs.NodeParts.{IsLockTaken, freed}
use Rattle.pq_hunt.specs.Views.{idle}
use Rattle.pq_hunt.specs.Batches.{hunt_batch, after_draw}
use Rattle.pq_hunt.specs.Ties.{HuntTied}

-- the seat has its letter, or its call: nothing is in flight any more
abbrev pub told : HuntPart → HuntPart
told v = record v { place = 0; climbing = 0; lettered = false }

-- A seat that found its entry gone from the root has a letter. No letter of the heap sends an entry back
abbrev pub KnowsLetter : HuntPart → Letter → Type 0
KnowsLetter v Nothing = v.lettered ≡ false
KnowsLetter v (At place) = Unit {0}
KnowsLetter v Back = ⊥

abbrev pub hunt_rule : Rule HuntPart
hunt_rule = record {
  idle = idle;
  rests = λ own. own ≡ idle;
  width = λ k. word_count k.capacity;
  locks = λ k i. is_lock k.capacity i;
  ties = HuntTied;
  taken = λ k v i w. IsLockTaken k.capacity v i w;
  freed = λ k v i. freed v i;
  batch = λ k p act n. hunt_batch p.own act;
  drawn = λ k p act n. after_draw p.own act;
  told = told;
  knows = KnowsLetter;
  length_of = λ x. x;
}
