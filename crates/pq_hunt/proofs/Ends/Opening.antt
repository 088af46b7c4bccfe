-- Words of 0 begin a heap without entries.
use Rattle.std.proofs.Common.{◌≡◌, ℕ, zero, suc, ◌+◌, ◌≤◌, false, List, [], ◌∷◌, replicate, length, get_or, inl, refl, sym, ap, ◌∙◌, subst, arith}
use Rattle.std.specs.Prelude.{Contains, slice_index}
use Rattle.std.proofs.lemmas.List.{length-replicate}
use mathlib.Core.Option.{some, some-injective, some-ne-none}
use lib.ListN.{get_elem?}
use Rattle.pq_words.specs.Entries.{raw_of}
use Rattle.pq_words.specs.declared.heap_words.Tag.TheVariants as tags
use Rattle.pq_model.specs.EntryWords.{entry_of}
use Rattle.pq_seats.specs.declared.views.Post.{Post}
use Rattle.pq_seats.specs.Views.{empty_post}
use Rattle.pq_seats.specs.Seats.{limits_for, Begins}
use Rattle.pq_seats.proofs.Lists.{not_in}
use Rattle.pq_hunt.specs.declared.nodes.Node.{Node}
use Rattle.pq_hunt.specs.declared.nodes.Node.TheVariants.{Empty}
use Rattle.pq_hunt.specs.Guards.{Guard}
use Rattle.pq_hunt.specs.declared.views.HuntPart.{HuntPart}
use Rattle.pq_nodes.specs.Layout.{lock_of, word_of}
use Rattle.pq_hunt.specs.Layout.{heap_lock, size_word, word_count}
use Rattle.pq_hunt.specs.Words.{Means}
use Rattle.pq_hunt.specs.Views.{idle}
use Rattle.pq_hunt.specs.Flights.{Flight, flight}
use Rattle.pq_hunt.specs.Ties.{HuntTied}
use Rattle.pq_hunt.specs.Rules.{hunt_rule}
use Rattle.pq_hunt.proofs.Heap.Events.{event_open}
use Rattle.pq_nodes.specs.Facts.{NamesNodes}
use Rattle.pq_hunt.specs.NodeParts.{hunt_nodes}

-- each element of a list of one thing, and what stands for those past its end
alike : {A : Type 0} (n i : ℕ) (a : A) → get_or (replicate n a) i a ≡ a
alike zero i a = refl
alike (suc n) zero a = refl
alike (suc n) (suc i) a = alike n i a

-- the word 0 says that a node is Empty
zero_means : Means Empty 0
unfolding raw_of
zero_means = record {
  packed = record { tag = tags.Empty; owner = 0; entry = entry_of 0 0 };
  fits = (refl, refl, refl);
  number = refl;
  node = refl;
}

abbrev nobody : Post HuntPart
nobody = empty_post idle 0

-- the one post of a table that is opened
only : (j : ℕ) (p : Post HuntPart) → get_elem? (nobody ∷ []) j ≡ some p → nobody ≡ p
only zero p at = some-injective nobody p at
only (suc j) p at = absurd (some-ne-none p (sym at))

-- nobody waits
abbrev still : ℕ → Flight
still n = flight (entry_of 0 0) 0 0

module _ (capacity seats : ℕ) (words : List ℕ) (low : 1 ≤ seats) (high : seats ≤ capacity) (is : words ≡ replicate (word_count capacity) 0) where
  zeros : (i : ℕ) → slice_index words i ≡ 0
  zeros i = ap (λ (l : List ℕ). slice_index l i) is ∙ alike (word_count capacity) i 0

  long : length words ≡ word_count capacity
  long = ap length is ∙ length-replicate (word_count capacity) 0

  abbrev empty : List Node
  empty = replicate (capacity + 1) Empty

  no_guard : (j : ℕ) (p : Post HuntPart) (g : Guard) → get_elem? (nobody ∷ []) j ≡ some p → ¬ Contains p.own.guards g
  no_guard j p g at has = not_in g (subst (λ (q : Post HuntPart). Contains q.own.guards g) (sym (only j p at)) has)

  ties : HuntTied (limits_for capacity seats words) words (nobody ∷ []) []
  ties = record {
    long = long;
    seated = (low, high);
    size = 0;
    of = still;
    nodes = empty;
    tree = record {
      guarded = record {
        free = λ i lt unlocked. subst (λ (x : ℕ). Means (get_or empty i Empty) x) (sym (zeros (word_of i)))
            (subst (λ (v : Node). Means v 0) (sym (alike (capacity + 1) i Empty)) zero_means);
        held = λ j p g at has. absurd (no_guard j p g at has);
        view = λ i j p q g h at to has there e. absurd (no_guard i p g at has);
        once = λ j p g h at has there e. absurd (no_guard j p g at has);
      };
      names = λ j p at. subst (λ (q : Post HuntPart). NamesNodes hunt_nodes q) (only j p at) (record {
        holds = λ g has. absurd (not_in g has);
        named = λ i has. absurd (not_in (lock_of i) has);
        apart = tt;
      });
    };
    facts = event_open seats capacity still (λ n. refl);
    free = λ unlocked. zeros size_word;
    held = λ j p at has. absurd (not_in heap_lock (subst (λ (q : Post HuntPart). Contains q.locks heap_lock) (sym (only j p at)) has));
    told = λ j p at positive. let n : 0 ≡ p.number = ap (λ (q : Post HuntPart). q.number) (only j p at) in absurd (omega arith);
    borne = λ n waits. absurd (omega arith);
    owing = λ j p at. inl (ap (λ (q : Post HuntPart). q.owed) (sym (only j p at)));
    sent = λ n first last. let z = zeros n in omega arith;
    owes = λ j p x at has. absurd (not_in x (subst (λ (q : Post HuntPart). Contains q.owed x) (sym (only j p at)) has));
    lettered = λ j p at yes. let no : p.own.lettered ≡ false = ap (λ (q : Post HuntPart). q.own.lettered) (sym (only j p at)) in absurd (cc);
  }

  pub begins : seats ≤ 16 → Begins hunt_rule (limits_for capacity seats words) words
  begins few = record {
    seats = (low, few);
    letters = let n = long in omega arith;
    width = let n = long in omega arith;
    empty = zeros 0;
    zeros = λ n seat. zeros n;
    unlocked = λ i lock. zeros i;
    tied = ties;
  }
