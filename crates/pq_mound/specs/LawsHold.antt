-- The laws of the mound's rule. They stand here since its `impl` names them.
pub mod Sums
pub mod Held
pub mod Locks
pub mod Steps
pub mod NodeSteps
use Rattle.std.proofs.Common.{◌≡◌, ◌≢◌, ℕ, ◌+◌, ◌<◌, ◌≤◌, List, [], ◌∷◌, ◌++◌, map, set, ⊎_elim, refl, sym, ap, ◌∙◌}
use Rattle.std.proofs.Common.{subst, arith}
use Rattle.std.specs.Prelude.{Contains, slice_index, None, Some}
use mathlib.Core.Option.{some}
use lib.ListN.{get_elem?}
use Rattle.atomic_table.proofs.Lists.{at_set, at_snoc, at_map}
use Rattle.pq_words.specs.declared.letters.Letter.{Letter}
use Rattle.pq_words.specs.declared.letters.Letter.TheVariants.{Nothing, At, Back}
use Rattle.pq_words.specs.Letters.{letter_number}
use Rattle.pq_model.specs.History.{left}
use Rattle.pq_seats.specs.declared.views.Limits.{Limits}
use Rattle.pq_seats.specs.declared.views.Post.{Post}
use Rattle.pq_seats.specs.declared.views.View.{View}
use Rattle.pq_seats.specs.Views.{post_of, empty_post}
use Rattle.pq_seats.specs.Rules.{Table, Lawful, Holds, Stands}
use Rattle.pq_seats.proofs.Lists.{not_in}
use Rattle.pq_seats.proofs.Keeps.{number_low}
use Rattle.pq_seats.proofs.Resting.{plain_at_rest}
use Rattle.pq_nodes.specs.Layout.{lock_of}
use Rattle.pq_nodes.proofs.Keeping.{come_keeps, frame_keeps}
use Rattle.pq_mound.specs.declared.views.MoundPart.{MoundPart}
use Rattle.pq_mound.specs.declared.views.OwnCell.{OwnCell}
use Rattle.pq_mound.specs.Facts.{MoundFacts}
use Rattle.pq_mound.specs.Layout.{cells_lock}
use Rattle.pq_mound.specs.NodeParts.{mound_nodes}
use Rattle.pq_mound.specs.Ties.{held_by, IsFreeList, IsAlone, MoundTied}
use Rattle.pq_mound.specs.Views.{idle, held_number}
use Rattle.pq_mound.specs.Rules.{mound_rule}
use Rattle.pq_mound.specs.LawsHold.Held.{held_same, held_more}
use Rattle.pq_mound.specs.LawsHold.Locks.{lock_cases}

-- a seat that holds nothing is alone
idle_alone : (c n : ℕ) (words : List ℕ) → IsAlone c words (empty_post idle n)
idle_alone c n words = record { quiet = refl; owes = refl; holds = λ o is. absurd (cc) }

module _ (k : Limits) (s : Table MoundPart) (h : Holds mound_rule k s) where
  abbrev ps : List (Post MoundPart)
  ps = map post_of s.views

  abbrev t : MoundTied k s.words ps (left h.history)
  t = h.tied

  -- a seat comes
  comes : (n : ℕ) → MoundTied k s.words (ps ++ empty_post idle n ∷ []) (left h.history)
  comes n = let p : Post MoundPart = empty_post idle n in let f = t.cells in record {
    long = t.long;
    seated = t.seated;
    free = t.free;
    nodes = t.nodes;
    whole = t.whole;
    tree = come_keeps mound_nodes s.words ps t.nodes p t.tree refl refl;
    facts = subst (λ (z : List ℕ). MoundFacts k.capacity t.free z t.nodes (left h.history)) (sym
        (held_more ps p refl)) t.facts;
    linked = t.linked;
    cells = record {
      chained = f.chained;
      starts = f.starts;
      counted = f.counted;
      named = λ j q to has. ⊎_elim (λ a. f.named j q a has)
          (λ e. absurd (not_in cells_lock (subst (λ (z : Post MoundPart). Contains z.locks cells_lock) (sym e) has)))
          (at_snoc ps p q j to);
    };
    ranged = t.ranged;
    alone = λ j q to. ⊎_elim (λ a. t.alone j q a)
        (λ e. subst (λ (z : Post MoundPart). IsAlone k.capacity s.words z) e (idle_alone k.capacity n s.words))
        (at_snoc ps p q j to);
    unwritten = t.unwritten;
  }

  -- a seat that holds nothing goes
  goes : (j n : ℕ) (v : View MoundPart) → Stands mound_rule s j v → v.post ≡ empty_post idle n
      → MoundTied k s.words (set ps j (empty_post idle 0)) (left h.history)
  goes j n v at plain = let p : Post MoundPart = empty_post idle 0 in let f = t.cells in
      let pat : get_elem? ps j ≡ some v.post = at_map post_of s.views j v at in record {
        long = t.long;
        seated = t.seated;
        free = t.free;
        nodes = t.nodes;
        whole = t.whole;
        tree = frame_keeps mound_nodes s.words ps t.nodes t.tree j v.post pat s.words p (λ i. refl) (λ i. refl)
            (ap (λ (q : Post MoundPart). q.own.guards) (sym plain))
            (λ i has. subst (λ (q : Post MoundPart). Contains q.locks (lock_of i)) plain has)
            (λ i has. absurd (not_in (lock_of i) has));
        facts = subst (λ (z : List ℕ). MoundFacts k.capacity t.free z t.nodes (left h.history))
            (sym (held_same ps j v.post p pat (ap (λ (q : Post MoundPart). held_number q.own.held)
            (sym plain)))) t.facts;
        linked = t.linked;
        cells = record {
          chained = f.chained;
          starts = f.starts;
          counted = f.counted;
          named = λ i q to has. ⊎_elim
              (λ e. absurd (not_in cells_lock (subst (λ (z : Post MoundPart). Contains z.locks cells_lock)
              (sym e.1) has)))
              (λ a. f.named i q a.1 has) (at_set ps j i p q to);
        };
        ranged = t.ranged;
        alone = λ i q to. ⊎_elim
            (λ e. subst (λ (z : Post MoundPart). IsAlone k.capacity s.words z) e.1 (idle_alone k.capacity 0 s.words))
            (λ a. t.alone i q a.1) (at_set ps j i p q to);
        unwritten = t.unwritten;
      }

  -- no seat has a letter
  no_letter : (j : ℕ) (v : View MoundPart) → Stands mound_rule s j v → 0 < v.post.number
      → slice_index s.words v.post.number ≡ 0
  no_letter j v at positive = let low = number_low mound_rule k s h j v at positive in
      t.unwritten v.post.number positive low.1

nothing : (l : Letter) → letter_number l ≡ 0 → l ≡ Nothing
nothing Nothing e = refl
nothing (At place) e = absurd (omega arith)
nothing Back e = absurd (omega arith)

pub mound_laws : Lawful mound_rule
mound_laws = record {
  apart = λ k i is. ⊎_elim (λ e. omega arith) (λ r. let low = r.0 in omega arith) (lock_cases k.capacity i is);
  within = λ k i is. ⊎_elim (λ e. omega arith) (λ r. let high = r.1 in omega arith) (lock_cases k.capacity i is);
  idles = refl;
  admits = λ k s h n none_there fresh_number. comes k s h n;
  spends = λ k s h j v at rest.
      goes k s h j v.post.number v at (plain_at_rest mound_rule v.post idle (λ e. e) rest);
  takes_over = λ k s h j v at positive written not_back. absurd (written (no_letter k s h j v at positive));
  takes_back = λ k s h j v at positive e. let none = no_letter k s h j v at positive in absurd (omega arith);
  informed = λ k s h j v l at positive is. nothing l (is ∙ no_letter k s h j v at positive);
}
