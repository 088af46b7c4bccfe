-- The heap's rule outlives the steps that the base makes on its own.
pub mod Owners
pub mod Locks
pub mod Frames
pub mod Changes
pub mod NodeSteps
use Rattle.std.proofs.Common.{◌≡◌, ◌≢◌, ◌⊎◌, Some, None, ℕ, zero, suc, ◌+◌, ◌*◌, ◌%◌, ◌<◌, ◌≤◌, Bool, true, false}
use Rattle.std.proofs.Common.{List, [], ◌∷◌, ◌++◌, map, length, get_or, set, min, inl, inr, ⊎_elim, refl, sym, ap}
use Rattle.std.proofs.Common.{◌∙◌, subst, arith, length-set, get_or-set_same, get_or-set_other}
use Rattle.std.specs.Prelude.{Contains, slice_index, slice_set}
use Rattle.std.specs.List.{sum_by}
use mathlib.Core.Option.{some, some-injective, some-ne-none}
use lib.ListN.{get_elem?}
use native.Mathlib.Decide.{ℕ_discrete}
use mathlib.Core.Logic.{dite}
use Rattle.std.proofs.lemmas.List.Sums.{sum_by-append}
use Rattle.std.proofs.Common.{eqb, eqb-true, eq-eqb}
use Rattle.std.proofs.lemmas.Bool.Decides.{eqb_tells}
use Rattle.std.proofs.lemmas.Bool.{leb-true, ltb-true}
use Rattle.std.proofs.Common.{leb, ltb, ◌&&◌, ◌||◌}
use Rattle.atomic_table.proofs.Lists.{at_set, at_snoc, at_map, at_longer, set_else}
use Rattle.pq_words.specs.declared.entries.Entry.{Entry}
use Rattle.pq_model.specs.History.{left}
use Rattle.pq_seats.specs.declared.views.Limits.{Limits}
use Rattle.pq_seats.specs.declared.views.Post.{Post}
use Rattle.pq_seats.specs.declared.views.View.{View}
use Rattle.pq_model.specs.Passes.{lane}
use Rattle.pq_seats.specs.Views.{HasFirst, lanes_of, post_of, empty_post}
use Rattle.pq_seats.specs.Letters.{back, owed_count, letter_count}
use Rattle.pq_seats.specs.Rules.{Table, Rule, Holds, Lawful, Stands, taken_over, sent_back}
use Rattle.pq_seats.proofs.Lists.{sum_kept, sum_two, at_unmap, put_here, not_in, first_in, lanes_of_has, numbered_once}
use Rattle.pq_seats.proofs.Resting.{plain_at_rest}
use Rattle.pq_hunt.specs.Flights.{Flight}
use Rattle.pq_hunt.specs.Guards.{Guard}
use Rattle.pq_hunt.specs.declared.views.HuntPart.{HuntPart}
use Rattle.pq_nodes.specs.Layout.{lock_of, word_of}
use Rattle.pq_hunt.specs.Layout.{heap_lock, size_word, is_lock, word_count}
use Rattle.pq_hunt.specs.Views.{idle}
use Rattle.pq_nodes.specs.Facts.{locks_in, words_in}
use Rattle.pq_nodes.specs.Views.{HaveNodesApart}
use Rattle.pq_hunt.specs.Ties.{IsInserting, HuntTied}
use Rattle.pq_words.specs.declared.letters.Letter.{Letter}
use Rattle.pq_words.specs.declared.letters.Letter.TheVariants.{Nothing, At, Back}
use Rattle.pq_words.specs.Letters.{letter_number}
use Rattle.pq_hunt.specs.Rules.{hunt_rule, told, KnowsLetter}
use Rattle.pq_nodes.proofs.Keeping.{come_keeps, frame_keeps}
use Rattle.pq_hunt.specs.NodeParts.{hunt_nodes}
use Rattle.pq_nodes.proofs.Tables.{same_locks, same_words}
use Rattle.pq_hunt.specs.LawsHold.Locks.{lock_cases}
use Rattle.pq_hunt.specs.LawsHold.Frames.{one_number, number_low, no_guard, told_on}
use Rattle.pq_nodes.specs.Parts.{kind_of}

module _ (k : Limits) (s : Table HuntPart) (h : Holds hunt_rule k s) where
  abbrev ps : List (Post HuntPart)
  ps = map post_of s.views

  abbrev t : HuntTied k s.words ps (left h.history)
  t = h.tied

  -- a seat that holds nothing is added behind the others
  admits_one : (n : ℕ) → (0 < n → letter_count n s.words ps ≡ 0) → (0 < n → (j : ℕ) (v : View HuntPart) → get_elem? s.views j ≡ some v → v.post.number ≢ n)
      → HuntTied k s.words (ps ++ empty_post idle n ∷ []) (left h.history)
  admits_one n none_there fresh_number =
      let f : Post HuntPart = empty_post idle n in
      let same : (m : ℕ) → letter_count m s.words (ps ++ f ∷ []) ≡ letter_count m s.words ps =
      (λ m. let a = sum_by-append (λ (p : Post HuntPart). owed_count m p.owed) ps (f ∷ []) in omega arith) in
      let waits_not : 0 < n → (t.of n).waiting ≡ 0 =
      (λ pos. dite (ℕ_discrete (t.of n).waiting 0) (λ e. e) (λ ne. let b = t.borne n (omega arith) in let v = at_unmap post_of s.views b.0 b.1 b.2 in
      absurd (fresh_number pos b.0 v.0 v.1 (ap (λ (z : Post HuntPart). z.number) v.2 ∙ b.3)))) in
      record {
        long = t.long;
        seated = t.seated;
        size = t.size;
        of = t.of;
        nodes = t.nodes;
        tree = come_keeps hunt_nodes s.words ps t.nodes f t.tree refl refl;
        facts = t.facts;
        free = t.free;
        held = λ j p at has. ⊎_elim (λ a. t.held j p a has) (λ e. absurd (not_in heap_lock (subst (λ (z : Post HuntPart). Contains z.locks heap_lock) (sym e) has))) (at_snoc ps f p j at);
        told = λ j p at pos. ⊎_elim
            (λ a. told_on s.words s.words ps (ps ++ f ∷ []) t.of p (same p.number) (t.told j p a pos))
            (λ e. subst (λ (z : Post HuntPart). IsInserting s.words (ps ++ f ∷ []) t.of z) e (let is : n ≡ p.number = ap (λ (z : Post HuntPart). z.number) e in record {
              told = record { most = omega arith; told = let a = waits_not (omega arith) in let b = same n in let c = none_there (omega arith) in omega arith };
              place = λ z. absurd (omega arith);
              flies = λ z. absurd (omega arith);
              rests = λ z. refl;
            }))
            (at_snoc ps f p j at);
        borne = λ m w. let b = t.borne m w in (b.0, b.1, at_longer ps (f ∷ []) b.0 b.1 b.2, b.3, b.4);
        owing = λ j p at. ⊎_elim (λ a. t.owing j p a) (λ e. inl (ap (λ (z : Post HuntPart). z.owed) (sym e))) (at_snoc ps f p j at);
        sent = t.sent;
        owes = λ j p x at has. ⊎_elim (λ a. t.owes j p x a has) (λ e. absurd (not_in x (subst (λ (z : Post HuntPart). Contains z.owed x) (sym e) has))) (at_snoc ps f p j at);
        lettered = λ j p at is. ⊎_elim (λ a. t.lettered j p a is) (λ e. let bad : false ≡ true = ap (λ (z : Post HuntPart). z.own.lettered) e ∙ is in absurd (cc)) (at_snoc ps f p j at);
      }

  module _ (j : ℕ) (v : View HuntPart) (at : get_elem? s.views j ≡ some v) where
    pat : get_elem? ps j ≡ some v.post
    pat = at_map post_of s.views j v at

    -- a seat that holds nothing is spent
    spends_one : (n : ℕ) → v.post ≡ empty_post idle n → HuntTied k s.words (set ps j (empty_post idle 0)) (left h.history)
    spends_one n plain =
        let f : Post HuntPart = empty_post idle 0 in
        let same : (m : ℕ) → letter_count m s.words (set ps j f) ≡ letter_count m s.words ps =
        (λ m. let a = sum_kept (λ (p : Post HuntPart). owed_count m p.owed) ps j v.post f pat (ap (λ (z : Post HuntPart). owed_count m z.owed) (sym plain)) in omega arith) in
        record {
          long = t.long;
          seated = t.seated;
          size = t.size;
          of = t.of;
          nodes = t.nodes;
          tree = frame_keeps hunt_nodes s.words ps t.nodes t.tree j v.post pat s.words f (λ i. refl) (λ i. refl)
              (ap (λ (z : Post HuntPart). z.own.guards) (sym plain))
              (λ i has. subst (λ (z : Post HuntPart). Contains z.locks (lock_of i)) plain has)
              (λ i has. absurd (not_in (lock_of i) has));
          facts = t.facts;
          free = t.free;
          held = λ i p to has. ⊎_elim (λ e. absurd (not_in heap_lock (subst (λ (z : Post HuntPart). Contains z.locks heap_lock) (sym e.1) has))) (λ a. t.held i p a.1 has) (at_set ps j i f p to);
          told = λ i p to pos. ⊎_elim
              (λ e. let is : 0 ≡ p.number = ap (λ (z : Post HuntPart). z.number) e.1 in absurd (omega arith))
              (λ a. told_on s.words s.words ps (set ps j f) t.of p (same p.number) (t.told i p a.1 pos))
              (at_set ps j i f p to);
          borne = λ m w. let b = t.borne m w in dite (ℕ_discrete b.0 j)
              (λ e. let is : b.1 ≡ v.post = some-injective b.1 v.post (sym b.2 ∙ (subst (λ (z : ℕ). get_elem? ps z ≡ some v.post) (sym e) pat)) in
              let number : b.1.number ≡ n = ap (λ (z : Post HuntPart). z.number) (is ∙ plain) in
              let none_climbs : b.1.own.climbing ≡ 0 = ap (λ (z : Post HuntPart). z.own.climbing) (is ∙ plain) in
              let m_is = b.3 in let pos = b.4 in
              let old = (t.told b.0 b.1 b.2 (omega arith)).told.told in
              let waiting : (t.of b.1.number).waiting ≡ (t.of m).waiting = ap (λ (z : ℕ). (t.of z).waiting) b.3 in
              absurd (omega arith))
              (λ ne. (b.0, b.1, set_else ps j b.0 f ne ∙ b.2, b.3, b.4));
          owing = λ i p to. ⊎_elim (λ e. inl (ap (λ (z : Post HuntPart). z.owed) (sym e.1))) (λ a. t.owing i p a.1) (at_set ps j i f p to);
          sent = t.sent;
          owes = λ i p x to has. ⊎_elim (λ e. absurd (not_in x (subst (λ (z : Post HuntPart). Contains z.owed x) (sym e.1) has))) (λ a. t.owes i p x a.1 has) (at_set ps j i f p to);
          lettered = λ i p to is. ⊎_elim (λ e. let bad : false ≡ true = ap (λ (z : Post HuntPart). z.own.lettered) e.1 ∙ is in absurd (cc)) (λ a. t.lettered i p a.1 is) (at_set ps j i f p to);
        }

    -- a seat takes its letter
    takes_one : 0 < v.post.number → v.post.number ≤ 16 → slice_index s.words v.post.number ≢ 0
        → HuntTied k (set s.words v.post.number 0) (set ps j (taken_over hunt_rule v.post)) (left h.history)
    takes_one positive low written =
        let me : ℕ = v.post.number in
        let p' : Post HuntPart = taken_over hunt_rule v.post in
        let ws : List ℕ = set s.words me 0 in
        let long = t.long in
        let here : get_or ws me 0 ≡ 0 = get_or-set_same s.words me 0 0 (omega arith) in
        let other : (i : ℕ) → i ≢ me → get_or ws i 0 ≡ get_or s.words i 0 = (λ i d. get_or-set_other s.words me i 0 0 d) in
        let owed : (m : ℕ) → sum_by (λ (p : Post HuntPart). owed_count m p.owed) (set ps j p') ≡ sum_by (λ (p : Post HuntPart). owed_count m p.owed) ps =
        (λ m. sum_kept (λ (p : Post HuntPart). owed_count m p.owed) ps j v.post p' pat refl) in
        let mine = t.told j v.post pat positive in
        let mine_most = mine.told.most in
        let mine_waits = mine.told.told in
        let same : (m : ℕ) → m ≢ me → letter_count m ws (set ps j p') ≡ letter_count m s.words ps = (λ m d. (λ z. min (other m d z) 1 + owed m z)) in
        let differs : (i : ℕ) (q : Post HuntPart) → i ≢ j → get_elem? ps i ≡ some q → 0 < q.number → q.number ≢ me =
        (λ i q d to pos e. d (one_number k s h j i v.post q pat to positive (sym e))) in
        record {
          long = length-set s.words me 0 ∙ t.long;
          seated = t.seated;
          size = t.size;
          of = t.of;
          nodes = t.nodes;
          tree = frame_keeps hunt_nodes s.words ps t.nodes t.tree j v.post pat ws p' (same_locks s.words me 0 (omega arith))
              (same_words s.words me 0 (omega arith)) refl (λ i has. has) (λ i has. has);
          facts = t.facts;
          free = λ e. other size_word (λ z. omega arith) ∙ t.free (sym (other heap_lock (λ z. omega arith)) ∙ e);
          held = λ i q to has. let old : (q.own.size_counted ≡ t.size) × (slice_index s.words size_word ≡ q.own.size_stored) = ⊎_elim
              (λ e. subst (λ (z : Post HuntPart). (z.own.size_counted ≡ t.size) × (slice_index s.words size_word ≡ z.own.size_stored)) e.1 (t.held j v.post pat (subst (λ (z : Post HuntPart). Contains z.locks heap_lock) (sym e.1) has)))
              (λ a. t.held i q a.1 has) (at_set ps j i p' q to) in
              (old.0, other size_word (λ z. omega arith) ∙ old.1);
          told = λ i q to pos. ⊎_elim
              (λ e. subst (λ (z : Post HuntPart). IsInserting ws (set ps j p') t.of z) e.1 (record {
                told = record { most = omega arith; told = let o = owed me in omega (arith, here) };
                place = λ z. absurd (omega arith);
                flies = λ z. absurd (omega arith);
                rests = λ z. refl;
              }))
              (λ a. told_on s.words ws ps (set ps j p') t.of q (same q.number (differs i q a.0 a.1 pos)) (t.told i q a.1 pos))
              (at_set ps j i p' q to);
          borne = λ m w. let b = t.borne m w in dite (ℕ_discrete b.0 j)
              (λ e. (j, p', put_here ps j v.post p' pat, (let is : b.1 ≡ v.post = some-injective b.1 v.post (sym b.2 ∙ (subst (λ (z : ℕ). get_elem? ps z ≡ some v.post) (sym e) pat)) in ap (λ (z : Post HuntPart). z.number) (sym is) ∙ b.3), b.4))
              (λ ne. (b.0, b.1, set_else ps j b.0 p' ne ∙ b.2, b.3, b.4));
          owing = λ i q to. ⊎_elim
              (λ e. subst (λ (z : Post HuntPart). (z.owed ≡ []) ⊎ ((g : Guard) × Contains z.own.guards g × (g.node ≡ 1))) e.1 (t.owing j v.post pat))
              (λ a. t.owing i q a.1) (at_set ps j i p' q to);
          sent = λ n pos high. dite (ℕ_discrete n me)
              (λ e. let z : get_or ws n 0 ≡ 0 = ap (λ (m : ℕ). get_or ws m 0) e ∙ here in omega arith)
              (λ d. let z = other n d in let q = t.sent n pos high in omega arith);
          owes = λ i q x to has. ⊎_elim (λ e. t.owes j v.post x pat (subst (λ (z : Post HuntPart). Contains z.owed x) (sym e.1) has)) (λ a. t.owes i q x a.1 has) (at_set ps j i p' q to);
          lettered = λ i q to is. ⊎_elim
              (λ e. let bad : false ≡ true = ap (λ (z : Post HuntPart). z.own.lettered) e.1 ∙ is in absurd (cc))
              (λ a. let old = t.lettered i q a.1 is in dite (ℕ_discrete q.number me)
              (λ e. absurd (differs i q a.0 a.1 (omega arith) e)) (λ d. λ z. old (sym (other q.number d) ∙ z)))
              (at_set ps j i p' q to);
        }

-- what the seat knows of its letter, by the word
knows_letter : (p : HuntPart) (l : Letter) (word : ℕ) → (p.lettered ≡ true → word ≢ 0) → word < back → letter_number l ≡ word → KnowsLetter p l
knows_letter p Nothing word written low is = not_true p.lettered (λ e. written e (sym is))
  where
    not_true : (b : Bool) → (b ≡ true → ⊥) → b ≡ false
    not_true true never = absurd (never refl)
    not_true false never = refl
knows_letter p (At place) word written low is = tt
knows_letter p Back word written low is = absurd (omega arith)

pub hunt_laws : Lawful hunt_rule
hunt_laws = record {
  apart = λ k i is. let r = lock_cases k.capacity i is in ⊎_elim (λ e. omega arith) (λ e. let low = e.0 in omega arith) r;
  within = λ k i is. let r = lock_cases k.capacity i is in ⊎_elim (λ e. omega arith) (λ e. let high = e.1 in omega arith) r;
  admits = λ k s h n none_there fresh_number. admits_one k s h n none_there fresh_number;
  idles = refl;
  spends = λ k s h j v at rest. spends_one k s h j v at v.post.number (plain_at_rest hunt_rule v.post idle (λ e. e) rest);
  takes_over = λ k s h j v at positive written not_back. takes_one k s h j v at positive (number_low k s h j v at positive).1 written;
  takes_back = λ k s h j v at positive e. let sent = h.tied.sent v.post.number positive (number_low k s h j v at positive).1 in absurd (omega arith);
  informed = λ k s h j v l at positive is. knows_letter v.post.own l (slice_index s.words v.post.number) (h.tied.lettered j v.post (at_map post_of s.views j v at))
      (h.tied.sent v.post.number positive (number_low k s h j v at positive).1) is;
}
