-- The laws of the spot's rule. They stand here since its `impl` names them.
use Rattle.std.proofs.Common.{◌≡◌, ◌≢◌, Some, None, ℕ, suc, ◌+◌, ◌<◌, List, [], ◌∷◌, ◌++◌, map, get_or, set, min, refl, ap, ◌∙◌, sym, subst, ⊎_elim, arith, Contains}
use Rattle.std.proofs.Common.{eqb-true, get_or-set_same, get_or-set_other, sum_by, false}
use Rattle.std.proofs.lemmas.List.Sums.{sum_by-append}
use mathlib.Core.Option.{some}
use lib.ListN.{get_elem?}
use native.Mathlib.Decide.{ℕ_discrete}
use mathlib.Core.Logic.{dite}
use Rattle.atomic_table.proofs.Lists.{at_set, at_snoc, at_map, at_longer, set_else}
use Rattle.pq_words.specs.declared.entries.Entry.{Entry}
use Rattle.pq_model.specs.History.{IsSeat, left}
use Rattle.pq_model.specs.Limits.{max_seats}
use Rattle.pq_seats.specs.declared.views.Limits.{Limits}
use Rattle.pq_seats.specs.declared.views.Post.{Post}
use Rattle.pq_seats.specs.declared.views.View.{View}
use Rattle.pq_seats.specs.Views.{post_of, empty_post}
use Rattle.pq_seats.specs.Letters.{owed_count, letter_count}
use Rattle.pq_seats.specs.Rules.{Table, Lawful, Holds, Stands}
use Rattle.pq_seats.proofs.Lists.{not_in, sum_kept, same_at, put_here, at_unmap}
use Rattle.pq_seats.proofs.Keeps.{number_low, number_in, one_number}
use Rattle.pq_seats.proofs.Leaving.{one_letter}
use Rattle.pq_seats.proofs.Resting.{plain_at_rest}
use Rattle.pq_spot.specs.declared.views.SpotPart.{SpotPart}
use Rattle.pq_spot.specs.Spot.{token, part, idle, lock_word, IsOffered, SpotTied, spot_rule}

abbrev pub P : Type 0
P = Post SpotPart

-- A post changes, and the words
module _ (words ws : List ℕ) (posts : List P) (id : ℕ) (p p' : P) (at : get_elem? posts id ≡ some p) where
  -- no letters come or go, for one seat and for all
  pub same_count : (n : ℕ) → owed_count n p'.owed ≡ owed_count n p.owed → get_or ws n 0 ≡ get_or words n 0 → letter_count n ws (set posts id p') ≡ letter_count n words posts
  same_count n owed word = let a = sum_kept (λ (q : P). owed_count n q.owed) posts id p p' at owed in λ j. min (word j) 1 + a j

  pub same_letters : (n : ℕ) → p'.owed ≡ p.owed → get_or ws n 0 ≡ get_or words n 0 → letter_count n ws (set posts id p') ≡ letter_count n words posts
  same_letters n owed word = same_count n (ap (owed_count n) owed) word

  abbrev pub Quiet : Type 0
  Quiet = (j : ℕ) (q : P) → get_elem? (set posts id p') j ≡ some q → IsSeat max_seats q.number → q.own.out ≡ false → letter_count q.number ws (set posts id p') ≡ 0

  -- who has nothing out has no letter
  pub quiet_on : (k : Limits) (m : List Entry) (t : SpotTied k words posts m) → (IsSeat max_seats p'.number → p'.own.out ≡ false → letter_count p'.number ws (set posts id p') ≡ 0)
      → ((j : ℕ) (q : P) → j ≢ id → get_elem? posts j ≡ some q → IsSeat max_seats q.number → q.own.out ≡ false → letter_count q.number ws (set posts id p') ≡ letter_count q.number words posts) → Quiet
  quiet_on k m t mine others j q to seat loose = ⊎_elim
      (λ e. subst (λ (z : P). letter_count z.number ws (set posts id p') ≡ 0) e.1 (mine (subst (λ (z : P). IsSeat max_seats z.number) (sym e.1) seat) (ap (λ (z : P). z.own.out) e.1 ∙ loose)))
      (λ r. others j q r.0 r.1 seat loose ∙ t.quiet j q r.1 seat loose)
      (at_set posts id j p' q to)

  pub quiet_stays : (k : Limits) (m : List Entry) (t : SpotTied k words posts m) → p'.number ≡ p.number → p'.own.out ≡ p.own.out → p'.owed ≡ p.owed
      → ((n : ℕ) → IsSeat max_seats n → get_or ws n 0 ≡ get_or words n 0) → Quiet
  quiet_stays k m t number out owed word = quiet_on k m t
      (λ seat loose. same_letters p'.number owed (word p'.number seat)
      ∙ (ap (λ (n : ℕ). letter_count n words posts) number ∙ t.quiet id p at (subst (λ (n : ℕ). IsSeat max_seats n) number seat) (sym out ∙ loose)))
      (λ j q ne to seat loose. same_letters q.number owed (word q.number seat))

  -- the offer is another seat's
  pub others_offer : (n : ℕ) (o : IsOffered n words posts) → o.id ≢ id → letter_count n ws (set posts id p') ≡ 0 → IsOffered n ws (set posts id p')
  others_offer n o ne none_there = record {
    seat = o.seat;
    id = o.id;
    post = o.post;
    stands = set_else posts id o.id p' ne ∙ o.stands;
    number = o.number;
    flight = o.flight;
    out = o.out;
    unwritten = none_there;
  }

  -- the offer stands on
  pub offer_on : p'.number ≡ p.number → p'.flight ≡ p.flight → p'.own.out ≡ p.own.out → (n : ℕ) → letter_count n ws (set posts id p') ≡ 0 → IsOffered n words posts → IsOffered n ws (set posts id p')
  offer_on number flight out n none_there o = dite (ℕ_discrete o.id id)
      (λ e. let is : p ≡ o.post = same_at posts id p o.post at (subst (λ (z : ℕ). get_elem? posts z ≡ some o.post) e o.stands) in record {
        seat = o.seat;
        id = id;
        post = p';
        stands = put_here posts id p p' at;
        number = number ∙ (ap (λ (z : P). z.number) is ∙ o.number);
        flight = flight ∙ (ap (λ (z : P). z.flight) is ∙ o.flight);
        out = out ∙ (ap (λ (z : P). z.own.out) is ∙ o.out);
        unwritten = none_there;
      })
      (λ ne. others_offer n o ne none_there)

  pub offer_stays : p'.number ≡ p.number → p'.flight ≡ p.flight → p'.own.out ≡ p.own.out → p'.owed ≡ p.owed → (n : ℕ) → get_or ws n 0 ≡ get_or words n 0 → IsOffered n words posts → IsOffered n ws (set posts id p')
  offer_stays number flight out owed n word o = offer_on number flight out n (same_letters n owed word ∙ o.unwritten) o

  -- neither the lock nor the spot changes
  pub frame : (k : Limits) (m : List Entry) (t : SpotTied k words posts m) → p'.locks ≡ p.locks → p'.own.counted ≡ p.own.counted → p'.own.stored ≡ p.own.stored
      → get_or ws 17 0 ≡ get_or words 17 0 → get_or ws 18 0 ≡ get_or words 18 0
      → ((n : ℕ) → t.counted ≡ suc (suc n) → IsOffered (suc n) ws (set posts id p')) → Quiet → SpotTied k ws (set posts id p') m
  frame k m t locks counted stored lock spot offers quiet = record {
    room = t.room;
    counted = t.counted;
    entries = t.entries;
    offers = offers;
    free = λ e. spot ∙ t.free (sym lock ∙ e);
    mine = λ j q to has. ⊎_elim
        (λ e. let r = t.mine id p at (subst (λ (z : List ℕ). Contains z lock_word) locks (subst (λ (z : P). Contains z.locks lock_word) (sym e.1) has)) in
        (ap (λ (z : P). z.own.counted) (sym e.1) ∙ (counted ∙ r.0), ap (λ (z : P). z.own.stored) (sym e.1) ∙ (stored ∙ (r.1 ∙ sym spot))))
        (λ r. let old = t.mine j q r.1 has in (old.0, old.1 ∙ sym spot))
        (at_set posts id j p' q to);
    quiet = quiet;
  }

-- where there is a letter for a seat, it offers nothing
pub lettered : (n m : ℕ) (words : List ℕ) (posts : List P) → get_or words m 0 ≢ 0 → IsOffered n words posts → n ≢ m
lettered n m words posts word o e = let u = o.unwritten in let same : get_or words n 0 ≡ get_or words m 0 = ap (λ (z : ℕ). get_or words z 0) e in absurd (word (sym same ∙ none_of (get_or words n 0) _ u))
  where
    none_of : (w r : ℕ) → min w 1 + r ≡ 0 → w ≡ 0
    none_of w r e = omega arith

module _ (k : Limits) (s : Table SpotPart) (h : Holds spot_rule k s) where
  abbrev ps : List P
  ps = map post_of s.views

  -- each other seat has another number
  pub other_number : (j : ℕ) (v : View SpotPart) → Stands spot_rule s j v → v.post.number ≢ 0 → (i : ℕ) (q : P) → i ≢ j → get_elem? ps i ≡ some q → q.number ≢ v.post.number
  other_number j v at ne i q apart to e = let b = at_unmap post_of s.views i q to in
      apart (one_number spot_rule k s h j i v b.0 at b.1 ne (sym e ∙ sym (ap (λ (z : P). z.number) b.2)))

  -- a seat's letter is taken
  takes : (j : ℕ) (v : View SpotPart) (p' : P) → Stands spot_rule s j v → 0 < v.post.number → get_or s.words v.post.number 0 ≢ 0
      → p'.number ≡ v.post.number → p'.locks ≡ v.post.locks → p'.own ≡ part v.post.own.stored v.post.own.counted false → p'.owed ≡ v.post.owed
      → SpotTied k (set s.words v.post.number 0) (set ps j p') (left h.history)
  takes j v p' at positive word number locks own owed =
      let t = h.tied in let there = at_map post_of s.views j v at in let n : ℕ = v.post.number in let low = (number_low spot_rule k s h j v at positive).1 in
      let ws : List ℕ = set s.words n 0 in
      let other : (i : ℕ) → i ≢ n → get_or ws i 0 ≡ get_or s.words i 0 = λ i ne. get_or-set_other s.words n i 0 0 ne in
      let wide = h.letters in let positive_number : n ≢ 0 = λ z. omega arith in
      let most = one_letter spot_rule k s h n (number_in spot_rule k s h j v at positive_number) in
      let none_owed : sum_by (λ (q : P). owed_count n q.owed) ps ≡ 0 = omega arith in
      let still_none = sum_kept (λ (q : P). owed_count n q.owed) ps j v.post p' there (ap (owed_count n) owed) in
      let here : get_or ws n 0 ≡ 0 = get_or-set_same s.words n 0 0 (omega arith) in
      let empty : letter_count n ws (set ps j p') ≡ 0 = (λ i. min (here i) 1 + (still_none ∙ none_owed) i) in
      frame s.words ws ps j v.post p' there k (left h.history) t locks (ap (λ (z : SpotPart). z.counted) own) (ap (λ (z : SpotPart). z.stored) own) (other 17 (λ z. omega arith)) (other 18 (λ z. omega arith))
      (λ m is. let o = t.offers m is in let ne = lettered (suc m) n s.words ps word o in
      others_offer s.words ws ps j v.post p' there (suc m) o
      (λ e. let same : v.post ≡ o.post = same_at ps j v.post o.post there (subst (λ (z : ℕ). get_elem? ps z ≡ some o.post) e o.stands) in ne (sym o.number ∙ sym (ap (λ (z : P). z.number) same)))
      (same_letters s.words ws ps j v.post p' there (suc m) owed (other (suc m) ne) ∙ o.unwritten))
      (quiet_on s.words ws ps j v.post p' there k (left h.history) t
      (λ seat loose. ap (λ (z : ℕ). letter_count z ws (set ps j p')) number ∙ empty)
      (λ i q ne to seat loose. same_letters s.words ws ps j v.post p' there q.number owed (other q.number (other_number j v at positive_number i q ne to))))

  -- a seat comes
  comes : (f : P) → f.owed ≡ [] → f.locks ≡ [] → (0 < f.number → letter_count f.number s.words ps ≡ 0) → SpotTied k s.words (ps ++ f ∷ []) (left h.history)
  comes f owed locks none_there = let t = h.tied in
      let same : (n : ℕ) → letter_count n s.words (ps ++ f ∷ []) ≡ letter_count n s.words ps = (λ n. let a = sum_by-append (λ (q : P). owed_count n q.owed) ps (f ∷ []) in let b = ap (owed_count n) owed in omega arith) in record {
        room = t.room;
        counted = t.counted;
        entries = t.entries;
        offers = λ n is. let o = t.offers n is in record {
          seat = o.seat;
          id = o.id;
          post = o.post;
          stands = at_longer ps (f ∷ []) o.id o.post o.stands;
          number = o.number;
          flight = o.flight;
          out = o.out;
          unwritten = same (suc n) ∙ o.unwritten;
        };
        free = t.free;
        quiet = λ j p at seat loose. same p.number ∙ ⊎_elim
            (λ a. t.quiet j p a seat loose)
            (λ e. let low = seat.0 in subst (λ (z : P). letter_count z.number s.words ps ≡ 0) e (none_there (subst (λ (z : P). 0 < z.number) (sym e) low)))
            (at_snoc ps f p j at);
        mine = λ j p at has. ⊎_elim (λ a. t.mine j p a has) (λ e. absurd (not_in lock_word (subst (λ (z : List ℕ). Contains z lock_word) locks (subst (λ (z : P). Contains z.locks lock_word) (sym e) has)))) (at_snoc ps f p j at);
      }

  -- a seat that holds nothing goes
  goes : (j : ℕ) (v : View SpotPart) (p' : P) → Stands spot_rule s j v → v.post.flight ≡ None → p'.number ≡ 0 → p'.owed ≡ v.post.owed → p'.locks ≡ v.post.locks → p'.own ≡ v.post.own
      → SpotTied k s.words (set ps j p') (left h.history)
  goes j v p' at quiet number owed locks own =
      let t = h.tied in let there = at_map post_of s.views j v at in
      frame s.words s.words ps j v.post p' there k (left h.history) t locks (ap (λ (z : SpotPart). z.counted) own) (ap (λ (z : SpotPart). z.stored) own) refl refl
      (λ m is. let o = t.offers m is in
      others_offer s.words s.words ps j v.post p' there (suc m) o
      (λ e. let same : v.post ≡ o.post = same_at ps j v.post o.post there (subst (λ (z : ℕ). get_elem? ps z ≡ some o.post) e o.stands) in
      let bad : None ≡ Some token = sym quiet ∙ (ap (λ (z : P). z.flight) same ∙ o.flight) in absurd (cc))
      (same_letters s.words s.words ps j v.post p' there (suc m) owed refl ∙ o.unwritten))
      (quiet_on s.words s.words ps j v.post p' there k (left h.history) t
      (λ seat loose. let low = seat.0 in absurd (omega arith))
      (λ i q ne to seat loose. same_letters s.words s.words ps j v.post p' there q.number owed refl))

pub spot_laws : Lawful spot_rule
spot_laws = record {
  apart = λ k i is. let e = eqb-true i 17 is in omega arith;
  within = λ k i is. let e = eqb-true i 17 is in omega arith;
  admits = λ k s h n none_there fresh_number. comes k s h (empty_post idle n) refl refl none_there;
  idles = refl;
  spends = λ k s h j v at rest. let plain = plain_at_rest spot_rule v.post idle (λ e. e) rest in goes k s h j v (empty_post idle 0) at (ap (λ (z : P). z.flight) plain) refl (sym (ap (λ (z : P). z.owed) plain)) (sym (ap (λ (z : P). z.locks) plain)) (sym (ap (λ (z : P). z.own) plain));
  takes_over = λ k s h j v at positive word not_back. takes k s h j v _ at positive word refl refl refl refl;
  takes_back = λ k s h j v at positive e. takes k s h j v _ at positive (λ z. omega arith) refl refl refl refl;
  informed = λ k s h j v l at positive is. tt;
}
