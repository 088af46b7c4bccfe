-- The facts of offers stay.
use Rattle.std.proofs.Common.{◌≡◌, ◌⊎◌, ℕ, ◌<◌, true, false, List, [], ◌∷◌, ◌++◌, get_or, set, sym, refl, ap, ◌∙◌, subst, inl, inr, ⊎_elim, arith, min, Contains}
use Rattle.std.proofs.lemmas.List.Sums.{sum_by_push}
use mathlib.Core.Option.{some}
use lib.ListN.{get_elem?}
use native.Mathlib.Decide.{ℕ_discrete}
use mathlib.Core.Logic.{dite}
use Rattle.atomic_table.proofs.Lists.{at_set, at_snoc, at_longer, set_else}
use Rattle.pq_words.specs.declared.entries.Entry.{Entry}
use Rattle.pq_model.specs.History.{IsSeat}
use Rattle.pq_seats.specs.declared.views.Post.{Post}
use Rattle.pq_seats.specs.Views.{empty_post}
use Rattle.pq_seats.specs.Letters.{owed_count, owed_sum, letter_count, letter_sum}
use Rattle.pq_seats.proofs.Lists.{sum_kept, put_here, same_at, not_in}
use Rattle.pq_pool.specs.Layout.{builder_word}
use Rattle.pq_chunk.specs.declared.views.ChunkView.{ChunkView}
use Rattle.pq_chunk.specs.declared.views.BuilderView.{BuilderView}
use Rattle.pq_chunk.specs.Layout.{offer_word}
use Rattle.pq_chunk.specs.Views.{is_offered, idle_builder}
use Rattle.pq_chunk.specs.Offers.{IsUnoffered, IsStanding, IsAnswered, IsOffer, IsRead, OfferFacts}

-- the offer of this seat and what letters there are for it are as they were
pub record KeepsOffer (capacity : ℕ) (words words' : List ℕ) (posts posts' : List (Post ChunkView)) (n : ℕ) : Type 0 where
  pub offer : get_or words' (offer_word capacity n) 0 ≡ get_or words (offer_word capacity n) 0
  pub letter : get_or words' n 0 ≡ get_or words n 0
  pub count : letter_count n words' posts' ≡ letter_count n words posts
  pub sum : letter_sum n words' posts' ≡ letter_sum n words posts

-- where the words are, and what the seat owes
pub keeps_offer : (capacity : ℕ) (words words' : List ℕ) (posts : List (Post ChunkView)) (id : ℕ) (p p' : Post ChunkView) → get_elem? posts id ≡ some p → p'.owed ≡ p.owed → (n : ℕ)
    → get_or words' (offer_word capacity n) 0 ≡ get_or words (offer_word capacity n) 0 → get_or words' n 0 ≡ get_or words n 0 → KeepsOffer capacity words words' posts (set posts id p') n
keeps_offer capacity words words' posts id p p' at owed n offer letter =
    let a = sum_kept (λ (q : Post ChunkView). owed_count n q.owed) posts id p p' at (ap (owed_count n) owed) in
    let b = sum_kept (λ (q : Post ChunkView). owed_sum n q.owed) posts id p p' at (ap (owed_sum n) owed) in
    let c : min (get_or words' n 0) 1 ≡ min (get_or words n 0) 1 = ap (λ (z : ℕ). min z 1) letter in
    record { offer = offer; letter = letter; count = omega arith; sum = omega arith }

module _ (capacity : ℕ) (words words' : List ℕ) (posts posts' : List (Post ChunkView)) where
  pub unoffered_stays : (n : ℕ) → KeepsOffer capacity words words' posts posts' n → IsUnoffered capacity words posts n → IsUnoffered capacity words' posts' n
  unoffered_stays n s u = (s.offer ∙ u.0, s.count ∙ u.1)

  pub offer_stays : (p : Post ChunkView) → KeepsOffer capacity words words' posts posts' p.number → IsOffer capacity words posts p → IsOffer capacity words' posts' p
  offer_stays p s o = record {
    quiet = λ e. unoffered_stays p.number s (o.quiet e);
    offers = λ e. let r = o.offers e in (
      r.0,
      r.1,
      ⊎_elim
          (λ a. inl (record { offer = s.offer ∙ a.offer; unwritten = s.letter ∙ a.unwritten; not_back = λ z. a.not_back (sym s.sum ∙ z) }))
          (λ a. inr (s.offer ∙ a.0, s.count ∙ a.1)) r.2,
    );
  }

  pub read_stays : (x : ℕ × Entry) → KeepsOffer capacity words words' posts posts' x.0 → IsRead capacity words posts x → IsRead capacity words' posts' x
  read_stays x s r = record { seat = r.seat; offer = s.offer ∙ r.offer; unlettered = s.count ∙ r.unlettered }

module _ (capacity : ℕ) (words : List ℕ) (posts : List (Post ChunkView)) (t : OfferFacts capacity words posts) where
  -- The frame: no offer changes, and no letter, left or owed. The stepping seat may make a call where it has no offer
  pub offers_kept : (words' : List ℕ) (id : ℕ) (p p' : Post ChunkView) → get_elem? posts id ≡ some p
      → ((n : ℕ) → IsSeat 16 n → get_or words' (offer_word capacity n) 0 ≡ get_or words (offer_word capacity n) 0) → ((n : ℕ) → IsSeat 16 n → get_or words' n 0 ≡ get_or words n 0)
      → ((j : ℕ) (q : Post ChunkView) → get_elem? posts j ≡ some q → 0 < q.number → IsSeat 16 q.number)
      → p'.number ≡ p.number → p'.locks ≡ p.locks → p'.owed ≡ p.owed → p'.own.builder ≡ p.own.builder → is_offered p'.own.stage ≡ is_offered p.own.stage
      → (is_offered p.own.stage ≡ true → p'.flight ≡ p.flight)
      → OfferFacts capacity words' (set posts id p')
  offers_kept words' id p p' at offer letter seats number locks owed builder offered flight =
      let keeps : (n : ℕ) → IsSeat 16 n → KeepsOffer capacity words words' posts (set posts id p') n = λ n s. keeps_offer capacity words words' posts id p p' at owed n (offer n s) (letter n s) in record {
        each = λ j q to positive. ⊎_elim
            (λ e. subst (IsOffer capacity words' (set posts id p')) e.1
            (let some_number : 0 < p.number = subst (λ (z : ℕ). 0 < z) (sym (ap (λ (z : Post ChunkView). z.number) e.1) ∙ number) positive in
            let o = offer_stays capacity words words' posts (set posts id p') p (keeps p.number (seats id p at some_number)) (t.each id p at some_number) in record {
              quiet = λ no. subst (IsUnoffered capacity words' (set posts id p')) (sym number) (o.quiet (sym offered ∙ no));
              offers = λ yes. let was = sym offered ∙ yes in let r = o.offers was in (
                r.0,
                flight was ∙ r.1,
                subst (λ (n : ℕ). IsStanding capacity words' (set posts id p') n r.0 ⊎ IsAnswered capacity words' (set posts id p') n) (sym number) r.2,
              );
            }))
            (λ r. offer_stays capacity words words' posts (set posts id p') q (keeps q.number (seats j q r.1 positive)) (t.each j q r.1 positive))
            (at_set posts id j p' q to);
        owner = λ n s ne. let o = t.owner n s (λ z. ne (offer n s ∙ z)) in dite (ℕ_discrete o.0 id)
            (λ e. let is : o.1 ≡ p = same_at posts id o.1 p (subst (λ (z : ℕ). get_elem? posts z ≡ some o.1) e o.2) at in
            (id, p', put_here posts id p p' at, number ∙ (sym (ap (λ (z : Post ChunkView). z.number) is) ∙ o.3)))
            (λ d. (o.0, o.1, set_else posts id o.0 p' d ∙ o.2, o.3));
        unowed = λ j q to no. ⊎_elim
            (λ e. ap (λ (z : Post ChunkView). z.owed) (sym e.1) ∙ (owed ∙ t.unowed id p at
            (λ has. no (subst (λ (z : Post ChunkView). Contains z.locks builder_word) e.1 (subst (λ (l : List ℕ). Contains l builder_word) (sym locks) has)))))
            (λ r. t.unowed j q r.1 no)
            (at_set posts id j p' q to);
        read = λ j q to x has. let r : IsRead capacity words posts x = ⊎_elim
            (λ e. t.read id p at x (subst (λ (z : BuilderView). Contains z.offers x) (ap (λ (z : Post ChunkView). z.own.builder) (sym e.1) ∙ builder) has))
            (λ r. t.read j q r.1 x has)
            (at_set posts id j p' q to) in read_stays capacity words words' posts (set posts id p') x (keeps x.0 r.seat) r;
      }

  -- a new seat comes, which has no letter, and whose number nobody has
  pub offers_come : (n : ℕ) (own : ChunkView) → own.builder ≡ idle_builder → is_offered own.stage ≡ false → (0 < n → letter_count n words posts ≡ 0)
      → (0 < n → get_or words (offer_word capacity n) 0 ≡ 0) → OfferFacts capacity words (posts ++ empty_post own n ∷ [])
  offers_come n own builder idle unlettered unoffered =
      let f : Post ChunkView = empty_post own n in let posts' : List (Post ChunkView) = posts ++ f ∷ [] in
      let keeps : (i : ℕ) → KeepsOffer capacity words words posts posts' i = λ i.
      let a = sum_by_push (λ (q : Post ChunkView). owed_count i q.owed) posts f in let b = sum_by_push (λ (q : Post ChunkView). owed_sum i q.owed) posts f in
      let c : owed_count i [] ≡ 0 = refl in let d : owed_sum i [] ≡ 0 = refl in
      record { offer = refl; letter = refl; count = omega arith; sum = omega arith } in record {
        each = λ j q to positive. ⊎_elim
            (λ a. offer_stays capacity words words posts posts' q (keeps q.number) (t.each j q a positive))
            (λ e. subst (IsOffer capacity words posts') e
            (let some_number : 0 < n = subst (λ (z : ℕ). 0 < z) (sym (ap (λ (z : Post ChunkView). z.number) e)) positive in record {
              quiet = λ _. (unoffered some_number, (keeps n).count ∙ unlettered some_number);
              offers = λ yes. absurd (cc);
            }))
            (at_snoc posts f q j to);
        owner = λ i s ne. let o = t.owner i s ne in (o.0, o.1, at_longer posts (f ∷ []) o.0 o.1 o.2, o.3);
        unowed = λ j q to none. ⊎_elim (λ a. t.unowed j q a none) (λ e. ap (λ (z : Post ChunkView). z.owed) (sym e)) (at_snoc posts f q j to);
        read = λ j q to x has. ⊎_elim
            (λ a. read_stays capacity words words posts posts' x (keeps x.0) (t.read j q a x has))
            (λ e. absurd (not_in x (subst (λ (z : BuilderView). Contains z.offers x) (ap (λ (z : Post ChunkView). z.own.builder) (sym e) ∙ builder) has)))
            (at_snoc posts f q j to);
      }

  -- a seat without an offer goes
  pub offers_go : (id : ℕ) (p : Post ChunkView) (own : ChunkView) → get_elem? posts id ≡ some p → p.owed ≡ [] → is_offered p.own.stage ≡ false → own.builder ≡ idle_builder
      → OfferFacts capacity words (set posts id (empty_post own 0))
  offers_go id p own at owed idle builder =
      let f : Post ChunkView = empty_post own 0 in
      let keeps : (i : ℕ) → KeepsOffer capacity words words posts (set posts id f) i = λ i. keeps_offer capacity words words posts id p f at (sym owed) i refl refl in record {
        each = λ j q to positive. ⊎_elim
            (λ e. let z : 0 ≡ q.number = ap (λ (y : Post ChunkView). y.number) e.1 in absurd (omega arith))
            (λ r. offer_stays capacity words words posts (set posts id f) q (keeps q.number) (t.each j q r.1 positive))
            (at_set posts id j f q to);
        owner = λ n s ne. let o = t.owner n s ne in dite (ℕ_discrete o.0 id)
            (λ e. let is : o.1 ≡ p = same_at posts id o.1 p (subst (λ (z : ℕ). get_elem? posts z ≡ some o.1) e o.2) at in
            let mine : p.number ≡ n = sym (ap (λ (z : Post ChunkView). z.number) is) ∙ o.3 in let low = s.0 in
            absurd (ne (subst (λ (z : ℕ). get_or words (offer_word capacity z) 0 ≡ 0) mine ((t.each id p at (omega arith)).quiet idle).0)))
            (λ d. (o.0, o.1, set_else posts id o.0 f d ∙ o.2, o.3));
        unowed = λ j q to none. ⊎_elim (λ e. ap (λ (z : Post ChunkView). z.owed) (sym e.1)) (λ r. t.unowed j q r.1 none) (at_set posts id j f q to);
        read = λ j q to x has. ⊎_elim
            (λ e. absurd (not_in x (subst (λ (z : BuilderView). Contains z.offers x) (ap (λ (z : Post ChunkView). z.own.builder) (sym e.1) ∙ builder) has)))
            (λ r. read_stays capacity words words posts (set posts id f) x (keeps x.0) (t.read j q r.1 x has))
            (at_set posts id j f q to);
      }
