-- A seat takes its letter: the offer was placed, or sent back.
use Rattle.std.proofs.Common.{◌≡◌, ◌≢◌, ◌⊎◌, Option, Some, None, ℕ, suc, ◌+◌, ◌-◌, ◌<◌, Bool, true, false, List, get_or, set, sym, refl, ap, ◌∙◌, subst, inl, inr, ⊎_elim, arith, sum_by, length, Contains, get_or-set_same, get_or-set_other}
use mathlib.Core.Option.{some}
use lib.ListN.{get_elem?}
use native.Mathlib.Decide.{ℕ_discrete}
use mathlib.Core.Logic.{dite}
use Rattle.atomic_table.proofs.Lists.{at_set, set_else}
use Rattle.pq_words.specs.declared.entries.Entry.{Entry}
use Rattle.pq_words.specs.Fronts.{here}
use Rattle.pq_model.specs.History.{IsSeat}
use Rattle.pq_seats.specs.declared.views.Limits.{Limits}
use Rattle.pq_seats.specs.declared.views.Post.{Post}
use Rattle.pq_seats.specs.Letters.{back, owed_count, letter_count}
use Rattle.pq_seats.proofs.Lists.{test_same, test_other, sum_set, sum_kept, same_at, put_here}
use Rattle.pq_pool.specs.Layout.{builder_word}
use Rattle.pq_pool.specs.FactsStay.Framing.{seat_stays, seat_stays-counted}
use Rattle.pq_chunk.specs.declared.views.ChunkView.{ChunkView}
use Rattle.pq_chunk.specs.declared.views.Stage.{Stage}
use Rattle.pq_chunk.specs.declared.views.Stage.TheVariants.{Idle, AtFirst, Past, At, Within, Armed, Drawn, Waiting, Marked, Offered}
use Rattle.pq_chunk.specs.Views.{pool_of, one_for, claim_of, armed_of, armed_stage, stage_weight, is_offered}
use Rattle.pq_chunk.specs.Letters.{tells, told_by, told}
use Rattle.pq_chunk.specs.Offers.{OfferFacts, IsOffer, IsRead, IsAnswered}
use Rattle.pq_chunk.specs.Rules.{ChunkTied}
use Rattle.pq_chunk.specs.Stays.Sums.{sum_to_one}
use Rattle.pq_chunk.specs.Stays.Fronts.{front_step}
use Rattle.pq_chunk.specs.Stays.Filling.{content_post}
use Rattle.pq_chunk.specs.Stays.Offering.{keeps_offer, offer_stays, read_stays, KeepsOffer}
use Rattle.pq_chunk.specs.Stays.Whole.{low_tied, low_offers, few_here, AreSeats}

pub either_way : (b : Bool) → (b ≡ true) ⊎ (b ≡ false)
either_way true = inl refl
either_way false = inr refl

pub offered_is : (s : Stage) → is_offered s ≡ true → s ≡ Offered
offered_is Idle e = absurd (cc)
offered_is (AtFirst c) e = absurd (cc)
offered_is (Past c d) e = absurd (cc)
offered_is (At c d) e = absurd (cc)
offered_is (Within c d) e = absurd (cc)
offered_is (Armed c d) e = absurd (cc)
offered_is (Drawn c i d) e = absurd (cc)
offered_is (Waiting c i d) e = absurd (cc)
offered_is (Marked c i d) e = absurd (cc)
offered_is Offered e = refl

abbrev pub told_own : ChunkView → ChunkView
told_own o = record o { stage = Idle }

module _ (k : Limits) (words : List ℕ) (posts : List (Post ChunkView)) (m : List Entry) (t : ChunkTied k words posts m)
    (id : ℕ) (p : Post ChunkView) (at : get_elem? posts id ≡ some p) (seat : IsSeat 16 p.number) (seats : AreSeats posts)
    (alone : (j : ℕ) (q : Post ChunkView) → j ≢ id → get_elem? posts j ≡ some q → q.number ≢ p.number)
    (written : get_or words p.number 0 ≢ 0) where
  abbrev n : ℕ
  n = p.number

  positive : 0 < n
  positive = let a = seat.0 in omega arith

  mine : IsOffer k.capacity words posts p
  mine = t.offers.each id p at positive

  was_offered : is_offered p.own.stage ≡ true
  was_offered = ⊎_elim (λ y. y) (λ z. let q = (mine.quiet z).1 in absurd (omega arith)) (either_way (is_offered p.own.stage))

  pub flies : (e : Entry) × (p.flight ≡ Some e)
  flies = let o = mine.offers was_offered in (o.0, o.1)

  answered : IsAnswered k.capacity words posts n
  answered = let o = mine.offers was_offered in ⊎_elim (λ s. absurd (written s.unwritten)) (λ a. a) o.2

  stage_is : p.own.stage ≡ Offered
  stage_is = offered_is p.own.stage was_offered

  module _ (flight : Option Entry) where
    abbrev p' : Post ChunkView
    p' = record p { flight = flight; own = told_own p.own }

    abbrev ws : List ℕ
    ws = set words n 0

    in_table : n < length words
    in_table = let a = t.pool.long in let b = t.pool.chunks.room in let c = seat.1 in omega arith

    hit : get_or ws n 0 ≡ 0
    hit = get_or-set_same words n 0 0 in_table

    other : (j : ℕ) → j ≢ n → get_or ws j 0 ≡ get_or words j 0
    other j ne = get_or-set_other words n j 0 0 ne

    -- how many letters tell a place: this one no more
    fewer_told : told ws (set posts id p') + tells (get_or words n 0) ≡ told words posts
    fewer_told =
        let low = seat.0 in let high = seat.1 in
        let f : ℕ → ℕ = λ i. tells (get_or ws (suc i) 0) in let g : ℕ → ℕ = λ i. tells (get_or words (suc i) 0) in
        let one = sum_to_one f g 16 (n - 1) (omega arith) (λ i lt ne. ap tells (other (suc i) (λ z. ne (omega arith)))) in
        let is : suc (n - 1) ≡ n = omega arith in
        let a : f (n - 1) ≡ tells (get_or ws n 0) = ap (λ (z : ℕ). tells (get_or ws z 0)) is in
        let a' : tells (get_or ws n 0) ≡ 0 = ap tells hit in
        let b : g (n - 1) ≡ tells (get_or words n 0) = ap (λ (z : ℕ). tells (get_or words z 0)) is in
        let c = sum_kept told_by posts id p p' at refl in omega arith

    offers : OfferFacts k.capacity ws (set posts id p')
    offers = let keeps : (i : ℕ) → IsSeat 16 i → i ≢ n → KeepsOffer k.capacity words ws posts (set posts id p') i
        = λ i s ne. keeps_offer k.capacity words ws posts id p p' at refl i (low_offers k words posts m t n 0 seat.1 i s) (other i ne) in
        let one = answered.1 in let gone = hit in
        let owed = sum_kept (λ (q : Post ChunkView). owed_count n q.owed) posts id p p' at refl in record {
          each = λ j q to some_number. ⊎_elim
              (λ e. subst (IsOffer k.capacity ws (set posts id p')) e.1 (record {
                quiet = λ _. (low_offers k words posts m t n 0 seat.1 n seat ∙ answered.0, omega arith);
                offers = λ yes. absurd (cc);
              }))
              (λ r. offer_stays k.capacity words ws posts (set posts id p') q (keeps q.number (seats j q r.1 some_number) (alone j q r.0 r.1)) (t.offers.each j q r.1 some_number))
              (at_set posts id j p' q to);
          owner = λ i s ne. let o = t.offers.owner i s (λ z. ne (low_offers k words posts m t n 0 seat.1 i s ∙ z)) in dite (ℕ_discrete o.0 id)
              (λ e. let is : o.1 ≡ p = same_at posts id o.1 p (subst (λ (z : ℕ). get_elem? posts z ≡ some o.1) e o.2) at in
              (id, p', put_here posts id p p' at, sym (ap (λ (z : Post ChunkView). z.number) is) ∙ o.3))
              (λ d. (o.0, o.1, set_else posts id o.0 p' d ∙ o.2, o.3));
          unowed = λ j q to none. ⊎_elim
              (λ e. ap (λ (z : Post ChunkView). z.owed) (sym e.1) ∙ t.offers.unowed id p at (λ has. none (subst (λ (z : Post ChunkView). Contains z.locks builder_word) e.1 has)))
              (λ r. t.offers.unowed j q r.1 none)
              (at_set posts id j p' q to);
          read = λ j q to x has.
              let still : (z : Post ChunkView) (l : ℕ) → get_elem? posts l ≡ some z → Contains z.own.builder.offers x → IsRead k.capacity ws (set posts id p') x
              = λ z l there in_z. let r = t.offers.read l z there x in_z in let none = r.unlettered in
              read_stays k.capacity words ws posts (set posts id p') x (keeps x.0 r.seat (λ e. let two : letter_count x.0 words posts ≡ letter_count n words posts = ap (λ (y : ℕ). letter_count y words posts) e in absurd (omega arith))) r in
              ⊎_elim
              (λ e. still p id at (subst (λ (z : Post ChunkView). Contains z.own.builder.offers x) (sym e.1) has))
              (λ r. still q j r.1 has)
              (at_set posts id j p' q to);
        }

    taken : told ws (set posts id p') + sum_by claim_of posts ≡ told words posts + sum_by claim_of (set posts id p') → ChunkTied k ws (set posts id p') m
    taken counts = let few = few_here k words posts m t in let used = t.front.used in let a = t.front.armed in
        let armed = sum_kept armed_of posts id p p' at refl in let low = seat.0 in
        low_tied k words posts m t n 0 seat.1 t.shape.front m t.shape.firsts t.shape.rest id p p' at refl few
        (seat_stays pool_of k words posts t.pool id p p' at refl refl refl)
        (seat_stays-counted pool_of k words posts t.pool id p p' at refl refl refl ∙ t.counts)
        (front_step k t.shape.front (length m) words posts t.front t.shape.front (length m) ws (set posts id p') (other 0 (λ z. omega arith) ∙ t.front.packed) t.front.fits t.front.enough
        (omega arith) t.front.bound (omega arith))
        refl refl (λ c. sym (ap (armed_stage c) stage_is))
        (record {
          drawn = λ c i e z. absurd (let q = stage_is in cc);
          put = λ c i e z. absurd (⊎_elim (λ y. let q = stage_is in cc) (λ y. let q = stage_is in cc) z);
          freezing = refl;
        })
        (record { stage = tt; reading = (t.places.each id p at).reading })
        (content_post m t.shape.firsts t.shape.rest (here t.shape.front) t.shape.front.first t.shape.chunks words posts t.content id p p' at (λ f. sym (ap (stage_weight f) stage_is)))
        offers

  -- the letter tells a place: the claim is no more
  pub told_place : get_or words n 0 ≢ back → ChunkTied k (set words n 0) (set posts id (record p { flight = None; own = told_own p.own })) m
  told_place not_back = let t' = fewer_told None in
      let one : tells (get_or words n 0) ≡ 1 = test_other (get_or words n 0) 0 0 _ written ∙ test_other (get_or words n 0) back 0 1 not_back in
      let s = sum_set claim_of posts id p (record p { flight = None; own = told_own p.own }) at in
      let c : claim_of p ≡ 1 = ap one_for flies.1 in taken None (omega arith)

  -- the letter is Back: the claim stands
  pub told_back : get_or words n 0 ≡ back → ChunkTied k (set words n 0) (set posts id (record p { own = told_own p.own })) m
  told_back is_back = let t' = fewer_told p.flight in
      let none : tells (get_or words n 0) ≡ 0 = test_other (get_or words n 0) 0 0 _ written ∙ test_same (get_or words n 0) back 0 1 is_back in
      let s = sum_kept claim_of posts id p (record p { own = told_own p.own }) at refl in taken p.flight (omega arith)
