-- The addition to a count, by which an insert draws its place.
use Rattle.std.proofs.Common.{◌≡◌, ◌≢◌, ℕ, suc, ◌+◌, ◌*◌, ◌<◌, ◌≤◌, false, cond, eqb, List, map, length, get_or, set, sym, refl, ap, ◌∙◌, subst, inl, ⊎_elim, arith, Contains, ne_eqb, length-set, get_or-set_same, get_or-set_other}
use mathlib.Core.Option.{some}
use lib.ListN.{get_elem?}
use native.Mathlib.Decide.{ℕ_discrete}
use mathlib.Core.Logic.{dite}
use Rattle.pq_words.specs.declared.entries.Entry.{Entry}
use Rattle.pq_words.specs.declared.place_words.PlaceWord.{PlaceWord}
use Rattle.pq_words.specs.declared.place_words.PlaceWord.TheVariants.{Empty, Pending, In, Frozen}
use Rattle.pq_words.specs.PlaceWords.{place_number}
use Rattle.pq_words.specs.Fronts.{here}
use Rattle.pq_model.specs.History.{left}
use Rattle.pq_seats.specs.declared.views.Post.{Post}
use Rattle.pq_seats.specs.declared.views.View.{View}
use Rattle.pq_seats.specs.Views.{post_of}
use Rattle.pq_seats.proofs.Lists.{sum_set, sum_one, test_same, test_other, put_here}
use Rattle.pq_seats.proofs.Owning.{own_stays}
use Rattle.pq_pool.specs.declared.views.PoolState.{PoolState}
use Rattle.pq_pool.specs.Layout.{builder_word}
use Rattle.pq_pool.specs.States.{state_of, IsInUse}
use Rattle.pq_pool.specs.FactsStay.Framing.{frame, frame-counted}
use Rattle.pq_chunk.specs.declared.views.ChunkView.{ChunkView}
use Rattle.pq_chunk.specs.declared.views.Stage.{Stage}
use Rattle.pq_chunk.specs.declared.views.Stage.TheVariants.{Idle, Armed, Drawn}
use Rattle.pq_chunk.specs.Layout.{count_word, offer_word, chunk_count}
use Rattle.pq_chunk.specs.Places.{IsSealed, IsSealedPlace}
use Rattle.pq_chunk.specs.Views.{pool_of, armed_for, armed_stage, stage_weight, is_offered, outside_of}
use Rattle.pq_chunk.specs.Building.{IsNote}
use Rattle.pq_chunk.specs.Stages.{IsStage, IsWithin, HasDrawn}
use Rattle.pq_chunk.specs.Rules.{chunk_rule, ChunkTied}
use Rattle.pq_chunk.specs.LawsHold.{chunk_lawful, are_seats, right_count}
use Rattle.pq_chunk.specs.Steps.{with_own, with_view, staged}
use Rattle.pq_chunk.specs.Laws.{Moment, Keeps, WordIs, CountsKeep}
use Rattle.pq_chunk.specs.Stays.Fronts.{front_kept, told_stays}
use Rattle.pq_chunk.specs.Stays.Chains.{chain_kept, KeepsLinks}
use Rattle.pq_chunk.specs.Stays.Placing.{places_step, drawn_kept, within_stays, reading_stays, KeepsPlaces}
use Rattle.pq_chunk.specs.Stays.Filling.{content_kept, weight_stays}
use Rattle.pq_chunk.specs.Stays.Notes.{notes_kept}
use Rattle.pq_chunk.specs.Stays.Offering.{offers_kept}
use Rattle.pq_chunk.specs.Stays.Whole.{idle_still, few_here}
use Rattle.pq_chunk.proofs.Lives.{times-cons, times_in, live_most}
use Rattle.pq_chunk.proofs.FrontSteps.{there}

sealed_some : (w : ℕ) → IsSealed w → w ≢ place_number Empty
sealed_some w s e = by_place s.place s.sealed s.is
  where
    by_place : (p : PlaceWord) → IsSealedPlace p → w ≡ place_number p → ⊥
    by_place Empty q is = q
    by_place (Pending o x) q is = q
    by_place (In x) q is = omega arith
    by_place Frozen q is = omega arith

module _ (v : View ChunkView) (M : Moment v) (c : ℕ) (e : Entry) (x : ℕ) (is : WordIs M (count_word c) x) (was : v.post.own.stage ≡ Armed c e) where
  abbrev T : ChunkTied M.limits M.table.words (map post_of M.table.views) (left M.holds.history)
  T = M.holds.tied

  abbrev ps : List (Post ChunkView)
  ps = map post_of M.table.views

  abbrev words : List ℕ
  words = M.table.words

  within : IsWithin T.shape.front.first T.shape.chunks T.shape.old words v.post.own.pool v.post.flight c e
  within = subst (λ (z : Stage). IsStage T.shape.front.first T.shape.chunks T.shape.old words v.post.own.pool v.post.number v.post.flight z) was (T.places.each M.id v.post (there v M)).stage

  in_table : (c < T.pool.chunks.count) × IsInUse T.shape.counted c
  in_table = let safe = (T.pool.pinned M.id v.post (there v M) M.seated within.0.on.pinned).safe c within.0.on.stands in
      (safe.0, subst (λ (z : PoolState). IsInUse z c) T.counts safe.1.0)

  armed_one : armed_for c v.post ≡ 1
  armed_one = ap (armed_stage c) was ∙ test_same c c 1 0 refl

  pub below_limit : x < 80
  below_limit = let a = T.places.counts c in_table.1 in let b = sum_one (armed_for c) ps M.id v.post (there v M) in let d = armed_one in omega arith

  module _ (to : Stage) (weighs : (f : ℕ → ℕ) → stage_weight f to ≡ 0) (arms : (d : ℕ) → armed_stage d to ≡ 0) (quiet : is_offered to ≡ false) where
    abbrev p' : Post ChunkView
    p' = with_own v.post (staged v.post.own to)

    abbrev ws : List ℕ
    ws = set words (114 + 69 * c) (suc x)

    other : (j : ℕ) → j ≢ 114 + 69 * c → get_or ws j 0 ≡ get_or words j 0
    other j ne = get_or-set_other words (114 + 69 * c) j (suc x) 0 ne

    hit : get_or ws (114 + 69 * c) 0 ≡ suc x
    hit = let a = in_table.0 in let long = T.pool.long in let room = T.pool.chunks.room in get_or-set_same words (114 + 69 * c) (suc x) 0 (omega arith)

    pub links : (d : ℕ) → KeepsLinks words ws d
    links d = record { next = other (115 + 69 * d) (λ z. omega arith); low = other (116 + 69 * d) (λ z. omega arith); high = other (117 + 69 * d) (λ z. omega arith) }

    pub places : KeepsPlaces words ws
    places d i lt = other (50 + 69 * d + i) (λ z. omega arith)

    -- no note is of the count, since the chunk is not new
    unnoted : (j : ℕ) (q : Post ChunkView) → get_elem? ps j ≡ some q → (i y : ℕ) → IsNote (chunk_count M.limits.capacity) T.shape.counted T.shape.old q.own.builder.outside words i y → i ≢ 114 + 69 * c
    unnoted j q at i y n z = ⊎_elim
        (λ b. ⊎_elim (λ a. omega arith) (λ r. ⊎_elim (λ a. omega arith) (λ a. omega arith) r) b)
        (λ r. ⊎_elim (λ f. let a = f.2 in let lt = f.1 in omega arith)
        (λ o. ⊎_elim
        (λ a. let same : n.chunk ≡ c = omega arith in ⊎_elim
        (λ built. let used = in_table.1 in let one : state_of T.shape.counted c ≡ 1 = subst (λ (u : ℕ). state_of T.shape.counted u ≡ 1) same built in omega arith)
        (λ new. ⊎_elim
        (λ chained. let l = T.chain.lives c in let m = live_most T.shape.counted c in let a = times_in c T.shape.chunks chained in let b = times-cons c T.shape.front.first T.shape.chunks in
        let d = sum_one (outside_of c) ps j q at in let f = times_in c q.own.builder.outside (subst (λ (u : ℕ). Contains q.own.builder.outside u) same new.0) in omega arith)
        (λ gone. new.1.0 (subst (λ (u : ℕ). Contains T.shape.old.inserts u) (sym same) gone))
        within.0.insert)
        o.0)
        (λ a. let b = a.2 in let lt = a.1 in omega arith)
        o.1)
        r)
        n.steady

    pub counted_up : IsStage T.shape.front.first T.shape.chunks T.shape.old ws v.post.own.pool v.post.number v.post.flight to
        → ((i : ℕ) → i < 64 → i ≡ x → HasDrawn (set ps M.id p') c i) → Keeps M (count_word c) (suc x) (with_view v (staged v.post.own to))
    counted_up stage mine =
        let k = M.limits in let m = left M.holds.history in let at = there v M in let p = v.post in let count = right_count k M.table M.holds in let low = in_table.0 in
        let same : (j : ℕ) → builder_word ≤ j → j < 50 → get_or ws j 0 ≡ get_or words j 0 = λ j a b. other j (λ z. omega arith) in
        let states : (d : ℕ) → get_or ws (118 + 69 * d) 0 ≡ get_or words (118 + 69 * d) 0 = λ d. other (118 + 69 * d) (λ z. omega arith) in
        let nexts : (d : ℕ) → get_or ws (115 + 69 * d) 0 ≡ get_or words (115 + 69 * d) 0 = λ d. other (115 + 69 * d) (λ z. omega arith) in
        let not_offered : is_offered p.own.stage ≡ false = ap is_offered was in
        let few = few_here k words ps m T in
        let tied : ChunkTied k ws (set ps M.id p') m = record {
          shape = T.shape;
          sized = T.sized;
          pool = frame pool_of k words ws ps T.pool M.id p p' at refl refl refl (length-set words (114 + 69 * c) (suc x)) same states nexts;
          counts = frame-counted pool_of k words ws ps T.pool M.id p p' at refl refl refl (length-set words (114 + 69 * c) (suc x)) same states nexts ∙ T.counts;
          front = front_kept k T.shape.front (length m) words ps T.front ws M.id p p' at (other 0 (λ z. omega arith)) (told_stays words ws ps M.id p p' at (λ j a b. other j (λ z. omega arith)) refl) refl refl;
          chain = chain_kept T.shape.counted T.shape.front.first T.shape.chunks T.shape.old words ps T.chain T.shape.counted ws M.id p p' at (λ d. refl) (λ d u. u) links (λ d j lt s. places d j lt)
              (λ d has. let w = weight_stays (λ _. 1) words ws d (λ j lt. places d j lt) in omega arith) refl (idle_still k words ps m T M.id p p' at refl refl);
          places = places_step T.shape.counted T.shape.front.first T.shape.chunks T.shape.old words ps T.places T.shape.counted ws M.id p p' at places links
              (λ d has j lt below empty.
              let still : j < get_or words (count_word d) 0 → HasDrawn (set ps M.id p') d j = λ b. drawn_kept ps M.id p p' at d j (λ y z. absurd (let q = was in cc)) (T.places.drawn d has j lt b empty) in
              dite (ℕ_discrete d c)
              (λ q. let now : get_or ws (114 + 69 * d) 0 ≡ suc x = ap (λ (u : ℕ). get_or ws (114 + 69 * u) 0) q ∙ hit in let before : get_or words (114 + 69 * d) 0 ≡ x = ap (λ (u : ℕ). get_or words (114 + 69 * u) 0) q ∙ is in
              dite (ℕ_discrete j x) (λ r. subst (λ (u : ℕ). HasDrawn (set ps M.id p') u j) (sym q) (mine j lt r)) (λ ne. still (omega arith)))
              (λ ne. let o = other (114 + 69 * d) (λ z. ne (omega arith)) in still (omega arith)))
              (λ d used. let a = T.places.counts d used in let b = sum_set (armed_for d) ps M.id p p' at in let z = arms d in let y : armed_for d p ≡ cond (eqb c d) 1 0 = ap (armed_stage d) was in dite (ℕ_discrete c d)
              (λ q. let o = test_same c d 1 0 q in let now : get_or ws (114 + 69 * d) 0 ≡ suc x = ap (λ (u : ℕ). get_or ws (114 + 69 * u) 0) (sym q) ∙ hit in let before : get_or words (114 + 69 * d) 0 ≡ x = ap (λ (u : ℕ). get_or words (114 + 69 * u) 0) (sym q) ∙ is in omega arith)
              (λ ne. let o = test_other c d 1 0 ne in let q = other (114 + 69 * d) (λ u. ne (omega arith)) in omega arith))
              (λ d j y z. absurd (⊎_elim (λ a. let q = was in cc) (λ a. let q = was in cc) z)) refl
              (record { stage = stage; reading = reading_stays T.shape.front.first T.shape.chunks T.shape.old words ws links p.own.pool p.own.pool (λ d o. o) places p.own.reading (T.places.each M.id p at).reading });
          content = content_kept m T.shape.firsts T.shape.rest (here T.shape.front) T.shape.front.first T.shape.chunks words ps T.content ws M.id p p' at few places (links T.shape.front.first).high
              (λ f. weighs f ∙ sym (ap (stage_weight f) was));
          building = notes_kept (chunk_count k.capacity) T.shape.counted T.shape.old words ps T.building T.shape.counted ws M.id p p' at (λ d b. b) (λ j q to i y n. other i (unnoted j q to i y n)) refl;
          offers = offers_kept k.capacity words ps T.offers ws M.id p p' at (λ n s. let a = s.0 in other (offer_word k.capacity n) (λ z. omega arith)) (λ n s. let a = s.1 in other n (λ z. omega arith)) (are_seats k M.table M.holds)
              refl refl refl refl (quiet ∙ sym not_offered) (λ _. refl);
        } in
        own_stays chunk_rule k chunk_lawful M.table M.holds M.id v p' M.here (λ z. let a = M.seated in omega arith) (record { number = refl; locks = refl; owed = refl; flight = inl refl })
        (114 + 69 * c) (suc x) (omega arith) (ne_eqb (114 + 69 * c) 17 (λ z. omega arith)) tied

pub counts_keep : CountsKeep
counts_keep v M c e x is was =
    let T' = M.holds.tied in let ps' = map post_of M.table.views in let words' = M.table.words in let at = there v M in
    let w = within v M c e x is was in let used = (in_table v M c e x is was).1 in
    let p : Post ChunkView = with_own v.post (staged v.post.own (Drawn c x e)) in (
      below_limit v M c e x is was,
      λ lt. counted_up v M c e x is was (Drawn c x e) (λ f. refl) (λ d. refl) refl
          (record {
            within = within_stays T'.shape.front.first T'.shape.chunks T'.shape.old words' (set words' (114 + 69 * c) (suc x)) (links v M c e x is was (Drawn c x e) (λ f. refl) (λ d. refl) refl) v.post.own.pool v.post.own.pool (λ d o. o) v.post.flight c e w;
            place = lt;
            chained = λ z. let empty = sym (places v M c e x is was (Drawn c x e) (λ f. refl) (λ d. refl) refl c x lt) ∙ z in
                ⊎_elim (λ q. q) (λ gone. absurd (sealed_some _ (T'.chain.sealed c gone used x lt) empty)) w.0.insert;
          })
          (λ i low same. record { id = M.id; post = p; stands = put_here ps' M.id v.post p at; entry = e; drawn = ap (λ (z : ℕ). let s : Stage = Drawn c z e in s) (sym same) }),
      λ high. counted_up v M c e x is was Idle (λ f. refl) (λ d. refl) refl tt (λ i low same. absurd (omega arith)),
    )
