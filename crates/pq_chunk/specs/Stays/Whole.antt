-- A step of the pool keeps the whole rule, a seat may come and go, and so does a step on a low word: the front word or
-- a letter.
use Rattle.std.proofs.Common.{◌≡◌, ◌≢◌, ◌⊎◌, None, ℕ, ◌+◌, ◌*◌, ◌<◌, ◌≤◌, eqb, cond, Bool, List, [], ◌∷◌, ◌++◌, length, get_or, set, sym, refl, ap, ◌∙◌, subst, ⊎_elim, arith, Contains, length-set, get_or-set_other}
use mathlib.Core.Option.{some}
use lib.ListN.{get_elem?}
use Rattle.pq_words.specs.declared.entries.Entry.{Entry}
use Rattle.pq_words.specs.declared.fronts.Front.{Front}
use Rattle.pq_words.specs.Fronts.{here}
use Rattle.pq_model.specs.History.{IsSeat}
use Rattle.pq_seats.specs.declared.views.Limits.{Limits}
use Rattle.pq_seats.specs.declared.views.Post.{Post}
use Rattle.pq_seats.specs.Views.{empty_post}
use Rattle.pq_pool.specs.declared.views.PoolState.{PoolState}
use Rattle.pq_pool.specs.Layout.{builder_word}
use Rattle.pq_pool.specs.States.{state_of, IsInUse, IsBuilt}
use Rattle.pq_pool.specs.Facts.{PoolFacts}
use Rattle.pq_pool.specs.Builds.{Rests as Leaves, Turns}
use Rattle.pq_pool.specs.FactsStay.Words.{turned_cases}
use Rattle.pq_pool.specs.FactsStay.Framing.{words_stay, words_stay-counted}
use Rattle.pq_chunk.specs.declared.views.ChunkView.{ChunkView}
use Rattle.pq_chunk.specs.declared.views.FrontView.{FrontView}
use Rattle.pq_chunk.specs.declared.views.BuilderView.{BuilderView}
use Rattle.pq_chunk.specs.declared.views.Stage.TheVariants.{Drawn, Waiting, Marked}
use Rattle.pq_chunk.specs.Layout.{count_word, offer_word, chunk_count}
use Rattle.pq_chunk.specs.Views.{pool_of, idle_chunk, idle_builder, one_for, armed_stage, armed_for, stage_weight, is_offered, Rests, IsOn}
use Rattle.pq_chunk.specs.Front.{FrontFacts}
use Rattle.pq_chunk.specs.Chain.{ChainFacts, live_one}
use Rattle.pq_chunk.specs.Stages.{PlaceFacts, IsStaged}
use Rattle.pq_chunk.specs.Contents.{ContentFacts}
use Rattle.pq_chunk.specs.Building.{IsNote}
use Rattle.pq_chunk.specs.Offers.{OfferFacts}
use Rattle.pq_chunk.specs.Rules.{ChunkTied}
use Rattle.pq_chunk.specs.Stays.Fronts.{front_kept, front_come, told_stays}
use Rattle.pq_chunk.specs.Stays.Chains.{chain_kept, chain_come, KeepsLinks}
use Rattle.pq_chunk.specs.Stays.Placing.{places_kept, places_come, staged_stays, same_post, KeepsPlaces, KeepsPost}
use Rattle.pq_chunk.specs.Stays.Filling.{content_words, content_kept, content_come, weight_stays}
use Rattle.pq_chunk.specs.Stays.Notes.{notes_kept, notes_come, note_far}
use Rattle.pq_chunk.specs.Stays.Offering.{offers_kept}

-- the words that are not the pool's are as they were
pub record KeepsWords (capacity : ℕ) (words words' : List ℕ) : Type 0 where
  pub low : (i : ℕ) → i ≤ 16 → get_or words' i 0 ≡ get_or words i 0
  pub places : KeepsPlaces words words'
  pub counts : (c : ℕ) → get_or words' (count_word c) 0 ≡ get_or words (count_word c) 0
  pub links : (c : ℕ) → KeepsLinks words words' c
  pub offers : (n : ℕ) → IsSeat 16 n → get_or words' (offer_word capacity n) 0 ≡ get_or words (offer_word capacity n) 0

pub same_words : (capacity : ℕ) (words : List ℕ) → KeepsWords capacity words words
same_words capacity words =
    record { low = λ i lt. refl; places = λ c i lt. refl; counts = λ c. refl; links = λ c. record { next = refl; low = refl; high = refl }; offers = λ n s. refl }

-- the builder's steps leave the live chunks, what is in use was, and what is being built still is
module _ (seats builder : ℕ) (words : List ℕ) (a b : PoolState) (kinds : (c : ℕ) → state_of a c ≤ 4) (m : Leaves seats words a b ⊎ Turns seats builder a b) where
  abbrev one_at : ℕ → ℕ
  one_at z = cond (eqb z 2) 1 0

  pub live_after : (c : ℕ) → live_one b c ≡ live_one a c
  live_after c = ⊎_elim
      (λ r. ⊎_elim (λ e. ap one_at e) (λ e. ap one_at e.1 ∙ sym (ap one_at e.0)) (r.states c))
      (λ r. ap one_at (r.states c) ∙ ⊎_elim
      (λ x. ap one_at x.1)
      (λ x. ⊎_elim (λ y. ap one_at y.1 ∙ sym (ap one_at y.0)) (λ y. ap one_at y.1 ∙ sym (ap one_at y.0)) x)
      (turned_cases (state_of a c) (kinds c)))
      m

  pub in_use_before : (c : ℕ) → IsInUse b c → IsInUse a c
  in_use_before c used = ⊎_elim
      (λ r. ⊎_elim (λ e. omega arith) (λ e. let e1 = e.1 in absurd (omega arith)) (r.states c))
      (λ r. let e = r.states c in ⊎_elim (λ x. let x1 = x.1 in omega arith) (λ x. ⊎_elim (λ y. let y0 = y.0 in omega arith) (λ y. let y0 = y.0 in omega arith) x) (turned_cases (state_of a c) (kinds c)))
      m

  pub built_after : (c : ℕ) → IsBuilt a c → IsBuilt b c
  built_after c built = ⊎_elim
      (λ r. ⊎_elim (λ e. omega arith) (λ e. let e0 = e.0 in absurd (omega arith)) (r.states c))
      (λ r. let e = r.states c in ⊎_elim (λ x. let x0 = x.0 in let x1 = x.1 in omega arith) (λ x. ⊎_elim (λ y. let y0 = y.0 in absurd (omega arith)) (λ y. let y0 = y.0 in absurd (omega arith)) x) (turned_cases (state_of a c) (kinds c)))
      m

-- The posts of all seats have numbers in range
abbrev pub AreSeats : List (Post ChunkView) → Type 0
AreSeats posts = (j : ℕ) (q : Post ChunkView) → get_elem? posts j ≡ some q → 0 < q.number → IsSeat 16 q.number

module _ (k : Limits) (words : List ℕ) (posts : List (Post ChunkView)) (m : List Entry) (t : ChunkTied k words posts m) where
  pub few_here : here t.shape.front ≤ 64
  few_here = let few = t.front.fits.remaining in omega arith

  -- the builder's part of a post is idle where it was, if the seat has the same locks
  pub idle_still : (id : ℕ) (p p' : Post ChunkView) → get_elem? posts id ≡ some p → p'.locks ≡ p.locks → p'.own.builder ≡ p.own.builder → ¬ Contains p'.locks builder_word → p'.own.builder ≡ idle_builder
  idle_still id p p' at locks builder none = builder ∙ t.chain.idle id p at (λ has. none (subst (λ (z : List ℕ). Contains z builder_word) (sym locks) has))

  -- a step of the pool, which changes the pool's part of one view alone
  pub whole_kept : (words' : List ℕ) (id : ℕ) (p p' : Post ChunkView) → get_elem? posts id ≡ some p → AreSeats posts → (pool : PoolFacts pool_of k words' (set posts id p'))
      → ((c : ℕ) → live_one pool.counted c ≡ live_one t.shape.counted c) → ((c : ℕ) → IsInUse pool.counted c → IsInUse t.shape.counted c) → ((c : ℕ) → IsBuilt t.shape.counted c → IsBuilt pool.counted c)
      → KeepsWords k.capacity words words' → ((j : ℕ) (q : Post ChunkView) → get_elem? posts j ≡ some q → (i x : ℕ) → IsNote (chunk_count k.capacity) t.shape.counted t.shape.old q.own.builder.outside words i x → get_or words' i 0 ≡ get_or words i 0)
      → p'.number ≡ p.number → p'.locks ≡ p.locks → p'.flight ≡ p.flight → p'.owed ≡ p.owed
      → p'.own.front ≡ p.own.front → p'.own.stage ≡ p.own.stage → p'.own.reading ≡ p.own.reading → p'.own.builder ≡ p.own.builder
      → ((c : ℕ) → IsOn p.own.pool c → IsOn p'.own.pool c) → ChunkTied k words' (set posts id p') m
  whole_kept words' id p p' at seats pool live in_use built same noted number locks flight owed front stage reading builder on = let few = few_here in record {
    shape = record t.shape { counted = pool.counted };
    sized = t.sized;
    pool = pool;
    counts = refl;
    front = front_kept k t.shape.front (length m) words posts t.front words' id p p' at (same.low 0 (omega arith)) (told_stays words words' posts id p p' at (λ i low high. same.low i high) owed)
        (ap one_for flight) (ap (λ (z : FrontView). cond z.armed 1 0) front);
    chain = chain_kept t.shape.counted t.shape.front.first t.shape.chunks t.shape.old words posts t.chain pool.counted words' id p p' at live in_use same.links (λ c i lt s. same.places c i lt)
        (λ c has. let w = weight_stays (λ _. 1) words words' c (λ i lt. same.places c i lt) in omega arith) (ap (λ (z : BuilderView). z.outside) builder) (idle_still id p p' at locks builder);
    places = places_kept t.shape.counted t.shape.front.first t.shape.chunks t.shape.old words posts t.places pool.counted words' id p p' at in_use same.places same.links same.counts
        (λ c. ap (armed_stage c) stage) (same_post p p' number stage builder)
        (staged_stays t.shape.front.first t.shape.chunks t.shape.old words words' same.links same.places p p' number flight stage reading on (t.places.each id p at));
    content = content_kept m t.shape.firsts t.shape.rest (here t.shape.front) t.shape.front.first t.shape.chunks words posts t.content words' id p p' at (omega arith) same.places
        (same.links t.shape.front.first).high (λ f. ap (stage_weight f) stage);
    building = notes_kept (chunk_count k.capacity) t.shape.counted t.shape.old words posts t.building pool.counted words' id p p' at built noted builder;
    offers = offers_kept k.capacity words posts t.offers words' id p p' at same.offers (λ n s. same.low n s.1) seats number locks owed builder (ap is_offered stage) (λ _. flight);
  }

  -- a new seat comes
  pub whole_come : (n : ℕ) → (pool : PoolFacts pool_of k words (posts ++ empty_post idle_chunk n ∷ [])) → pool.counted ≡ t.shape.counted
      → OfferFacts k.capacity words (posts ++ empty_post idle_chunk n ∷ []) → ChunkTied k words (posts ++ empty_post idle_chunk n ∷ []) m
  whole_come n pool counts offers = let p' : Post ChunkView = empty_post idle_chunk n in record {
    shape = t.shape;
    sized = t.sized;
    pool = pool;
    counts = counts;
    front = front_come k t.shape.front (length m) words posts t.front p' refl refl refl;
    chain = chain_come t.shape.counted t.shape.front.first t.shape.chunks t.shape.old words posts t.chain p' refl;
    places = places_come t.shape.counted t.shape.front.first t.shape.chunks t.shape.old words posts t.places p' (λ c. refl) (record { stage = tt; reading = tt });
    content = content_come m t.shape.firsts t.shape.rest (here t.shape.front) t.shape.front.first t.shape.chunks words posts t.content p' (λ f. refl);
    building = notes_come (chunk_count k.capacity) t.shape.counted t.shape.old words posts t.building p' refl;
    offers = offers;
  }

  -- a seat at rest goes
  pub whole_go : (id : ℕ) (p : Post ChunkView) → get_elem? posts id ≡ some p → p.locks ≡ [] → p.flight ≡ None → p.owed ≡ [] → Rests p.own
      → (pool : PoolFacts pool_of k words (set posts id (empty_post idle_chunk 0))) → pool.counted ≡ t.shape.counted
      → OfferFacts k.capacity words (set posts id (empty_post idle_chunk 0)) → ChunkTied k words (set posts id (empty_post idle_chunk 0)) m
  whole_go id p at locks flight owed rest pool counts offers = let few = few_here in let p' : Post ChunkView = empty_post idle_chunk 0 in let same = same_words k.capacity words in
      let not_drawn : (c i : ℕ) (e : Entry) → p.own.stage ≢ Drawn c i e = λ c i e z. absurd (let q = rest.idle in cc) in
      let not_put : (c i : ℕ) (e : Entry) → (p.own.stage ≡ Waiting c i e) ⊎ (p.own.stage ≡ Marked c i e) → ⊥ = λ c i e z. ⊎_elim (λ y. let q = rest.idle in cc) (λ y. let q = rest.idle in cc) z in
      let builder : idle_builder ≡ p.own.builder = sym rest.builder in record {
        shape = t.shape;
        sized = t.sized;
        pool = pool;
        counts = counts;
        front = front_kept k t.shape.front (length m) words posts t.front words id p p' at refl (told_stays words words posts id p p' at (λ i low high. refl) (sym owed))
            (sym (ap one_for flight)) (sym (ap (λ (b : Bool). cond b 1 0) rest.unarmed));
        chain = chain_kept t.shape.counted t.shape.front.first t.shape.chunks t.shape.old words posts t.chain t.shape.counted words id p p' at (λ c. refl) (λ c u. u) same.links (λ c i lt s. refl)
            (λ c has. omega arith) (ap (λ (z : BuilderView). z.outside) builder) (λ _. refl);
        places = places_kept t.shape.counted t.shape.front.first t.shape.chunks t.shape.old words posts t.places t.shape.counted words id p p' at (λ c u. u) same.places same.links same.counts
            (λ c. sym (ap (armed_stage c) rest.idle))
            (record { drawn = λ c i e z. absurd (not_drawn c i e z); put = λ c i e z. absurd (not_put c i e z); freezing = ap (λ (z : BuilderView). z.freezing) builder })
            (record { stage = tt; reading = tt });
        content = content_kept m t.shape.firsts t.shape.rest (here t.shape.front) t.shape.front.first t.shape.chunks words posts t.content words id p p' at (omega arith) same.places refl
            (λ f. sym (ap (stage_weight f) rest.idle));
        building = notes_kept (chunk_count k.capacity) t.shape.counted t.shape.old words posts t.building t.shape.counted words id p p' at (λ c b. b) (λ j q to i x n. refl) builder;
        offers = offers;
      }

  -- A step on the word i, which is the front word or a letter. The front word is then that of g
  module _ (i x : ℕ) (low : i ≤ 16) where
    abbrev ws : List ℕ
    ws = set words i x

    other : (j : ℕ) → j ≢ i → get_or ws j 0 ≡ get_or words j 0
    other j ne = get_or-set_other words i j x 0 ne

    pub low_words : (capacity : ℕ) → KeepsPlaces words ws × ((c : ℕ) → KeepsLinks words ws c)
    low_words capacity = (
      (λ c j lt. other (50 + 69 * c + j) (λ z. omega arith)),
      (λ c. record { next = other (115 + 69 * c) (λ z. omega arith); low = other (116 + 69 * c) (λ z. omega arith); high = other (117 + 69 * c) (λ z. omega arith) }),
    )

    pub low_offers : (n : ℕ) → IsSeat 16 n → get_or ws (offer_word k.capacity n) 0 ≡ get_or words (offer_word k.capacity n) 0
    low_offers n s = let a = s.0 in other (offer_word k.capacity n) (λ z. omega arith)

    pub low_tied : (g : Front) (m' firsts rest : List Entry) (id : ℕ) (p p' : Post ChunkView) → get_elem? posts id ≡ some p → g.first ≡ t.shape.front.first → here g ≤ 64
        → (pool : PoolFacts pool_of k words (set posts id p')) → pool.counted ≡ t.shape.counted → FrontFacts k g (length m') ws (set posts id p')
        → p'.own.builder ≡ p.own.builder → p'.locks ≡ p.locks → ((c : ℕ) → armed_for c p' ≡ armed_for c p) → KeepsPost p p'
        → IsStaged t.shape.front.first t.shape.chunks t.shape.old words p'
        → ContentFacts m' firsts rest (here g) t.shape.front.first t.shape.chunks words (set posts id p') → OfferFacts k.capacity ws (set posts id p')
        → ChunkTied k ws (set posts id p') m'
    low_tied g m' firsts rest id p p' at first few pool counts front builder locks count keeps own content offers =
        let kept = low_words k.capacity in
        let nexts : (c : ℕ) → c < pool.chunks.count → get_or ws (115 + 69 * c) 0 ≡ get_or words (115 + 69 * c) 0 = λ c lt. other (115 + 69 * c) (λ z. omega arith) in
        let states : (c : ℕ) → c < pool.chunks.count → get_or ws (118 + 69 * c) 0 ≡ get_or words (118 + 69 * c) 0 = λ c lt. other (118 + 69 * c) (λ z. omega arith) in
        let same : (j : ℕ) → builder_word ≤ j → j < 50 → get_or ws j 0 ≡ get_or words j 0 = λ j from to. other j (λ z. omega arith) in
        record {
          shape = record { counted = t.shape.counted; front = g; chunks = t.shape.chunks; old = t.shape.old; firsts = firsts; rest = rest };
          sized = t.sized;
          pool = words_stay pool_of k words (set posts id p') pool ws (length-set words i x) same states nexts;
          counts = words_stay-counted pool_of k words (set posts id p') pool ws (length-set words i x) same states nexts ∙ counts;
          front = front;
          chain = subst (λ (z : ℕ). ChainFacts t.shape.counted z t.shape.chunks t.shape.old ws (set posts id p')) (sym first)
              (chain_kept t.shape.counted t.shape.front.first t.shape.chunks t.shape.old words posts t.chain t.shape.counted ws id p p' at (λ c. refl) (λ c u. u) kept.1 (λ c j lt s. kept.0 c j lt)
              (λ c has. let w = weight_stays (λ _. 1) words ws c (λ j lt. kept.0 c j lt) in omega arith) (ap (λ (z : BuilderView). z.outside) builder) (idle_still id p p' at locks builder));
          places = subst (λ (z : ℕ). PlaceFacts t.shape.counted z t.shape.chunks t.shape.old ws (set posts id p')) (sym first)
              (places_kept t.shape.counted t.shape.front.first t.shape.chunks t.shape.old words posts t.places t.shape.counted ws id p p' at (λ c u. u) kept.0 kept.1
              (λ c. other (114 + 69 * c) (λ z. omega arith)) count keeps
              (staged_stays t.shape.front.first t.shape.chunks t.shape.old words ws kept.1 kept.0 p' p' refl refl refl refl (λ c o. o) own));
          content = subst (λ (z : ℕ). ContentFacts m' firsts rest (here g) z t.shape.chunks ws (set posts id p')) (sym first)
              (content_words m' firsts rest (here g) t.shape.front.first t.shape.chunks words (set posts id p') content ws few kept.0 (kept.1 t.shape.front.first).high);
          building = notes_kept (chunk_count k.capacity) t.shape.counted t.shape.old words posts t.building t.shape.counted ws id p p' at (λ c b. b)
              (λ l q to j y n. other j (λ z. let far = note_far (chunk_count k.capacity) t.shape.counted t.shape.old q.own.builder.outside words j y n in omega arith)) builder;
          offers = offers;
        }
