-- Each step of the pool keeps the rule of the table, and tells what it is to tell.
use Rattle.std.proofs.Common.{◌≡◌, ◌≢◌, ◌⊎◌, ℕ, ◌+◌, ◌-◌, ◌*◌, ◌<◌, Bool, true, false, eqb, List, map, length, get_or, set, sym, refl, ap, ◌∙◌, subst, inl, inr, ⊎_elim, arith, ne_eqb, eq-eqb, eqb-true, Contains, length-set, get_or-set_other}
use Rattle.std.proofs.lemmas.List.{set-get_or}
use mathlib.Core.Option.{some, none}
use lib.ListN.{get_elem?}
use lib.Seq.{map-set}
use native.Mathlib.Decide.{ℕ_discrete}
use mathlib.Core.Logic.{dite}
use Rattle.atomic_table.specs.Table.{Me, step, keeps, stepped, Allows}
use Rattle.atomic_table.proofs.Lists.{at_map}
use Rattle.pq_model.specs.History.{IsSeat, left}
use Rattle.pq_seats.specs.declared.views.Limits.{Limits}
use Rattle.pq_seats.specs.declared.views.Post.{Post}
use Rattle.pq_seats.specs.declared.views.View.{View}
use Rattle.pq_seats.specs.Views.{post_of}
use Rattle.pq_seats.specs.Rules.{Table, Rule, Lawful, Holds, Stands}
use Rattle.pq_seats.specs.Allowed.{IsOwnChange}
use Rattle.pq_seats.proofs.Keeps.{untouched, number_in, limits_of}
use Rattle.pq_seats.proofs.Owning.{own_stays, front_stays}
use Rattle.pq_seats.proofs.Lists.{put_here}
use Rattle.pq_pool.specs.declared.views.PoolState.{PoolState}
use Rattle.pq_pool.specs.declared.views.PoolView.{PoolView}
use Rattle.pq_pool.specs.Layout.{Chunks, builder_word, pin_word, grace_word, state_word}
use Rattle.pq_pool.specs.States.{state_of, grace_of, IsFree, IsSafe, Sized}
use Rattle.pq_pool.specs.Facts.{PoolFacts, IsBuilder}
use Rattle.pq_pool.specs.Views.{pinned_on, unpinned, pin_loaded, grace_stored, state_stored, moved, turned_at}
use Rattle.pq_pool.specs.Builds.{Builds}
use Rattle.pq_pool.specs.Parts.{PoolPart, pool_view, with_pool_post, with_pool_view}
use Rattle.pq_pool.specs.PoolLaws.{PoolLaws, MayUnpin, MayMove}
use Rattle.pq_pool.specs.Steps.{Moment, GivenOut, StandsSafely, sees_grace, sees_state, sees_pin, stores_grace, stores_state, turns, takes, moves, pins, looks, unpins}
use Rattle.pq_pool.specs.FactsStay.Pinning.{pin_stays, pin_stays-counted}
use Rattle.pq_pool.specs.FactsStay.Seats.{one_seat}
use Rattle.pq_pool.specs.FactsStay.Framing.{words_stay, words_stay-counted}
use Rattle.pq_pool.specs.FactsStay.Above.{stand_stays, stand_stays-counted}
use Rattle.pq_pool.proofs.BuilderSteps as builder
use Rattle.pq_pool.proofs.Live.{chosen, chosen_passes, passing_chosen, also, also_cases, also_new, also_old, tests_safe, tested_safe, safe_tests}
use Rattle.pq_pool.proofs.PassLemmas.{within_list}

module _ {O : Type 0} (R : Rule O) (lawful : Lawful R) (P : PoolPart O) (B : ℕ) (laws : PoolLaws R P B) (k : Limits) where
  abbrev M : Type 0
  M = Me (Unit {0}) (View O)

  -- the pool's part changes, and nothing else
  own_change : (v : View O) (w : PoolView) → IsOwnChange v (with_pool_post P v.post w)
  own_change v w = record { number = refl; locks = refl; owed = refl; flight = inl refl }

  no_lock : (i : ℕ) → i ≢ 17 → R.locks k i ≡ false
  no_lock i ne = laws.lock k i ∙ ne_eqb i 17 ne

  is_builder : (s : Table O) (h : Holds R k s) (id : ℕ) (v : View O) → Stands R s id v → Contains v.post.locks builder_word
      → let t = laws.facts k s h in IsBuilder P.view_of s.words t.chunks.count k.seats t.counted v.post
  is_builder s h id v at has = (laws.facts k s h).held id v.post (at_map post_of s.views id v at) has

  -- a step of the builder that leaves the live chunks
  builds : (slots id : ℕ) (me : M) (i : ℕ) (f : ℕ → ℕ) (F : ℕ → M → Type 0) (w : ℕ → PoolView) → Contains me.0.post.locks builder_word → 17 < i
      → ((s : Table O) (h : Holds R k s) → Stands R s id me.0
      → Builds (laws.facts k s h).chunks.count k.seats me.0.post.number s.words (set s.words i (f (get_or s.words i 0))) (pool_view P me.0) (w (get_or s.words i 0))
      × F (get_or s.words i 0) (with_pool_view P me.0 (w (get_or s.words i 0)), me.1))
      → Allows (Holds R k) slots id me i f F
  builds slots id me i f F w has far shows s h sized at small =
      let b = is_builder s h id me.0 at has in let low = b.seat.0 in
      let n : ℕ = get_or s.words i 0 in
      let r = shows s h at in (
        with_pool_view P me.0 (w n),
        keeps,
        tt,
        own_stays R k lawful s h id me.0 (with_pool_post P me.0.post (w n)) at (λ z. omega arith) (own_change me.0 (w n)) i (f n) (omega arith) (no_lock i (λ z. omega arith)) (laws.builds k s h id me.0 at has i (f n) (w n) r.0),
        r.1,
      )

  -- the post of a view in a moment in which a seat has it
  in_moment : (v : View O) (m : Moment R P v) → get_elem? m.posts m.id ≡ some v.post
  in_moment v m = subst (λ (z : List (Post O)). get_elem? z m.id ≡ some v.post) (sym m.are) (at_map post_of m.table.views m.id v m.here)

  -- in each such moment the chunks on which a pinned seat stands are safe for it
  stands_safely : (v : View O) → 0 < v.post.number → (pool_view P v).pinned ≡ true → StandsSafely R P v
  stands_safely v positive is m c on = ((m.facts.pinned m.id v.post (in_moment v m) positive is).safe c on).1

  module _ (slots id : ℕ) (me : M) (has : Contains me.0.post.locks builder_word) where
    named : (s : Table O) (h : Holds R k s) → Stands R s id me.0 → Sized (laws.facts k s h).chunks.count k.seats (pool_view P me.0).counted
    named s h at = let t = laws.facts k s h in let x = is_builder s h id me.0 at has in subst (λ (z : PoolState). Sized t.chunks.count k.seats z) (sym x.names) t.sized

    pub may_load_pin : (n : ℕ) → IsSeat k.seats n → Allows (Holds R k) slots id me (pin_word n) (λ x. x) (sees_pin R P (step slots (pin_word n) 0 0 none) me)
    may_load_pin n seat = let low = seat.0 in builds slots id me (17 + n) (λ x. x) (sees_pin R P (step slots (17 + n) 0 0 none) me) (λ x. pin_loaded (pool_view P me.0) n x) has (omega arith)
        (λ s h at. let t = laws.facts k s h in let x = is_builder s h id me.0 at has in let e : n ≡ 17 + n - 17 = omega arith in
        let y : ℕ = get_or s.words (17 + n) 0 in
        let one : (y ≡ 0) ⊎ (y ≡ 1) = dite (ℕ_discrete y 0) (λ z. inl z) (λ z. let o = t.loose n seat z in let p = t.pinned o.0 o.1 o.2 (let o3 = o.3 in omega arith) o.4 in inr (ap (λ (q : ℕ). get_or s.words (17 + q) 0) (sym o.3) ∙ p.word)) in (
          builder.loads_pin t.chunks.count k.seats me.0.post.number t.few_seats s.words (pool_view P me.0) x.sized (named s h at) x.written n y seat refl _ (set-get_or s.words (17 + n) 0),
          (ap (λ (q : ℕ). let z : M = (with_pool_view P me.0 (pin_loaded (pool_view P me.0) q y), me.1) in z) e, one),
        ))

    pub may_load_grace : (n : ℕ) → IsSeat k.seats n → Allows (Holds R k) slots id me (grace_word n) (λ x. x) (sees_grace R P (step slots (grace_word n) 0 0 none) me)
    may_load_grace n seat s h sized at small = let x = is_builder s h id me.0 at has in let e : n ≡ 33 + n - 33 = omega arith in
        (me.0, keeps, tt, untouched R k s h id me.0 (33 + n) at, (refl, x.written.grace n seat ∙ ap (λ (z : ℕ). grace_of (pool_view P me.0).stored z) e))

    pub may_store_grace : (n x : ℕ) → IsSeat k.seats n → Allows (Holds R k) slots id me (grace_word n) (λ _. x) (λ _. stores_grace R P (step slots (grace_word n) x 0 none) me x)
    may_store_grace n x seat = let low = seat.0 in builds slots id me (33 + n) (λ _. x) (λ _. stores_grace R P (step slots (33 + n) x 0 none) me x) (λ _. grace_stored (pool_view P me.0) n x) has (omega arith)
        (λ s h at. let t = laws.facts k s h in let y = is_builder s h id me.0 at has in let e : n ≡ 33 + n - 33 = omega arith in let room = t.chunks.room in let long = t.long in (
          builder.stores_grace t.chunks.count k.seats me.0.post.number t.few_seats s.words (pool_view P me.0) y.sized (named s h at) y.written n x seat (omega arith),
          ap (λ (q : ℕ). let z : M = (with_pool_view P me.0 (grace_stored (pool_view P me.0) q x), me.1) in z) e,
        ))

    pub may_turn : (x : ℕ) → ((n : ℕ) → IsSeat k.seats n → grace_of (pool_view P me.0).counted n ≡ 0) → Allows (Holds R k) slots id me 34 (λ _. x) (λ _. turns R P (step slots 34 x 0 none) me x)
    may_turn x none_left = builds slots id me 34 (λ _. x) (λ _. turns R P (step slots 34 x 0 none) me x) (λ _. turned_at (pool_view P me.0) k.seats me.0.post.number x) has (omega arith)
        (λ s h at. let t = laws.facts k s h in let y = is_builder s h id me.0 at has in let low = y.seat.0 in let high = y.seat.1 in let room = t.chunks.room in let long = t.long in
        let e = limits_of R k s h id me.0 at (λ z. omega arith) in (
          builder.turns t.chunks.count k.seats me.0.post.number t.few_seats s.words (pool_view P me.0) y.sized (named s h at) y.written x (omega arith) (omega arith) none_left,
          ap (λ (q : Limits). let z : M = (with_pool_view P me.0 (turned_at (pool_view P me.0) q.seats me.0.post.number x), me.1) in z) (sym e),
        ))

    module _ (chunks : Chunks k.words) (c : ℕ) (lt : c < chunks.count) where
      same_chunks : (s : Table O) (t : PoolFacts P.view_of k s.words (map post_of s.views)) → c < t.chunks.count
      same_chunks s t = let r = t.chunks.room in let l = t.chunks.less in let r' = chunks.room in let l' = chunks.less in omega arith

      pub may_load_state : Allows (Holds R k) slots id me (state_word c) (λ x. x) (sees_state R P (step slots (state_word c) 0 0 none) me)
      may_load_state s h sized at small = let x = is_builder s h id me.0 at has in
          (me.0, keeps, tt, untouched R k s h id me.0 (118 + 69 * c) at, (refl, (c, refl, x.written.states c (same_chunks s (laws.facts k s h)))))

      pub may_store_state : (x : ℕ) → Allows (Holds R k) slots id me (state_word c) (λ _. x) (λ _. stores_state R P (step slots (state_word c) x 0 none) me x)
      may_store_state x = builds slots id me (118 + 69 * c) (λ _. x) (λ _. stores_state R P (step slots (118 + 69 * c) x 0 none) me x) (λ _. state_stored (pool_view P me.0) c x) has (omega arith)
          (λ s h at. let t = laws.facts k s h in let y = is_builder s h id me.0 at has in let room = t.chunks.room in let long = t.long in
          (builder.stores_state t.chunks.count k.seats me.0.post.number t.few_seats s.words (pool_view P me.0) y.sized (named s h at) y.written c x (same_chunks s t) (omega arith), (c, refl, refl)))

      -- the chunk counts as free, so no pinned seat stands on it
      given : (s : Table O) (h : Holds R k s) → Stands R s id me.0 → IsFree (pool_view P me.0).counted c → GivenOut R P me.0 c
      given s h at free =
          let x = is_builder s h id me.0 at has in let low = x.seat.0 in
          let e = limits_of R k s h id me.0 at (λ z. omega arith) in
          let is_free : (m : Moment R P me.0) → IsFree m.facts.counted c = λ m. let b = m.facts.held m.id me.0.post (in_moment me.0 m) has in
          ap (λ (q : PoolState). state_of q c) (sym b.names) ∙ free in record {
            moment = record { limits = k; named = e; table = s; holds = h; id = id; here = at; posts = map post_of s.views; are = refl; facts = laws.facts k s h };
            free = is_free;
            nobody = λ m j p to some_number is on. let z = is_free m in let o = m.facts.pinned j p to some_number is in let safe = o.safe c on in let two = safe.1.0 in omega arith;
          }

      pub may_begin : IsFree (pool_view P me.0).counted c → Allows (Holds R k) slots id me (state_word c) (λ _. 1) (λ _. takes R P (step slots (state_word c) 1 0 none) me 1)
      may_begin free = builds slots id me (118 + 69 * c) (λ _. 1) (λ _. takes R P (step slots (118 + 69 * c) 1 0 none) me 1) (λ _. moved (pool_view P me.0) c 1) has (omega arith)
          (λ s h at. let t = laws.facts k s h in let y = is_builder s h id me.0 at has in let room = t.chunks.room in let long = t.long in
          (builder.begins t.chunks.count k.seats me.0.post.number t.few_seats s.words (pool_view P me.0) y.sized (named s h at) y.written c (same_chunks s t) (omega arith) free, (c, refl, refl, given s h at free)))

    pub may_move : (c x : ℕ) → MayMove R P k id me.0 c x → Allows (Holds R k) slots id me (state_word c) (λ _. x) (λ _. moves R P (step slots (state_word c) x 0 none) me x)
    may_move c x may s h sized at small = let b = is_builder s h id me.0 at has in let low = b.seat.0 in (
      with_pool_view P me.0 (moved (pool_view P me.0) c x),
      keeps,
      tt,
      own_stays R k lawful s h id me.0 (with_pool_post P me.0.post (moved (pool_view P me.0) c x)) at (λ z. omega arith) (own_change me.0 (moved (pool_view P me.0) c x)) (118 + 69 * c) x (omega arith) (no_lock (118 + 69 * c) (λ z. omega arith)) (may s h at),
      (c, refl, refl),
    )

  module _ (slots id : ℕ) (me : M) (positive : 0 < me.0.post.number) where
    -- a seat pins itself, and stands on what is live
    pub may_pin : ¬ Contains me.0.post.locks builder_word → Allows (Holds R k) slots id me (pin_word me.0.post.number) (λ _. 1) (λ _. pins R P (step slots (pin_word me.0.post.number) 1 0 none) me 1)
    may_pin free s h sized at small =
        let t = laws.facts k s h in
        let n : ℕ = me.0.post.number in
        let ne : n ≢ 0 = λ z. omega arith in
        let old : PoolView = pool_view P me.0 in
        let there = at_map post_of s.views id me.0 at in
        let live : ℕ → Bool = λ c. eqb (state_of t.counted c) 2 in
        let new : List ℕ = chosen live t.chunks.count in
        let stands : List ℕ = also old.pinned old.stands new in
        let d : PoolView = pinned_on old stands in
        let w : View O = with_pool_view P me.0 d in
        let seat = number_in R k s h id me.0 at ne in
        let safe : (c : ℕ) → Contains stands c → (c < t.chunks.count) × IsSafe t.counted n c = λ c on. ⊎_elim
        (λ a. let r = chosen_passes live t.chunks.count c a in let e = eqb-true (state_of t.counted c) 2 r.1 in (r.0, (omega arith, λ four. absurd (omega arith))))
        (λ b. (t.pinned id me.0.post there positive b.0).safe c b.1)
        (also_cases old.pinned old.stands new c on) in
        let kept : old.pinned ≡ true → (c : ℕ) → Contains old.stands c → Contains stands c = λ is c on. also_old old.pinned old.stands new c is on in
        let s' : Table O = stepped s (17 + n) 1 id me.1 w keeps in
        let now : Holds R k s' = own_stays R k lawful s h id me.0 (with_pool_post P me.0.post d) at ne (own_change me.0 d) (17 + n) 1 (omega arith) (no_lock (17 + n) (λ z. omega arith)) (laws.pins k s h id me.0 at positive free stands safe kept) in
        let apart : (j : ℕ) (q : Post O) → get_elem? (map post_of s.views) j ≡ some q → q.number ≡ n → j ≡ id = λ j q to e. one_seat R k s h id me.0 at ne j q to e in
        let p' = with_pool_post P me.0.post d in
        let reads = laws.reads me.0.post.own d in
        let after : PoolFacts P.view_of k (set s.words (17 + n) 1) (set (map post_of s.views) id p') = pin_stays P.view_of k s.words (map post_of s.views) t id me.0.post there seat apart free p' refl refl stands reads safe in
        let counted : after.counted ≡ t.counted = pin_stays-counted P.view_of k s.words (map post_of s.views) t id me.0.post there seat apart free p' refl refl stands reads safe in
        let names : (pool_view P w).stands ≡ stands = ap (λ (z : PoolView). z.stands) reads in
        let e = limits_of R k s h id me.0 at ne in (
          w,
          keeps,
          tt,
          now,
          (
            stands,
            refl,
            record {
              moment = record {
                limits = k;
                named = e;
                table = s';
                holds = now;
                id = id;
                here = put_here s.views id me.0 w at;
                posts = set (map post_of s.views) id p';
                are = sym (map-set post_of s.views id w);
                facts = after;
              };
              all = λ c is. let is' : state_of t.counted c ≡ 2 = ap (λ (z : PoolState). state_of z c) (sym counted) ∙ is in
                  let lt = within_list t.counted.states c (omega arith) in let long = t.sized.states in
                  subst (λ (z : List ℕ). Contains z c) (sym names) (also_new old.pinned old.stands new c (passing_chosen live t.chunks.count c (omega arith) (eq-eqb (state_of t.counted c) 2 is')));
              only = λ c on. ⊎_elim
                  (λ a. let r = chosen_passes live t.chunks.count c a in inl (ap (λ (z : PoolState). state_of z c) counted ∙ eqb-true (state_of t.counted c) 2 r.1))
                  (λ b. inr b)
                  (also_cases old.pinned old.stands new c (subst (λ (z : List ℕ). Contains z c) names on));
              kept = λ is c on. subst (λ (z : List ℕ). Contains z c) (sym names) (kept is c on);
            },
            stands_safely w positive (ap (λ (z : PoolView). z.pinned) reads),
          ),
        )

    -- a pinned seat looks, and stands on all that is safe for it
    pub may_look : (pool_view P me.0).pinned ≡ true → Allows (Holds R k) slots id me 0 (λ x. x) (looks R P (step slots 0 0 0 none) me)
    may_look is s h sized at small =
        let t = laws.facts k s h in
        let n : ℕ = me.0.post.number in
        let ne : n ≢ 0 = λ z. omega arith in
        let old : PoolView = pool_view P me.0 in
        let ps = map post_of s.views in
        let there = at_map post_of s.views id me.0 at in
        let o = t.pinned id me.0.post there positive is in
        let free : ¬ Contains me.0.post.locks builder_word = λ has. let b = t.held id me.0.post there has in let bad : false ≡ true = sym b.unpinned ∙ is in absurd (cc) in
        let test : ℕ → Bool = λ c. tests_safe (state_of t.counted c) (grace_of t.counted n) in
        let stands : List ℕ = chosen test t.chunks.count in
        let d : PoolView = pinned_on old stands in
        let w : View O = with_pool_view P me.0 d in
        let p' = with_pool_post P me.0.post d in
        let safe : (c : ℕ) → Contains stands c → (c < t.chunks.count) × IsSafe t.counted n c = λ c on. let r = chosen_passes test t.chunks.count c on in (r.0, tested_safe (state_of t.counted c) (grace_of t.counted n) r.1) in
        let come : (c : ℕ) → IsSafe t.counted n c → Contains stands c = λ c f. let low = f.0 in let lt = within_list t.counted.states c (omega arith) in let long = t.sized.states in
        passing_chosen test t.chunks.count c (omega arith) (safe_tests (state_of t.counted c) (grace_of t.counted n) f.0 f.1) in
        let x : ℕ = get_or s.words 0 0 in
        let same : set s.words 0 x ≡ s.words = set-get_or s.words 0 0 in
        let word : set s.words (17 + n) 1 ≡ s.words = ap (λ (z : ℕ). set s.words (17 + n) z) (sym o.word) ∙ set-get_or s.words (17 + n) 0 in
        let tied = laws.pins k s h id me.0 at positive free stands safe (λ _ c on. come c (o.safe c on).1) in
        let s' : Table O = stepped s 0 x id me.1 w keeps in
        let now : Holds R k s' = front_stays R k lawful s h id me.0 p' at ne (own_change me.0 d) me.0.front x h.counted (inl refl)
        (subst (λ (z : List ℕ). R.ties k z (set ps id p') (left h.history)) (word ∙ sym same) tied) in
        let reads = laws.reads me.0.post.own d in
        let stood : PoolFacts P.view_of k s.words (set ps id p') = stand_stays P.view_of k s.words ps t id me.0.post p' there positive is free refl refl stands reads safe in
        let other : (i : ℕ) → i ≢ 0 → get_or (set s.words 0 x) i 0 ≡ get_or s.words i 0 = λ i far. get_or-set_other s.words 0 i x 0 far in
        let long : length (set s.words 0 x) ≡ length s.words = length-set s.words 0 x in
        let after : PoolFacts P.view_of k (set s.words 0 x) (set ps id p') = words_stay P.view_of k s.words (set ps id p') stood (set s.words 0 x) long
        (λ i low high. other i (λ z. omega arith)) (λ c lt. other (118 + 69 * c) (λ z. omega arith)) (λ c lt. other (115 + 69 * c) (λ z. omega arith)) in
        let as_stood : after.counted ≡ stood.counted = words_stay-counted P.view_of k s.words (set ps id p') stood (set s.words 0 x) long
        (λ i low high. other i (λ z. omega arith)) (λ c lt. other (118 + 69 * c) (λ z. omega arith)) (λ c lt. other (115 + 69 * c) (λ z. omega arith)) in
        let as_before : stood.counted ≡ t.counted = stand_stays-counted P.view_of k s.words ps t id me.0.post p' there positive is free refl refl stands reads safe in
        let names : (pool_view P w).stands ≡ stands = ap (λ (z : PoolView). z.stands) reads in
        let e = limits_of R k s h id me.0 at ne in (
          w,
          keeps,
          tt,
          now,
          (
            stands,
            refl,
            record {
              moment = record {
                limits = k;
                named = e;
                table = s';
                holds = now;
                id = id;
                here = put_here s.views id me.0 w at;
                posts = set ps id p';
                are = sym (map-set post_of s.views id w);
                facts = after;
              };
              all = λ c f. subst (λ (z : List ℕ). Contains z c) (sym names) (come c (subst (λ (z : PoolState). IsSafe z n c) as_before (subst (λ (z : PoolState). IsSafe z n c) as_stood f)));
              kept = λ c on. subst (λ (z : List ℕ). Contains z c) (sym names) (come c (o.safe c on).1);
            },
            stands_safely w positive (ap (λ (z : PoolView). z.pinned) reads),
          ),
        )

    pub may_unpin : MayUnpin R P k id me.0 → Allows (Holds R k) slots id me (pin_word me.0.post.number) (λ _. 0) (λ _. unpins R P (step slots (pin_word me.0.post.number) 0 0 none) me 0)
    may_unpin may s h sized at small =
        let n : ℕ = me.0.post.number in (
          with_pool_view P me.0 (unpinned (pool_view P me.0)),
          keeps,
          tt,
          own_stays R k lawful s h id me.0 (with_pool_post P me.0.post (unpinned (pool_view P me.0))) at (λ z. omega arith) (own_change me.0 (unpinned (pool_view P me.0))) (17 + n) 0 (omega arith) (no_lock (17 + n) (λ z. omega arith)) (may s h at),
          refl,
        )
