-- Proofs of the laws of the rule. They stand here since its `impl` names them.
use Rattle.std.proofs.Common.{◌≡◌, ◌≢◌, ◌⊎◌, ℕ, zero, suc, ◌+◌, ◌*◌, ◌<◌, ◌≤◌, List, [], ◌∷◌, map, length, get_or, set, refl, ap, ◌∙◌, sym, subst, ⊎_elim, arith, Contains, eqb-true, get_or-set_other}
use Rattle.std.proofs.lemmas.Bool.Decides.{leb_tells}
use mathlib.Core.Option.{some}
use lib.ListN.{get_elem?}
use native.Mathlib.Decide.{ℕ_discrete}
use mathlib.Core.Logic.{dite}
use Rattle.atomic_table.proofs.Lists.{at_map}
use Rattle.pq_model.specs.Limits.{max_seats}
use Rattle.pq_model.specs.History.{IsSeat, left}
use Rattle.pq_seats.specs.declared.views.Limits.{Limits}
use Rattle.pq_seats.specs.declared.views.Post.{Post}
use Rattle.pq_seats.specs.declared.views.View.{View}
use Rattle.pq_seats.specs.Views.{post_of, empty_post}
use Rattle.pq_seats.specs.Rules.{Table, Lawful, Holds, Stands}
use Rattle.pq_seats.proofs.Lists.{not_in, at_unmap}
use Rattle.pq_seats.proofs.Keeps.{number_in, number_low}
use Rattle.pq_pool.specs.declared.views.PoolState.{PoolState}
use Rattle.pq_pool.specs.Layout.{builder_word}
use Rattle.pq_pool.specs.States.{state_of, IsInUse, IsBuilt}
use Rattle.pq_pool.specs.Builds.{IsSwept, Rests as Leaves, Turns}
use Rattle.pq_pool.specs.Views.{pinned_on}
use Rattle.pq_pool.specs.Parts.{with_pool_post}
use Rattle.pq_pool.specs.PoolLaws.{PoolLaws}
use Rattle.pq_pool.specs.FactsStay.Seats.{one_seat, alone}
use Rattle.pq_pool.specs.FactsStay.Building.{builds_stays, builds_stays-counted}
use Rattle.pq_pool.specs.FactsStay.Pinning.{pin_stays, pin_stays-counted}
use Rattle.pq_pool.specs.FactsStay.Framing.{come_stays, come_stays-counted, go_stays, go_stays-counted}
use Rattle.pq_chunk.specs.declared.views.ChunkView.{ChunkView}
use Rattle.pq_chunk.specs.Layout.{offer_word, chunk_count}
use Rattle.pq_chunk.specs.Views.{pool_of, chunk_pool, idle_chunk, is_offered}
use Rattle.pq_chunk.specs.Chain.{live_one}
use Rattle.pq_chunk.specs.Rules.{chunk_rule}
use Rattle.pq_chunk.specs.Stays.Notes.{note_far, note_no_state}
use Rattle.pq_chunk.specs.Stays.Offering.{offers_come, offers_go}
use Rattle.pq_chunk.specs.Stays.Whole.{whole_kept, whole_come, whole_go, KeepsWords, AreSeats, live_after, in_use_before, built_after}
use Rattle.pq_chunk.specs.Stays.Taking.{told_place, told_back}

-- nothing stands behind the end of a list
pub nothing_behind : (l : List ℕ) (i : ℕ) → length l ≤ i → get_or l i 0 ≡ 0
nothing_behind [] i far = refl
nothing_behind (x ∷ l) zero far = absurd (omega arith)
nothing_behind (x ∷ l) (suc i) far = nothing_behind l i (omega arith)

-- a step on a pin word
pin_words : (capacity : ℕ) (words : List ℕ) (n x : ℕ) → 1 ≤ n → n ≤ 16 → KeepsWords capacity words (set words (17 + n) x)
pin_words capacity words n x low high = let other : (j : ℕ) → j ≢ 17 + n → get_or (set words (17 + n) x) j 0 ≡ get_or words j 0 = λ j ne. get_or-set_other words (17 + n) j x 0 ne in record {
  low = λ i lt. other i (λ z. omega arith);
  places = λ c i lt. other (50 + 69 * c + i) (λ z. omega arith);
  counts = λ c. other (114 + 69 * c) (λ z. omega arith);
  links = λ c. record { next = other (115 + 69 * c) (λ z. omega arith); low = other (116 + 69 * c) (λ z. omega arith); high = other (117 + 69 * c) (λ z. omega arith) };
  offers = λ i s. let a = s.0 in other (offer_word capacity i) (λ z. omega arith);
}

-- a step on a grace bit or a state
module _ (chunks seats : ℕ) (few : seats ≤ max_seats) (words words' : List ℕ) (others : (i : ℕ) → ¬ IsSwept chunks seats i → get_or words' i 0 ≡ get_or words i 0) where
  spared : (i : ℕ) → ((n : ℕ) → 1 ≤ n → n ≤ 16 → i ≢ 33 + n) → ((c : ℕ) → c < chunks → i ≢ 118 + 69 * c) → get_or words' i 0 ≡ get_or words i 0
  spared i no_grace no_state = others i (λ d. ⊎_elim (λ q. let s = q.1 in let a = s.1 in no_grace q.0 s.0 (omega arith) q.2) (λ q. no_state q.0 q.1 q.2) d)

  swept_words : (capacity : ℕ) → chunks ≡ chunk_count capacity → KeepsWords capacity words words'
  swept_words capacity count = record {
    low = λ i lt. spared i (λ n a b z. omega arith) (λ c l z. omega arith);
    places = λ c i lt. spared (50 + 69 * c + i) (λ n a b z. omega arith) (λ d l z. omega arith);
    counts = λ c. spared (114 + 69 * c) (λ n a b z. omega arith) (λ d l z. omega arith);
    links = λ c. record {
      next = spared (115 + 69 * c) (λ n a b z. omega arith) (λ d l z. omega arith);
      low = spared (116 + 69 * c) (λ n a b z. omega arith) (λ d l z. omega arith);
      high = spared (117 + 69 * c) (λ n a b z. omega arith) (λ d l z. omega arith);
    };
    offers = λ i s. let a = s.0 in spared (offer_word capacity i) (λ n b d z. omega arith) (λ c l z. omega arith);
  }

-- what every state of the table says of its posts
module _ (k : Limits) (s : Table ChunkView) (h : Holds chunk_rule k s) where
  abbrev ps : List (Post ChunkView)
  ps = map post_of s.views

  pub are_seats : AreSeats ps
  are_seats j q to positive = let u = at_unmap post_of s.views j q to in
      subst (λ (z : Post ChunkView). IsSeat 16 z.number) u.2 (number_low chunk_rule k s h j u.0 u.1 (subst (λ (z : Post ChunkView). 0 < z.number) (sym u.2) positive))

  pub right_count : h.tied.pool.chunks.count ≡ chunk_count k.capacity
  right_count = let a = h.tied.pool.chunks.room in let b = h.tied.pool.chunks.less in let c = h.tied.sized in omega arith

  -- no other seat has the number of this one
  pub others_apart : (id : ℕ) (v : View ChunkView) → Stands chunk_rule s id v → 0 < v.post.number → (j : ℕ) (q : Post ChunkView) → j ≢ id → get_elem? ps j ≡ some q → q.number ≢ v.post.number
  others_apart id v at positive j q ne to same = ne (one_seat chunk_rule k s h id v at (λ z. omega arith) j q to same)

pub chunk_lawful : Lawful chunk_rule
chunk_lawful = record {
  apart = λ k i is. let e = eqb-true i 17 is in omega arith;
  within = λ k i is. let e = eqb-true i 17 is in omega arith;
  idles = record { unpinned = refl; unarmed = refl; idle = refl; unread = refl; builder = refl };
  admits = λ k s h n none_there fresh_number. let t = h.tied in let ps = map post_of s.views in let f = empty_post idle_chunk n in
      let unoffered : 0 < n → get_or s.words (offer_word k.capacity n) 0 ≡ 0 = λ positive. ⊎_elim
      (λ a. let low = a.1 in dite (ℕ_discrete (get_or s.words (offer_word k.capacity n) 0) 0) (λ e. e)
      (λ ne. let o = t.offers.owner n (omega arith, low) ne in let u = at_unmap post_of s.views o.0 o.1 o.2 in
      absurd (fresh_number positive o.0 u.0 u.1 (ap (λ (z : Post ChunkView). z.number) u.2 ∙ o.3))))
      (λ b. let high = b.1 in nothing_behind s.words (offer_word k.capacity n) (let a = t.pool.long in let c = t.sized in omega arith))
      (leb_tells n 16) in
      whole_come k s.words ps (left h.history) t n (come_stays pool_of k s.words ps t.pool f refl (not_in builder_word))
      (come_stays-counted pool_of k s.words ps t.pool f refl (not_in builder_word) ∙ t.counts)
      (offers_come k.capacity s.words ps t.offers n idle_chunk refl refl none_there unoffered);
  spends = λ k s h j v at rest. let t = h.tied in let ps = map post_of s.views in let f = empty_post idle_chunk 0 in let there = at_map post_of s.views j v at in
      let un = rest.rests.unpinned in let owed = ap (λ (z : Post ChunkView). z.owed) rest.bare in
      whole_go k s.words ps (left h.history) t j v.post there (ap (λ (z : Post ChunkView). z.locks) rest.bare) (ap (λ (z : Post ChunkView). z.flight) rest.bare) owed rest.rests
      (go_stays pool_of k s.words ps t.pool j v.post f there un refl (not_in builder_word))
      (go_stays-counted pool_of k s.words ps t.pool j v.post f there un refl (not_in builder_word) ∙ t.counts)
      (offers_go k.capacity s.words ps t.offers j v.post idle_chunk there owed (ap is_offered rest.rests.idle) refl);
  takes_over = λ k s h j v at positive ne not_back. told_place k s.words (map post_of s.views) (left h.history) h.tied j v.post (at_map post_of s.views j v at)
      (number_low chunk_rule k s h j v at positive) (are_seats k s h) (others_apart k s h j v at positive) ne not_back;
  takes_back = λ k s h j v at positive e. told_back k s.words (map post_of s.views) (left h.history) h.tied j v.post (at_map post_of s.views j v at)
      (number_low chunk_rule k s h j v at positive) (are_seats k s h) (others_apart k s h j v at positive) (λ z. omega arith) e;
  informed = λ k s h j v l at positive is. tt;
}

pub chunk_pool_laws : PoolLaws chunk_rule chunk_pool builder_word
chunk_pool_laws = record {
  builder = refl;
  lock = λ k i. refl;
  reads = λ o v. refl;
  again = λ o v w. refl;
  back = λ o. refl;
  facts = λ k s h. h.tied.pool;
  rests = λ o rest. rest.unpinned;
  pins = λ k s h id v at positive no_lock stands safe kept.
      let t = h.tied in let ps = map post_of s.views in let there = at_map post_of s.views id v at in
      let ne : v.post.number ≢ 0 = λ z. omega arith in
      let low = number_low chunk_rule k s h id v at positive in
      let p' = with_pool_post chunk_pool v.post (pinned_on v.post.own.pool stands) in
      let i : ℕ = 17 + v.post.number in let words' = set s.words i 1 in
      let same = pin_words k.capacity s.words v.post.number 1 low.0 low.1 in
      let seat = number_in chunk_rule k s h id v at ne in let one = one_seat chunk_rule k s h id v at ne in
      let counts = pin_stays-counted pool_of k s.words ps t.pool id v.post there seat one no_lock p' refl refl stands refl safe ∙ t.counts in
      whole_kept k s.words ps (left h.history) t words' id v.post p' there (are_seats k s h) (pin_stays pool_of k s.words ps t.pool id v.post there seat one no_lock p' refl refl stands refl safe)
      (λ c. ap (λ (b : PoolState). live_one b c) counts) (λ c used. subst (λ (b : PoolState). IsInUse b c) counts used) (λ c built. subst (λ (b : PoolState). IsBuilt b c) (sym counts) built)
      same (λ l q to j y n. get_or-set_other s.words i j 1 0 (λ z. let far = note_far (chunk_count k.capacity) t.shape.counted t.shape.old q.own.builder.outside s.words j y n in let high = low.1 in omega arith))
      refl refl refl refl refl refl refl refl
      (λ c o. record { pinned = refl; stands = kept o.pinned c o.stands });
  builds = λ k s h id v at has i x w B.
      let t = h.tied in let ps = map post_of s.views in let there = at_map post_of s.views id v at in
      let few = t.pool.few_seats in let count = right_count k s h in
      let p' = with_pool_post chunk_pool v.post w in
      let words' = set s.words i x in
      let b = t.pool.held id v.post there has in
      let al = alone chunk_rule k s h id v at builder_word has in
      let names : v.post.own.pool.counted ≡ t.shape.counted = b.names ∙ t.counts in
      let kinds = subst (λ (z : PoolState). (c : ℕ) → state_of z c ≤ 4) t.counts t.pool.kinds in
      let moves = subst (λ (z : PoolState). Leaves k.seats s.words z w.counted ⊎ Turns k.seats v.post.number z w.counted) names B.moves in
      let counts = builds_stays-counted pool_of k s.words ps t.pool id v.post there has al p' refl words' B in
      let same = swept_words t.pool.chunks.count k.seats few s.words words' B.others k.capacity count in
      whole_kept k s.words ps (left h.history) t words' id v.post p' there (are_seats k s h) (builds_stays pool_of k s.words ps t.pool id v.post there has al p' refl words' B)
      (λ c. ap (λ (z : PoolState). live_one z c) counts ∙ live_after k.seats v.post.number s.words t.shape.counted w.counted kinds moves c)
      (λ c used. in_use_before k.seats v.post.number s.words t.shape.counted w.counted kinds moves c (subst (λ (z : PoolState). IsInUse z c) counts used))
      (λ c built. subst (λ (z : PoolState). IsBuilt z c) (sym counts) (built_after k.seats v.post.number s.words t.shape.counted w.counted kinds moves c built))
      same
      (λ m q to j y n. spared t.pool.chunks.count k.seats few s.words words' B.others j
      (λ l a d z. let far = note_far (chunk_count k.capacity) t.shape.counted t.shape.old q.own.builder.outside s.words j y n in omega arith)
      (λ c l z. note_no_state (chunk_count k.capacity) t.shape.counted t.shape.old q.own.builder.outside s.words j y n c z))
      refl refl refl refl refl refl refl refl
      (λ c o. record { pinned = B.pin.0 ∙ o.pinned; stands = subst (λ (z : List ℕ). Contains z c) (sym B.pin.1) o.stands });
  taken = λ k o o' e. e.names;
}
