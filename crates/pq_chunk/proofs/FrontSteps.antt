-- The steps on the front word that mark nothing.
use Rattle.std.proofs.Common.{◌≡◌, Some, ℕ, ◌+◌, ◌-◌, ◌≤◌, Bool, true, false, cond, List, map, length, get_or, set, sym, refl, ap, ◌∙◌, subst, inl, inr, arith, sum_by, Contains, get_or-set_same, get_or-set_other}
use mathlib.Core.Option.{some}
use lib.ListN.{get_elem?}
use Rattle.atomic_table.proofs.Lists.{at_map}
use Rattle.pq_words.specs.declared.entries.Entry.{Entry}
use Rattle.pq_words.specs.declared.fronts.Front.{Front}
use Rattle.pq_words.specs.Fronts.{FitsFront, front_number, here, used_of}
use Rattle.pq_model.specs.History.{left}
use Rattle.pq_seats.specs.declared.views.Limits.{Limits}
use Rattle.pq_seats.specs.declared.views.Post.{Post}
use Rattle.pq_seats.specs.declared.views.View.{View}
use Rattle.pq_seats.specs.Views.{post_of, with_post}
use Rattle.pq_seats.specs.Rules.{Table}
use Rattle.pq_seats.specs.Allowed.{IsOwnChange}
use Rattle.pq_seats.proofs.Lists.{sum_set, sum_kept}
use Rattle.pq_seats.proofs.Owning.{front_stays}
use Rattle.pq_pool.specs.declared.views.PoolView.{PoolView}
use Rattle.pq_pool.specs.Facts.{PoolFacts}
use Rattle.pq_pool.specs.FactsStay.Framing.{seat_stays, seat_stays-counted}
use Rattle.pq_chunk.specs.declared.views.ChunkView.{ChunkView}
use Rattle.pq_chunk.specs.declared.views.Stage.{Stage}
use Rattle.pq_chunk.specs.Views.{pool_of, one_for, claim_of, armed_of, armed_for, armed_stage, stage_weight, is_offered}
use Rattle.pq_chunk.specs.Stages.{IsStaged, IsStage}
use Rattle.pq_chunk.specs.Contents.{ContentFacts}
use Rattle.pq_chunk.specs.Rules.{chunk_rule, ChunkTied, length_in}
use Rattle.pq_chunk.specs.LawsHold.{chunk_lawful, are_seats}
use Rattle.pq_chunk.specs.Steps.{with_own, with_view, more_claimed, front_read, front_seen, claimed}
use Rattle.pq_chunk.specs.Laws.{Moment, FrontIs, Keeps, FrontLoadsKeep, FrontArmsKeep, ClaimsKeep}
use Rattle.pq_chunk.specs.Stays.Fronts.{front_step, told_stays}
use Rattle.pq_chunk.specs.Stays.Placing.{staged_stays, same_post, KeepsPost}
use Rattle.pq_chunk.specs.Stays.Filling.{content_post}
use Rattle.pq_chunk.specs.Stays.Offering.{offers_kept}
use Rattle.pq_chunk.specs.Stays.Whole.{low_tied, low_offers, AreSeats}
use Rattle.pq_chunk.proofs.Fields.{one_front, length_front}
use Rattle.pq_chunk.proofs.Counting.{at_most_one, few_of_seats}

-- The front word becomes that of g, and the multiset and one post change
module _ (k : Limits) (words : List ℕ) (posts : List (Post ChunkView)) (m : List Entry) (t : ChunkTied k words posts m) (seats : AreSeats posts) where
  pub front_word_tied : (g : Front) (m' firsts rest : List Entry) (id : ℕ) (p p' : Post ChunkView) → get_elem? posts id ≡ some p → g.first ≡ t.shape.front.first
      → (pool : PoolFacts pool_of k words (set posts id p')) → pool.counted ≡ t.shape.counted
      → FitsFront g → here g ≤ g.total → used_of g + sum_by claim_of posts + length m ≡ used_of t.shape.front + (length m' + sum_by claim_of (set posts id p')) → used_of g ≤ k.capacity
      → sum_by armed_of (set posts id p') ≤ g.remaining
      → p'.number ≡ p.number → p'.locks ≡ p.locks → p'.owed ≡ p.owed → p'.own.builder ≡ p.own.builder
      → is_offered p'.own.stage ≡ is_offered p.own.stage → (is_offered p.own.stage ≡ true → p'.flight ≡ p.flight)
      → ((c : ℕ) → armed_for c p' ≡ armed_for c p) → KeepsPost p p' → IsStaged t.shape.front.first t.shape.chunks t.shape.old words p'
      → ContentFacts m' firsts rest (here g) t.shape.front.first t.shape.chunks words (set posts id p')
      → ChunkTied k (set words 0 (front_number g)) (set posts id p') m'
  front_word_tied g m' firsts rest id p p' at first pool counts fits enough used bound armed number locks owed builder offered flight count keeps own content =
      let few = fits.remaining in let x : ℕ = front_number g in let ws = set words 0 x in
      let long = t.pool.long in let room = t.pool.chunks.room in let old = t.front.used in
      let other : (i : ℕ) → 1 ≤ i → i ≤ 16 → get_or ws i 0 ≡ get_or words i 0 = λ i a b. get_or-set_other words 0 i x 0 (λ z. omega arith) in
      let letters = told_stays words ws posts id p p' at other owed in
      low_tied k words posts m t 0 x (omega arith) g m' firsts rest id p p' at first (omega arith) pool counts
      (front_step k t.shape.front (length m) words posts t.front g (length m') ws (set posts id p') (get_or-set_same words 0 x 0 (omega arith)) fits enough (omega arith) bound armed)
      builder locks count keeps own content
      (offers_kept k.capacity words posts t.offers ws id p p' at (λ n s. low_offers k words posts m t 0 x (omega arith) n s) (λ n s. other n s.0 s.1) seats number locks owed builder offered flight)

module _ (v : View ChunkView) (M : Moment v) where
  abbrev k : Limits
  k = M.limits

  abbrev s : Table ChunkView
  s = M.table

  abbrev t : ChunkTied k s.words (map post_of s.views) (left M.holds.history)
  t = M.holds.tied

  abbrev ps : List (Post ChunkView)
  ps = map post_of s.views

  pub there : get_elem? ps M.id ≡ some v.post
  there = at_map post_of s.views M.id v M.here

  pub long_front : t.shape.front.total - here t.shape.front ≡ length M.holds.history
  long_front = sym (ap length_in t.front.packed ∙ length_front t.shape.front t.front.fits) ∙ M.holds.counted

  pub same_front : (f : Front) → FrontIs M f → t.shape.front ≡ f
  same_front f is = one_front t.shape.front f t.front.fits is.fits (sym t.front.packed ∙ is.word)

  -- a step that marks nothing and leaves what is left in the first chunk; the stage stays, and the pool's part
  pub silent : (g : Front) (p' : Post ChunkView) → IsOwnChange v p' → FitsFront g → g.first ≡ t.shape.front.first → here g ≡ here t.shape.front → g.total ≡ t.shape.front.total
      → p'.own.pool ≡ v.post.own.pool → p'.own.stage ≡ v.post.own.stage → p'.own.reading ≡ v.post.own.reading → p'.own.builder ≡ v.post.own.builder
      → (is_offered v.post.own.stage ≡ true → p'.flight ≡ v.post.flight) → IsStage t.shape.front.first t.shape.chunks t.shape.old s.words p'.own.pool p'.number p'.flight p'.own.stage
      → used_of g + sum_by claim_of ps ≡ used_of t.shape.front + sum_by claim_of (set ps M.id p') → used_of g ≤ k.capacity → sum_by armed_of (set ps M.id p') ≤ g.remaining
      → Keeps M 0 (front_number g) (with_post v p')
  silent g p' change fits first same_here total pool stage reading builder flight own used bound armed =
      let x : ℕ = front_number g in let long = long_front in let low = t.front.enough in
      front_stays chunk_rule k chunk_lawful s M.holds M.id v p' M.here (λ z. let a = M.seated in omega arith) change v.front x
      (length_front g fits ∙ omega arith) (inl refl)
      (front_word_tied k s.words ps (left M.holds.history) t (are_seats k s M.holds) g (left M.holds.history) t.shape.firsts t.shape.rest M.id v.post p' there first
      (seat_stays pool_of k s.words ps t.pool M.id v.post p' there change.number change.locks pool) (seat_stays-counted pool_of k s.words ps t.pool M.id v.post p' there change.number change.locks pool ∙ t.counts)
      fits (omega arith) (omega arith) bound armed change.number change.locks change.owed builder (ap is_offered stage) flight
      (λ c. ap (armed_stage c) stage) (same_post v.post p' change.number stage builder)
      (record {
        stage = own;
        reading = (staged_stays t.shape.front.first t.shape.chunks t.shape.old s.words s.words (λ c. record { next = refl; low = refl; high = refl }) (λ c i lt. refl) v.post (record p' { number = v.post.number; flight = v.post.flight }) refl refl stage reading
            (λ c o. record { pinned = ap (λ (z : PoolView). z.pinned) pool ∙ o.pinned; stands = subst (λ (z : PoolView). Contains z.stands c) (sym pool) o.stands }) (t.places.each M.id v.post there)).reading;
      })
      (subst (λ (z : ℕ). ContentFacts (left M.holds.history) t.shape.firsts t.shape.rest z t.shape.front.first t.shape.chunks s.words (set ps M.id p')) (sym same_here)
      (content_post (left M.holds.history) t.shape.firsts t.shape.rest (here t.shape.front) t.shape.front.first t.shape.chunks s.words ps t.content M.id v.post p' there (λ f. ap (stage_weight f) stage))))

  -- the own part of the front word alone changes
  pub reads : (g : Front) (armed : Bool) (word : ℕ) → FitsFront g → g.first ≡ t.shape.front.first → here g ≡ here t.shape.front → g.total ≡ t.shape.front.total → g.claimed ≡ t.shape.front.claimed
      → sum_by armed_of (set ps M.id (with_own v.post (front_read v.post.own armed word))) ≤ g.remaining → Keeps M 0 (front_number g) (with_view v (front_read v.post.own armed word))
  reads g armed word fits first same_here total claims few =
      let p' = with_own v.post (front_read v.post.own armed word) in let bound = t.front.bound in
      let c = sum_kept claim_of ps M.id v.post p' there refl in
      silent g p' (record { number = refl; locks = refl; owed = refl; flight = inl refl }) fits first same_here total refl refl refl refl (λ _. refl)
      ((t.places.each M.id v.post there).stage) (omega arith) (omega arith) few

pub front_loads_keep : FrontLoadsKeep
front_loads_keep v M word is = let tt' = M.holds.tied in let ps' = map post_of M.table.views in
    let few = tt'.front.armed in let a = sum_kept armed_of ps' M.id v.post (with_own v.post (front_seen v.post.own word)) (there v M) refl in
    subst (λ (z : ℕ). Keeps M 0 z (with_view v (front_seen v.post.own word))) (sym tt'.front.packed ∙ is) (reads v M tt'.shape.front v.post.own.front.armed word tt'.front.fits refl refl refl refl (omega arith))

pub front_arms_keep : FrontArmsKeep
front_arms_keep v M f is idle more = let tt' = M.holds.tied in let ps' = map post_of M.table.views in
    let same = same_front v M f is in
    let mine : armed_of v.post ≡ 0 = ap (λ (b : Bool). cond b 1 0) idle in
    let others = few_of_seats armed_of M.limits M.table M.holds (λ p. at_most_one p.own.front.armed) refl M.id v M.here M.seated mine in
    let few = M.holds.few in
    let a = sum_set armed_of ps' M.id v.post (with_own v.post (front_read v.post.own true (front_number f))) (there v M) in
    reads v M f true (front_number f) is.fits (ap (λ (z : Front). z.first) (sym same)) (ap here (sym same)) (ap (λ (z : Front). z.total) (sym same)) (ap (λ (z : Front). z.claimed) (sym same)) (omega arith)

pub claims_keep : ClaimsKeep
claims_keep v M f e is quiet idle room calls = let tt' = M.holds.tied in let ps' = map post_of M.table.views in
    let same = same_front v M f is in let g = more_claimed f in let fits = is.fits in let most = tt'.front.capacity in
    let p' = claimed v.post e (front_number f) in
    let mine : claim_of v.post ≡ 0 = ap one_for quiet in
    let a = sum_set claim_of ps' M.id v.post p' (there v M) in
    let b = sum_kept armed_of ps' M.id v.post p' (there v M) refl in
    let armed : sum_by armed_of ps' ≤ f.remaining = subst (λ (z : Front). sum_by armed_of ps' ≤ z.remaining) same tt'.front.armed in
    let used : used_of tt'.shape.front ≡ used_of f = ap used_of same in
    silent v M g p' (record { number = refl; locks = refl; owed = refl; flight = inr (quiet, calls) })
    (record { total = fits.total; claimed = omega arith; first = fits.first; remaining = fits.remaining })
    (ap (λ (z : Front). z.first) (sym same)) (ap here (sym same)) (ap (λ (z : Front). z.total) (sym same)) refl refl refl refl
    (λ offered. absurd (let z : false ≡ true = sym (ap is_offered idle) ∙ offered in cc))
    (subst (λ (z : Stage). IsStage tt'.shape.front.first tt'.shape.chunks tt'.shape.old M.table.words v.post.own.pool v.post.number (Some e) z) (sym idle) tt)
    (omega arith) (omega arith) (omega arith)
