-- The steps on the front word that place the seat's own mark.
use Rattle.std.proofs.Common.{◌≡◌, Option, Some, None, ℕ, suc, ◌+◌, ◌-◌, ◌<◌, ◌≤◌, Bool, true, false, cond, eqb, List, [], ◌∷◌, ◌++◌, map, length, get_or, set, sym, refl, ap, ◌∙◌, subst, ⊎_elim, arith, sum_by, Contains}
use Rattle.std.proofs.lemmas.List.{append-nil}
use Rattle.std.proofs.lemmas.List.Elements.{All-tail}
use Rattle.pq_words.specs.declared.entries.Entry.{Entry}
use Rattle.pq_words.specs.declared.fronts.Front.{Front}
use Rattle.pq_words.specs.declared.place_words.PlaceWord.TheVariants.{In}
use Rattle.pq_words.specs.Entries.{raw_of}
use Rattle.pq_words.specs.PlaceWords.{place_number}
use Rattle.pq_words.specs.Fronts.{FitsFront, front_number, here, used_of}
use Rattle.pq_model.specs.declared.marks.Act.{Act}
use Rattle.pq_model.specs.declared.marks.Act.TheVariants.{Insert, Remove}
use Rattle.pq_model.specs.declared.marks.Reply.{Reply}
use Rattle.pq_model.specs.declared.marks.Reply.TheVariants.{Got, Full}
use Rattle.pq_model.specs.History.{left, left_from, IsLegalFrom}
use Rattle.pq_model.specs.Multiset.{least, without_least}
use Rattle.pq_seats.specs.declared.views.Post.{Post}
use Rattle.pq_seats.specs.declared.views.View.{View}
use Rattle.pq_seats.specs.Views.{post_of}
use Rattle.pq_seats.specs.Batches.{marks_of}
use Rattle.pq_seats.specs.Posts.{placed_view}
use Rattle.pq_seats.specs.Allowed.{Places}
use Rattle.pq_seats.proofs.Lists.{sum_set, sum_kept, sum_one, in_first, in_later, in_cases, not_in}
use Rattle.pq_seats.proofs.Lengths.{few_marks}
use Rattle.pq_seats.proofs.Drawing.{placed}
use Rattle.pq_pool.specs.declared.views.PoolState.{PoolState}
use Rattle.pq_pool.specs.Layout.{builder_word}
use Rattle.pq_pool.specs.States.{state_of, IsSafe}
use Rattle.pq_pool.specs.Facts.{PoolFacts}
use Rattle.pq_pool.specs.FactsStay.Above.{stand_stays, stand_stays-counted}
use Rattle.pq_pool.specs.FactsStay.Framing.{seat_stays, seat_stays-counted}
use Rattle.pq_chunk.specs.declared.views.ChunkView.{ChunkView}
use Rattle.pq_chunk.specs.Layout.{place_word, high_word}
use Rattle.pq_chunk.specs.Views.{pool_of, one_for, claim_of, armed_of, armed_stage, is_offered, IsOn}
use Rattle.pq_chunk.specs.Letters.{told}
use Rattle.pq_chunk.specs.Stages.{IsStaged}
use Rattle.pq_chunk.specs.Contents.{ContentFacts}
use Rattle.pq_chunk.specs.Rules.{chunk_rule, ChunkTied}
use Rattle.pq_chunk.specs.LawsHold.{chunk_lawful, are_seats}
use Rattle.pq_chunk.specs.Steps.{with_own, more_total, less_remaining, front_read, front_seen, got_own, lone}
use Rattle.pq_chunk.specs.Laws.{Moment, Keeps, HasRoom, FullsKeep, DrawsKeep, DryDrawsKeep}
use Rattle.pq_chunk.specs.Stays.Placing.{staged_stays, same_post, KeepsPost}
use Rattle.pq_chunk.specs.Stays.Filling.{content_post}
use Rattle.pq_chunk.proofs.Fields.{length_front}
use Rattle.pq_chunk.proofs.Lives.{chained_live, within_or_zero}
use Rattle.pq_chunk.proofs.Counting.{at_most_one, few_of_seats}
use Rattle.pq_chunk.proofs.FrontSteps.{front_word_tied, there, long_front, same_front, reads}

-- a step that places the seat's own mark alone
module _ (v : View ChunkView) (M : Moment v) (act : Act) (reply : Reply) (own : ChunkView) where
  abbrev T : ChunkTied M.limits M.table.words (map post_of M.table.views) (left M.holds.history)
  T = M.holds.tied

  abbrev qs : List (Post ChunkView)
  qs = map post_of M.table.views

  abbrev p' : Post ChunkView
  p' = record { number = v.post.number; locks = v.post.locks; flight = None; owed = v.post.owed ++ []; own = own }

  abbrev m' : List Entry
  m' = left_from (left M.holds.history) (marks_of v.post.number act (lone reply))

  pub marks : (g : Front) (firsts rest : List Entry) → IsLegalFrom M.limits.seats M.limits.capacity (left M.holds.history) (marks_of v.post.number act (lone reply)) → HasRoom v
      → g.first ≡ T.shape.front.first → FitsFront g → here g ≤ g.total → g.total - here g ≡ length M.holds.history + 1
      → (pool : PoolFacts pool_of M.limits M.table.words (set qs M.id p')) → pool.counted ≡ T.shape.counted
      → used_of g + sum_by claim_of qs + length (left M.holds.history) ≡ used_of T.shape.front + (length m' + sum_by claim_of (set qs M.id p')) → used_of g ≤ M.limits.capacity
      → sum_by armed_of (set qs M.id p') ≤ g.remaining → own.builder ≡ v.post.own.builder → is_offered v.post.own.stage ≡ false → is_offered own.stage ≡ false
      → ((c : ℕ) → armed_stage c own.stage ≡ armed_stage c v.post.own.stage) → KeepsPost v.post p' → IsStaged T.shape.front.first T.shape.chunks T.shape.old M.table.words p'
      → ContentFacts m' firsts rest (here g) T.shape.front.first T.shape.chunks M.table.words (set qs M.id p')
      → Keeps M 0 (front_number g) (placed_view v act (lone reply) own (length M.holds.history))
  marks g firsts rest legal few first fits enough longer pool counts used bound armed builder quiet quiet' count keeps staged content =
      let positive = M.seated in
      let d : Places chunk_rule M.limits M.id v act (lone reply) own (front_number g) M.table M.holds = record {
        legal = legal;
        apart = λ n. let a = at_most_one (eqb v.post.number n) in omega arith;
        free = ((T.offers.each M.id v.post (there v M) positive).quiet quiet).1;
        waiting = λ y has. ⊎_elim (λ z. absurd (not_in y z)) (λ z. absurd (not_in y z)) has;
        tied = front_word_tied M.limits M.table.words qs (left M.holds.history) T (are_seats M.limits M.table M.holds) g m' firsts rest M.id v.post p' (there v M) first pool counts
            fits enough used bound armed refl refl (append-nil v.post.owed) builder (quiet' ∙ sym quiet) (λ yes. absurd (let z : false ≡ true = sym quiet ∙ yes in cc)) count keeps staged content;
      } in
      placed chunk_rule M.limits M.table M.holds M.id v M.here act (lone reply) own (front_number g) d chunk_lawful (λ z. omega arith) (length_front g fits ∙ longer) few

pub fulls_keep : FullsKeep
fulls_keep v M f e is none idle full few =
    let t = M.holds.tied in let ps = map post_of M.table.views in
    let same = same_front v M f is in let g = more_total f in let fits = is.fits in
    let own = front_seen v.post.own (front_number f) in
    let p : Post ChunkView = p' v M (Insert e) Full own in
    let long : f.total - here f ≡ length M.holds.history = subst (λ (z : Front). z.total - here z ≡ length M.holds.history) same (long_front v M) in
    let enough : here f ≤ f.total = subst (λ (z : Front). here z ≤ z.total) same t.front.enough in
    let brief : length M.holds.history ≤ 536870896 = few_marks chunk_rule M.limits M.table M.holds in
    let used : used_of f + _ ≡ _ = ap (λ (z : Front). used_of z + told M.table.words ps) (sym same) ∙ t.front.used in
    let same_used : used_of t.shape.front ≡ used_of f = ap used_of same in
    let mine : claim_of v.post ≡ 0 = ap one_for none in
    let others = few_of_seats claim_of M.limits M.table M.holds (λ q. one_most q.flight) refl M.id v M.here M.seated mine in
    let claims = sum_kept claim_of ps M.id v.post p (there v M) (sym mine) in
    let arms = sum_kept armed_of ps M.id v.post p (there v M) refl in
    let armed : sum_by armed_of ps ≤ f.remaining = subst (λ (z : Front). sum_by armed_of ps ≤ z.remaining) same t.front.armed in
    let small = fits.remaining in let most = t.front.capacity in
    let quiet : is_offered v.post.own.stage ≡ false = ap is_offered idle in
    subst (λ (z : ℕ). Keeps M 0 (front_number g) (placed_view v (Insert e) (lone Full) own z)) (sym long)
    (marks v M (Insert e) Full own g t.shape.firsts t.shape.rest ((let less : M.limits.capacity < length (left M.holds.history) + M.limits.seats = omega arith in less), tt) few
    (ap (λ (z : Front). z.first) (sym same)) (record { total = omega arith; claimed = fits.claimed; first = fits.first; remaining = fits.remaining }) (omega arith) (omega arith)
    (seat_stays pool_of M.limits M.table.words ps t.pool M.id v.post p (there v M) refl refl refl) (seat_stays-counted pool_of M.limits M.table.words ps t.pool M.id v.post p (there v M) refl refl refl ∙ t.counts)
    (omega arith) (omega arith) (omega arith) refl quiet quiet (λ c. refl) (same_post v.post p refl refl refl)
    (staged_stays t.shape.front.first t.shape.chunks t.shape.old M.table.words M.table.words (λ c. record { next = refl; low = refl; high = refl }) (λ c i lt. refl) v.post p refl (sym none) refl refl (λ c o. o) (t.places.each M.id v.post (there v M)))
    (subst (λ (z : Front). ContentFacts (left M.holds.history) t.shape.firsts t.shape.rest (here z) t.shape.front.first t.shape.chunks M.table.words (set ps M.id p)) same
    (content_post (left M.holds.history) t.shape.firsts t.shape.rest (here t.shape.front) t.shape.front.first t.shape.chunks M.table.words ps t.content M.id v.post p (there v M) (λ q. refl))))
  where
    one_most : (o : Option Entry) → one_for o ≤ 1
    one_most None = omega arith
    one_most (Some x) = omega arith

-- a draw that finds no entry left
pub dry_draws_keep : DryDrawsKeep
dry_draws_keep v M f is armed dry =
    let t = M.holds.tied in let ps = map post_of M.table.views in
    let same = same_front v M f is in let g = less_remaining f in let fits = is.fits in let small = fits.remaining in
    let mine : armed_of v.post ≡ 1 = ap (λ (b : Bool). cond b 1 0) armed in
    let some_armed = sum_one armed_of ps M.id v.post (there v M) in
    let old : sum_by armed_of ps ≤ f.remaining = subst (λ (z : Front). sum_by armed_of ps ≤ z.remaining) same t.front.armed in
    let p = with_own v.post (front_read v.post.own false (front_number f)) in
    let sum = sum_set armed_of ps M.id v.post p (there v M) in
    let here_same : here g ≡ here t.shape.front = (let q : here g ≡ here f = omega arith in q) ∙ ap here (sym same) in record {
      some = omega arith;
      keeps = reads v M g false (front_number f) (record { total = fits.total; claimed = fits.claimed; first = fits.first; remaining = omega arith })
          (ap (λ (z : Front). z.first) (sym same)) here_same (ap (λ (z : Front). z.total) (sym same)) (ap (λ (z : Front). z.claimed) (sym same)) (omega arith);
    }

-- where the first chunk has an entry left, it is the least of the multiset, and stands last
record IsTop (words : List ℕ) (m firsts rest : List Entry) (c n : ℕ) : Type 0 where
  entry : Entry
  others : List Entry
  is : m ≡ entry ∷ (others ++ rest)
  firsts_are : firsts ≡ entry ∷ others
  place : get_or words (place_word c (n - 1)) 0 ≡ place_number (In entry)

top_of : (m firsts rest : List Entry) (n first : ℕ) (chunks words : List ℕ) (posts : List (Post ChunkView)) → ContentFacts m firsts rest n first chunks words posts → 0 < n → IsTop words m firsts rest first n
top_of m [] rest n first chunks words posts t some_left = let h = t.here in absurd (omega arith)
top_of m (e ∷ es) rest n first chunks words posts t some_left = let h = t.here in let long : n - 1 ≡ length es = omega arith in record {
  entry = e;
  others = es;
  is = t.splits;
  firsts_are = refl;
  place = ap (λ (z : ℕ). get_or words (place_word first z) 0) long ∙ t.falls.0;
}

-- the contents without it
without_top : (m rest : List Entry) (e : Entry) (es : List Entry) (n n' first : ℕ) (chunks words : List ℕ) (posts : List (Post ChunkView)) → ContentFacts m (e ∷ es) rest n first chunks words posts → n ≡ suc n'
    → ContentFacts (without_least m) es rest n' first chunks words posts
without_top m rest e es n n' first chunks words posts t less = record {
  splits = ap without_least t.splits;
  here = let h = t.here in omega arith;
  falls = t.falls.1;
  below = All-tail (λ (x : Entry). raw_of x ≤ get_or words (high_word first) 0) e es t.below;
  weights = t.weights;
}

pub draws_keep : DrawsKeep
draws_keep v M f is none idle armed pinned unread more few =
    let t = M.holds.tied in let ps = map post_of M.table.views in let positive = M.seated in
    let same = same_front v M f is in let g = less_remaining f in let fits = is.fits in let small = fits.remaining in
    let content_f : ContentFacts (left M.holds.history) t.shape.firsts t.shape.rest (here f) f.first t.shape.chunks M.table.words ps
    = subst (λ (z : Front). ContentFacts (left M.holds.history) t.shape.firsts t.shape.rest (here z) z.first t.shape.chunks M.table.words ps) same t.content in
    let first_same : f.first ≡ t.shape.front.first = ap (λ (z : Front). z.first) (sym same) in
    let top = top_of (left M.holds.history) t.shape.firsts t.shape.rest (here f) f.first t.shape.chunks M.table.words ps content_f (omega arith) in
    let e = top.entry in
    let own = got_own v.post.own (front_number f) f.first (here f - 1) e in
    let p : Post ChunkView = p' v M Remove (Got e) own in
    let long : f.total - here f ≡ length M.holds.history = subst (λ (z : Front). z.total - here z ≡ length M.holds.history) same (long_front v M) in
    let enough : here f ≤ f.total = subst (λ (z : Front). here z ≤ z.total) same t.front.enough in
    let mine : armed_of v.post ≡ 1 = ap (λ (b : Bool). cond b 1 0) armed in
    let some_armed = sum_one armed_of ps M.id v.post (there v M) in
    let old : sum_by armed_of ps ≤ f.remaining = subst (λ (z : Front). sum_by armed_of ps ≤ z.remaining) same t.front.armed in
    let sum = sum_set armed_of ps M.id v.post p (there v M) in
    let claims = sum_kept claim_of ps M.id v.post p (there v M) (sym (ap one_for none)) in
    let same_used : used_of t.shape.front ≡ used_of f = ap used_of same in let bound = t.front.bound in
    let live : state_of t.pool.counted f.first ≡ 2 = ap (λ (z : PoolState). state_of z f.first) t.counts ∙ (ap (λ (z : ℕ). state_of t.shape.counted z) first_same
    ∙ chained_live t.shape.counted t.shape.front.first t.shape.chunks t.shape.old M.table.words ps t.chain t.shape.front.first (in_first t.shape.front.first t.shape.chunks)) in
    let within : f.first < t.pool.chunks.count = let l = within_or_zero t.pool.counted.states f.first (omega arith) in let z = t.pool.sized.states in omega arith in
    let on = (t.pool.pinned M.id v.post (there v M) positive pinned).safe in
    let no_lock : ¬ Contains v.post.locks builder_word = λ has. let u = (t.pool.held M.id v.post (there v M) has).unpinned in absurd (cc) in
    let stands : List ℕ = f.first ∷ v.post.own.pool.stands in
    let safe : (c : ℕ) → Contains stands c → (c < t.pool.chunks.count) × IsSafe t.pool.counted v.post.number c = λ c has. ⊎_elim
    (λ q. subst (λ (z : ℕ). (z < t.pool.chunks.count) × IsSafe t.pool.counted v.post.number z) q (within, (omega arith, λ four. absurd (omega arith))))
    (λ r. on c r)
    (in_cases f.first c v.post.own.pool.stands has) in
    let keeps_on : (c : ℕ) → IsOn v.post.own.pool c → IsOn own.pool c = λ c o. record { pinned = refl; stands = in_later f.first c v.post.own.pool.stands o.stands } in
    let staged : IsStaged t.shape.front.first t.shape.chunks t.shape.old M.table.words p = record {
      stage = (staged_stays t.shape.front.first t.shape.chunks t.shape.old M.table.words M.table.words (λ c. record { next = refl; low = refl; high = refl }) (λ c i lt. refl) v.post
          (record p { own = record own { reading = v.post.own.reading } }) refl (sym none) refl refl keeps_on (t.places.each M.id v.post (there v M))).stage;
      reading = (record { pinned = refl; stands = in_first f.first v.post.own.pool.stands }, omega arith, top.place);
    } in
    let fewer_left : here f ≡ suc (here g) = omega arith in
    let content : ContentFacts (without_least (left M.holds.history)) top.others t.shape.rest (here g) f.first t.shape.chunks M.table.words (set ps M.id p) =
    content_post (without_least (left M.holds.history)) top.others t.shape.rest (here g) f.first t.shape.chunks M.table.words ps
    (without_top (left M.holds.history) t.shape.rest e top.others (here f) (here g) f.first t.shape.chunks M.table.words ps
    (subst (λ (z : List Entry). ContentFacts (left M.holds.history) z t.shape.rest (here f) f.first t.shape.chunks M.table.words ps) top.firsts_are content_f) fewer_left)
    M.id v.post p (there v M) (λ f. refl) in
    let shorter : length (left M.holds.history) ≡ suc (length (without_least (left M.holds.history))) = ap (λ (z : List Entry). length z) top.is ∙ sym (ap (λ (z : List Entry). suc (length (without_least z))) top.is) in
    let quiet : is_offered v.post.own.stage ≡ false = ap is_offered idle in (
      e,
      record {
        least = ap least top.is;
        stands = top.place;
        keeps = subst (λ (z : ℕ). Keeps M 0 (front_number g) (placed_view v Remove (lone (Got e)) own z)) (sym long)
            (marks v M Remove (Got e) own g top.others t.shape.rest (ap least top.is, tt) few first_same
            (record { total = fits.total; claimed = fits.claimed; first = fits.first; remaining = omega arith }) (omega arith) (omega arith)
            (stand_stays pool_of M.limits M.table.words ps t.pool M.id v.post p (there v M) positive pinned no_lock refl refl stands refl safe)
            (stand_stays-counted pool_of M.limits M.table.words ps t.pool M.id v.post p (there v M) positive pinned no_lock refl refl stands refl safe ∙ t.counts)
            (omega arith) (omega arith) (omega arith) refl quiet quiet (λ c. refl) (same_post v.post p refl refl refl) staged
            (subst (λ (z : ℕ). ContentFacts (without_least (left M.holds.history)) top.others t.shape.rest (here g) z t.shape.chunks M.table.words (set ps M.id p)) first_same content));
      },
    )
