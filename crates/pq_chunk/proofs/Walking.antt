-- The loads of an insert that walks along the chain.
use Rattle.std.proofs.Common.{◌≡◌, ◌≢◌, ◌⊎◌, ℕ, ◌+◌, ◌<◌, ◌≤◌, false, eqb, List, map, length, get_or, set, sym, refl, ap, ◌∙◌, subst, inl, inr, ⊎_elim, arith, sum_by, ne_eqb}
use Rattle.std.proofs.lemmas.List.{set-get_or}
use native.Mathlib.Decide.{ℕ_discrete}
use mathlib.Core.Logic.{dite}
use Rattle.pq_words.specs.declared.entries.Entry.{Entry}
use Rattle.pq_words.specs.Fronts.{here}
use Rattle.pq_model.specs.History.{left}
use Rattle.pq_seats.specs.declared.views.Post.{Post}
use Rattle.pq_seats.specs.declared.views.View.{View}
use Rattle.pq_seats.specs.Views.{post_of}
use Rattle.pq_seats.proofs.Lists.{sum_set, sum_kept, test_other}
use Rattle.pq_seats.proofs.Owning.{own_stays}
use Rattle.pq_pool.specs.States.{IsInUse}
use Rattle.pq_pool.specs.FactsStay.Framing.{seat_stays, seat_stays-counted}
use Rattle.pq_chunk.specs.declared.views.ChunkView.{ChunkView}
use Rattle.pq_chunk.specs.declared.views.Stage.{Stage}
use Rattle.pq_chunk.specs.declared.views.Stage.TheVariants.{Idle, AtFirst, Past, At, Within, Armed, Drawn, Waiting, Marked, Offered}
use Rattle.pq_chunk.specs.Layout.{count_word, high_word, chunk_count}
use Rattle.pq_chunk.specs.Views.{pool_of, armed_for, armed_stage, stage_weight, is_offered}
use Rattle.pq_chunk.specs.Stages.{IsStage}
use Rattle.pq_chunk.specs.Rules.{chunk_rule, ChunkTied}
use Rattle.pq_chunk.specs.LawsHold.{chunk_lawful, are_seats}
use Rattle.pq_chunk.specs.Steps.{with_own, with_view, staged}
use Rattle.pq_chunk.specs.Laws.{Moment, Keeps, WordIs, WithinKeeps, CountArmsKeep}
use Rattle.pq_chunk.specs.Stays.Fronts.{front_kept, told_stays}
use Rattle.pq_chunk.specs.Stays.Chains.{chain_kept}
use Rattle.pq_chunk.specs.Stays.Placing.{places_step, drawn_kept}
use Rattle.pq_chunk.specs.Stays.Filling.{content_post}
use Rattle.pq_chunk.specs.Stays.Notes.{notes_kept}
use Rattle.pq_chunk.specs.Stays.Offering.{offers_kept}
use Rattle.pq_chunk.specs.Stays.Whole.{same_words, idle_still}
use Rattle.pq_chunk.proofs.Counting.{at_most_one, few_of_seats}
use Rattle.pq_chunk.proofs.FrontSteps.{there}

-- A load of the word i, which is behind the builder's word, by which a walking insert comes from one stage to another
module _ (v : View ChunkView) (M : Moment v) (from to : Stage) (was : v.post.own.stage ≡ from)
    (weighs : (f : ℕ → ℕ) → stage_weight f to ≡ stage_weight f from) (quiet : is_offered from ≡ false) (quiet' : is_offered to ≡ false)
    (not_drawn : (c i : ℕ) (e : Entry) → from ≢ Drawn c i e) (not_put : (c i : ℕ) (e : Entry) → (from ≡ Waiting c i e) ⊎ (from ≡ Marked c i e) → ⊥) where
  abbrev T : ChunkTied M.limits M.table.words (map post_of M.table.views) (left M.holds.history)
  T = M.holds.tied

  abbrev ps : List (Post ChunkView)
  ps = map post_of M.table.views

  abbrev p' : Post ChunkView
  p' = with_own v.post (staged v.post.own to)

  pub restaged : (i x : ℕ) → 17 < i → WordIs M i x
      → ((c : ℕ) → IsInUse T.shape.counted c → get_or M.table.words (count_word c) 0 + sum_by (armed_for c) (set ps M.id p') ≤ 80)
      → IsStage T.shape.front.first T.shape.chunks T.shape.old M.table.words v.post.own.pool v.post.number v.post.flight to
      → Keeps M i x (with_view v (staged v.post.own to))
  restaged i x far is counts stage =
      let k = M.limits in let words = M.table.words in let m = left M.holds.history in let at = there v M in let p = v.post in let same = same_words k.capacity words in
      let positive = M.seated in
      let offered : is_offered to ≡ is_offered p.own.stage = quiet' ∙ sym (ap is_offered was ∙ quiet) in
      let tied : ChunkTied k words (set ps M.id p') m = record {
        shape = T.shape;
        sized = T.sized;
        pool = seat_stays pool_of k words ps T.pool M.id p p' at refl refl refl;
        counts = seat_stays-counted pool_of k words ps T.pool M.id p p' at refl refl refl ∙ T.counts;
        front = front_kept k T.shape.front (length m) words ps T.front words M.id p p' at refl (told_stays words words ps M.id p p' at (λ j a b. refl) refl) refl refl;
        chain = chain_kept T.shape.counted T.shape.front.first T.shape.chunks T.shape.old words ps T.chain T.shape.counted words M.id p p' at (λ c. refl) (λ c u. u) same.links (λ c j lt s. refl)
            (λ c has. omega arith) refl (idle_still k words ps m T M.id p p' at refl refl);
        places = places_step T.shape.counted T.shape.front.first T.shape.chunks T.shape.old words ps T.places T.shape.counted words M.id p p' at same.places same.links
            (λ c has j lt below empty. drawn_kept ps M.id p p' at c j (λ e z. absurd (not_drawn c j e (sym was ∙ z))) (T.places.drawn c has j lt below empty))
            counts (λ c j e z. absurd (not_put c j e (⊎_elim (λ a. inl (sym was ∙ a)) (λ a. inr (sym was ∙ a)) z))) refl
            (record { stage = stage; reading = (T.places.each M.id p at).reading });
        content = content_post m T.shape.firsts T.shape.rest (here T.shape.front) T.shape.front.first T.shape.chunks words ps T.content M.id p p' at (λ f. weighs f ∙ sym (ap (stage_weight f) was));
        building = notes_kept (chunk_count k.capacity) T.shape.counted T.shape.old words ps T.building T.shape.counted words M.id p p' at (λ c b. b) (λ l q u j y n. refl) refl;
        offers = offers_kept k.capacity words ps T.offers words M.id p p' at same.offers (λ n s. refl) (are_seats k M.table M.holds) refl refl refl refl offered (λ _. refl);
      } in
      own_stays chunk_rule k chunk_lawful M.table M.holds M.id v p' M.here (λ z. omega arith) (record { number = refl; locks = refl; owed = refl; flight = inl refl })
      i x (omega arith) (ne_eqb i 17 (λ z. omega arith))
      (subst (λ (z : List ℕ). ChunkTied k z (set ps M.id p') m) (sym (ap (λ (y : ℕ). set words i y) (sym is) ∙ set-get_or words i 0)) tied)

pub within_keeps : WithinKeeps
within_keeps v M c e high is was fits =
    let T' = M.holds.tied in let ps' = map post_of M.table.views in let at = there v M in
    let p = with_own v.post (staged v.post.own (Within c e)) in
    let come = subst (λ (z : Stage). IsStage T'.shape.front.first T'.shape.chunks T'.shape.old M.table.words v.post.own.pool v.post.number v.post.flight z) was (T'.places.each M.id v.post at).stage in
    restaged v M (At c e) (Within c e) was (λ f. refl) refl refl (λ a b d z. cc) (λ a b d z. ⊎_elim (λ y. cc) (λ y. cc) z) (high_word c) high (omega arith) is
    (λ d used. let a = T'.places.counts d used in let b = sum_kept (armed_for d) ps' M.id v.post p at (sym (ap (armed_stage d) was)) in omega arith)
    (come, omega arith)

pub count_arms_keep : CountArmsKeep
count_arms_keep v M c e count is was some_left =
    let T' = M.holds.tied in let ps' = map post_of M.table.views in let at = there v M in
    let p = with_own v.post (staged v.post.own (Armed c e)) in
    let within = subst (λ (z : Stage). IsStage T'.shape.front.first T'.shape.chunks T'.shape.old M.table.words v.post.own.pool v.post.number v.post.flight z) was (T'.places.each M.id v.post at).stage in
    restaged v M (Within c e) (Armed c e) was (λ f. refl) refl refl (λ a b d z. cc) (λ a b d z. ⊎_elim (λ y. cc) (λ y. cc) z) (count_word c) count (omega arith) is
    (λ d used. let a = T'.places.counts d used in let z : armed_for d v.post ≡ 0 = ap (armed_stage d) was in let b = sum_set (armed_for d) ps' M.id v.post p at in dite (ℕ_discrete c d)
    (λ q. let few = few_of_seats (armed_for d) M.limits M.table M.holds (λ o. one_most d o.own.stage) refl M.id v M.here M.seated z in let seats = M.holds.few in
    let o = at_most_one (eqb c d) in let w : get_or M.table.words (count_word d) 0 ≡ count = ap (λ (y : ℕ). get_or M.table.words (count_word y) 0) (sym q) ∙ is in omega arith)
    (λ ne. let o = test_other c d 1 0 ne in omega arith))
    within
  where
    one_most : (d : ℕ) (s : Stage) → armed_stage d s ≤ 1
    one_most d Idle = omega arith
    one_most d (AtFirst b) = omega arith
    one_most d (Past b x) = omega arith
    one_most d (At b x) = omega arith
    one_most d (Within b x) = omega arith
    one_most d (Armed b x) = at_most_one (eqb b d)
    one_most d (Drawn b i x) = omega arith
    one_most d (Waiting b i x) = omega arith
    one_most d (Marked b i x) = omega arith
    one_most d Offered = omega arith
