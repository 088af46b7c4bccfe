-- The facts of places and counts stay.
use Rattle.std.proofs.Common.{◌≡◌, ◌⊎◌, Option, Some, ℕ, ◌+◌, ◌<◌, ◌≤◌, List, [], ◌∷◌, ◌++◌, get_or, set, sym, refl, ap, ◌∙◌, subst, inl, inr, ⊎_elim, arith, sum_by, Contains}
use Rattle.std.proofs.lemmas.List.Sums.{sum_by_push}
use mathlib.Core.Option.{some}
use lib.ListN.{get_elem?}
use native.Mathlib.Decide.{ℕ_discrete}
use mathlib.Core.Logic.{dite}
use Rattle.atomic_table.proofs.Lists.{at_set, at_snoc, at_longer, set_else}
use Rattle.pq_words.specs.declared.entries.Entry.{Entry}
use Rattle.pq_words.specs.declared.place_words.PlaceWord.TheVariants.{Empty}
use Rattle.pq_words.specs.PlaceWords.{place_number}
use Rattle.pq_seats.specs.declared.views.Post.{Post}
use Rattle.pq_seats.proofs.Lists.{sum_kept, put_here, same_at}
use Rattle.pq_pool.specs.declared.views.PoolState.{PoolState}
use Rattle.pq_pool.specs.declared.views.PoolView.{PoolView}
use Rattle.pq_pool.specs.States.{IsInUse}
use Rattle.pq_chunk.specs.declared.views.ChunkView.{ChunkView}
use Rattle.pq_chunk.specs.declared.views.BuilderView.{BuilderView}
use Rattle.pq_chunk.specs.declared.views.Stage.{Stage}
use Rattle.pq_chunk.specs.declared.views.Stage.TheVariants.{Idle, AtFirst, Past, At, Within, Armed, Drawn, Waiting, Marked, Offered}
use Rattle.pq_chunk.specs.declared.views.Reading.{Reading}
use Rattle.pq_chunk.specs.declared.views.Reading.TheVariants.{Nothing, Reads}
use Rattle.pq_chunk.specs.Layout.{place_word, count_word, low_word, high_word}
use Rattle.pq_chunk.specs.Places.{IsPlace}
use Rattle.pq_chunk.specs.Views.{IsOn, armed_for}
use Rattle.pq_chunk.specs.Chain.{Replaced}
use Rattle.pq_chunk.specs.Stages.{PlaceFacts, IsStaged, IsStage, IsReading, IsCome, IsWithin, IsPast, IsWaiting, HasDrawn, HasPut, IsBeingFrozen}
use Rattle.pq_chunk.specs.Stays.Chains.{KeepsLinks}

-- all places are as they were
abbrev pub KeepsPlaces : List ℕ → List ℕ → Type 0
KeepsPlaces words words' = (c i : ℕ) → i < 64 → get_or words' (place_word c i) 0 ≡ get_or words (place_word c i) 0

-- What one seat knows of the chunks stays where the links, the bounds and its places do
module _ (first : ℕ) (chunks : List ℕ) (old : Replaced) (words words' : List ℕ) (links : (c : ℕ) → KeepsLinks words words' c) (v v' : PoolView) (on : (c : ℕ) → IsOn v c → IsOn v' c) where
  pub come_stays : (flight : Option Entry) (c : ℕ) (e : Entry) → IsCome first chunks old words v flight c e → IsCome first chunks old words' v' flight c e
  come_stays flight c e h = let a = h.low in let b = (links c).low in record { flies = h.flies; on = on c h.on; insert = h.insert; low = omega arith }

  pub within_stays : (flight : Option Entry) (c : ℕ) (e : Entry) → IsWithin first chunks old words v flight c e → IsWithin first chunks old words' v' flight c e
  within_stays flight c e h = let a = h.1 in let b = (links c).high in (come_stays flight c e h.0, omega arith)

  pub past_stays : (flight : Option Entry) (c : ℕ) (e : Entry) → IsPast first chunks old words v flight c e → IsPast first chunks old words' v' flight c e
  past_stays flight c e h = let a = h.high in let b = (links c).high in
      record { flies = h.flies; on = on c h.on; reached = h.reached; high = omega arith; leads = λ z. h.leads (sym (links c).next ∙ z) }

  module _ (same : KeepsPlaces words words') where
    waits_stays : (number c i : ℕ) (e : Entry) → IsWaiting first chunks old words number c i e → IsWaiting first chunks old words' number c i e
    waits_stays number c i e h = record { owner = h.owner; place = h.place; pending = same c i h.place ∙ h.pending; chained = h.chained }

    pub stage_stays : (number : ℕ) (flight : Option Entry) (s : Stage) → IsStage first chunks old words v number flight s → IsStage first chunks old words' v' number flight s
    stage_stays number flight Idle h = tt
    stage_stays number flight (AtFirst c) h = (on c h.0, h.1)
    stage_stays number flight (Past c e) h = past_stays flight c e h
    stage_stays number flight (At c e) h = come_stays flight c e h
    stage_stays number flight (Within c e) h = within_stays flight c e h
    stage_stays number flight (Armed c e) h = within_stays flight c e h
    stage_stays number flight (Drawn c i e) h = record { within = within_stays flight c e h.within; place = h.place; chained = λ z. h.chained (sym (same c i h.place) ∙ z) }
    stage_stays number flight (Waiting c i e) h = (h.0, waits_stays number c i e h.1)
    stage_stays number flight (Marked c i e) h = (h.0, waits_stays number c i e h.1)
    stage_stays number flight Offered h = tt

    pub reading_stays : (r : Reading) → IsReading first chunks old words v r → IsReading first chunks old words' v' r
    reading_stays Nothing h = tt
    reading_stays (Reads c i e) h = (on c h.0, h.1, same c i h.1 ∙ h.2)

-- the frame of one post
pub staged_stays : (first : ℕ) (chunks : List ℕ) (old : Replaced) (words words' : List ℕ) → ((c : ℕ) → KeepsLinks words words' c) → KeepsPlaces words words'
    → (p p' : Post ChunkView) → p'.number ≡ p.number → p'.flight ≡ p.flight → p'.own.stage ≡ p.own.stage → p'.own.reading ≡ p.own.reading → ((c : ℕ) → IsOn p.own.pool c → IsOn p'.own.pool c)
    → IsStaged first chunks old words p → IsStaged first chunks old words' p'
staged_stays first chunks old words words' links same p p' number flight stage reading on h = record {
  stage = subst (λ (z : Stage). IsStage first chunks old words' p'.own.pool p'.number p'.flight z) (sym stage)
      (subst (λ (z : Option Entry). IsStage first chunks old words' p'.own.pool p'.number z p.own.stage) (sym flight)
      (subst (λ (z : ℕ). IsStage first chunks old words' p'.own.pool z p.flight p.own.stage) (sym number)
      (stage_stays first chunks old words words' links p.own.pool p'.own.pool on same p.number p.flight p.own.stage h.stage)));
  reading = subst (λ (z : Reading). IsReading first chunks old words' p'.own.pool z) (sym reading)
      (reading_stays first chunks old words words' links p.own.pool p'.own.pool on same p.own.reading h.reading);
}

-- Whoever has drawn a place, or put an entry there, still has; and the chunk that is being frozen still is
pub record KeepsPost (p p' : Post ChunkView) : Type 0 where
  pub drawn : (c i : ℕ) (e : Entry) → p.own.stage ≡ Drawn c i e → p'.own.stage ≡ Drawn c i e
  pub put : (c i : ℕ) (e : Entry) → (p.own.stage ≡ Waiting c i e) ⊎ (p.own.stage ≡ Marked c i e)
      → (p'.number ≡ p.number) × ((p'.own.stage ≡ Waiting c i e) ⊎ (p'.own.stage ≡ Marked c i e))
  pub freezing : p'.own.builder.freezing ≡ p.own.builder.freezing

pub same_post : (p p' : Post ChunkView) → p'.number ≡ p.number → p'.own.stage ≡ p.own.stage → p'.own.builder ≡ p.own.builder → KeepsPost p p'
same_post p p' number stage builder = record {
  drawn = λ c i e h. stage ∙ h;
  put = λ c i e h. (number, ⊎_elim (λ a. inl (stage ∙ a)) (λ a. inr (stage ∙ a)) h);
  freezing = ap (λ (z : BuilderView). z.freezing) builder;
}

module _ (posts : List (Post ChunkView)) (id : ℕ) (p p' : Post ChunkView) (at : get_elem? posts id ≡ some p) where
  -- this place was drawn, where it is not the stepping seat's that leaves it
  pub drawn_kept : (c i : ℕ) → ((e : Entry) → p.own.stage ≡ Drawn c i e → p'.own.stage ≡ Drawn c i e) → HasDrawn posts c i → HasDrawn (set posts id p') c i
  drawn_kept c i moves d = dite (ℕ_discrete d.id id)
      (λ e. let is : d.post ≡ p = same_at posts id d.post p (subst (λ (z : ℕ). get_elem? posts z ≡ some d.post) e d.stands) at in record {
        id = id;
        post = p';
        stands = put_here posts id p p' at;
        entry = d.entry;
        drawn = moves d.entry (subst (λ (z : Post ChunkView). z.own.stage ≡ Drawn c i d.entry) is d.drawn);
      })
      (λ ne. record { id = d.id; post = d.post; stands = set_else posts id d.id p' ne ∙ d.stands; entry = d.entry; drawn = d.drawn })

  pub put_kept : (number c i : ℕ) (e : Entry)
      → ((p.own.stage ≡ Waiting c i e) ⊎ (p.own.stage ≡ Marked c i e) → (p'.number ≡ p.number) × ((p'.own.stage ≡ Waiting c i e) ⊎ (p'.own.stage ≡ Marked c i e)))
      → HasPut posts number c i e → HasPut (set posts id p') number c i e
  put_kept number c i e moves d = dite (ℕ_discrete d.id id)
      (λ q. let is : d.post ≡ p = same_at posts id d.post p (subst (λ (z : ℕ). get_elem? posts z ≡ some d.post) q d.stands) at in
      let m = moves (subst (λ (z : Post ChunkView). (z.own.stage ≡ Waiting c i e) ⊎ (z.own.stage ≡ Marked c i e)) is d.put) in record {
        id = id;
        post = p';
        stands = put_here posts id p p' at;
        named = m.0 ∙ (sym (ap (λ (z : Post ChunkView). z.number) is) ∙ d.named);
        put = m.1;
      })
      (λ ne. record { id = d.id; post = d.post; stands = set_else posts id d.id p' ne ∙ d.stands; named = d.named; put = d.put })

  pub frozen_kept : p'.own.builder.freezing ≡ p.own.builder.freezing → (c : ℕ) → IsBeingFrozen posts c → IsBeingFrozen (set posts id p') c
  frozen_kept same c d = dite (ℕ_discrete d.id id)
      (λ q. let is : d.post ≡ p = same_at posts id d.post p (subst (λ (z : ℕ). get_elem? posts z ≡ some d.post) q d.stands) at in record {
        id = id;
        post = p';
        stands = put_here posts id p p' at;
        freezes = same ∙ subst (λ (z : Post ChunkView). z.own.builder.freezing ≡ Some c) is d.freezes;
      })
      (λ ne. record { id = d.id; post = d.post; stands = set_else posts id d.id p' ne ∙ d.stands; freezes = d.freezes })

module _ (counted : PoolState) (first : ℕ) (chunks : List ℕ) (old : Replaced) (words : List ℕ) (posts : List (Post ChunkView)) (t : PlaceFacts counted first chunks old words posts) where
  -- no place changes, nor a bound or a link
  pub places_step : (counted' : PoolState) (words' : List ℕ) (id : ℕ) (p p' : Post ChunkView) → get_elem? posts id ≡ some p
      → KeepsPlaces words words' → ((c : ℕ) → KeepsLinks words words' c)
      → ((c : ℕ) → Contains chunks c → (i : ℕ) → i < 64 → i < get_or words' (count_word c) 0 → get_or words (place_word c i) 0 ≡ place_number Empty → HasDrawn (set posts id p') c i)
      → ((c : ℕ) → IsInUse counted' c → get_or words' (count_word c) 0 + sum_by (armed_for c) (set posts id p') ≤ 80)
      → ((c i : ℕ) (e : Entry) → (p.own.stage ≡ Waiting c i e) ⊎ (p.own.stage ≡ Marked c i e)
      → (p'.number ≡ p.number) × ((p'.own.stage ≡ Waiting c i e) ⊎ (p'.own.stage ≡ Marked c i e)))
      → p'.own.builder.freezing ≡ p.own.builder.freezing
      → IsStaged first chunks old words' p' → PlaceFacts counted' first chunks old words' (set posts id p')
  places_step counted' words' id p p' at same links drawn counts put freezing own = record {
    places = λ c has i lt. let l = links c in
        subst (λ (z : ℕ). IsPlace z (get_or words' (high_word c) 0) (get_or words' (place_word c i) 0)) (sym l.low)
        (subst (λ (z : ℕ). IsPlace (get_or words (low_word c) 0) z (get_or words' (place_word c i) 0)) (sym l.high)
        (subst (λ (z : ℕ). IsPlace (get_or words (low_word c) 0) (get_or words (high_word c) 0) z) (sym (same c i lt)) (t.places c has i lt)));
    drawn = λ c has i lt below empty. drawn c has i lt below (sym (same c i lt) ∙ empty);
    owned = λ c has i lt number e owner is. put_kept posts id p p' at number c i e (put c i e) (t.owned c has i lt number e owner (sym (same c i lt) ∙ is));
    thawed = λ c has i lt is. frozen_kept posts id p p' at freezing c (t.thawed c has i lt (sym (same c i lt) ∙ is));
    counts = counts;
    each = λ j q to. ⊎_elim (λ e. subst (IsStaged first chunks old words') e.1 own)
        (λ r. staged_stays first chunks old words words' links same q q refl refl refl refl (λ c o. o) (t.each j q r.1)) (at_set posts id j p' q to);
  }

  -- the frame: no count changes either
  pub places_kept : (counted' : PoolState) (words' : List ℕ) (id : ℕ) (p p' : Post ChunkView) → get_elem? posts id ≡ some p
      → ((c : ℕ) → IsInUse counted' c → IsInUse counted c) → KeepsPlaces words words' → ((c : ℕ) → KeepsLinks words words' c)
      → ((c : ℕ) → get_or words' (count_word c) 0 ≡ get_or words (count_word c) 0)
      → ((c : ℕ) → armed_for c p' ≡ armed_for c p) → KeepsPost p p'
      → IsStaged first chunks old words' p' → PlaceFacts counted' first chunks old words' (set posts id p')
  places_kept counted' words' id p p' at in_use same links count arm keeps own = places_step counted' words' id p p' at same links
      (λ c has i lt below empty. let b = count c in drawn_kept posts id p p' at c i (keeps.drawn c i) (t.drawn c has i lt (omega arith) empty))
      (λ c used. let a = t.counts c (in_use c used) in let b = count c in let s = sum_kept (armed_for c) posts id p p' at (arm c) in omega arith)
      keeps.put keeps.freezing own

  pub places_come : (p' : Post ChunkView) → ((c : ℕ) → armed_for c p' ≡ 0) → IsStaged first chunks old words p' → PlaceFacts counted first chunks old words (posts ++ p' ∷ [])
  places_come p' arm own = record {
    places = t.places;
    drawn = λ c has i lt below empty. let d = t.drawn c has i lt below empty in
        record { id = d.id; post = d.post; stands = at_longer posts (p' ∷ []) d.id d.post d.stands; entry = d.entry; drawn = d.drawn };
    owned = λ c has i lt number e owner is. let d = t.owned c has i lt number e owner is in
        record { id = d.id; post = d.post; stands = at_longer posts (p' ∷ []) d.id d.post d.stands; named = d.named; put = d.put };
    thawed = λ c has i lt is. let d = t.thawed c has i lt is in
        record { id = d.id; post = d.post; stands = at_longer posts (p' ∷ []) d.id d.post d.stands; freezes = d.freezes };
    counts = λ c used. let a = t.counts c used in let s = sum_by_push (armed_for c) posts p' in let z = arm c in omega arith;
    each = λ j q to. ⊎_elim (λ a. t.each j q a) (λ e. subst (IsStaged first chunks old words) e own) (at_snoc posts p' q j to);
  }
