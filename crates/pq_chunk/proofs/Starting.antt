-- The words of a fresh queue keep the rule, so that it says nothing impossible; and the total fits its field.
use Rattle.std.proofs.Common.{◌≡◌, ◌⊎◌, ℕ, zero, suc, ◌+◌, ◌-◌, ◌<◌, ◌≤◌, cond, eqb, List, [], ◌∷◌, length, get_or, replicate, sym, refl, ap, ◌∙◌, subst, inl, inr, ⊎_elim, arith, Contains}
use Rattle.std.proofs.lemmas.List.{length-replicate}
use Rattle.std.proofs.lemmas.List.Sums.{sum_by-cons}
use Rattle.std.proofs.lemmas.List.Elements.{All-nil}
use mathlib.Core.Option.{some, some-injective, some-ne-none}
use lib.ListN.{get_elem?}
use Rattle.pq_words.specs.declared.entries.Entry.{Entry}
use Rattle.pq_words.specs.declared.place_words.PlaceWord.TheVariants.{Empty}
use Rattle.pq_words.specs.Entries.{raw_of}
use Rattle.pq_seats.specs.declared.views.Post.{Post}
use Rattle.pq_seats.specs.Views.{empty_post}
use Rattle.pq_seats.proofs.Lists.{in_cases, not_in, test_other}
use Rattle.pq_seats.proofs.Lengths.{few_marks}
use Rattle.pq_pool.specs.declared.views.PoolState.{PoolState}
use Rattle.pq_pool.specs.Layout.{builder_word, next_word}
use Rattle.pq_pool.specs.States.{state_of, IsInUse}
use Rattle.pq_pool.specs.Views.{pool_state}
use Rattle.pq_chunk.specs.declared.views.ChunkView.{ChunkView}
use Rattle.pq_chunk.specs.Layout.{place_word, high_word, chunk_count}
use Rattle.pq_chunk.specs.Places.{sum_to, in_weight, chunk_weight}
use Rattle.pq_chunk.specs.Views.{idle_chunk, times}
use Rattle.pq_chunk.specs.Letters.{tells, told_words}
use Rattle.pq_chunk.specs.Chain.{live_one}
use Rattle.pq_chunk.specs.Stages.{IsStaged}
use Rattle.pq_chunk.specs.Rules.{chunk_rule, length_in}
use Rattle.pq_chunk.specs.Opening.{FreshWordsOpen, TotalsFit}
use Rattle.pq_chunk.proofs.Fields.{length_front}
use Rattle.pq_chunk.proofs.Lives.{times-cons}

abbrev none_of : ℕ → List ℕ
none_of n = replicate n 0

zeros : (n i : ℕ) → get_or (none_of n) i 0 ≡ 0
zeros zero i = refl
zeros (suc n) zero = refl
zeros (suc n) (suc i) = zeros n i

abbrev fresh_state : ℕ → ℕ → PoolState
fresh_state count seats = pool_state (2 ∷ 2 ∷ none_of (count - 2)) (none_of (suc seats))

fresh_kinds : (n s c : ℕ) → state_of (fresh_state n s) c ≤ 4
fresh_kinds n s zero = omega arith
fresh_kinds n s (suc zero) = omega arith
fresh_kinds n s (suc (suc c)) = let z = zeros (n - 2) c in omega arith

fresh_lives : (n s c : ℕ) → times c (0 ∷ 1 ∷ []) ≡ live_one (fresh_state n s) c
fresh_lives n s zero = refl
fresh_lives n s (suc zero) = refl
fresh_lives n s (suc (suc c)) = let z : live_one (fresh_state n s) (suc (suc c)) ≡ 0 = ap (λ (y : ℕ). cond (eqb y 2) 1 0) (zeros (n - 2) c) in
    let a = times-cons (suc (suc c)) 0 (1 ∷ []) in let b = times-cons (suc (suc c)) 1 [] in
    let d = test_other 0 (suc (suc c)) 1 0 (λ e. omega arith) in let e = test_other 1 (suc (suc c)) 1 0 (λ q. omega arith) in let f : times (suc (suc c)) [] ≡ 0 = refl in omega arith

fresh_used : (n s c : ℕ) → 2 ≤ state_of (fresh_state n s) c → (c ≡ 0) ⊎ (c ≡ 1)
fresh_used n s zero h = inl refl
fresh_used n s (suc zero) h = inr refl
fresh_used n s (suc (suc c)) h = let z = zeros (n - 2) c in absurd (omega arith)

to_zero : (f : ℕ → ℕ) (n : ℕ) → ((i : ℕ) → i < n → f i ≡ 0) → sum_to f n ≡ 0
unfolding sum_to
to_zero f zero none = refl
to_zero f (suc n) none = let a = to_zero f n (λ i lt. none i (omega arith)) in let b = none n (omega arith) in omega arith

abbrev dealer_post : Post ChunkView
dealer_post = empty_post idle_chunk 0

one_post : (j : ℕ) (p : Post ChunkView) → get_elem? (dealer_post ∷ []) j ≡ some p → dealer_post ≡ p
one_post zero p at = some-injective dealer_post p at
one_post (suc j) p at = absurd (some-ne-none p (sym at))

only_one : (c : ℕ) → Contains (1 ∷ []) c → 1 ≡ c
only_one c has = ⊎_elim (λ e. e) (λ r. absurd (not_in c r)) (in_cases 1 c [] has)

pub fresh_words_open : FreshWordsOpen
fresh_words_open k words F =
    let n = chunk_count k.capacity in let b = fresh_state n k.seats in let seats = F.seats in let top = F.capacity in let sized = F.sized in let long = F.long in record {
      shape = record { counted = b; front = record { total = 0; claimed = 0; first = 0; remaining = 16 }; chunks = 1 ∷ []; old = record { inserts = []; firsts = [] }; firsts = []; rest = [] };
      sized = F.sized;
      pool = record {
        few_seats = F.seats;
        long = F.long;
        chunks = record { count = n; more = 16; room = F.sized; less = omega arith; few = omega arith };
        counted = b;
        sized = record { states = let l : length (none_of (n - 2)) ≡ n - 2 = length-replicate (n - 2) 0 in omega arith; grace = length-replicate (suc k.seats) 0 };
        kinds = fresh_kinds n k.seats;
        links = λ c next lt link used. ⊎_elim
            (λ e. let l : get_or words (next_word 0) 0 ≡ suc next = ap (λ (z : ℕ). get_or words (next_word z) 0) (sym e) ∙ link in let f = F.next_first in let is : 1 ≡ next = omega arith in
            subst (λ (z : ℕ). (z < n) × IsInUse b z × (state_of b z ≤ state_of b c)) is (omega arith, omega arith, used))
            (λ e. let l : get_or words (next_word 1) 0 ≡ suc next = ap (λ (z : ℕ). get_or words (next_word z) 0) (sym e) ∙ link in let f = F.next_second in absurd (omega arith))
            (fresh_used n k.seats c used);
        free = λ z. record { states = F.states; grace = λ m seat. let a = seat.0 in let c = seat.1 in F.low (33 + m) (omega arith) (omega arith) ∙ sym (zeros (suc k.seats) m) };
        held = λ j p at has. absurd (not_in builder_word (subst (λ (z : Post ChunkView). Contains z.locks builder_word) (sym (one_post j p at)) has));
        pinned = λ j p at positive is. let z : 0 ≡ p.number = ap (λ (y : Post ChunkView). y.number) (one_post j p at) in absurd (omega arith);
        loose = λ m seat word. let a = seat.0 in let c = seat.1 in absurd (word (F.low (17 + m) (omega arith) (omega arith)));
      };
      counts = refl;
      front = record {
        packed = F.front;
        fits = record { total = omega arith; claimed = omega arith; first = omega arith; remaining = omega arith };
        enough = omega arith;
        used = let t : told_words words ≡ 0 = to_zero (λ i. tells (get_or words (suc i) 0)) 16 (λ i lt. ap tells (F.low (suc i) (omega arith) (omega arith))) in omega arith;
        bound = omega arith;
        capacity = F.capacity;
        armed = omega arith;
      };
      chain = record {
        joined = (F.next_first, F.low_second ∙ sym F.high_first, (let a = F.low_second in omega arith), (F.next_second, F.high_second));
        one = omega arith;
        filled = λ c has ne. absurd (ne (ap (λ (z : ℕ). get_or words (next_word z) 0) (sym (only_one c has)) ∙ F.next_second));
        lives = λ c. let a = fresh_lives n k.seats c in omega arith;
        idle = λ j p at none. sym (ap (λ (y : Post ChunkView). y.own.builder) (one_post j p at));
        sealed = λ c gone. absurd (not_in c gone);
        inserts_lead = λ c gone. absurd (not_in c gone);
        firsts_lead = λ c gone. absurd (not_in c gone);
      };
      places = record {
        places = λ c has i lt. record { place = Empty; fits = tt; is = F.places c i lt; bounded = tt };
        drawn = λ c has i lt below empty. let a = F.counts c in absurd (omega arith);
        owned = λ c has i lt number e owner is. let a = F.places c i lt in absurd (omega arith);
        thawed = λ c has i lt is. let a = F.places c i lt in absurd (omega arith);
        counts = λ c used. let a = F.counts c in omega arith;
        each = λ j p at. subst (IsStaged 0 (1 ∷ []) (record { inserts = []; firsts = [] }) words) (one_post j p at) (record { stage = tt; reading = tt });
      };
      content = record {
        splits = refl;
        here = refl;
        falls = tt;
        below = All-nil (λ (e : Entry). raw_of e ≤ get_or words (high_word 0) 0);
        weights = λ f. let a = sum_by-cons (chunk_weight f words) 1 [] in
            let z = to_zero (λ i. in_weight f (get_or words (place_word 1 i) 0)) 64 (λ i lt. ap (in_weight f) (F.places 1 i lt) ∙ test_other 0 2 (f 0) 0 (λ y. omega arith)) in omega arith;
      };
      building = record {
        notes = λ j p at x has. absurd (not_in x (subst (λ (z : Post ChunkView). Contains z.own.builder.notes x) (sym (one_post j p at)) has));
      };
      offers = record {
        each = λ j p at positive. let z : 0 ≡ p.number = ap (λ (y : Post ChunkView). y.number) (one_post j p at) in absurd (omega arith);
        owner = λ i seat ne. absurd (ne (F.offers i seat.0 seat.1));
        unowed = λ j p at none. sym (ap (λ (y : Post ChunkView). y.owed) (one_post j p at));
        read = λ j p at x has. absurd (not_in x (subst (λ (z : Post ChunkView). Contains z.own.builder.offers x) (sym (one_post j p at)) has));
      };
    }

pub totals_fit : TotalsFit
totals_fit k s h = let f = h.tied.shape.front in let few = h.tied.front.fits.remaining in let enough = h.tied.front.enough in
    let long : f.total - (f.remaining - 16) ≡ length h.history = sym (ap length_in h.tied.front.packed ∙ length_front f h.tied.front.fits) ∙ h.counted in
    let most = few_marks chunk_rule k s h in (omega arith, omega arith)
