-- Which steps of the builder leave the live chunks.
use Rattle.std.proofs.Common.{◌≡◌, ◌≢◌, ℕ, zero, suc, ◌+◌, ◌*◌, ◌<◌, ◌≤◌, List, [], ◌∷◌, map, replicate, length, get_or, set, sym, refl, ap, ◌∙◌, subst, inl, inr, arith, length-set, get_or-set_same, get_or-set_other}
use Rattle.std.proofs.lemmas.List.{length-map, get_or-replicate, length-replicate}
use native.Mathlib.Decide.{ℕ_discrete}
use mathlib.Core.Logic.{dite}
use Rattle.pq_model.specs.Limits.{max_seats}
use Rattle.pq_model.specs.History.{IsSeat}
use Rattle.pq_pool.specs.declared.views.PoolState.{PoolState}
use Rattle.pq_pool.specs.declared.views.PoolView.{PoolView}
use Rattle.pq_pool.specs.Layout.{pin_word, grace_word, state_word}
use Rattle.pq_pool.specs.States.{IsFree, grace_of, Sized, Written, turned}
use Rattle.pq_pool.specs.Views.{heard, with_grace, with_state, pin_loaded, grace_stored, state_stored, moved, turned_at, all_but}
use Rattle.pq_pool.specs.Builds.{IsSwept, Builds, Rests}
use Rattle.pq_pool.specs.FactsStay.Moving.{state_written}

pub map_turned : (l : List ℕ) (c : ℕ) → get_or (map turned l) c 0 ≡ turned (get_or l c 0)
map_turned [] c = refl
map_turned (x ∷ xs) zero = refl
map_turned (x ∷ xs) (suc c) = map_turned xs c

pub all_but_own : (seats n : ℕ) → n ≤ seats → get_or (all_but seats n) n 0 ≡ 0
all_but_own seats n low = get_or-set_same (replicate (suc seats) 1) n 0 0 (subst (λ (z : ℕ). n < z) (sym (length-replicate (suc seats) 1)) (omega arith))

pub all_but_other : (seats n m : ℕ) → m ≤ seats → m ≢ n → get_or (all_but seats n) m 0 ≡ 1
all_but_other seats n m low ne = get_or-set_other (replicate (suc seats) 1) n m 0 0 ne ∙ get_or-replicate (suc seats) m 1 0 (omega arith)

pub all_but_long : (seats n : ℕ) → length (all_but seats n) ≡ suc seats
all_but_long seats n = length-set (replicate (suc seats) 1) n 0 ∙ length-replicate (suc seats) 1

pub heard_sized : (chunks seats : ℕ) (b : PoolState) (n x : ℕ) → Sized chunks seats b → Sized chunks seats (heard b n x)
heard_sized chunks seats b n zero s = record { states = s.states; grace = length-set b.grace n 0 ∙ s.grace }
heard_sized chunks seats b n (suc x) s = s

-- what the loads and stores have in common
module _ (chunks seats builder : ℕ) (few : seats ≤ max_seats) (words : List ℕ) (v : PoolView) (stored : Sized chunks seats v.stored) (counted : Sized chunks seats v.counted) (written : Written chunks seats words v.stored) where
  still : (b : PoolState) → Rests seats words b b
  still b = record { states = λ c. inl refl; grace = λ n seat. inl refl }

  heard_rests : (n x : ℕ) → get_or words (pin_word n) 0 ≡ x → Rests seats words v.counted (heard v.counted n x)
  heard_rests n zero found = record {
    states = λ c. inl refl;
    grace = λ m seat. dite (ℕ_discrete m n) (λ q. inr (ap (λ (z : ℕ). get_or words (17 + z) 0) q ∙ found)) (λ q. inl (get_or-set_other v.counted.grace n m 0 0 q));
  }
  heard_rests n (suc x) found = still v.counted

  -- a load of a pin word
  pub loads_pin : (n x : ℕ) → IsSeat seats n → get_or words (pin_word n) 0 ≡ x → (words' : List ℕ) → words' ≡ words → Builds chunks seats builder words words' v (pin_loaded v n x)
  loads_pin n x seat found words' same = record {
    long = ap (λ (l : List ℕ). length l) same;
    others = λ i _. ap (λ (l : List ℕ). get_or l i 0) same;
    stored = stored;
    counted = heard_sized chunks seats v.counted n x counted;
    written = subst (λ (l : List ℕ). Written chunks seats l v.stored) (sym same) written;
    moves = inl (heard_rests n x found);
    pin = (refl, refl, refl);
    loaded = inr (n, seat, ap (λ (y : ℕ). (n, y) ∷ v.loaded) (sym found));
  }

  -- a store of a bit
  module _ (n x : ℕ) (seat : IsSeat seats n) (long : 50 ≤ length words) where
    grace_written : Written chunks seats (set words (grace_word n) x) (with_grace v.stored n x)
    grace_written = let w = written in let s = stored in let s_long = s.grace in let high = seat.1 in record {
      states = λ c lt. get_or-set_other words (33 + n) (118 + 69 * c) x 0 (λ e. omega arith) ∙ w.states c lt;
      grace = λ m at. dite (ℕ_discrete m n)
          (λ e. ap (λ (z : ℕ). get_or (set words (33 + n) x) (33 + z) 0) e ∙ (get_or-set_same words (33 + n) x 0 (omega arith) ∙ (sym (get_or-set_same v.stored.grace n x 0 (omega arith)) ∙ ap (λ (z : ℕ). get_or (set v.stored.grace n x) z 0) (sym e))))
          (λ e. get_or-set_other words (33 + n) (33 + m) x 0 (λ z. e (omega arith)) ∙ (w.grace m at ∙ sym (get_or-set_other v.stored.grace n m x 0 e)));
    }

    grace_others : (i : ℕ) → ¬ IsSwept chunks seats i → get_or (set words (grace_word n) x) i 0 ≡ get_or words i 0
    grace_others i away = get_or-set_other words (33 + n) i x 0 (λ e. away (inl (n, seat, e)))

    pub stores_grace : Builds chunks seats builder words (set words (grace_word n) x) v (grace_stored v n x)
    stores_grace = record {
      long = length-set words (33 + n) x;
      others = grace_others;
      stored = record { states = stored.states; grace = length-set v.stored.grace n x ∙ stored.grace };
      counted = counted;
      written = grace_written;
      moves = inl (still v.counted);
      pin = (refl, refl, refl);
      loaded = inl refl;
    }

  -- the batches turn at the store of the first bit
  pub turns : (x : ℕ) → 1 ≤ seats → 50 ≤ length words → ((n : ℕ) → IsSeat seats n → grace_of v.counted n ≡ 0) → Builds chunks seats builder words (set words (grace_word 1) x) v (turned_at v seats builder x)
  turns x some long none_left = let one : IsSeat seats 1 = (omega arith, some) in record {
    long = length-set words 34 x;
    others = grace_others 1 x one long;
    stored = record { states = stored.states; grace = length-set v.stored.grace 1 x ∙ stored.grace };
    counted = record { states = length-map v.counted.states turned ∙ counted.states; grace = all_but_long seats builder };
    written = grace_written 1 x one long;
    moves = inr (record {
      cleared = none_left;
      states = λ c. map_turned v.counted.states c;
      grace = λ n seat other. let a = all_but_other seats builder n seat.1 other in λ z. omega arith;
    });
    pin = (refl, refl, refl);
    loaded = inl refl;
  }

  -- a store of a state
  module _ (c x : ℕ) (lt : c < chunks) (long : 50 + 69 * chunks ≤ length words) where
    state_others : (i : ℕ) → ¬ IsSwept chunks seats i → get_or (set words (state_word c) x) i 0 ≡ get_or words i 0
    state_others i away = get_or-set_other words (118 + 69 * c) i x 0 (λ e. away (inr (c, lt, e)))

    state_sized : Sized chunks seats (with_state v.stored c x)
    state_sized = record { states = length-set v.stored.states c x ∙ stored.states; grace = stored.grace }

    pub stores_state : Builds chunks seats builder words (set words (state_word c) x) v (state_stored v c x)
    stores_state = record {
      long = length-set words (118 + 69 * c) x;
      others = state_others;
      stored = state_sized;
      counted = counted;
      written = state_written chunks seats words v.stored c x few lt long stored written;
      moves = inl (still v.counted);
      pin = (refl, refl, refl);
      loaded = inl refl;
    }

  -- a free chunk is taken
  pub begins : (c : ℕ) → c < chunks → 50 + 69 * chunks ≤ length words → IsFree v.counted c → Builds chunks seats builder words (set words (state_word c) 1) v (moved v c 1)
  begins c lt long free = let s = counted in let c_long = s.states in record {
    long = length-set words (118 + 69 * c) 1;
    others = state_others c 1 lt long;
    stored = state_sized c 1 lt long;
    counted = record { states = length-set v.counted.states c 1 ∙ c_long; grace = counted.grace };
    written = state_written chunks seats words v.stored c 1 few lt long stored written;
    moves = inl (record {
      states = λ e. dite (ℕ_discrete e c)
          (λ q. inr (ap (λ (z : ℕ). get_or v.counted.states z 0) q ∙ free, ap (λ (z : ℕ). get_or (set v.counted.states c 1) z 0) q ∙ get_or-set_same v.counted.states c 1 0 (omega arith)))
          (λ q. inl (get_or-set_other v.counted.states c e 1 0 q));
      grace = λ n seat. inl refl;
    });
    pin = (refl, refl, refl);
    loaded = inl refl;
  }
