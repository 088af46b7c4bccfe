-- What a sweep has done after each of its steps.
use Rattle.std.proofs.Common.{◌≡◌, ◌≢◌, ◌⊎◌, ℕ, zero, suc, ◌+◌, ◌<◌, ◌≤◌, Bool, true, false, List, [], ◌∷◌, ◌++◌, length, get_or, set, sym, refl, ap, ◌∙◌, subst, inl, inr, ⊎_elim, arith, Contains, get_or-set_same, get_or-set_other}
use native.Mathlib.Decide.{ℕ_discrete, dec_le}
use mathlib.Core.Logic.{dite}
use Rattle.pq_model.specs.History.{IsSeat}
use Rattle.pq_seats.proofs.Lists.{not_in, in_first, in_later, in_cases}
use Rattle.pq_pool.specs.declared.views.PoolState.{PoolState}
use Rattle.pq_pool.specs.declared.views.PoolView.{PoolView}
use Rattle.pq_pool.specs.States.{state_of, grace_of, IsLive, Agrees, turned}
use Rattle.pq_pool.specs.Views.{KeepsPin, pin_loaded, grace_stored, state_stored, turned_at, batches_turned}
use Rattle.pq_pool.specs.Sweeps.{WasUnset, IsCleared, IsLeft, IsOnePass, GoneOver, Turned}
use Rattle.pq_pool.specs.SweepSteps.{SeatHeard, GraceStored, StatesStored}
use Rattle.pq_pool.proofs.BuilderSteps.{map_turned}

-- the pin stays
pins_still : (v : PoolView) → KeepsPin v v
pins_still v = (refl, refl, refl)

pins_more : (u v w : PoolView) → KeepsPin u v → KeepsPin v w → KeepsPin u w
pins_more u v w a b = (b.0 ∙ a.0, b.1 ∙ a.1, b.2 ∙ a.2)

-- the loads of one pass over fewer seats are those of one over more
one_pass_up : (n m : ℕ) → n ≤ m → (l : List (ℕ × ℕ)) → IsOnePass n l → IsOnePass m l
one_pass_up n m low [] p = tt
one_pass_up n m low (x ∷ xs) p = let lt = p.0 in (omega arith, p.1)

-- The bit of one seat: it was not set, or it is left, or it is cleared
pub heard_unset : (seats : ℕ) (v : PoolView) (n : ℕ) → IsSeat seats n → Agrees seats v.stored v.counted → grace_of v.stored n ≡ 0 → SeatHeard seats v v n false
heard_unset seats v n seat a zero_bit = record {
  states = refl;
  agrees = a;
  pin = pins_still v;
  others = λ m ne. refl;
  kept = λ e. absurd (cc);
  gone = λ e. let z = sym (a.grace n seat) ∙ zero_bit in (z, inl (z, refl));
}

pub heard_left : (seats : ℕ) (v : PoolView) (n : ℕ) → IsSeat seats n → Agrees seats v.stored v.counted → grace_of v.stored n ≢ 0 → SeatHeard seats v (pin_loaded v n 1) n true
heard_left seats v n seat a some_bit = record {
  states = refl;
  agrees = a;
  pin = pins_still v;
  others = λ m ne. refl;
  kept = λ e. (refl, (λ z. some_bit (a.grace n seat ∙ z)), refl);
  gone = λ e. absurd (cc);
}

pub heard_gone : (seats : ℕ) (v : PoolView) (n : ℕ) → IsSeat seats n → length v.stored.grace ≡ suc seats → length v.counted.grace ≡ suc seats → Agrees seats v.stored v.counted → grace_of v.stored n ≢ 0 → SeatHeard seats v (grace_stored (pin_loaded v n 0) n 0) n false
heard_gone seats v n seat long_stored long_counted a some_bit = let high = seat.1 in record {
  states = refl;
  agrees = record {
    states = a.states;
    grace = λ m at. dite (ℕ_discrete m n)
        (λ e. ap (λ (z : ℕ). get_or (set v.stored.grace n 0) z 0) e ∙ (get_or-set_same v.stored.grace n 0 0 (omega arith) ∙ (sym (get_or-set_same v.counted.grace n 0 0 (omega arith)) ∙ ap (λ (z : ℕ). get_or (set v.counted.grace n 0) z 0) (sym e))))
        (λ ne. get_or-set_other v.stored.grace n m 0 0 ne ∙ (a.grace m at ∙ sym (get_or-set_other v.counted.grace n m 0 0 ne)));
  };
  pin = pins_still v;
  others = λ m ne. get_or-set_other v.counted.grace n m 0 0 ne;
  kept = λ e. absurd (cc);
  gone = λ e. (get_or-set_same v.counted.grace n 0 0 (omega arith), inr ((λ z. some_bit (a.grace n seat ∙ z)), refl));
}

pub gone_over_none : (seats : ℕ) (v : PoolView) → Agrees seats v.stored v.counted → GoneOver seats v v 1 false
gone_over_none seats v a = record {
  states = refl;
  agrees = a;
  pin = pins_still v;
  loads = [];
  loaded = refl;
  once = tt;
  where_set = λ x has. absurd (not_in x has);
  each = λ m low lt. absurd (omega arith);
  rest = λ m low. refl;
  none = λ e m low lt. absurd (omega arith);
  some = λ e. absurd (cc);
}

module _ (seats : ℕ) (u v w : PoolView) (n : ℕ) (positive : 1 ≤ n) where
  abbrev Tells : List (ℕ × ℕ) → PoolView → ℕ → Type 0
  Tells loads x m = (WasUnset u m × (grace_of x.counted m ≡ 0)) ⊎ (IsCleared loads x m ⊎ IsLeft loads u x m)

  -- what is told of the seats before is told of them with one load more
  older : (loads more : List (ℕ × ℕ)) → ((x : ℕ × ℕ) → Contains loads x → Contains more x) → (m : ℕ) → grace_of w.counted m ≡ grace_of v.counted m → Tells loads v m → Tells more w m
  older loads more later m same t = ⊎_elim
      (λ a. inl (a.0, same ∙ a.1))
      (λ b. ⊎_elim (λ c. inr (inl (same ∙ c.0, later (m, 0) c.1))) (λ c. inr (inr (same ∙ c.0, (λ z. c.1 (sym same ∙ z)), later (m, 1) c.2))) b)
      t

  pub gone_over_left : (left : Bool) → GoneOver seats u v n left → SeatHeard seats v w n true → GoneOver seats u w (suc n) true
  gone_over_left left l h = let k = h.kept refl in let more : List (ℕ × ℕ) = (n, 1) ∷ l.loads in record {
    states = h.states ∙ l.states;
    agrees = h.agrees;
    pin = pins_more u v w l.pin h.pin;
    loads = more;
    loaded = k.2 ∙ ap (λ (z : List (ℕ × ℕ)). (n, 1) ∷ z) l.loaded;
    once = (omega arith, l.once);
    where_set = λ x has. ⊎_elim
        (λ e. subst (λ (z : ℕ × ℕ). grace_of u.counted z.0 ≢ 0) e (λ z. k.1 (k.0 ∙ (l.rest n (omega arith) ∙ z))))
        (λ old. l.where_set x old)
        (in_cases (n, 1) x l.loads has);
    each = λ m low lt. dite (ℕ_discrete m n)
        (λ q. subst (λ (z : ℕ). Tells more w z) (sym q) (inr (inr (k.0 ∙ l.rest n (omega arith), k.1, in_first (n, 1) l.loads))))
        (λ q. older l.loads more (λ x has. in_later (n, 1) x l.loads has) m (h.others m q) (l.each m low (omega arith)));
    rest = λ m low. h.others m (λ z. omega arith) ∙ l.rest m (omega arith);
    none = λ q. absurd (cc);
    some = λ q. (n, positive, omega arith, k.1);
  }

  pub gone_over_gone : (left : Bool) → GoneOver seats u v n left → SeatHeard seats v w n false → GoneOver seats u w (suc n) left
  gone_over_gone left l h = let k = h.gone refl in let was : grace_of v.counted n ≡ grace_of u.counted n = l.rest n (omega arith) in record {
    states = h.states ∙ l.states;
    agrees = h.agrees;
    pin = pins_more u v w l.pin h.pin;
    loads = (with_load k.1).0;
    loaded = (with_load k.1).1;
    once = (with_load k.1).4;
    where_set = (with_load k.1).5 was;
    each = λ m low lt. dite (ℕ_discrete m n)
        (λ q. subst (λ (z : ℕ). Tells (with_load k.1).0 w z) (sym q) ((with_load k.1).3 k.0 was))
        (λ q. older l.loads (with_load k.1).0 (with_load k.1).2 m (h.others m q) (l.each m low (omega arith)));
    rest = λ m low. h.others m (λ z. omega arith) ∙ l.rest m (omega arith);
    none = λ q m low lt. dite (ℕ_discrete m n)
        (λ z. ap (λ (y : ℕ). grace_of w.counted y) z ∙ k.0)
        (λ z. h.others m z ∙ l.none q m low (omega arith));
    some = λ q. let s = l.some q in let lt = s.2 in (s.0, s.1, omega arith, λ z. s.3 (sym (h.others s.0 (λ y. omega arith)) ∙ z));
  }
    where
      -- the loads after it, and what they tell of this seat
      with_load : ((grace_of v.counted n ≡ 0) × (w.loaded ≡ v.loaded)) ⊎ ((grace_of v.counted n ≢ 0) × (w.loaded ≡ (n, 0) ∷ v.loaded))
          → (more : List (ℕ × ℕ)) × (w.loaded ≡ more ++ u.loaded) × ((x : ℕ × ℕ) → Contains l.loads x → Contains more x)
          × ((grace_of w.counted n ≡ 0) → (grace_of v.counted n ≡ grace_of u.counted n) → Tells more w n)
          × IsOnePass (suc n) more × ((grace_of v.counted n ≡ grace_of u.counted n) → (x : ℕ × ℕ) → Contains more x → grace_of u.counted x.0 ≢ 0)
      with_load (inl a) = (l.loads, a.1 ∙ l.loaded, (λ x has. has), (λ z was. inl (sym was ∙ a.0, z)), one_pass_up n (suc n) (omega arith) l.loads l.once, λ was x has. l.where_set x has)
      with_load (inr e) = (
        (n, 0) ∷ l.loads,
        e.1 ∙ ap (λ (z : List (ℕ × ℕ)). (n, 0) ∷ z) l.loaded,
        (λ x has. in_later (n, 0) x l.loads has),
        (λ z was. inr (inl (z, in_first (n, 0) l.loads))),
        (omega arith, l.once),
        λ was x has. ⊎_elim
            (λ q. subst (λ (z : ℕ × ℕ). grace_of u.counted z.0 ≢ 0) q (λ z. e.0 (was ∙ z)))
            (λ old. l.where_set x old)
            (in_cases (n, 0) x l.loads has),
      )

-- The stores after the turn
pub grace_stored_none : (v : PoolView) → GraceStored v v 1
grace_stored_none v = record { counted = refl; pin = pins_still v; loaded = refl; states = refl; grace = λ m low lt. absurd (omega arith) }

pub grace_stored_more : (seats : ℕ) (u v w : PoolView) (n x : ℕ) → n ≤ seats → length v.stored.grace ≡ suc seats → GraceStored u v n → w ≡ grace_stored v n x → x ≡ grace_of u.counted n → GraceStored u w (suc n)
grace_stored_more seats u v w n x high long b is value = subst (λ (y : PoolView). GraceStored u y (suc n)) (sym is) (record {
  counted = b.counted;
  pin = b.pin;
  loaded = b.loaded;
  states = b.states;
  grace = λ m low lt. dite (ℕ_discrete m n)
      (λ q. ap (λ (y : ℕ). get_or (set v.stored.grace n x) y 0) q ∙ (get_or-set_same v.stored.grace n x 0 (omega arith) ∙ (value ∙ (ap (λ (y : PoolState). grace_of y n) (sym b.counted) ∙ ap (λ (y : ℕ). grace_of v.counted y) (sym q)))))
      (λ q. get_or-set_other v.stored.grace n m x 0 q ∙ b.grace m low (omega arith));
})

pub states_stored_none : (v : PoolView) → StatesStored v v 0
states_stored_none v = record { counted = refl; pin = pins_still v; loaded = refl; grace = refl; below = λ c lt. absurd (omega arith); above = λ c low. refl }

pub states_stored_more : (u v w : PoolView) (c x : ℕ) → c < length v.stored.states → StatesStored u v c → w ≡ state_stored v c x → state_of u.counted c ≡ x → StatesStored u w (suc c)
states_stored_more u v w c x within b is value = subst (λ (y : PoolView). StatesStored u y (suc c)) (sym is) (record {
  counted = b.counted;
  pin = b.pin;
  loaded = b.loaded;
  grace = b.grace;
  below = λ m lt. dite (ℕ_discrete m c)
      (λ q. ap (λ (y : ℕ). get_or (set v.stored.states c x) y 0) q ∙ (get_or-set_same v.stored.states c x 0 within ∙ (sym value ∙ ap (λ (y : ℕ). state_of u.counted y) (sym q))))
      (λ q. get_or-set_other v.stored.states c m x 0 q ∙ b.below m (omega arith));
  above = λ m low. get_or-set_other v.stored.states c m x 0 (λ q. omega arith) ∙ b.above m (omega arith);
})

beyond : (l : List ℕ) (c : ℕ) → length l ≤ c → get_or l c 0 ≡ 0
beyond [] c h = refl
beyond (x ∷ xs) zero h = absurd (omega arith)
beyond (x ∷ xs) (suc c) h = beyond xs c (omega arith)

-- the batches have turned, and the words with them
pub turned_by : (seats builder : ℕ) (u v w x : PoolView) (bit : ℕ) → Agrees seats u.stored u.counted → length u.stored.states ≡ length u.counted.states
    → v ≡ turned_at u seats builder bit → GraceStored v w (seats + 1) → StatesStored w x (length w.stored.states) → Turned seats builder u x
turned_by seats builder u v w x bit agrees long is bits states =
    let counted : x.counted ≡ batches_turned u.counted seats builder = states.counted ∙ (bits.counted ∙ ap (λ (y : PoolView). y.counted) is) in
    let stored : w.stored.states ≡ u.stored.states = bits.states ∙ ap (λ (y : PoolView). y.stored.states) is in
    let same : length w.stored.states ≡ length u.stored.states = ap (λ (l : List ℕ). length l) stored in record {
      agrees = record {
        states = λ c. dite (dec_le (length w.stored.states) c)
            (λ low. let none : state_of u.counted c ≡ 0 = beyond u.counted.states c (omega arith) in
            states.above c low ∙ (beyond w.stored.states c low ∙ sym (ap (λ (b : PoolState). state_of b c) counted ∙ (map_turned u.counted.states c ∙ ap turned none))))
            (λ no. states.below c (omega arith) ∙ ap (λ (b : PoolState). state_of b c) (sym states.counted));
        grace = λ m seat. let high = seat.1 in ap (λ (l : List ℕ). get_or l m 0) states.grace ∙ (bits.grace m seat.0 (omega arith) ∙ ap (λ (b : PoolState). grace_of b m) (sym states.counted));
      };
      counted = counted;
      pin = pins_more u w x (pins_more u v w (ap (λ (y : PoolView). y.pinned) is, ap (λ (y : PoolView). y.stands) is, ap (λ (y : PoolView). y.looks) is) bits.pin) states.pin;
      loaded = states.loaded ∙ (bits.loaded ∙ ap (λ (y : PoolView). y.loaded) is);
    }

-- a sweep leaves the live chunks
pub gone_over_live : (seats : ℕ) (v w : PoolView) (n : ℕ) (left : Bool) → GoneOver seats v w n left → (c : ℕ) → IsLive v.counted c → IsLive w.counted c
gone_over_live seats v w n left g c is = ap (λ (l : List ℕ). get_or l c 0) g.states ∙ is

pub turned_live : (seats builder : ℕ) (v w : PoolView) → Turned seats builder v w → (c : ℕ) → IsLive v.counted c → IsLive w.counted c
turned_live seats builder v w r c is = ap (λ (b : PoolState). state_of b c) r.counted ∙ (map_turned v.counted.states c ∙ ap turned is)
