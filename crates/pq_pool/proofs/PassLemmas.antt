-- A pass after several steps, and what is written and counts after each.
use Rattle.std.proofs.Common.{◌≡◌, ◌⊎◌, ℕ, zero, suc, ◌<◌, ◌≤◌, List, [], ◌∷◌, length, get_or, set, sym, refl, ap, ◌∙◌, subst, ⊎_elim, arith, Contains, length-set, get_or-set_same, get_or-set_other}
use Rattle.std.proofs.lemmas.List.{length-map}
use native.Mathlib.Decide.{ℕ_discrete, dec_le}
use mathlib.Core.Logic.{dite}
use Rattle.atomic_table.specs.Table.{Me}
use Rattle.atomic_table.specs.Seated.{TableId}
use Rattle.atomic_table.specs.declared.shared.Seat.{Seat}
use Rattle.pq_seats.specs.declared.views.Limits.{Limits}
use Rattle.pq_seats.specs.declared.views.View.{View}
use Rattle.pq_seats.specs.Views.{HasFirst}
use Rattle.pq_seats.specs.Rules.{Rule}
use Rattle.pq_seats.specs.Seats.{Sits}
use Rattle.pq_pool.specs.declared.views.PoolView.{PoolView}
use Rattle.pq_pool.specs.States.{state_of, live_state, IsLive, Agrees, turned}
use Rattle.pq_pool.specs.Layout.{builder_word}
use Rattle.pq_pool.specs.Views.{moved, state_stored, grace_stored, pin_loaded, turned_at}
use Rattle.pq_pool.specs.Parts.{PoolPart, pool_view, with_pool_view, ChangesPool}
use Rattle.pq_pool.specs.PoolLaws.{PoolLaws, NamesAll}
use Rattle.pq_pool.specs.Passes.{SeatBuilds, SeatStillBuilds, SeatStillSits}
use Rattle.pq_pool.proofs.BuilderSteps.{heard_sized, all_but_long}

module _ {O : Type 0} (R : Rule O) (P : PoolPart O) (B : ℕ) (laws : PoolLaws R P B) where
  own_view : View O → O → View O
  own_view v o = record v { post = record v.post { own = o } }

  pub changes_more : (u v w : View O) → ChangesPool P u v → ChangesPool P v w → ChangesPool P u w
  unfolding own_view
  changes_more u v w e f = f ∙ (ap (λ (x : View O). with_pool_view P x (pool_view P w)) e ∙ ap (own_view u) (laws.again u.post.own (pool_view P v) (pool_view P w)))

  pub changes_none : (v : View O) → ChangesPool P v v
  unfolding own_view
  changes_none v = sym (ap (own_view v) (laws.back v.post.own))

  -- the pool's part after a step that put it
  pub view_after : (me w : Me (Unit {0}) (View O)) (d : PoolView) → w ≡ (with_pool_view P me.0 d, me.1) → pool_view P w.0 ≡ d
  view_after me w d e = ap (λ (m : Me (Unit {0}) (View O)). pool_view P m.0) e ∙ laws.reads me.0.post.own d

  module _ (z : TableId) (k : Limits) where
    pub stays_more : (n m n' m' n'' m'' : ℕ) (s s' s'' : Seat (Unit {0}) (View O)) → SeatStillBuilds P z k n m n' m' s s' → SeatStillBuilds P z k n' m' n'' m'' s' s'' → SeatStillBuilds P z k n m n'' m'' s s''
    stays_more n m n' m' n'' m'' s s' s'' f g = record {
      pass = g.pass;
      same_number = g.same_number ∙ f.same_number;
      same_lanes = g.same_lanes ∙ f.same_lanes;
      id = g.id ∙ f.id;
      rest = changes_more s.me.0 s'.me.0 s''.me.0 f.rest g.rest;
    }

    pub stays_none : (n m : ℕ) (s : Seat (Unit {0}) (View O)) → SeatBuilds P z k n m s → SeatStillBuilds P z k n m n m s s
    stays_none n m s at = record { pass = at; same_number = refl; same_lanes = refl; id = refl; rest = changes_none s.me.0 }

-- the lists that a view names keep their sizes
module _ (k : Limits) (v : PoolView) (a : NamesAll k v) where
  pub names_moved : (c x : ℕ) → NamesAll k (moved v c x)
  names_moved c x = record {
    chunks = a.chunks;
    stored = record { states = length-set v.stored.states c x ∙ a.stored.states; grace = a.stored.grace };
    counted = record { states = length-set v.counted.states c x ∙ a.counted.states; grace = a.counted.grace };
  }

  pub names_state_stored : (c x : ℕ) → NamesAll k (state_stored v c x)
  names_state_stored c x = record {
    chunks = a.chunks;
    stored = record { states = length-set v.stored.states c x ∙ a.stored.states; grace = a.stored.grace };
    counted = a.counted;
  }

  pub names_grace_stored : (n x : ℕ) → NamesAll k (grace_stored v n x)
  names_grace_stored n x = record {
    chunks = a.chunks;
    stored = record { states = a.stored.states; grace = length-set v.stored.grace n x ∙ a.stored.grace };
    counted = a.counted;
  }

  pub names_pin_loaded : (n x : ℕ) → NamesAll k (pin_loaded v n x)
  names_pin_loaded n x = record { chunks = a.chunks; stored = a.stored; counted = heard_sized a.chunks.count k.seats v.counted n x a.counted }

  pub names_turned : (builder x : ℕ) → NamesAll k (turned_at v k.seats builder x)
  names_turned builder x = record {
    chunks = a.chunks;
    stored = record { states = a.stored.states; grace = length-set v.stored.grace 1 x ∙ a.stored.grace };
    counted = record { states = length-map v.counted.states turned ∙ a.counted.states; grace = all_but_long k.seats builder };
  }

module _ {O : Type 0} (P : PoolPart O) (z : TableId) (k : Limits) (n m : ℕ) (s s' : Seat (Unit {0}) (View O)) (w : PoolView)
    (table : s'.table_id ≡ s.table_id) (id : s'.id ≡ s.id) (me : s'.me ≡ (with_pool_view P s.me.0 w, s.me.1)) (reads : P.view_of (P.with_view s.me.0.post.own w) ≡ w) where
  view_is : pool_view P s'.me.0 ≡ w
  view_is = ap (λ (x : Me (Unit {0}) (View O)). pool_view P x.0) me ∙ reads

  still_sits : Sits z k n m s → Sits z k n m s'
  still_sits at = record {
    table = table ∙ at.table;
    limits = ap (λ (x : Me (Unit {0}) (View O)). x.0.limits) me ∙ at.limits;
    empty = ap (λ (x : Me (Unit {0}) (View O)). x.1) me ∙ at.empty;
    seated = at.seated;
    named = at.named ∙ sym (ap (λ (x : Me (Unit {0}) (View O)). x.0.post.number) me);
    first = subst (λ (x : Me (Unit {0}) (View O)). HasFirst n x.0.lanes) (sym me) at.first;
    counted = at.counted ∙ sym (ap (λ (x : Me (Unit {0}) (View O)). length x.0.lanes) me);
  }

  changed : ChangesPool P s.me.0 s'.me.0
  changed = ap (λ (x : Me (Unit {0}) (View O)). x.0) me ∙ ap (with_pool_view P s.me.0) (sym view_is)

  -- the builder's pass after a step that puts this into the pool's part of its view
  pub builder_stays : SeatBuilds P z k n m s → NamesAll k w → SeatStillBuilds P z k n m n m s s'
  builder_stays at all = record {
    pass = record {
      sits = still_sits at.sits;
      holds = subst (λ (x : Me (Unit {0}) (View O)). Contains x.0.post.locks builder_word) (sym me) at.holds;
      all = subst (λ (x : PoolView). NamesAll k x) (sym view_is) all;
    };
    same_number = refl;
    same_lanes = refl;
    id = id;
    rest = changed;
  }

  -- and any other
  pub seat_stays : Sits z k n m s → SeatStillSits P z k n m n m s s'
  seat_stays at = record { sits = still_sits at; same_number = refl; same_lanes = refl; id = id; rest = changed }

beyond : (l : List ℕ) (c : ℕ) → length l ≤ c → get_or l c 0 ≡ 0
beyond [] c h = refl
beyond (x ∷ xs) zero h = absurd (omega arith)
beyond (x ∷ xs) (suc c) h = beyond xs c (omega arith)

pub within_list : (l : List ℕ) (c : ℕ) → 0 < get_or l c 0 → c < length l
within_list [] c h = absurd (omega arith)
within_list (x ∷ xs) zero h = omega arith
within_list (x ∷ xs) (suc c) h = let r = within_list xs c (omega arith) in omega arith

set_both : (l m : List ℕ) (c x e : ℕ) → length l ≡ length m → get_or l e 0 ≡ get_or m e 0 → get_or (set l c x) e 0 ≡ get_or (set m c x) e 0
set_both l m c x e long same = dite (ℕ_discrete e c)
    (λ q. dite (dec_le (length l) c)
    (λ far. beyond (set l c x) e (let a = length-set l c x in omega arith) ∙ sym (beyond (set m c x) e (let a = length-set m c x in omega arith)))
    (λ near. ap (λ (y : ℕ). get_or (set l c x) y 0) q ∙ (get_or-set_same l c x 0 (omega arith) ∙ (sym (get_or-set_same m c x 0 (omega arith)) ∙ ap (λ (y : ℕ). get_or (set m c x) y 0) (sym q)))))
    (λ q. get_or-set_other l c e x 0 q ∙ (same ∙ sym (get_or-set_other m c e x 0 q)))

-- a state that is stored and counts keeps the two alike
pub moved_agrees : (seats : ℕ) (v w : PoolView) (c x : ℕ) → length v.stored.states ≡ length v.counted.states → w ≡ moved v c x → Agrees seats v.stored v.counted → Agrees seats w.stored w.counted
moved_agrees seats v w c x long is a = subst (λ (y : PoolView). Agrees seats y.stored y.counted) (sym is) (record { states = λ b. set_both v.stored.states v.counted.states c x b long (a.states b); grace = a.grace })

-- the live chunks stay, where the state of a chunk changes that is not live, or becomes live
pub moved_live : (v w : PoolView) (b x : ℕ) → w ≡ moved v b x → ¬ IsLive v.counted b ⊎ (x ≡ live_state) → (c : ℕ) → IsLive v.counted c → IsLive w.counted c
moved_live v w b x is other c two = ap (λ (z : PoolView). state_of z.counted c) is ∙ dite (ℕ_discrete c b)
    (λ q. let here : IsLive v.counted b = ap (λ (z : ℕ). state_of v.counted z) (sym q) ∙ two in ⊎_elim (λ ne. absurd (ne here))
    (λ y. ap (λ (z : ℕ). get_or (set v.counted.states b x) z 0) q ∙ (get_or-set_same v.counted.states b x 0 (within_list v.counted.states b (omega arith)) ∙ y))
    other)
    (λ q. get_or-set_other v.counted.states b c x 0 q ∙ two)
