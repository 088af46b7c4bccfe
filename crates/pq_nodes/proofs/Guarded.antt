-- What taking a lock, a write under it and freeing it keep of the guards.
use Rattle.std.proofs.Common.{◌≡◌, ◌≢◌, ◌⊎◌, ℕ, zero, suc, ◌<◌, List, [], ◌∷◌, length, get_or, set, inl, inr, ⊎_elim}
use Rattle.std.proofs.Common.{refl, sym, ap, ◌∙◌, subst, arith}
use Rattle.std.specs.Prelude.{Contains}
use mathlib.Core.Option.{some, some-injective, some-ne-none}
use lib.ListN.{get_elem?}
use native.Mathlib.Decide.{ℕ_discrete}
use mathlib.Core.Logic.{dite}
use Rattle.std.proofs.lemmas.List.{get_or-set_same, get_or-set_other, length-set, set-set}
use Rattle.atomic_table.proofs.Lists.{at_set, set_here}
use Rattle.pq_nodes.proofs.Written.{two_places}
use Rattle.pq_nodes.specs.Guards.{Kind, IsGuard, IsGuarded, IsSetAt}

-- the view at j becomes p'; what each view after it has guards for
guard_cases : {V G N : Type 0} (k : Kind V G N) (views : List V) (j : ℕ) (p' : V) (i : ℕ) (q : V) (g : G)
    → get_elem? (set views j p') i ≡ some q → Contains (k.guards q) g
    → ((i ≡ j) × (p' ≡ q) × Contains (k.guards p') g) ⊎
    ((i ≢ j) × (get_elem? views i ≡ some q) × Contains (k.guards q) g)
guard_cases {V} {G} {N} k views j p' i q g at has = ⊎_elim (λ e. inl
    (e.0, e.1, subst (λ (z : V). Contains (k.guards z) g) (sym e.1) has))
    (λ n. inr (n.0, n.1, has)) (at_set views j i p' q at)

-- a lock is taken: its holder's view has a guard that names the word, and the node as the word says
pub lock_taken : {V G N : Type 0} (k : Kind V G N) (locks locks' words : ℕ → ℕ) (views : List V) (t : List N) (j : ℕ)
    (p p' : V) (g : G) (x : ℕ)
    → IsGuarded k locks words views t → get_elem? views j ≡ some p → k.place g < length t → locks (k.place g) ≡ 0
    → x ≢ 0 → IsSetAt locks locks' (k.place g) x
    → k.stored g ≡ words (k.place g) → k.counted g ≡ get_or t (k.place g) k.empty
    → ((h : G) → Contains (k.guards p') h → (g ≡ h) ⊎ Contains (k.guards p) h)
    → IsGuarded k locks' words (set views j p') t
lock_taken {V} {G} {N} k locks locks' words views t j p p' g x f at within free_was nonzero is stored counted more =
    let place : G → ℕ = k.place in
    -- a guard after it is the new one, or was there
    let was : (i : ℕ) (q : V) (h : G) → get_elem? (set views j p') i ≡ some q → Contains (k.guards q) h
    → ((i ≡ j) × (g ≡ h)) ⊎ ((q' : V) × (get_elem? views i ≡ some q') × Contains (k.guards q') h) =
    (λ i q h to has. ⊎_elim (λ e. ⊎_elim (λ new. inl (e.0, new))
    (λ old. inr (p, subst (λ (z : ℕ). get_elem? views z ≡ some p) (sym e.0) at, old)) (more h e.2))
    (λ n. inr (q, n.1, n.2)) (guard_cases k views j p' i q h to has)) in
    let apart : (i : ℕ) (q : V) (h : G) → get_elem? views i ≡ some q → Contains (k.guards q) h
    → place h ≢ place g = (λ i q h to has e. (f.held i q h to has).locked (ap locks e ∙ free_was)) in
    record {
      free = λ i lt zero. f.free i lt (sym (is.others i (λ e. nonzero (sym is.own ∙ (ap locks' (sym e) ∙ zero))))
          ∙ zero);
      held = λ i q h to has. ⊎_elim
          (λ e. subst (IsGuard k locks' words t) e.1 (record {
            within = within;
            locked = λ z. nonzero (sym is.own ∙ z);
            stored = sym stored;
            counted = sym counted;
          }))
          (λ o. let old = f.held i o.0 h o.1 o.2 in record {
            within = old.within;
            locked = λ z. old.locked (sym (is.others (place h) (apart i o.0 h o.1 o.2)) ∙ z);
            stored = old.stored;
            counted = old.counted;
          })
          (was i q h to has);
      view = λ a b q r h l to_q to_r has_h has_l e. ⊎_elim
          (λ u. ⊎_elim (λ v. u.0 ∙ sym v.0) (λ v. absurd (apart b v.0 l v.1 v.2 (sym e ∙ ap place (sym u.1))))
          (was b r l to_r has_l))
          (λ u. ⊎_elim (λ v. absurd (apart a u.0 h u.1 u.2 (e ∙ ap place (sym v.1))))
          (λ v. f.view a b u.0 v.0 h l u.1 v.1 u.2 v.2 e) (was b r l to_r has_l))
          (was a q h to_q has_h);
      once = λ a q h l to has_h has_l e. ⊎_elim
          (λ u. ⊎_elim (λ v. sym u.1 ∙ v.1) (λ v. absurd (apart a v.0 l v.1 v.2 (sym e ∙ ap place (sym u.1))))
          (was a q l to has_l))
          (λ u. ⊎_elim (λ v. absurd (apart a u.0 h u.1 u.2 (e ∙ ap place (sym v.1))))
          (λ v. let same : u.0 ≡ v.0 = some-injective u.0 v.0 (sym u.1 ∙ v.1) in
          f.once a v.0 h l v.1 (subst (λ (z : V). Contains (k.guards z) h) same u.2) v.2 e) (was a q l to has_l))
          (was a q h to has_h);
    }

-- What a step under locks leaves, in which the view p becomes p': each of the new guards is of a node that p had a
-- guard for, and says what there is after the step; elsewhere words and nodes are as they were; and p' has new guards,
-- and those of p for other nodes.
pub record IsRewritten {V G N : Type 0} (k : Kind V G N) (words words' : ℕ
    → ℕ) (t t' : List N) (p p' : V) (new : List G)
    : Type 0 where
  pub long : length t' ≡ length t
  pub guarded : (g : G) → Contains new g → (h : G) × Contains (k.guards p) h × (k.place h ≡ k.place g)
  pub says : (g : G) → Contains new g
      → (words' (k.place g) ≡ k.stored g) × (get_or t' (k.place g) k.empty ≡ k.counted g)
  pub once : (g h : G) → Contains new g → Contains new h → k.place g ≡ k.place h → g ≡ h
  pub others : (i : ℕ) → ((g : G) → Contains new g → k.place g ≢ i)
      → (words' i ≡ words i) × (get_or t' i k.empty ≡ get_or t i k.empty)
  pub kept : (g : G) → Contains (k.guards p') g
      → Contains new g ⊎ (Contains (k.guards p) g × ((h : G) → Contains new h → k.place h ≢ k.place g))

-- under its locks a seat writes words, and lets nodes count as something else, by one step
pub guards_rewritten : {V G N : Type 0} (k : Kind V G N) (locks words words' : ℕ → ℕ) (views : List V) (t t' : List N)
    (j : ℕ) (p p' : V) (new : List G)
    → IsGuarded k locks words views t → get_elem? views j ≡ some p → IsRewritten k words words' t t' p p' new
    → IsGuarded k locks words' (set views j p') t'
guards_rewritten {V} {G} {N} k locks words words' views t t' j p p' new f at r =
    let place : G → ℕ = k.place in
    -- each guard after it is of a node for which the same view had a guard
    let was : (i : ℕ) (q : V) (g : G) → get_elem? (set views j p') i ≡ some q → Contains (k.guards q) g
    → (q' : V) × (h : G) × (get_elem? views i ≡ some q') × Contains (k.guards q') h × (place h ≡ place g) =
    (λ i q g to has. ⊎_elim
    (λ e. let here : get_elem? views i ≡ some p = subst (λ (z : ℕ). get_elem? views z ≡ some p) (sym e.0) at in
    ⊎_elim (λ n. let h = r.guarded g n in (p, h.0, here, h.1, h.2)) (λ o. (p, g, here, o.0, refl)) (r.kept g e.2))
    (λ n. (q, g, n.1, n.2, refl)) (guard_cases k views j p' i q g to has)) in
    -- a guard for a node that no new one is for
    let stays : (i : ℕ) (q : V) (g : G) → get_elem? views i ≡ some q → Contains (k.guards q) g
    → ((n : G) → Contains new n → place n ≢ place g) → IsGuard k locks words' t' g =
    (λ i q g to has apart. let old = f.held i q g to has in let lt = old.within in
    let same = r.others (place g) apart in
    record {
      within = omega (arith, r.long);
      locked = old.locked;
      stored = same.0 ∙ old.stored;
      counted = same.1 ∙ old.counted;
    }) in
    record {
      free = λ i lt zero. let same = r.others i (λ g has e. let h = r.guarded g has in
          (f.held j p h.0 at h.1).locked (ap locks (h.2 ∙ e) ∙ zero)) in
          subst (λ (v : N). k.means v (words' i)) (sym same.1)
          (subst (λ (w : ℕ). k.means (get_or t i k.empty) w) (sym same.0)
          (f.free i (omega (arith, r.long)) zero));
      held = λ i q g to has. ⊎_elim
          (λ e. ⊎_elim
          (λ n. let h = r.guarded g n in let own = f.held j p h.0 at h.1 in let lt = own.within in
          let said = r.says g n in
          record {
            within = let same = h.2 in omega (arith, r.long);
            locked = λ z. own.locked (ap locks h.2 ∙ z);
            stored = said.0;
            counted = said.1;
          })
          (λ o. stays j p g at o.0 o.1) (r.kept g e.2))
          (λ n. stays i q g n.1 n.2 (λ m has_m e. let h = r.guarded m has_m in
          n.0 (f.view i j q p g h.0 n.1 at n.2 h.1 (sym (h.2 ∙ e)))))
          (guard_cases k views j p' i q g to has);
      view = λ a b q s g h to_q to_s has_g has_h e. let u = was a q g to_q has_g in let v = was b s h to_s has_h in
          f.view a b u.0 v.0 u.1 v.1 u.2 v.2 u.3 v.3 (u.4 ∙ (e ∙ sym v.4));
      once = λ a q g h to has_g has_h e. ⊎_elim
          (λ c. ⊎_elim
          (λ n. ⊎_elim (λ m. r.once g h n m e) (λ o. absurd (o.1 g n e))
          (r.kept h (subst (λ (z : V). Contains (k.guards z) h) (sym c.1) has_h)))
          (λ o. ⊎_elim (λ m. absurd (o.1 h m (sym e))) (λ x. f.once j p g h at o.0 x.0 e)
          (r.kept h (subst (λ (z : V). Contains (k.guards z) h) (sym c.1) has_h)))
          (r.kept g c.2))
          (λ n. f.once a q g h n.1 n.2 has_h e) (guard_cases k views j p' a q g to has_g);
    }

-- the guards of a list of one, and of a list of two
one_in : {X : Type 0} (a x : X) → Contains (a ∷ []) x → a ≡ x
one_in {X} a x has = at has.0 has.1 has.2
  where
    at : (i : ℕ) → i < length (a ∷ []) → get_or (a ∷ []) i x ≡ x → a ≡ x
    at zero lt e = e
    at (suc i) lt e = absurd (omega arith)

two_in : {X : Type 0} (a b x : X) → Contains (a ∷ b ∷ []) x → (a ≡ x) ⊎ (b ≡ x)
two_in {X} a b x has = at has.0 has.1 has.2
  where
    at : (i : ℕ) → i < length (a ∷ b ∷ []) → get_or (a ∷ b ∷ []) i x ≡ x → (a ≡ x) ⊎ (b ≡ x)
    at zero lt e = inl e
    at (suc zero) lt e = inr e
    at (suc (suc i)) lt e = absurd (omega arith)

-- Under a lock its holder writes the word, or lets the node count as something else, or both
pub guard_written : {V G N : Type 0} (k : Kind V G N) (locks words words' : ℕ → ℕ) (views : List V) (t : List N) (j : ℕ)
    (p p' : V) (g g' : G)
    → IsGuarded k locks words views t → get_elem? views j ≡ some p → Contains (k.guards p) g → k.place g' ≡ k.place g
    → IsSetAt words words' (k.place g) (k.stored g')
    → ((h : G) → Contains (k.guards p') h → (g' ≡ h) ⊎ ((k.place h ≢ k.place g) × Contains (k.guards p) h))
    → IsGuarded k locks words' (set views j p') (set t (k.place g) (k.counted g'))
guard_written {V} {G} {N} k locks words words' views t j p p' g g' f at has_g same is kept =
    let i : ℕ = k.place g in let t' : List N = set t i (k.counted g') in let within = (f.held j p g at has_g).within in
    let it : (h : G) → Contains (g' ∷ []) h → k.place h ≡ i = (λ h has. ap k.place (sym (one_in g' h has)) ∙ same) in
    let says : (words' (k.place g') ≡ k.stored g') × (get_or t' (k.place g') k.empty ≡ k.counted g') = (
      ap words' same ∙ is.own,
      ap (λ (z : ℕ). get_or t' z k.empty) same
          ∙ get_or-set_same t i (k.counted g') k.empty within,
    ) in
    guards_rewritten k locks words words' views t t' j p p' (g' ∷ []) f at (record {
      long = length-set t i (k.counted g');
      guarded = λ h has. (g, has_g, sym (it h has));
      says = λ h has. subst (λ (z : G). (words' (k.place z) ≡ k.stored z) ×
          (get_or t' (k.place z) k.empty ≡ k.counted z))
          (one_in g' h has) says;
      once = λ a b has_a has_b e. sym (one_in g' a has_a) ∙ one_in g' b has_b;
      others = λ n apart. let ne : n ≢ i = (λ e. apart g' (0, omega arith, refl) (same ∙ sym e)) in
          (is.others n ne, get_or-set_other t i n (k.counted g') k.empty ne);
      kept = λ h has. ⊎_elim (λ e. inl (0, omega arith, e))
          (λ o. inr (o.1, (λ n has_n e. o.0 (sym e ∙ it n has_n)))) (kept h has);
    })

-- the guards of the view after a step that changes two of them, g to g' and h to h'
pub record KeepsOthers {V G N : Type 0} (k : Kind V G N) (p p' : V) (g g' h h' : G) : Type 0 where
  pub kept : (l : G) → Contains (k.guards p') l
      → (g' ≡ l) ⊎ ((h' ≡ l) ⊎ ((k.place l ≢ k.place g) × (k.place l ≢ k.place h) × Contains (k.guards p) l))

-- two nodes of one view count as something else by one step that writes at most the first one's word
pub two_written : {V G N : Type 0} (k : Kind V G N) (locks words words' : ℕ → ℕ) (views : List V) (t : List N) (j : ℕ)
    (p p' : V) (g g' h h' : G)
    → IsGuarded k locks words views t → get_elem? views j ≡ some p → Contains (k.guards p) g → Contains (k.guards p) h
    → k.place g ≢ k.place h → k.place g' ≡ k.place g → k.place h' ≡ k.place h
    → IsSetAt words words' (k.place g) (k.stored g') → k.stored h' ≡ k.stored h → KeepsOthers k p p' g g' h h'
    → IsGuarded k locks words' (set views j p') (set (set t (k.place g) (k.counted g')) (k.place h) (k.counted h'))
two_written {V} {G} {N} k locks words words' views t j p p' g g' h h' f at has_g has_h ne same_g same_h is stored r =
    let a : ℕ = k.place g in let b : ℕ = k.place h in
    let t' : List N = set (set t a (k.counted g')) b (k.counted h') in
    let own = f.held j p h at has_h in
    let w = two_places t a (k.counted g') b (k.counted h') k.empty ne (f.held j p g at has_g).within own.within in
    let it : (l : G) → Contains (g' ∷ h' ∷ []) l → (k.place l ≡ a) ⊎ (k.place l ≡ b) = (λ l has.
    ⊎_elim (λ e. inl (ap k.place (sym e) ∙ same_g)) (λ e. inr (ap k.place (sym e) ∙ same_h)) (two_in g' h' l has)) in
    let Says : G → Type 0 = λ l. (words' (k.place l) ≡ k.stored l) × (get_or t' (k.place l) k.empty ≡ k.counted l) in
    let says_g : Says g' = (ap words' same_g ∙ is.own, ap (λ (z : ℕ). get_or t' z k.empty) same_g ∙ w.at_first) in
    let says_h : Says h' = (
      ap words' same_h ∙ (is.others b (λ e. ne (sym e)) ∙ (own.stored ∙ sym stored)),
      ap (λ (z : ℕ). get_or t' z k.empty) same_h ∙ w.at_second,
    ) in
    guards_rewritten k locks words words' views t t' j p p' (g' ∷ h' ∷ []) f at (record {
      long = w.long;
      guarded = λ l has. ⊎_elim (λ e. (g, has_g, sym e)) (λ e. (h, has_h, sym e)) (it l has);
      says = λ l has. ⊎_elim (λ e. subst Says e says_g) (λ e. subst Says e says_h) (two_in g' h' l has);
      once = λ l m has_l has_m e. ⊎_elim
          (λ x. ⊎_elim (λ y. sym x ∙ y)
          (λ y. absurd (ne (sym same_g ∙ (ap k.place x ∙ (e ∙ (ap k.place (sym y) ∙ same_h))))))
          (two_in g' h' m has_m))
          (λ x. ⊎_elim (λ y. absurd (ne (sym same_g ∙ (ap k.place y ∙ (sym e ∙ (ap k.place (sym x) ∙ same_h))))))
          (λ y. sym x ∙ y) (two_in g' h' m has_m))
          (two_in g' h' l has_l);
      others = λ n apart.
          let first : n ≢ a = (λ e. apart g' (0, omega arith, refl) (same_g ∙ sym e)) in
          let second : n ≢ b = (λ e. apart h' (1, omega arith, refl) (same_h ∙ sym e)) in
          (is.others n first, w.others n first second);
      kept = λ l has. ⊎_elim (λ e. inl (0, omega arith, e)) (λ x. ⊎_elim (λ e. inl (1, omega arith, e))
          (λ o. inr (o.2, (λ m has_m e. ⊎_elim (λ q. o.0 (sym e ∙ q)) (λ q. o.1 (sym e ∙ q)) (it m has_m)))) x)
          (r.kept l has);
    })

at_within : {V : Type 0} (views : List V) (j : ℕ) (p : V) → get_elem? views j ≡ some p → j < length views
at_within [] j p at = absurd (some-ne-none p (sym at))
at_within (q ∷ views) zero p at = omega arith
at_within (q ∷ views) (suc j) p at = let rest = at_within views j p at in omega arith

-- Two nodes of one view count as something else by one step that writes at most the first one's word. The
-- view p1 between has the first guard changed alone.
pub guards_written : {V G N : Type 0} (k : Kind V G N) (locks words words' : ℕ → ℕ) (views : List V) (t : List N)
    (j : ℕ) (p p1 p' : V) (g g' h h' : G)
    → IsGuarded k locks words views t → get_elem? views j ≡ some p → Contains (k.guards p) g → k.place g' ≡ k.place g
    → IsSetAt words words' (k.place g) (k.stored g')
    → ((l : G) → Contains (k.guards p1) l → (g' ≡ l) ⊎ ((k.place l ≢ k.place g) × Contains (k.guards p) l))
    → Contains (k.guards p1) h → k.place h' ≡ k.place h → k.stored h' ≡ words' (k.place h)
    → ((l : G) → Contains (k.guards p') l → (h' ≡ l) ⊎ ((k.place l ≢ k.place h) × Contains (k.guards p1) l))
    → IsGuarded k locks words' (set views j p') (set (set t (k.place g) (k.counted g')) (k.place h) (k.counted h'))
guards_written {V} {G} {N} k locks words words' views t j p p1 p' g g' h h' f at has_g same is kept has_h same_h stored_h
    kept_h =
    let one = guard_written k locks words words' views t j p p1 g g' f at has_g same is kept in
    let two = guard_written k locks words' words' (set views j p1) (set t (k.place g) (k.counted g')) j p1 p' h h' one
    (set_here views j p1 (at_within views j p at)) has_h same_h
    (record { own = sym stored_h; others = λ i ne. refl }) kept_h in
    subst (λ (l : List V). IsGuarded k locks words' l (set (set t (k.place g) (k.counted g')) (k.place h)
    (k.counted h'))) (set-set views j p1 p') two

-- a lock is freed where the word says what the node counts as
pub lock_freed : {V G N : Type 0} (k : Kind V G N) (locks locks' words : ℕ → ℕ) (views : List V) (t : List N) (j : ℕ)
    (p p' : V) (g : G)
    → IsGuarded k locks words views t → get_elem? views j ≡ some p → Contains (k.guards p) g
    → k.means (k.counted g) (k.stored g) → IsSetAt locks locks' (k.place g) 0
    → ((h : G) → Contains (k.guards p') h → (k.place h ≢ k.place g) × Contains (k.guards p) h)
    → IsGuarded k locks' words (set views j p') t
lock_freed {V} {G} {N} k locks locks' words views t j p p' g f at has_g means is kept =
    let place : G → ℕ = k.place in let own = f.held j p g at has_g in
    let was : (i : ℕ) (q : V) (h : G) → get_elem? (set views j p') i ≡ some q → Contains (k.guards q) h
    → (place h ≢ place g) × (q' : V) × (get_elem? views i ≡ some q') × Contains (k.guards q') h =
    (λ i q h to has. ⊎_elim
    (λ e. let old = kept h e.2 in (old.0, p, subst (λ (z : ℕ). get_elem? views z ≡ some p) (sym e.0) at, old.1))
    (λ n. ((λ e. n.0 (f.view i j q p h g n.1 at n.2 has_g e)), q, n.1, n.2)) (guard_cases k views j p' i q h to has)) in
    record {
      free = λ i lt zero. dite (ℕ_discrete i (place g))
          (λ e. subst (λ (z : ℕ). k.means (get_or t z k.empty) (words z)) (sym e)
          (subst (λ (v : N). k.means v (words (place g))) (sym own.counted)
          (subst (k.means (k.counted g)) (sym own.stored) means)))
          (λ ne. f.free i lt (sym (is.others i ne) ∙ zero));
      held = λ i q h to has. let o = was i q h to has in let old = f.held i o.1 h o.2 o.3 in record {
        within = old.within;
        locked = λ z. old.locked (sym (is.others (place h) o.0) ∙ z);
        stored = old.stored;
        counted = old.counted;
      };
      view = λ a b q r h l to_q to_r has_h has_l e. let u = was a q h to_q has_h in
          let v = was b r l to_r has_l in f.view a b u.1 v.1 h l u.2 v.2 u.3 v.3 e;
      once = λ a q h l to has_h has_l e. let u = was a q h to has_h in let v = was a q l to has_l in let x = u.1 in
          let y = v.1 in
          let same : u.1 ≡ v.1 = some-injective u.1 v.1 (sym u.2 ∙ v.2) in
          f.once a v.1 h l v.2 (subst (λ (z : V). Contains (k.guards z) h) same u.3) v.3 e;
    }

-- what the view of a lock's holder names is what the node counts as, and a node in a free lock counts as its word says
pub counted_is : {V G N : Type 0} (k : Kind V G N) (locks words : ℕ → ℕ) (views : List V) (t : List N) (j : ℕ) (p : V)
    (g : G) → IsGuarded k locks words views t → get_elem? views j ≡ some p → Contains (k.guards p) g
    → get_or t (k.place g) k.empty ≡ k.counted g
counted_is {V} {G} {N} k locks words views t j p g f at has = (f.held j p g at has).counted
