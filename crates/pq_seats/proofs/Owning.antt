-- A queue's own steps that place no mark keep the rule.
use Rattle.std.proofs.Common.{◌≡◌, ◌≢◌, ◌⊎◌, ℕ, ◌<◌, ◌≤◌, Bool, true, false, List, map, length, get_or, set, sym, refl, ap, ◌∙◌, subst, inl, inr, ⊎_elim, arith, get_or-set_same, get_or-set_other, Contains}
use Rattle.atomic_table.proofs.Lists.{at_map}
use Rattle.pq_model.specs.declared.passes.Call.{Call}
use Rattle.pq_model.specs.declared.passes.Lane.{Lane}
use Rattle.pq_model.specs.History.{left}
use Rattle.pq_model.specs.Passes.{calls_of, IsBehind}
use Rattle.pq_model.proofs.Fronts.{IsBehind-front}
use Rattle.pq_seats.specs.declared.views.Limits.{Limits}
use Rattle.pq_seats.specs.declared.views.Post.{Post}
use Rattle.pq_seats.specs.declared.views.View.{View}
use Rattle.pq_seats.specs.Views.{HasFirst, known_of, post_of, with_post, with_seen}
use Rattle.pq_seats.specs.Rules.{Table, Rule, Lawful, Holds, Fits, IsAccounted, Stands}
use Rattle.pq_seats.specs.Allowed.{IsOwnChange}
use Rattle.pq_seats.specs.Laws.{stepped_to, MaySee}
use Rattle.pq_seats.proofs.Keeps.{alike, quietly, recount, letters_on, stays, holder_keep}

-- what is accounted for a seat outlives its own change
changed : {O : Type 0} (v : View O) (p : Post O) (front long : ℕ) (x : Lane) (made : List Call) (c w : ℕ) → IsOwnChange v p → MaySee long v front
    → IsAccounted v.post.number v.post.flight v.front x made c w → IsAccounted p.number p.flight front x made c w
changed v p front long x made c w o sees a = ⊎_elim
    (λ same. ⊎_elim
    (λ stays_put. subst (λ (z : ℕ). IsAccounted p.number p.flight z x made c w) (sym stays_put) (alike v.post.number p.number v.front v.post.flight p.flight x made c w o.number same a))
    (λ r. quietly v.post.number v.front p.number front v.post.flight p.flight x made c w a r.2)
    sees)
    (λ t. quietly v.post.number v.front p.number front v.post.flight p.flight x made c w a t.0)
    o.flight

module _ {O : Type 0} (R : Rule O) (k : Limits) (laws : Lawful R) (s : Table O) (h : Holds R k s) (id : ℕ) (v : View O) (p : Post O) (front i x : ℕ)
    (at : Stands R s id v) (seated : v.post.number ≢ 0) (out : (i ≡ 0) ⊎ (16 < i)) (no_lock : R.locks k i ≡ false) (o : IsOwnChange v p) (sees : MaySee (length h.history) v front)
    (counted : R.length_of (get_or (set s.words i x) 0 0) ≡ length h.history) (tied : R.ties k (set s.words i x) (set (map post_of s.views) id p) (left h.history)) where
  abbrev ps : List (Post O)
  ps = map post_of s.views

  abbrev w : View O
  w = with_post (with_seen v front) p

  abbrev ws : List ℕ
  ws = set s.words i x

  same : (l : ℕ) → R.locks k l ≡ true → get_or ws l 0 ≡ get_or s.words l 0
  same l is = get_or-set_other s.words i l x 0 (λ e. let both : R.locks k i ≡ true = ap (R.locks k) (sym e) ∙ is in absurd (cc))

  seen : (v.front ≤ front) × (front ≤ length h.history)
  seen = let f = (h.each id v at).front in ⊎_elim (λ e. (omega arith, omega arith)) (λ t. (t.0, t.1)) sees

  still_behind : IsBehind (known_of w)
  still_behind = subst (λ (z : ℕ). IsBehind (record (known_of (with_seen v front)) { number = z })) (sym o.number) (IsBehind-front (known_of v) front seen.0 (h.each id v at).behind)

  fits : Fits R k h.history ws (set ps id p) w
  fits = let f = h.each id v at in let letters = letters_on R k s.words ps i x id v.post p out h.few (at_map post_of s.views id v at) o.owed in record {
    limits = f.limits;
    front = seen.1;
    behind = still_behind;
    ranged = f.ranged;
    calls = λ y has. let l = letters y.number (f.ranged y has) in
        recount p.number front p.flight y (calls_of y.number h.history) _ _ _ _ l.0 l.1 (changed v p front (length h.history) y (calls_of y.number h.history) _ _ o sees (f.calls y has));
    first = λ ne. subst (λ (z : ℕ). HasFirst z v.lanes) (sym o.number) (f.first seated);
    empty = λ e. absurd (seated (sym o.number ∙ e));
    owes = λ y has. f.owes y (subst (λ (z : List (ℕ × ℕ)). Contains z y) o.owed has);
    room = λ y e. ⊎_elim (λ z. f.room y (sym z ∙ e)) (λ z. z.1) o.flight;
    held = λ l has. let r = f.held l (subst (λ (z : List ℕ). Contains z l) o.locks has) in (r.0, same l r.0 ∙ (r.1 ∙ sym o.number), λ e. seated (sym o.number ∙ e));
  }

  pub changes : Holds R k (stepped_to s i x id w)
  changes = stays R k s h id v w i x s.homes at out refl o.owed counted fits
      (λ j u n to has. same i ((h.each j u to).held i has).0)
      (λ l is ne. holder_keep R k s h id v w at (λ j has. subst (λ (z : List ℕ). Contains z j) (sym o.locks) has) l is (λ z. ne (same l is ∙ z)))
      tied

module _ {O : Type 0} (R : Rule O) (k : Limits) (laws : Lawful R) (s : Table O) (h : Holds R k s) (id : ℕ) (v : View O) (p : Post O) (at : Stands R s id v) (seated : v.post.number ≢ 0) (o : IsOwnChange v p) where
  -- on a word that is neither the history, a letter nor a lock
  pub own_stays : (i x : ℕ) → 16 < i → R.locks k i ≡ false → R.ties k (set s.words i x) (set (map post_of s.views) id p) (left h.history) → Holds R k (stepped_to s i x id (with_post v p))
  own_stays i x far no_lock tied = changes R k laws s h id v p v.front i x at seated (inr far) no_lock o (inl refl)
      (ap R.length_of (get_or-set_other s.words i 0 x 0 (λ e. omega arith)) ∙ h.counted) tied

  -- on the history word
  pub front_stays : (front x : ℕ) → R.length_of x ≡ length h.history → MaySee (length h.history) v front → R.ties k (set s.words 0 x) (set (map post_of s.views) id p) (left h.history)
      → Holds R k (stepped_to s 0 x id (with_post (with_seen v front) p))
  front_stays front x long sees tied = changes R k laws s h id v p front 0 x at seated (inl refl) (no_lock (R.locks k 0) refl) o sees
      (ap R.length_of (get_or-set_same s.words 0 x 0 (let l = h.letters in omega arith)) ∙ long) tied
    where
      no_lock : (b : Bool) → R.locks k 0 ≡ b → R.locks k 0 ≡ false
      no_lock true e = let a = laws.apart k 0 e in absurd (omega arith)
      no_lock false e = e
