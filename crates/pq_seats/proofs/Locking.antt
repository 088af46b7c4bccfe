-- Taking and freeing a lock keeps the rule, and so do the two loads of the history word.
use Rattle.std.proofs.Common.{◌≡◌, ◌≢◌, None, ℕ, ◌<◌, ◌≤◌, true, eqb, List, map, length, get_or, set, sym, refl, ap, ◌∙◌, subst, inl, inr, ⊎_elim, arith, eq-eqb, ne_eqb, get_or-set_same, get_or-set_other, Contains}
use Rattle.std.proofs.lemmas.List.{set-get_or}
use mathlib.Core.Option.{some, none}
use lib.ListN.{get_elem?}
use native.Mathlib.Decide.{ℕ_discrete}
use mathlib.Core.Logic.{dite}
use prog.Atomic.{either}
use Rattle.atomic_table.specs.Table.{Me, step, keeps, stepped, Allows}
use Rattle.atomic_table.proofs.Lists.{at_map, set_again, set_else}
use Rattle.pq_model.specs.Passes.{calls_of}
use Rattle.pq_model.proofs.Fronts.{IsBehind-front, Witnesses-front}
use Rattle.pq_seats.specs.declared.views.Limits.{Limits}
use Rattle.pq_seats.specs.declared.views.Post.{Post}
use Rattle.pq_seats.specs.declared.views.View.{View}
use Rattle.pq_seats.specs.Views.{known_of, post_of, with_seen, with_read, IsAlike}
use Rattle.pq_seats.specs.Posts.{with_lock}
use Rattle.pq_seats.specs.Rules.{Table, Rule, Lawful, Holds, Fits, Stands}
use Rattle.pq_seats.specs.Allowed.{MayTake, MayFree}
use Rattle.pq_seats.specs.Steps.{Took, locked_view, freed_view, measures, learns, tries, frees}
use Rattle.pq_seats.proofs.Lists.{put_here, same_at, less_has, has_less, in_later, in_cases}
use Rattle.pq_seats.proofs.Lengths.{short}
use Rattle.pq_seats.proofs.Keeps.{fits_on, letters_on, stays, holder_keep, untouched, quietly, recount, one_number, witnessed, informs, limits_of, few_lanes}

module _ {O : Type 0} (R : Rule O) (k : Limits) where
  -- a front that rises
  pub seen_fits : (s : Table O) (h : Holds R k s) (id : ℕ) (v : View O) (front : ℕ) → Stands R s id v → v.post.flight ≡ None → v.front ≤ front → front ≤ length h.history
      → Fits R k h.history s.words (map post_of s.views) (with_seen v front)
  seen_fits s h id v front at quiet more within = let f = h.each id v at in record {
    limits = f.limits;
    front = within;
    behind = IsBehind-front (known_of v) front more f.behind;
    ranged = f.ranged;
    calls = λ y has. quietly v.post.number v.front v.post.number front v.post.flight v.post.flight y (calls_of y.number h.history) _ _ (f.calls y has) quiet;
    first = f.first;
    empty = f.empty;
    owes = f.owes;
    room = f.room;
    held = f.held;
  }

  pub lengthens : (slots id : ℕ) (me : Me (Unit {0}) (View O)) → ((x : ℕ) → R.length_of x ≡ x) → me.0.post.number ≢ 0 → me.0.post.flight ≡ None
      → Allows (Holds R k) slots id me 0 (λ n. n) (measures R (step slots 0 0 0 none) me)
  lengthens slots id me plain seated quiet s h sized at small =
      let v = me.0 in
      let x : ℕ = get_or s.words 0 0 in
      let w : View O = with_seen v x in
      let ps = map post_of s.views in
      let counted : x ≡ length h.history = sym (plain x) ∙ h.counted in
      let front = (h.each id v at).front in
      let same : set s.words 0 x ≡ s.words = set-get_or s.words 0 0 in
      let still : set ps id v.post ≡ ps = set_again ps id v.post (at_map post_of s.views id v at) in
      let fits = seen_fits s h id v x at quiet (omega arith) (omega arith) in
      let now = stays R k s h id v w 0 x s.homes at (inl refl) refl refl (rw same h.counted)
      (rw (same, still) fits)
      (λ j u n to has. rw same refl)
      (λ l is. rw same (holder_keep R k s h id v w at (λ i has. has) l is))
      (rw (same, still) h.tied) in
      let few = short R k s h in
      (w, keeps, tt, now, (record { small = omega arith; front = omega arith; view = refl; knows = (h.history, Witnesses-front v.limits.seats v.limits.capacity (known_of v) h.history x (omega arith) (omega arith) (witnessed R k s h id v at quiet seated), sym counted) }, refl))

  pub learned : (slots id : ℕ) (me : Me (Unit {0}) (View O)) → me.0.post.number ≢ 0 → me.0.post.flight ≡ None
      → Allows (Holds R k) slots id me 0 (λ n. n) (learns R (step slots 0 0 0 none) me)
  learned slots id me seated quiet s h sized at small = (
    me.0,
    keeps,
    tt,
    untouched R k s h id me.0 0 at,
    (
      record {
        view = refl;
        knows = informs R k s h id me.0 at quiet seated;
        few = subst (λ (z : Limits). length me.0.lanes ≤ z.seats) (sym (limits_of R k s h id me.0 at seated)) (few_lanes R k s h id me.0 at);
      },
      refl,
    ),
  )

  pub tried : (slots id : ℕ) (me : Me (Unit {0}) (View O)) (word : ℕ) → Lawful R → R.locks k word ≡ true → me.0.post.number ≢ 0 → MayTake R k id me.0 word
      → Allows (Holds R k) slots id me word (λ n. either (eqb n 0) me.0.post.number n) (tries R (step slots word 0 me.0.post.number none) me)
  tried slots id me word laws is seated may s h sized at small =
      let v = me.0 in
      let n : ℕ = v.post.number in
      let x : ℕ = get_or s.words word 0 in
      let ps = map post_of s.views in
      let f = h.each id v at in
      let high : 16 < word = laws.apart k word is in
      let room : word < length s.words = let a = laws.within k word is in let b = h.width in omega arith in
      dite (ℕ_discrete x 0)
      (λ hit.
      let t = may v (record { post = refl; lanes = refl; front = refl; limits = refl }) s h at hit in
      let w : View O = locked_view R v word t.0 in
      let ws : List ℕ = set s.words word n in
      let now : get_or ws word 0 ≡ n = get_or-set_same s.words word n 0 room in
      let f' = fits_on R k h.history s.words ws ps (set ps id w.post) v f
      (letters_on R k s.words ps word n id v.post w.post (inr high) h.few (at_map post_of s.views id v at) refl)
      (λ i has. get_or-set_other s.words word i n 0 (λ e. (f.held i has).2 (sym (f.held i has).1 ∙ ap (λ (z : ℕ). get_or s.words z 0) e ∙ hit))) in
      let fits : Fits R k h.history ws (set ps id w.post) w = record {
        limits = f'.limits;
        front = f'.front;
        behind = f'.behind;
        ranged = f'.ranged;
        calls = f'.calls;
        first = f'.first;
        empty = λ e. absurd (seated e);
        owes = f'.owes;
        room = f'.room;
        held = λ i has. ⊎_elim
            (λ e. subst (λ (z : ℕ). (R.locks k z ≡ true) × (get_or ws z 0 ≡ n) × (n ≢ 0)) e (is, now, seated))
            (λ t. f'.held i t)
            (in_cases word i v.post.locks has);
      } in (
        w,
        keeps,
        tt,
        subst (λ b. Holds R k (stepped s word (either b n x) id me.1 w keeps)) (sym (eq-eqb x 0 hit))
            (stays R k s h id v w word n _ at (inr high) refl refl (ap R.length_of (get_or-set_other s.words word 0 n 0 (λ e. omega arith)) ∙ h.counted) fits
            (λ j u n to has. absurd (((h.each j u to).held word has).2 (sym ((h.each j u to).held word has).1 ∙ hit)))
            (λ l lock ne. dite (ℕ_discrete l word)
            (λ e. (id, w, put_here s.views id v w at, (0, omega arith, sym e)))
            (λ d. holder_keep R k s h id v w at (λ i has. in_later word i v.post.locks has) l lock (λ z. ne (get_or-set_other s.words word l n 0 d ∙ z))))
            t.2),
        ((λ _. record { read = refl; more = omega arith; own = t.0; taken = t.1; post = refl; lanes = refl; front = refl; limits = refl }), (λ not. absurd (not hit)), refl),
      ))
      (λ miss.
      let w : View O = with_read v x in
      let same : set s.words word x ≡ s.words = set-get_or s.words word 0 in
      let still : set ps id v.post ≡ ps = set_again ps id v.post (at_map post_of s.views id v at) in
      let fits : Fits R k h.history s.words ps w = record {
        limits = f.limits;
        front = f.front;
        behind = f.behind;
        ranged = f.ranged;
        calls = f.calls;
        first = f.first;
        empty = f.empty;
        owes = f.owes;
        room = f.room;
        held = f.held;
      } in (
        w,
        keeps,
        tt,
        subst (λ b. Holds R k (stepped s word (either b n x) id me.1 w keeps)) (sym (ne_eqb x 0 miss))
            (stays R k s h id v w word x _ at (inr high) refl refl (rw same h.counted) (rw (same, still) fits) (λ j u n to has. rw same refl)
            (λ l lock. rw same (holder_keep R k s h id v w at (λ i has. has) l lock)) (rw (same, still) h.tied)),
        ((λ hit. absurd (miss hit)), (λ _. record { read = omega arith; more = omega arith; same = record { post = refl; lanes = refl; front = refl; limits = refl } }), refl),
      ))

  -- the same where the number comes from the pass
  pub tried_as : (slots id : ℕ) (me : Me (Unit {0}) (View O)) (word number : ℕ) → number ≡ me.0.post.number → Lawful R → R.locks k word ≡ true → number ≢ 0 → MayTake R k id me.0 word
      → Allows (Holds R k) slots id me word (λ n. either (eqb n 0) number n) (tries R (step slots word 0 number none) me)
  tried_as slots id me word number e laws is seated may =
      subst (λ (z : ℕ). Allows (Holds R k) slots id me word (λ n. either (eqb n 0) z n) (tries R (step slots word 0 z none) me)) (sym e) (tried slots id me word laws is (λ z. seated (e ∙ z)) may)

  pub freed : (slots id : ℕ) (me : Me (Unit {0}) (View O)) (word : ℕ) → Lawful R → Contains me.0.post.locks word → MayFree R k id me.0 word
      → Allows (Holds R k) slots id me word (λ _. 0) (λ _. frees R (step slots word 0 0 none) me 0)
  freed slots id me word laws has may s h sized at small =
      let v = me.0 in
      let ps = map post_of s.views in
      let f = h.each id v at in
      let mine = f.held word has in
      let high : 16 < word = laws.apart k word mine.0 in
      let room : word < length s.words = let a = laws.within k word mine.0 in let b = h.width in omega arith in
      let w : View O = freed_view R v word in
      let ws : List ℕ = set s.words word 0 in
      let letters = letters_on R k s.words ps word 0 id v.post w.post (inr high) h.few (at_map post_of s.views id v at) refl in
      let here : get_or ws word 0 ≡ 0 = get_or-set_same s.words word 0 0 room in
      let fits : Fits R k h.history ws (set ps id w.post) w = record {
        limits = f.limits;
        front = f.front;
        behind = f.behind;
        ranged = f.ranged;
        calls = λ x hx. let l = letters x.number (f.ranged x hx) in recount v.post.number v.front v.post.flight x (calls_of x.number h.history) _ _ _ _ l.0 l.1 (f.calls x hx);
        first = f.first;
        empty = λ e. absurd (mine.2 e);
        owes = f.owes;
        room = f.room;
        held = λ i hi. let r = less_has word v.post.locks i hi in let m = f.held i r.0 in (m.0, get_or-set_other s.words word i 0 0 r.1 ∙ m.1, m.2);
      } in (
        w,
        keeps,
        tt,
        stays R k s h id v w word 0 _ at (inr high) refl refl (ap R.length_of (get_or-set_other s.words word 0 0 0 (λ e. omega arith)) ∙ h.counted) fits
            (λ j u n to hu. absurd (n (one_number R k s h id j v u at to mine.2 (sym mine.1 ∙ ((h.each j u to).held word hu).1))))
            (λ l lock ne. dite (ℕ_discrete l word)
            (λ e. absurd (ne (ap (λ (z : ℕ). get_or ws z 0) e ∙ here)))
            (λ n. let old : get_or s.words l 0 ≢ 0 = λ z. ne (get_or-set_other s.words word l 0 0 n ∙ z) in let r = h.holder l lock old in dite (ℕ_discrete r.0 id)
            (λ e. (
              id,
              w,
              put_here s.views id v w at,
              has_less word v.post.locks l (subst (λ (u : View O). Contains u.post.locks l) (same_at s.views id r.1 v (subst (λ (z : ℕ). get_elem? s.views z ≡ some r.1) e r.2) at) r.3) n,
            ))
            (λ d. (r.0, r.1, set_else s.views id r.0 w d ∙ r.2, r.3))))
            (may s h at),
        refl,
      )

  -- a seat that read further may still take the lock, and has then taken it
  pub alike_more : (u v w : View O) → IsAlike u v → IsAlike v w → IsAlike u w
  alike_more u v w e f = record { post = f.post ∙ e.post; lanes = f.lanes ∙ e.lanes; front = f.front ∙ e.front; limits = f.limits ∙ e.limits }

  pub may_still : (id : ℕ) (v w : View O) (i : ℕ) → IsAlike v w → MayTake R k id v i → MayTake R k id w i
  may_still id v w i e may u same = may u (alike_more v w u e same)

  pub took_still : (u v w : View O) (i : ℕ) → IsAlike u v → u.reads ≤ v.reads → Took R v w i → Took R u w i
  took_still u v w i e le t = record {
    read = t.read;
    more = let further = t.more in omega arith;
    own = t.own;
    taken = subst (λ (z : Limits). R.taken z u.post.own i t.own) e.limits (subst (λ (z : Post O). R.taken v.limits z.own i t.own) e.post t.taken);
    post = t.post ∙ ap (λ (z : Post O). with_lock z i t.own) e.post;
    lanes = t.lanes ∙ e.lanes;
    front = t.front ∙ e.front;
    limits = t.limits ∙ e.limits;
  }
