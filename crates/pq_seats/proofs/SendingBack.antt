-- A step on a word of the queue's own, after which the seat owes another the letter Back, keeps the rule.
use Rattle.std.proofs.Common.{◌≡◌, ◌≢◌, ℕ, ◌+◌, ◌<◌, true, false, cond, eqb, List, [], ◌∷◌, map, length, get_or, set, min, sym, refl, ap, ◌∙◌, subst, inl, inr, ⊎_elim, arith, length-set, get_or-set_other, Contains, Option, IsSome}
use Rattle.std.proofs.lemmas.List.Elements.{Contains-append_cases}
use lib.Seq.{map-set}
use native.Mathlib.Decide.{ℕ_discrete}
use mathlib.Core.Logic.{dite}
use Rattle.atomic_table.proofs.Lists.{at_set, at_map}
use Rattle.pq_words.specs.declared.entries.Entry.{Entry}
use Rattle.pq_model.specs.declared.passes.Lane.{Lane}
use Rattle.pq_model.specs.History.{IsSeat, left}
use Rattle.pq_model.specs.Passes.{calls_of}
use Rattle.pq_seats.specs.declared.views.Limits.{Limits}
use Rattle.pq_seats.specs.declared.views.Post.{Post}
use Rattle.pq_seats.specs.declared.views.View.{View}
use Rattle.pq_seats.specs.Views.{lanes_of, post_of, with_post}
use Rattle.pq_seats.specs.Letters.{back, owed_count, owed_sum, letter_count, letter_sum}
use Rattle.pq_seats.specs.Posts.{owing_back}
use Rattle.pq_seats.specs.Rules.{Table, Rule, Holds, Fits, IsAccounted, Stands}
use Rattle.pq_seats.specs.Allowed.{SendsBack}
use Rattle.pq_seats.specs.Laws.{stepped_to}
use Rattle.pq_seats.proofs.Lists.{test_same, test_other, sum_set, sum_kept, not_in, in_cases}
use Rattle.pq_seats.proofs.Marks.{owed_count-append, owed_sum-append, owed_count-cons, owed_sum-cons}
use Rattle.pq_seats.proofs.Keeps.{holder_keep, unlettered, recount}
use Rattle.pq_seats.proofs.Waiting.{no_sum, waiter_lane, waiter_in}

module _ {O : Type 0} (R : Rule O) (k : Limits) (s : Table O) (h : Holds R k s) (id : ℕ) (v : View O) (at : Stands R s id v) (seated : v.post.number ≢ 0)
    (owner : ℕ) (own : O) (i x : ℕ) (far : 16 < i) (no_lock : R.locks k i ≡ false) (d : SendsBack R k id v owner own i x s h) where
  abbrev ps : List (Post O)
  ps = map post_of s.views

  abbrev w : View O
  w = with_post v (owing_back v.post owner own)

  abbrev ws' : List ℕ
  ws' = set s.words i x

  abbrev ps' : List (Post O)
  ps' = set ps id w.post

  other : (j : ℕ) → j ≢ i → get_or ws' j 0 ≡ get_or s.words j 0
  other j ne = get_or-set_other s.words i j x 0 ne

  lock_same : (l : ℕ) → R.locks k l ≡ true → get_or ws' l 0 ≡ get_or s.words l 0
  lock_same l is = other l (λ e. let both : R.locks k i ≡ true = ap (R.locks k) (sym e) ∙ is in absurd (cc))

  -- the owner has a letter more, which is Back
  more_letters : (m : ℕ) → IsSeat k.seats m → (letter_count m ws' ps' ≡ letter_count m s.words ps + cond (eqb owner m) 1 0) × (letter_sum m ws' ps' ≡ letter_sum m s.words ps + cond (eqb owner m) back 0)
  more_letters m seat =
      let high = seat.1 in let few = h.few in
      let word : get_or ws' m 0 ≡ get_or s.words m 0 = other m (λ e. omega arith) in
      let pat = at_map post_of s.views id v at in
      let c = sum_set (λ (q : Post O). owed_count m q.owed) ps id v.post w.post pat in
      let e = owed_count-append m v.post.owed ((owner, back) ∷ []) in let f = owed_count-cons m (owner, back) [] in
      let g = sum_set (λ (q : Post O). owed_sum m q.owed) ps id v.post w.post pat in
      let l = owed_sum-append m v.post.owed ((owner, back) ∷ []) in let n = owed_sum-cons m (owner, back) [] in
      let m1 : min (get_or ws' m 0) 1 ≡ min (get_or s.words m 0) 1 = ap (λ (z : ℕ). min z 1) word in
      (omega (arith, c, e, f, m1), omega (arith, g, l, n, word))

  all_calls : (j : ℕ) (u : View O) (y : Lane) → Stands R s j u → Contains u.lanes y
      → IsAccounted u.post.number u.post.flight u.front y (calls_of y.number h.history) (letter_count y.number ws' ps') (letter_sum y.number ws' ps')
  all_calls j u y to hy =
      let m = y.number in let n = u.post.number in let o = u.post.flight in
      let f = h.each j u to in let old = f.calls y hy in let l = more_letters m (f.ranged y hy) in
      dite (ℕ_discrete owner m)
      (λ e.
      let t = d.waiting in let none_yet = t.unwritten in
      let a = waiter_lane R k s h owner d.entry t j u y to hy (sym e) in
      let none_here : letter_count m s.words ps ≡ 0 = subst (λ (z : ℕ). letter_count z s.words ps ≡ 0) e none_yet in
      let no_owed = no_sum m ps (omega arith) in
      let one = test_same owner m 1 0 e in let worth = test_same owner m back 0 e in
      inr (inl (record {
        all = unlettered n u.front o y (calls_of m h.history) _ _ old none_here;
        one = omega (arith, l.0);
        letter = omega (arith, l.1);
        own = a.0 ∙ e;
        waits = subst (λ (z : Option Entry). IsSome z) (sym a.1) refl;
      })))
      (λ ne. let none_more = test_other owner m 1 0 ne in let no_worth = test_other owner m back 0 ne in
      recount n u.front o y (calls_of m h.history) _ _ _ _ (omega (arith, l.0)) (omega (arith, l.1)) old)

  any_fits : (j : ℕ) (u : View O) → Stands R s j u → Fits R k h.history ws' ps' u
  any_fits j u to = let f = h.each j u to in record {
    limits = f.limits;
    front = f.front;
    behind = f.behind;
    ranged = f.ranged;
    calls = λ y has. all_calls j u y to has;
    first = f.first;
    empty = f.empty;
    owes = f.owes;
    room = f.room;
    held = λ l has. let r = f.held l has in (r.0, lock_same l r.0 ∙ r.1, r.2);
  }

  own_fits : Fits R k h.history ws' ps' w
  own_fits = let f = any_fits id v at in record {
    limits = f.limits;
    front = f.front;
    behind = f.behind;
    ranged = f.ranged;
    calls = f.calls;
    first = f.first;
    empty = λ e. absurd (seated e);
    owes = λ y has. ⊎_elim
        (λ t. f.owes y t)
        (λ t. ⊎_elim
        (λ e. let worth : back ≡ y.1 = ap (λ (z : ℕ × ℕ). z.1) e in (subst (λ (z : ℕ × ℕ). IsSeat k.seats z.0) e (waiter_in R k s h owner d.entry d.waiting), omega arith))
        (λ z. absurd (not_in y z))
        (in_cases (owner, back) y [] t))
        (Contains-append_cases v.post.owed ((owner, back) ∷ []) y has);
    room = f.room;
    held = f.held;
  }

  pub back_sent : Holds R k (stepped_to s i x id w)
  back_sent =
      let posts : map post_of (set s.views id w) ≡ ps' = map-set post_of s.views id w in let size = length-set s.words i x in record {
        history = h.history;
        legal = h.legal;
        counted = ap R.length_of (other 0 (λ e. omega arith)) ∙ h.counted;
        few = h.few;
        few_calls = h.few_calls;
        long = size ∙ h.long;
        letters = let l = h.letters in omega arith;
        width = let l = h.width in omega arith;
        once = λ m. sum_kept (λ (u : View O). lanes_of m u.lanes) s.views id v w at refl ∙ h.once m;
        lanes = sum_kept (λ (u : View O). length u.lanes) s.views id v w at refl ∙ h.lanes;
        each = λ j u to. subst (λ (z : List (Post O)). Fits R k h.history ws' z u) (sym posts)
            (⊎_elim (λ t. subst (λ (z : View O). Fits R k h.history ws' ps' z) t.1 own_fits) (λ t. any_fits j u t.1) (at_set s.views id j w u to));
        holder = λ l is ne. holder_keep R k s h id v w at (λ n has. has) l is (λ z. ne (lock_same l is ∙ z));
        tied = subst (λ (z : List (Post O)). R.ties k ws' z (left h.history)) (sym posts) d.tied;
      }
