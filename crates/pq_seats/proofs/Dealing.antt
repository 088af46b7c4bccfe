-- A table begins with the rule, dealing, notes and joins keep it, and the last pass sees its end.
use Rattle.std.proofs.Common.{◌≡◌, ◌≢◌, ◌⊎◌, None, ℕ, zero, suc, ◌+◌, ◌-◌, ◌<◌, ◌≤◌, cond, eqb, List, [], ◌∷◌, ◌++◌, map, length, get_or, set, max, sym, refl, ap, ◌∙◌, subst, inl, inr, ⊎_elim, arith, length-append, All, Contains, sum_by}
use Rattle.std.proofs.lemmas.List.{map-append, append-nil}
use Rattle.std.proofs.lemmas.List.Sums.{sum_by-cons, sum_by-append, sum_by_push}
use Rattle.std.proofs.lemmas.List.Elements.{All-nil, All-cons, All-weaker, Contains-append_cases}
use mathlib.Core.Option.{some, some-injective, some-ne-none}
use lib.ListN.{get_elem?}
use lib.Seq.{map-set}
use native.Mathlib.Decide.{ℕ_discrete}
use mathlib.Core.Logic.{dite}
use Rattle.atomic_table.specs.Table.{opening, Splits, Joins, Final, Seen}
use Rattle.atomic_table.proofs.Lists.{at_set, at_map, at_snoc, at_longer, set_again, set_else}
use Rattle.pq_model.specs.declared.marks.Mark.{Mark}
use Rattle.pq_model.specs.declared.passes.Call.{Call}
use Rattle.pq_model.specs.declared.passes.Lane.{Lane}
use Rattle.pq_model.specs.History.{IsSeat, left}
use Rattle.pq_model.specs.Passes.{lane, lanes, numbers, calls_of, IsBehind, joined_with}
use Rattle.pq_model.proofs.Fronts.{IsBehind-fresh, IsBehind-front, IsBehind-joined}
use Rattle.pq_seats.specs.declared.views.Limits.{Limits}
use Rattle.pq_seats.specs.declared.views.Post.{Post}
use Rattle.pq_seats.specs.declared.views.View.{View}
use Rattle.pq_seats.specs.Views.{HasFirst, first_calls, later_lanes, numbered, lanes_of, known_of, post_of, empty_post, with_seen}
use Rattle.pq_seats.specs.Letters.{owed_count, owed_sum, letter_count, letter_sum}
use Rattle.pq_seats.specs.Rules.{Table, Rule, Lawful, Holds, Fits, IsAccounted, IsAtRest, Stands}
use Rattle.pq_seats.specs.Seats.{Begins, Ended, bare, dealt, dealer, newcomer, deal_left, deal_right, note_of, joined_view, spent}
use Rattle.pq_seats.proofs.Lists.{sum_set, sum_kept, sum_some, sum_two, put_here, same_at, at_unmap, not_in, in_first, in_later, in_cases, all_in, lanes_of-cons, lanes_known, lane_of, numbered_in, has_length}
use Rattle.pq_seats.proofs.Lengths.{few_marks}
use Rattle.pq_seats.proofs.Keeps.{settled, quietly, recount, apart, own_lane, witnessed, fits_on, AreKept}

numbered_range : (at n : ℕ) (x : Lane) → Contains (numbered at n) x → (at ≤ x.number) × (x.number < at + n) × (x.calls ≡ [])
numbered_range at zero x h = absurd (not_in x h)
numbered_range at (suc n) x h = ⊎_elim
    (λ e. let is : at ≡ x.number = ap (λ (z : Lane). z.number) e in (omega arith, omega arith, sym (ap (λ (z : Lane). z.calls) e)))
    (λ t. let r = numbered_range (at + 1) n x t in let low = r.0 in let high = r.1 in (omega arith, omega arith, r.2))
    (in_cases (lane at []) x (numbered (at + 1) n) h)

pub length-numbered : (at n : ℕ) → length (numbered at n) ≡ n
length-numbered at zero = refl
length-numbered at (suc n) = ap suc (length-numbered (at + 1) n)

number_there : (ls : List Lane) (l : Lane) → Contains ls l → Contains (map (λ (x : Lane). x.number) ls) l.number
number_there [] l has = absurd (not_in l has)
number_there (x ∷ xs) l has = let f : Lane → ℕ = λ y. y.number in ⊎_elim
    (λ e. subst (λ (z : Lane). Contains (map f (x ∷ xs)) z.number) e (in_first x.number (map f xs)))
    (λ t. in_later x.number l.number (map f xs) (number_there xs l t))
    (in_cases x l xs has)

-- numbered lanes have no calls
behind_numbered : (from n front : ℕ) → All (λ (l : Lane). All (λ (c : Call). c.place < front) l.calls) (numbered from n)
behind_numbered from n front = all_in (λ (l : Lane). All (λ (c : Call). c.place < front) l.calls) (numbered from n)
    (λ l has. subst (λ (z : List Call). All (λ (c : Call). c.place < front) z) (sym (numbered_range from n l has).2) (All-nil (λ (c : Call). c.place < front)))

calls_numbered : (from n : ℕ) → first_calls (numbered from n) ≡ []
calls_numbered from zero = refl
calls_numbered from (suc n) = refl

later_numbered : (from n : ℕ) → later_lanes (numbered from n) ≡ numbered (from + 1) (n - 1)
later_numbered from zero = refl
later_numbered from (suc n) = ap (λ (z : ℕ). numbered (from + 1) z) (omega arith)

module _ {O : Type 0} where
  -- what two passes mean once they are one
  pub known_joined : (v w : View O) → HasFirst v.post.number v.lanes → HasFirst w.post.number w.lanes → known_of (joined_view v w) ≡ joined_with (known_of v) (known_of w)
  known_joined v w f g =
      let calls : first_calls (v.lanes ++ w.lanes) ≡ first_calls v.lanes = subst (λ (z : List Lane). first_calls (z ++ w.lanes) ≡ first_calls z) (sym f.2) refl in
      let more : later_lanes (v.lanes ++ w.lanes) ≡ later_lanes v.lanes ++ w.lanes = subst (λ (z : List Lane). later_lanes (z ++ w.lanes) ≡ later_lanes z ++ w.lanes) (sym f.2) refl in
      let theirs : w.lanes ≡ lanes (known_of w) = sym (lanes_known w.post.number w.lanes g) in
      λ i. record { number = v.post.number; calls = calls i; front = max v.front w.front; joined = (more ∙ ap (λ (z : List Lane). later_lanes v.lanes ++ z) theirs) i }

  -- a pass that has read a note
  pub noted : (v w : View O) → w.lanes ≡ [] → joined_view v w ≡ with_seen v (max v.front w.front)
  noted v w bare_lanes = λ i. record (with_seen v (max v.front w.front)) { lanes = (ap (λ (z : List Lane). v.lanes ++ z) bare_lanes ∙ append-nil v.lanes) i }

module _ {O : Type 0} (R : Rule O) (k : Limits) where
  behind_bare : (l : Limits) (n : ℕ) (ls : List Lane) → first_calls ls ≡ [] → All (λ (x : Lane). All (λ (c : Call). c.place < 0) x.calls) (later_lanes ls) → IsBehind (known_of (bare R l ls n))
  behind_bare l n ls unmade rest = let P : Lane → Type 0 = λ x. All (λ (c : Call). c.place < 0) x.calls in
      All-cons P (lane n (first_calls ls)) (later_lanes ls) (subst (λ (z : List Call). All (λ (c : Call). c.place < 0) z) (sym unmade) (All-nil (λ (c : Call). c.place < 0))) rest

  behind_dealt : (l : Limits) (from n : ℕ) → IsBehind (known_of (dealt R l from n))
  behind_dealt l from n = behind_bare l 0 (numbered from n) (calls_numbered from n)
      (subst (All (λ (x : Lane). All (λ (c : Call). c.place < 0) x.calls)) (sym (later_numbered from n)) (behind_numbered (from + 1) (n - 1) 0))

  pub opens : (words : List ℕ) → length words ≡ k.words → Begins R k words → Holds R k (opening words [] (dealer R k))
  opens words size b =
      let v : View O = dealer R k in
      let high = b.seats.1 in
      let zero_at : (n : ℕ) → IsSeat k.seats n → get_or words n 0 ≡ 0 = λ n seat. let low = seat.0 in let top = seat.1 in b.zeros n (omega arith, omega arith) in
      let all_lanes : (f : View O → ℕ) → sum_by f (v ∷ []) ≡ f v = λ f. let c = sum_by-cons f v [] in omega arith in
      record {
        history = [];
        legal = record { seated = All-nil (λ (x : Mark). IsSeat k.seats x.seat); steps = tt };
        counted = b.empty;
        few = b.seats.1;
        few_calls = λ n. omega arith;
        long = size;
        letters = b.letters;
        width = b.width;
        once = λ n. all_lanes (λ (u : View O). lanes_of n u.lanes);
        lanes = all_lanes (λ (u : View O). length u.lanes) ∙ length-numbered 1 k.seats;
        each = λ j u to. ⊎_elim
            (λ e. subst (λ (z : View O). Fits R k [] words (empty_post R.idle 0 ∷ []) z) e
            (record {
              limits = λ x h. refl;
              front = omega arith;
              behind = behind_dealt k 1 k.seats;
              ranged = λ x h. let r = numbered_range 1 k.seats x h in let low = r.0 in let top = r.1 in (omega arith, omega arith);
              calls = λ x h. let r = numbered_range 1 k.seats x h in let low = r.0 in let top = r.1 in let z = zero_at x.number (omega arith, omega arith) in
                  let c = sum_by-cons (λ (p : Post O). owed_count x.number p.owed) (empty_post R.idle 0) [] in
                  inl (record { all = sym r.2; none = omega arith });
              first = λ ne. absurd (ne refl);
              empty = λ e. refl;
              owes = λ x h. absurd (not_in x h);
              room = λ x e. absurd (cc);
              held = λ i h. absurd (not_in i h);
            }))
            (λ t. absurd t)
            (first_or j u to);
        holder = λ i is ne. absurd (ne (b.unlocked i is));
        tied = b.tied;
      }
    where
      first_or : (j : ℕ) (u : View O) → get_elem? (dealer R k ∷ []) j ≡ some u → (dealer R k ≡ u) ⊎ ⊥
      first_or zero u e = inl (some-injective (dealer R k) u e)
      first_or (suc j) u e = inr (some-ne-none u (sym e))

  -- a post more that owes nothing
  letters-push : (n : ℕ) (ws : List ℕ) (ps : List (Post O)) (m : ℕ) → (letter_count n ws (ps ++ empty_post R.idle m ∷ []) ≡ letter_count n ws ps) × (letter_sum n ws (ps ++ empty_post R.idle m ∷ []) ≡ letter_sum n ws ps)
  letters-push n ws ps m =
      let a = sum_by_push (λ (p : Post O). owed_count n p.owed) ps (empty_post R.idle m) in
      let b = sum_by_push (λ (p : Post O). owed_sum n p.owed) ps (empty_post R.idle m) in
      (omega arith, omega arith)

  -- who has nothing in its hands holds no lock
  unlocked : (v : View O) (i : ℕ) → IsAtRest R v.post → Contains v.post.locks i → ⊥
  unlocked v i rest has = not_in i (subst (λ (p : Post O). Contains p.locks i) rest.bare has)

  -- a seat comes that has these lanes of another's, and holds nothing; the other goes on with these
  module _ (s : Table O) (h : Holds R k s) (laws : Lawful R) (id : ℕ) (v l r : View O) (n : ℕ) (to : Stands R s id v) (is : r.post ≡ empty_post R.idle n) (kept : l.post ≡ v.post)
      (lanes_same : (m : ℕ) → lanes_of m l.lanes + lanes_of m r.lanes ≡ lanes_of m v.lanes) (length_same : length l.lanes + length r.lanes ≡ length v.lanes)
      (free : 0 < n → letter_count n s.words (map post_of s.views) ≡ 0) (fresh_number : 0 < n → (j : ℕ) (u : View O) → Stands R s j u → u.post.number ≢ n)
      (left_fits : Fits R k h.history s.words (map post_of s.views) l) (right_fits : Fits R k h.history s.words (map post_of s.views) r) where
    abbrev ps : List (Post O)
    ps = map post_of s.views

    abbrev ps' : List (Post O)
    ps' = ps ++ empty_post R.idle n ∷ []

    posts : map post_of (set s.views id l ++ r ∷ []) ≡ ps'
    posts = map-append post_of (set s.views id l) (r ∷ []) ∙ (λ i. (map-set post_of s.views id l ∙ (ap (λ (p : Post O). set ps id p) kept ∙ set_again ps id v.post (at_map post_of s.views id v to))) i ++ is i ∷ [])

    moved : (u : View O) → Fits R k h.history s.words ps u → Fits R k h.history s.words ps' u
    moved u g = fits_on R k h.history s.words s.words ps ps' u g (λ m seat. letters-push m s.words ps n) (λ i has. refl)

    pub comes : Holds R k record { words = s.words; homes = s.homes; views = set s.views id l ++ r ∷ [] }
    comes = record {
      history = h.history;
      legal = h.legal;
      counted = h.counted;
      few = h.few;
      few_calls = h.few_calls;
      long = h.long;
      letters = h.letters;
      width = h.width;
      once = λ m. let a = sum_by_push (λ (u : View O). lanes_of m u.lanes) (set s.views id l) r in let b = sum_set (λ (u : View O). lanes_of m u.lanes) s.views id v l to in let c = h.once m in let d = lanes_same m in omega arith;
      lanes = let a = sum_by_push (λ (u : View O). length u.lanes) (set s.views id l) r in let b = sum_set (λ (u : View O). length u.lanes) s.views id v l to in let c = h.lanes in omega arith;
      each = λ j u at_j. subst (λ (z : List (Post O)). Fits R k h.history s.words z u) (sym posts)
          (⊎_elim
          (λ t. ⊎_elim
          (λ e. subst (λ (z : View O). Fits R k h.history s.words ps' z) e.1 (moved l left_fits))
          (λ q. moved u (h.each j u q.1))
          (at_set s.views id j l u t))
          (λ e. subst (λ (z : View O). Fits R k h.history s.words ps' z) e (moved r right_fits))
          (at_snoc (set s.views id l) r u j at_j));
      holder = λ i lock ne. let q = h.holder i lock ne in dite (ℕ_discrete q.0 id)
          (λ e. let same : q.1 ≡ v = same_at s.views id q.1 v (subst (λ (z : ℕ). get_elem? s.views z ≡ some q.1) e q.2) to in
          (id, l, at_longer (set s.views id l) (r ∷ []) id l (put_here s.views id v l to), subst (λ (p : Post O). Contains p.locks i) (ap post_of same ∙ sym kept) q.3))
          (λ d. (q.0, q.1, at_longer (set s.views id l) (r ∷ []) q.0 q.1 (set_else s.views id q.0 l d ∙ q.2), q.3));
      tied = subst (λ (z : List (Post O)). R.ties k s.words z (left h.history)) (sym posts) (laws.admits k s h n free fresh_number);
    }

  -- the first number of the dealer's goes to a new pass
  pub deals : (id at n : ℕ) → Lawful R → Splits (Holds R k) id (dealt R k at (suc n)) (deal_left (dealt R k at (suc n))) (deal_right R (dealt R k at (suc n)))
  deals id at n laws s h to =
      let v : View O = dealt R k at (suc n) in
      let head : Lane = lane at [] in
      let l : View O = dealt R k (at + 1) n in
      let r : View O = newcomer R k at in
      let ps = map post_of s.views in
      let f = h.each id v to in
      let mine : Contains v.lanes head = in_first head (numbered (at + 1) n) in
      let rest : (x : Lane) → Contains l.lanes x → Contains v.lanes x = λ x has. in_later head x (numbered (at + 1) n) has in
      let only : (x : Lane) → Contains r.lanes x → Contains v.lanes x = λ x has. ⊎_elim (λ e. subst (λ (z : Lane). Contains v.lanes z) e mine) (λ t. absurd (not_in x t)) (in_cases head x [] has) in
      let left_fits : Fits R k h.history s.words ps l = record {
        limits = λ x hx. f.limits x (rest x hx);
        front = f.front;
        behind = behind_dealt k (at + 1) n;
        ranged = λ x hx. f.ranged x (rest x hx);
        calls = λ x hx. f.calls x (rest x hx);
        first = λ ne. absurd (ne refl);
        empty = λ e. refl;
        owes = λ x hx. absurd (not_in x hx);
        room = λ x e. absurd (cc);
        held = λ i hi. absurd (not_in i hi);
      } in
      let right_fits : Fits R k h.history s.words ps r = record {
        limits = λ x hx. f.limits x (only x hx);
        front = f.front;
        behind = IsBehind-fresh at;
        ranged = λ x hx. f.ranged x (only x hx);
        calls = λ x hx. quietly 0 0 at 0 None None x (calls_of x.number h.history) _ _ (f.calls x (only x hx)) refl;
        first = λ ne. ([], [], refl);
        empty = λ e. let low = (f.ranged head mine).0 in absurd (omega arith);
        owes = λ x hx. absurd (not_in x hx);
        room = λ x e. absurd (cc);
        held = λ i hi. absurd (not_in i hi);
      } in
      let one : (m : ℕ) → lanes_of m l.lanes + lanes_of m r.lanes ≡ lanes_of m v.lanes = λ m. let a = lanes_of-cons m head [] in let b = lanes_of-cons m head (numbered (at + 1) n) in omega arith in
      comes s h laws id v l r at to refl refl one (omega arith)
      (λ low. (settled 0 0 None head (calls_of at h.history) _ _ (f.calls head mine) refl).1)
      (λ low j u to_j e. let g = (h.each j u to_j).first (λ z. let bad : at ≡ 0 = sym e ∙ z in omega arith) in
      let same = apart R k s h id j v u head (lane u.post.number g.0) to to_j mine (own_lane R k u g) (sym e) in
      let is : u ≡ v = same_at s.views id u v (subst (λ (z : ℕ). get_elem? s.views z ≡ some u) same to_j) to in
      let zero_number : 0 ≡ at = sym (ap (λ (z : View O). z.post.number) is) ∙ e in omega arith)
      left_fits right_fits

  -- a note that knows the front
  pub notes : (id : ℕ) (v : View O) → Lawful R → Splits (Holds R k) id v v (note_of R v)
  notes id v laws s h to =
      let r : View O = note_of R v in
      let f = h.each id v to in
      comes s h laws id v v r 0 to refl refl (λ m. omega arith) (omega arith) (λ z. absurd (omega arith)) (λ z. absurd (omega arith)) f
      (record {
        limits = λ x hx. absurd (not_in x hx);
        front = f.front;
        behind = All-cons (λ (x : Lane). All (λ (c : Call). c.place < v.front) x.calls) (lane 0 []) [] (All-nil (λ (c : Call). c.place < v.front)) (All-nil (λ (x : Lane). All (λ (c : Call). c.place < v.front) x.calls));
        ranged = λ x hx. absurd (not_in x hx);
        calls = λ x hx. absurd (not_in x hx);
        first = λ ne. absurd (ne refl);
        empty = λ e. refl;
        owes = λ x hx. absurd (not_in x hx);
        room = λ x e. absurd (cc);
        held = λ i hi. absurd (not_in i hi);
      })

  -- what is behind two fronts is behind the greater, where the other is a pass or a note
  behind_both : (v w : View O) → HasFirst v.post.number v.lanes → (w.lanes ≡ []) ⊎ HasFirst w.post.number w.lanes → IsBehind (known_of v) → IsBehind (known_of w) → IsBehind (known_of (joined_view v w))
  behind_both v w f g b c = ⊎_elim
      (λ e. subst (λ (z : View O). IsBehind (known_of z)) (sym (noted v w e)) (IsBehind-front (known_of v) (max v.front w.front) (omega arith) b))
      (λ t. subst IsBehind (sym (known_joined v w f t)) (IsBehind-joined (known_of v) (known_of w) b c))
      g

  -- a pass takes in another that is at rest, or a note
  pub joins : (id other : ℕ) (v w : View O) → Lawful R → v.post.number ≢ 0 → v.post.flight ≡ None → IsAtRest R w.post → (w.lanes ≡ []) ⊎ HasFirst w.post.number w.lanes
      → Joins (Holds R k) id v other w (joined_view v w) (spent R)
  joins id other v w laws seated quiet rest theirs s h at apart_is to' =
      let b : View O = joined_view v w in
      let none_left : View O = spent R in
      let to : Stands R s other w = sym (set_else s.views id other b apart_is) ∙ to' in
      let ps = map post_of s.views in
      let ps' : List (Post O) = set ps other (empty_post R.idle 0) in
      let plain : Post O = empty_post w.post.own w.post.number in
      let pto : get_elem? ps other ≡ some plain = at_map post_of s.views other w to ∙ ap some rest.bare in
      let posts : map post_of (set (set s.views id b) other none_left) ≡ ps' = map-set post_of (set s.views id b) other none_left ∙
      ap (λ (z : List (Post O)). set z other (empty_post R.idle 0)) (map-set post_of s.views id b ∙ set_again ps id v.post (at_map post_of s.views id v at)) in
      let fv = h.each id v at in
      let fw = h.each other w to in
      let letters : AreKept k.seats s.words ps s.words ps' = λ m seat.
      let x = sum_kept (λ (p : Post O). owed_count m p.owed) ps other plain (empty_post R.idle 0) pto refl in
      let y = sum_kept (λ (p : Post O). owed_sum m p.owed) ps other plain (empty_post R.idle 0) pto refl in
      (omega arith, omega arith) in
      let mine = fv.first seated in
      let quiet' : w.post.flight ≡ None = ap (λ (p : Post O). p.flight) rest.bare in
      let account : (u : View O) (x : Lane) → Fits R k h.history s.words ps u → Contains u.lanes x → IsAccounted u.post.number u.post.flight u.front x (calls_of x.number h.history) (letter_count x.number s.words ps') (letter_sum x.number s.words ps') =
      λ u x g has. let e = letters x.number (g.ranged x has) in recount u.post.number u.front u.post.flight x (calls_of x.number h.history) _ _ _ _ e.0 e.1 (g.calls x has) in
      record {
        history = h.history;
        legal = h.legal;
        counted = h.counted;
        few = h.few;
        few_calls = h.few_calls;
        long = h.long;
        letters = h.letters;
        width = h.width;
        once = λ m. let x = sum_set (λ (u : View O). lanes_of m u.lanes) s.views id v b at in let y = sum_set (λ (u : View O). lanes_of m u.lanes) (set s.views id b) other w none_left to' in let z = sum_by-append (λ (l : Lane). cond (eqb l.number m) 1 0) v.lanes w.lanes in let c = h.once m in omega arith;
        lanes = let x = sum_set (λ (u : View O). length u.lanes) s.views id v b at in let y = sum_set (λ (u : View O). length u.lanes) (set s.views id b) other w none_left to' in let z = length-append v.lanes w.lanes in let c = h.lanes in omega arith;
        each = λ j u at_j. subst (λ (z : List (Post O)). Fits R k h.history s.words z u) (sym posts)
            (⊎_elim
            (λ e. subst (λ (z : View O). Fits R k h.history s.words ps' z) e.1
            (record {
              limits = λ x hx. absurd (not_in x hx);
              front = omega arith;
              behind = behind_bare (record { capacity = 0; seats = 0; words = 0 }) 0 [] refl (All-nil (λ (x : Lane). All (λ (c : Call). c.place < 0) x.calls));
              ranged = λ x hx. absurd (not_in x hx);
              calls = λ x hx. absurd (not_in x hx);
              first = λ ne. absurd (ne refl);
              empty = λ z. refl;
              owes = λ x hx. absurd (not_in x hx);
              room = λ x z. absurd (cc);
              held = λ i hi. absurd (not_in i hi);
            }))
            (λ t. ⊎_elim
            (λ e. subst (λ (z : View O). Fits R k h.history s.words ps' z) e.1
            (record {
              limits = λ x hx. fv.limits (lane v.post.number mine.0) (own_lane R k v mine);
              front = let x = fv.front in let y = fw.front in omega arith;
              behind = behind_both v w mine theirs fv.behind fw.behind;
              ranged = λ x hx. ⊎_elim (λ z. fv.ranged x z) (λ z. fw.ranged x z) (Contains-append_cases v.lanes w.lanes x hx);
              calls = λ x hx. ⊎_elim
                  (λ z. quietly v.post.number v.front v.post.number b.front v.post.flight v.post.flight x (calls_of x.number h.history) _ _ (account v x fv z) quiet)
                  (λ z. quietly w.post.number w.front v.post.number b.front w.post.flight v.post.flight x (calls_of x.number h.history) _ _ (account w x fw z) quiet')
                  (Contains-append_cases v.lanes w.lanes x hx);
              first = λ ne. (mine.0, mine.1 ++ w.lanes, ap (λ (z : List Lane). z ++ w.lanes) mine.2);
              empty = λ z. absurd (seated z);
              owes = fv.owes;
              room = λ x e. absurd (cc);
              held = fv.held;
            }))
            (λ q. fits_on R k h.history s.words s.words ps ps' u (h.each j u q.1) letters (λ i has. refl))
            (at_set s.views id j b u t.1))
            (at_set (set s.views id b) other j none_left u at_j));
        holder = λ i is ne. let q = h.holder i is ne in dite (ℕ_discrete q.0 other)
            (λ e. let same : q.1 ≡ w = same_at s.views other q.1 w (subst (λ (z : ℕ). get_elem? s.views z ≡ some q.1) e q.2) to in
            absurd (unlocked w i rest (subst (λ (u : View O). Contains u.post.locks i) same q.3)))
            (λ d. dite (ℕ_discrete q.0 id)
            (λ e. let same : q.1 ≡ v = same_at s.views id q.1 v (subst (λ (z : ℕ). get_elem? s.views z ≡ some q.1) e q.2) at in
            (id, b, set_else (set s.views id b) other id none_left (λ z. apart_is (sym z)) ∙ put_here s.views id v b at, subst (λ (u : View O). Contains u.post.locks i) same q.3))
            (λ d'. (q.0, q.1, set_else (set s.views id b) other q.0 none_left d ∙ (set_else s.views id q.0 b d' ∙ q.2), q.3)));
        tied = subst (λ (z : List (Post O)). R.ties k s.words z (left h.history)) (sym posts) (laws.spends k s h other w to rest);
      }

  -- a pass that has all lanes is alone
  pub ends : (words : List ℕ) (xs : List (Unit {0})) (id : ℕ) (v : View O) → k.seats ≤ length v.lanes → IsAtRest R v.post → v.post.number ≢ 0
      → Final (Seen (Holds R k) id v) words xs → Ended R k v words
  ends words xs id v all rest seated f =
      let s = f.0 in let h = f.1.0 in let at = f.1.1 in
      let ps = map post_of s.views in
      let fv = h.each id v at in
      let quiet : v.post.flight ≡ None = ap (λ (p : Post O). p.flight) rest.bare in
      let mine = fv.first seated in
      -- no other view has a lane, and so none has a number
      let bare_other : (j : ℕ) (u : View O) → j ≢ id → Stands R s j u → ¬ (u.post.number ≢ 0) = λ j u d to ne.
      let r = (h.each j u to).first ne in let t = sum_two (λ (w : View O). length w.lanes) s.views id j v u at to d in let sum = h.lanes in
      let one : length u.lanes ≡ suc (length r.1) = ap (λ (l : List Lane). length l) r.2 in absurd (omega arith) in
      let lane_there : (n : ℕ) → IsSeat k.seats n → (y : Lane) × Contains v.lanes y × (y.number ≡ n) = λ n seat.
      let low = seat.0 in let high = seat.1 in
      let a = numbered_in n 1 k.seats low (omega arith) in let once = h.once n in
      let r = sum_some (λ (u : View O). lanes_of n u.lanes) s.views (omega arith) in
      let q = lane_of n r.1.lanes r.3 in
      dite (ℕ_discrete r.0 id)
      (λ e. let same : r.1 ≡ v = same_at s.views id r.1 v (subst (λ (z : ℕ). get_elem? s.views z ≡ some r.1) e r.2) at in (q.0, subst (λ (u : View O). Contains u.lanes q.0) same q.1, q.2))
      (λ d. let t = sum_two (λ (u : View O). length u.lanes) s.views id r.0 v r.1 at r.2 d in let sum = h.lanes in let one = has_length q.0 r.1.lanes q.1 in absurd (omega arith)) in
      let known : lanes (known_of v) ≡ v.lanes = lanes_known v.post.number v.lanes mine in
      let all_mine : (n : ℕ) → IsSeat k.seats n → Contains (numbers (known_of v)) n = λ n seat. let t = lane_there n seat in
      subst (λ (z : ℕ). Contains (numbers (known_of v)) z) t.2 (number_there (lanes (known_of v)) t.0 (subst (λ (z : List Lane). Contains z t.0) (sym known) t.1)) in
      let w = witnessed R k s h id v at quiet seated in
      subst (Ended R k v) f.2 (record {
        history = h.history;
        actual = record {
          holds = w.holds;
          own = All-weaker (λ (x : Mark). IsSeat k.seats x.seat) (λ (x : Mark). Contains (numbers (known_of v)) x.seat) (λ x seat. all_mine x.seat seat) h.history h.legal.seated;
        };
        legal = h.legal;
        short = few_marks R k s h;
        counted = h.counted;
        unlocked = λ i is. dite (ℕ_discrete (get_or s.words i 0) 0) (λ e. e) (λ ne. let q = h.holder i is ne in dite (ℕ_discrete q.0 id)
            (λ e. let same : q.1 ≡ v = same_at s.views id q.1 v (subst (λ (z : ℕ). get_elem? s.views z ≡ some q.1) e q.2) at in
            absurd (unlocked v i rest (subst (λ (u : View O). Contains u.post.locks i) same q.3)))
            (λ d. absurd (bare_other q.0 q.1 d q.2 ((h.each q.0 q.1 q.2).held i q.3).2)));
        unwritten = λ n seat. let t = lane_there n seat in let none_there = (settled v.post.number v.front v.post.flight t.0 (calls_of t.0.number h.history) _ _ (fv.calls t.0 t.1) quiet).1 in
            subst (λ (z : ℕ). get_or s.words z 0 ≡ 0) t.2 (omega arith);
        posts = ps;
        others = λ j p to. let q = at_unmap post_of s.views j p to in dite (ℕ_discrete j id)
            (λ e. inl (sym q.2 ∙ ap post_of (same_at s.views id q.0 v (subst (λ (z : ℕ). get_elem? s.views z ≡ some q.0) e q.1) at)))
            (λ d. dite (ℕ_discrete q.0.post.number 0)
            (λ e. inr (sym q.2 ∙ (h.each j q.0 q.1).empty e))
            (λ ne. absurd (bare_other j q.0 d q.1 ne)));
        tied = h.tied;
      })
