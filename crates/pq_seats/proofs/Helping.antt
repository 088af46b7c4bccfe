-- A step on the history word that places inserts of others, and no call of the seat's own, keeps the rule.
use Rattle.std.proofs.Common.{◌≡◌, ◌≢◌, ℕ, ◌+◌, ◌<◌, ◌≤◌, true, List, [], ◌∷◌, ◌++◌, map, length, get_or, set, min, sym, refl, ap, ◌∙◌, subst, inr, ⊎_elim, arith, length-set, get_or-set_same, get_or-set_other, length-append, All, Contains}
use Rattle.std.proofs.lemmas.List.{append-nil, length-map}
use Rattle.std.proofs.lemmas.List.Elements.{All-map, Contains-append_cases}
use lib.Seq.{map-set}
use native.Mathlib.Decide.{ℕ_discrete}
use mathlib.Core.Logic.{dite}
use Rattle.atomic_table.proofs.Lists.{at_set, at_map}
use Rattle.pq_words.specs.declared.entries.Entry.{Entry}
use Rattle.pq_model.specs.declared.marks.Act.TheVariants.{Insert}
use Rattle.pq_model.specs.declared.marks.Reply.TheVariants.{Done}
use Rattle.pq_model.specs.declared.marks.Mark.{Mark}
use Rattle.pq_model.specs.declared.passes.Call.{Call}
use Rattle.pq_model.specs.declared.passes.Lane.{Lane}
use Rattle.pq_model.specs.History.{IsSeat, left}
use Rattle.pq_model.specs.Passes.{call, calls_from, calls_of}
use Rattle.pq_model.proofs.Lanes.{calls_of-append}
use Rattle.pq_model.proofs.Replays.{IsLegal-append, left-append}
use Rattle.pq_api.specs.Limits.{call_limit}
use Rattle.pq_seats.specs.declared.views.Limits.{Limits}
use Rattle.pq_seats.specs.declared.views.Post.{Post}
use Rattle.pq_seats.specs.declared.views.View.{View}
use Rattle.pq_seats.specs.Views.{lanes_of, post_of, with_post}
use Rattle.pq_seats.specs.Letters.{owed_count, owed_sum, letter_count, letter_sum}
use Rattle.pq_seats.specs.Batches.{insert_of, letters_of}
use Rattle.pq_seats.specs.Posts.{helped_post}
use Rattle.pq_seats.specs.Rules.{Table, Rule, Lawful, Holds, Fits, IsAccounted, Stands}
use Rattle.pq_seats.specs.Allowed.{helps, Helps}
use Rattle.pq_seats.specs.Laws.{stepped_to}
use Rattle.pq_seats.proofs.Lists.{sum_set, sum_kept, all_in}
use Rattle.pq_seats.proofs.Marks.{owed_count-append, owed_sum-append, letters-count, none_sum, help_none, help_one}
use Rattle.pq_seats.proofs.Keeps.{holder_keep, unlettered, recount}
use Rattle.pq_seats.proofs.Waiting.{no_sum, letter_in, waiter_lane, waiter_in, waiter_room}

module _ {O : Type 0} (R : Rule O) (k : Limits) (s : Table O) (h : Holds R k s) (laws : Lawful R) (id : ℕ) (v : View O) (at : Stands R s id v) (seated : v.post.number ≢ 0)
    (hs : List (ℕ × Entry)) (own : O) (new : ℕ) (d : Helps R k id v hs own new s h) where
  abbrev ps : List (Post O)
  ps = map post_of s.views

  abbrev x : ℕ
  x = length h.history

  abbrev w : View O
  w = with_post v (helped_post v.post hs own x)

  abbrev ws' : List ℕ
  ws' = set s.words 0 new

  abbrev ps' : List (Post O)
  ps' = set ps id w.post

  abbrev ms : List Mark
  ms = map insert_of hs

  abbrev history' : List Mark
  history' = h.history ++ ms

  more_letters : (m : ℕ) → 1 ≤ m → (letter_count m ws' ps' ≡ letter_count m s.words ps + helps m hs) × (letter_sum m ws' ps' ≡ letter_sum m s.words ps + owed_sum m (letters_of x hs))
  more_letters m low =
      let word : get_or ws' m 0 ≡ get_or s.words m 0 = get_or-set_other s.words 0 m new 0 (λ e. omega arith) in
      let pat = at_map post_of s.views id v at in
      let c = sum_set (λ (q : Post O). owed_count m q.owed) ps id v.post w.post pat in
      let e = owed_count-append m v.post.owed (letters_of x hs) in let f = letters-count m x hs in
      let g = sum_set (λ (q : Post O). owed_sum m q.owed) ps id v.post w.post pat in
      let i = owed_sum-append m v.post.owed (letters_of x hs) in
      let m1 : min (get_or ws' m 0) 1 ≡ min (get_or s.words m 0) 1 = ap (λ (z : ℕ). min z 1) word in
      (omega (arith, c, e, f, m1), omega (arith, g, i, word))

  more_calls : (m : ℕ) → calls_of m history' ≡ calls_of m h.history ++ calls_from m x ms
  more_calls m = calls_of-append m h.history ms

  all_calls : (j : ℕ) (u : View O) (y : Lane) → Stands R s j u → Contains u.lanes y
      → IsAccounted u.post.number u.post.flight u.front y (calls_of y.number history') (letter_count y.number ws' ps') (letter_sum y.number ws' ps')
  all_calls j u y to hy =
      let m = y.number in let n = u.post.number in let o = u.post.flight in
      let f = h.each j u to in let old = f.calls y hy in let l = more_letters m (f.ranged y hy).0 in let most = d.apart m in
      dite (ℕ_discrete (helps m hs) 0)
      (λ none_here.
      let made : calls_of m history' ≡ calls_of m h.history = more_calls m ∙ (ap (λ (z : List Call). calls_of m h.history ++ z) (help_none m x hs none_here) ∙ append-nil (calls_of m h.history)) in
      let no_more = none_sum m (letters_of x hs) (letters-count m x hs ∙ none_here) in
      let c : letter_count m ws' ps' ≡ letter_count m s.words ps = omega (arith, l.0) in
      let g : letter_sum m ws' ps' ≡ letter_sum m s.words ps = omega (arith, l.1) in
      subst (λ (z : List Call). IsAccounted n o u.front y z (letter_count m ws' ps') (letter_sum m ws' ps')) (sym made)
      (recount n u.front o y (calls_of m h.history) _ _ _ _ c g old))
      (λ some_here.
      let r = help_one m x hs (omega (arith, most)) in
      let t = d.waiting (m, r.0.entry) r.1 in
      let a = waiter_lane R k s h m r.0.entry t j u y to hy refl in
      let none_yet = t.unwritten in let front = f.front in let late = r.0.late in let letter = r.0.letter in
      let kept : calls_of m h.history ≡ y.calls = unlettered n u.front o y (calls_of m h.history) _ _ old none_yet in
      let made : calls_of m history' ≡ y.calls ++ call r.0.place (Insert r.0.entry) Done ∷ [] = more_calls m ∙ (λ i. kept i ++ r.0.calls i) in
      let no_word : get_or s.words m 0 ≡ 0 = omega arith in
      let no_owed = no_sum m ps (omega arith) in
      inr (inr (record { place = r.0.place; entry = r.0.entry; all = made; one = omega (arith, l.0); letter = omega (arith, l.1); own = a.0; waits = a.1; late = omega arith })))

  far : (l : ℕ) → R.locks k l ≡ true → get_or ws' l 0 ≡ get_or s.words l 0
  far l is = get_or-set_other s.words 0 l new 0 (λ e. let a = laws.apart k l is in omega arith)

  any_fits : (j : ℕ) (u : View O) → Stands R s j u → Fits R k history' ws' ps' u
  any_fits j u to = let f = h.each j u to in let sum = length-append h.history ms in record {
    limits = f.limits;
    front = omega (arith, f.front, sum);
    behind = f.behind;
    ranged = f.ranged;
    calls = λ y has. all_calls j u y to has;
    first = f.first;
    empty = f.empty;
    owes = f.owes;
    room = f.room;
    held = λ i has. let r = f.held i has in (r.0, far i r.0 ∙ r.1, r.2);
  }

  own_fits : Fits R k history' ws' ps' w
  own_fits = let f = any_fits id v at in record {
    limits = f.limits;
    front = f.front;
    behind = f.behind;
    ranged = f.ranged;
    calls = f.calls;
    first = f.first;
    empty = λ e. absurd (seated e);
    owes = λ y has. ⊎_elim
        (λ t. f.owes y t)
        (λ t. let r = letter_in hs x y t in (subst (λ (n : ℕ). IsSeat k.seats n) r.2 (waiter_in R k s h r.0.0 r.0.1 (d.waiting r.0 r.1)), r.3))
        (Contains-append_cases v.post.owed (letters_of x hs) y has);
    room = f.room;
    held = f.held;
  }

  few_after : (m : ℕ) → length (calls_of m history') < call_limit
  few_after m =
      let sum = length-append (calls_of m h.history) (calls_from m x ms) in let all_is = ap (λ (z : List Call). length z) (more_calls m) in
      dite (ℕ_discrete (helps m hs) 0)
      (λ none_here. let z = ap (λ (q : List Call). length q) (help_none m x hs none_here) in omega (arith, h.few_calls m))
      (λ some_here.
      let most = d.apart m in
      let r = help_one m x hs (omega arith) in
      let a = waiter_room R k s h m r.0.entry (d.waiting (m, r.0.entry) r.1) in
      let one_more = ap (λ (z : List Call). length z) r.0.calls in
      omega arith)

  seated_marks : All (λ (y : Mark). IsSeat k.seats y.seat) ms
  seated_marks = All-map (λ (y : Mark). IsSeat k.seats y.seat) insert_of hs (all_in (λ (y : ℕ × Entry). IsSeat k.seats y.0) hs (λ y has. waiter_in R k s h y.0 y.1 (d.waiting y has)))

  pub helped : Holds R k (stepped_to s 0 new id w)
  helped =
      let posts : map post_of (set s.views id w) ≡ ps' = map-set post_of s.views id w in let size = length-set s.words 0 new in record {
        history = history';
        legal = IsLegal-append k.seats k.capacity h.history ms h.legal seated_marks d.legal;
        counted = ap R.length_of (get_or-set_same s.words 0 new 0 (let l = h.letters in omega arith)) ∙ (d.longer ∙ (let a = length-append h.history ms in let b = length-map hs insert_of in omega arith));
        few = h.few;
        few_calls = few_after;
        long = size ∙ h.long;
        letters = let l = h.letters in omega arith;
        width = let l = h.width in omega arith;
        once = λ m. sum_kept (λ (u : View O). lanes_of m u.lanes) s.views id v w at refl ∙ h.once m;
        lanes = sum_kept (λ (u : View O). length u.lanes) s.views id v w at refl ∙ h.lanes;
        each = λ j u to. subst (λ (z : List (Post O)). Fits R k history' ws' z u) (sym posts)
            (⊎_elim (λ t. subst (λ (z : View O). Fits R k history' ws' ps' z) t.1 own_fits) (λ t. any_fits j u t.1) (at_set s.views id j w u to));
        holder = λ l is ne. holder_keep R k s h id v w at (λ i has. has) l is (λ z. ne (far l is ∙ z));
        tied = subst (λ (z : List (Post O)). R.ties k ws' z (left history')) (sym posts) (subst (λ (z : List Entry). R.ties k ws' ps' z) (sym (left-append h.history ms)) d.tied);
      }
