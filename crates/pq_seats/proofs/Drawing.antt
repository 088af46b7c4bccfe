-- A step on the history word that places the seat's own call, and inserts of others, keeps the rule.
use Rattle.std.proofs.Common.{◌≡◌, ◌≢◌, ◌⊎◌, None, ℕ, ◌+◌, ◌-◌, ◌%◌, ◌^◌, ◌<◌, ◌≤◌, true, List, [], ◌∷◌, ◌++◌, map, length, get_or, set, min, sym, refl, ap, ◌∙◌, subst, inl, inr, ⊎_elim, arith, length-set, get_or-set_same, get_or-set_other, length-append, All, Contains}
use Rattle.std.proofs.lemmas.List.{append-nil, length-map}
use Rattle.std.proofs.lemmas.List.Elements.{All-append, All-cons, All-map, Contains-append_cases}
use mathlib.Core.Option.{none}
use lib.Seq.{map-set}
use native.Mathlib.Decide.{ℕ_discrete}
use mathlib.Core.Logic.{dite}
use Rattle.atomic_table.specs.Table.{Me, step, keeps, stepped, Allows}
use Rattle.atomic_table.proofs.Lists.{at_set, at_map}
use Rattle.pq_words.specs.declared.entries.Entry.{Entry}
use Rattle.pq_model.specs.declared.marks.Act.{Act}
use Rattle.pq_model.specs.declared.marks.Act.TheVariants.{Insert}
use Rattle.pq_model.specs.declared.marks.Reply.TheVariants.{Done}
use Rattle.pq_model.specs.declared.marks.Mark.{Mark}
use Rattle.pq_model.specs.declared.passes.Call.{Call}
use Rattle.pq_model.specs.declared.passes.Lane.{Lane}
use Rattle.pq_model.specs.History.{mark, IsSeat, left}
use Rattle.pq_model.specs.Passes.{call, lane, calls_from, calls_of}
use Rattle.pq_model.proofs.Lanes.{calls_of-append}
use Rattle.pq_model.proofs.Replays.{IsLegal-append, left-append}
use Rattle.pq_api.specs.Limits.{call_limit}
use Rattle.pq_seats.specs.declared.views.Limits.{Limits}
use Rattle.pq_seats.specs.declared.views.Post.{Post}
use Rattle.pq_seats.specs.declared.views.View.{View}
use Rattle.pq_seats.specs.Views.{HasFirst, first_calls, add_call, lanes_of, known_of, post_of}
use Rattle.pq_seats.specs.Letters.{owed_count, owed_sum, letter_count, letter_sum}
use Rattle.pq_seats.specs.Batches.{Batch, insert_of, marks_of, own_place, letters_of, letters_from}
use Rattle.pq_seats.specs.Posts.{placed_view}
use Rattle.pq_seats.specs.Rules.{Table, Rule, Lawful, Holds, Fits, IsAccounted, Stands}
use Rattle.pq_seats.specs.Allowed.{helps, Waits, Places, MayDraw}
use Rattle.pq_seats.specs.Steps.{batch_of, drawn_view, draws}
use Rattle.pq_seats.proofs.Lists.{test_same, sum_set, sum_kept, put_here, all_in, lanes_of-add_call, length-add_call}
use Rattle.pq_seats.proofs.Marks.{owed_count-append, owed_sum-append, batch_none, batch_mine, batch_one, new-count}
use Rattle.pq_seats.proofs.Lengths.{short}
use Rattle.pq_seats.proofs.Keeps.{apart, own_lane, other_lane, number_in, holder_keep, not_mine, unlettered, recount, informs}
use Rattle.pq_seats.proofs.Waiting.{no_sum, letter_in, known_made, behind_made, made_cases, later_in, waiter_lane, waiter_in, waiter_room}

module _ {O : Type 0} (R : Rule O) (k : Limits) (s : Table O) (h : Holds R k s) (id : ℕ) (v : View O) (at : Stands R s id v) (act : Act) (b : Batch) (own : O) (new : ℕ) (d : Places R k id v act b own new s h) (laws : Lawful R) (seated : v.post.number ≢ 0) where
  abbrev ps : List (Post O)
  ps = map post_of s.views

  abbrev x : ℕ
  x = length h.history

  abbrev me : ℕ
  me = v.post.number

  abbrev mine : Call
  mine = call (own_place x b) act b.reply

  abbrev w : View O
  w = placed_view v act b own x

  abbrev ws' : List ℕ
  ws' = set s.words 0 new

  abbrev ps' : List (Post O)
  ps' = set ps id w.post

  abbrev ms : List Mark
  ms = marks_of me act b

  abbrev history' : List Mark
  history' = h.history ++ ms

  pub long : length ms ≡ length b.before + (length b.after + 1)
  long = let f = length-map b.before insert_of in let g = length-map b.after insert_of in
      let l = length-append (map insert_of b.before) (mark me act b.reply ∷ map insert_of b.after) in omega arith

  helper : (y : ℕ × Entry) → Contains b.before y ⊎ Contains b.after y → Waits s y.0 y.1
  helper y has = d.waiting y has

  -- the number's letters are those there were, and the new ones
  more_letters : (m : ℕ) → 1 ≤ m → (letter_count m ws' ps' ≡ letter_count m s.words ps + (helps m b.before + helps m b.after))
      × (letter_sum m ws' ps' ≡ letter_sum m s.words ps + owed_sum m (letters_from x b))
  more_letters m low =
      let word : get_or ws' m 0 ≡ get_or s.words m 0 = get_or-set_other s.words 0 m new 0 (λ e. omega arith) in
      let pat = at_map post_of s.views id v at in
      let c = sum_set (λ (p : Post O). owed_count m p.owed) ps id v.post w.post pat in
      let e = owed_count-append m v.post.owed (letters_from x b) in
      let f = new-count m x me act b in
      let g = sum_set (λ (p : Post O). owed_sum m p.owed) ps id v.post w.post pat in
      let i = owed_sum-append m v.post.owed (letters_from x b) in
      let m1 : min (get_or ws' m 0) 1 ≡ min (get_or s.words m 0) 1 = ap (λ (z : ℕ). min z 1) word in
      (omega (arith, c, e, f, m1), omega (arith, g, i, word))

  more_calls : (m : ℕ) → calls_of m history' ≡ calls_of m h.history ++ calls_from m x ms
  more_calls m = calls_of-append m h.history ms

  -- what is kept under another number than the drawer's fits
  others : (j : ℕ) (u : View O) (y : Lane) → Stands R s j u → Contains u.lanes y → y.number ≢ me
      → IsAccounted u.post.number u.post.flight u.front y (calls_of y.number history') (letter_count y.number ws' ps') (letter_sum y.number ws' ps')
  others j u y to hy ne =
      let m = y.number in
      let n = u.post.number in
      let o = u.post.flight in
      let f = h.each j u to in
      let old = f.calls y hy in
      let l = more_letters m (f.ranged y hy).0 in
      let most = d.apart m in
      dite (ℕ_discrete (helps m b.before + helps m b.after) 0)
      (λ none_helps.
      let r = batch_none m x me act b none_helps (λ e. ne (sym e)) in
      let made : calls_of m history' ≡ calls_of m h.history = more_calls m ∙ (ap (λ (z : List Call). calls_of m h.history ++ z) r.0 ∙ append-nil (calls_of m h.history)) in
      let c : letter_count m ws' ps' ≡ letter_count m s.words ps = omega (arith, l.0) in
      let g : letter_sum m ws' ps' ≡ letter_sum m s.words ps = omega (arith, l.1, r.1) in
      subst (λ (z : List Call). IsAccounted n o u.front y z (letter_count m ws' ps') (letter_sum m ws' ps')) (sym made)
      (recount n u.front o y (calls_of m h.history) _ _ _ _ c g old))
      (λ some_helps.
      let one : helps m b.before + helps m b.after ≡ 1 = omega (arith, most) in
      let r = batch_one m x me act b one (λ e. ne (sym e)) in
      let t = helper (m, r.0.entry) r.1 in
      let a = waiter_lane R k s h m r.0.entry t j u y to hy refl in
      let none_yet = t.unwritten in
      let front = f.front in
      let late = r.0.late in
      let letter = r.0.letter in
      let kept : calls_of m h.history ≡ y.calls = unlettered n u.front o y (calls_of m h.history) _ _ old none_yet in
      let made : calls_of m history' ≡ y.calls ++ call r.0.place (Insert r.0.entry) Done ∷ [] = more_calls m ∙ (λ i. kept i ++ r.0.calls i) in
      let no_word : get_or s.words m 0 ≡ 0 = omega arith in
      let no_owed = no_sum m ps (omega arith) in
      let heavy : letter_sum m ws' ps' ≡ r.0.place + 1 = omega (arith, l.1) in
      inr (inr (record { place = r.0.place; entry = r.0.entry; all = made; one = omega (arith, l.0); letter = heavy; own = a.0; waits = a.1; late = omega arith })))

  first : HasFirst me v.lanes
  first = (h.each id v at).first seated

  range : IsSeat k.seats me
  range = number_in R k s h id v at seated

  no_help : helps me b.before + helps me b.after ≡ 0
  no_help = let a = d.apart me in let e = test_same me me 1 0 refl in omega arith

  -- all calls of the drawer are kept, and the new one is
  mine_made : calls_of me history' ≡ first.0 ++ mine ∷ []
  mine_made = let old = (h.each id v at).calls (lane me first.0) (own_lane R k v first) in
      let kept : calls_of me h.history ≡ first.0 = unlettered me v.front v.post.flight (lane me first.0) (calls_of me h.history) _ _ old d.free in
      more_calls me ∙ (λ i. kept i ++ (batch_mine me x me act b no_help refl).0 i)

  new_letter : (z : ℕ × ℕ) → Contains (letters_from x b) z → IsSeat k.seats z.0 × (0 < z.1)
  new_letter z has = ⊎_elim
      (λ t. let r = letter_in b.before x z t in (subst (λ (n : ℕ). IsSeat k.seats n) r.2 (waiter_in R k s h r.0.0 r.0.1 (helper r.0 (inl r.1))), r.3))
      (λ t. let r = letter_in b.after (own_place x b + 1) z t in (subst (λ (n : ℕ). IsSeat k.seats n) r.2 (waiter_in R k s h r.0.0 r.0.1 (helper r.0 (inr r.1))), r.3))
      (Contains-append_cases (letters_of x b.before) (letters_of (own_place x b + 1) b.after) z has)

  far : (l : ℕ) → R.locks k l ≡ true → get_or ws' l 0 ≡ get_or s.words l 0
  far l is = get_or-set_other s.words 0 l new 0 (λ e. let a = laws.apart k l is in omega arith)

  pub fits : Fits R k history' ws' ps' w
  fits = let f = h.each id v at in let many = long in let sum = length-append h.history ms in let front = f.front in
      record {
        limits = λ y has. f.limits (lane me first.0) (own_lane R k v first);
        front = omega arith;
        behind = behind_made v w mine first refl refl refl (omega arith) f.behind;
        ranged = λ y has. ⊎_elim
            (λ e. subst (λ (z : Lane). IsSeat k.seats z.number) e range)
            (λ t. f.ranged y (later_in me v.lanes first y t))
            (made_cases me v.lanes mine first y has);
        calls = λ y has. ⊎_elim
            (λ e. let l = more_letters me range.0 in let free = d.free in
            subst (λ (z : Lane). IsAccounted me None w.front z (calls_of z.number history') (letter_count z.number ws' ps') (letter_sum z.number ws' ps')) e
            (inl (record { all = mine_made; none = omega (arith, l.0, no_help) })))
            (λ t. let ne = other_lane R k s h id v first y at t in
            not_mine me v.front me w.front v.post.flight None y (calls_of y.number history') _ _ ne (others id v y at (later_in me v.lanes first y t) ne))
            (made_cases me v.lanes mine first y has);
        first = λ ne. (first.0 ++ mine ∷ [], first.1, ap (λ (z : List Lane). add_call z mine) first.2);
        empty = λ e. absurd (seated e);
        owes = λ z has. ⊎_elim (λ t. f.owes z t) (λ t. new_letter z t) (Contains-append_cases v.post.owed (letters_from x b) z has);
        room = λ z e. absurd (cc);
        held = λ i has. let r = f.held i has in (r.0, far i r.0 ∙ r.1, r.2);
      }

  few_after : length (known_of v).calls < call_limit - 1 → (m : ℕ) → length (calls_of m history') < call_limit
  few_after room m = let sum = length-append (calls_of m h.history) (calls_from m x ms) in let all_is = ap (λ (z : List Call). length z) (more_calls m) in dite (ℕ_discrete me m)
      (λ e. let made = ap (λ (z : List Call). length z) mine_made in let two = length-append first.0 (mine ∷ []) in
      let head : length (first_calls v.lanes) ≡ length first.0 = ap (λ (z : List Lane). length (first_calls z)) first.2 in
      subst (λ (z : ℕ). length (calls_of z history') < call_limit) e (omega arith))
      (λ ne. dite (ℕ_discrete (helps m b.before + helps m b.after) 0)
      (λ none_helps. let r = batch_none m x me act b none_helps ne in let none_more = ap (λ (z : List Call). length z) r.0 in omega (arith, h.few_calls m))
      (λ some_helps.
      let most = d.apart m in
      let r = batch_one m x me act b (omega arith) ne in
      let a = waiter_room R k s h m r.0.entry (helper (m, r.0.entry) r.1) in
      let one_more = ap (λ (z : List Call). length z) r.0.calls in
      omega arith))

  seated_marks : All (λ (y : Mark). IsSeat k.seats y.seat) ms
  seated_marks =
      let P : Mark → Type 0 = λ y. IsSeat k.seats y.seat in
      let Q : ℕ × Entry → Type 0 = λ y. IsSeat k.seats y.0 in
      All-append P (map insert_of b.before) (mark me act b.reply ∷ map insert_of b.after)
      (All-map P insert_of b.before (all_in Q b.before (λ y has. waiter_in R k s h y.0 y.1 (helper y (inl has)))))
      (All-cons P (mark me act b.reply) (map insert_of b.after) range
      (All-map P insert_of b.after (all_in Q b.after (λ y has. waiter_in R k s h y.0 y.1 (helper y (inr has))))))

  other_fits : (j : ℕ) (u : View O) → j ≢ id → Stands R s j u → Fits R k history' ws' ps' u
  other_fits j u ne to = let f = h.each j u to in let sum = length-append h.history ms in record {
    limits = f.limits;
    front = omega (arith, f.front, sum);
    behind = f.behind;
    ranged = f.ranged;
    calls = λ y has. others j u y to has (λ e. ne (apart R k s h id j v u (lane me first.0) y at to (own_lane R k v first) has (sym e)));
    first = f.first;
    empty = f.empty;
    owes = f.owes;
    room = f.room;
    held = λ i has. let r = f.held i has in (r.0, far i r.0 ∙ r.1, r.2);
  }

  -- where the word then tells as many marks more
  pub placed : R.length_of new ≡ length h.history + length ms → length (known_of v).calls < call_limit - 1 → Holds R k record { words = ws'; homes = s.homes; views = set s.views id w }
  placed longer room =
      let posts : map post_of (set s.views id w) ≡ ps' = map-set post_of s.views id w in
      let size = length-set s.words 0 new in
      record {
        history = history';
        legal = IsLegal-append k.seats k.capacity h.history ms h.legal seated_marks d.legal;
        counted = ap R.length_of (get_or-set_same s.words 0 new 0 (let l = h.letters in omega arith)) ∙ (longer ∙ sym (length-append h.history ms));
        few = h.few;
        few_calls = few_after room;
        long = size ∙ h.long;
        letters = let l = h.letters in omega arith;
        width = let l = h.width in omega arith;
        once = λ m. sum_kept (λ (u : View O). lanes_of m u.lanes) s.views id v w at (lanes_of-add_call m v.lanes mine) ∙ h.once m;
        lanes = sum_kept (λ (u : View O). length u.lanes) s.views id v w at (length-add_call v.lanes mine) ∙ h.lanes;
        each = λ j u to. subst (λ (z : List (Post O)). Fits R k history' ws' z u) (sym posts)
            (⊎_elim (λ t. subst (λ (z : View O). Fits R k history' ws' ps' z) t.1 fits) (λ t. other_fits j u t.0 t.1) (at_set s.views id j w u to));
        holder = λ l is ne. holder_keep R k s h id v w at (λ i has. has) l is (λ z. ne (far l is ∙ z));
        tied = subst (λ (z : List (Post O)). R.ties k ws' z (left history')) (sym posts) (subst (λ (z : List Entry). R.ties k ws' ps' z) (sym (left-append h.history ms)) d.tied);
      }

module _ {O : Type 0} (R : Rule O) (k : Limits) where
  pub drawn : (slots id : ℕ) (me : Me (Unit {0}) (View O)) (act : Act) (n : ℕ) → Lawful R → me.0.post.number ≢ 0 → n ≤ 3 → ((x : ℕ) → R.length_of x ≡ x)
      → length (known_of me.0).calls < call_limit - 1 → MayDraw R k id me.0 act n
      → Allows (Holds R k) slots id me 0 (λ x. (x + n) % 2 ^ 64) (λ x m'. draws R (step slots 0 n 0 none) me x m' act)
  drawn slots id me act n laws seated small plain room may s h sized at fits64 =
      let v = me.0 in
      let b : Batch = batch_of R v act n in
      let own : O = R.drawn v.limits v.post act n in
      let x : ℕ = get_or s.words 0 0 in
      let w : View O = drawn_view R v act n x in
      let counted : x ≡ length h.history = sym (plain x) ∙ h.counted in
      let few = short R k s h in
      let f = h.each id v at in
      let front = f.front in
      let d = may.1 s h at in
      let longer : R.length_of (x + n) ≡ length h.history + length (marks_of v.post.number act b) = plain (x + n) ∙ (let a = may.0 in omega arith) in
      let now : Holds R k record { words = set s.words 0 (x + n); homes = s.homes; views = set s.views id w } =
      subst (λ (z : ℕ). Holds R k record { words = set s.words 0 (x + n); homes = s.homes; views = set s.views id (drawn_view R v act n z) }) (sym counted)
      (placed R k s h id v at act b own (x + n) d laws seated longer room) in
      let same : (x + n) % 2 ^ 64 ≡ x + n = omega arith in (
        w,
        keeps,
        tt,
        subst (λ (z : ℕ). Holds R k (stepped s 0 z id me.1 w keeps)) (sym same) now,
        (
          record {
            small = omega arith;
            view = refl;
            call = (omega arith, known_made v w (call (own_place x b) act b.reply) (f.first seated) refl refl refl);
            knows = informs R k _ now id w (put_here s.views id v w at) refl seated;
          },
          refl,
        ),
      )
