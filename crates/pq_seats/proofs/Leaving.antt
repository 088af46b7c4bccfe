-- Leaving and taking a letter keeps the rule.
use Rattle.std.proofs.Common.{◌≡◌, ◌≢◌, ◌⊎◌, Some, None, ℕ, ◌+◌, ◌^◌, ◌<◌, ◌≤◌, Bool, true, false, cond, eqb, List, [], ◌∷◌, ◌++◌, map, length, get_or, set, min, sym, refl, ap, ◌∙◌, subst, inl, inr, ⊎_elim, arith, length-set, get_or-set_same, get_or-set_other, Contains, sum_by}
use Rattle.std.proofs.lemmas.List.{set-get_or}
use Rattle.std.proofs.lemmas.List.Elements.{All-contains, Contains-push}
use Rattle.std.proofs.lemmas.Bool.Decides.{eqb_tells}
use mathlib.Core.Option.{none}
use lib.Seq.{map-set}
use native.Mathlib.Decide.{ℕ_discrete}
use mathlib.Core.Logic.{dite}
use Rattle.atomic_table.specs.Table.{Me, step, keeps, Allows}
use Rattle.atomic_table.proofs.Lists.{at_set, at_map, set_again}
use Rattle.pq_words.specs.declared.entries.Entry.{Entry}
use Rattle.pq_words.specs.declared.letters.Letter.{Letter}
use Rattle.pq_words.specs.declared.letters.Letter.TheVariants.{Nothing, At, Back}
use Rattle.pq_words.specs.Letters.{letter_number}
use Rattle.pq_model.specs.declared.marks.Act.TheVariants.{Insert}
use Rattle.pq_model.specs.declared.marks.Reply.TheVariants.{Done}
use Rattle.pq_model.specs.declared.marks.Mark.{Mark}
use Rattle.pq_model.specs.declared.passes.Call.{Call}
use Rattle.pq_model.specs.declared.passes.Lane.{Lane}
use Rattle.pq_model.specs.History.{IsSeat, left}
use Rattle.pq_model.specs.Passes.{call, lane, calls_of}
use Rattle.pq_model.proofs.Lanes.{calls_of-within}
use Rattle.pq_seats.specs.declared.views.Limits.{Limits}
use Rattle.pq_seats.specs.declared.views.Post.{Post}
use Rattle.pq_seats.specs.declared.views.View.{View}
use Rattle.pq_seats.specs.Views.{HasFirst, add_call, lanes_of, post_of, with_read}
use Rattle.pq_seats.specs.Letters.{back, owed_count, owed_sum, without, letter_count, letter_sum}
use Rattle.pq_seats.specs.Rules.{Table, Rule, Lawful, Holds, Fits, IsAccounted, Stands}
use Rattle.pq_seats.specs.Allowed.{MayLeave}
use Rattle.pq_seats.specs.Steps.{back_view, taken_view, left_view, leaves, takes}
use Rattle.pq_seats.proofs.Lists.{test_same, test_other, sum_set, sum_kept, sum_one, sum_some, put_here, not_in, in_first, in_later, in_cases, numbered_in, lane_of, lanes_of-add_call, length-add_call}
use Rattle.pq_seats.proofs.Marks.{none_sum, owed_count-cons, owed_sum-cons}
use Rattle.pq_seats.proofs.Lengths.{short}
use Rattle.pq_seats.proofs.Keeps.{apart, own_lane, other_lane, number_in, fits_on, stays_at, holder_keep, not_mine, recount, informs}
use Rattle.pq_seats.proofs.Waiting.{no_sum, known_made, behind_made, made_cases, later_in}

without_if : (b : Bool) (x : ℕ × ℕ) (rest : List (ℕ × ℕ)) (y : ℕ × ℕ) → Contains (cond b rest (x ∷ rest)) y → (x ≡ y) ⊎ Contains rest y
without_if true x rest y h = inr h
without_if false x rest y h = in_cases x y rest h

without_has : (n : ℕ) (l : List (ℕ × ℕ)) (y : ℕ × ℕ) → Contains (without n l) y → Contains l y
without_has n [] y h = absurd (not_in y h)
without_has n (x ∷ xs) y h = ⊎_elim
    (λ e. subst (λ (z : ℕ × ℕ). Contains (x ∷ xs) z) e (in_first x xs))
    (λ t. in_later x y xs (without_has n xs y t))
    (without_if (eqb x.0 n) x (without n xs) y h)

count-without : (m n : ℕ) (l : List (ℕ × ℕ)) → m ≢ n → (owed_count m (without n l) ≡ owed_count m l) × (owed_sum m (without n l) ≡ owed_sum m l)
count-without m n [] ne = (refl, refl)
count-without m n (x ∷ xs) ne = let r = count-without m n xs ne in let c = owed_count-cons m x xs in let d = owed_sum-cons m x xs in ⊎_elim
    (λ t. let e : without n (x ∷ xs) ≡ without n xs = ap (λ (b : Bool). cond b (without n xs) (x ∷ without n xs)) t.0 in
    let other : x.0 ≢ m = λ z. ne (sym z ∙ t.1) in
    let a = test_other x.0 m 1 0 other in let b = test_other x.0 m x.1 0 other in
    (ap (owed_count m) e ∙ omega (arith, r.0), ap (owed_sum m) e ∙ omega (arith, r.1)))
    (λ t. let e : without n (x ∷ xs) ≡ x ∷ without n xs = ap (λ (b : Bool). cond b (without n xs) (x ∷ without n xs)) t.0 in
    (ap (owed_count m) e ∙ (owed_count-cons m x (without n xs) ∙ (ap (λ (z : ℕ). cond (eqb x.0 m) 1 0 + z) r.0 ∙ sym c)), ap (owed_sum m) e ∙ (owed_sum-cons m x (without n xs) ∙ (ap (λ (z : ℕ). cond (eqb x.0 m) x.1 0 + z) r.1 ∙ sym d))))
    (eqb_tells x.0 n)

none-without : (n : ℕ) (l : List (ℕ × ℕ)) → owed_count n (without n l) ≡ 0
none-without n [] = refl
none-without n (x ∷ xs) = let r = none-without n xs in ⊎_elim
    (λ t. ap (λ (b : Bool). owed_count n (cond b (without n xs) (x ∷ without n xs))) t.0 ∙ r)
    (λ t. let a = test_other x.0 n 1 0 t.1 in let c = owed_count-cons n x (without n xs) in ap (λ (b : Bool). owed_count n (cond b (without n xs) (x ∷ without n xs))) t.0 ∙ omega arith)
    (eqb_tells x.0 n)

-- who owes one letter to n owes this one
pub sum_of_one : (n letter : ℕ) (l : List (ℕ × ℕ)) → Contains l (n, letter) → (0 < owed_count n l) × (owed_count n l ≡ 1 → owed_sum n l ≡ letter)
sum_of_one n letter [] h = absurd (not_in (n, letter) h)
sum_of_one n letter (x ∷ xs) h = let c = owed_count-cons n x xs in let d = owed_sum-cons n x xs in ⊎_elim
    (λ is. let same : x.0 ≡ n = ap (λ (z : ℕ × ℕ). z.0) is in let worth : x.1 ≡ letter = ap (λ (z : ℕ × ℕ). z.1) is in
    let a = test_same x.0 n 1 0 same in let b = test_same x.0 n x.1 0 same in
    (omega arith, λ one. let r = none_sum n xs (omega arith) in omega arith))
    (λ t. let r = sum_of_one n letter xs t in let some_later = r.0 in (
      omega arith,
      λ one. ⊎_elim
          (λ t. let a = test_same x.0 n 1 0 t.1 in absurd (omega arith))
          (λ t. let a = test_other x.0 n 1 0 t.1 in let b = test_other x.0 n x.1 0 t.1 in let q = r.1 (omega arith) in omega arith)
          (eqb_tells x.0 n),
    ))
    (in_cases x (n, letter) xs h)

-- the last of a number's calls is that of a mark
pub place_within : (n : ℕ) (history : List Mark) (cs : List Call) (c : Call) → calls_of n history ≡ cs ++ c ∷ [] → c.place < length history
place_within n history cs c e = All-contains (λ (z : Call). z.place < length history) (calls_of n history) c (calls_of-within n history)
    (subst (λ (z : List Call). Contains z c) (sym e) (Contains-push cs c))

module _ {O : Type 0} (R : Rule O) (k : Limits) where
  -- each number has a lane in some seat's view
  pub lane_at : (s : Table O) (h : Holds R k s) (m : ℕ) → IsSeat k.seats m → (j : ℕ) × (u : View O) × (y : Lane) × Stands R s j u × Contains u.lanes y × (y.number ≡ m)
  lane_at s h m seat =
      let low = seat.0 in let high = seat.1 in
      let a = numbered_in m 1 k.seats low (omega arith) in let once = h.once m in
      let r = sum_some (λ (u : View O). lanes_of m u.lanes) s.views (omega arith) in
      let q = lane_of m r.1.lanes r.3 in
      (r.0, r.1, q.0, r.2, q.1, q.2)

  pub one_letter : (s : Table O) (h : Holds R k s) (m : ℕ) → IsSeat k.seats m → letter_count m s.words (map post_of s.views) ≤ 1
  one_letter s h m seat = let r = lane_at s h m seat in let p = (h.each r.0 r.1 r.3).calls r.2 r.4 in
      subst (λ (z : ℕ). letter_count z s.words (map post_of s.views) ≤ 1) r.5
      (⊎_elim (λ t. let none = t.none in omega arith) (⊎_elim (λ t. let one = t.one in omega arith) (λ t. let one = t.one in omega arith)) p)

  pub leaving : (slots id : ℕ) (me : Me (Unit {0}) (View O)) (owner letter : ℕ) → Lawful R → me.0.post.number ≢ 0 → Contains me.0.post.owed (owner, letter) → MayLeave R k id me.0 owner letter
      → Allows (Holds R k) slots id me owner (λ _. letter) (λ _. leaves R (step slots owner letter 0 none) me letter)
  leaving slots id me owner letter laws seated has may s h sized at small =
      let v = me.0 in
      let ps = map post_of s.views in
      let pat = at_map post_of s.views id v at in
      let f = h.each id v at in
      let range = f.owes (owner, letter) has in
      let low = range.0.0 in let high = range.0.1 in let some_letter = range.1 in let few = h.few in let wide = h.letters in
      let w : View O = left_view v owner in
      let ws : List ℕ = set s.words owner letter in
      let most = one_letter s h owner range.0 in
      let mine = sum_of_one owner letter v.post.owed has in
      let part = sum_one (λ (p : Post O). owed_count owner p.owed) ps id v.post pat in
      let some_owed = mine.0 in
      let empty : get_or s.words owner 0 ≡ 0 = omega arith in
      let here : get_or ws owner 0 ≡ letter = get_or-set_same s.words owner letter 0 (omega arith) in
      let letters : (n : ℕ) → IsSeat k.seats n → (letter_count n ws (set ps id w.post) ≡ letter_count n s.words ps) × (letter_sum n ws (set ps id w.post) ≡ letter_sum n s.words ps) = λ n seat.
      let c = sum_set (λ (p : Post O). owed_count n p.owed) ps id v.post w.post pat in
      let d = sum_set (λ (p : Post O). owed_sum n p.owed) ps id v.post w.post pat in
      dite (ℕ_discrete n owner)
      (λ e. subst (λ (z : ℕ). (letter_count z ws (set ps id w.post) ≡ letter_count z s.words ps) × (letter_sum z ws (set ps id w.post) ≡ letter_sum z s.words ps)) (sym e)
      (let c' = sum_set (λ (p : Post O). owed_count owner p.owed) ps id v.post w.post pat in
      let d' = sum_set (λ (p : Post O). owed_sum owner p.owed) ps id v.post w.post pat in
      let none_left = none-without owner v.post.owed in
      let no_rest = none_sum owner (without owner v.post.owed) none_left in
      let worth = mine.1 (omega arith) in
      (omega arith, omega arith)))
      (λ ne. let word = get_or-set_other s.words owner n letter 0 ne in let r = count-without n owner v.post.owed ne in
      let m1 : min (get_or ws n 0) 1 ≡ min (get_or s.words n 0) 1 = ap (λ (z : ℕ). min z 1) word in
      (omega (arith, r.0), omega (arith, r.1))) in
      let no_lock : (l : ℕ) → R.locks k l ≡ true → l ≢ owner = λ l is e. let a = laws.apart k l is in omega arith in
      let f' = fits_on R k h.history s.words ws ps (set ps id w.post) v f letters (λ i hi. get_or-set_other s.words owner i letter 0 (no_lock i (f.held i hi).0)) in
      let fits : Fits R k h.history ws (set ps id w.post) w = record {
        limits = f'.limits;
        front = f'.front;
        behind = f'.behind;
        ranged = f'.ranged;
        calls = f'.calls;
        first = f'.first;
        empty = λ e. absurd (seated e);
        owes = λ x hx. f.owes x (without_has owner v.post.owed x hx);
        room = f'.room;
        held = f'.held;
      } in (
        w,
        keeps,
        tt,
        stays_at R k s h id v w owner letter _ at letters refl (ap R.length_of (get_or-set_other s.words owner 0 letter 0 (λ e. omega arith)) ∙ h.counted) fits
            (λ j u n to hu. absurd (no_lock owner ((h.each j u to).held owner hu).0 refl))
            (λ l is ne. holder_keep R k s h id v w at (λ i hi. hi) l is (λ z. ne (get_or-set_other s.words owner l letter 0 (no_lock l is) ∙ z)))
            (may s h at empty),
        refl,
      )

  module _ (s : Table O) (h : Holds R k s) (id : ℕ) (v : View O) (at : Stands R s id v) (laws : Lawful R) (seated : v.post.number ≢ 0) (found : get_or s.words v.post.number 0 ≢ 0) where
    abbrev ps : List (Post O)
    ps = map post_of s.views

    abbrev me : ℕ
    me = v.post.number

    abbrev x : ℕ
    x = get_or s.words me 0

    abbrev ws' : List ℕ
    ws' = set s.words me 0

    first : HasFirst me v.lanes
    first = (h.each id v at).first seated

    range : IsSeat k.seats me
    range = number_in R k s h id v at seated

    here : get_or ws' me 0 ≡ 0
    here = let few = h.few in let wide = h.letters in let r = range in let high = r.1 in get_or-set_same s.words me 0 0 (omega arith)

    no_lock : (l : ℕ) → R.locks k l ≡ true → l ≢ me
    no_lock l is e = let a = laws.apart k l is in let few = h.few in let r = range in let high = r.1 in omega arith

    mine_placed : IsAccounted me v.post.flight v.front (lane me first.0) (calls_of me h.history) (letter_count me s.words ps) (letter_sum me s.words ps)
    mine_placed = (h.each id v at).calls (lane me first.0) (own_lane R k v first)

    -- the letter is the only one
    none_owed : sum_by (λ (p : Post O). owed_count me p.owed) ps ≡ 0
    none_owed = let most = one_letter s h me range in omega arith

    worth : letter_sum me s.words ps ≡ x
    worth = let r = no_sum me ps none_owed in omega arith

    module _ (w : View O) (owed : w.post.owed ≡ v.post.owed) (lanes_same : (m : ℕ) → lanes_of m w.lanes ≡ lanes_of m v.lanes) (length_same : length w.lanes ≡ length v.lanes)
        (locks_same : w.post.locks ≡ v.post.locks) where
      abbrev ps' : List (Post O)
      ps' = set ps id w.post

      letters : (m : ℕ) → m ≢ me → (letter_count m ws' ps' ≡ letter_count m s.words ps) × (letter_sum m ws' ps' ≡ letter_sum m s.words ps)
      letters m ne =
          let word = get_or-set_other s.words me m 0 0 ne in
          let a = sum_kept (λ (u : Post O). owed_count m u.owed) ps id v.post w.post (at_map post_of s.views id v at) (ap (owed_count m) owed) in
          let b = sum_kept (λ (u : Post O). owed_sum m u.owed) ps id v.post w.post (at_map post_of s.views id v at) (ap (owed_sum m) owed) in
          ((λ j. min (word j) 1 + a j), (λ j. word j + b j))

      no_letter : letter_count me ws' ps' ≡ 0
      no_letter = let a = sum_kept (λ (u : Post O). owed_count me u.owed) ps id v.post w.post (at_map post_of s.views id v at) (ap (owed_count me) owed) in let e = here in let n = none_owed in
          let m1 : min (get_or ws' me 0) 1 ≡ 0 = ap (λ (z : ℕ). min z 1) e in omega arith

      kept_calls : (j : ℕ) (u : View O) (y : Lane) → Stands R s j u → Contains u.lanes y → y.number ≢ me
          → IsAccounted u.post.number u.post.flight u.front y (calls_of y.number h.history) (letter_count y.number ws' ps') (letter_sum y.number ws' ps')
      kept_calls j u y to hy ne = let l = letters y.number ne in recount u.post.number u.front u.post.flight y (calls_of y.number h.history) _ _ _ _ l.0 l.1 ((h.each j u to).calls y hy)

      word_same : (l : ℕ) → R.locks k l ≡ true → get_or ws' l 0 ≡ get_or s.words l 0
      word_same l is = get_or-set_other s.words me l 0 0 (no_lock l is)

      other_fits : (j : ℕ) (u : View O) → j ≢ id → Stands R s j u → Fits R k h.history ws' ps' u
      other_fits j u ne to = let f = h.each j u to in record {
        limits = f.limits;
        front = f.front;
        behind = f.behind;
        ranged = f.ranged;
        calls = λ y has. kept_calls j u y to has (λ e. ne (apart R k s h id j v u (lane me first.0) y at to (own_lane R k v first) has (sym e)));
        first = f.first;
        empty = f.empty;
        owes = f.owes;
        room = f.room;
        held = λ i has. let r = f.held i has in (r.0, word_same i r.0 ∙ r.1, r.2);
      }

      taken_from : Fits R k h.history ws' ps' w → R.ties k ws' ps' (left h.history) → Holds R k record { words = ws'; homes = s.homes; views = set s.views id w }
      taken_from fits tied =
          let posts : map post_of (set s.views id w) ≡ ps' = map-set post_of s.views id w in let low = range.0 in let size = length-set s.words me 0 in
          record {
            history = h.history;
            legal = h.legal;
            counted = ap R.length_of (get_or-set_other s.words me 0 0 0 (λ e. omega arith)) ∙ h.counted;
            few = h.few;
            few_calls = h.few_calls;
            long = size ∙ h.long;
            letters = let l = h.letters in omega arith;
            width = let l = h.width in omega arith;
            once = λ m. sum_kept (λ (u : View O). lanes_of m u.lanes) s.views id v w at (lanes_same m) ∙ h.once m;
            lanes = sum_kept (λ (u : View O). length u.lanes) s.views id v w at length_same ∙ h.lanes;
            each = λ j u to. subst (λ (z : List (Post O)). Fits R k h.history ws' z u) (sym posts)
                (⊎_elim (λ t. subst (λ (z : View O). Fits R k h.history ws' ps' z) t.1 fits) (λ t. other_fits j u t.0 t.1) (at_set s.views id j w u to));
            holder = λ l is ne. holder_keep R k s h id v w at (λ i has. subst (λ (z : List ℕ). Contains z i) (sym locks_same) has) l is (λ z. ne (word_same l is ∙ z));
            tied = subst (λ (z : List (Post O)). R.ties k ws' z (left h.history)) (sym posts) tied;
          }

    -- which of the lanes
    lane_cases : (y : Lane) → Contains v.lanes y → (lane me first.0 ≡ y) ⊎ (Contains v.lanes y × (y.number ≢ me))
    lane_cases y has = ⊎_elim (λ e. inl e) (λ t. inr (has, other_lane R k s h id v first y at t)) (in_cases (lane me first.0) y first.1 (subst (λ (z : List Lane). Contains z y) first.2 has))

    pub went_back : x ≡ back → Holds R k record { words = ws'; homes = s.homes; views = set s.views id (back_view R v) }
    went_back e =
        let w : View O = back_view R v in
        let f = h.each id v at in
        let made : calls_of me h.history ≡ first.0 = ⊎_elim (λ t. t.all) (⊎_elim (λ t. t.all)
        (λ t. let letter = t.letter in let early = place_within me h.history first.0 (call t.place (Insert t.entry) Done) t.all in
        let few = short R k s h in let q = worth in absurd (omega arith))) mine_placed in
        taken_from w refl (λ m. refl) refl refl
        (record {
          limits = f.limits;
          front = f.front;
          behind = f.behind;
          ranged = f.ranged;
          calls = λ y has. ⊎_elim
              (λ q. subst (λ (z : Lane). IsAccounted me v.post.flight v.front z (calls_of z.number h.history) (letter_count z.number ws' (set ps id w.post)) (letter_sum z.number ws' (set ps id w.post))) q
              (inl (record { all = made; none = no_letter w refl (λ m. refl) refl refl })))
              (λ t. kept_calls w refl (λ m. refl) refl refl id v y at t.0 t.1)
              (lane_cases y has);
          first = f.first;
          empty = λ e. absurd (seated e);
          owes = f.owes;
          room = f.room;
          held = λ i has. let r = f.held i has in (r.0, word_same w refl (λ m. refl) refl refl i r.0 ∙ r.1, r.2);
        })
        (laws.takes_back k s h id v at (omega arith) e)

    -- the call that the letter tells, where the word found is its place plus 1
    pub record Told : Type 0 where
      pub place : ℕ
      pub entry : Entry
      pub is : x ≡ place + 1
      pub waits : v.post.flight ≡ Some entry
      pub late : v.front ≤ place
      pub small : place < 2 ^ 30
      pub now : Holds R k record { words = ws'; homes = s.homes; views = set s.views id (taken_view R v place entry) }

    pub was_placed : x ≢ back → Told
    was_placed ne = ⊎_elim
        (λ t. let none = t.none in let n = none_owed in absurd (omega arith))
        (⊎_elim
        (λ t. absurd (ne (sym worth ∙ t.letter)))
        (λ t.
        let entry : Entry = t.entry in
        let c : Call = call t.place (Insert entry) Done in
        let w : View O = taken_view R v t.place entry in
        let f = h.each id v at in
        let late = t.late in
        let early = place_within me h.history first.0 c t.all in
        let few = short R k s h in
        let ts = λ (m : ℕ). lanes_of-add_call m v.lanes c in
        let ls = length-add_call v.lanes c in record {
          place = t.place;
          entry = entry;
          is = sym worth ∙ t.letter;
          waits = t.waits;
          late = t.late;
          small = omega arith;
          now = taken_from w refl ts ls refl
              (record {
                limits = λ y has. f.limits (lane me first.0) (own_lane R k v first);
                front = omega arith;
                behind = behind_made v w c first refl refl refl t.late f.behind;
                ranged = λ y has. ⊎_elim
                    (λ e. subst (λ (z : Lane). IsSeat k.seats z.number) e range)
                    (λ p. f.ranged y (later_in me v.lanes first y p))
                    (made_cases me v.lanes c first y has);
                calls = λ y has. ⊎_elim
                    (λ e. subst (λ (z : Lane). IsAccounted me None w.front z (calls_of z.number h.history) (letter_count z.number ws' (set ps id w.post)) (letter_sum z.number ws' (set ps id w.post))) e
                    (inl (record { all = t.all; none = no_letter w refl ts ls refl })))
                    (λ p. let hy = later_in me v.lanes first y p in let ne' = other_lane R k s h id v first y at p in
                    not_mine me v.front me w.front v.post.flight None y (calls_of y.number h.history) _ _ ne' (kept_calls w refl ts ls refl id v y at hy ne'))
                    (made_cases me v.lanes c first y has);
                first = λ z. (first.0 ++ c ∷ [], first.1, ap (λ (z : List Lane). add_call z c) first.2);
                empty = λ e. absurd (seated e);
                owes = f.owes;
                room = λ z e. absurd (cc);
                held = λ i has. let r = f.held i has in (r.0, word_same w refl ts ls refl i r.0 ∙ r.1, r.2);
              })
              (laws.takes_over k s h id v at (omega arith) found ne);
        }))
        mine_placed

  pub taking : (slots id : ℕ) (me : Me (Unit {0}) (View O)) → Lawful R → me.0.post.number ≢ 0
      → Allows (Holds R k) slots id me me.0.post.number (λ _. 0) (takes R (step slots me.0.post.number 0 0 none) me)
  taking slots id me laws seated s h sized at small =
      let v = me.0 in
      let x : ℕ = get_or s.words v.post.number 0 in
      let ps = map post_of s.views in
      let knows = λ (l : Letter) (is : letter_number l ≡ x). laws.informed k s h id v l at (omega arith) is in
      dite (ℕ_discrete x 0)
      (λ hit.
      let w : View O = with_read v 0 in
      let f = h.each id v at in
      let same : set s.words v.post.number 0 ≡ s.words = ap (λ (z : ℕ). set s.words v.post.number z) (sym hit) ∙ set-get_or s.words v.post.number 0 in
      let still : set ps id v.post ≡ ps = set_again ps id v.post (at_map post_of s.views id v at) in
      let fits : Fits R k h.history s.words ps w = record { limits = f.limits; front = f.front; behind = f.behind; ranged = f.ranged; calls = f.calls; first = f.first; empty = f.empty; owes = f.owes; room = f.room; held = f.held } in (
        w,
        keeps,
        tt,
        stays_at R k s h id v w v.post.number 0 _ at (λ n seat. rw (same, still) (refl, refl)) refl (rw same h.counted) (rw (same, still) fits) (λ j u n to has. rw same refl)
            (λ l lock. rw same (holder_keep R k s h id v w at (λ i has. has) l lock)) (rw (same, still) h.tied),
        (record { letter = Nothing; fits = tt; is = sym hit; knows = knows Nothing (sym hit); taken = refl }, refl),
      ))
      (λ miss. dite (ℕ_discrete x back)
      (λ e. (back_view R v, keeps, tt, went_back s h id v at laws seated miss e, (record { letter = Back; fits = tt; is = sym e; knows = knows Back (sym e); taken = refl }, refl)))
      (λ d. let r = was_placed s h id v at laws seated miss d in let w : View O = taken_view R v r.place r.entry in let f = h.each id v at in let small = r.small in (
        w,
        keeps,
        tt,
        r.now,
        (
          record {
            letter = At r.place;
            fits = omega arith;
            is = sym r.is;
            knows = knows (At r.place) (sym r.is);
            taken = record {
              entry = r.entry;
              waits = r.waits;
              view = refl;
              call = (r.late, known_made v w (call r.place (Insert r.entry) Done) (f.first seated) refl refl refl);
              knows = informs R k _ r.now id w (put_here s.views id v w at) refl seated;
            };
          },
          refl,
        ),
      )))
