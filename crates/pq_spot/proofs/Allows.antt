-- The steps of the spot are allowed.
use Rattle.std.proofs.Common.{◌≡◌, ◌≢◌, ◌⊎◌, Some, None, ℕ, zero, suc, ◌+◌, ◌-◌, ◌<◌, ◌≤◌, Bool, true, false, cond, eqb, List, [], ◌∷◌, map, length, get_or, set, eq-eqb, refl, ap, ◌∙◌, sym, subst, inl, inr, ⊎_elim, arith, Contains}
use Rattle.std.proofs.Common.{get_or-set_same, get_or-set_other, ◌++◌}
use Rattle.std.proofs.lemmas.List.{append-nil}
use mathlib.Core.Option.{some, none, some-injective}
use lib.ListN.{get_elem?}
use native.Mathlib.Decide.{ℕ_discrete}
use mathlib.Core.Logic.{dite}
use Rattle.atomic_table.specs.Table.{Me, step, keeps, Allows}
use Rattle.atomic_table.proofs.Lists.{at_set, at_map}
use Rattle.pq_words.specs.declared.entries.Entry.{Entry}
use Rattle.pq_model.specs.declared.marks.Act.{Act}
use Rattle.pq_model.specs.declared.marks.Act.TheVariants.{Insert, Remove}
use Rattle.pq_model.specs.History.{IsSeat, IsLegalFrom, left_from, left}
use Rattle.pq_model.specs.Limits.{max_seats}
use Rattle.pq_model.specs.Passes.{lane, calls_of}
use Rattle.pq_api.specs.Limits.{call_limit}
use Rattle.pq_seats.specs.declared.views.Limits.{Limits}
use Rattle.pq_seats.specs.declared.views.View.{View}
use Rattle.pq_seats.specs.Views.{post_of, known_of, with_post}
use Rattle.pq_seats.specs.Letters.{owed_count, letter_count, without}
use Rattle.pq_seats.specs.Batches.{Batch, marks_of, own_place, letters_of, letters_from}
use Rattle.pq_seats.specs.Posts.{with_lock, without_lock, without_letter, placed_post}
use Rattle.pq_seats.specs.Rules.{Table, Holds, Stands}
use Rattle.pq_seats.specs.Allowed.{IsOwnChange, Waits, helps, Places, MayTake, MayFree, MayLeave, MayDraw}
use Rattle.pq_seats.proofs.Lists.{not_in, in_first, in_cases, less_has, sum_one, put_here, same_at, at_unmap, test_same, test_other}
use Rattle.pq_seats.proofs.Marks.{owed_count-append, owed_count-cons}
use Rattle.pq_seats.proofs.Keeps.{settled, own_lane, one_number, number_low, untouched}
use Rattle.pq_seats.proofs.Owning.{own_stays}
use Rattle.pq_seats.proofs.Lengths.{few_marks}
use Rattle.pq_spot.specs.declared.views.SpotPart.{SpotPart}
use Rattle.pq_spot.specs.Spot.{token, idle, part, lock_word, spot_word, words_needed, max_word, held, IsOffered, SpotTied, removal, batch_of, spot_rule, stored_post, offered_post}
use Rattle.pq_spot.specs.Spot as spot
use Rattle.pq_spot.specs.LawsHold.{P, Quiet, same_count, same_letters, quiet_on, quiet_stays, others_offer, offer_on, offer_stays, frame, spot_laws}

abbrev pub M : Type 0
M = Me (Unit {0}) (View SpotPart)

module _ (k : Limits) (s : Table SpotPart) (h : Holds spot_rule k s) where
  -- nobody has the lock where it is free
  nobody_has : get_or s.words 17 0 ≡ 0 → (j : ℕ) (q : P) → get_elem? (map post_of s.views) j ≡ some q → ¬ Contains q.locks lock_word
  nobody_has zero_word j q to has =
      let b = at_unmap post_of s.views j q to in
      let other = (h.each j b.0 b.1).held lock_word (subst (λ (z : P). Contains z.locks lock_word) (sym b.2) has) in
      other.2 (sym other.1 ∙ zero_word)

  module _ (id : ℕ) (v : View SpotPart) (at : Stands spot_rule s id v) where
    abbrev ps : List P
    ps = map post_of s.views

    abbrev there : get_elem? ps id ≡ some v.post
    there = at_map post_of s.views id v at

    abbrev t : SpotTied k s.words ps (left h.history)
    t = h.tied

    -- no letter is there for a seat without an insert in flight
    pub no_letter : v.post.number ≢ 0 → v.post.flight ≡ None → letter_count v.post.number s.words ps ≡ 0
    no_letter ne quiet = let g = h.each id v at in let f = g.first ne in let l = lane v.post.number f.0 in
        (settled v.post.number v.front v.post.flight l (calls_of v.post.number h.history) _ _ (g.calls l (own_lane spot_rule k v f)) quiet).1

    module _ (has : Contains v.post.locks lock_word) where
      -- nobody else has the lock
      alone : (j : ℕ) (q : P) → j ≢ id → get_elem? ps j ≡ some q → ¬ Contains q.locks lock_word
      alone j q ne to has' =
          let b = at_unmap post_of s.views j q to in
          let mine = (h.each id v at).held lock_word has in
          let other = (h.each j b.0 b.1).held lock_word (subst (λ (z : P). Contains z.locks lock_word) (sym b.2) has') in
          ne (one_number spot_rule k s h id j v b.0 at b.1 mine.2 (sym mine.1 ∙ other.1))

      abbrev pub old : (v.post.own.counted ≡ (h.tied).counted) × (v.post.own.stored ≡ get_or s.words 18 0)
      old = t.mine id v.post there has

      pub numbered : v.post.number ≢ 0
      numbered = ((h.each id v at).held lock_word has).2

      -- the lock is not free, whatever other word has changed
      not_free : (i x : ℕ) → i ≢ 17 → get_or (set s.words i x) 17 0 ≢ 0
      not_free i x ne e = numbered (sym ((h.each id v at).held lock_word has).1 ∙ (sym (get_or-set_other s.words i 17 x 0 (λ z. ne (sym z))) ∙ e))

      -- the holder's own part changes, and another word than the lock
      pub holder_ties : (i x : ℕ) (p' : P) (c : ℕ) (m : List Entry) → i ≢ 17 → p'.own.counted ≡ c → p'.own.stored ≡ get_or (set s.words i x) 18 0 → m ≡ held c
          → ((n : ℕ) → c ≡ suc (suc n) → IsOffered (suc n) (set s.words i x) (set ps id p')) → Quiet s.words (set s.words i x) ps id v.post p' there → SpotTied k (set s.words i x) (set ps id p') m
      holder_ties i x p' c m ne counted stored entries offers quiet = record {
        room = t.room;
        counted = c;
        entries = entries;
        offers = offers;
        free = λ e. absurd (not_free i x ne e);
        mine = λ j q to has'. ⊎_elim
            (λ e. (ap (λ (z : P). z.own.counted) (sym e.1) ∙ counted, ap (λ (z : P). z.own.stored) (sym e.1) ∙ stored))
            (λ r. absurd (alone j q r.0 r.1 has'))
            (at_set ps id j p' q to);
        quiet = quiet;
      }

-- an entry that is offered is not in the queue
held_offer : (n : ℕ) → n ≢ 0 → held (suc n) ≡ []
held_offer zero ne = absurd (ne refl)
held_offer (suc n) ne = refl

few_counts : (c : ℕ) (words : List ℕ) (posts : List P) → ((n : ℕ) → c ≡ suc (suc n) → IsOffered (suc n) words posts) → c ≤ max_word
few_counts zero words posts offers = omega arith
few_counts (suc zero) words posts offers = omega arith
few_counts (suc (suc n)) words posts offers = let high = (offers n refl).seat.1 in omega arith

pub one_bit : (b : Bool) → cond b 1 0 ≤ 1
one_bit true = omega arith
one_bit false = omega arith

pub helps_one : (o n : ℕ) → helps n ((o, token) ∷ []) ≡ cond (eqb o n) 1 0
helps_one o n = by_test (eqb o n)
  where
    by_test : (b : Bool) → 0 + cond b 1 0 ≡ cond b 1 0
    by_test true = refl
    by_test false = refl

-- no letter is owed once the one is left
pub without_one : (o x : ℕ) → without o ((o, x) ∷ []) ≡ []
without_one o x = ap (λ (b : Bool). let l : List (ℕ × ℕ) = cond b [] ((o, x) ∷ []) in l) (eq-eqb o o refl)

-- who offers the entry waits for its insert
pub waiting : (s : Table SpotPart) (o : ℕ) → IsOffered (suc o) s.words (map post_of s.views) → Waits s (suc o) token
waiting s o f = record { id = f.id; post = f.post; stands = f.stands; number = f.number; seated = λ z. omega arith; flight = f.flight; unwritten = f.unwritten }

-- a seat owes a letter more, to one whose offer is out
pub one_more_letter : (k : Limits) (s : Table SpotPart) (h : Holds spot_rule k s) (id : ℕ) (v : View SpotPart) (at : Stands spot_rule s id v) (o : ℕ) → IsOffered o s.words (map post_of s.views)
    → (p' : P) (letter : ℕ) → p'.number ≡ v.post.number → p'.own.out ≡ v.post.own.out → p'.owed ≡ v.post.owed ++ (o, letter) ∷ []
    → (ws : List ℕ) → ((m : ℕ) → IsSeat max_seats m → get_or ws m 0 ≡ get_or s.words m 0) → Quiet s.words ws (map post_of s.views) id v.post p' (at_map post_of s.views id v at)
one_more_letter k s h id v at o f p' letter number out owed ws word =
    let qs = map post_of s.views in let here = at_map post_of s.views id v at in let t = h.tied in
    let kept : (n : ℕ) → IsSeat max_seats n → n ≢ o → letter_count n ws (set qs id p') ≡ letter_count n s.words qs = (λ n seat ne.
    let a = owed_count-append n v.post.owed ((o, letter) ∷ []) in let b = owed_count-cons n (o, letter) [] in let c = test_other o n 1 0 (λ z. ne (sym z)) in let d = ap (owed_count n) owed in
    same_count s.words ws qs id v.post p' here n (omega arith) (word n seat)) in
    let out_of : (j : ℕ) (q : P) → get_elem? qs j ≡ some q → IsSeat max_seats q.number → q.own.out ≡ false → q.number ≢ o = (λ j q to seat loose e.
    let w = at_unmap post_of s.views j q to in let g = at_unmap post_of s.views f.id f.post f.stands in let low = seat.0 in
    let named : w.0.post.number ≡ q.number = ap (λ (y : P). y.number) w.2 in let same_as : g.0.post.number ≡ o = ap (λ (y : P). y.number) g.2 ∙ f.number in
    let same : f.id ≡ j = one_number spot_rule k s h j f.id w.0 g.0 w.1 g.1 (λ z. omega arith) (named ∙ (e ∙ sym same_as)) in
    let one : q ≡ f.post = same_at qs j q f.post to (subst (λ (y : ℕ). get_elem? qs y ≡ some f.post) same f.stands) in
    let bad : false ≡ true = sym loose ∙ (ap (λ (y : P). y.own.out) one ∙ f.out) in absurd (cc)) in
    quiet_on s.words ws qs id v.post p' here k (left h.history) t
    (λ seat loose. let seat' : IsSeat max_seats v.post.number = subst (λ (n : ℕ). IsSeat max_seats n) number seat in let loose' : v.post.own.out ≡ false = sym out ∙ loose in
    ap (λ (n : ℕ). letter_count n ws (set qs id p')) number ∙ (kept v.post.number seat' (out_of id v.post here seat' loose') ∙ t.quiet id v.post here seat' loose'))
    (λ j q ne to seat loose. kept q.number seat (out_of j q to seat loose))

module _ (k : Limits) where
  -- any seat may take the lock
  pub may_take : (id : ℕ) (v : View SpotPart) → v.post.number ≢ 0 → MayTake spot_rule k id v lock_word
  may_take id v some_number w same s h at zero_word =
      let t = h.tied in let qs = map post_of s.views in let here = at_map post_of s.views id w at in
      let number = ap (λ (z : P). z.number) same.post in
      let ne : w.post.number ≢ 0 = λ z. some_number (sym number ∙ z) in
      let c : ℕ = t.counted in
      let own : SpotPart = part c c w.post.own.out in
      let p' : P = with_lock w.post lock_word own in
      let ws : List ℕ = set s.words 17 w.post.number in
      let other : (j : ℕ) → j ≢ 17 → get_or ws j 0 ≡ get_or s.words j 0 = λ j d. get_or-set_other s.words 17 j w.post.number 0 d in
      let wide = h.width in (
        own,
        (refl, refl),
        record {
          room = t.room;
          counted = c;
          entries = t.entries;
          offers = λ n is. let o = t.offers n is in let high = o.seat.1 in offer_stays s.words ws qs id w.post p' here refl refl refl refl (suc n) (other (suc n) (λ z. omega arith)) o;
          quiet = quiet_stays s.words ws qs id w.post p' here k (left h.history) t refl refl refl (λ n seat. let high = seat.1 in other n (λ z. omega arith));
          free = λ e. absurd (ne (sym (get_or-set_same s.words 17 w.post.number 0 (omega arith)) ∙ e));
          mine = λ j q to has. ⊎_elim
              (λ e. (ap (λ (z : P). z.own.counted) (sym e.1), ap (λ (z : P). z.own.stored) (sym e.1) ∙ (sym (t.free zero_word) ∙ sym (other 18 (λ z. omega arith)))))
              (λ r. absurd (nobody_has k s h zero_word j q r.1 has))
              (at_set qs id j p' q to);
        },
      )

  -- and its holder may free it where the spot is stored as it counts
  pub may_free : (id : ℕ) (v : View SpotPart) → v.post.locks ≡ lock_word ∷ [] → v.post.own.stored ≡ v.post.own.counted → MayFree spot_rule k id v lock_word
  may_free id v locks same s h at =
      let t = h.tied in let qs = map post_of s.views in let here = at_map post_of s.views id v at in
      let has = subst (λ (l : List ℕ). Contains l lock_word) (sym locks) (in_first lock_word []) in
      let mine = t.mine id v.post here has in
      let p' : P = without_lock v.post lock_word (part 0 0 v.post.own.out) in
      let ws : List ℕ = set s.words 17 0 in
      let other : (j : ℕ) → j ≢ 17 → get_or ws j 0 ≡ get_or s.words j 0 = λ j d. get_or-set_other s.words 17 j 0 0 d in record {
        room = t.room;
        counted = t.counted;
        entries = t.entries;
        offers = λ n is. let o = t.offers n is in let high = o.seat.1 in offer_stays s.words ws qs id v.post p' here refl refl refl refl (suc n) (other (suc n) (λ z. omega arith)) o;
        quiet = quiet_stays s.words ws qs id v.post p' here k (left h.history) t refl refl refl (λ n seat. let high = seat.1 in other n (λ z. omega arith));
        free = λ e. other 18 (λ z. omega arith) ∙ (sym mine.1 ∙ (same ∙ mine.0));
        mine = λ j q to has'. ⊎_elim
            (λ e. absurd ((less_has lock_word v.post.locks lock_word (subst (λ (z : P). Contains z.locks lock_word) (sym e.1) has')).1 refl))
            (λ r. absurd (alone k s h id v at has j q r.0 r.1 has'))
            (at_set qs id j p' q to);
      }

  module _ (slots id : ℕ) (me : M) (has : Contains me.0.post.locks lock_word) where
    pub may_look : Allows (Holds spot_rule k) slots id me 18 (λ n. n) (spot.looks (step slots 18 0 0 none) me)
    may_look s h sized at small = let mine = old k s h id me.0 at has in let few = few_counts h.tied.counted s.words (map post_of s.views) h.tied.offers in let e = mine.0 in
        (me.0, keeps, tt, untouched spot_rule k s h id me.0 18 at, (refl, sym mine.1, omega arith))

    pub may_put : (x : ℕ) → Allows (Holds spot_rule k) slots id me 18 (λ _. x) (λ _. spot.puts (step slots 18 x 0 none) me x)
    may_put x s h sized at small =
        let t = h.tied in let qs = map post_of s.views in let here = at_map post_of s.views id me.0 at in
        let mine = old k s h id me.0 at has in let wide = h.width in
        let p' : P = stored_post me.0.post x in let ws : List ℕ = set s.words 18 x in
        let change : IsOwnChange me.0 p' = record { number = refl; locks = refl; owed = refl; flight = inl refl } in
        let front = (h.each id me.0 at).front in let most = few_marks spot_rule k s h in (
          with_post me.0 p',
          keeps,
          tt,
          own_stays spot_rule k spot_laws s h id me.0 p' at (numbered k s h id me.0 at has) change 18 x (omega arith) refl
              (holder_ties k s h id me.0 at has 18 x p' t.counted (left h.history) (λ z. omega arith) mine.0 (sym (get_or-set_same s.words 18 x 0 (omega arith))) t.entries
              (λ n is. let o = t.offers n is in let high = o.seat.1 in offer_stays s.words ws qs id me.0.post p' here refl refl refl refl (suc n) (get_or-set_other s.words 18 (suc n) x 0 (λ z. omega arith)) o)
              (quiet_stays s.words ws qs id me.0.post p' here k (left h.history) t refl refl refl (λ n seat. let high = seat.1 in get_or-set_other s.words 18 n x 0 (λ z. omega arith)))),
          (refl, omega arith),
        )

    pub may_offer : (x : ℕ) → x ≡ suc me.0.post.number → me.0.post.own.counted ≡ 0 → me.0.post.own.out ≡ false
        → (me.0.post.flight ≡ Some token) ⊎ ((me.0.post.flight ≡ None) × (length (known_of me.0).calls < call_limit - 1))
        → Allows (Holds spot_rule k) slots id me 18 (λ _. x) (λ _. spot.offers (step slots 18 x 0 none) me x)
    may_offer x is_x none_there loose room s h sized at small =
        let t = h.tied in let qs = map post_of s.views in let here = at_map post_of s.views id me.0 at in
        let mine = old k s h id me.0 at has in let wide = h.width in let n : ℕ = me.0.post.number in
        let ne : n ≢ 0 = numbered k s h id me.0 at has in
        let p' : P = offered_post me.0.post in let ws : List ℕ = set s.words 18 x in
        let change : IsOwnChange me.0 p' = record { number = refl; locks = refl; owed = refl; flight = ⊎_elim (λ e. inl (sym e)) (λ r. inr r) room } in
        let low = number_low spot_rule k s h id me.0 at (pos n ne) in
        let high = low.1 in (
          with_post me.0 p',
          keeps,
          tt,
          own_stays spot_rule k spot_laws s h id me.0 p' at ne change 18 x (omega arith) refl
              (holder_ties k s h id me.0 at has 18 x p' (suc n) (left h.history) (λ z. omega arith) refl (sym is_x ∙ sym (get_or-set_same s.words 18 x 0 (omega arith)))
              (t.entries ∙ (ap held (sym mine.0 ∙ none_there) ∙ sym (held_offer n ne)))
              (λ m is. let same : n ≡ suc m = omega arith in subst (λ (z : ℕ). IsOffered z ws (set qs id p')) same (record {
                seat = low;
                id = id;
                post = p';
                stands = put_here qs id me.0.post p' here;
                number = refl;
                flight = refl;
                out = refl;
                unwritten = same_letters s.words ws qs id me.0.post p' here n refl (get_or-set_other s.words 18 n x 0 (λ z. omega arith)) ∙ t.quiet id me.0.post here low loose;
              }))
              (quiet_on s.words ws qs id me.0.post p' here k (left h.history) t
              (λ seat bad. absurd (cc))
              (λ j q d to seat loose_q. let high_q = seat.1 in same_letters s.words ws qs id me.0.post p' here q.number refl (get_or-set_other s.words 18 q.number x 0 (λ z. omega arith))))),
          refl,
        )
      where
        pos : (n : ℕ) → n ≢ 0 → 0 < n
        pos zero ne = absurd (ne refl)
        pos (suc n) ne = omega arith

  -- the draws
  module _ (id : ℕ) (v : View SpotPart) (has : Contains v.post.locks lock_word) where
    -- a draw that places the seat's own mark alone
    pub places_one : (s : Table SpotPart) (h : Holds spot_rule k s) → Stands spot_rule s id v → (act : Act) (b : Batch) (c new : ℕ) (out : Bool) → b.before ≡ [] → b.after ≡ []
        → (c ≤ 1) ⊎ ((c ≡ v.post.own.counted) × (v.post.flight ≡ None) × (out ≡ v.post.own.out))
        → IsLegalFrom k.seats k.capacity (left h.history) (marks_of v.post.number act b) → left_from (left h.history) (marks_of v.post.number act b) ≡ held c
        → letter_count v.post.number s.words (map post_of s.views) ≡ 0 → Places spot_rule k id v act b (part v.post.own.stored c out) new s h
    places_one s h at act b c new out before after most legal leaves none_there = record {
      legal = legal;
      apart = λ n. let x = one_bit (eqb v.post.number n) in let y = ap (helps n) before in let z = ap (helps n) after in omega arith;
      free = none_there;
      waiting = λ x has'. ⊎_elim (λ y. absurd (not_in x (subst (λ (l : List (ℕ × Entry)). Contains l x) before y))) (λ y. absurd (not_in x (subst (λ (l : List (ℕ × Entry)). Contains l x) after y))) has';
      tied = let qs = map post_of s.views in let here = at_map post_of s.views id v at in let t = h.tied in
          let p' : P = placed_post v.post b (part v.post.own.stored c out) (length h.history) in let ws : List ℕ = set s.words 0 new in
          let letters : p'.owed ≡ v.post.owed = (λ i. v.post.owed ++ (letters_of (length h.history) (before i) ++ letters_of (own_place (length h.history) b + 1) (after i))) ∙ append-nil v.post.owed in
          let word : (n : ℕ) → n ≢ 0 → get_or ws n 0 ≡ get_or s.words n 0 = λ n d. get_or-set_other s.words 0 n new 0 d in
          holder_ties k s h id v at has 0 new p' c _ (λ z. omega arith) refl
          ((old k s h id v at has).1 ∙ sym (get_or-set_other s.words 0 18 new 0 (λ z. omega arith))) leaves
          (λ n is. ⊎_elim
          (λ low. absurd (omega arith))
          (λ r. let o = t.offers n (sym (old k s h id v at has).0 ∙ (sym r.0 ∙ is)) in
          others_offer s.words ws qs id v.post p' here (suc n) o
          (λ e. let same : v.post ≡ o.post = same_at qs id v.post o.post here (subst (λ (z : ℕ). get_elem? qs z ≡ some o.post) e o.stands) in
          let bad : None ≡ Some token = sym r.1 ∙ (ap (λ (z : P). z.flight) same ∙ o.flight) in absurd (cc))
          (same_letters s.words ws qs id v.post p' here (suc n) letters (word (suc n) (λ z. omega arith)) ∙ o.unwritten))
          most)
          (quiet_on s.words ws qs id v.post p' here k (left h.history) t
          (λ seat loose. let low = seat.0 in same_letters s.words ws qs id v.post p' here v.post.number letters (word v.post.number (λ z. omega arith)) ∙ none_there)
          (λ j q d to seat loose. let low = seat.0 in same_letters s.words ws qs id v.post p' here q.number letters (word q.number (λ z. omega arith))));
    }

    pub entries_are : (s : Table SpotPart) (h : Holds spot_rule k s) → Stands spot_rule s id v → (c : ℕ) → v.post.own.counted ≡ c → left h.history ≡ held c
    entries_are s h at c is = h.tied.entries ∙ ap held (sym (old k s h id v at has).0 ∙ is)

    module _ (is_quiet : v.post.flight ≡ None) where
      abbrev ready : ℕ → ℕ → Type 0
      ready c n = (length (marks_of v.post.number Remove (removal c)) ≡ n)
          × ((s : Table SpotPart) (h : Holds spot_rule k s) → Stands spot_rule s id v → Places spot_rule k id v Remove (removal c) (part v.post.own.stored 0 v.post.own.out) (get_or s.words 0 0 + n) s h)

      pub may_find_none : v.post.own.counted ≡ 0 → MayDraw spot_rule k id v Remove 1
      may_find_none is = subst (λ (c : ℕ). ready c 1) (sym is) (
        refl,
        λ s h at. let e = entries_are s h at 0 is in
            places_one s h at Remove (removal 0) 0 (get_or s.words 0 0 + 1) v.post.own.out refl refl (inl (omega arith)) (e, tt) e (no_letter k s h id v at (numbered k s h id v at has) is_quiet),
      )

      pub may_take_it : v.post.own.counted ≡ 1 → MayDraw spot_rule k id v Remove 1
      may_take_it is = subst (λ (c : ℕ). ready c 1) (sym is) (
        refl,
        λ s h at. let e = entries_are s h at 1 is in
            places_one s h at Remove (removal 1) 0 (get_or s.words 0 0 + 1) v.post.own.out refl refl (inl (omega arith))
            (subst (λ (l : List Entry). IsLegalFrom k.seats k.capacity l (marks_of v.post.number Remove (removal 1))) (sym e) (refl, tt))
            (ap (λ (l : List Entry). left_from l (marks_of v.post.number Remove (removal 1))) e)
            (no_letter k s h id v at (numbered k s h id v at has) is_quiet),
      )

      pub may_take_offered : (o : ℕ) → v.post.own.counted ≡ suc (suc o) → MayDraw spot_rule k id v Remove 2
      may_take_offered o is = subst (λ (c : ℕ). ready c 2) (sym is) (
        refl,
        λ s h at.
            let t = h.tied in let mine = old k s h id v at has in let e = entries_are s h at (suc (suc o)) is in
            let f = t.offers o (sym mine.0 ∙ is) in
            let n : ℕ = v.post.number in let b : Batch = removal (suc (suc o)) in
            let here = at_map post_of s.views id v at in
            let differ : suc o ≢ n = (λ z. let w = at_unmap post_of s.views f.id f.post f.stands in
            let same : f.id ≡ id = one_number spot_rule k s h id f.id v w.0 at w.1 (numbered k s h id v at has) (sym (ap (λ (y : P). y.number) w.2 ∙ (f.number ∙ z))) in
            let one : some f.post ≡ some v.post = sym f.stands ∙ (ap (λ (y : ℕ). get_elem? (map post_of s.views) y) same ∙ here) in
            let bad : None ≡ Some token = sym is_quiet ∙ (ap (λ (y : P). y.flight) (sym (some-injective f.post v.post one)) ∙ f.flight) in absurd (cc)) in
            record {
              legal = subst (λ (l : List Entry). IsLegalFrom k.seats k.capacity l (marks_of n Remove b)) (sym e) (let room = t.room in omega arith, (refl, tt));
              apart = λ m. let x = helps_one (suc o) m in dite (ℕ_discrete (suc o) m)
                  (λ q. let y = test_other n m 1 0 (λ z. differ (q ∙ sym z)) in let w = one_bit (eqb (suc o) m) in omega arith)
                  (λ q. let y = test_other (suc o) m 1 0 q in let w = one_bit (eqb n m) in omega arith);
              free = no_letter k s h id v at (numbered k s h id v at has) is_quiet;
              waiting = λ x has'. ⊎_elim
                  (λ y. ⊎_elim (λ q. subst (λ (z : ℕ × Entry). Waits s z.0 z.1) q (waiting s o f)) (λ q. absurd (not_in x q)) (in_cases (suc o, token) x [] y))
                  (λ y. absurd (not_in x y))
                  has';
              tied = let p' : P = placed_post v.post b (part v.post.own.stored 0 v.post.own.out) (length h.history) in
                  holder_ties k s h id v at has 0 (get_or s.words 0 0 + 2) p' 0 _ (λ z. omega arith) refl
                  (mine.1 ∙ sym (get_or-set_other s.words 0 18 (get_or s.words 0 0 + 2) 0 (λ z. omega arith)))
                  (ap (λ (l : List Entry). left_from l (marks_of n Remove b)) e) (λ m q. absurd (omega arith))
                  (one_more_letter k s h id v at (suc o) f p' (length h.history + 1) refl refl refl (set s.words 0 (get_or s.words 0 0 + 2))
                  (λ m seat. let low = seat.0 in get_or-set_other s.words 0 m (get_or s.words 0 0 + 2) 0 (λ z. omega arith)));
            },
      )

    -- the seat's own insert, which it offers
    pub may_place : v.post.own.counted ≡ suc v.post.number → MayDraw spot_rule k id v (Insert token) 1
    may_place is = (
      refl,
      λ s h at.
          let t = h.tied in let mine = old k s h id v at has in let n : ℕ = v.post.number in
          let ne : n ≢ 0 = numbered k s h id v at has in
          let e : left h.history ≡ [] = entries_are s h at (suc n) is ∙ held_offer n ne in
          let b : Batch = batch_of v.post.own.counted (Insert token) in
          places_one s h at (Insert token) b 1 (get_or s.words 0 0 + 1) false refl refl (inl (omega arith))
          (subst (λ (l : List Entry). IsLegalFrom k.seats k.capacity l (marks_of n (Insert token) b)) (sym e) (let room = t.room in omega arith, tt))
          (ap (λ (l : List Entry). left_from l (marks_of n (Insert token) b)) e)
          (unwritten n s.words (map post_of s.views) t.counted ne (sym mine.0 ∙ is) t.offers),
    )
      where
        unwritten : (n : ℕ) (words : List ℕ) (posts : List P) (c : ℕ) → n ≢ 0 → c ≡ suc n → ((m : ℕ) → c ≡ suc (suc m) → IsOffered (suc m) words posts) → letter_count n words posts ≡ 0
        unwritten zero words posts c ne is offers = absurd (ne refl)
        unwritten (suc m) words posts c ne is offers = (offers m is).unwritten

  -- the one letter that the seat owes is left
  pub may_leave : (id : ℕ) (v : View SpotPart) (owner letter : ℕ) → v.post.owed ≡ (owner, letter) ∷ [] → MayLeave spot_rule k id v owner letter
  may_leave id v owner letter owed s h at zero_word =
      let t = h.tied in let qs = map post_of s.views in let here = at_map post_of s.views id v at in
      let few = h.few in
      let seat = ((h.each id v at).owes (owner, letter) (subst (λ (l : List (ℕ × ℕ)). Contains l (owner, letter)) (sym owed) (in_first (owner, letter) []))).0 in
      let high = seat.1 in
      let p' : P = without_letter v.post owner in let ws : List ℕ = set s.words owner letter in
      let kept : (n : ℕ) → n ≢ owner → letter_count n ws (set qs id p') ≡ letter_count n s.words qs = (λ n ne. let a = ap (λ (l : List (ℕ × ℕ)). owed_count n (without owner l)) owed in let b = ap (owed_count n) owed in
      let c = count_one n owner letter in let d = test_other owner n 1 0 (λ z. ne (sym z)) in let e = ap (owed_count n) (without_one owner letter) in
      same_count s.words ws qs id v.post p' here n (omega arith) (get_or-set_other s.words owner n letter 0 ne)) in
      let other : (j : ℕ) → j ≢ owner → get_or ws j 0 ≡ get_or s.words j 0 = λ j d. get_or-set_other s.words owner j letter 0 d in
      let owes_it : 1 ≤ letter_count owner s.words qs = (let a = sum_one (λ (q : P). owed_count owner q.owed) qs id v.post here in
      let b = ap (owed_count owner) owed in let c = count_one owner owner letter in let d = test_same owner owner 1 0 refl in omega arith) in
      -- who has a letter owed has something out
      let out_of : (j : ℕ) (q : P) → get_elem? qs j ≡ some q → IsSeat max_seats q.number → q.own.out ≡ false → q.number ≢ owner = (λ j q to seat' loose e.
      let none_there = t.quiet j q to seat' loose in let same : letter_count q.number s.words qs ≡ letter_count owner s.words qs = ap (λ (y : ℕ). letter_count y s.words qs) e in absurd (omega arith)) in
      frame s.words ws qs id v.post p' here k (left h.history) t refl refl refl (other 17 (λ z. omega arith)) (other 18 (λ z. omega arith))
      (λ m is. let o = t.offers m is in let u = o.unwritten in
      let ne : suc m ≢ owner = (λ z. let same : letter_count (suc m) s.words qs ≡ letter_count owner s.words qs = ap (λ (y : ℕ). letter_count y s.words qs) z in omega arith) in
      offer_on s.words ws qs id v.post p' here refl refl refl (suc m) (kept (suc m) ne ∙ u) o)
      (quiet_on s.words ws qs id v.post p' here k (left h.history) t
      (λ seat' loose. kept v.post.number (out_of id v.post here seat' loose) ∙ t.quiet id v.post here seat' loose)
      (λ j q ne to seat' loose. kept q.number (out_of j q to seat' loose)))
    where
      count_one : (n o x : ℕ) → owed_count n ((o, x) ∷ []) ≡ cond (eqb o n) 1 0
      count_one n o x = by_test (eqb o n)
        where
          by_test : (b : Bool) → 0 + cond b 1 0 ≡ cond b 1 0
          by_test true = refl
          by_test false = refl

-- the letters of a removal that takes what a seat offers
pub letters_are : (owner first : ℕ) → 1 ≤ owner → letters_from first (removal (suc owner)) ≡ (owner, first + 1) ∷ []
letters_are zero first low = absurd (omega arith)
letters_are (suc o) first low = refl
