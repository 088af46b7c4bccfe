-- The steps of the spot that the base does not make are allowed, each by the base's law for its kind.
use Rattle.std.proofs.Common.{◌≡◌, ◌≢◌, ◌⊎◌, Option, Some, None, ℕ, zero, suc, ◌+◌, ◌-◌, ◌%◌, ◌^◌, ◌<◌, ◌≤◌, eqb, List, [], ◌∷◌, map, length, get_or, set, refl, ap, ◌∙◌, sym, subst, inl, inr, ⊎_elim, arith, Contains}
use Rattle.std.proofs.Common.{get_or-set_same, get_or-set_other}
use Rattle.std.proofs.lemmas.List.{set-get_or}
use mathlib.Core.Option.{none}
use Rattle.atomic_table.specs.Table.{step, keeps, stepped, Allows}
use Rattle.atomic_table.proofs.Lists.{at_map, set_again}
use Rattle.pq_words.specs.declared.entries.Entry.{Entry}
use Rattle.pq_model.specs.declared.marks.Act.TheVariants.{Remove}
use Rattle.pq_model.specs.History.{IsLegalFrom, left_from, left}
use Rattle.pq_model.specs.Passes.{call}
use Rattle.pq_api.specs.Limits.{call_limit}
use Rattle.pq_api.specs.Answers.{MakesCall}
use Rattle.pq_seats.specs.declared.views.Limits.{Limits}
use Rattle.pq_seats.specs.declared.views.View.{View}
use Rattle.pq_seats.specs.Views.{post_of, known_of, with_post}
use Rattle.pq_seats.specs.Letters.{back}
use Rattle.pq_seats.specs.Batches.{Batch, insert_of, marks_of, own_place}
use Rattle.pq_seats.specs.Rules.{Table, Holds, Stands}
use Rattle.pq_seats.specs.Allowed.{IsOwnChange, Waits, Places, Helps, SendsBack}
use Rattle.pq_seats.specs.Laws.{MaySee, stepped_to, SilentStepsKeep, PlacingStepsKeep, HelpingStepsKeep, BackStepsKeep}
use Rattle.pq_seats.proofs.Lists.{not_in, in_cases}
use Rattle.pq_seats.proofs.Lengths.{short}
use Rattle.pq_seats.proofs.Waiting.{known_made}
use Rattle.pq_spot.specs.declared.views.SpotPart.{SpotPart}
use Rattle.pq_spot.specs.Spot.{token, part, lock_word, SpotTied, removal, spot_rule, accepted_post, refused_post, plain_removal, after_removal, removed_view, front_after, seen_view}
use Rattle.pq_spot.specs.Spot as spot
use Rattle.pq_spot.specs.LawsHold.{P}
use Rattle.pq_spot.proofs.Allows.{M, no_letter, old, numbered, holder_ties, entries_are, one_bit, helps_one, waiting, one_more_letter, places_one}

-- a front may rise to the length, or stays where an insert is in flight
seen_front : (o : Option Entry) (front long : ℕ) → front ≤ long → (front_after o front long ≡ front) ⊎ ((front ≤ front_after o front long) × (front_after o front long ≤ long) × (o ≡ None))
seen_front None front long le = inr (le, omega arith, refl)
seen_front (Some e) front long le = inl refl

-- a removal that looks for no offer is one mark, at the first place
one_mark : (c n : ℕ) → length (marks_of n Remove (plain_removal c)) ≡ 1
one_mark zero n = refl
one_mark (suc zero) n = refl
one_mark (suc (suc c)) n = refl

at_first : (c x : ℕ) → own_place x (plain_removal c) ≡ x
at_first zero x = omega arith
at_first (suc zero) x = omega arith
at_first (suc (suc c)) x = omega arith

module _ (k : Limits) where
  -- any seat may load the history word
  pub may_glance : SilentStepsKeep spot_rule → (slots id : ℕ) (me : M) → me.0.post.number ≢ 0 → Allows (Holds spot_rule k) slots id me 0 (λ n. n) (spot.sees (step slots 0 0 0 none) me)
  may_glance law slots id me ne s h sized at small =
      let v = me.0 in let qs = map post_of s.views in let x : ℕ = get_or s.words 0 0 in
      let counted : x ≡ length h.history = h.counted in
      let front = (h.each id v at).front in let few = short spot_rule k s h in
      let change : IsOwnChange v v.post = record { number = refl; locks = refl; owed = refl; flight = inl refl } in
      let sees : MaySee (length h.history) v (front_after v.post.flight v.front x) = ⊎_elim (λ e. inl e) (λ r. let b = r.1 in inr (r.0, omega arith, r.2)) (seen_front v.post.flight v.front x (omega arith)) in
      let tied : SpotTied k (set s.words 0 x) (set qs id v.post) (left h.history) =
      subst (λ (ws : List ℕ). SpotTied k ws (set qs id v.post) (left h.history)) (sym (set-get_or s.words 0 0))
      (subst (λ (ps : List P). SpotTied k s.words ps (left h.history)) (sym (set_again qs id v.post (at_map post_of s.views id v at))) h.tied) in
      (seen_view v x, keeps, tt, law k s h id v v.post (front_after v.post.flight v.front x) x at ne counted change sees tied, (refl, omega arith, omega arith))

  module _ (slots id : ℕ) (me : M) (has : Contains me.0.post.locks lock_word) where
    -- the holder of the lock may place the insert that another seat offers
    pub may_accept : HelpingStepsKeep spot_rule → (o : ℕ) → me.0.post.own.counted ≡ suc (suc o)
        → Allows (Holds spot_rule k) slots id me 0 (λ x. (x + 1) % 2 ^ 64) (spot.accepts (step slots 0 1 0 none) me)
    may_accept law o is s h sized at small =
        let v = me.0 in let t = h.tied in let mine = old k s h id v at has in
        let few = short spot_rule k s h in let x : ℕ = get_or s.words 0 0 in let counted : x ≡ length h.history = h.counted in
        let e : left h.history ≡ [] = entries_are k id v has s h at (suc (suc o)) is in
        let f = t.offers o (sym mine.0 ∙ is) in
        let owner : v.post.own.counted - 1 ≡ suc o = omega arith in
        let hs : List (ℕ × Entry) = (suc o, token) ∷ [] in
        let p' : P = accepted_post v.post (suc o) (length h.history) in
        let other : (i : ℕ) → i ≢ 0 → get_or (set s.words 0 (x + 1)) i 0 ≡ get_or s.words i 0 = λ i d. get_or-set_other s.words 0 i (x + 1) 0 d in
        let d : Helps spot_rule k id v hs p'.own (x + 1) s h = record {
          legal = subst (λ (l : List Entry). IsLegalFrom k.seats k.capacity l (map insert_of hs)) (sym e) (let room = t.room in omega arith, tt);
          apart = λ m. let y = helps_one (suc o) m in let z = one_bit (eqb (suc o) m) in omega arith;
          waiting = λ y has'. ⊎_elim (λ q. subst (λ (z : ℕ × Entry). Waits s z.0 z.1) q (waiting s o f)) (λ q. absurd (not_in y q)) (in_cases (suc o, token) y [] has');
          longer = ap (λ (z : ℕ). z + 1) counted;
          tied = holder_ties k s h id v at has 0 (x + 1) p' 1 _ (λ z. omega arith) refl (mine.1 ∙ sym (other 18 (λ z. omega arith)))
              (ap (λ (l : List Entry). left_from l (map insert_of hs)) e) (λ m q. absurd (omega arith))
              (one_more_letter k s h id v at (suc o) f p' (length h.history + 1) refl refl refl (set s.words 0 (x + 1)) (λ m seat. let low = seat.0 in other m (λ z. omega arith)));
        } in
        let now = law k s h id v hs p'.own (x + 1) at (numbered k s h id v at has) d in
        let w : View SpotPart = with_post v (accepted_post v.post (v.post.own.counted - 1) x) in
        let there : Holds spot_rule k (stepped_to s 0 (x + 1) id w) =
        subst (λ (z : ℕ). Holds spot_rule k (stepped_to s 0 (x + 1) id (with_post v (accepted_post v.post z x)))) (sym owner)
        (subst (λ (z : ℕ). Holds spot_rule k (stepped_to s 0 (x + 1) id (with_post v (accepted_post v.post (suc o) z)))) (sym counted) now) in
        let same : (x + 1) % 2 ^ 64 ≡ x + 1 = omega arith in
        (w, keeps, tt, subst (λ (z : ℕ). Holds spot_rule k (stepped s 0 z id me.1 w keeps)) (sym same) there, (refl, omega arith))

    -- or send it back
    pub may_refuse : BackStepsKeep spot_rule → (o : ℕ) → me.0.post.own.counted ≡ suc (suc o)
        → Allows (Holds spot_rule k) slots id me 18 (λ _. 0) (λ _. spot.refuses (step slots 18 0 0 none) me 0)
    may_refuse law o is s h sized at small =
        let v = me.0 in let t = h.tied in let mine = old k s h id v at has in let wide = h.width in
        let f = t.offers o (sym mine.0 ∙ is) in
        let owner : v.post.own.counted - 1 ≡ suc o = omega arith in
        let p' : P = refused_post v.post (suc o) in
        let d : SendsBack spot_rule k id v (suc o) p'.own 18 0 s h = record {
          entry = token;
          waiting = waiting s o f;
          tied = holder_ties k s h id v at has 18 0 p' 0 (left h.history) (λ z. omega arith) refl (sym (get_or-set_same s.words 18 0 0 (omega arith)))
              (entries_are k id v has s h at (suc (suc o)) is) (λ m q. absurd (omega arith))
              (one_more_letter k s h id v at (suc o) f p' back refl refl refl (set s.words 18 0) (λ m seat. let high = seat.1 in get_or-set_other s.words 18 m 0 0 (λ z. omega arith)));
        } in
        let now = law k s h id v (suc o) p'.own 18 0 at (numbered k s h id v at has) (omega arith) refl d in (
          with_post v (refused_post v.post (v.post.own.counted - 1)),
          keeps,
          tt,
          subst (λ (z : ℕ). Holds spot_rule k (stepped_to s 18 0 id (with_post v (refused_post v.post z)))) (sym owner) now,
          refl,
        )

    -- or place a removal of what is in the queue, whatever that is
    pub may_remove : PlacingStepsKeep spot_rule → me.0.post.flight ≡ None → length (known_of me.0).calls < call_limit - 1
        → Allows (Holds spot_rule k) slots id me 0 (λ x. (x + 1) % 2 ^ 64) (spot.removes (step slots 0 1 0 none) me)
    may_remove law quiet room s h sized at small =
        let v = me.0 in let c : ℕ = v.post.own.counted in let b : Batch = plain_removal c in let n : ℕ = v.post.number in
        let own : SpotPart = part v.post.own.stored (after_removal c) v.post.own.out in
        let ne = numbered k s h id v at has in let f = h.each id v at in let front = f.front in
        let few = short spot_rule k s h in let x : ℕ = get_or s.words 0 0 in let counted : x ≡ length h.history = h.counted in
        let longer : x + 1 ≡ length h.history + length (marks_of n Remove b) = (let a = one_mark c n in omega arith) in
        let w : View SpotPart = removed_view v x in
        let now = law k s h id v Remove b own (x + 1) at ne (found s h at c refl) longer room in
        let there : Holds spot_rule k (stepped_to s 0 (x + 1) id w) =
        subst (λ (z : ℕ). Holds spot_rule k (stepped_to s 0 (x + 1) id (removed_view v z))) (sym counted) now in
        let same : (x + 1) % 2 ^ 64 ≡ x + 1 = omega arith in
        let made : MakesCall (known_of v) (own_place x b) Remove b.reply (known_of w) = (let first = at_first c x in omega arith, known_made v w (call (own_place x b) Remove b.reply) (f.first ne) refl refl refl) in (
          w,
          keeps,
          tt,
          subst (λ (z : ℕ). Holds spot_rule k (stepped s 0 z id me.1 w keeps)) (sym same) there,
          (refl, omega arith, subst (λ (z : ℕ). MakesCall (known_of v) z Remove b.reply (known_of w)) (at_first c x) made),
        )
      where
        -- the step finds its batch
        found : (s : Table SpotPart) (h : Holds spot_rule k s) (at : Stands spot_rule s id me.0) (c : ℕ) → me.0.post.own.counted ≡ c
            → Places spot_rule k id me.0 Remove (plain_removal c) (part me.0.post.own.stored (after_removal c) me.0.post.own.out) (get_or s.words 0 0 + 1) s h
        found s h at zero is = let e = entries_are k id me.0 has s h at 0 is in
            places_one k id me.0 has s h at Remove (removal 0) 0 (get_or s.words 0 0 + 1) me.0.post.own.out refl refl (inl (omega arith)) (e, tt) e (no_letter k s h id me.0 at (numbered k s h id me.0 at has) quiet)
        found s h at (suc zero) is = let e = entries_are k id me.0 has s h at 1 is in
            places_one k id me.0 has s h at Remove (removal 1) 0 (get_or s.words 0 0 + 1) me.0.post.own.out refl refl (inl (omega arith))
            (subst (λ (l : List Entry). IsLegalFrom k.seats k.capacity l (marks_of me.0.post.number Remove (removal 1))) (sym e) (refl, tt))
            (ap (λ (l : List Entry). left_from l (marks_of me.0.post.number Remove (removal 1))) e) (no_letter k s h id me.0 at (numbered k s h id me.0 at has) quiet)
        found s h at (suc (suc n)) is = let e = entries_are k id me.0 has s h at (suc (suc n)) is in
            places_one k id me.0 has s h at Remove (removal 0) (suc (suc n)) (get_or s.words 0 0 + 1) me.0.post.own.out refl refl (inr (sym is, quiet, refl)) (e, tt) e
            (no_letter k s h id me.0 at (numbered k s h id me.0 at has) quiet)
