-- The marks of one step on the history word, and the letters for them.
use Rattle.std.proofs.Common.{◌≡◌, ◌≢◌, ◌⊎◌, ℕ, zero, suc, ◌+◌, ◌≤◌, cond, eqb, List, [], ◌∷◌, ◌++◌, map, sym, refl, ap, ◌∙◌, subst, inl, inr, ⊎_elim, arith, Contains}
use Rattle.std.proofs.lemmas.Bool.Decides.{eqb_tells}
use Rattle.std.proofs.lemmas.List.{length-map}
use Rattle.std.proofs.lemmas.List.Sums.{sum_by-cons, sum_by-append}
use Rattle.pq_words.specs.declared.entries.Entry.{Entry}
use Rattle.pq_model.specs.declared.marks.Act.{Act}
use Rattle.pq_model.specs.declared.marks.Act.TheVariants.{Insert}
use Rattle.pq_model.specs.declared.marks.Reply.TheVariants.{Done}
use Rattle.pq_model.specs.declared.marks.Mark.{Mark}
use Rattle.pq_model.specs.declared.passes.Call.{Call}
use Rattle.pq_model.specs.History.{mark}
use Rattle.pq_model.specs.Passes.{call, calls_from}
use Rattle.pq_model.proofs.Lanes.{calls_from-own, calls_from-other, calls_from-append}
use Rattle.pq_seats.specs.Letters.{owed_count, owed_sum}
use Rattle.pq_seats.specs.Batches.{Batch, insert_of, marks_of, own_place, letters_of, letters_from}
use Rattle.pq_seats.specs.Allowed.{helps}
use Rattle.pq_seats.proofs.Lists.{test_same, test_other, in_first, in_later}

pub owed_count-cons : (m : ℕ) (x : ℕ × ℕ) (xs : List (ℕ × ℕ)) → owed_count m (x ∷ xs) ≡ cond (eqb x.0 m) 1 0 + owed_count m xs
owed_count-cons m x xs = sum_by-cons (λ (y : ℕ × ℕ). cond (eqb y.0 m) 1 0) x xs

pub owed_sum-cons : (m : ℕ) (x : ℕ × ℕ) (xs : List (ℕ × ℕ)) → owed_sum m (x ∷ xs) ≡ cond (eqb x.0 m) x.1 0 + owed_sum m xs
owed_sum-cons m x xs = sum_by-cons (λ (y : ℕ × ℕ). cond (eqb y.0 m) y.1 0) x xs

pub owed_count-append : (m : ℕ) (xs ys : List (ℕ × ℕ)) → owed_count m (xs ++ ys) ≡ owed_count m xs + owed_count m ys
owed_count-append m xs ys = sum_by-append (λ (y : ℕ × ℕ). cond (eqb y.0 m) 1 0) xs ys

pub owed_sum-append : (m : ℕ) (xs ys : List (ℕ × ℕ)) → owed_sum m (xs ++ ys) ≡ owed_sum m xs + owed_sum m ys
owed_sum-append m xs ys = sum_by-append (λ (y : ℕ × ℕ). cond (eqb y.0 m) y.1 0) xs ys

helps-cons : (m : ℕ) (x : ℕ × Entry) (xs : List (ℕ × Entry)) → helps m (x ∷ xs) ≡ cond (eqb x.0 m) 1 0 + helps m xs
helps-cons m x xs = sum_by-cons (λ (y : ℕ × Entry). cond (eqb y.0 m) 1 0) x xs

pub letters-count : (m at : ℕ) (hs : List (ℕ × Entry)) → owed_count m (letters_of at hs) ≡ helps m hs
letters-count m at [] = refl
letters-count m at (x ∷ xs) = owed_count-cons m (x.0, at + 1) (letters_of (at + 1) xs) ∙ (ap (λ (z : ℕ). cond (eqb x.0 m) 1 0 + z) (letters-count m (at + 1) xs) ∙ sym (helps-cons m x xs))

pub none_sum : (m : ℕ) (xs : List (ℕ × ℕ)) → owed_count m xs ≡ 0 → owed_sum m xs ≡ 0
none_sum m [] e = refl
none_sum m (x ∷ xs) e = let c = owed_count-cons m x xs in let d = owed_sum-cons m x xs in ⊎_elim
    (λ t. let a = test_same x.0 m 1 0 t.1 in absurd (omega arith))
    (λ t. let a = test_other x.0 m 1 0 t.1 in let b = test_other x.0 m x.1 0 t.1 in let r = none_sum m xs (omega arith) in omega arith)
    (eqb_tells x.0 m)

-- the inserts have none of this seat
pub help_none : (m at : ℕ) (hs : List (ℕ × Entry)) → helps m hs ≡ 0 → calls_from m at (map insert_of hs) ≡ []
help_none m at [] e = refl
help_none m at (x ∷ xs) e = let c = helps-cons m x xs in ⊎_elim
    (λ t. let a = test_same x.0 m 1 0 t.1 in absurd (omega arith))
    (λ t. let a = test_other x.0 m 1 0 t.1 in calls_from-other m at (insert_of x) (map insert_of xs) t.1 ∙ help_none m (at + 1) xs (omega arith))
    (eqb_tells x.0 m)

-- the one insert of the seat m stands at this place
pub record Helped (m at : ℕ) (made : List Call) (sum : ℕ) : Type 0 where
  pub place : ℕ
  pub entry : Entry
  pub calls : made ≡ call place (Insert entry) Done ∷ []
  pub letter : sum ≡ place + 1
  pub late : at ≤ place

mine_first : (m at : ℕ) (x : ℕ × Entry) (xs : List Mark) → x.0 ≡ m → calls_from m at (insert_of x ∷ xs) ≡ call at (Insert x.1) Done ∷ calls_from m (at + 1) xs
mine_first m at x xs e = subst (λ (z : ℕ). calls_from z at (insert_of x ∷ xs) ≡ call at (Insert x.1) Done ∷ calls_from z (at + 1) xs) e (calls_from-own at (insert_of x) xs)

pub help_one : (m at : ℕ) (hs : List (ℕ × Entry)) → helps m hs ≡ 1
    → (h : Helped m at (calls_from m at (map insert_of hs)) (owed_sum m (letters_of at hs))) × Contains hs (m, h.entry)
help_one m at [] e = absurd (omega arith)
help_one m at (x ∷ xs) e = let c = helps-cons m x xs in let d = owed_sum-cons m (x.0, at + 1) (letters_of (at + 1) xs) in ⊎_elim
    (λ t. let a = test_same x.0 m 1 0 t.1 in let b = test_same x.0 m (at + 1) 0 t.1 in let none : helps m xs ≡ 0 = omega arith in
    let z = none_sum m (letters_of (at + 1) xs) (letters-count m (at + 1) xs ∙ none) in
    let more = help_none m (at + 1) xs none in (
      record {
        place = at;
        entry = x.1;
        calls = mine_first m at x (map insert_of xs) t.1 ∙ ap (λ (z : List Call). call at (Insert x.1) Done ∷ z) more;
        letter = omega arith;
        late = omega arith;
      },
      subst (λ (z : ℕ). Contains (x ∷ xs) (z, x.1)) t.1 (in_first x xs),
    ))
    (λ t. let a = test_other x.0 m 1 0 t.1 in let b = test_other x.0 m (at + 1) 0 t.1 in let r = help_one m (at + 1) xs (omega arith) in let l = r.0.letter in let h = r.0.late in (
      record {
        place = r.0.place;
        entry = r.0.entry;
        calls = calls_from-other m at (insert_of x) (map insert_of xs) t.1 ∙ r.0.calls;
        letter = omega arith;
        late = omega arith;
      },
      in_later x (m, r.0.entry) xs r.1,
    ))
    (eqb_tells x.0 m)

which : (a b : ℕ) → a + b ≡ 1 → ((a ≡ 1) × (b ≡ 0)) ⊎ ((a ≡ 0) × (b ≡ 1))
which zero b e = inr (refl, omega arith)
which (suc a) b e = inl (omega arith, omega arith)

module _ (m at me : ℕ) (act : Act) (b : Batch) where
  abbrev own : ℕ
  own = own_place at b

  abbrev mine : Call
  mine = call own act b.reply

  abbrev tail_at : ℕ
  tail_at = own + 1

  abbrev tail : List Mark
  tail = map insert_of b.after

  parts : calls_from m at (marks_of me act b) ≡ calls_from m at (map insert_of b.before) ++ calls_from m own (mark me act b.reply ∷ tail)
  parts = calls_from-append m at (map insert_of b.before) (mark me act b.reply ∷ tail)
      ∙ ap (λ (z : ℕ). calls_from m at (map insert_of b.before) ++ calls_from m (at + z) (mark me act b.reply ∷ tail)) (length-map b.before insert_of)

  own_same : me ≡ m → calls_from m own (mark me act b.reply ∷ tail) ≡ mine ∷ calls_from m tail_at tail
  own_same e = subst (λ (z : ℕ). calls_from z own (mark me act b.reply ∷ tail) ≡ mine ∷ calls_from z tail_at tail) e (calls_from-own own (mark me act b.reply) tail)

  own_other : me ≢ m → calls_from m own (mark me act b.reply ∷ tail) ≡ calls_from m tail_at tail
  own_other ne = calls_from-other m own (mark me act b.reply) tail ne

  abbrev pub all_helps : ℕ
  all_helps = helps m b.before + helps m b.after

  pub new-count : owed_count m (letters_from at b) ≡ all_helps
  new-count = owed_count-append m (letters_of at b.before) (letters_of tail_at b.after) ∙ (λ j. letters-count m at b.before j + letters-count m tail_at b.after j)

  pub new-sum : owed_sum m (letters_from at b) ≡ owed_sum m (letters_of at b.before) + owed_sum m (letters_of tail_at b.after)
  new-sum = owed_sum-append m (letters_of at b.before) (letters_of tail_at b.after)

  no_sum : all_helps ≡ 0 → owed_sum m (letters_from at b) ≡ 0
  no_sum e = none_sum m (letters_from at b) (new-count ∙ e)

  pub batch_none : all_helps ≡ 0 → me ≢ m → (calls_from m at (marks_of me act b) ≡ []) × (owed_sum m (letters_from at b) ≡ 0)
  batch_none e n = let p = help_none m at b.before (omega arith) in let q = help_none m tail_at b.after (omega arith) in
      (parts ∙ (λ j. p j ++ (own_other n ∙ q) j), no_sum e)

  pub batch_mine : all_helps ≡ 0 → me ≡ m → (calls_from m at (marks_of me act b) ≡ mine ∷ []) × (owed_sum m (letters_from at b) ≡ 0)
  batch_mine e n = let p = help_none m at b.before (omega arith) in let q = help_none m tail_at b.after (omega arith) in
      (parts ∙ (λ j. p j ++ (own_same n ∙ ap (λ (z : List Call). mine ∷ z) q) j), no_sum e)

  pub batch_one : all_helps ≡ 1 → me ≢ m
      → (h : Helped m at (calls_from m at (marks_of me act b)) (owed_sum m (letters_from at b))) × (Contains b.before (m, h.entry) ⊎ Contains b.after (m, h.entry))
  batch_one e n = ⊎_elim
      (λ t. let r = help_one m at b.before t.0 in let q = help_none m tail_at b.after t.1 in let l = r.0.letter in let z = none_sum m (letters_of tail_at b.after) (letters-count m tail_at b.after ∙ t.1) in let sum = new-sum in (
        record {
          place = r.0.place;
          entry = r.0.entry;
          calls = parts ∙ (λ j. r.0.calls j ++ (own_other n ∙ q) j);
          letter = omega arith;
          late = r.0.late;
        },
        inl r.1,
      ))
      (λ t. let r = help_one m tail_at b.after t.1 in let q = help_none m at b.before t.0 in let l = r.0.letter in let late = r.0.late in let z = none_sum m (letters_of at b.before) (letters-count m at b.before ∙ t.0) in let sum = new-sum in (
        record {
          place = r.0.place;
          entry = r.0.entry;
          calls = parts ∙ (λ j. q j ++ (own_other n ∙ r.0.calls) j);
          letter = omega arith;
          late = omega arith;
        },
        inr r.1,
      ))
      (which (helps m b.before) (helps m b.after) e)
