-- The lines of a plan that were read, and those that are found where they are spelled.
use Rattle.std.proofs.Common.{◌≡◌, ℕ, zero, suc, ◌+◌, ◌<◌, ◌≤◌, cond, ltb, List, [], ◌∷◌, ◌++◌, length, codes, Result, Ok, Err, refl, sym, ap, subst, ◌∙◌, arith}
use Rattle.std.specs.List.{AllByRecursion}
use Rattle.std.proofs.lemmas.Bool.{ltb-true, lt-ltb}
use Rattle.std.proofs.lemmas.List.{append-nil}
use Rattle.pq_io.specs.declared.text.fault.Cause.{Cause}
use Rattle.pq_io.specs.declared.text.fault.Cause.TheVariants.{Range}
use Rattle.pq_io.specs.Lines.{Line}
use Rattle.pq_io.specs.Reading.{◌>>=◌, Read, Spells, number_at, number_of, after_word, at_line_end}
use Rattle.pq_io.proofs.Binds.{ok_is, bind_ok, guard_ok}
use Rattle.pq_io.proofs.Plain.{number_spelled}
use Rattle.pq_io.proofs.Taken.{number_of_is, number_taken, number_found, fixed_taken, fixed_found, line_ends, end_found}
use Rattle.inst_text.specs.Limits.{max_total, max_stated}
use Rattle.inst_text.specs.Several.{several, EachLine}
use Rattle.inst_text.specs.Knapsack.{AreNumbers}
use Rattle.inst_text.specs.Shop.{AreStarts}
use Rattle.inst_text.specs.Plans.{stated_of, item_number_of, item_numbers_of, choice_of, starts_on, start_row_of, SpellsStated, SpellNumbers, SpellsItems}
use Rattle.inst_text.proofs.OneByOne.{EachReads, before}

abbrev Words : Type 0
Words = List (List ℕ)

-- the stated number

pub record StatedTaken (fixed : List ℕ) (words : Words) (n : ℕ) : Type 0 where
  pub spells : SpellsStated fixed words n
  pub limit : n ≤ max_stated

pub stated_taken : (fixed : List ℕ) (words : Words) (n : ℕ) → stated_of fixed words ≡ Ok n → StatedTaken fixed words n
unfolding stated_of
stated_taken fixed words n e =
    let a = bind_ok (after_word fixed words) (λ rest. number_at 0 max_stated rest >>= λ number. at_line_end number.rest >>= λ end. Ok number.value) n e in
    let b = bind_ok (number_at 0 max_stated a.0) (λ number. at_line_end number.rest >>= λ end. Ok number.value) n a.2 in
    let z = bind_ok (at_line_end b.0.rest) (λ end. Ok b.0.value) n b.2 in
    let v = number_taken 0 max_stated a.0 b.0 b.1 in
    let last : b.0.rest ≡ [] = line_ends b.0.rest z.0 z.1 in
    let whole : fixed ∷ v.word ∷ [] ≡ words = sym (fixed_taken fixed words a.0 a.1 ∙ ap (λ (t : Words). fixed ∷ t) (v.first ∙ ap (λ (t : Words). v.word ∷ t) last)) in
    let here : SpellsStated fixed words b.0.value = subst (λ (t : Words). SpellsStated fixed t b.0.value) whole (refl, v.spells) in
    subst (λ k. StatedTaken fixed words k) (ok_is b.0.value n z.2) (record { spells = here; limit = v.below })

pub stated_found : (fixed : List ℕ) (words : Words) (n : ℕ) → SpellsStated fixed words n → n ≤ max_stated → stated_of fixed words ≡ Ok n
unfolding stated_of
stated_found fixed [] n spells limit = absurd spells
stated_found fixed (v ∷ []) n spells limit = absurd spells
stated_found fixed (v ∷ w ∷ []) n spells limit =
    rw (spells.0, fixed_found fixed (w ∷ []), number_found 0 max_stated w [] n spells.1 (omega arith) limit, end_found) refl
stated_found fixed (v ∷ w ∷ x ∷ ws) n spells limit = absurd spells

-- item numbers

record ItemNumberTaken (n low : ℕ) (word : List ℕ) (k : ℕ) : Type 0 where
  spells : Spells word k
  above : low ≤ k
  below : k < n

item_number_taken : (n low : ℕ) (word : List ℕ) (k : ℕ) → item_number_of n low word ≡ Ok k → ItemNumberTaken n low word k
unfolding item_number_of
item_number_taken n low word k e =
    let a = bind_ok (number_of low n word) (λ number. cond (ltb number n) (Ok number) (Err Range)) k e in
    let b = guard_ok (ltb a.0 n) a.0 k Range a.2 in
    let v = number_of_is low n word a.0 a.1 in
    subst (λ m. ItemNumberTaken n low word m) b.1 (record { spells = v.0; above = v.1; below = ltb-true a.0 n b.0 })

item_number_found : (n low : ℕ) (word : List ℕ) (k : ℕ) → Spells word k → low ≤ k → k < n → item_number_of n low word ≡ Ok k
unfolding item_number_of
item_number_found n low word k spells above below =
    let e : number_of low n word ≡ Ok k = number_spelled low n word spells.0 (omega (arith, spells.1)) (omega (arith, spells.1)) ∙ ap (λ m. Ok m) spells.1 in
    rw (e, lt-ltb k n below) refl

record NumbersTaken (n low : ℕ) (words : Words) (ks : List ℕ) : Type 0 where
  spells : SpellNumbers words ks
  are : AreNumbers low n ks

numbers_taken : (n low : ℕ) (words : Words) (ks : List ℕ) → item_numbers_of n low words ≡ Ok ks → NumbersTaken n low words ks
numbers_taken n low [] ks e = subst (λ (t : List ℕ). NumbersTaken n low [] t) (ok_is [] ks e) (record { spells = tt; are = tt })
numbers_taken n low (w ∷ ws) ks e =
    let a = bind_ok (item_number_of n low w) (λ number. item_numbers_of n (number + 1) ws >>= λ numbers. Ok (number ∷ numbers)) ks e in
    let b = bind_ok (item_numbers_of n (a.0 + 1) ws) (λ numbers. Ok (a.0 ∷ numbers)) ks a.2 in
    let v = item_number_taken n low w a.0 a.1 in
    let vs = numbers_taken n (a.0 + 1) ws b.0 b.1 in
    subst (λ (t : List ℕ). NumbersTaken n low (w ∷ ws) t) (ok_is (a.0 ∷ b.0) ks b.2) (record { spells = (v.spells, vs.spells); are = (v.above, v.below, vs.are) })

numbers_found : (n low : ℕ) (words : Words) (ks : List ℕ) → SpellNumbers words ks → AreNumbers low n ks → item_numbers_of n low words ≡ Ok ks
numbers_found n low [] [] spells are = refl
numbers_found n low [] (k ∷ ks) spells are = absurd spells
numbers_found n low (w ∷ ws) [] spells are = absurd spells
numbers_found n low (w ∷ ws) (k ∷ ks) spells are =
    rw (item_number_found n low w k spells.0 are.0 are.1, numbers_found n (k + 1) ws ks spells.1 are.2) refl

pub record ChoiceTaken (n : ℕ) (words : Words) (ks : List ℕ) : Type 0 where
  pub spells : SpellsItems words ks
  pub are : AreNumbers 0 n ks

pub choice_taken : (n : ℕ) (words : Words) (ks : List ℕ) → choice_of n words ≡ Ok ks → ChoiceTaken n words ks
unfolding choice_of
choice_taken n words ks e =
    let a = bind_ok (after_word (codes "items") words) (λ rest. item_numbers_of n 0 rest) ks e in
    let v = numbers_taken n 0 a.0 ks a.2 in
    subst (λ (t : Words). ChoiceTaken n t ks) (sym (fixed_taken (codes "items") words a.0 a.1)) (record { spells = (refl, v.spells); are = v.are })

pub choice_found : (n : ℕ) (words : Words) (ks : List ℕ) → SpellsItems words ks → AreNumbers 0 n ks → choice_of n words ≡ Ok ks
unfolding choice_of
choice_found n [] ks spells are = absurd spells
choice_found n (w ∷ ws) ks spells are = rw (spells.0, fixed_found (codes "items") ws, numbers_found n 0 ws ks spells.1 are) refl

-- start times

abbrev pub AreInTime : List ℕ → Type 0
AreInTime row = AllByRecursion (λ (t : ℕ). t ≤ max_total) row

record StartsTaken (n : ℕ) (words : Words) (x : Read (List ℕ) Words) : Type 0 where
  prefix : Words
  first : words ≡ prefix ++ x.rest
  spell : SpellNumbers prefix x.value
  count : length x.value ≡ n
  limits : AreInTime x.value

starts_taken : (n : ℕ) (words : Words) (x : Read (List ℕ) Words) → starts_on n words ≡ Ok x → StartsTaken n words x
unfolding several
starts_taken zero words x e =
    subst (λ (y : Read (List ℕ) Words). StartsTaken 0 words y) (ok_is (record { value = []; rest = words }) x e)
    (record { prefix = []; first = refl; spell = tt; count = refl; limits = tt })
starts_taken (suc n) words x e =
    let p = bind_ok (number_at 0 max_total words) (λ t. before t.value (starts_on n t.rest)) x e in
    let q = bind_ok (starts_on n p.0.rest) (λ ts. Ok (record { value = p.0.value ∷ ts.value; rest = ts.rest })) x p.2 in
    let v = number_taken 0 max_total words p.0 p.1 in
    let vs = starts_taken n p.0.rest q.0 q.1 in
    let made : Read (List ℕ) Words = record { value = p.0.value ∷ q.0.value; rest = q.0.rest } in
    subst (λ (y : Read (List ℕ) Words). StartsTaken (suc n) words y) (ok_is made x q.2)
    (record { prefix = v.word ∷ vs.prefix; first = v.first ∙ ap (λ (t : Words). v.word ∷ t) vs.first; spell = (v.spells, vs.spell); count = ap suc vs.count; limits = (v.below, vs.limits) })

starts_found : (words : Words) (row : List ℕ) → SpellNumbers words row → AreInTime row → starts_on (length row) words ≡ Ok (record { value = row; rest = [] })
unfolding several
starts_found [] [] spell limits = refl
starts_found [] (t ∷ ts) spell limits = absurd spell
starts_found (w ∷ ws) [] spell limits = absurd spell
starts_found (w ∷ ws) (t ∷ ts) spell limits =
    rw (number_found 0 max_total w ws t spell.0 (omega arith) limits.0, starts_found ws ts spell.1 limits.1) refl

record StartRowTaken (n : ℕ) (words : Words) (row : List ℕ) : Type 0 where
  spell : SpellNumbers words row
  count : length row ≡ n
  limits : AreInTime row

start_row_taken : (n : ℕ) (words : Words) (row : List ℕ) → start_row_of n words ≡ Ok row → StartRowTaken n words row
unfolding start_row_of
start_row_taken n words row e =
    let p = bind_ok (starts_on n words) (λ row. at_line_end row.rest >>= λ end. Ok row.value) row e in
    let z = bind_ok (at_line_end p.0.rest) (λ end. Ok p.0.value) row p.2 in
    let t = starts_taken n words p.0 p.1 in
    let whole : t.prefix ≡ words = sym (t.first ∙ ap (λ (r : Words). t.prefix ++ r) (line_ends p.0.rest z.0 z.1) ∙ append-nil t.prefix) in
    subst (λ (r : List ℕ). StartRowTaken n words r) (ok_is p.0.value row z.2)
    (record { spell = subst (λ (ws : Words). SpellNumbers ws p.0.value) whole t.spell; count = t.count; limits = t.limits })

start_row_found : (n : ℕ) (words : Words) (row : List ℕ) → length row ≡ n → SpellNumbers words row → AreInTime row → start_row_of n words ≡ Ok row
unfolding start_row_of
start_row_found n words row count spell limits =
    let e : starts_on n words ≡ Ok (record { value = row; rest = [] }) =
    subst (λ (k : ℕ). starts_on k words ≡ Ok (record { value = row; rest = [] })) count (starts_found words row spell limits) in
    rw (e, end_found) refl

abbrev pub row_reader : ℕ → Unit {0} → Words → Result (List ℕ) Cause
row_reader n = λ s. start_row_of n

abbrev pub same_state : {A : Type 0} → Unit {0} → A → Unit {0}
same_state s x = s

pub record AreStartRows (n : ℕ) (ls : List Line) (rows : List (List ℕ)) : Type 0 where
  pub spell : EachLine SpellNumbers ls rows
  pub steps : AllByRecursion (λ (row : List ℕ). length row ≡ n) rows
  pub limits : AreStarts rows

pub start_rows_are : (n : ℕ) (ls : List Line) (rows : List (List ℕ)) → EachReads (row_reader n) same_state tt ls rows → AreStartRows n ls rows
start_rows_are n [] [] each = record { spell = tt; steps = tt; limits = tt }
start_rows_are n [] (r ∷ rs) each = absurd each
start_rows_are n (l ∷ ls) [] each = absurd each
start_rows_are n (l ∷ ls) (r ∷ rs) each =
    let t = start_row_taken n l.words r each.0 in
    let ts = start_rows_are n ls rs each.1 in
    record { spell = (t.spell, ts.spell); steps = (t.count, ts.steps); limits = (t.limits, ts.limits) }

pub start_rows_read : (n : ℕ) (ls : List Line) (rows : List (List ℕ)) → AreStartRows n ls rows → EachReads (row_reader n) same_state tt ls rows
start_rows_read n [] [] are = tt
start_rows_read n [] (r ∷ rs) are = absurd are.spell
start_rows_read n (l ∷ ls) [] are = absurd are.spell
start_rows_read n (l ∷ ls) (r ∷ rs) are =
    (start_row_found n l.words r are.steps.0 are.spell.0 are.limits.0, start_rows_read n ls rs (record { spell = are.spell.1; steps = are.steps.1; limits = are.limits.1 }))
