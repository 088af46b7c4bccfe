-- The mound's own steps are allowed.
use Rattle.std.proofs.Common.{◌≡◌, ◌≢◌, ℕ, ◌+◌, ◌<◌, List, ◌∷◌, Some, None, inl, refl, sym, ap, ◌∙◌, arith}
use Rattle.std.specs.Prelude.{Contains}
use mathlib.Core.Option.{none}
use Rattle.atomic_table.specs.Table.{Me, step, keeps, Allows}
use Rattle.pq_words.specs.Limits.{raw_limit}
use Rattle.pq_seats.specs.declared.views.Limits.{Limits}
use Rattle.pq_seats.specs.declared.views.Post.{Post}
use Rattle.pq_seats.specs.declared.views.View.{View}
use Rattle.pq_seats.specs.Views.{with_post}
use Rattle.pq_seats.specs.Rules.{Holds}
use Rattle.pq_seats.proofs.Keeps.{limits_of, untouched}
use Rattle.pq_seats.proofs.Owning.{own_stays}
use Rattle.pq_mound.specs.declared.views.MoundPart.{MoundPart}
use Rattle.pq_mound.specs.declared.views.OwnCell.{OwnCell}
use Rattle.pq_mound.specs.Chains.{first_or}
use Rattle.pq_mound.specs.Layout.{cells_lock, free_word, count_word, entry_word, next_word}
use Rattle.pq_mound.specs.Ties.{entries_in}
use Rattle.pq_mound.specs.Rules.{mound_rule}
use Rattle.pq_mound.specs.Steps as steps
use Rattle.pq_mound.specs.LawsHold.{mound_laws}
use Rattle.pq_mound.specs.LawsHold.Locks.{low_is_no_lock, cell_is_no_lock}
use Rattle.pq_mound.proofs.FreeCells.{count_is, first_is, first_low, next_is, stores_count, takes_off, gives}
use Rattle.pq_mound.proofs.CellStores.{stores_next, stores_entry}

module _ (k : Limits) (slots id : ℕ) (me : Me (Unit {0}) (View MoundPart)) where
  -- a view with this post, beside what the seat has besides
  abbrev with_part : View MoundPart → Post MoundPart → Me (Unit {0}) (View MoundPart)
  with_part v p = (with_post v p, me.1)

  same_words : (v : View MoundPart) (o q : OwnCell) (entry next : OwnCell → ℕ) → Some o ≡ Some q
      → with_part v (steps.keeping v.post o.number (entry o) (next o))
      ≡ with_part v (steps.keeping v.post q.number (entry q) (next q))
  same_words v o q entry next e = let same : o ≡ q = cc in
      ap (λ (z : OwnCell). with_part v (steps.keeping v.post z.number (entry z) (next z))) same

  pub may_look_at_count : Contains me.0.post.locks cells_lock
      → Allows (Holds mound_rule k) slots id me count_word (λ n. n)
      (steps.looks_at_count (step slots count_word 0 0 none) me)
  may_look_at_count locked s h sized at small =
      (me.0, keeps, tt, untouched mound_rule k s h id me.0 count_word at, (refl, count_is k s h id me.0 at locked))

  pub may_look_at_free : me.0.post.number ≢ 0 → Contains me.0.post.locks cells_lock
      → Allows (Holds mound_rule k) slots id me free_word (λ n. n)
      (steps.looks_at_free (step slots free_word 0 0 none) me)
  may_look_at_free seated locked s h sized at small =
      let limits = ap (λ (z : Limits). z.capacity) (limits_of mound_rule k s h id me.0 at seated) in
      let low = first_low k s h id me.0 at locked in (
        me.0,
        keeps,
        tt,
        untouched mound_rule k s h id me.0 free_word at,
        (refl, first_is k s h id me.0 at locked, omega arith),
      )

  pub may_store_count : (x : ℕ) → me.0.post.number ≢ 0 → Contains me.0.post.locks cells_lock
      → Allows (Holds mound_rule k) slots id me count_word (λ _. x)
      (λ _. steps.stores_count (step slots count_word x 0 none) me x)
  may_store_count x seated locked s h sized at small = let v = me.0 in (
    with_post v (steps.counting v.post x),
    keeps,
    tt,
    own_stays mound_rule k mound_laws s h id v (steps.counting v.post x) at seated
        (record { number = refl; locks = refl; owed = refl; flight = inl refl }) count_word x (omega arith)
        (low_is_no_lock k.capacity count_word (λ e. omega arith) (omega arith)) (stores_count k s h id v at x locked),
    refl,
  )

  pub may_look_at_next : (n : ℕ) (rest : List ℕ) → Contains me.0.post.locks cells_lock → me.0.post.own.free ≡ n ∷ rest
      → Allows (Holds mound_rule k) slots id me (next_word k.capacity n) (λ m. m)
      (steps.looks_at_next (step slots (next_word k.capacity n) 0 0 none) me)
  may_look_at_next n rest locked is s h sized at small = (
    me.0,
    keeps,
    tt,
    untouched mound_rule k s h id me.0 (next_word k.capacity n) at,
    (refl, λ others m also. next_is k s h id me.0 at n rest locked is ∙ same_rest n m rest others (sym is ∙ also)),
  )
    where
      same_rest : (n m : ℕ) (rest others : List ℕ) → n ∷ rest ≡ m ∷ others → first_or rest 0 ≡ first_or others 0
      same_rest n m rest others e = let same : rest ≡ others = cc in ap (λ (z : List ℕ). first_or z 0) same

  pub may_take_off : (n x : ℕ) (rest : List ℕ) → me.0.post.number ≢ 0 → Contains me.0.post.locks cells_lock
      → me.0.post.own.free ≡ n ∷ rest → me.0.post.own.held ≡ None → x ≡ first_or rest 0
      → Allows (Holds mound_rule k) slots id me free_word (λ _. x)
      (λ _. steps.takes_off (step slots free_word x 0 none) me x)
  may_take_off n x rest seated locked is bare first s h sized at small = let v = me.0 in
      let entry : ℕ = entries_in k.capacity s.words n in
      let p : Post MoundPart = steps.taking v.post n rest entry x in (
        with_post v p,
        keeps,
        tt,
        own_stays mound_rule k mound_laws s h id v p at seated
            (record { number = refl; locks = refl; owed = refl; flight = inl refl }) free_word x (omega arith)
            (low_is_no_lock k.capacity free_word (λ e. omega arith) (omega arith))
            (takes_off k s h id v at n x rest locked is bare first),
        (λ others m also. (entry, same_taking v n m rest others entry x (sym is ∙ also))),
      )
    where
      same_taking : (v : View MoundPart) (n m : ℕ) (rest others : List ℕ) (entry x : ℕ) → n ∷ rest ≡ m ∷ others
          → with_part v (steps.taking v.post n rest entry x) ≡ with_part v (steps.taking v.post m others entry x)
      same_taking v n m rest others entry x e = let number : n ≡ m = cc in let same : rest ≡ others = cc in
          λ j. with_part v (steps.taking v.post (number j) (same j) entry x)

  pub may_give : (o : OwnCell) (x : ℕ) → me.0.post.number ≢ 0 → Contains me.0.post.locks cells_lock
      → me.0.post.own.held ≡ Some o → o.next ≡ first_or me.0.post.own.free 0 → x ≡ o.number + 1
      → Allows (Holds mound_rule k) slots id me free_word (λ _. x)
      (λ _. steps.gives (step slots free_word x 0 none) me x)
  may_give o x seated locked is next named s h sized at small = let v = me.0 in
      let p : Post MoundPart = steps.giving v.post o.number in (
        with_post v p,
        keeps,
        tt,
        own_stays mound_rule k mound_laws s h id v p at seated
            (record { number = refl; locks = refl; owed = refl; flight = inl refl }) free_word x (omega arith)
            (low_is_no_lock k.capacity free_word (λ e. omega arith) (omega arith))
            (gives k s h id v at o x locked is next named),
        (λ q also. same_giving v o q (sym is ∙ also)),
      )
    where
      same_giving : (v : View MoundPart) (o q : OwnCell) → Some o ≡ Some q
          → with_part v (steps.giving v.post o.number) ≡ with_part v (steps.giving v.post q.number)
      same_giving v o q e = let same : o ≡ q = cc in
          ap (λ (z : OwnCell). with_part v (steps.giving v.post z.number)) same

  -- a store to a word of the cell that the seat holds
  pub may_store_next : (o : OwnCell) (x : ℕ) → me.0.post.number ≢ 0 → me.0.post.own.held ≡ Some o
      → Allows (Holds mound_rule k) slots id me (next_word k.capacity o.number) (λ _. x)
      (λ _. steps.stores_next (step slots (next_word k.capacity o.number) x 0 none) me x)
  may_store_next o x seated holds s h sized at small = let v = me.0 in
      let p : Post MoundPart = steps.keeping v.post o.number o.entry x in (
        with_post v p,
        keeps,
        tt,
        own_stays mound_rule k mound_laws s h id v p at seated
            (record { number = refl; locks = refl; owed = refl; flight = inl refl }) (next_word k.capacity o.number) x
            (omega arith) (cell_is_no_lock k.capacity (next_word k.capacity o.number) (omega arith))
            (stores_next k s h id v at o holds x),
        (λ q also. same_words v o q (λ z. z.entry) (λ z. x) (sym holds ∙ also)),
      )

  pub may_store_entry : (o : OwnCell) (x : ℕ) → me.0.post.number ≢ 0 → me.0.post.own.held ≡ Some o → x < raw_limit
      → Allows (Holds mound_rule k) slots id me (entry_word k.capacity o.number) (λ _. x)
      (λ _. steps.stores_entry (step slots (entry_word k.capacity o.number) x 0 none) me x)
  may_store_entry o x seated holds fits s h sized at small = let v = me.0 in
      let p : Post MoundPart = steps.keeping v.post o.number x o.next in (
        with_post v p,
        keeps,
        tt,
        own_stays mound_rule k mound_laws s h id v p at seated
            (record { number = refl; locks = refl; owed = refl; flight = inl refl }) (entry_word k.capacity o.number) x
            (omega arith) (cell_is_no_lock k.capacity (entry_word k.capacity o.number) (omega arith))
            (stores_entry k s h id v at o holds x fits),
        (λ q also. same_words v o q (λ z. x) (λ z. z.next) (sym holds ∙ also)),
      )
