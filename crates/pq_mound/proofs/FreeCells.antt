-- Taking and freeing the cells' lock, and the steps on the words of the free cells, keep the mound's facts.
use Rattle.std.proofs.Common.{◌≡◌, ◌≢◌, ℕ, ◌+◌, ◌<◌, ◌≤◌, List, [], ◌∷◌, length, get_or, set, Some, None, inr}
use Rattle.std.proofs.Common.{⊎_elim, refl, sym, ap}
use Rattle.std.proofs.Common.{◌∙◌, subst, arith, get_or-set_other, get_or-set_same}
use Rattle.std.specs.Prelude.{Contains, Option, cond, nat_lt}
use Rattle.std.proofs.lemmas.Bool.{cases_lt}
use Rattle.std.proofs.lemmas.Bool.Decides.{nat_tests}
use mathlib.Core.Option.{some}
use lib.ListN.{get_elem?}
use Rattle.atomic_table.proofs.Lists.{at_set}
use Rattle.pq_model.specs.History.{left}
use Rattle.pq_seats.specs.declared.views.Limits.{Limits}
use Rattle.pq_seats.specs.declared.views.Post.{Post}
use Rattle.pq_seats.specs.declared.views.View.{View}
use Rattle.pq_seats.specs.Views.{post_of}
use Rattle.pq_seats.specs.Posts.{with_lock, without_lock}
use Rattle.pq_seats.specs.Allowed.{MayTake, MayFree}
use Rattle.pq_seats.specs.Rules.{Table, Holds}
use Rattle.pq_seats.proofs.Lists.{at_unmap, in_later, in_cases, less_has, has_less}
use Rattle.pq_seats.proofs.Keeps.{limits_of, one_number}
use Rattle.pq_nodes.specs.Layout.{lock_of}
use Rattle.pq_nodes.proofs.Keeping.{frame_keeps}
use Rattle.pq_nodes.proofs.Tables.{same_locks, same_words}
use Rattle.pq_mound.specs.declared.views.MoundPart.{MoundPart}
use Rattle.pq_mound.specs.declared.views.OwnCell.{OwnCell}
use Rattle.pq_mound.specs.Cells.{times}
use Rattle.pq_mound.specs.Chains.{first_or, IsChain}
use Rattle.pq_mound.specs.Facts.{MoundFacts}
use Rattle.pq_mound.specs.Layout.{cells_lock, free_word, count_word, next_word}
use Rattle.pq_mound.specs.NodeParts.{mound_nodes}
use Rattle.pq_mound.specs.Steps.{counting, taking, giving}
use Rattle.pq_mound.specs.Ties.{entries_in, nexts_in, held_by, IsFreeList, IsAlone, MoundTied}
use Rattle.pq_mound.specs.Views.{own_cell, with_free, held_number}
use Rattle.pq_mound.specs.Rules.{mound_rule}
use Rattle.pq_mound.specs.LawsHold.Held.{held_same, held_times}
use Rattle.pq_mound.specs.LawsHold.Steps.{nexts_stay, ps, pat, steps, alone_stays}
use Rattle.pq_mound.proofs.Counts.{times-cons}
use Rattle.pq_mound.specs.LawsHold.Sums.{times-here}
use Rattle.pq_mound.proofs.Events.{counted, event_hands}

module _ (k : Limits) (s : Table MoundPart) (h : Holds mound_rule k s) (id : ℕ) (v : View MoundPart)
    (at : get_elem? s.views id ≡ some v) where
  abbrev qs : List (Post MoundPart)
  qs = ps k s h id v at

  abbrev t : MoundTied k s.words qs (left h.history)
  t = h.tied

  abbrev here : get_elem? qs id ≡ some v.post
  here = pat k s h id v at

  -- who holds the cells' lock has its number in the lock's word
  lock_named : (j : ℕ) (q : Post MoundPart) → get_elem? qs j ≡ some q → Contains q.locks cells_lock
      → (get_or s.words cells_lock 0 ≡ q.number) × (q.number ≢ 0)
  lock_named j q to has = let w = at_unmap post_of s.views j q to in
      let number : w.0.post.number ≡ q.number = ap (λ (z : Post MoundPart). z.number) w.2 in
      let held = (h.each j w.0 w.1).held cells_lock
      (subst (λ (z : Post MoundPart). Contains z.locks cells_lock) (sym w.2) has) in
      let word = held.1 in let some_number = held.2 in (word ∙ number, λ z. some_number (number ∙ z))

  -- and is alone in that
  lock_alone : (j : ℕ) (q : Post MoundPart) → j ≢ id → get_elem? qs j ≡ some q → Contains q.locks cells_lock
      → Contains v.post.locks cells_lock → ⊥
  lock_alone j q ne to theirs mine = let w = at_unmap post_of s.views j q to in
      let a = lock_named j q to theirs in let b = lock_named id v.post here mine in
      let number : w.0.post.number ≡ q.number = ap (λ (z : Post MoundPart). z.number) w.2 in
      ne (one_number mound_rule k s h id j v w.0 at w.1 b.1 (sym b.0 ∙ (a.0 ∙ sym number)))

  -- A step on a word before the nodes, after which the seat guards what it guarded
  pub low_step : (i x : ℕ) → 20 < i → i < 32 → (p' : Post MoundPart) (free : List ℕ) → p'.own.guards ≡ v.post.own.guards
      → ((n : ℕ) → Contains v.post.locks (lock_of n) → Contains p'.locks (lock_of n))
      → ((n : ℕ) → Contains p'.locks (lock_of n) → Contains v.post.locks (lock_of n))
      → MoundFacts k.capacity free (held_by (set qs id p')) t.nodes (left h.history)
      → IsFreeList k.capacity (set s.words i x) (set qs id p') free
      → IsAlone k.capacity s.words p'
      → MoundTied k (set s.words i x) (set qs id p') (left h.history)
  low_step i x far low p' free guards more fewer facts cells alone =
      steps k s h id v at i x (omega arith) p' free t.nodes (left h.history) (inr (omega arith)) (λ e. omega arith)
      (λ n lt e. absurd (omega arith)) refl
      (frame_keeps mound_nodes s.words qs t.nodes t.tree id v.post here (set s.words i x) p'
      (same_locks s.words i x low) (same_words s.words i x low) guards more fewer)
      facts t.linked cells alone

  -- and holds the cell that it held
  steady_step : (i x : ℕ) → 20 < i → i < 32 → (p' : Post MoundPart) → p'.own.guards ≡ v.post.own.guards
      → p'.own.held ≡ v.post.own.held → p'.flight ≡ v.post.flight → p'.owed ≡ v.post.owed
      → ((n : ℕ) → Contains v.post.locks (lock_of n) → Contains p'.locks (lock_of n))
      → ((n : ℕ) → Contains p'.locks (lock_of n) → Contains v.post.locks (lock_of n))
      → IsFreeList k.capacity (set s.words i x) (set qs id p') t.free
      → MoundTied k (set s.words i x) (set qs id p') (left h.history)
  steady_step i x far low p' guards held flight owed more fewer cells =
      low_step i x far low p' t.free guards more fewer
      (subst (λ (z : List ℕ). MoundFacts k.capacity t.free z t.nodes (left h.history))
      (sym (held_same qs id v.post p' here (ap held_number held))) t.facts)
      cells (alone_stays k s h id v at p' flight owed held)

  -- The count is stored, under the cells' lock
  pub stores_count : (x : ℕ) → Contains v.post.locks cells_lock
      → MoundTied k (set s.words count_word x) (set qs id (counting v.post x)) (left h.history)
  stores_count x locked = let p' : Post MoundPart = counting v.post x in let long = t.long in
      let f = t.cells in let mine = f.named id v.post here locked in
      let at_count : get_or (set s.words 26 x) 26 0 ≡ x = get_or-set_same s.words 26 x 0 (omega arith) in
      let named = lock_named id v.post here locked in
      steady_step count_word x (omega arith) (omega arith) p' refl refl refl refl (λ n has. has)
      (λ n has. has) (record {
        chained = subst (λ (g : ℕ → ℕ). IsChain g t.free 0)
            (sym (nexts_stay k.capacity s.words count_word x (omega arith))) f.chained;
        starts = get_or-set_other s.words 26 25 x 0 (λ e. omega arith) ∙ f.starts;
        counted = λ z. let same = get_or-set_other s.words 26 24 x 0 (λ e. omega arith) in
            absurd (named.1 (sym named.0 ∙ (sym same ∙ z)));
        named = λ j q to has. ⊎_elim
            (λ e. (
              ap (λ (z : Post MoundPart). z.own.free) (sym e.1) ∙ mine.0,
              ap (λ (z : Post MoundPart). z.own.count) (sym e.1) ∙ sym at_count,
            ))
            (λ a. absurd (lock_alone j q a.0 a.1 has locked)) (at_set qs id j p' q to);
      })

  -- the free cells, and their count, as the view names them
  pub count_is : Contains v.post.locks cells_lock → get_or s.words count_word 0 ≡ v.post.own.count
  count_is locked = sym (t.cells.named id v.post here locked).1

  pub first_is : Contains v.post.locks cells_lock → get_or s.words free_word 0 ≡ first_or v.post.own.free 0
  first_is locked = t.cells.starts
      ∙ ap (λ (z : List ℕ). first_or z 0) (sym (t.cells.named id v.post here locked).0)

  -- a free cell is one of the cells
  free_low : (free : List ℕ) → t.free ≡ free → first_or free 0 ≤ k.capacity
  free_low [] is = omega arith
  free_low (n ∷ rest) is = let once = t.facts.dealt.once n in let some_free = times-here n rest in
      let same : times n t.free ≡ times n (n ∷ rest) = ap (times n) is in
      let low : n < k.capacity = below n k.capacity (times n t.free) (omega arith) (λ far. let none : cond {A = ℕ}
      (nat_lt n k.capacity) 1 0 ≡ 0 = grind (arith, nat_tests) in omega arith) in omega arith
    where
      below : (n c x : ℕ) → 1 ≤ x → (c ≤ n → ⊥) → n < c
      below n c x some_free never = ⊎_elim (λ lt. lt) (λ far. absurd (never far)) (cases_lt n c)

  pub first_low : Contains v.post.locks cells_lock → get_or s.words free_word 0 ≤ k.capacity
  first_low locked = let low = free_low t.free refl in let is = t.cells.starts in omega arith

  -- the next word of the first free cell
  pub next_is : (n : ℕ) (rest : List ℕ) → Contains v.post.locks cells_lock → v.post.own.free ≡ n ∷ rest
      → get_or s.words (next_word k.capacity n) 0 ≡ first_or rest 0
  next_is n rest locked is = let chain : IsChain (nexts_in k.capacity s.words) (n ∷ rest) 0 =
      subst (λ (z : List ℕ). IsChain (nexts_in k.capacity s.words) z 0)
      (sym (t.cells.named id v.post here locked).0 ∙ is) t.cells.chained in chain.0

  -- a store to the word that names the first free cell, under the cells' lock, with the free cells that there are then
  free_list : (p' : Post MoundPart) (x : ℕ) (free : List ℕ) → Contains v.post.locks cells_lock → p'.own.free ≡ free
      → p'.own.count ≡ v.post.own.count → x ≡ first_or free 0 → IsChain (nexts_in k.capacity s.words) free 0
      → IsFreeList k.capacity (set s.words free_word x) (set qs id p') free
  free_list p' x free locked same count first chain = let long = t.long in
      let mine = t.cells.named id v.post here locked in let named = lock_named id v.post here locked in
      let there = get_or-set_other s.words 25 26 x 0 (λ e. omega arith) in record {
        chained = subst (λ (g : ℕ → ℕ). IsChain g free 0)
            (sym (nexts_stay k.capacity s.words free_word x (omega arith))) chain;
        starts = get_or-set_same s.words 25 x 0 (omega arith) ∙ first;
        counted = λ z. let lock = get_or-set_other s.words 25 24 x 0 (λ e. omega arith) in
            absurd (named.1 (sym named.0 ∙ (sym lock ∙ z)));
        named = λ j q to has. ⊎_elim
            (λ e. (
              ap (λ (z : Post MoundPart). z.own.free) (sym e.1) ∙ same,
              ap (λ (z : Post MoundPart). z.own.count) (sym e.1) ∙ (count ∙ (mine.1 ∙ sym there)),
            ))
            (λ a. absurd (lock_alone j q a.0 a.1 has locked)) (at_set qs id j p' q to);
      }

  -- the first free cell is taken off, and the seat holds it
  pub takes_off : (n x : ℕ) (rest : List ℕ) → Contains v.post.locks cells_lock → v.post.own.free ≡ n ∷ rest
      → v.post.own.held ≡ None → x ≡ first_or rest 0
      → MoundTied k (set s.words free_word x)
      (set qs id (taking v.post n rest (entries_in k.capacity s.words n) x)) (left h.history)
  takes_off n x rest locked is none first = let c : ℕ = k.capacity in let entry : ℕ = entries_in c s.words n in
      let p' : Post MoundPart = taking v.post n rest entry x in let mine = t.cells.named id v.post here locked in
      let free : t.free ≡ n ∷ rest = sym mine.0 ∙ is in let a = t.alone id v.post here in
      let chain : IsChain (nexts_in c s.words) (n ∷ rest) 0 =
      subst (λ (z : List ℕ). IsChain (nexts_in c s.words) z 0) free t.cells.chained in
      low_step free_word x (omega arith) (omega arith) p' rest refl (λ i has. has) (λ i has. has)
      (event_hands c t.free rest (held_by qs) (held_by (set qs id p')) t.nodes (left h.history) t.facts
      (λ m. let sums = held_times m qs id v.post p' here in
      let one : times m t.free ≡ times m (n ∷ rest) = ap (times m) free in
      let old : times m (held_number v.post.own.held) ≡ times m (held_number None) =
      ap (λ (o : Option OwnCell). times m (held_number o)) none in
      omega (arith, times-cons m n rest, times-cons m n [])))
      (free_list p' x rest locked refl refl first chain.1)
      (record {
        quiet = a.quiet;
        owes = a.owes;
        holds = λ o e. let same : own_cell n entry x ≡ o = cc in
            subst (λ (z : OwnCell). (entries_in c s.words z.number ≡ z.entry) ×
            (nexts_in c s.words z.number ≡ z.next))
            same (refl, chain.0 ∙ sym first);
      })

  -- the cell that the seat holds goes to the front of the free ones, to the first of which it leads
  pub gives : (o : OwnCell) (x : ℕ) → Contains v.post.locks cells_lock → v.post.own.held ≡ Some o
      → o.next ≡ first_or v.post.own.free 0 → x ≡ o.number + 1
      → MoundTied k (set s.words free_word x) (set qs id (giving v.post o.number)) (left h.history)
  gives o x locked is next named = let c : ℕ = k.capacity in let n : ℕ = o.number in
      let free : List ℕ = n ∷ v.post.own.free in let p' : Post MoundPart = giving v.post n in
      let mine = t.cells.named id v.post here locked in let a = t.alone id v.post here in
      let words = a.holds o is in let long = t.long in
      let chain : IsChain (nexts_in c s.words) v.post.own.free 0 =
      subst (λ (z : List ℕ). IsChain (nexts_in c s.words) z 0) (sym mine.0) t.cells.chained in
      low_step free_word x (omega arith) (omega arith) p' free refl (λ i has. has) (λ i has. has)
      (event_hands c t.free free (held_by qs) (held_by (set qs id p')) t.nodes (left h.history) t.facts
      (λ m. let sums = held_times m qs id v.post p' here in
      let one : times m v.post.own.free ≡ times m t.free = ap (times m) mine.0 in
      let old : times m (held_number v.post.own.held) ≡ times m (held_number (Some o)) =
      ap (λ (z : Option OwnCell). times m (held_number z)) is in
      omega (arith, times-cons m n v.post.own.free, times-cons m n [])))
      (free_list p' x free locked refl refl named (words.1 ∙ next, chain))
      (record { quiet = a.quiet; owes = a.owes; holds = λ z e. absurd (cc) })

module _ (k : Limits) (id : ℕ) (v : View MoundPart) where
  -- any seat with a number may take the cells' lock
  pub may_take_cells : 0 < v.post.number → MayTake mound_rule k id v cells_lock
  may_take_cells positive w alike s h at zero_word =
      let t = h.tied in let free = t.free in let n : ℕ = w.post.number in
      let number : w.post.number ≡ v.post.number = ap (λ (z : Post MoundPart). z.number) alike.post in
      let own : MoundPart = with_free w.post.own free (length free) in
      let p' : Post MoundPart = with_lock w.post cells_lock own in let f = t.cells in let long = t.long in
      let here : get_or (set s.words 24 n) 24 0 ≡ n = get_or-set_same s.words 24 n 0 (omega arith) in
      let there = get_or-set_other s.words 24 26 n 0 (λ e. omega arith) in
      let first = get_or-set_other s.words 24 25 n 0 (λ e. omega arith) in
      let number_of_words = f.counted zero_word in let all = counted t.facts in
      let limits = ap (λ (z : Limits). z.capacity) (limits_of mound_rule k s h id w at (λ z. omega arith)) in (
        own,
        record { cells = λ e. (free, omega arith, refl); node = λ i e. absurd (omega arith) },
        steady_step k s h id w at cells_lock n (omega arith) (omega arith) p' refl refl refl refl
            (λ i has. in_later 24 (lock_of i) w.post.locks has)
            (λ i has. ⊎_elim (λ e. absurd (omega arith)) (λ a. a) (in_cases 24 (lock_of i) w.post.locks has))
            (record {
              chained = subst (λ (g : ℕ → ℕ). IsChain g free 0)
                  (sym (nexts_stay k.capacity s.words cells_lock n (omega arith))) f.chained;
              starts = first ∙ f.starts;
              counted = λ z. absurd (omega arith);
              named = λ j q to has. ⊎_elim
                  (λ e. (
                    ap (λ (z : Post MoundPart). z.own.free) (sym e.1),
                    ap (λ (z : Post MoundPart). z.own.count) (sym e.1) ∙ (sym number_of_words ∙ sym there),
                  ))
                  (λ a. let r = lock_named k s h id w at j q a.1 has in absurd (r.1 (sym r.0 ∙ zero_word)))
                  (at_set (ps k s h id w at) id j p' q to);
            }),
      )

  -- The cells' lock may be freed where the count of the free cells is stored as they are
  pub may_free_cells : Contains v.post.locks cells_lock → v.post.own.count ≡ length v.post.own.free
      → MayFree mound_rule k id v cells_lock
  may_free_cells locked same s h at =
      let t = h.tied in let p' : Post MoundPart = without_lock v.post cells_lock (with_free v.post.own [] 0) in
      let f = t.cells in let mine = f.named id v.post (pat k s h id v at) locked in
      let there = get_or-set_other s.words 24 26 0 0 (λ e. omega arith) in
      let first = get_or-set_other s.words 24 25 0 0 (λ e. omega arith) in
      steady_step k s h id v at cells_lock 0 (omega arith) (omega arith) p' refl refl refl refl
      (λ i has. has_less 24 v.post.locks (lock_of i) has (λ e. omega arith))
      (λ i has. (less_has 24 v.post.locks (lock_of i) has).0)
      (record {
        chained = subst (λ (g : ℕ → ℕ). IsChain g t.free 0)
            (sym (nexts_stay k.capacity s.words cells_lock 0 (omega arith))) f.chained;
        starts = first ∙ f.starts;
        counted = λ z. there ∙ (sym mine.1 ∙ (same ∙ ap (λ (l : List ℕ). length l) mine.0));
        named = λ j q to has. ⊎_elim
            (λ e. absurd ((less_has 24 v.post.locks 24
            (subst (λ (z : Post MoundPart). Contains z.locks cells_lock) (sym e.1) has)).1 refl))
            (λ a. absurd (lock_alone k s h id v at j q a.0 a.1 has locked))
            (at_set (ps k s h id v at) id j p' q to);
      })
