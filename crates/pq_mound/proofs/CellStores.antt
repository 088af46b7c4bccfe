-- A store to a word of the cell that a seat holds keeps the mound's facts.
use Rattle.std.proofs.Common.{◌≡◌, ◌≢◌, ℕ, ◌+◌, ◌<◌, ◌≤◌, cond, List, [], ◌∷◌, length, get_or, set, Some}
use Rattle.std.proofs.Common.{⊎_elim}
use Rattle.std.proofs.Common.{refl, sym, ap, ◌∙◌, subst, arith, length-set, get_or-set_other}
use Rattle.std.specs.Prelude.{Contains, Option, sum_by, nat_lt, ◌==◌}
use native.Mathlib.Decide.{ℕ_discrete}
use mathlib.Core.Logic.{dite}
use Rattle.std.proofs.lemmas.Bool.Decides.{nat_tests}
use Rattle.std.proofs.lemmas.Grind.{get_or-set_at}
use mathlib.Core.Option.{some}
use lib.ListN.{get_elem?}
use Rattle.atomic_table.proofs.Lists.{at_set}
use Rattle.pq_words.specs.Limits.{raw_limit}
use Rattle.pq_model.specs.History.{left}
use Rattle.pq_seats.specs.declared.views.Limits.{Limits}
use Rattle.pq_seats.specs.declared.views.Post.{Post}
use Rattle.pq_seats.specs.declared.views.View.{View}
use Rattle.pq_seats.specs.Rules.{Table, Holds}
use Rattle.pq_seats.proofs.Lists.{sum_one, sum_two}
use Rattle.pq_nodes.specs.Guards.{IsGuarded}
use Rattle.pq_nodes.specs.Layout.{lock_of, word_of}
use Rattle.pq_nodes.specs.Parts.{kind_of}
use Rattle.pq_nodes.specs.Facts.{locks_in, words_in}
use Rattle.pq_nodes.proofs.Keeping.{step_keeps, same_names}
use Rattle.pq_mound.specs.declared.nodes.Node.{Node}
use Rattle.pq_mound.specs.declared.nodes.Node.TheVariants.{Resting}
use Rattle.pq_mound.specs.declared.views.MoundPart.{MoundPart}
use Rattle.pq_mound.specs.declared.views.OwnCell.{OwnCell}
use Rattle.pq_mound.specs.Nodes.{all_cells, numbers}
use Rattle.pq_mound.specs.Cells.{times}
use Rattle.pq_mound.specs.Facts.{MoundFacts}
use Rattle.pq_mound.specs.Laws.{IsStoreTo}
use Rattle.pq_mound.specs.Layout.{cell_base, entry_word, next_word}
use Rattle.pq_mound.specs.NodeParts.{mound_nodes}
use Rattle.pq_mound.specs.Steps.{keeping}
use Rattle.pq_mound.specs.Ties.{entries_in, nexts_in, held_by, IsAlone, MoundTied}
use Rattle.pq_mound.specs.Views.{Guard, own_cell, held_number}
use Rattle.pq_mound.specs.Rules.{mound_rule}
use Rattle.pq_mound.specs.LawsHold.Held.{held_same}
use Rattle.pq_mound.specs.LawsHold.Steps.{ps, pat}
use Rattle.pq_mound.specs.LawsHold.Sums.{flat_sum, times-here}
use Rattle.pq_mound.proofs.Links.{own_stores, chain_other}

-- the words of nodes are as they were, and each guard was there
guarded_far : (words words' : List ℕ) (posts posts' : List (Post MoundPart)) (t : List Node)
    → ((i : ℕ) → i < length t → locks_in words' i ≡ locks_in words i)
    → ((i : ℕ) → i < length t → words_in words' i ≡ words_in words i)
    → ((j : ℕ) (q : Post MoundPart) → get_elem? posts' j ≡ some q
    → (p : Post MoundPart) × (get_elem? posts j ≡ some p) × (q.own.guards ≡ p.own.guards))
    → IsGuarded (kind_of mound_nodes) (locks_in words) (words_in words) posts t
    → IsGuarded (kind_of mound_nodes) (locks_in words') (words_in words') posts' t
guarded_far words words' posts posts' t same_locks same_words was f =
    let back : (j : ℕ) (q : Post MoundPart) (g : Guard) → (to : get_elem? posts' j ≡ some q) → Contains q.own.guards g
    → Contains (was j q to).0.own.guards g = (λ j q g to has. subst (λ (z : List Guard). Contains z g)
    (was j q to).2 has) in record {
      free = λ i lt zero. subst (λ (w : ℕ). (kind_of mound_nodes).means (get_or t i (Resting [])) w)
          (sym (same_words i lt)) (f.free i lt (sym (same_locks i lt) ∙ zero));
      held = λ j q g to has. let o = was j q to in let old = f.held j o.0 g o.1 (back j q g to has) in record {
        within = old.within;
        locked = λ z. old.locked (sym (same_locks g.node old.within) ∙ z);
        stored = same_words g.node old.within ∙ old.stored;
        counted = old.counted;
      };
      view = λ a b q r g h to_q to_r has_g has_h e. let u = was a q to_q in let w = was b r to_r in
          f.view a b u.0 w.0 g h u.1 w.1 (back a q g to_q has_g) (back b r h to_r has_h) e;
      once = λ a q g h to has_g has_h e. let u = was a q to in
          f.once a u.0 g h u.1 (back a q g to has_g) (back a q h to has_h) e;
    }

module _ (k : Limits) (s : Table MoundPart) (h : Holds mound_rule k s) (id : ℕ) (v : View MoundPart)
    (at : get_elem? s.views id ≡ some v) (o : OwnCell) (holds : v.post.own.held ≡ Some o) where
  abbrev qs : List (Post MoundPart)
  qs = ps k s h id v at

  abbrev t : MoundTied k s.words qs (left h.history)
  t = h.tied

  abbrev here : get_elem? qs id ≡ some v.post
  here = pat k s h id v at

  abbrev c : ℕ
  c = k.capacity

  abbrev n : ℕ
  n = o.number

  abbrev f : Post MoundPart → ℕ
  f p = times n (held_number p.own.held)

  all_held : times n (held_by qs) ≡ sum_by f qs
  all_held = flat_sum (λ (m : ℕ). cond {A = ℕ} (m == n) 1 0) (λ (p : Post MoundPart). held_number p.own.held) qs

  mine : f v.post ≡ 1
  mine = ap (λ (z : Option OwnCell). times n (held_number z)) holds ∙ times-here n []

  at_most : (x y z : ℕ) → x + y + z ≡ cond {A = ℕ} (nat_lt n c) 1 0 → 1 ≤ z
      → (x ≡ 0) × (y ≡ 0) × (z ≡ 1) × (n < c)
  at_most x y z is some_held = (
    grind (arith, nat_tests),
    grind (arith, nat_tests),
    grind (arith, nat_tests),
    grind (arith, nat_tests),
  )

  -- the cell is in no list and not free, and this seat alone holds it
  only : (times n (numbers (all_cells t.nodes)) ≡ 0) × (times n t.free ≡ 0) × (times n (held_by qs) ≡ 1) × (n < c)
  only = let one = sum_one f qs id v.post here in let is = mine in let all = all_held in
      at_most _ _ _ (t.facts.dealt.once n) (omega arith)

  pub own_low : n < c
  own_low = only.3

  others : (j : ℕ) (q : Post MoundPart) (r : OwnCell) → j ≢ id → get_elem? qs j ≡ some q → q.own.held ≡ Some r
      → r.number ≢ n
  others j q r ne to is e = let two = sum_two f qs id j v.post q here to ne in let all = all_held in let own = mine in
      let whole = only.2 in let theirs : f q ≡ times n (held_number (Some r)) =
      ap (λ (z : Option OwnCell). times n (held_number z)) is in
      let same : times n (held_number (Some r)) ≡ times n (n ∷ []) = ap (λ (m : ℕ). times n (m ∷ [])) e in
      let here_too = times-here n [] in omega arith

  -- A step on a word behind the nodes, after which the seat holds the same cell, with other words
  far_step : (i x entry next : ℕ) → cell_base c ≤ i
      → let ws : List ℕ = set s.words i x in let p' : Post MoundPart = keeping v.post n entry next in
      IsStoreTo n (entries_in c s.words) (entries_in c ws) → IsStoreTo n (nexts_in c s.words) (nexts_in c ws)
      → entries_in c ws n ≡ entry → nexts_in c ws n ≡ next → entry < raw_limit
      → MoundTied k ws (set qs id p') (left h.history)
  far_step i x entry next far same_entries same_nexts own_entry own_next fits =
      let ws : List ℕ = set s.words i x in let p' : Post MoundPart = keeping v.post n entry next in
      let same : (j : ℕ) → j < cell_base c → get_or ws j 0 ≡ get_or s.words j 0 =
      (λ j lt. get_or-set_other s.words i j x 0 (λ e. omega arith)) in
      let a = t.alone id v.post here in let cells = t.cells in let r = t.ranged in let whole = t.whole in record {
        long = length-set s.words i x ∙ t.long;
        seated = t.seated;
        free = t.free;
        nodes = t.nodes;
        whole = t.whole;
        tree = step_keeps mound_nodes s.words qs t.nodes t.tree id v.post here ws p' t.nodes
            (guarded_far s.words ws qs (set qs id p') t.nodes
            (λ m lt. same (lock_of m) (omega arith)) (λ m lt. same (word_of m) (omega arith))
            (λ j q to. ⊎_elim
            (λ e. (
              v.post,
              subst (λ (z : ℕ). get_elem? qs z ≡ some v.post) (sym e.0) here,
              ap (λ (z : Post MoundPart). z.own.guards) (sym e.1),
            ))
            (λ b. (q, b.1, refl)) (at_set qs id j p' q to))
            t.tree.guarded)
            (same_names mound_nodes s.words qs t.nodes t.tree id v.post here p' refl refl);
        facts = subst (λ (z : List ℕ). MoundFacts c t.free z t.nodes (left h.history))
            (sym (held_same qs id v.post p' here (sym (ap held_number holds)))) t.facts;
        linked = own_stores (entries_in c s.words) (entries_in c ws) (nexts_in c s.words) (nexts_in c ws) t.nodes n
            t.linked only.0 same_entries same_nexts;
        cells = record {
          chained = chain_other (nexts_in c s.words) (nexts_in c ws) n 0 t.free cells.chained only.1 same_nexts;
          starts = same 25 (omega arith) ∙ cells.starts;
          counted = λ z. same 26 (omega arith) ∙ cells.counted (sym (same 24 (omega arith)) ∙ z);
          named = λ j q to has. ⊎_elim
              (λ e. let old = cells.named id v.post here (subst
              (λ (z : Post MoundPart). Contains z.locks 24) (sym e.1) has) in (
                ap (λ (z : Post MoundPart). z.own.free) (sym e.1) ∙ old.0,
                ap (λ (z : Post MoundPart). z.own.count) (sym e.1) ∙ (old.1 ∙ sym (same 26 (omega arith))),
              ))
              (λ b. let old = cells.named j q b.1 has in (old.0, old.1 ∙ sym (same 26 (omega arith))))
              (at_set qs id j p' q to);
        };
        ranged = record {
          shallow = let e = same 20 (omega arith) in let old = r.shallow in omega arith;
          deep = let e = same 20 (omega arith) in let old = r.deep in omega arith;
          nodes = λ m lt. let e = same (word_of m) (omega arith) in let old = r.nodes m lt in omega arith;
          entries = λ m lt. dite (ℕ_discrete m n)
              (λ e. let is : entries_in c ws m ≡ entries_in c ws n = ap (λ (z : ℕ). entries_in c ws z) e in omega arith)
              (λ ne. let e = same_entries m ne in let old = r.entries m lt in omega arith);
        };
        alone = λ j q to. ⊎_elim
            (λ e. subst (λ (z : Post MoundPart). IsAlone c ws z) e.1 (record {
              quiet = a.quiet;
              owes = a.owes;
              holds = λ z is. let one : own_cell n entry next ≡ z = cc in
                  subst (λ (y : OwnCell). (entries_in c ws y.number ≡ y.entry) × (nexts_in c ws y.number ≡ y.next)) one
                  (own_entry, own_next);
            }))
            (λ b. let old = t.alone j q b.1 in record {
              quiet = old.quiet;
              owes = old.owes;
              holds = λ z is. let ne = others j q z b.0 b.1 is in let words = old.holds z is in
                  (same_entries z.number ne ∙ words.0, same_nexts z.number ne ∙ words.1);
            })
            (at_set qs id j p' q to);
        unwritten = λ m positive most. same m (omega arith) ∙ t.unwritten m positive most;
      }

  -- The word that leads on from the cell is stored
  pub stores_next : (x : ℕ) → MoundTied k (set s.words (next_word c n) x) (set qs id (keeping v.post n o.entry x))
      (left h.history)
  stores_next x = let low = own_low in let long = t.long in let words = (t.alone id v.post here).holds o holds in
      let entry = t.ranged.entries n low in
      far_step (next_word c n) x o.entry x (omega arith)
      (λ j ne. get_or-set_other s.words (next_word c n) (entry_word c j) x 0 (λ e. omega arith))
      (λ j ne. get_or-set_other s.words (next_word c n) (next_word c j) x 0 (λ e. ne (omega arith)))
      (get_or-set_other s.words (next_word c n) (entry_word c n) x 0 (λ e. omega arith) ∙ words.0)
      (get_or-set_at s.words (next_word c n) (next_word c n) x 0 refl (omega arith))
      (let is = words.0 in omega arith)

  -- and its entry word
  pub stores_entry : (x : ℕ) → x < raw_limit
      → MoundTied k (set s.words (entry_word c n) x) (set qs id (keeping v.post n x o.next)) (left h.history)
  stores_entry x fits = let low = own_low in let long = t.long in
      let words = (t.alone id v.post here).holds o holds in
      far_step (entry_word c n) x x o.next (omega arith)
      (λ j ne. get_or-set_other s.words (entry_word c n) (entry_word c j) x 0 (λ e. ne (omega arith)))
      (λ j ne. get_or-set_other s.words (entry_word c n) (next_word c j) x 0 (λ e. omega arith))
      (get_or-set_at s.words (entry_word c n) (entry_word c n) x 0 refl (omega arith))
      (get_or-set_other s.words (entry_word c n) (next_word c n) x 0 (λ e. omega arith) ∙ words.1) fits
