-- The draws that change nothing of the mound: Full, Empty and Above.
use Rattle.std.proofs.Common.{◌≡◌, ◌≢◌, ◌⊎◌, ℕ, zero, suc, ◌+◌, ◌/◌, ◌<◌, ◌≤◌, Bool, true, false, cond, eqb, List, []}
use Rattle.std.proofs.Common.{◌∷◌, ◌++◌}
use Rattle.std.proofs.Common.{length, set, Some, None, inl, inr, ⊎_elim, refl, sym, ap, ◌∙◌, subst}
use Rattle.std.proofs.Common.{arith}
use Rattle.std.proofs.lemmas.List.{length-set}
use Rattle.std.proofs.lemmas.List.Elements.{All-head}
use Rattle.std.specs.Prelude.{All, Contains, Option, IsSomeAnd, sum_by}
use Rattle.std.proofs.lemmas.List.Concat.{length-flat_map}
use Rattle.std.proofs.lemmas.List.Sums.{sum_by-cons}
use mathlib.Core.Option.{some, some-injective, some-ne-none}
use native.Mathlib.Decide.{ℕ_discrete}
use mathlib.Core.Logic.{dite}
use lib.ListN.{get_elem?}
use Rattle.pq_words.specs.declared.entries.Entry.{Entry}
use Rattle.pq_words.specs.Entries.{raw_of}
use Rattle.pq_model.specs.declared.marks.Act.{Act}
use Rattle.pq_model.specs.declared.marks.Act.TheVariants.{Insert, Remove, RemoveBelow}
use Rattle.pq_model.specs.declared.marks.Reply.{Reply}
use Rattle.pq_model.specs.declared.marks.Reply.TheVariants as replies
use Rattle.pq_model.specs.Multiset.{least, without_least}
use Rattle.pq_model.specs.History.{IsStep, after, left}
use Rattle.pq_seats.specs.declared.views.Limits.{Limits}
use Rattle.pq_seats.specs.declared.views.Post.{Post}
use Rattle.pq_seats.specs.declared.views.View.{View}
use Rattle.pq_seats.specs.Views.{post_of}
use Rattle.pq_seats.specs.Letters.{owed_count}
use Rattle.pq_seats.specs.Batches.{Batch}
use Rattle.pq_seats.specs.Posts.{placed_post}
use Rattle.pq_seats.specs.Rules.{Table, Holds}
use Rattle.pq_seats.specs.Allowed.{helps, Places}
use Rattle.pq_seats.proofs.Lists.{in_first, in_later, not_in}
use Rattle.pq_seats.proofs.Keeps.{number_low}
use Rattle.pq_nodes.specs.Guards.{IsGuarded}
use Rattle.pq_nodes.specs.Parts.{kind_of}
use Rattle.pq_nodes.specs.Facts.{locks_in, words_in, NodeFacts}
use Rattle.pq_nodes.specs.Views.{guard, nodes_of, HaveNodesApart}
use Rattle.pq_nodes.proofs.GuardLists.{first_cases, second_cases}
use Rattle.pq_nodes.proofs.Guarded.{guard_written}
use Rattle.pq_nodes.proofs.Keeping.{frame_keeps, step_keeps, same_names}
use Rattle.pq_nodes.proofs.Tables.{same_locks, same_words}
use Rattle.pq_mound.specs.declared.nodes.Cell.{Cell}
use Rattle.pq_mound.specs.declared.nodes.Node.{Node}
use Rattle.pq_mound.specs.declared.nodes.Node.TheVariants.{Resting, Hole}
use Rattle.pq_mound.specs.declared.views.MoundPart.{MoundPart}
use Rattle.pq_mound.specs.declared.views.OwnCell.{OwnCell}
use Rattle.pq_mound.specs.Nodes.{node, cells, numbers, cell}
use Rattle.pq_mound.specs.Order.{value_of, value, MayJoin, behind, joined}
use Rattle.pq_mound.specs.Batches.{after_insert, first_hole, after_removal, joining, last_joined}
use Rattle.pq_mound.specs.Cells.{times}
use Rattle.pq_mound.specs.Chains.{first_or, IsLinked, AreLinked}
use Rattle.pq_mound.specs.Facts.{MoundFacts}
use Rattle.pq_mound.specs.Layout.{cells_lock}
use Rattle.pq_mound.specs.NodeParts.{mound_nodes}
use Rattle.pq_mound.specs.Ties.{entries_in, nexts_in, held_by, MoundTied}
use Rattle.pq_mound.specs.Views.{Guard, own_cell, held_number}
use Rattle.pq_mound.specs.Rules.{mound_rule}
use Rattle.pq_mound.specs.LawsHold.Held.{held_same, held_times}
use Rattle.pq_mound.specs.LawsHold.Steps.{ps, pat, free_on, steps}
use Rattle.pq_mound.specs.LawsHold.Sums.{map_sum}
use Rattle.pq_mound.proofs.Counts.{times-cons}
use Rattle.pq_mound.proofs.Events.{event_full, event_least, event_empty, event_take, event_join}
use Rattle.pq_mound.proofs.Links.{takes_link, joins_link}

-- the batch of the own mark alone
abbrev pub own_mark : Reply → Batch
own_mark reply = record { before = []; reply = reply; after = [] }

own_apart : (n m : ℕ) → helps m [] + helps m [] + cond (eqb n m) 1 0 ≤ 1
own_apart n m = by_test (eqb n m)
  where
    by_test : (b : Bool) → helps m [] + helps m [] + cond b 1 0 ≤ 1
    by_test true = omega arith
    by_test false = omega arith

-- nobody owes anything
none_owed : (n : ℕ) (posts : List (Post MoundPart))
    → ((j : ℕ) (p : Post MoundPart) → get_elem? posts j ≡ some p → p.owed ≡ [])
    → sum_by (λ (p : Post MoundPart). owed_count n p.owed) posts ≡ 0
none_owed n [] none_here = refl
none_owed n (p ∷ posts) none_here =
    let c = sum_by-cons (λ (q : Post MoundPart). owed_count n q.owed) p posts in
    let a = ap (owed_count n) (none_here 0 p refl) in
    let r = none_owed n posts (λ j q at. none_here (suc j) q at) in omega arith

-- a sum is below another where each term is at most the other's, and one is below it
sum_le : {A : Type 0} (f g : A → ℕ) (l : List A) → ((j : ℕ) (w : A) → get_elem? l j ≡ some w → f w ≤ g w)
    → sum_by f l ≤ sum_by g l
sum_le f g [] each = omega arith
sum_le f g (x ∷ xs) each = let first = each 0 x refl in let rest = sum_le f g xs (λ j w to. each (suc j) w to) in
    omega (arith, sum_by-cons f x xs, sum_by-cons g x xs)

sum_less : {A : Type 0} (f g : A → ℕ) (l : List A) (i : ℕ) (v : A) → get_elem? l i ≡ some v → f v < g v
    → ((j : ℕ) (w : A) → get_elem? l j ≡ some w → f w ≤ g w) → sum_by f l < sum_by g l
sum_less f g [] i v at less each = absurd (some-ne-none v (sym at))
sum_less {A} f g (x ∷ xs) zero v at less each = let is = some-injective x v at in
    let first : f x < g x = subst (λ (z : A). f z < g z) (sym is) less in
    let rest = sum_le f g xs (λ j w to. each (suc j) w to) in
    omega (arith, sum_by-cons f x xs, sum_by-cons g x xs)
sum_less f g (x ∷ xs) (suc i) v at less each = let first = each 0 x refl in
    let rest = sum_less f g xs i v at less (λ j w to. each (suc j) w to) in
    omega (arith, sum_by-cons f x xs, sum_by-cons g x xs)

-- a seat holds one cell at most
held_one : (o : Option OwnCell) → length (held_number o) ≤ 1
held_one None = omega arith
held_one (Some c) = omega arith

module _ (k : Limits) (s : Table MoundPart) (h : Holds mound_rule k s) (id : ℕ) (v : View MoundPart)
    (at : get_elem? s.views id ≡ some v) where
  abbrev qs : List (Post MoundPart)
  qs = ps k s h id v at

  abbrev t : MoundTied k s.words qs (left h.history)
  t = h.tied

  abbrev here : get_elem? qs id ≡ some v.post
  here = pat k s h id v at

  -- fewer cells are held than there are seats, where a seat holds none
  few_held : v.post.number ≢ 0 → v.post.own.held ≡ None → length (held_by qs) < k.seats
  few_held seated bare =
      let f : View MoundPart → ℕ = λ w. length (held_number w.post.own.held) in
      let g : View MoundPart → ℕ = λ w. length w.lanes in
      let all : length (held_by qs) ≡ sum_by f s.views =
      length-flat_map (λ (p : Post MoundPart). held_number p.own.held) qs
      ∙ map_sum (λ (p : Post MoundPart). length (held_number p.own.held)) post_of s.views in
      let has_lane : (j : ℕ) (w : View MoundPart) → get_elem? s.views j ≡ some w → w.post.number ≢ 0
      → 1 ≤ length w.lanes =
      (λ j w to some_number. let first = (h.each j w to).first some_number in
      let long = ap (λ (z : List _). length z) first.2 in omega arith) in
      let mine : f v ≡ 0 = ap (λ (o : Option OwnCell). length (held_number o)) bare in
      let lane = has_lane id v at seated in
      let less = sum_less f g s.views id v at (omega arith) (λ j w to. dite (ℕ_discrete w.post.number 0)
      (λ e. let none : f w ≡ 0 = ap (λ (p : Post MoundPart). length (held_number p.own.held))
      ((h.each j w to).empty e) in omega arith)
      (λ ne. let one = held_one w.post.own.held in let some_lane = has_lane j w to ne in omega arith)) in
      let lanes = h.lanes in omega arith

  -- What a draw of the own mark makes of the post
  abbrev pub drawn_post : Reply → MoundPart → Post MoundPart
  drawn_post reply own = placed_post v.post (own_mark reply) own (length h.history)

  -- A draw of the own mark is allowed where its reply is a step and the facts are kept
  pub placing : (act : Act) (reply : Reply) (new : ℕ) (own : MoundPart) (nodes : List Node) → 0 < v.post.number
      → own.free ≡ v.post.own.free → own.count ≡ v.post.own.count
      → IsStep k.seats k.capacity (left h.history) act reply → length nodes ≡ length t.nodes
      → NodeFacts mound_nodes (set s.words 0 new) (set qs id (drawn_post reply own)) nodes
      → MoundFacts k.capacity t.free (held_by (set qs id (drawn_post reply own))) nodes (after
      (left h.history) act reply)
      → AreLinked (entries_in k.capacity s.words) (nexts_in k.capacity s.words) nodes
      → ((o : OwnCell) → own.held ≡ Some o
      → (entries_in k.capacity s.words o.number ≡ o.entry) × (nexts_in k.capacity s.words o.number ≡ o.next))
      → Places mound_rule k id v act (own_mark reply) own new s h
  placing act reply new own nodes positive free count legal whole tree facts linked holds =
      let p' : Post MoundPart = drawn_post reply own in
      let a = t.alone id v.post here in let low = number_low mound_rule k s h id v at positive in
      let owed = none_owed v.post.number qs (λ j q to. (t.alone j q to).owes) in
      let word = t.unwritten v.post.number positive low.1 in record {
        legal = (legal, tt);
        apart = own_apart v.post.number;
        free = omega arith;
        waiting = λ x has. ⊎_elim (λ z. absurd (not_in x z)) (λ z. absurd (not_in x z)) has;
        tied = steps k s h id v at 0 new (omega arith) p' t.free nodes (after (left h.history) act reply) (inl refl)
            (λ e. omega arith) (λ n lt e. absurd (omega arith)) whole tree facts linked
            (free_on k s h id v at 0 new (omega arith) p' (λ e. omega arith) (λ e. omega arith) (λ e. omega arith)
            free count (λ has. has))
            (record { quiet = refl; owes = ap (λ (z : List (ℕ × ℕ)). z ++ []) a.owes; holds = holds });
      }

  -- A draw that leaves the multiset and the own part as they are
  quiet : (act : Act) (reply : Reply) (new : ℕ) → 0 < v.post.number
      → IsStep k.seats k.capacity (left h.history) act reply → left h.history ≡ after (left h.history) act reply
      → Places mound_rule k id v act (own_mark reply) v.post.own new s h
  quiet act reply new positive legal same = let p' : Post MoundPart = drawn_post reply v.post.own in
      placing act reply new v.post.own t.nodes positive refl refl legal refl
      (frame_keeps mound_nodes s.words qs t.nodes t.tree id v.post here (set s.words 0 new) p'
      (same_locks s.words 0 new (omega arith)) (same_words s.words 0 new (omega arith)) refl
      (λ i has. has) (λ i has. has))
      (subst (λ (m : List Entry). MoundFacts k.capacity t.free (held_by (set qs id p')) t.nodes m) same
      (subst (λ (z : List ℕ). MoundFacts k.capacity t.free z t.nodes (left h.history))
      (sym (held_same qs id v.post p' here refl)) t.facts))
      t.linked (t.alone id v.post here).holds

  -- a guard's node counts as another behind a draw
  recounted : (g : Guard) (counted : Node) (new : ℕ) (p' : Post MoundPart) → Contains v.post.own.guards g
      → ((z : Guard) → Contains p'.own.guards z
      → (guard g.node g.stored counted ≡ z) ⊎ ((z.node ≢ g.node) × Contains v.post.own.guards z))
      → nodes_of p'.own.guards ≡ nodes_of v.post.own.guards → p'.locks ≡ v.post.locks
      → NodeFacts mound_nodes (set s.words 0 new) (set qs id p') (set t.nodes g.node counted)
  recounted g counted new p' has_g cases same locks =
      let g' : Guard = guard g.node g.stored counted in let ws : List ℕ = set s.words 0 new in
      let locks_same : locks_in ws ≡ locks_in s.words = (λ j n. same_locks s.words 0 new (omega arith) n j) in
      let words_same : words_in ws ≡ words_in s.words = (λ j n. same_words s.words 0 new (omega arith) n j) in
      step_keeps mound_nodes s.words qs t.nodes t.tree id v.post here ws p' (set t.nodes g.node counted)
      (subst (λ (z : ℕ → ℕ). IsGuarded (kind_of mound_nodes) z (words_in ws) (set qs id p')
      (set t.nodes g.node counted))
      (sym locks_same)
      (subst (λ (z : ℕ → ℕ). IsGuarded (kind_of mound_nodes) (locks_in s.words) z (set qs id p')
      (set t.nodes g.node counted)) (sym words_same)
      (guard_written (kind_of mound_nodes) (locks_in s.words) (words_in s.words)
      (words_in s.words) qs t.nodes id
      v.post p' g g' t.tree.guarded here has_g refl
      (record {
        own = (t.tree.guarded.held id v.post g here has_g).stored;
        others =
            λ j ne. refl;
      }) cases)))
      (same_names mound_nodes s.words qs t.nodes t.tree id v.post here p' locks same)

  -- where it is the first guard
  first_recounted : (g : Guard) (gs : List Guard) (counted : Node) (new : ℕ) (p' : Post MoundPart)
      → v.post.own.guards ≡ g ∷ gs → p'.own.guards ≡ guard g.node g.stored counted ∷ gs → p'.locks ≡ v.post.locks
      → NodeFacts mound_nodes (set s.words 0 new) (set qs id p') (set t.nodes g.node counted)
  first_recounted g gs counted new p' guards is locks = let g' : Guard = guard g.node g.stored counted in
      let apart : HaveNodesApart (g ∷ gs) = subst HaveNodesApart guards (t.tree.names id v.post here).apart in
      recounted g counted new p' (subst (λ (z : List Guard). Contains z g) (sym guards) (in_first g gs))
      (λ z at_z. ⊎_elim (λ e. inl e)
      (λ r. inr (r.0, subst (λ (l : List Guard). Contains l z) (sym guards) r.1))
      (first_cases g g' gs refl apart z (subst (λ (l : List Guard). Contains l z) is at_z)))
      (ap nodes_of is ∙ sym (ap nodes_of guards)) locks

  -- and where it is the second
  second_recounted : (f g : Guard) (gs : List Guard) (counted : Node) (new : ℕ) (p' : Post MoundPart)
      → v.post.own.guards ≡ f ∷ g ∷ gs → p'.own.guards ≡ f ∷ guard g.node g.stored counted ∷ gs
      → p'.locks ≡ v.post.locks
      → NodeFacts mound_nodes (set s.words 0 new) (set qs id p') (set t.nodes g.node counted)
  second_recounted f g gs counted new p' guards is locks = let g' : Guard = guard g.node g.stored counted in
      let apart : HaveNodesApart (f ∷ g ∷ gs) = subst HaveNodesApart guards (t.tree.names id v.post here).apart in
      recounted g counted new p'
      (subst (λ (z : List Guard). Contains z g) (sym guards) (in_later f g (g ∷ gs) (in_first g gs)))
      (λ z at_z. ⊎_elim (λ e. inl e)
      (λ r. inr (r.0, subst (λ (l : List Guard). Contains l z) (sym guards) r.1))
      (second_cases f g g' gs refl apart z (subst (λ (l : List Guard). Contains l z) is at_z)))
      (ap nodes_of is ∙ sym (ap nodes_of guards)) locks

  -- Full, under the cells' lock, where no cell is free, by a seat that holds none
  pub places_full : (e : Entry) (new : ℕ) → 0 < v.post.number → Contains v.post.locks cells_lock
      → v.post.own.free ≡ [] → v.post.own.held ≡ None
      → Places mound_rule k id v (Insert e) (own_mark replies.Full) v.post.own new s h
  places_full e new positive locked none bare =
      let free : t.free ≡ [] = sym (t.cells.named id v.post here locked).0 ∙ none in
      quiet (Insert e) replies.Full new positive
      (event_full k.seats k.capacity (held_by qs) t.nodes (left h.history)
      (subst (λ (z : List ℕ). MoundFacts k.capacity z (held_by qs) t.nodes (left h.history)) free t.facts)
      (few_held (λ z. omega arith) bare))
      refl

  -- the root counts as its guard says
  root_is : (g : Guard) → Contains v.post.own.guards g → g.node ≡ 1 → node t.nodes 1 ≡ g.counted
  root_is g has is = ap (node t.nodes) (sym is) ∙ (t.tree.guarded.held id v.post g here has).counted

  -- Empty, under the root's lock, where its list is empty
  pub none_left : (g : Guard) → Contains v.post.own.guards g → g.node ≡ 1 → g.counted ≡ Resting []
      → left h.history ≡ []
  none_left g has is empty = event_empty k.capacity t.free (held_by qs) t.nodes (left h.history) t.facts
      (root_is g has is ∙ empty)

  pub places_empty : (g : Guard) (new : ℕ) → 0 < v.post.number → Contains v.post.own.guards g → g.node ≡ 1
      → g.counted ≡ Resting [] → Places mound_rule k id v Remove (own_mark replies.Empty) v.post.own new s h
  places_empty g new positive has is empty = quiet Remove replies.Empty new positive (none_left g has is empty) refl

  pub places_empty_below : (limit : ℕ) (g : Guard) (new : ℕ) → 0 < v.post.number → Contains v.post.own.guards g
      → g.node ≡ 1 → g.counted ≡ Resting []
      → Places mound_rule k id v (RemoveBelow limit) (own_mark replies.Empty) v.post.own new s h
  places_empty_below limit g new positive has is empty =
      quiet (RemoveBelow limit) replies.Empty new positive (none_left g has is empty) refl

  -- Above, under the root's lock, where its head's key is not below the limit
  pub places_above : (limit : ℕ) (g : Guard) (c : Cell) (list : List Cell) (new : ℕ) → 0 < v.post.number
      → Contains v.post.own.guards g → g.node ≡ 1 → g.counted ≡ Resting (c ∷ list) → limit ≤ c.entry.key
      → Places mound_rule k id v (RemoveBelow limit) (own_mark replies.Above) v.post.own new s h
  places_above limit g c list new positive has is counted high =
      quiet (RemoveBelow limit) replies.Above new positive
      (subst (λ (o : Option Entry). IsSomeAnd o (λ (e : Entry). limit ≤ e.key))
      (sym (event_least k.capacity t.free (held_by qs) t.nodes (left h.history) c list t.facts
      (root_is g has is ∙ counted))) high)
      refl

  -- Got, under the root's lock alone: the head is off the root's list, and the seat holds its cell
  pub places_got : (act : Act) (g : Guard) (c : Cell) (list : List Cell) (new : ℕ) → 0 < v.post.number
      → v.post.own.guards ≡ g ∷ [] → g.node ≡ 1 → g.counted ≡ Resting (c ∷ list) → v.post.own.held ≡ None
      → (least (left h.history) ≡ Some c.entry
      → IsStep k.seats k.capacity (left h.history) act (replies.Got c.entry)
      × (without_least (left h.history) ≡ after (left h.history) act (replies.Got c.entry)))
      → Places mound_rule k id v act (own_mark (replies.Got c.entry)) (after_removal (c ∷ list) v.post.own) new s h
  places_got act g c list new positive guards root counted bare steps_so =
      let own : MoundPart = after_removal (c ∷ list) v.post.own in
      let p' : Post MoundPart = drawn_post (replies.Got c.entry) own in
      let m : List Entry = left h.history in let cap : ℕ = k.capacity in
      let has_g : Contains v.post.own.guards g = subst
      (λ (z : List Guard). Contains z g) (sym guards) (in_first g []) in
      let is : node t.nodes 1 ≡ Resting (c ∷ list) = root_is g has_g root ∙ counted in
      let step = steps_so (event_least cap t.free (held_by qs) t.nodes m c list t.facts is) in
      let nodes : List Node = set t.nodes g.node (Hole list) in
      let at_root : set t.nodes 1 (Hole list) ≡ nodes = ap (λ (z : ℕ). set t.nodes z (Hole list)) (sym root) in
      let chain : IsLinked (nexts_in cap s.words) (Resting (c ∷ list)) =
      subst (IsLinked (nexts_in cap s.words)) is (t.linked.linked 1) in
      let P : Cell → Type 0 = λ d. entries_in cap s.words d.number ≡ raw_of d.entry in
      let stored : All P (c ∷ list) = subst (λ (z : Node). All P (cells z)) is (t.linked.stored 1) in
      placing act (replies.Got c.entry) new own nodes positive refl refl step.0 (length-set t.nodes g.node (Hole list))
      (first_recounted g [] (Hole list) new p' guards (ap (first_hole list) guards) refl)
      (subst (λ (z : List Node). MoundFacts cap t.free (held_by (set qs id p')) z
      (after m act (replies.Got c.entry))) at_root
      (subst (λ (z : List Entry). MoundFacts cap t.free (held_by (set qs id p')) (set t.nodes 1 (Hole list)) z)
      step.1
      (event_take cap t.free (held_by qs) (held_by (set qs id p')) t.nodes m c list t.facts is
      (λ n. let sums = held_times n qs id v.post p' here in
      let old : times n (held_number v.post.own.held) ≡ times n (held_number None) =
      ap (λ (o : Option OwnCell). times n (held_number o)) bare in
      omega (arith, times-cons n c.number (held_by qs), times-cons n c.number [])))))
      (subst (AreLinked (entries_in cap s.words) (nexts_in cap s.words)) at_root
      (takes_link (entries_in cap s.words) (nexts_in cap s.words) t.nodes c list t.linked t.facts.rooted is))
      (λ o e. let same : own_cell c.number (raw_of c.entry) (first_or (numbers list) 0) ≡ o = cc in
      subst (λ (z : OwnCell). (entries_in cap s.words z.number ≡ z.entry) ×
      (nexts_in cap s.words z.number ≡ z.next))
      same (All-head P c list stored, chain.0))

  -- the cell of an insert of e joins the list of a node that the seat guards
  joining_draw : (e : Entry) (o : OwnCell) (g : Guard) (list : List Cell) (new : ℕ) → 0 < v.post.number
      → v.post.own.held ≡ Some o → o.entry ≡ raw_of e → o.next ≡ first_or (numbers (behind e list)) 0 → 1 ≤ g.node
      → Contains v.post.own.guards g → g.counted ≡ Resting list → MayJoin t.nodes g.node e
      → let own : MoundPart = after_insert e (Some o) v.post.own in
      NodeFacts mound_nodes (set s.words 0 new) (set qs id (drawn_post replies.Done own))
      (set t.nodes g.node (joined list (cell o.number e)))
      → Places mound_rule k id v (Insert e) (own_mark replies.Done) own new s h
  joining_draw e o g list new positive holds entry next some_node has_g counted may tree =
      let own : MoundPart = after_insert e (Some o) v.post.own in let cap : ℕ = k.capacity in
      let p' : Post MoundPart = drawn_post replies.Done own in let i : ℕ = g.node in
      let at_g = t.tree.guarded.held id v.post g here has_g in let within = at_g.within in
      let is : node t.nodes i ≡ Resting list = at_g.counted ∙ counted in
      let words = (t.alone id v.post here).holds o holds in
      let joins = event_join cap t.free (held_by qs) (held_by (set qs id p')) t.nodes (left h.history) i o.number e list
      t.facts some_node within is may
      (λ n. let sums = held_times n qs id v.post p' here in
      let old : times n (held_number v.post.own.held) ≡ times n (held_number (Some o)) =
      ap (λ (z : Option OwnCell). times n (held_number z)) holds in
      omega (arith, times-cons n o.number (held_by (set qs id p')), times-cons n o.number [])) in
      placing (Insert e) replies.Done new own (set t.nodes i (joined list (cell o.number e))) positive refl refl joins.0
      (length-set t.nodes i (joined list (cell o.number e))) tree joins.1
      (joins_link (entries_in cap s.words) (nexts_in cap s.words) t.nodes i o.number e list t.linked within is
      (words.0 ∙ entry) (words.1 ∙ next))
      (λ z none. absurd (cc))

  -- Done, under the lock of one node: it is the root, or its head is not above the entry
  pub places_done : (e : Entry) (o : OwnCell) (g : Guard) (list : List Cell) (new : ℕ) → 0 < v.post.number
      → v.post.own.held ≡ Some o → o.entry ≡ raw_of e → o.next ≡ first_or (numbers (behind e list)) 0 → 1 ≤ g.node
      → v.post.own.guards ≡ g ∷ [] → g.counted ≡ Resting list → (value_of list ≤ raw_of e) ⊎ (g.node ≡ 1)
      → Places mound_rule k id v (Insert e) (own_mark replies.Done) (after_insert e (Some o) v.post.own) new s h
  places_done e o g list new positive holds entry next some_node guards counted may =
      let has_g : Contains v.post.own.guards g = subst
      (λ (z : List Guard). Contains z g) (sym guards) (in_first g []) in
      let is : value (node t.nodes g.node) ≡ value_of list =
      ap value ((t.tree.guarded.held id v.post g here has_g).counted ∙ counted) in
      joining_draw e o g list new positive holds entry next some_node has_g counted
      (⊎_elim (λ le. inl (omega arith)) (λ root. inr (inl root)) may)
      (first_recounted g [] (joined list (cell o.number e)) new
      (drawn_post replies.Done (after_insert e (Some o) v.post.own)) guards
      (ap (last_joined (cell o.number e)) guards
      ∙ ap (λ (z : Node). guard g.node g.stored (joining (cell o.number e) z) ∷ []) counted) refl)

  -- and under those of a node and of its parent, whose value is not above the entry
  pub places_done_below : (e : Entry) (o : OwnCell) (f g : Guard) (upper list : List Cell) (new : ℕ)
      → 0 < v.post.number → v.post.own.held ≡ Some o → o.entry ≡ raw_of e
      → o.next ≡ first_or (numbers (behind e list)) 0 → 1 ≤ g.node → v.post.own.guards ≡ f ∷ g ∷ []
      → g.node / 2 ≡ f.node → f.counted ≡ Resting upper → value_of upper ≤ raw_of e → g.counted ≡ Resting list
      → Places mound_rule k id v (Insert e) (own_mark replies.Done) (after_insert e (Some o) v.post.own) new s h
  places_done_below e o f g upper list new positive holds entry next some_node guards child above under counted =
      let has_f : Contains v.post.own.guards f =
      subst (λ (z : List Guard). Contains z f) (sym guards) (in_first f (g ∷ [])) in
      let has_g : Contains v.post.own.guards g =
      subst (λ (z : List Guard). Contains z g) (sym guards) (in_later f g (g ∷ []) (in_first g [])) in
      let is : value (node t.nodes f.node) ≡ value_of upper =
      ap value ((t.tree.guarded.held id v.post f here has_f).counted ∙ above) in
      let same : value (node t.nodes (g.node / 2)) ≡ value (node t.nodes f.node) =
      ap (λ (z : ℕ). value (node t.nodes z)) child in
      joining_draw e o g list new positive holds entry next some_node has_g counted (inr (inr (omega arith)))
      (second_recounted f g [] (joined list (cell o.number e)) new
      (drawn_post replies.Done (after_insert e (Some o) v.post.own)) guards
      (ap (last_joined (cell o.number e)) guards
      ∙ ap (λ (z : Node). f ∷ guard g.node g.stored (joining (cell o.number e) z) ∷ []) counted) refl)
