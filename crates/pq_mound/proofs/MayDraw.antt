-- The draws of the mound are allowed.
use Rattle.std.proofs.Common.{◌≡◌, ◌⊎◌, ℕ, ◌+◌, ◌/◌, ◌<◌, ◌≤◌, Bool, true, false, cond, List, [], ◌∷◌, Some, None}
use Rattle.std.proofs.Common.{refl, sym, ap, ◌∙◌, subst, arith}
use Rattle.std.specs.Prelude.{Contains, Option, slice_index, nat_le}
use Rattle.std.proofs.lemmas.Bool.Decides.{nat_tests}
use Rattle.pq_words.specs.declared.entries.Entry.{Entry}
use Rattle.pq_words.specs.Entries.{raw_of}
use Rattle.pq_model.specs.declared.marks.Act.TheVariants.{Insert, Remove, RemoveBelow}
use Rattle.pq_model.specs.declared.marks.Reply.TheVariants as replies
use Rattle.pq_seats.specs.declared.views.Limits.{Limits}
use Rattle.pq_seats.specs.declared.views.View.{View}
use Rattle.pq_seats.specs.Allowed.{Places, MayDraw}
use Rattle.pq_seats.proofs.Lists.{in_first}
use Rattle.pq_mound.specs.declared.nodes.Cell.{Cell}
use Rattle.pq_mound.specs.declared.nodes.Node.TheVariants.{Resting}
use Rattle.pq_mound.specs.declared.views.MoundPart.{MoundPart}
use Rattle.pq_mound.specs.declared.views.OwnCell.{OwnCell}
use Rattle.pq_mound.specs.Nodes.{cells, numbers}
use Rattle.pq_mound.specs.Order.{value_of, behind}
use Rattle.pq_mound.specs.Batches.{first_list, removed, removed_below, inserted, after_insert, after_removal}
use Rattle.pq_mound.specs.Batches.{after_removal_below}
use Rattle.pq_mound.specs.Chains.{first_or}
use Rattle.pq_mound.specs.Layout.{cells_lock}
use Rattle.pq_mound.specs.Views.{Guard}
use Rattle.pq_mound.specs.Rules.{mound_rule}
use Rattle.pq_mound.proofs.Draws.{own_mark, places_full, places_empty, places_empty_below, places_above, places_got}
use Rattle.pq_mound.proofs.Draws.{places_done, places_done_below}

module _ (k : Limits) (id : ℕ) (v : View MoundPart) (positive : 0 < v.post.number) where
  -- an insert that finds no free cell
  pub may_refuse : (e : Entry) → Contains v.post.locks cells_lock → v.post.own.free ≡ [] → v.post.own.held ≡ None
      → MayDraw mound_rule k id v (Insert e) 1
  may_refuse e locked none bare = (
    refl,
    λ s h at. subst (λ (o : Option OwnCell). Places mound_rule k id v (Insert e) (own_mark (inserted o))
        (after_insert e o v.post.own) (slice_index s.words 0 + 1) s h) (sym bare)
        (places_full k s h id v at e (slice_index s.words 0 + 1) positive locked none bare),
  )

  -- an insert that holds a cell with its entry, which leads to the first cell of the list that is not below the entry
  pub record HasCell (e : Entry) (o : OwnCell) (list : List Cell) : Type 0 where
    pub holds : v.post.own.held ≡ Some o
    pub entry : o.entry ≡ raw_of e
    pub next : o.next ≡ first_or (numbers (behind e list)) 0

  pub may_end : (e : Entry) (o : OwnCell) (g : Guard) (list : List Cell) → HasCell e o list → 1 ≤ g.node
      → v.post.own.guards ≡ g ∷ [] → g.counted ≡ Resting list → (value_of list ≤ raw_of e) ⊎ (g.node ≡ 1)
      → MayDraw mound_rule k id v (Insert e) 1
  may_end e o g list c some_node guards counted may = (
    refl,
    λ s h at. subst (λ (z : Option OwnCell). Places mound_rule k id v (Insert e) (own_mark (inserted z))
        (after_insert e z v.post.own) (slice_index s.words 0 + 1) s h) (sym c.holds)
        (places_done k s h id v at e o g list (slice_index s.words 0 + 1) positive c.holds c.entry c.next some_node
        guards counted may),
  )

  pub may_end_below : (e : Entry) (o : OwnCell) (f g : Guard) (upper list : List Cell) → HasCell e o list → 1 ≤ g.node
      → v.post.own.guards ≡ f ∷ g ∷ [] → g.node / 2 ≡ f.node → f.counted ≡ Resting upper
      → value_of upper ≤ raw_of e → g.counted ≡ Resting list → MayDraw mound_rule k id v (Insert e) 1
  may_end_below e o f g upper list c some_node guards child above under counted = (
    refl,
    λ s h at. subst (λ (z : Option OwnCell). Places mound_rule k id v (Insert e) (own_mark (inserted z))
        (after_insert e z v.post.own) (slice_index s.words 0 + 1) s h) (sym c.holds)
        (places_done_below k s h id v at e o f g upper list (slice_index s.words 0 + 1) positive c.holds c.entry c.next
        some_node guards child above under counted),
  )

  -- a removal that guards the root alone, which has this list
  pub record AtRoot (g : Guard) (list : List Cell) : Type 0 where
    pub guards : v.post.own.guards ≡ g ∷ []
    pub root : g.node ≡ 1
    pub counted : g.counted ≡ Resting list

  first_is : (g : Guard) (list : List Cell) → AtRoot g list → first_list v.post.own.guards ≡ list
  first_is g list r = ap first_list r.guards ∙ ap cells r.counted

  has_root : (g : Guard) (list : List Cell) → AtRoot g list → Contains v.post.own.guards g
  has_root g list r = subst (λ (z : List Guard). Contains z g) (sym r.guards) (in_first g [])

  pub may_find_none : (g : Guard) → AtRoot g [] → MayDraw mound_rule k id v Remove 1
  may_find_none g r = (
    refl,
    λ s h at. subst (λ (l : List Cell). Places mound_rule k id v Remove (own_mark (removed l))
        (after_removal l v.post.own)
        (slice_index s.words 0 + 1) s h) (sym (first_is g [] r))
        (places_empty k s h id v at g (slice_index s.words 0 + 1) positive (has_root g [] r) r.root r.counted),
  )

  pub may_find_none_below : (limit : ℕ) (g : Guard) → AtRoot g [] → MayDraw mound_rule k id v (RemoveBelow limit) 1
  may_find_none_below limit g r = (
    refl,
    λ s h at. subst (λ (l : List Cell). Places mound_rule k id v (RemoveBelow limit) (own_mark (removed_below limit l))
        (after_removal_below limit l v.post.own) (slice_index s.words 0 + 1) s h) (sym (first_is g [] r))
        (places_empty_below k s h id v at limit g (slice_index s.words 0 + 1) positive
        (has_root g [] r) r.root r.counted),
  )

  pub may_get : (g : Guard) (c : Cell) (list : List Cell) → AtRoot g (c ∷ list) → v.post.own.held ≡ None
      → MayDraw mound_rule k id v Remove 1
  may_get g c list r bare = (
    refl,
    λ s h at. subst (λ (l : List Cell). Places mound_rule k id v Remove (own_mark (removed l))
        (after_removal l v.post.own)
        (slice_index s.words 0 + 1) s h) (sym (first_is g (c ∷ list) r))
        (places_got k s h id v at Remove g c list (slice_index s.words 0 + 1) positive r.guards r.root r.counted bare
        (λ least. (least, refl))),
  )

  pub may_find_above : (limit : ℕ) (g : Guard) (c : Cell) (list : List Cell) → AtRoot g (c ∷ list)
      → limit ≤ c.entry.key → MayDraw mound_rule k id v (RemoveBelow limit) 1
  may_find_above limit g c list r high = let test : nat_le limit c.entry.key ≡ true = grind (arith, nat_tests) in (
    refl,
    λ s h at. subst (λ (l : List Cell). Places mound_rule k id v (RemoveBelow limit) (own_mark (removed_below limit l))
        (after_removal_below limit l v.post.own) (slice_index s.words 0 + 1) s h) (sym (first_is g (c ∷ list) r))
        (subst (λ (b : Bool). Places mound_rule k id v (RemoveBelow limit)
        (own_mark (cond b replies.Above (replies.Got c.entry)))
        (cond b v.post.own (after_removal (c ∷ list) v.post.own)) (slice_index s.words 0 + 1) s h) (sym test)
        (places_above k s h id v at limit g c list (slice_index s.words 0 + 1) positive (has_root g
        (c ∷ list) r) r.root
        r.counted high)),
  )

  pub may_get_below : (limit : ℕ) (g : Guard) (c : Cell) (list : List Cell) → AtRoot g (c ∷ list)
      → c.entry.key < limit → v.post.own.held ≡ None → MayDraw mound_rule k id v (RemoveBelow limit) 1
  may_get_below limit g c list r low bare = let test : nat_le limit c.entry.key ≡ false = grind (arith, nat_tests) in (
    refl,
    λ s h at. subst (λ (l : List Cell). Places mound_rule k id v (RemoveBelow limit) (own_mark (removed_below limit l))
        (after_removal_below limit l v.post.own) (slice_index s.words 0 + 1) s h) (sym (first_is g (c ∷ list) r))
        (subst (λ (b : Bool). Places mound_rule k id v (RemoveBelow limit)
        (own_mark (cond b replies.Above (replies.Got c.entry)))
        (cond b v.post.own (after_removal (c ∷ list) v.post.own)) (slice_index s.words 0 + 1) s h) (sym test)
        (places_got k s h id v at (RemoveBelow limit) g c list (slice_index s.words 0 + 1) positive r.guards r.root
        r.counted bare (λ least. ((least, low), refl)))),
  )
