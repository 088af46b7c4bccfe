-- The posts of a remover, from the heap's lock to the root's hole.
use Rattle.std.proofs.Common.{◌≡◌, ◌≢◌, None, ℕ, ◌+◌, ◌-◌, ◌≤◌, Bool, true, false, cond, eqb, List, [], ◌∷◌, ◌++◌, length, inl, inr, refl, sym, ap, ◌∙◌, subst, arith, eq-eqb, ne_eqb}
use Rattle.std.specs.Prelude.{Contains}
use Rattle.pq_words.specs.declared.entries.Entry.{Entry}
use Rattle.pq_words.specs.Entries.{raw_of}
use Rattle.pq_words.specs.declared.heap_words.Tag.{Tag}
use Rattle.pq_words.specs.declared.heap_words.Tag.TheVariants as tags
use Rattle.pq_words.specs.declared.heap_words.HeapWord.{HeapWord}
use Rattle.pq_words.specs.HeapWords.{FitsHeapWord, heap_number}
use Rattle.pq_model.specs.declared.marks.Act.{Act}
use Rattle.pq_model.specs.declared.marks.Act.TheVariants.{RemoveBelow}
use Rattle.pq_model.specs.declared.marks.Reply.TheVariants as replies
use Rattle.pq_model.specs.EntryWords.{entry_of}
use Rattle.pq_model.specs.declared.passes.Known.{Known}
use Rattle.pq_api.specs.Answers.{MakesCall}
use Rattle.pq_seats.specs.Views.{known_of, with_post, first_calls, later_lanes}
use Rattle.pq_seats.specs.Letters.{without}
use Rattle.pq_seats.specs.Posts.{less, placed_post}
use Rattle.pq_seats.specs.Batches.{Batch, own_place}
use Rattle.pq_seats.specs.Allowed.{MayDraw}
use Rattle.pq_seats.specs.declared.views.Limits.{Limits}
use Rattle.pq_hunt.specs.Rules.{hunt_rule}
use Rattle.pq_hunt.proofs.Keeping.Draws.{has_entry}
use Rattle.pq_hunt.specs.Nodes.{used}
use Rattle.pq_hunt.specs.Order.{HasWord}
use Rattle.pq_hunt.specs.Words.{Means, node_with, node_of}
use Rattle.pq_hunt.specs.Marks.{IsRemoval, MayGet}
use Rattle.pq_hunt.specs.Guards.{Guard}
use Rattle.pq_nodes.specs.Layout.{lock_of, word_of}
use Rattle.pq_nodes.specs.Views.{guard, restored, without_guard}
use Rattle.pq_hunt.specs.Views.{with_guards}
use Rattle.pq_nodes.specs.Parts.{guarding}
use Rattle.pq_hunt.specs.NodeParts.{HaveOwnersApart, AreUsed}
use Rattle.pq_hunt.specs.Steps.{sizing}
use Rattle.pq_hunt.specs.Batches.{entry_at, removal, hunt_batch, after_draw}
use Rattle.pq_hunt.proofs.Heap.Meanings.{unpacked_node}
use Rattle.pq_hunt.proofs.Calls.Pairs.{second_restored}
use Rattle.pq_hunt.proofs.Allowing.MayRemove.{may_get, may_get_last, may_bar, empty_batch, empty_part, gets_batch, gets_part, above, bars_batch, bars_part}
use Rattle.pq_seats.specs.Batches.{letters_of}
use Rattle.pq_seats.specs.declared.views.Post.{Post}
use Rattle.pq_seats.specs.declared.views.View.{View}
use Rattle.pq_hunt.specs.declared.nodes.Node.{Node}
use Rattle.pq_hunt.specs.declared.nodes.Node.TheVariants.{Empty, Available, Busy, Hole}
use Rattle.pq_hunt.specs.declared.views.HuntPart.{HuntPart}
use Rattle.pq_hunt.specs.Batches.{flight_at}
use Rattle.pq_nodes.specs.Passes.{ComesTo}
use Rattle.pq_nodes.specs.Parts.{with_node, without_node, IsFreeable, HasGuard}
use Rattle.pq_hunt.specs.HeldPosts.{without_heap, at_heap, at_hole, removing, saying, owed_after, telling}
use Rattle.pq_hunt.specs.Takes.{IsUsed, AreApart}
use Rattle.pq_hunt.specs.NodeParts.{hunt_nodes}
use Rattle.pq_hunt.specs.Layout.{heap_lock}

-- the letters that a draw makes, where the root and the last node count as these
abbrev pub letters : ℕ → Node → Node → List (ℕ × ℕ)
letters first r l = letters_of first (flight_at r) ++ letters_of (first + length (flight_at r) + 1) (flight_at l)

without_own : (o x : ℕ) (rest : List (ℕ × ℕ)) → without o ((o, x) ∷ rest) ≡ without o rest
without_own o x rest = ap (λ (b : Bool). cond {A = List (ℕ × ℕ)} b (without o rest) ((o, x) ∷ without o rest)) (eq-eqb o o refl)

without_other : (o p x : ℕ) (rest : List (ℕ × ℕ)) → p ≢ o → without o ((p, x) ∷ rest) ≡ (p, x) ∷ without o rest
without_other o p x rest ne = ap (λ (b : Bool). cond {A = List (ℕ × ℕ)} b (without o rest) ((p, x) ∷ without o rest)) (ne_eqb p o ne)

others_stay : (o : ℕ) (e : Entry) (place : ℕ) (l : Node) → AreApart (Busy o e) l → without o (letters_of place (flight_at l)) ≡ letters_of place (flight_at l)
others_stay o e place Empty apart = refl
others_stay o e place (Available d) apart = refl
others_stay o e place (Busy p d) apart = without_other o p (place + 1) [] (λ q. apart o e d refl (ap (λ (z : ℕ). Busy z d) q))
others_stay o e place (Hole d) apart = refl

-- the root's owner is told, and then the last node's
pub told_first : (first : ℕ) (r l : Node) → AreApart r l → owed_after r (letters first r l) ≡ letters_of (first + length (flight_at r) + 1) (flight_at l)
told_first first Empty l apart = refl
told_first first (Available e) l apart = refl
told_first first (Busy o e) l apart = without_own o (first + 1) (letters_of (first + 1 + 1) (flight_at l)) ∙ others_stay o e (first + 1 + 1) l apart
told_first first (Hole e) l apart = refl

pub told_last : (place : ℕ) (l : Node) → owed_after l (letters_of place (flight_at l)) ≡ []
told_last place Empty = refl
told_last place (Available e) = refl
told_last place (Busy o e) = without_own o (place + 1) []
told_last place (Hole e) = refl

pub owes_first : (first : ℕ) (r l : Node) (o : ℕ) (e : Entry) → r ≡ Busy o e → Contains (letters first r l) (o, first + 1)
owes_first first r l o e is = subst (λ (z : Node). Contains (letters first z l) (o, first + 1)) (sym is) (0, omega arith, refl)

pub owes_last : (place : ℕ) (l : Node) (o : ℕ) (e : Entry) → l ≡ Busy o e → Contains (letters_of place (flight_at l)) (o, place + 1)
owes_last place l o e is = subst (λ (z : Node). Contains (letters_of place (flight_at z)) (o, place + 1)) (sym is) (0, omega arith, refl)

-- nobody owns an Empty node
pub apart_empty : (r : Node) → AreApart r Empty
apart_empty r o e d is_r is_l = cc

abbrev P : Type 0
P = Post HuntPart

abbrev V : Type 0
V = View HuntPart

-- a seat of the same number that has made the same calls knows the same
pub same_known : (v w : V) → w.post.number ≡ v.post.number → w.lanes ≡ v.lanes → w.front ≡ v.front → known_of w ≡ known_of v
same_known v w number lanes front = λ j. record { number = number j; calls = first_calls (lanes j); front = front j; joined = later_lanes (lanes j) }

-- a call that was drawn, told of what was known before and behind the draw
pub makes : (before before' now now' : Known) (act : Act) (b b' : Batch) (first place : ℕ) → before ≡ before' → now ≡ now' → b ≡ b' → own_place first b' ≡ place
    → MakesCall before (own_place first b) act b.reply now → MakesCall before' place act b'.reply now'
makes before before' now now' act b b' first place is_before is_now is_b is_place made =
    subst (λ (z : ℕ). MakesCall before' z act b'.reply now') is_place
    (subst (λ (z : Batch). MakesCall before' (own_place first z) act z.reply now') is_b
    (subst (λ (z : Known). MakesCall before' (own_place first b) act b.reply z) is_now
    (subst (λ (z : Known). MakesCall z (own_place first b) act b.reply now) is_before made)))

-- an empty heap
module _ (n : ℕ) (act : Act) (removes : IsRemoval act) where
  pub empty_is : (p : P) → p ≡ at_heap n 0 → hunt_batch p.own act ≡ removal []
  empty_is p q = empty_batch act p.own removes (ap (λ (z : P). z.own.guards) q)

  pub to_empty : (first : ℕ) (p : P) → p ≡ at_heap n 0 → placed_post p (hunt_batch p.own act) (after_draw p.own act) first ≡ at_heap n 0
  to_empty first p q = ap (λ (z : P). placed_post z (hunt_batch z.own act) (after_draw z.own act) first) q
      ∙ (λ j. placed_post (at_heap n 0) (empty_batch act (at_heap n 0).own removes refl j) (empty_part act (at_heap n 0).own removes refl refl j) first)

-- a word that says that a node is used
pub used_word : (w : HeapWord) → FitsHeapWord w → used (node_of w) ≡ 1 → IsUsed w
used_word w fits is = record { fits = fits; has = by_tag w.tag w.owner w.entry is }
  where
    by_tag : (t : Tag) (o : ℕ) (e : Entry) → used (node_with t o e) ≡ 1 → HasWord (node_with t o e) e
    by_tag tags.Empty o e is = absurd (omega arith)
    by_tag tags.Available o e is = inl refl
    by_tag tags.Busy o e is = inr (o, refl)

-- the root's lock is taken, and its word read
module _ (n size word : ℕ) (counted : Node) where
  abbrev pub root : Guard
  root = guard 1 word counted

  pub to_root : (v v' : V) → v.post ≡ at_heap n size → ComesTo v v' (with_node hunt_nodes v.post root) → v'.post ≡ removing n [] size size (root ∷ [])
  to_root v v' q t = t.post ∙ ap (λ (p : P). with_node hunt_nodes p root) q

  pub root_has : (v : V) → v.post ≡ removing n [] size size (root ∷ []) → Contains v.post.own.guards root
  root_has v q = subst (λ (p : P). Contains p.own.guards root) (sym q) (0, omega arith, refl)

  pub root_used : (v : V) → 1 ≤ size → v.post ≡ removing n [] size size (root ∷ []) → AreUsed v.post → used counted ≡ 1
  root_used v some q all = all (subst (λ (p : P). Contains p.locks heap_lock) (sym q) (1, omega arith, refl)) root (root_has v q) (omega arith)
      (let is = ap (λ (p : P). p.own.size_counted) q in omega arith)

  pub read_root : (w : HeapWord) (v v' : V) → Means counted word → FitsHeapWord w → heap_number w ≡ word → v.post ≡ removing n [] size size (root ∷ []) → v'.post ≡ v.post
      → v'.post ≡ removing n [] size size (saying 1 w ∷ [])
  read_root w v v' means fits number q same = same ∙ (q ∙ (λ j. removing n [] size size (guard 1 (sym number j) (sym (unpacked_node w word counted fits number means) j) ∷ [])))

  -- and that of the last node
  module _ (g : Guard) where
    abbrev pub last : Guard
    last = guard size word counted

    pub to_last : (v v' : V) → v.post ≡ removing n [] size size (g ∷ []) → ComesTo v v' (with_node hunt_nodes v.post last) → v'.post ≡ removing n [] size size (g ∷ last ∷ [])
    to_last v v' q t = t.post ∙ ap (λ (p : P). with_node hunt_nodes p last) q

    pub last_has : (v : V) → v.post ≡ removing n [] size size (g ∷ last ∷ []) → Contains v.post.own.guards last
    last_has v q = subst (λ (p : P). Contains p.own.guards last) (sym q) (1, omega arith, refl)

    pub last_used : (v : V) → 1 ≤ size → v.post ≡ removing n [] size size (g ∷ last ∷ []) → AreUsed v.post → used counted ≡ 1
    last_used v some q all = all (subst (λ (p : P). Contains p.locks heap_lock) (sym q) (2, omega arith, refl)) last (last_has v q) some
        (let is = ap (λ (p : P). p.own.size_counted) q in omega arith)

    pub last_apart : (v : V) → g.node ≢ size → v.post ≡ removing n [] size size (g ∷ last ∷ []) → HaveOwnersApart v.post.own.guards → AreApart g.counted counted
    last_apart v differ q all o e d is_g is_last = differ (all g last o e d (subst (λ (p : P). Contains p.own.guards g) (sym q) (0, omega arith, refl)) (last_has v q) is_g is_last)

    pub read_last : (w : HeapWord) (v v' : V) → Means counted word → FitsHeapWord w → heap_number w ≡ word → v.post ≡ removing n [] size size (g ∷ last ∷ []) → v'.post ≡ v.post
        → v'.post ≡ removing n [] size size (g ∷ saying size w ∷ [])
    read_last w v v' means fits number q same = same ∙ (q ∙ (λ j. removing n [] size size (g ∷ guard size (sym number j) (sym (unpacked_node w word counted fits number means) j) ∷ [])))

-- a word 0 says that its node is Empty
pub empty_means : Means Empty 0
unfolding raw_of
empty_means = record { packed = record { tag = tags.Empty; owner = 0; entry = entry_of 0 0 }; fits = (refl, refl, refl); number = refl; node = refl }

-- the root's lock alone is held beside the heap's, and the draw is made
module _ (n size : ℕ) (r counted : Node) where
  abbrev pub one : List (ℕ × ℕ) → ℕ → P
  one owed x = removing n owed size size (guard 1 x counted ∷ [])

  pub one_guarded : (owed : List (ℕ × ℕ)) (x : ℕ) (v : V) → v.post ≡ one owed x → HasGuard hunt_nodes v 1
  one_guarded owed x v q = record { guard = guard 1 x counted; has = subst (λ (p : P). Contains p.own.guards (guard 1 x counted)) (sym q) (0, omega arith, refl); is = refl }

  pub to_word : (owed : List (ℕ × ℕ)) (x y : ℕ) (v w : V) → v.post ≡ one owed x → w ≡ with_post v (guarding hunt_nodes v.post (restored 37 y v.post.own.guards)) → w.post ≡ one owed y
  to_word owed x y v w q t = ap (λ (z : V). z.post) t ∙ ap (λ (p : P). guarding hunt_nodes p (restored 37 y p.own.guards)) q

  pub one_owes : (place x : ℕ) (v : V) → v.post ≡ one (letters_of place (flight_at r)) x → (o : ℕ) (e : Entry) → r ≡ Busy o e → Contains v.post.owed (o, place + 1)
  one_owes place x v q o e is = subst (λ (p : P). Contains p.owed (o, place + 1)) (sym q) (owes_last place r o e is)

  pub to_one_told : (place x : ℕ) (v w : V) → v.post ≡ one (letters_of place (flight_at r)) x → w ≡ with_post v (telling v.post r) → w.post ≡ one [] x
  to_one_told place x v w q t = ap (λ (z : V). z.post) t ∙ (ap (λ (p : P). telling p r) q ∙ ap (λ (owed : List (ℕ × ℕ)). one owed x) (told_last place r))

  pub one_freeable : (x : ℕ) (v : V) → Means counted x → v.post ≡ one [] x → IsFreeable hunt_nodes v 1
  one_freeable x v means q = record {
    guard = guard 1 x counted;
    has = subst (λ (p : P). Contains p.own.guards (guard 1 x counted)) (sym q) (0, omega arith, refl);
    is = refl;
    means = means;
    allowed = λ z. ap (λ (p : P). p.owed) q;
  }

  pub to_unrooted : (x : ℕ) (v w : V) → v.post ≡ one [] x → ComesTo v w (without_node hunt_nodes v.post 1) → w.post ≡ at_heap n size
  to_unrooted x v w q t = t.post ∙ ap (λ (p : P). without_node hunt_nodes p 1) q

-- the draws of a removal that guards the root alone
module _ (n : ℕ) (root : HeapWord) (used_root : IsUsed root) where
  root_entry : entry_at (node_of root) ≡ root.entry
  root_entry = has_entry (node_of root) root.entry used_root.has

  no_more : (first : ℕ) (r : Node) → letters_of first (flight_at r) ++ [] ≡ letters_of first (flight_at r)
  no_more first Empty = refl
  no_more first (Available e) = refl
  no_more first (Busy o e) = refl
  no_more first (Hole e) = refl

  abbrev pub alone : ℕ → ℕ → P
  alone stored size = removing n [] stored size (saying 1 root ∷ [])

  abbrev pub drawn_alone : ℕ → ℕ → Node → P
  drawn_alone first size counted = removing n (letters_of first (flight_at (node_of root))) size size (guard 1 (heap_number root) counted ∷ [])

  module _ (act : Act) (may : MayGet act root.entry) where
    pub to_unsized : (v w : V) → v.post ≡ alone 1 1 → w ≡ with_post v (sizing v.post 0) → w.post ≡ alone 0 1
    to_unsized v w q t = ap (λ (z : V). z.post) t ∙ ap (λ (p : P). sizing p 0) q

    pub may_take_last : (k : Limits) (id : ℕ) (v : V) (m : ℕ) → 1 ≤ n → v.post ≡ alone 0 1 → m ≡ 1 + length (flight_at (node_of root)) → MayDraw hunt_rule k id v act m
    may_take_last k id v m low q long = may_get_last k id v (saying 1 root) act root.entry m (ap (λ (p : P). p.own.guards) q) refl long (let is = ap (λ (p : P). p.number) q in omega arith)
        (ap (λ (p : P). p.owed) q) (ap (λ (p : P). p.own.climbing) q) (subst (λ (p : P). Contains p.locks heap_lock) (sym q) (1, omega arith, refl)) (ap (λ (p : P). p.own.size_counted) q) used_root.has may

    pub last_batch : (p : P) → p ≡ alone 0 1 → hunt_batch p.own act ≡ removal (saying 1 root ∷ [])
    last_batch p q = gets_batch act root.entry (saying 1 root) [] p.own (ap (λ (z : P). z.own.guards) q) root_entry may

    pub to_last_drawn : (first : ℕ) (p : P) → p ≡ alone 0 1 → placed_post p (hunt_batch p.own act) (after_draw p.own act) first ≡ drawn_alone first 0 Empty
    to_last_drawn first p q = ap (λ (z : P). placed_post z (hunt_batch z.own act) (after_draw z.own act) first) q
        ∙ ((λ j. placed_post (alone 0 1) (gets_batch act root.entry (saying 1 root) [] (alone 0 1).own refl root_entry may j) (gets_part act root.entry (saying 1 root) [] (alone 0 1).own refl root_entry may j) first)
        ∙ ap (λ (owed : List (ℕ × ℕ)). removing n owed 0 0 (guard 1 (heap_number root) Empty ∷ [])) (no_more first (node_of root)))

    pub last_reply : removal (saying 1 root ∷ []) ≡ record { before = flight_at (node_of root); reply = replies.Got root.entry; after = [] }
    last_reply = ap (λ (e : Entry). record { before = flight_at (node_of root); reply = replies.Got e; after = [] }) root_entry

  module _ (size limit : ℕ) (high : limit ≤ root.entry.key) where
    pub may_say_above : (k : Limits) (id : ℕ) (v : V) (m : ℕ) → 1 ≤ n → 1 ≤ size → v.post ≡ alone size size → m ≡ 1 + length (flight_at (node_of root)) → MayDraw hunt_rule k id v (RemoveBelow limit) m
    may_say_above k id v m low some q long = may_bar k id v (saying 1 root) limit root.entry m (ap (λ (p : P). p.own.guards) q) refl long (let is = ap (λ (p : P). p.number) q in omega arith)
        (ap (λ (p : P). p.owed) q) (ap (λ (p : P). p.own.climbing) q) (subst (λ (p : P). Contains p.locks heap_lock) (sym q) (1, omega arith, refl)) (let is = ap (λ (p : P). p.own.size_counted) q in omega arith) used_root.has high

    pub above_batch : (p : P) → p ≡ alone size size → hunt_batch p.own (RemoveBelow limit) ≡ above (saying 1 root)
    above_batch p q = bars_batch limit root.entry (saying 1 root) [] p.own (ap (λ (z : P). z.own.guards) q) root_entry high

    pub to_above_drawn : (first : ℕ) (p : P) → p ≡ alone size size → placed_post p (hunt_batch p.own (RemoveBelow limit)) (after_draw p.own (RemoveBelow limit)) first ≡ drawn_alone first size (Available root.entry)
    to_above_drawn first p q = ap (λ (z : P). placed_post z (hunt_batch z.own (RemoveBelow limit)) (after_draw z.own (RemoveBelow limit)) first) q
        ∙ ((λ j. placed_post (alone size size) (bars_batch limit root.entry (saying 1 root) [] (alone size size).own refl root_entry high j) (bars_part limit root.entry (saying 1 root) [] (alone size size).own refl root_entry high j) first)
        ∙ (λ j. removing n (no_more first (node_of root) j) size size (guard 1 (heap_number root) (Available (root_entry j)) ∷ [])))

-- the draw of a removal that guards the root and the last node
module _ (n size : ℕ) (root last : HeapWord) (act : Act) (used_root : IsUsed root) (used_last : IsUsed last) (may : MayGet act root.entry) where
  abbrev G : Guard
  G = saying 1 root

  abbrev F : Guard
  F = saying size last

  abbrev r : Node
  r = node_of root

  abbrev l : Node
  l = node_of last

  r_entry : entry_at r ≡ root.entry
  r_entry = has_entry r root.entry used_root.has

  l_entry : entry_at l ≡ last.entry
  l_entry = has_entry l last.entry used_last.has

  abbrev pub two : ℕ → P
  two stored = removing n [] stored size (G ∷ F ∷ [])

  pub to_sized : (v w : V) → v.post ≡ two size → w ≡ with_post v (sizing v.post (size - 1)) → w.post ≡ two (size - 1)
  to_sized v w q t = ap (λ (z : V). z.post) t ∙ ap (λ (p : P). sizing p (size - 1)) q

  pub may_take : (k : Limits) (id : ℕ) (v : V) (m : ℕ) → 1 ≤ n → 2 ≤ size → v.post ≡ two (size - 1) → m ≡ 1 + length (flight_at r) + length (flight_at l) → MayDraw hunt_rule k id v act m
  may_take k id v m low many q long = may_get k id v G F act root.entry last.entry m (ap (λ (p : P). p.own.guards) q) refl long (let is = ap (λ (p : P). p.number) q in omega arith)
      (ap (λ (p : P). p.owed) q) (ap (λ (p : P). p.own.climbing) q) (subst (λ (p : P). Contains p.locks heap_lock) (sym q) (2, omega arith, refl))
      (let is = ap (λ (p : P). p.own.size_counted) q in omega arith) (sym (ap (λ (p : P). p.own.size_counted) q)) used_root.has used_last.has may

  pub got_batch : (p : P) → p ≡ two (size - 1) → hunt_batch p.own act ≡ record { before = flight_at r; reply = replies.Got root.entry; after = flight_at l }
  got_batch p q = gets_batch act root.entry G (F ∷ []) p.own (ap (λ (z : P). z.own.guards) q) r_entry may
      ∙ ap (λ (e : Entry). record { before = flight_at r; reply = replies.Got e; after = flight_at l }) r_entry

  abbrev pub drawn : List (ℕ × ℕ) → ℕ → P
  drawn owed y = removing n owed (size - 1) (size - 1) (guard 1 (heap_number root) (Hole last.entry) ∷ guard size y Empty ∷ [])

  pub to_drawn : (first : ℕ) (p : P) → p ≡ two (size - 1) → placed_post p (hunt_batch p.own act) (after_draw p.own act) first ≡ drawn (letters first r l) (heap_number last)
  to_drawn first p q = ap (λ (z : P). placed_post z (hunt_batch z.own act) (after_draw z.own act) first) q
      ∙ ((λ j. placed_post (two (size - 1)) (gets_batch act root.entry G (F ∷ []) (two (size - 1)).own refl r_entry may j) (gets_part act root.entry G (F ∷ []) (two (size - 1)).own refl r_entry may j) first)
      ∙ ap (λ (e : Entry). removing n (letters first r l) (size - 1) (size - 1) (guard 1 (heap_number root) (Hole e) ∷ guard size (heap_number last) Empty ∷ [])) l_entry)

  pub drawn_guarded : (owed : List (ℕ × ℕ)) (y : ℕ) (v : V) → v.post ≡ drawn owed y → HasGuard hunt_nodes v size
  drawn_guarded owed y v q = record { guard = guard size y Empty; has = subst (λ (p : P). Contains p.own.guards (guard size y Empty)) (sym q) (1, omega arith, refl); is = refl }

  module _ (many : 2 ≤ size) where
    pub to_emptied : (owed : List (ℕ × ℕ)) (y x : ℕ) (v w : V) → v.post ≡ drawn owed y → w ≡ with_post v (guarding hunt_nodes v.post (restored (word_of size) x v.post.own.guards)) → w.post ≡ drawn owed x
    to_emptied owed y x v w q t = ap (λ (z : V). z.post) t ∙ (ap (λ (p : P). guarding hunt_nodes p (restored (word_of size) x p.own.guards)) q
        ∙ ap (λ (gs : List Guard). guarding hunt_nodes (drawn owed y) gs) (second_restored n None 0 0 (guard 1 (heap_number root) (Hole last.entry)) (guard size y Empty) (λ z. omega arith) x))

  pub owes_root : (first : ℕ) (v : V) → v.post ≡ drawn (letters first r l) 0 → (o : ℕ) (e : Entry) → r ≡ Busy o e → Contains v.post.owed (o, first + 1)
  owes_root first v q o e is = subst (λ (p : P). Contains p.owed (o, first + 1)) (sym q) (owes_first first r l o e is)

  pub to_told : (first : ℕ) (v w : V) → AreApart r l → v.post ≡ drawn (letters first r l) 0 → w ≡ with_post v (telling v.post r) → w.post ≡ drawn (letters_of (first + length (flight_at r) + 1) (flight_at l)) 0
  to_told first v w apart q t = ap (λ (z : V). z.post) t ∙ (ap (λ (p : P). telling p r) q ∙ ap (λ (owed : List (ℕ × ℕ)). drawn owed 0) (told_first first r l apart))

  pub owes_end : (place : ℕ) (v : V) → v.post ≡ drawn (letters_of place (flight_at l)) 0 → (o : ℕ) (e : Entry) → l ≡ Busy o e → Contains v.post.owed (o, place + 1)
  owes_end place v q o e is = subst (λ (p : P). Contains p.owed (o, place + 1)) (sym q) (owes_last place l o e is)

  pub to_all_told : (place : ℕ) (v w : V) → v.post ≡ drawn (letters_of place (flight_at l)) 0 → w ≡ with_post v (telling v.post l) → w.post ≡ drawn [] 0
  to_all_told place v w q t = ap (λ (z : V). z.post) t ∙ (ap (λ (p : P). telling p l) q ∙ ap (λ (owed : List (ℕ × ℕ)). drawn owed 0) (told_last place l))

-- the last node is Empty, and its lock and the heap's are freed
module _ (n size x : ℕ) (hand : Entry) (many : 2 ≤ size) where
  abbrev pub done : P
  done = removing n [] (size - 1) (size - 1) (guard 1 x (Hole hand) ∷ guard size 0 Empty ∷ [])

  abbrev pub left : P
  left = removing n [] (size - 1) (size - 1) (guard 1 x (Hole hand) ∷ [])

  own_lock : eqb (lock_of size) (lock_of size) ≡ true
  own_lock = eq-eqb (lock_of size) (lock_of size) refl

  root_lock : eqb (lock_of 1) (lock_of size) ≡ false
  root_lock = ne_eqb (lock_of 1) (lock_of size) (λ e. omega arith)

  over_lock : eqb heap_lock (lock_of size) ≡ false
  over_lock = ne_eqb heap_lock (lock_of size) (λ e. omega arith)

  locks_left : less (lock_of size) (lock_of size ∷ lock_of 1 ∷ heap_lock ∷ []) ≡ lock_of 1 ∷ heap_lock ∷ []
  locks_left = ap (λ (b : Bool). cond {A = List ℕ} b (less (lock_of size) (lock_of 1 ∷ heap_lock ∷ [])) (lock_of size ∷ less (lock_of size) (lock_of 1 ∷ heap_lock ∷ []))) own_lock
      ∙ (ap (λ (b : Bool). cond {A = List ℕ} b (less (lock_of size) (heap_lock ∷ [])) (lock_of 1 ∷ less (lock_of size) (heap_lock ∷ []))) root_lock
      ∙ ap (λ (b : Bool). lock_of 1 ∷ cond {A = List ℕ} b [] (heap_lock ∷ [])) over_lock)

  guards_left : without_guard (lock_of size) (guard 1 x (Hole hand) ∷ guard size 0 Empty ∷ []) ≡ guard 1 x (Hole hand) ∷ []
  guards_left = ap (λ (b : Bool). cond {A = List Guard} b (without_guard (lock_of size) (guard size 0 Empty ∷ [])) (guard 1 x (Hole hand) ∷ without_guard (lock_of size) (guard size 0 Empty ∷ []))) root_lock
      ∙ ap (λ (b : Bool). guard 1 x (Hole hand) ∷ cond {A = List Guard} b [] (guard size 0 Empty ∷ [])) own_lock

  pub to_left : (v w : V) → v.post ≡ done → ComesTo v w (without_node hunt_nodes v.post size) → w.post ≡ left
  to_left v w q t = t.post ∙ (ap (λ (p : P). without_node hunt_nodes p size) q ∙ (λ j. record { number = n; locks = locks_left j; flight = None; owed = []; own = with_guards done.own (guards_left j) }))

  pub done_held : (v : V) → v.post ≡ done → Contains v.post.locks (lock_of size)
  done_held v q = subst (λ (p : P). Contains p.locks (lock_of size)) (sym q) (0, omega arith, refl)

  pub done_freeable : (v : V) → v.post ≡ done → IsFreeable hunt_nodes v size
  done_freeable v q = record {
    guard = guard size 0 Empty;
    has = subst (λ (p : P). Contains p.own.guards (guard size 0 Empty)) (sym q) (1, omega arith, refl);
    is = refl;
    means = empty_means;
    allowed = λ z. ap (λ (p : P). p.owed) q;
  }

  pub left_held : (v : V) → v.post ≡ left → Contains v.post.locks heap_lock
  left_held v q = subst (λ (p : P). Contains p.locks heap_lock) (sym q) (1, omega arith, refl)

  pub to_hole : (v w : V) → v.post ≡ left → ComesTo v w (without_heap v.post) → w.post ≡ at_hole n 1 x hand
  to_hole v w q t = t.post ∙ ap without_heap q
