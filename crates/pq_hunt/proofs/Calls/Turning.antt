-- A turn of an insert: what the words that were read say of the pair of nodes.
use Rattle.std.proofs.Common.{◌≡◌, ◌≢◌, Some, ℕ, ◌/◌, ◌≤◌, [], ◌∷◌, refl, sym, ap, ◌∙◌, subst, arith}
use Rattle.std.specs.Prelude.{Contains}
use Rattle.pq_words.specs.declared.entries.Entry.{Entry}
use Rattle.pq_words.specs.declared.heap_words.Tag.{Tag}
use Rattle.pq_words.specs.declared.heap_words.Tag.TheVariants as tags
use Rattle.pq_words.specs.declared.heap_words.HeapWord.{HeapWord}
use Rattle.pq_words.specs.HeapWords.{FitsHeapWord, heap_number}
use Rattle.pq_seats.specs.declared.views.Post.{Post}
use Rattle.pq_seats.specs.declared.views.View.{View}
use Rattle.pq_seats.specs.Views.{with_post}
use Rattle.pq_hunt.specs.declared.nodes.Node.TheVariants.{Available, Busy}
use Rattle.pq_hunt.specs.Words.{Means, node_with, node_of}
use Rattle.pq_hunt.specs.Guards.{Guard}
use Rattle.pq_hunt.specs.declared.views.HuntPart.{HuntPart}
use Rattle.pq_nodes.specs.Views.{guard}
use Rattle.pq_hunt.specs.Steps.{busy_number, looking}
use Rattle.pq_nodes.specs.Passes.{ComesTo, HoldsTwo}
use Rattle.pq_nodes.specs.Parts.{without_node}
use Rattle.pq_hunt.specs.Climbing.{CanFind, TookPair, IsPaired}
use Rattle.pq_hunt.specs.HeldPosts.{in_flight, guarding_flight}
use Rattle.pq_hunt.proofs.Heap.Meanings.{one_meaning}
use Rattle.pq_hunt.proofs.Calls.Leafing.{busy_means}
use Rattle.pq_hunt.proofs.Calls.Pairs.{holds_two, two_freed}
use Rattle.pq_hunt.specs.NodeParts.{hunt_nodes}

-- a word that was read and unpacked means the node that it says
pub unpacked_means : (w : HeapWord) (word : ℕ) → FitsHeapWord w → heap_number w ≡ word → Means (node_of w) word
unpacked_means w word fits number = record { packed = w; fits = fits; number = number; node = refl }

module _ (n parent child : ℕ) (e : Entry) (v w : View HuntPart) (t : TookPair v w n e parent child) where
  abbrev P : Type 0
  P = Post HuntPart

  abbrev pub upper_guard : Guard
  upper_guard = guard parent t.above t.upper

  abbrev pub lower_guard : Guard
  lower_guard = guard child t.below t.lower

  pub has_upper : Contains w.post.own.guards upper_guard
  has_upper = subst (λ (p : P). Contains p.own.guards upper_guard) (sym t.holds.post) (0, omega arith, refl)

  pub has_lower : Contains w.post.own.guards lower_guard
  has_lower = subst (λ (p : P). Contains p.own.guards lower_guard) (sym t.holds.post) (1, omega arith, refl)

  pub can_find : CanFind w child
  can_find = record {
    guard = lower_guard;
    has = has_lower;
    is = refl;
    means = t.lower_means;
    place = ap (λ (p : P). p.own.place) t.holds.post;
    climbing = ap (λ (p : P). p.own.climbing) t.holds.post;
    entry = e;
    flies = ap (λ (p : P). p.flight) t.holds.post;
  }

  -- as taken
  pub taken_held : (x : View HuntPart) → x ≡ w → parent ≢ child → HoldsTwo hunt_nodes x parent child
  taken_held x same differ = holds_two n (Some e) child 1 upper_guard lower_guard differ x (ap (λ (z : View HuntPart). z.post) same ∙ t.holds.post) t.upper_means t.lower_means

  pub again : (x y : View HuntPart) → x ≡ w → parent ≢ child → ComesTo x y (without_node hunt_nodes (without_node hunt_nodes x.post child) parent) → ComesTo v y (in_flight n e child)
  again x y same differ f = record {
    post = f.post ∙ (ap (λ (p : P). without_node hunt_nodes (without_node hunt_nodes p child) parent) (ap (λ (z : View HuntPart). z.post) same ∙ t.holds.post) ∙ two_freed n (Some e) child 1 upper_guard lower_guard differ);
    lanes = f.lanes ∙ (ap (λ (z : View HuntPart). z.lanes) same ∙ t.holds.lanes);
    front = f.front ∙ (ap (λ (z : View HuntPart). z.front) same ∙ t.holds.front);
  }

  -- the entry is not there: the seat looks at the parent next
  abbrev pub looked : P
  looked = guarding_flight n e (child / 2) (upper_guard ∷ lower_guard ∷ [])

  pub to_looked : (x : View HuntPart) → x ≡ with_post w (looking w.post) → x.post ≡ looked
  to_looked x is = ap (λ (z : View HuntPart). z.post) is ∙ ap looking t.holds.post

  pub looked_held : (x : View HuntPart) → x ≡ with_post w (looking w.post) → parent ≢ child → HoldsTwo hunt_nodes x parent child
  looked_held x is differ = holds_two n (Some e) (child / 2) 1 upper_guard lower_guard differ x (to_looked x is) t.upper_means t.lower_means

  pub goes_up : (x y : View HuntPart) → x ≡ with_post w (looking w.post) → parent ≢ child → parent ≡ child / 2 → ComesTo x y (without_node hunt_nodes (without_node hunt_nodes x.post child) parent) → ComesTo v y (in_flight n e parent)
  goes_up x y is differ half f = record {
    post = f.post ∙ (ap (λ (p : P). without_node hunt_nodes (without_node hunt_nodes p child) parent) (to_looked x is) ∙ (two_freed n (Some e) (child / 2) 1 upper_guard lower_guard differ ∙ ap (λ (z : ℕ). in_flight n e z) (sym half)));
    lanes = f.lanes ∙ (ap (λ (z : View HuntPart). z.lanes) is ∙ t.holds.lanes);
    front = f.front ∙ (ap (λ (z : View HuntPart). z.front) is ∙ t.holds.front);
  }

  -- the entry is there, and the parent's word is unpacked
  pub pair_is : (x : View HuntPart) (above mine : ℕ) (word : HeapWord) → x ≡ w → 1 ≤ n → n ≤ 16 → mine ≡ busy_number n e → mine ≡ t.below → above ≡ t.above
      → FitsHeapWord word → heap_number word ≡ above → word.tag ≡ tags.Available → (p : IsPaired x n e parent child above mine) × (p.other ≡ word.entry)
  pair_is x above mine word same low high is_mine below_is above_is fits number tag =
      let lower : t.lower ≡ Busy n e = one_meaning t.lower (Busy n e) mine (subst (λ (z : ℕ). Means t.lower z) (sym below_is) t.lower_means) (subst (λ (z : ℕ). Means (Busy n e) z) (sym is_mine) (busy_means n e low high)) in
      let unpacked : Means (Available word.entry) above = subst (λ (z : Tag). Means (node_with z word.owner word.entry) above) tag (unpacked_means word above fits number) in
      let upper : t.upper ≡ Available word.entry = one_meaning t.upper (Available word.entry) above (subst (λ (z : ℕ). Means t.upper z) (sym above_is) t.upper_means) unpacked in (
        record {
          other = word.entry;
          means = unpacked;
          post = ap (λ (z : View HuntPart). z.post) same ∙ (t.holds.post ∙ (λ j. guarding_flight n e child (guard parent (sym above_is j) (upper j) ∷ guard child (sym below_is j) (lower j) ∷ [])));
        },
        refl,
      )
