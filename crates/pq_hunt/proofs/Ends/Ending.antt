-- What the words of a closed heap leave.
use Rattle.std.proofs.Common.{◌≡◌, ℕ, suc, ◌+◌, ◌<◌, ◌≤◌, true, false, List, [], ◌∷◌, ◌++◌, drop, length, get_or, refl, sym, ap, ◌∙◌, subst, arith}
use Rattle.std.specs.Prelude.{slice_index}
use Rattle.std.specs.declared.cmp.Ordering.{Ordering}
use Rattle.std.specs.Ordering.{nat_cmp, is_lt, ordering_then}
use Rattle.std.specs.List.Sorted.{IsPermutation, IsSorted, IsNonDecreasingBy}
use Rattle.std.proofs.lemmas.List.{append_assoc, append-nil, drop_more}
use mathlib.Core.Option.{some}
use lib.ListN.{get_elem?}
use Rattle.std.proofs.lemmas.List.Elements.{All-from_get_or}
use Rattle.std.proofs.lemmas.List.Sorted.{IsNonDecreasingBy-from_sort, IsNonDecreasingBy-drop}
use Rattle.std.proofs.Math.ListN.{drop_of_length-le}
use Rattle.pq_words.specs.declared.entries.Entry.{Entry}
use Rattle.pq_words.specs.Entries.{raw_of}
use Rattle.pq_words.proofs.Order.{compared_by_raw_of}
use Rattle.pq_model.specs.Multiset.{IsRising, sorted_of}
use Rattle.pq_model.proofs.Multisets.{sorted_of-permutation, sorted_of-rising}
use Rattle.pq_hunt.specs.declared.nodes.Node.{Node}
use Rattle.pq_hunt.specs.declared.nodes.Node.TheVariants.{Empty, Available, Busy, Hole}
use Rattle.pq_hunt.specs.declared.views.HuntPart.{HuntPart}
use Rattle.pq_seats.specs.declared.views.Limits.{Limits}
use Rattle.pq_seats.specs.declared.views.View.{View}
use Rattle.pq_seats.specs.Seats.{Ended}
use Rattle.pq_seats.proofs.Lists.{read_at}
use Rattle.std.proofs.lemmas.Bool.Decides.{nat_tests}
use Rattle.pq_hunt.specs.Nodes.{node, standing}
use Rattle.pq_nodes.specs.Layout.{lock_of, word_of}
use Rattle.pq_hunt.specs.Layout.{is_lock}
use Rattle.pq_hunt.specs.Words.{Means}
use Rattle.pq_hunt.specs.Rules.{hunt_rule}
use Rattle.pq_hunt.specs.Queues.{SayNodes}
use Rattle.pq_api.specs.Closing.{IsClosed}
use Rattle.pq_model.specs.History.{IsLegal}
use Rattle.pq_seats.specs.Views.{known_of}

-- what stands in a list is what stands at its first node, and behind it
standing_first : (v : Node) (nodes : List Node) → standing (v ∷ nodes) ≡ standing (v ∷ []) ++ standing nodes
standing_first Empty nodes = refl
standing_first (Available e) nodes = refl
standing_first (Busy o e) nodes = refl
standing_first (Hole e) nodes = refl

-- one node more
pub next_kept : (nodes : List Node) (kept kept' all : List Entry) (i : ℕ) → i < length nodes → kept ++ standing (drop i nodes) ≡ all
    → kept' ≡ kept ++ standing (node nodes i ∷ []) → kept' ++ standing (drop (i + 1) nodes) ≡ all
next_kept nodes kept kept' all i lt so is =
    let v : Node = node nodes i in let rest : List Entry = standing (drop (i + 1) nodes) in
    ap (λ (l : List Entry). l ++ rest) is ∙ (append_assoc kept (standing (v ∷ [])) rest
    ∙ (ap (λ (l : List Entry). kept ++ l) (sym (standing_first v (drop (i + 1) nodes)) ∙ ap standing (sym (drop_more nodes i Empty lt))) ∙ so))

-- and all nodes
pub all_kept : (nodes : List Node) (kept all : List Entry) (n : ℕ) → length nodes ≤ n → kept ++ standing (drop n nodes) ≡ all → kept ≡ all
all_kept nodes kept all n past so = sym (append-nil kept)
    ∙ (ap (λ (l : List Node). kept ++ standing l) (sym (drop_of_length-le nodes past)) ∙ so)

-- what the word that was read says
pub word_says : (capacity : ℕ) (words : List ℕ) (nodes : List Node) (i j x : ℕ) → SayNodes capacity words nodes → 1 ≤ i → i ≤ capacity
    → j ≡ word_of i → get_elem? words j ≡ some x → Means (node nodes i) x
word_says capacity words nodes i j x says low high e at =
    subst (λ (z : ℕ). Means (node nodes i) z) (ap (slice_index words) (sym e) ∙ read_at words j x at) (says.means i low high)

-- a list whose numbers rise
rising : (xs : List Entry) → IsNonDecreasingBy raw_of xs → IsRising xs
rising [] up = tt
rising (x ∷ xs) up = (
  All-from_get_or (λ (y : Entry). raw_of x ≤ raw_of y) xs x (λ i lt. up 0 (suc i) x (omega arith) (omega arith)),
  rising xs (IsNonDecreasingBy-drop raw_of 1 (x ∷ xs) up),
)

abbrev pub entry_order : Entry → Entry → Ordering
entry_order a b = ordering_then (nat_cmp a.key b.key) (nat_cmp a.id b.id)

-- a list that was sorted is the multiset of what it was
pub sorted_left : (xs ys : List Entry) → IsPermutation xs ys → IsSorted entry_order ys → ys ≡ sorted_of xs
sorted_left xs ys moved sorted = sym (sorted_of-permutation xs ys moved ∙ sorted_of-rising ys (rising ys
    (IsNonDecreasingBy-from_sort raw_of ys (λ k d low lt. subst (λ (o : Ordering). is_lt o ≡ false)
    (compared_by_raw_of (get_or ys (k + 1) d) (get_or ys k d)) (sorted k d low lt)))))

pub node_lock : (capacity i : ℕ) → 1 ≤ i → i ≤ capacity → is_lock capacity (lock_of i) ≡ true
node_lock capacity i low high = grind (arith, nat_tests)

-- no node is locked, so the words say what the nodes count as
says : (k : Limits) (v : View HuntPart) (words : List ℕ) (e : Ended hunt_rule k v words) → SayNodes k.capacity words e.tied.nodes
says k v words e = let t = e.tied in let long = t.facts.long in record {
  long = long;
  first = t.facts.shape.first;
  means = λ i low high. t.tree.guarded.free i (omega arith) (e.unlocked (lock_of i) (node_lock k.capacity i low high));
}

module _ (k : Limits) (v : View HuntPart) (words : List ℕ) (e : Ended hunt_rule k v words) (capacity : ℕ) (sized : capacity ≡ k.capacity) where
  pub says_all : SayNodes capacity words e.tied.nodes
  says_all = subst (λ (n : ℕ). SayNodes n words e.tied.nodes) (sym sized) (says k v words e)

  -- what a close answers
  pub shown : (seats long : ℕ) (rest : List Entry) → seats ≡ k.seats → get_elem? words 0 ≡ some long → rest ≡ sorted_of (standing e.tied.nodes)
      → IsClosed seats capacity (known_of v) (record { left = rest; length = long })
  shown seats long rest seated first is = record {
    history = e.history;
    actual = e.actual;
    legal = subst (λ (n : ℕ). IsLegal n capacity e.history) (sym seated) (subst (λ (n : ℕ). IsLegal k.seats n e.history) (sym sized) e.legal);
    long = sym e.counted ∙ read_at words 0 long first;
    rest = is ∙ sym e.tied.facts.holds;
  }
