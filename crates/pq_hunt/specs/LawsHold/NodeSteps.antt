-- The rest of the heap's rule outlives what the calls on nodes do.
use Rattle.std.proofs.Common.{◌≡◌, ◌⊎◌, ℕ, ◌<◌, Bool, cond, List, [], ◌∷◌, get_or, set, inl, inr}
use Rattle.std.proofs.Common.{⊎_elim, refl, sym, ap, ◌∙◌, subst, arith, get_or-set_other, length-set, ne_eqb}
use Rattle.std.specs.Prelude.{Contains}
use Rattle.std.proofs.lemmas.List.Elements.{Contains-append_left}
use mathlib.Core.Option.{some}
use lib.ListN.{get_elem?}
use native.Mathlib.Decide.{ℕ_discrete}
use mathlib.Core.Logic.{dite}
use Rattle.pq_model.specs.History.{left}
use Rattle.pq_seats.specs.declared.views.Limits.{Limits}
use Rattle.pq_seats.specs.declared.views.Post.{Post}
use Rattle.pq_seats.specs.declared.views.View.{View}
use Rattle.pq_seats.specs.Rules.{Table, Holds}
use Rattle.pq_seats.proofs.Lists.{in_cases, less_has}
use Rattle.pq_nodes.specs.Layout.{lock_of, word_of}
use Rattle.pq_nodes.specs.Views.{guard, without_guard, restored}
use Rattle.pq_nodes.specs.Parts.{with_node, without_node, with_word}
use Rattle.pq_nodes.specs.Facts.{words_in, NodeFacts}
use Rattle.pq_nodes.specs.NodeLaws.{NodeLaws, IsNodeTaken}
use Rattle.pq_nodes.proofs.GuardLists.{in_same, nodes_restored, has_without_guard}
use Rattle.pq_hunt.specs.declared.nodes.Node.TheVariants.{Empty}
use Rattle.pq_hunt.specs.declared.views.HuntPart.{HuntPart}
use Rattle.pq_hunt.specs.Guards.{Guard}
use Rattle.pq_hunt.specs.Layout.{size_word, heap_lock}
use Rattle.pq_hunt.specs.Views.{with_guards, with_size}
use Rattle.pq_hunt.specs.NodeParts.{hunt_nodes}
use Rattle.pq_hunt.specs.Ties.{HuntTied}
use Rattle.pq_hunt.specs.Rules.{hunt_rule}
use Rattle.pq_hunt.specs.NodeParts.{HaveOwnersApart, AreUsed}
use Rattle.pq_hunt.specs.Nodes.{used}
use Rattle.pq_hunt.specs.LawsHold.Locks.{is_node_lock, word_is_no_lock}
use Rattle.pq_hunt.specs.LawsHold.Owners.{one_busy}
use Rattle.pq_hunt.specs.LawsHold.Changes.{ps, pat, changed, IsSteady, steady_inserts, steady_letters}

module _ (k : Limits) (s : Table HuntPart) (h : Holds hunt_rule k s) (id : ℕ) (v : View HuntPart) (at : get_elem? s.views id ≡ some v) where
  abbrev qs : List (Post HuntPart)
  qs = ps k s h id v at

  abbrev t : HuntTied k s.words qs (left h.history)
  t = h.tied

  abbrev here : get_elem? qs id ≡ some v.post
  here = pat k s h id v at

  -- The step is on a word of a node. It leaves the heap's lock, and what the seat says of the size and of its insert
  steps_on_node : (p' : Post HuntPart) (i x : ℕ) → size_word < i → IsSteady k s h id v at p'
      → p'.own.size_stored ≡ v.post.own.size_stored → p'.own.size_counted ≡ v.post.own.size_counted
      → (Contains p'.locks heap_lock → Contains v.post.locks heap_lock)
      → ((g : Guard) → Contains v.post.own.guards g → g.node ≡ 1
      → (v.post.owed ≡ []) ⊎ ((g' : Guard) × Contains p'.own.guards g' × (g'.node ≡ 1)))
      → NodeFacts hunt_nodes (set s.words i x) (set qs id p') t.nodes
      → HuntTied k (set s.words i x) (set qs id p') (left h.history)
  steps_on_node p' i x far steady stored counted fewer root tree =
      let lock : get_or (set s.words i x) heap_lock 0 ≡ get_or s.words heap_lock 0 = get_or-set_other s.words i heap_lock x 0 (omega arith) in
      let there : get_or (set s.words i x) size_word 0 ≡ get_or s.words size_word 0 = get_or-set_other s.words i size_word x 0 (omega arith) in
      changed k s h id v at p' (set s.words i x) (left h.history) (record {
        number = steady.number;
        long = length-set s.words i x;
        size = t.size;
        of = t.of;
        nodes = t.nodes;
        tree = tree;
        facts = t.facts;
        sizes = record {
          free = λ e. there ∙ t.free (sym lock ∙ e);
          mine = λ has. let old = t.held id v.post here (fewer has) in (counted ∙ old.0, there ∙ (old.1 ∙ sym stored));
          theirs = inl (refl, there);
        };
        inserts = steady_inserts k s h id v at p' i x (omega arith) steady;
        letters = steady_letters k s h id v at p' i x (omega arith) steady root;
      })

  -- a node's lock is taken
  pub takes : (i : ℕ) (g : Guard) → g.node ≡ i
      → NodeFacts hunt_nodes (set s.words (lock_of i) v.post.number) (set qs id (with_node hunt_nodes v.post g)) t.nodes
      → HuntTied k (set s.words (lock_of i) v.post.number) (set qs id (with_node hunt_nodes v.post g)) (left h.history)
  takes i g is tree = steps_on_node (with_node hunt_nodes v.post g) (lock_of i) v.post.number (omega arith)
      (record { number = refl; flight = refl; owed = refl; place = refl; climbing = refl; lettered = refl }) refl refl
      (λ has. ⊎_elim (λ e. absurd (omega arith)) (λ a. a) (in_cases (lock_of g.node) heap_lock v.post.locks has))
      (λ x has one. inr (x, Contains-append_left v.post.own.guards (g ∷ []) x has, one)) tree

  -- and freed
  pub frees : (i : ℕ) → (i ≡ 1 → v.post.owed ≡ [])
      → NodeFacts hunt_nodes (set s.words (lock_of i) 0) (set qs id (without_node hunt_nodes v.post i)) t.nodes
      → HuntTied k (set s.words (lock_of i) 0) (set qs id (without_node hunt_nodes v.post i)) (left h.history)
  frees i root tree = steps_on_node (without_node hunt_nodes v.post i) (lock_of i) 0 (omega arith)
      (record { number = refl; flight = refl; owed = refl; place = refl; climbing = refl; lettered = refl }) refl refl
      (λ has. (less_has (lock_of i) v.post.locks heap_lock has).0)
      (λ x has one. dite (ℕ_discrete i 1) (λ e. inl (root e))
      (λ ne. inr (x, has_without_guard (lock_of i) v.post.own.guards x has (λ e. ne (omega arith)), one))) tree

  -- and its word is stored, where it counts as it did
  pub stores : (i x : ℕ)
      → NodeFacts hunt_nodes (set s.words (word_of i) x) (set qs id (with_word hunt_nodes v.post i x)) t.nodes
      → HuntTied k (set s.words (word_of i) x) (set qs id (with_word hunt_nodes v.post i x)) (left h.history)
  stores i x tree = steps_on_node (with_word hunt_nodes v.post i x) (word_of i) x (omega arith)
      (record { number = refl; flight = refl; owed = refl; place = refl; climbing = refl; lettered = refl }) refl refl
      (λ has. has)
      (λ g has one. let gs : List Guard = v.post.own.guards in let after : List Guard = restored (word_of i) x gs in
      let r = in_same after gs (sym (nodes_restored (word_of i) x gs)) g has in inr (r.0, r.1, r.2 ∙ one)) tree

  -- an owner has one Busy node
  pub owners_apart : HaveOwnersApart v.post.own.guards
  owners_apart g f o e d has_g has_f busy_g busy_f =
      let at_g = (t.tree.guarded.held id v.post g here has_g).counted ∙ busy_g in
      let at_f = (t.tree.guarded.held id v.post f here has_f).counted ∙ busy_f in
      one_busy o d e g.node f.node t.size t.nodes t.facts.shape
      (let once = t.facts.flown.once o in let most = t.facts.flown.most o in omega arith) at_f at_g

  -- none of the nodes up to the size is Empty
  pub none_empty : AreUsed v.post
  none_empty locked g has low high = let size = (t.held id v.post here locked).0 in
      ap used (sym (t.tree.guarded.held id v.post g here has).counted) ∙ t.facts.shape.filled g.node low (omega arith)

pub hunt_node_laws : NodeLaws hunt_rule hunt_nodes
hunt_node_laws = record {
  reads = λ o gs. refl;
  locks = λ k i low high. is_node_lock k.capacity i low high;
  words = λ k i high. word_is_no_lock k.capacity i;
  within = λ k. omega arith;
  taken = λ k o i o' is. is.node i refl;
  takes_so = λ k o i o' is. record {
    heap = λ e. absurd (omega arith);
    node = λ j e. let same : i ≡ j = omega arith in subst (λ (z : ℕ). IsNodeTaken hunt_nodes o z o') same is;
  };
  freed = λ k o i. ap (λ (b : Bool). cond b (with_size o 0 0) (with_guards o (without_guard (lock_of i) o.guards)))
      (ne_eqb (lock_of i) heap_lock (λ e. omega arith));
  nodes = λ k s h. h.tied.nodes;
  long = λ k s h. h.tied.facts.long;
  facts = λ k s h. h.tied.tree;
  shown = λ k s h id v at. (owners_apart k s h id v at, none_empty k s h id v at);
  may_free_on = λ p i j root. root;
  takes = λ k s h id v i at positive low high zero tree. takes k s h id v at i (guard i (words_in s.words i) (get_or h.tied.nodes i Empty)) refl tree;
  frees = λ k s h id v i at r tree. frees k s h id v at i r.allowed tree;
  stores = λ k s h id v i x at r allowed tree. stores k s h id v at i x tree;
}
