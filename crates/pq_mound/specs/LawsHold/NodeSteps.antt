-- The rest of the mound's rule outlives what the calls on nodes do.
use Rattle.std.proofs.Common.{◌≡◌, ℕ, ◌+◌, ◌<◌, ◌≤◌, Bool, cond, List, [], ◌∷◌, get_or}
use Rattle.std.proofs.Common.{set, inr}
use Rattle.std.proofs.Common.{⊎_elim, refl, sym, ap, subst, arith, ne_eqb}
use Rattle.std.specs.Prelude.{Contains, nat_lt}
use Rattle.std.proofs.lemmas.Bool.Decides.{nat_tests}
use Rattle.std.proofs.lemmas.Nat.{pow_pos}
use mathlib.Core.Option.{some}
use lib.ListN.{get_elem?}
use Rattle.pq_model.specs.History.{left}
use Rattle.pq_seats.specs.declared.views.Limits.{Limits}
use Rattle.pq_seats.specs.declared.views.Post.{Post}
use Rattle.pq_seats.specs.declared.views.View.{View}
use Rattle.pq_seats.specs.Rules.{Table, Holds}
use Rattle.pq_seats.proofs.Lists.{in_cases, less_has}
use Rattle.pq_nodes.specs.Layout.{lock_of, word_of}
use Rattle.pq_nodes.specs.Views.{guard, without_guard}
use Rattle.pq_nodes.specs.Parts.{with_node, without_node, with_word}
use Rattle.pq_nodes.specs.Facts.{words_in, NodeFacts}
use Rattle.pq_nodes.specs.NodeLaws.{NodeLaws, IsNodeTaken}
use Rattle.pq_mound.specs.declared.nodes.Cell.{Cell}
use Rattle.pq_mound.specs.declared.nodes.Node.{Node}
use Rattle.pq_mound.specs.declared.nodes.Node.TheVariants.{Resting}
use Rattle.pq_mound.specs.declared.views.MoundPart.{MoundPart}
use Rattle.pq_mound.specs.Nodes.{node, cells, all_cells, numbers}
use Rattle.pq_mound.specs.Cells.{times}
use Rattle.pq_mound.specs.Facts.{MoundFacts}
use Rattle.pq_mound.specs.Layout.{cells_lock, cell_base, node_count, depth_of}
use Rattle.pq_mound.specs.NodeParts.{mound_nodes, head_word}
use Rattle.pq_mound.specs.Ties.{held_by, MoundTied}
use Rattle.pq_mound.specs.Rules.{mound_rule}
use Rattle.pq_mound.specs.Views.{Guard, with_guards, with_free, held_number}
use Rattle.pq_mound.specs.LawsHold.Held.{held_same}
use Rattle.pq_mound.specs.LawsHold.Sums.{times-here, in_list}
use Rattle.pq_mound.specs.LawsHold.Locks.{is_node_lock, word_is_no_lock}
use Rattle.pq_mound.specs.LawsHold.Steps.{ps, pat, free_on, steps, alone_stays}

-- a list's head is named by a word that is at most the capacity
head_low : (c : ℕ) (free held : List ℕ) (nodes : List Node) (n : ℕ) → ((k : ℕ)
    → times k (numbers (all_cells nodes)) + times k free + times k held ≡ cond (nat_lt k c) 1 0)
    → head_word (node nodes n) ≤ c
head_low c free held nodes n once = by_list (cells (node nodes n)) (λ k listed. low k (let le = in_list k nodes n in
    omega arith))
  where
    low : (k : ℕ) → 1 ≤ times k (numbers (all_cells nodes)) → k < c
    low k listed = let is = once k in grind (arith, nat_tests)

    by_list : (list : List Cell) → ((k : ℕ) → 1 ≤ times k (numbers list) → k < c) → head_word (Resting list) ≤ c
    by_list [] all = omega arith
    by_list (d ∷ list) all = let lt = all d.number (let one = times-here d.number (numbers list) in omega arith) in
        omega arith

module _ (k : Limits) (s : Table MoundPart) (h : Holds mound_rule k s) (id : ℕ) (v : View MoundPart)
    (at : get_elem? s.views id ≡ some v) where
  abbrev qs : List (Post MoundPart)
  qs = ps k s h id v at

  abbrev tied : MoundTied k s.words qs (left h.history)
  tied = h.tied

  abbrev here : get_elem? qs id ≡ some v.post
  here = pat k s h id v at

  -- The step is on a word of a node. It leaves what the seat names of cells, and its insert in flight
  steps_on_node : (p' : Post MoundPart) (i x : ℕ) → 32 ≤ i → i < cell_base k.capacity
      → ((n : ℕ) → n < node_count k.capacity → word_of n ≡ i → x ≤ k.capacity)
      → p'.own.held ≡ v.post.own.held → p'.own.free ≡ v.post.own.free → p'.own.count ≡ v.post.own.count
      → p'.flight ≡ v.post.flight → p'.owed ≡ v.post.owed
      → (Contains p'.locks cells_lock → Contains v.post.locks cells_lock)
      → NodeFacts mound_nodes (set s.words i x) (set qs id p') tied.nodes
      → MoundTied k (set s.words i x) (set qs id p') (left h.history)
  steps_on_node p' i x far low fits held free count flight owed fewer tree =
      steps k s h id v at i x low p' tied.free tied.nodes (left h.history) (inr (omega arith))
      (λ e. omega arith) fits refl tree
      (subst (λ (z : List ℕ). MoundFacts k.capacity tied.free z tied.nodes (left h.history))
      (sym (held_same qs id v.post p' here (ap held_number held))) tied.facts)
      tied.linked
      (free_on k s h id v at i x low p' (λ e. omega arith) (λ e. omega arith) (λ e. omega arith) free count fewer)
      (alone_stays k s h id v at p' flight owed held)

  pub takes : (i : ℕ) (g : Guard) → g.node ≡ i → i < node_count k.capacity
      → NodeFacts mound_nodes (set s.words (lock_of i) v.post.number) (set qs id
      (with_node mound_nodes v.post g)) tied.nodes
      → MoundTied k (set s.words (lock_of i) v.post.number) (set qs id (with_node mound_nodes v.post g))
      (left h.history)
  takes i g is high tree = steps_on_node (with_node mound_nodes v.post g) (lock_of i) v.post.number (omega arith)
      (omega arith)
      (λ n lt e. absurd (omega arith)) refl refl refl refl refl
      (λ has. ⊎_elim (λ e. absurd (omega arith)) (λ a. a) (in_cases (lock_of g.node) 24 v.post.locks has)) tree

  pub frees : (i : ℕ) → i < node_count k.capacity
      → NodeFacts mound_nodes (set s.words (lock_of i) 0) (set qs id (without_node mound_nodes v.post i)) tied.nodes
      → MoundTied k (set s.words (lock_of i) 0) (set qs id (without_node mound_nodes v.post i)) (left h.history)
  frees i high tree = steps_on_node (without_node mound_nodes v.post i) (lock_of i) 0 (omega arith) (omega arith)
      (λ n lt e. absurd (omega arith)) refl refl refl refl refl
      (λ has. (less_has (lock_of i) v.post.locks 24 has).0) tree

  pub stores : (i x : ℕ) (g : Guard) → Contains v.post.own.guards g → g.node ≡ i → x ≡ head_word g.counted
      → NodeFacts mound_nodes (set s.words (word_of i) x) (set qs id (with_word mound_nodes v.post i x)) tied.nodes
      → MoundTied k (set s.words (word_of i) x) (set qs id (with_word mound_nodes v.post i x)) (left h.history)
  stores i x g has is head tree =
      let held = tied.tree.guarded.held id v.post g here has in let within = held.within in let whole = tied.whole in
      let counts : head_word (node tied.nodes g.node) ≡ head_word g.counted = ap head_word held.counted in
      let low = head_low k.capacity tied.free (held_by qs) tied.nodes g.node tied.facts.dealt.once in
      steps_on_node (with_word mound_nodes v.post i x) (word_of i) x (omega arith) (omega arith)
      (λ n lt e. omega arith) refl refl refl refl refl (λ z. z) tree

pub mound_node_laws : NodeLaws mound_rule mound_nodes
mound_node_laws = record {
  reads = λ o gs. refl;
  locks = λ k i low high. is_node_lock k.capacity i low (let some = pow_pos (depth_of k.capacity) in omega arith);
  words = λ k i high. word_is_no_lock k.capacity i;
  within = λ k. let some = pow_pos (depth_of k.capacity) in omega arith;
  taken = λ k o i o' is. is.node i refl;
  takes_so = λ k o i o' is. record {
    cells = λ e. absurd (omega arith);
    node = λ j e. let same : i ≡ j = omega arith in subst (λ (z : ℕ). IsNodeTaken mound_nodes o z o') same is;
  };
  freed = λ k o i. ap (λ (b : Bool). cond b (with_free o [] 0) (with_guards o (without_guard (lock_of i) o.guards)))
      (ne_eqb (lock_of i) 24 (λ e. omega arith));
  nodes = λ k s h. h.tied.nodes;
  long = λ k s h. let some = pow_pos (depth_of k.capacity) in let whole = h.tied.whole in omega arith;
  facts = λ k s h. h.tied.tree;
  shown = λ k s h id v at. tt;
  may_free_on = λ p i j may. may;
  takes = λ k s h id v i at positive low high zero tree. takes k s h id v at i
      (guard i (words_in s.words i) (get_or h.tied.nodes i (Resting []))) refl
      (let some = pow_pos (depth_of k.capacity) in omega arith) tree;
  frees = λ k s h id v i at r tree. frees k s h id v at i
      (let within = (h.tied.tree.guarded.held id v.post r.guard (pat k s h id v at) r.has).within in
      let whole = h.tied.whole in let is = r.is in omega arith) tree;
  stores = λ k s h id v i x at r allowed tree. stores k s h id v at i x r.guard r.has r.is
      (allowed r.guard r.has r.is) tree;
}
