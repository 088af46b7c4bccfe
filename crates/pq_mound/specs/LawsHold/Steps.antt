-- A step on a word before the cells keeps the mound's facts where it keeps each of them.
use Rattle.std.proofs.Common.{◌≡◌, ◌≢◌, ◌⊎◌, ℕ, ◌<◌, ◌≤◌, List, map, length, set, ⊎_elim, sym, ap, ◌∙◌}
use Rattle.std.proofs.Common.{subst, arith}
use Rattle.std.proofs.Common.{get_or, length-set, get_or-set_other}
use Rattle.std.proofs.lemmas.Grind.{get_or-set_at}
use native.Mathlib.Decide.{ℕ_discrete}
use mathlib.Core.Logic.{dite}
use Rattle.std.specs.Prelude.{Contains}
use mathlib.Core.Option.{some}
use lib.ListN.{get_elem?}
use Rattle.atomic_table.proofs.Lists.{at_set, at_map}
use Rattle.pq_words.specs.declared.entries.Entry.{Entry}
use Rattle.pq_model.specs.History.{left}
use Rattle.pq_seats.specs.declared.views.Limits.{Limits}
use Rattle.pq_seats.specs.declared.views.Post.{Post}
use Rattle.pq_seats.specs.declared.views.View.{View}
use Rattle.pq_seats.specs.Views.{post_of}
use Rattle.pq_seats.specs.Rules.{Table, Holds}
use Rattle.pq_nodes.specs.Layout.{word_of}
use Rattle.pq_nodes.specs.Facts.{NodeFacts}
use Rattle.pq_mound.specs.declared.nodes.Node.{Node}
use Rattle.pq_mound.specs.declared.views.MoundPart.{MoundPart}
use Rattle.pq_mound.specs.Chains.{IsChain, AreLinked}
use Rattle.pq_mound.specs.Facts.{MoundFacts}
use Rattle.pq_mound.specs.Layout.{cells_lock, depth_word, free_word, count_word, cell_base, entry_word, next_word}
use Rattle.pq_mound.specs.Layout.{node_count}
use Rattle.pq_mound.specs.NodeParts.{mound_nodes}
use Rattle.pq_mound.specs.Ties.{entries_in, nexts_in, held_by, IsFreeList, AreRanged, IsAlone, MoundTied}
use Rattle.pq_mound.specs.Rules.{mound_rule}

-- the words of the cells are as they were
pub entries_stay : (c : ℕ) (words : List ℕ) (i x : ℕ) → i < cell_base c
    → entries_in c (set words i x) ≡ entries_in c words
entries_stay c words i x low = λ j k. get_or-set_other words i (entry_word c k) x 0 (λ e. omega arith) j

pub nexts_stay : (c : ℕ) (words : List ℕ) (i x : ℕ) → i < cell_base c → nexts_in c (set words i x) ≡ nexts_in c words
nexts_stay c words i x low = λ j k. get_or-set_other words i (next_word c k) x 0 (λ e. omega arith) j

-- and so is what is said of a seat that holds the same cell
alone_on : (c : ℕ) (words words' : List ℕ) (p : Post MoundPart) → entries_in c words' ≡ entries_in c words
    → nexts_in c words' ≡ nexts_in c words → IsAlone c words p → IsAlone c words' p
alone_on c words words' p same_entries same_nexts a = record {
  quiet = a.quiet;
  owes = a.owes;
  holds = λ o is. let r = a.holds o is in
      (ap (λ (f : ℕ → ℕ). f o.number) same_entries ∙ r.0, ap (λ (f : ℕ → ℕ). f o.number) same_nexts ∙ r.1);
}

-- each word is in its range still, where the word at this index is no depth, or a node's word that names a cell or none
ranged_on : (c : ℕ) (words : List ℕ) (i x : ℕ) → cell_base c ≤ length words → i < cell_base c → i ≢ depth_word
    → ((n : ℕ) → n < node_count c → word_of n ≡ i → x ≤ c) → AreRanged c words → AreRanged c (set words i x)
ranged_on c words i x long low ne fits r = record {
  shallow = let e = get_or-set_other words i depth_word x 0 (λ z. ne (sym z)) in let old = r.shallow in omega arith;
  deep = let e = get_or-set_other words i depth_word x 0 (λ z. ne (sym z)) in let old = r.deep in omega arith;
  nodes = λ n lt. dite (ℕ_discrete (word_of n) i)
      (λ e. let at = get_or-set_at words i (word_of n) x 0 e (omega arith) in let le = fits n lt e in omega arith)
      (λ d. let e = get_or-set_other words i (word_of n) x 0 d in let old = r.nodes n lt in omega arith);
  entries = λ k lt. let e = ap (λ (f : ℕ → ℕ). f k) (entries_stay c words i x low) in
      let old = r.entries k lt in omega arith;
}

module _ (k : Limits) (s : Table MoundPart) (h : Holds mound_rule k s) (id : ℕ) (v : View MoundPart)
    (at : get_elem? s.views id ≡ some v) where
  abbrev pub ps : List (Post MoundPart)
  ps = map post_of s.views

  abbrev pub t : MoundTied k s.words ps (left h.history)
  t = h.tied

  pub pat : get_elem? ps id ≡ some v.post
  pat = at_map post_of s.views id v at

  abbrev c : ℕ
  c = k.capacity

  -- the step stores x at i, and makes the seat's post p'
  module _ (i x : ℕ) (low : i < cell_base c) (p' : Post MoundPart) where
    abbrev ws : List ℕ
    ws = set s.words i x

    -- no step but on the words of the free cells changes those, where the seat names them as it did
    pub free_on : i ≢ cells_lock → i ≢ free_word → i ≢ count_word → p'.own.free ≡ v.post.own.free
        → p'.own.count ≡ v.post.own.count → (Contains p'.locks cells_lock → Contains v.post.locks cells_lock)
        → IsFreeList c ws (set ps id p') t.free
    free_on no_lock no_free no_count free count fewer =
        let f = t.cells in let same : (j : ℕ) → i ≢ j → get_or ws j 0 ≡ get_or s.words j 0 =
        (λ j ne. get_or-set_other s.words i j x 0 (λ z. ne (sym z))) in record {
          chained = subst (λ (g : ℕ → ℕ). IsChain g t.free 0) (sym (nexts_stay c s.words i x low)) f.chained;
          starts = same free_word no_free ∙ f.starts;
          counted = λ z. same count_word no_count ∙ f.counted (sym (same cells_lock no_lock) ∙ z);
          named = λ j q to has. ⊎_elim
              (λ e. let old = f.named id v.post pat (fewer (subst
              (λ (z : Post MoundPart). Contains z.locks cells_lock) (sym e.1) has)) in (
                ap (λ (z : Post MoundPart). z.own.free) (sym e.1) ∙ (free ∙ old.0),
                ap (λ (z : Post MoundPart). z.own.count) (sym e.1) ∙ (count ∙ (old.1 ∙ sym (same count_word no_count))),
              ))
              (λ a. let old = f.named j q a.1 has in (old.0, old.1 ∙ sym (same count_word no_count)))
              (at_set ps id j p' q to);
        }

    -- what remains to be shown of such a step
    pub steps : (free : List ℕ) (nodes : List Node) (m : List Entry) → (i ≡ 0) ⊎ (16 < i) → i ≢ depth_word
        → ((n : ℕ) → n < node_count c → word_of n ≡ i → x ≤ c)
        → length nodes ≡ length t.nodes
        → NodeFacts mound_nodes ws (set ps id p') nodes
        → MoundFacts c free (held_by (set ps id p')) nodes m
        → AreLinked (entries_in c s.words) (nexts_in c s.words) nodes
        → IsFreeList c ws (set ps id p') free
        → IsAlone c s.words p'
        → MoundTied k ws (set ps id p') m
    steps free nodes m far no_depth fits whole tree facts linked cells alone =
        let long = t.long in
        let same_entries = entries_stay c s.words i x low in let same_nexts = nexts_stay c s.words i x low in record {
          long = length-set s.words i x ∙ t.long;
          seated = t.seated;
          free = free;
          nodes = nodes;
          whole = whole ∙ t.whole;
          tree = tree;
          facts = facts;
          linked = subst (λ (f : ℕ → ℕ). AreLinked f (nexts_in c ws) nodes) (sym same_entries)
              (subst (λ (f : ℕ → ℕ). AreLinked (entries_in c s.words) f nodes) (sym same_nexts) linked);
          cells = cells;
          ranged = ranged_on c s.words i x (omega arith) low no_depth fits t.ranged;
          alone = λ j q to. ⊎_elim
              (λ e. subst (λ (z : Post MoundPart). IsAlone c ws z) e.1
              (alone_on c s.words ws p' same_entries same_nexts alone))
              (λ a. alone_on c s.words ws q same_entries same_nexts (t.alone j q a.1))
              (at_set ps id j p' q to);
          unwritten = λ n positive most. get_or-set_other s.words i n x 0 (⊎_elim (λ e. λ z. omega arith)
              (λ lt. λ z. omega arith) far)
              ∙ t.unwritten n positive most;
        }

  -- the own post is alone, where no insert comes into flight and the cell that is held stays
  pub alone_stays : (p' : Post MoundPart) → p'.flight ≡ v.post.flight → p'.owed ≡ v.post.owed
      → p'.own.held ≡ v.post.own.held → IsAlone c s.words p'
  alone_stays p' flight owed held = let a = t.alone id v.post pat in record {
    quiet = flight ∙ a.quiet;
    owes = owed ∙ a.owes;
    holds = λ o is. a.holds o (sym held ∙ is);
  }
