-- What a word says of a node.
use Rattle.std.proofs.Common.{◌≡◌, ◌≢◌, ◌⊎◌, ℕ, ◌≤◌, ◌^◌, ◌%◌, inl, inr, refl, ap, ◌∙◌, sym, subst, ⊎_elim, lit<, arith}
use Rattle.pq_words.specs.declared.entries.Entry.{Entry}
use Rattle.pq_words.specs.Entries.{raw_of}
use Rattle.pq_words.specs.declared.heap_words.Tag.{Tag}
use Rattle.pq_words.specs.declared.heap_words.Tag.TheVariants as tags
use Rattle.pq_words.specs.declared.heap_words.HeapWord.{HeapWord}
use Rattle.pq_words.specs.HeapWords.{tag_number, FitsTag, FitsHeapWord, heap_number}
use Rattle.pq_words.specs.TaggedWords.{tagged_number}
use Rattle.pq_words.proofs.Order.{raw_of-fits}
use Rattle.pq_words.proofs.HeapNumbers.{one_heap_word}
use Rattle.pq_hunt.specs.declared.nodes.Node.{Node}
use Rattle.pq_hunt.specs.declared.nodes.Node.TheVariants.{Empty}
use Rattle.pq_hunt.specs.Order.{HasWord, MayStandOver}
use Rattle.pq_hunt.specs.Sifting.{IsRank}
use Rattle.pq_hunt.specs.Words.{node_with, node_of, Means}
use Rattle.pq_hunt.specs.Laws.{WordsMeanOneNode}

-- a word that was packed says what it was packed of
pub packed_means : (w : HeapWord) (word : ℕ) → FitsHeapWord w → heap_number w ≡ word → Means (node_of w) word
packed_means w word fits is = record { packed = w; fits = fits; number = is; node = refl }

-- and what was unpacked from a word is what its node counts as
pub unpacked_node : (w : HeapWord) (word : ℕ) (v : Node) → FitsHeapWord w → heap_number w ≡ word → Means v word
    → node_of w ≡ v
unpacked_node w word v fits is means = ap node_of (one_heap_word.same w means.packed fits means.fits
    (is ∙ sym means.number)) ∙ means.node

-- a word speaks of one node
pub one_meaning : WordsMeanOneNode
one_meaning u v word a b = sym a.node ∙ unpacked_node a.packed word v a.fits a.number b

-- a node that a word speaks of is Empty, or Available or Busy, and no hole
pub no_hole : (v : Node) (word : ℕ) → Means v word → (v ≡ Empty) ⊎ ((e : Entry) × HasWord v e)
no_hole v word means = subst (λ (u : Node). (u ≡ Empty) ⊎ ((e : Entry) × HasWord u e)) means.node
    (of_tag means.packed.tag means.packed.owner means.packed.entry)
  where
    of_tag : (t : Tag) (o : ℕ) (e : Entry) → (node_with t o e ≡ Empty) ⊎ ((e' : Entry) × HasWord (node_with t o e) e')
    of_tag tags.Empty o e = inl refl
    of_tag tags.Available o e = inr (e, inl refl)
    of_tag tags.Busy o e = inr (e, inr (o, refl))

-- what may stand over a node, as its word shows
pub may_word : (x : Entry) (v : Node) → (v ≡ Empty) ⊎ ((e : Entry) × HasWord v e × (raw_of x ≤ raw_of e))
    → MayStandOver x v
may_word x v shown = ⊎_elim (λ e. subst (MayStandOver x) (sym e) tt)
    (λ w. ⊎_elim (λ q. subst (MayStandOver x) (sym q) w.2) (λ q. subst (MayStandOver x) (sym q.1) w.2) w.1) shown

-- the number of an entry is in the low bits of its word
pub entry_in_word : (w : HeapWord) (word : ℕ) → FitsHeapWord w → heap_number w ≡ word → raw_of w.entry ≡ word % 2 ^ 48
entry_in_word w word fits is = by_tag w.tag w.owner w.entry fits is
  where
    by_tag : (t : Tag) (o : ℕ) (e : Entry) → FitsTag t o e → tagged_number (tag_number t) o (raw_of e) ≡ word
        → raw_of e ≡ word % 2 ^ 48
    by_tag tags.Empty o e fits is = let none = fits.0 in let low = raw_of-fits e in omega arith
    by_tag tags.Available o e fits is = let low = raw_of-fits e in omega arith
    by_tag tags.Busy o e fits is = let few = fits.last in let low = raw_of-fits e in omega arith

-- which is the number that its node is compared by, where it is not Empty
pub ranked : (t : Tag) (o : ℕ) (e : Entry) (x : ℕ) → t ≢ tags.Empty → x ≡ raw_of e → IsRank (node_with t o e) x
ranked tags.Empty o e x ne is = absurd (ne refl)
ranked tags.Available o e x ne is = is
ranked tags.Busy o e x ne is = is

-- the word 0 says that a node is Empty
pub empty_means : Means Empty 0
unfolding raw_of
empty_means = let none : Entry = record { key = 0; id = 0; key_fits = lit< tt; id_fits = lit< tt } in
    packed_means (record { tag = tags.Empty; owner = 0; entry = none }) 0 (refl, refl, refl) refl
