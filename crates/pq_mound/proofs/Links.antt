-- Lists in the words of their cells.
use Rattle.std.proofs.Common.{◌≡◌, ◌≢◌, ℕ, ◌+◌, ◌<◌, ◌≤◌, Bool, cond, List, [], ◌∷◌, ◌++◌, length, set, refl, sym}
use Rattle.std.proofs.Common.{ap, ◌∙◌, subst, arith}
use Rattle.std.specs.Prelude.{All, ◌==◌, nat_lt}
use native.Mathlib.Decide.{ℕ_discrete}
use mathlib.Core.Logic.{dite}
use Rattle.std.proofs.lemmas.Bool.{eq-eqb}
use Rattle.std.proofs.lemmas.Bool.Decides.{nat_tests}
use Rattle.std.proofs.lemmas.List.{map-append, get_or-set_same, get_or-set_other, length-set}
use Rattle.std.proofs.lemmas.List.Elements.{All-nil, All-cons, All-head, All-tail}
use Rattle.pq_words.specs.Entries.{raw_of}
use Rattle.pq_nodes.proofs.Written.{each_place}
use Rattle.pq_mound.specs.declared.nodes.Cell.{Cell}
use Rattle.pq_mound.specs.declared.nodes.Node.{Node}
use Rattle.pq_mound.specs.declared.nodes.Node.TheVariants.{Resting, Hole, Joining}
use Rattle.pq_mound.specs.Nodes.{node, cells, all_cells, entries, numbers, cell}
use Rattle.pq_mound.specs.Order.{before, behind, put, joined}
use Rattle.pq_mound.specs.Cells.{times}
use Rattle.pq_mound.specs.Chains.{first_or, IsChain, IsLinked, AreLinked}
use Rattle.pq_mound.specs.Laws.{IsStoreTo, OwnStoresLink, JoinsLink, StoresRest, TakesLink, SwapsLink}
use Rattle.pq_mound.specs.Laws.{EndsLink}
use Rattle.pq_mound.specs.Laws.{OtherStoresLeaveChains}
use Rattle.pq_mound.specs.LawsHold.Sums.{is_cell, numbers_times, times-here, in_list}
use Rattle.pq_mound.proofs.Lists.{split, put_cells}
use Rattle.pq_mound.proofs.Sums.{set_sum}
use Rattle.pq_mound.proofs.Counts.{times-cons, times-append}

-- a number that does not stand first
not_first : (k n : ℕ) (ns : List ℕ) → times k (n ∷ ns) ≡ 0 → (n ≢ k) × (times k ns ≡ 0)
not_first k n ns none = let parts = times-cons k n ns in (
  (λ e. let one : cond {A = ℕ} (n == k) 1 0 ≡ 1 = ap (λ (b : Bool). cond {A = ℕ} b 1 0) (eq-eqb n k e) in omega arith),
  omega arith,
)

-- a store elsewhere leaves a chain
pub chain_other : OtherStoresLeaveChains
chain_other nexts nexts' k last [] chain none same = tt
chain_other nexts nexts' k last (n ∷ ns) chain none same = let r = not_first k n ns none in
    (same n r.0 ∙ chain.0, chain_other nexts nexts' k last ns chain.1 r.1 same)

-- chains, one after the other
first_append : (xs ys : List ℕ) (last : ℕ) → first_or (xs ++ ys) last ≡ first_or xs (first_or ys last)
first_append [] ys last = refl
first_append (x ∷ xs) ys last = refl

chain_append : (nexts : ℕ → ℕ) (xs ys : List ℕ) (last : ℕ) → IsChain nexts xs (first_or ys last) → IsChain nexts ys last
    → IsChain nexts (xs ++ ys) last
chain_append nexts [] ys last front back = back
chain_append nexts (x ∷ xs) ys last front back =
    (front.0 ∙ sym (first_append xs ys last), chain_append nexts xs ys last front.1 back)

chain_parts : (nexts : ℕ → ℕ) (xs ys : List ℕ) (last : ℕ) → IsChain nexts (xs ++ ys) last
    → IsChain nexts xs (first_or ys last) × IsChain nexts ys last
chain_parts nexts [] ys last chain = (tt, chain)
chain_parts nexts (x ∷ xs) ys last chain = let r = chain_parts nexts xs ys last chain.1 in
    ((chain.0 ∙ first_append xs ys last, r.0), r.1)

-- the last of a chain is led elsewhere
chain_end : (nexts nexts' : ℕ → ℕ) (ns : List ℕ) (n x y : ℕ) → IsChain nexts (ns ++ n ∷ []) x → times n ns ≡ 0
    → IsStoreTo n nexts nexts' → nexts' n ≡ y → IsChain nexts' (ns ++ n ∷ []) y
chain_end nexts nexts' ns n x y chain none same at = let r = chain_parts nexts ns (n ∷ []) x chain in
    chain_append nexts' ns (n ∷ []) y (chain_other nexts nexts' n (n + 1) ns r.0 none same) (at, tt)

-- how often a cell is in two lists
in_two : (k : ℕ) (t : List Node) (i j : ℕ) → i ≢ j → i < length t
    → times k (numbers (cells (node t i))) + times k (numbers (cells (node t j))) ≤ times k (numbers (all_cells t))
in_two k t i j ne within = let t' : List Node = set t i (Resting []) in
    let sum = set_sum (is_cell k) t i (Resting []) within in let other = in_list k t' j in
    let same : times k (numbers (cells (node t' j))) ≡ times k (numbers (cells (node t j))) =
    ap (λ (v : Node). times k (numbers (cells v))) (get_or-set_other t i j (Resting []) (Resting [])
    (λ e. ne (sym e))) in
    omega (arith, numbers_times k (all_cells t'), numbers_times k (all_cells t), numbers_times k (cells (node t i)))

-- one list is written
linked_set : (entries nexts : ℕ → ℕ) (t : List Node) (i : ℕ) (v : Node) → AreLinked entries nexts t → i < length t
    → IsLinked nexts v → All (λ (c : Cell). entries c.number ≡ raw_of c.entry) (cells v)
    → AreLinked entries nexts (set t i v)
linked_set entries nexts t i v f within linked stored = record {
  linked = each_place (IsLinked nexts) t i v (Resting []) within linked f.linked;
  stored = each_place (λ (u : Node). All (λ (c : Cell). entries c.number ≡ raw_of c.entry) (cells u)) t i v (Resting [])
      within stored f.stored;
}

All-put : (P : Cell → Type 0) (front back : List Cell) (c : Cell) → P c → All P (front ++ back)
    → All P (front ++ c ∷ back)
All-put P [] back c one all = All-cons P c back one all
All-put P (d ∷ front) back c one all = All-cons P d (front ++ c ∷ back) (All-head P d (front ++ back) all)
    (All-put P front back c one (All-tail P d (front ++ back) all))

numbers-append : (xs ys : List Cell) → numbers (xs ++ ys) ≡ numbers xs ++ numbers ys
numbers-append xs ys = map-append (λ (c : Cell). c.number) xs ys

-- a store to a cell of no list
stored_other : (entries entries' : ℕ → ℕ) (k : ℕ) (cs : List Cell) → times k (numbers cs) ≡ 0
    → IsStoreTo k entries entries' → All (λ (c : Cell). entries c.number ≡ raw_of c.entry) cs
    → All (λ (c : Cell). entries' c.number ≡ raw_of c.entry) cs
stored_other entries entries' k [] none same all = All-nil (λ (c : Cell). entries' c.number ≡ raw_of c.entry)
stored_other entries entries' k (c ∷ cs) none same all = let P : Cell
    → Type 0 = λ d. entries d.number ≡ raw_of d.entry in
    let r = not_first k c.number (numbers cs) none in
    All-cons (λ (d : Cell). entries' d.number ≡ raw_of d.entry) c cs (same c.number r.0 ∙ All-head P c cs all)
    (stored_other entries entries' k cs r.1 same (All-tail P c cs all))

linked_other : (nexts nexts' : ℕ → ℕ) (k : ℕ) (v : Node) → times k (numbers (cells v)) ≡ 0 → IsStoreTo k nexts nexts'
    → IsLinked nexts v → IsLinked nexts' v
linked_other nexts nexts' k (Resting list) none same chain = chain_other nexts nexts' k 0 (numbers list) chain none same
linked_other nexts nexts' k (Hole list) none same chain = chain_other nexts nexts' k 0 (numbers list) chain none same
linked_other nexts nexts' k (Joining front c back) none same chain =
    let all : times k (numbers (front ++ c ∷ back)) ≡ times k (numbers front) + times k (numbers (c ∷ back)) =
    ap (times k) (numbers-append front (c ∷ back)) ∙ times-append k (numbers front) (numbers (c ∷ back)) in (
      chain_other nexts nexts' k (first_or (numbers back) 0) (numbers front) chain.0 (omega arith) same,
      chain_other nexts nexts' k 0 (numbers (c ∷ back)) chain.1 (omega arith) same,
    )

pub own_stores : OwnStoresLink
own_stores entries entries' nexts nexts' t k f none same_entries same_nexts = record {
  linked = λ i. let le = in_list k t i in linked_other nexts nexts' k (node t i) (omega arith) same_nexts (f.linked i);
  stored = λ i. let le = in_list k t i in
      stored_other entries entries' k (cells (node t i)) (omega arith) same_entries (f.stored i);
}

put_linked : (nexts : ℕ → ℕ) (front back : List Cell) (c : Cell)
    → IsChain nexts (numbers front) (first_or (numbers back) 0)
    → IsChain nexts (numbers (c ∷ back)) 0 → IsLinked nexts (put front c back)
put_linked nexts [] back c before behind = behind
put_linked nexts (d ∷ front) back c before behind = (before, behind)

pub joins_link : JoinsLink
joins_link entries nexts t i k e list f within is entry next =
    let front : List Cell = before e list in let back : List Cell = behind e list in let s = split e list in
    let P : Cell → Type 0 = λ c. entries c.number ≡ raw_of c.entry in
    let whole : numbers list ≡ numbers front ++ numbers back = ap numbers (sym s.whole) ∙ numbers-append front back in
    let chain : IsChain nexts (numbers list) 0 = subst (IsLinked nexts) is (f.linked i) in
    let parts = chain_parts nexts (numbers front) (numbers back) 0 (subst
    (λ (z : List ℕ). IsChain nexts z 0) whole chain) in
    linked_set entries nexts t i (joined list (cell k e)) f within
    (put_linked nexts front back (cell k e) parts.0 (next, parts.1))
    (subst (All P) (sym (put_cells front back (cell k e))) (All-put P front back (cell k e) entry
    (subst (All P) (sym s.whole) (subst (λ (v : Node). All P (cells v)) is (f.stored i)))))

pub takes_link : TakesLink
takes_link entries nexts t c list f within is = let P : Cell → Type 0 = λ d. entries d.number ≡ raw_of d.entry in
    linked_set entries nexts t 1 (Hole list) f within
    (let chain : IsLinked nexts (Resting (c ∷ list)) = subst (IsLinked nexts) is (f.linked 1) in chain.1)
    (All-tail P c list (subst (λ (v : Node). All P (cells v)) is (f.stored 1)))

pub ends_link : EndsLink
ends_link entries nexts t h list f within is = linked_set entries nexts t h (Resting list) f within
    (let chain : IsLinked nexts (Hole list) = subst (IsLinked nexts) is (f.linked h) in chain)
    (subst (λ (v : Node). All (λ (d : Cell). entries d.number ≡ raw_of d.entry) (cells v)) is (f.stored h))

pub swaps_link : SwapsLink
swaps_link entries nexts t h c lower upper f ne h_in c_in at_h at_c =
    let P : Node → Type 0 = λ v. All (λ (d : Cell). entries d.number ≡ raw_of d.entry) (cells v) in
    let low : IsLinked nexts (Hole lower) = subst (IsLinked nexts) at_h (f.linked h) in
    let up : IsLinked nexts (Resting upper) = subst (IsLinked nexts) at_c (f.linked c) in
    linked_set entries nexts (set t h (Resting upper)) c (Hole lower)
    (linked_set entries nexts t h (Resting upper) f h_in up (subst P at_c (f.stored c)))
    (omega (arith, length-set t h (Resting upper))) low (subst P at_h (f.stored h))

-- the last cell before a joining one is led to it
pub stores_rest : StoresRest
stores_rest capacity free held entries nexts nexts' t i front back last c d f within is same at =
    let n : ℕ = last.number in let ns : List ℕ = numbers front in
    let all : List Cell = (front ++ last ∷ []) ++ c ∷ back in
    let v : Node = Resting all in
    let most = d.once n in
    let one : times n (numbers (all_cells t)) ≤ 1 = at_most capacity n (times n (numbers (all_cells t)))
    (times n free + times n held) (omega arith) in
    let parts : numbers (front ++ last ∷ []) ≡ ns ++ n ∷ [] = numbers-append front (last ∷ []) in
    let whole : numbers all ≡ (ns ++ n ∷ []) ++ numbers (c ∷ back) = numbers-append (front ++ last ∷ []) (c ∷ back)
    ∙ ap (λ (z : List ℕ). z ++ numbers (c ∷ back)) parts in
    let counts : times n (numbers all) ≡ times n ns + (1 + times n (numbers (c ∷ back))) = ap (times n) whole
    ∙ (times-append n (ns ++ n ∷ []) (numbers (c ∷ back))
    ∙ omega (arith, times-append n ns (n ∷ []), times-here n [])) in
    let mine : times n (numbers (cells (node t i))) ≡ times n (numbers all) = ap
    (λ (u : Node). times n (numbers (cells u))) is in
    let le = in_list n t i in
    let chain : IsLinked nexts (Joining (front ++ last ∷ []) c back) = subst (IsLinked nexts) is (f.linked i) in
    let ended = chain_end nexts nexts' ns n (first_or (numbers back) 0) (c.number + 1)
    (subst (λ (z : List ℕ). IsChain nexts z (first_or (numbers back) 0)) parts chain.0) (omega arith) same at in
    let tail = chain_other nexts nexts' n 0 (numbers (c ∷ back)) chain.1 (omega arith) same in
    let joined_chain : IsChain nexts' (numbers all) 0 = subst (λ (z : List ℕ). IsChain nexts' z 0) (sym whole)
    (chain_append nexts' (ns ++ n ∷ []) (numbers (c ∷ back)) 0 ended tail) in
    record {
      linked = λ j. dite (ℕ_discrete j i)
          (λ e. subst (λ (z : ℕ). IsLinked nexts' (node (set t i v) z)) (sym e)
          (subst (IsLinked nexts') (sym (get_or-set_same t i v (Resting []) within)) joined_chain))
          (λ ne. subst (IsLinked nexts') (sym (get_or-set_other t i j v (Resting []) ne))
          (let two = in_two n t i j (λ e. ne (sym e)) within in
          linked_other nexts nexts' n (node t j) (omega arith) same (f.linked j)));
      stored = each_place (λ (u : Node). All (λ (d : Cell). entries d.number ≡ raw_of d.entry) (cells u)) t i v
          (Resting [])
          within (subst (λ (u : Node). All (λ (d : Cell). entries d.number ≡ raw_of d.entry) (cells u)) is
          (f.stored i)) f.stored;
    }
  where
    at_most : (n k x y : ℕ) → x + y ≡ cond (nat_lt k n) 1 0 → x ≤ 1
    at_most n k x y is = grind (arith, nat_tests)
