-- What each step makes of the multiset.
use Rattle.std.proofs.Common.{◌≡◌, ◌≢◌, ℕ, ◌+◌, ◌<◌, ◌≤◌, cond, List, [], ◌∷◌, length, set, Some, inl, refl, ⊎_elim, ap}
use Rattle.std.proofs.Common.{◌∙◌, subst, sym, arith}
use Rattle.std.specs.Prelude.{All, sum_by, nat_lt}
use native.Mathlib.Decide.{ℕ_discrete}
use mathlib.Core.Logic.{dite}
use Rattle.std.proofs.lemmas.Bool.Decides.{nat_tests}
use Rattle.std.proofs.lemmas.List.Elements.{All-from_get_or}
use Rattle.std.proofs.lemmas.List.Sums.{sum_by-cons, sum_by-le, sum_by-set, get_or-le-sum_by}
use Rattle.pq_words.specs.declared.entries.Entry.{Entry}
use Rattle.pq_words.specs.Entries.{raw_of}
use Rattle.pq_words.specs.Limits.{raw_limit}
use Rattle.pq_words.proofs.Order.{raw_of-fits, same_raw_of}
use Rattle.pq_model.specs.Multiset.{add, least, without_least, IsRising}
use Rattle.pq_model.proofs.Multisets.{sum_by-add, length-add, IsRising-add, none_below, least_all, with_least}
use Rattle.pq_nodes.proofs.Orders.{root_least}
use Rattle.pq_hunt.specs.declared.nodes.Node.{Node}
use Rattle.pq_hunt.specs.declared.nodes.Node.TheVariants.{Empty, Available, Busy, Hole}
use Rattle.pq_hunt.specs.Nodes.{node, used}
use Rattle.pq_hunt.specs.Order.{HasWord}
use Rattle.pq_hunt.proofs.Heap.Counting.{bound, stand, busy, weigh, bounds, stands, IsHeap, Holds}
use Rattle.pq_hunt.proofs.Heap.Writes.{node_same, two_sums}
use Rattle.pq_hunt.specs.LawsHold.Owners.{in_use}
use Rattle.pq_hunt.proofs.Heap.Heaps.{settle}

-- 1 for each number below n
abbrev below : ℕ → ℕ → ℕ
below n k = cond (nat_lt k n) 1 0

-- a node that adds nothing is written over one that adds nothing
pub holds_set : (t : List Node) (m : List Entry) (h : ℕ) (v : Node) → h < length t
    → ((w : ℕ → ℕ) → weigh w v ≡ weigh w (node t h)) → Holds t m → Holds (set t h v) m
holds_set t m h v within same holds = record {
  same = λ w. let old = holds.same w in let one = same w in
      let sum = sum_by-set (weigh w) t h v Empty within in omega arith;
}

-- two nodes are written, which together add what they added
pub holds_two : (t : List Node) (m : List Entry) (h : ℕ) (v : Node) (c : ℕ) (u : Node) → h ≢ c → h < length t
    → c < length t
    → ((w : ℕ → ℕ) → weigh w v + weigh w u ≡ weigh w (node t h) + weigh w (node t c)) → Holds t m
    → Holds (set (set t h v) c u) m
holds_two t m h v c u ne h_in c_in same holds = record {
  same = λ w. let old = holds.same w in let one = same w in
      let sum = two_sums (weigh w) t h v c u ne h_in c_in in omega arith;
}

-- an insert ends
pub holds_settled : (t : List Node) (m : List Entry) (c o : ℕ) (e : Entry) → c < length t → node t c ≡ Busy o e
    → Holds t m → Holds (set t c (Available e)) (add e m)
holds_settled t m c o e within is holds = record {
  same = λ w. let old = holds.same w in let sum = sum_by-set (weigh w) t c (Available e) Empty within in
      let none : weigh w (node t c) ≡ 0 = ap (weigh w) is in
      let added = sum_by-add (λ (z : Entry). w (raw_of z)) e m in omega arith;
}

-- every number that stands is at least the root's
stands_over_root : (size : ℕ) (t : List Node) (x : Entry) → IsHeap size t → node t 1 ≡ Available x → (i : ℕ)
    → raw_of x ≤ stand (node t i)
stands_over_root size t x f root i = let b : bound (node t 1) ≡ raw_of x = ap bound root in
    let s : stand (node t 1) ≡ raw_of x = ap stand root in let most = raw_of-fits x in
    dite (ℕ_discrete i 0) (λ e. let at : stand (node t i) ≡ raw_limit = ap (λ (z : ℕ). stand (node t z)) e
    ∙ ap stand f.shape.first in omega arith)
    (λ some. dite (ℕ_discrete i 1) (λ e. let at : stand (node t i) ≡ stand (node t 1) = ap
    (λ (z : ℕ). stand (node t z)) e in omega arith)
    (λ more. let le = root_least (bounds t) (stands t) i f.ordered (omega arith) in omega arith))

weigh_none : (n : ℕ) (v : Node) → n ≤ stand v → weigh (below n) v ≤ 0
weigh_none n Empty le = omega arith
weigh_none n (Available y) le = grind (arith, nat_tests)
weigh_none n (Busy o y) le = omega arith
weigh_none n (Hole y) le = grind (arith, nat_tests)

none_below_root : (size : ℕ) (t : List Node) (x : Entry) → IsHeap size t → node t 1 ≡ Available x
    → sum_by (weigh (below (raw_of x))) t ≡ 0
none_below_root size t x f root = let n : ℕ = raw_of x in let all : All (λ (v : Node). weigh (below n) v ≤ 0) t =
    All-from_get_or (λ (v : Node). weigh (below n) v ≤ 0) t Empty
    (λ i lt. weigh_none n (node t i) (stands_over_root size t x f root i)) in
    omega (arith, sum_by-le (weigh (below n)) 0 t all)

-- an Available root holds the least entry
pub least_available : (size : ℕ) (t : List Node) (m : List Entry) (e : Entry) → IsHeap size t → Holds t m → IsRising m
    → node t 1 ≡ Available e → least m ≡ Some e
least_available size t [] e f holds rising root = let one = in_use size t 1 f.shape (ap used root) in let le = one.1 in
    let within = f.shape.within in
    let some = get_or-le-sum_by (weigh (λ _. 1)) t 1 Empty (omega arith) in
    let at : weigh (λ _. 1) (node t 1) ≡ 1 = ap (weigh (λ _. 1)) root in
    let none = holds.same (λ _. 1) in absurd (omega arith)
least_available size t (z ∷ m) e f holds rising root =
    let one = in_use size t 1 f.shape (ap used root) in let le = one.1 in let within = f.shape.within in
    let over : raw_of z ≤ raw_of e = (let same = holds.same (below (raw_of z)) in
    let zero = none_below (raw_of z) (z ∷ m) (least_all z m rising) in
    let some = get_or-le-sum_by (weigh (below (raw_of z))) t 1 Empty (omega arith) in
    let at : weigh (below (raw_of z)) (node t 1) ≡ below (raw_of z) (raw_of e) = ap (weigh (below (raw_of z))) root in
    let nil : below (raw_of z) (raw_of e) ≡ 0 = omega arith in grind (arith, nat_tests)) in
    let under : raw_of e ≤ raw_of z = (let same = holds.same (below (raw_of e)) in
    let zero = none_below_root size t e f root in
    let sum = sum_by-cons (λ (y : Entry). below (raw_of e) (raw_of y)) z m in
    let nil : below (raw_of e) (raw_of z) ≡ 0 = omega arith in grind (arith, nat_tests)) in
    ap Some (same_raw_of z e (omega arith))

-- the multiset once the insert at a node has its place, where the node is Busy
abbrev pub helped : Node → List Entry → List Entry
helped Empty m = m
helped (Available e) m = m
helped (Busy o e) m = add e m
helped (Hole e) m = m

-- The root's entry is the least once the insert that stands there has its place, whoever sifts below
pub least_root : (size : ℕ) (t : List Node) (m : List Entry) (e : Entry) → IsHeap size t → Holds t m → IsRising m
    → HasWord (node t 1) e
    → least (helped (node t 1) m) ≡ Some e
least_root size t m e f holds rising has = ⊎_elim
    (λ root. subst (λ (v : Node). least (helped v m) ≡ Some e) (sym root)
    (least_available size t m e f holds rising root))
    (λ q. let o : ℕ = q.0 in let root : node t 1 ≡ Busy o e = q.1 in let one = in_use size t 1 f.shape (ap used root) in
    let le = one.1 in let within = f.shape.within in
    subst (λ (v : Node). least (helped v m) ≡ Some e) (sym root)
    (least_available size (set t 1 (Available e)) (add e m) e (settle size t 1 o e f root (inl refl))
    (holds_settled t m 1 o e (omega arith) root holds)
    (IsRising-add e m rising) (node_same t 1 (Available e) (omega arith)))) has

-- what helping adds
pub helped_sum : (w : ℕ → ℕ) (v : Node) (e : Entry) (m : List Entry) → HasWord v e
    → sum_by (λ (z : Entry). w (raw_of z)) (helped v m) + weigh w v ≡ sum_by
    (λ (z : Entry). w (raw_of z)) m + w (raw_of e)
helped_sum w v e m has = let g : Entry → ℕ = λ z. w (raw_of z) in ⊎_elim
    (λ q. subst (λ (u : Node). sum_by g (helped u m) + weigh w u ≡ sum_by g m + w (raw_of e)) (sym q) refl)
    (λ q. subst (λ (u : Node). sum_by g (helped u m) + weigh w u ≡ sum_by g m + w (raw_of e)) (sym q.1)
    (let added = sum_by-add g e m in omega arith)) has

pub helped_rising : (v : Node) (m : List Entry) → IsRising m → IsRising (helped v m)
helped_rising Empty m rising = rising
helped_rising (Available e) m rising = rising
helped_rising (Busy o e) m rising = IsRising-add e m rising
helped_rising (Hole e) m rising = rising

pub helped_length : (v : Node) (m : List Entry) → length (helped v m) ≡ length m + busy v
helped_length Empty m = omega arith
helped_length (Available e) m = omega arith
helped_length (Busy o e) m = length-add e m
helped_length (Hole e) m = omega arith

-- the multiset without its least entry
without_sum : (w : ℕ → ℕ) (m : List Entry) (e : Entry) → least m ≡ Some e
    → sum_by (λ (z : Entry). w (raw_of z)) (without_least m) + w (raw_of e) ≡ sum_by (λ (z : Entry). w (raw_of z)) m
without_sum w m e is = let g : Entry → ℕ = λ z. w (raw_of z) in let parts = ap (sum_by g) (with_least m e is) in
    let sum = sum_by-cons g e (without_least m) in omega arith

pub without_length : (m : List Entry) (e : Entry) → least m ≡ Some e → length (without_least m) + 1 ≡ length m
without_length m e is = let parts = ap (λ (l : List Entry). length l) (with_least m e is) in omega arith

-- a remover takes the root's entry away and the last one in hand
pub holds_drawn : (size : ℕ) (t : List Node) (m : List Entry) (e f : Entry) → Holds t m → 2 ≤ size → size < length t
    → HasWord (node t 1) e → HasWord (node t size) f
    → least (helped (node t 1) m) ≡ Some e
    → Holds (set (set t 1 (Hole f)) size Empty) (helped (node t size) (without_least (helped (node t 1) m)))
holds_drawn size t m e f holds some within root last first = let r : Node = node t 1 in
    let l : Node = node t size in record {
      same = λ w. let old = holds.same w in let sums = two_sums (weigh w) t 1 (Hole f) size Empty (omega arith)
          (omega arith) within in
          let one = helped_sum w r e m root in let two = helped_sum w l f (without_least (helped r m)) last in
          let less = without_sum w (helped r m) e first in omega arith;
    }

-- a remover takes the only entry
pub holds_only : (t : List Node) (m : List Entry) (e : Entry) → Holds t m → 1 < length t → HasWord (node t 1) e
    → least (helped (node t 1) m) ≡ Some e → Holds (set t 1 Empty) (without_least (helped (node t 1) m))
holds_only t m e holds within root first = let r : Node = node t 1 in record {
  same = λ w. let old = holds.same w in let sum = sum_by-set (weigh w) t 1 Empty Empty within in
      let one = helped_sum w r e m root in
      let less = without_sum w (helped r m) e first in omega arith;
}
