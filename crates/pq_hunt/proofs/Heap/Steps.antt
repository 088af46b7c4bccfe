-- The marks that the heap's steps place are steps of the multiset.
use Rattle.std.proofs.Common.{◌≡◌, ℕ, ◌-◌, ◌<◌, ◌≤◌, List, [], ◌∷◌, ◌++◌, length, set, Some, inl, refl, ⊎_elim, sym, ap}
use Rattle.std.proofs.Common.{◌∙◌, subst, arith}
use Rattle.std.specs.Prelude.{Option, IsSomeAnd}
use Rattle.std.proofs.lemmas.List.{set-get_or}
use Rattle.std.proofs.lemmas.List.Sums.{get_or-le-sum_by}
use Rattle.pq_words.specs.declared.entries.Entry.{Entry}
use Rattle.pq_model.specs.declared.marks.Act.{Act}
use Rattle.pq_model.specs.declared.marks.Act.TheVariants.{Insert, Remove, RemoveBelow}
use Rattle.pq_model.specs.declared.marks.Reply.TheVariants.{Done, Got, Above}
use Rattle.pq_model.specs.declared.marks.Mark.{Mark}
use Rattle.pq_model.specs.Multiset.{add, least, without_least, IsRising}
use Rattle.pq_model.specs.History.{mark, IsLegalFrom, left_from}
use Rattle.pq_model.proofs.Multisets.{IsRising-without_least, IsRising-add}
use Rattle.pq_hunt.specs.declared.nodes.Node.{Node}
use Rattle.pq_hunt.specs.declared.nodes.Node.TheVariants.{Empty, Available, Busy, Hole}
use Rattle.pq_hunt.specs.Nodes.{node, used}
use Rattle.pq_hunt.specs.Order.{HasWord, MaySettle}
use Rattle.pq_hunt.specs.Marks.{MayGet, helped_mark, drawn_marks, last_marks, above_marks}
use Rattle.pq_hunt.proofs.Heap.Counting.{busy, IsHeap, Holds}
use Rattle.pq_hunt.specs.LawsHold.Owners.{in_use}
use Rattle.pq_hunt.proofs.Heap.Heaps.{used_word, draw, draw_only, settle}
use Rattle.pq_hunt.proofs.Heap.Weights.{helped, least_root, helped_rising, helped_length, without_length, holds_drawn}
use Rattle.pq_hunt.proofs.Heap.Weights.{holds_only, holds_settled}
use Rattle.pq_hunt.proofs.Heap.Counts.{counted, room_where_busy}

-- an insert that is helped, before further marks
legal_help : (seats capacity : ℕ) (m : List Entry) (v : Node) (rest : List Mark) → (busy v ≡ 1 → length m < capacity)
    → IsLegalFrom seats capacity (helped v m) rest → IsLegalFrom seats capacity m (helped_mark v ++ rest)
legal_help seats capacity m Empty rest room legal = legal
legal_help seats capacity m (Available e) rest room legal = legal
legal_help seats capacity m (Busy o e) rest room legal = (room refl, legal)
legal_help seats capacity m (Hole e) rest room legal = legal

left_help : (m : List Entry) (v : Node) (rest : List Mark)
    → left_from m (helped_mark v ++ rest) ≡ left_from (helped v m) rest
left_help m Empty rest = refl
left_help m (Available e) rest = refl
left_help m (Busy o e) rest = refl
left_help m (Hole e) rest = refl

-- and as the last mark
legal_last : (seats capacity : ℕ) (m : List Entry) (v : Node) → (busy v ≡ 1 → length m < capacity)
    → IsLegalFrom seats capacity m (helped_mark v)
legal_last seats capacity m Empty room = tt
legal_last seats capacity m (Available e) room = tt
legal_last seats capacity m (Busy o e) room = (room refl, tt)
legal_last seats capacity m (Hole e) room = tt

left_last : (m : List Entry) (v : Node) → left_from m (helped_mark v) ≡ helped v m
left_last m Empty = refl
left_last m (Available e) = refl
left_last m (Busy o e) = refl
left_last m (Hole e) = refl

-- a removal of the least entry, before further marks
legal_got : (seats capacity seat : ℕ) (act : Act) (m : List Entry) (e : Entry) (rest : List Mark) → MayGet act e
    → least m ≡ Some e
    → IsLegalFrom seats capacity (without_least m) rest → IsLegalFrom seats capacity m (mark seat act (Got e) ∷ rest)
legal_got seats capacity seat (Insert x) m e rest may first legal = absurd may
legal_got seats capacity seat Remove m e rest may first legal = (first, legal)
legal_got seats capacity seat (RemoveBelow limit) m e rest may first legal = ((first, may), legal)

left_got : (seat : ℕ) (act : Act) (m : List Entry) (e : Entry) (rest : List Mark) → MayGet act e
    → left_from m (mark seat act (Got e) ∷ rest) ≡ left_from (without_least m) rest
left_got seat (Insert x) m e rest may = absurd may
left_got seat Remove m e rest may = refl
left_got seat (RemoveBelow limit) m e rest may = refl

-- marks that are steps, with the heap that they leave, whose nodes are t'
pub record IsPlaced (seats capacity size : ℕ) (t' : List Node) (m : List Entry) (marks : List Mark) : Type 0 where
  pub legal : IsLegalFrom seats capacity m marks
  pub rising : IsRising (left_from m marks)
  pub heap : IsHeap size t'
  pub holds : Holds t' (left_from m marks)

placed : (seats capacity size : ℕ) (t' : List Node) (m m' : List Entry) (marks : List Mark)
    → IsLegalFrom seats capacity m marks → left_from m marks ≡ m'
    → IsRising m' → IsHeap size t' → Holds t' m' → IsPlaced seats capacity size t' m marks
placed seats capacity size t' m m' marks legal left rising heap holds = record {
  legal = legal;
  rising = subst IsRising (sym left) rising;
  heap = heap;
  holds = subst (Holds t') (sym left) holds;
}

-- A remover that holds the locks of the root and of the last node, and sees no hole there, may draw
pub drawn : (seats capacity seat size : ℕ) (act : Act) (t : List Node) (m : List Entry) (e f : Entry) → IsHeap size t
    → Holds t m → IsRising m → size ≤ capacity → 2 ≤ size
    → HasWord (node t 1) e → HasWord (node t size) f → MayGet act e
    → IsPlaced seats capacity (size - 1) (set (set t 1 (Hole f)) size Empty) m
    (drawn_marks seat act e (node t 1) (node t size))
drawn seats capacity seat size act t m e f heap holds rising most some root last may =
    let r : Node = node t 1 in let l : Node = node t size in let m1 : List Entry = helped r m in
    let m2 : List Entry = without_least m1 in
    let within = heap.shape.within in let first = least_root size t m e heap holds rising root in
    let all = counted size t m heap.shape holds in let long = helped_length r m in
    let less = without_length m1 e first in
    let at_root = get_or-le-sum_by busy t 1 Empty (omega arith) in
    let at_last = get_or-le-sum_by busy t size Empty (omega arith) in
    placed seats capacity (size - 1) (set (set t 1 (Hole f)) size Empty) m (helped l m2) (drawn_marks seat act e r l)
    (legal_help seats capacity m r (mark seat act (Got e) ∷ helped_mark l) (λ one. omega arith)
    (legal_got seats capacity seat act m1 e (helped_mark l) may first
    (legal_last seats capacity m2 l (λ one. omega arith))))
    (left_help m r (mark seat act (Got e) ∷ helped_mark l) ∙ (left_got seat act m1 e (helped_mark l) may
    ∙ left_last m2 l))
    (helped_rising l m2 (IsRising-without_least m1 (helped_rising r m rising)))
    (draw size t f heap some (used_word r e root))
    (holds_drawn size t m e f holds some within root last first)

-- the same where the root is the last node
pub drawn_only : (seats capacity seat : ℕ) (act : Act) (t : List Node) (m : List Entry) (e : Entry) → IsHeap 1 t
    → Holds t m → IsRising m → 1 ≤ capacity
    → HasWord (node t 1) e → MayGet act e
    → IsPlaced seats capacity 0 (set t 1 Empty) m (last_marks seat act e (node t 1))
drawn_only seats capacity seat act t m e heap holds rising most root may =
    let r : Node = node t 1 in let m1 : List Entry = helped r m in let within = heap.shape.within in
    let first = least_root 1 t m e heap holds rising root in
    let all = counted 1 t m heap.shape holds in let at_root = get_or-le-sum_by busy t 1 Empty (omega arith) in
    placed seats capacity 0 (set t 1 Empty) m (without_least m1) (last_marks seat act e r)
    (legal_help seats capacity m r (mark seat act (Got e) ∷ [])
    (λ one. omega arith) (legal_got seats capacity seat act m1 e [] may first tt))
    (left_help m r (mark seat act (Got e) ∷ []) ∙ left_got seat act m1 e [] may)
    (IsRising-without_least m1 (helped_rising r m rising)) (draw_only t heap) (holds_only t m e holds within root first)

-- an insert that ends makes a step
pub settled : (seats capacity o c size : ℕ) (t : List Node) (m : List Entry) (e : Entry) → IsHeap size t → Holds t m
    → IsRising m → size ≤ capacity
    → node t c ≡ Busy o e → MaySettle t c e
    → IsPlaced seats capacity size (set t c (Available e)) m (mark o (Insert e) Done ∷ [])
settled seats capacity o c size t m e heap holds rising most is place =
    let room = room_where_busy size t m c o e heap.shape holds is in let at = in_use size t c heap.shape (ap used is) in
    let high = at.1 in let within = heap.shape.within in
    placed seats capacity size (set t c (Available e)) m (add e m) (mark o (Insert e) Done ∷ [])
    (let fits : length m < capacity = omega arith in (fits, tt)) refl (IsRising-add e m rising)
    (settle size t c o e heap is place) (holds_settled t m c o e (omega arith) is holds)

-- A remover that sees no hole at the root, and there a key that is not below its limit: the root's insert has its place
-- first, and then no entry is below the root's
pub above : (seats capacity seat limit size : ℕ) (t : List Node) (m : List Entry) (e : Entry) → IsHeap size t
    → Holds t m → IsRising m → size ≤ capacity → 1 ≤ size
    → HasWord (node t 1) e → limit ≤ e.key
    → IsPlaced seats capacity size (set t 1 (Available e)) m (above_marks seat limit (node t 1))
above seats capacity seat limit size t m e heap holds rising most some root high =
    let r : Node = node t 1 in let m1 : List Entry = helped r m in let within = heap.shape.within in
    let first = least_root size t m e heap holds rising root in
    let all = counted size t m heap.shape holds in let at_root = get_or-le-sum_by busy t 1 Empty (omega arith) in
    let kept : IsHeap size (set t 1 (Available e)) × Holds (set t 1
    (Available e)) m1 = root_settled size t m e heap holds some root in
    placed seats capacity size (set t 1 (Available e)) m m1 (above_marks seat limit r)
    (legal_help seats capacity m r (mark seat (RemoveBelow limit) Above ∷ []) (λ one. omega arith)
    (subst (λ (o : Option Entry). IsSomeAnd o (λ (z : Entry). limit ≤ z.key)) (sym first) high, tt))
    (left_help m r (mark seat (RemoveBelow limit) Above ∷ [])) (helped_rising r m rising) kept.0 kept.1
  where
    root_settled : (size : ℕ) (t : List Node) (m : List Entry) (e : Entry) → IsHeap size t → Holds t m → 1 ≤ size
        → HasWord (node t 1) e
        → IsHeap size (set t 1 (Available e)) × Holds (set t 1 (Available e)) (helped (node t 1) m)
    root_settled size t m e heap holds some root = ⊎_elim
        (λ q. let same : set t 1 (Available e) ≡ t = ap (set t 1) (sym q) ∙ set-get_or t 1 Empty in
        let none : helped (node t 1) m ≡ m = ap (λ (v : Node). helped v m) q in (
          subst (IsHeap size) (sym same) heap,
          subst (Holds (set t 1 (Available e))) (sym none)
              (subst (λ (l : List Node). Holds l m) (sym same) holds),
        ))
        (λ q. let within = heap.shape.within in let added : helped (node t 1) m ≡ add e m = ap
        (λ (v : Node). helped v m) q.1 in (
          settle size t 1 q.0 e heap q.1 (inl refl),
          subst (Holds (set t 1 (Available e))) (sym added)
              (holds_settled t m 1 q.0 e (omega arith) q.1 holds),
        ))
        root
