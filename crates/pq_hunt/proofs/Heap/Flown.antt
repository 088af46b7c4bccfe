-- What each step keeps of the inserts in flight.
use Rattle.std.proofs.Common.{◌≡◌, ◌≢◌, ℕ, ◌+◌, ◌/◌, ◌<◌, ◌≤◌, Bool, cond, List, length, set, inl, inr, ⊎_elim, refl}
use Rattle.std.proofs.Common.{sym, ap, ◌∙◌, subst, arith}
use Rattle.std.specs.Prelude.{All, sum_by}
use native.Mathlib.Decide.{ℕ_discrete}
use mathlib.Core.Logic.{dite}
use Rattle.std.proofs.lemmas.Bool.Decides.{eqb_tells}
use Rattle.std.proofs.lemmas.List.Sums.{sum_by-set, sum_by-le, get_or-le-sum_by}
use Rattle.std.proofs.lemmas.List.Elements.{All-from_get_or}
use Rattle.pq_words.specs.declared.entries.Entry.{Entry}
use Rattle.pq_model.specs.History.{IsSeat}
use Rattle.pq_hunt.specs.declared.nodes.Node.{Node}
use Rattle.pq_hunt.specs.declared.nodes.Node.TheVariants.{Empty, Available, Busy, Hole}
use Rattle.pq_nodes.specs.Ancestors.{IsAbove, IsAtOrAbove}
use Rattle.pq_hunt.specs.Nodes.{node, used, busy_of, IsShape}
use Rattle.pq_hunt.specs.Order.{HasWord}
use Rattle.pq_hunt.specs.Flights.{Flight, flight, looking_at, IsFlown, IsOther}
use Rattle.pq_nodes.proofs.Ancestors.{parent, below_end, above_above, above_lt}
use Rattle.pq_hunt.proofs.Heap.Writes.{node_same, node_other, two_writes, two_sums}
use Rattle.pq_hunt.specs.LawsHold.Owners.{in_use, busy_own, busy_at, one_busy}
use Rattle.pq_hunt.proofs.Heap.Heaps.{used_word}

-- where an owner has no Busy node, none is its
pub none_busy : (o : ℕ) (x : Entry) (i size : ℕ) (t : List Node) → IsShape size t → sum_by (busy_of o) t ≡ 0
    → node t i ≡ Busy o x → ⊥
none_busy o x i size t s none is = let at = in_use size t i s (ap used is) in let high = at.1 in
    let within = s.within in
    let part = get_or-le-sum_by (busy_of o) t i Empty (omega arith) in
    let one = busy_at o x (node t i) is in omega arith

-- an insert takes the next node
pub flown_leaf : (seats size : ℕ) (of of' : ℕ → Flight) (t : List Node) (o : ℕ) (x : Entry) → IsFlown seats of t
    → IsShape size t → size + 1 < length t → IsSeat seats o → (of o).waiting ≡ 0
    → IsOther of of' o (flight x (size + 1) 1) → IsFlown seats of' (set t (size + 1) (Busy o x))
flown_leaf seats size of of' t o x f s room seat none is =
    let h : ℕ = size + 1 in let t' : List Node = set t h (Busy o x) in let at = node_same t h (Busy o x) room in
    let new : Flight = flight x h 1 in
    let fact : (P : ℕ → ℕ → Entry → Flight → Type 0) → P h o x new
    → ((i p : ℕ) (y : Entry) → node t i ≡ Busy p y → P i p y (of p)) → (i p : ℕ) (y : Entry) → node t' i ≡ Busy p y
    → P i p y (of' p) =
    λ P one all i p y e. dite (ℕ_discrete i h)
    (λ q. let same : Busy o x ≡ Busy p y = sym at ∙ (ap (node t') (sym q) ∙ e) in let po : o ≡ p = cc in
    let xy : x ≡ y = cc in
    subst (λ (z : ℕ). P z p y (of' p)) (sym q) (subst (λ (z : ℕ). P h z y (of' z)) po
    (subst (λ (z : Entry). P h o z (of' o)) xy (subst (P h o x) (sym is.own) one))))
    (λ ne. let was : node t i ≡ Busy p y = sym (node_other t h i (Busy o x) ne) ∙ e in
    let po : p ≢ o = (λ q. none_busy o y i size t s (f.once o ∙ none) (was ∙ ap (λ (z : ℕ). Busy z y) q)) in
    subst (P i p y) (sym (is.others p po)) (all i p y was)) in
    let sum : (p : ℕ) → sum_by (busy_of p) t' ≡ (of p).waiting + busy_of p (Busy o x) =
    (λ p. let set_sum = sum_by-set (busy_of p) t h (Busy o x) Empty room in let old = f.once p in
    let zero_here : busy_of p (node t h) ≡ 0 = ap (busy_of p) (s.clear h (omega arith)) in omega arith) in
    record {
      entry = fact (λ i p y g. y ≡ g.entry) refl f.entry;
      place = fact (λ i p y g. IsAtOrAbove i g.place) (inl refl) f.place;
      seat = fact (λ i p y g. IsSeat seats p) seat f.seat;
      once = λ p. dite (ℕ_discrete p o)
          (λ q. subst (λ (z : ℕ). sum_by (busy_of z) t' ≡ (of' z).waiting) (sym q) (let one = busy_own o x in
          let s' = sum o in let w : (of' o).waiting ≡ 1 = ap (λ (z : Flight). z.waiting) is.own in omega arith))
          (λ ne. let s' = sum p in let zero_here : busy_of p (Busy o x) ≡ 0 = other_owner p o x ne in
          let w : (of' p).waiting ≡ (of p).waiting = ap (λ (z : Flight). z.waiting) (is.others p ne) in
          omega arith);
      most = λ p. dite (ℕ_discrete p o) (λ q. let w : (of' p).waiting ≡ 1 = ap (λ (z : ℕ). (of' z).waiting) q ∙ ap
          (λ (z : Flight). z.waiting) is.own in omega arith)
          (λ ne. let w : (of' p).waiting ≡ (of p).waiting = ap (λ (z : Flight). z.waiting) (is.others p ne) in
          let old = f.most p in omega arith);
    }
  where
    other_owner : (p o : ℕ) (x : Entry) → p ≢ o → busy_of p (Busy o x) ≡ 0
    other_owner p o x ne = ⊎_elim (λ t. absurd (ne (sym t.1)))
        (λ t. ap (λ (b : Bool). cond {A = ℕ} b 1 0) t.0) (eqb_tells o p)

-- an insert climbs
pub flown_climb : (seats size : ℕ) (of of' : ℕ → Flight) (t : List Node) (p c o : ℕ) (x y : Entry) → IsFlown seats of t
    → IsShape size t → c / 2 ≡ p → node t p ≡ Available y → node t c ≡ Busy o x
    → IsOther of of' o (looking_at (of o) p) → IsFlown seats of' (set (set t p (Busy o x)) c (Available y))
flown_climb seats size of of' t p c o x y f s child at_p at_c is =
    let within = s.within in let pin = in_use size t p s (ap used at_p) in let cin = in_use size t c s (ap used at_c) in
    let p_low = pin.0 in let p_high = pin.1 in let c_high = cin.1 in
    let t' : List Node = set (set t p (Busy o x)) c (Available y) in
    let w = two_writes t p (Busy o x) c (Available y) (omega arith) (omega arith) (omega arith) in
    let new : Flight = looking_at (of o) p in
    let fact : (P : ℕ → ℕ → Entry → Flight → Type 0) → P p o x new
    → ((i q : ℕ) (z : Entry) → node t i ≡ Busy q z → P i q z (of q)) → (i q : ℕ) (z : Entry) → node t' i ≡ Busy q z
    → P i q z (of' q) =
    λ P one all i q z e. dite (ℕ_discrete i p)
    (λ ip. let same : Busy o x ≡ Busy q z = sym w.at_first ∙ (ap (node t') (sym ip) ∙ e) in let qo : o ≡ q = cc in
    let xz : x ≡ z = cc in
    subst (λ (n : ℕ). P n q z (of' q)) (sym ip) (subst (λ (n : ℕ). P p n z (of' n)) qo
    (subst (λ (n : Entry). P p o n (of' o)) xz (subst (P p o x) (sym is.own) one))))
    (λ ip. dite (ℕ_discrete i c)
    (λ ic. let bad : Available y ≡ Busy q z = sym w.at_second ∙ (ap (node t') (sym ic) ∙ e) in absurd cc)
    (λ ic. let was : node t i ≡ Busy q z = sym (w.others i ip ic) ∙ e in
    let qo : q ≢ o =
    (λ k. ic (one_busy o x z i c size t s (let sum = f.once o in let most = f.most o in omega arith) at_c
    (was ∙ ap (λ (n : ℕ). Busy n z) k))) in
    subst (P i q z) (sym (is.others q qo)) (all i q z was))) in
    let sum : (q : ℕ) → sum_by (busy_of q) t' ≡ (of q).waiting =
    (λ q. let sums = two_sums (busy_of q) t p (Busy o x) c (Available y) (omega arith) (omega arith)
    (omega arith) in let old = f.once q in
    let a : busy_of q (node t p) ≡ 0 = ap (busy_of q) at_p in
    let b : busy_of q (node t c) ≡ busy_of q (Busy o x) = ap (busy_of q) at_c in omega arith) in
    let same_waiting : (q : ℕ) → (of' q).waiting ≡ (of q).waiting =
    (λ q. dite (ℕ_discrete q o) (λ e. subst (λ (n : ℕ). (of' n).waiting ≡ (of n).waiting) (sym e)
    (ap (λ (g : Flight). g.waiting) is.own))
    (λ ne. ap (λ (g : Flight). g.waiting) (is.others q ne))) in
    record {
      entry = fact (λ i q z g. z ≡ g.entry) (f.entry c o x at_c) f.entry;
      place = fact (λ i q z g. IsAtOrAbove i g.place) (inl refl) f.place;
      seat = fact (λ i q z g. IsSeat seats q) (f.seat c o x at_c) f.seat;
      once = λ q. sum q ∙ sym (same_waiting q);
      most = λ q. let a = same_waiting q in let b = f.most q in omega arith;
    }

-- no node is Busy that was not, and some owners wait no longer
pub flown_fewer : (seats : ℕ) (of of' : ℕ → Flight) (t t' : List Node) → IsFlown seats of t
    → ((i o : ℕ) (x : Entry) → node t' i ≡ Busy o x → node t i ≡ Busy o x)
    → ((o : ℕ) → (of' o).entry ≡ (of o).entry) → ((o : ℕ) → (of' o).place ≡ (of o).place)
    → ((o : ℕ) → sum_by (busy_of o) t' ≡ (of' o).waiting) → ((o : ℕ) → (of' o).waiting ≤ (of o).waiting)
    → IsFlown seats of' t'
flown_fewer seats of of' t t' f busy_was entries places once fewer = record {
  entry = λ i o x e. f.entry i o x (busy_was i o x e) ∙ sym (entries o);
  place = λ i o x e. subst (IsAtOrAbove i) (sym (places o)) (f.place i o x (busy_was i o x e));
  seat = λ i o x e. f.seat i o x (busy_was i o x e);
  once = once;
  most = λ o. let a = fewer o in let b = f.most o in omega arith;
}

-- an insert ends
pub flown_settle : (seats size : ℕ) (of of' : ℕ → Flight) (t : List Node) (c o : ℕ) (x : Entry) → IsFlown seats of t
    → IsShape size t → node t c ≡ Busy o x
    → ((p : ℕ) → (of' p).entry ≡ (of p).entry) → ((p : ℕ) → (of' p).place ≡ (of p).place)
    → ((p : ℕ) → (of' p).waiting + busy_of p (Busy o x) ≡ (of p).waiting)
    → IsFlown seats of' (set t c (Available x))
flown_settle seats size of of' t c o x f s is entries places waits = let within = s.within in
    let cin = in_use size t c s (ap used is) in let high = cin.1 in
    let t' : List Node = set t c (Available x) in
    flown_fewer seats of of' t t' f
    (λ i p y e. dite (ℕ_discrete i c) (λ q. let bad : Available x ≡ Busy p y = sym
    (node_same t c (Available x) (omega arith)) ∙ (ap (node t') (sym q) ∙ e) in absurd cc)
    (λ ne. sym (node_other t c i (Available x) ne) ∙ e))
    entries places
    (λ p. let sum = sum_by-set (busy_of p) t c (Available x) Empty (omega arith) in let old = f.once p in
    let one : busy_of p (node t c) ≡ busy_of p (Busy o x) = ap (busy_of p) is in let w = waits p in omega arith)
    (λ p. let w = waits p in omega arith)

-- a remover draws: the inserts at the root and at the last node have their places
pub flown_draw : (seats size : ℕ) (of of' : ℕ → Flight) (t : List Node) (x : Entry) → IsFlown seats of t → 2 ≤ size
    → size < length t
    → ((p : ℕ) → (of' p).entry ≡ (of p).entry) → ((p : ℕ) → (of' p).place ≡ (of p).place)
    → ((p : ℕ) → (of' p).waiting + busy_of p (node t 1) + busy_of p (node t size) ≡ (of p).waiting)
    → IsFlown seats of' (set (set t 1 (Hole x)) size Empty)
flown_draw seats size of of' t x f some within entries places waits =
    let t' : List Node = set (set t 1 (Hole x)) size Empty in
    let w = two_writes t 1 (Hole x) size Empty (omega arith) (omega arith) within in
    flown_fewer seats of of' t t' f
    (λ i p y e. dite (ℕ_discrete i 1) (λ q. let bad : Hole x ≡ Busy p y = sym w.at_first ∙ (ap (node t') (sym q) ∙ e) in
    absurd cc)
    (λ i1. dite (ℕ_discrete i size) (λ q. let bad : Empty ≡ Busy p y = sym w.at_second ∙ (ap (node t') (sym q) ∙ e) in
    absurd cc) (λ is. sym (w.others i i1 is) ∙ e)))
    entries places
    (λ p. let sums = two_sums (busy_of p) t 1 (Hole x) size Empty (omega arith) (omega arith) within in
    let old = f.once p in let wp = waits p in omega arith)
    (λ p. let wp = waits p in omega arith)

pub flown_draw_only : (seats : ℕ) (of of' : ℕ → Flight) (t : List Node) → IsFlown seats of t → 1 < length t
    → ((p : ℕ) → (of' p).entry ≡ (of p).entry) → ((p : ℕ) → (of' p).place ≡ (of p).place)
    → ((p : ℕ) → (of' p).waiting + busy_of p (node t 1) ≡ (of p).waiting)
    → IsFlown seats of' (set t 1 Empty)
flown_draw_only seats of of' t f within entries places waits = let t' : List Node = set t 1 Empty in
    flown_fewer seats of of' t t' f
    (λ i p y e. dite (ℕ_discrete i 1) (λ q. let bad : Empty ≡ Busy p y = sym (node_same t 1 Empty within)
    ∙ (ap (node t') (sym q) ∙ e) in absurd cc) (λ ne. sym (node_other t 1 i Empty ne) ∙ e))
    entries places
    (λ p. let sum = sum_by-set (busy_of p) t 1 Empty Empty within in let old = f.once p in
    let wp = waits p in omega arith)
    (λ p. let wp = waits p in omega arith)

-- a Busy word that moves up is still where its owner looks for it, or above
pub flown_sift : (seats size : ℕ) (of : ℕ → Flight) (t : List Node) (h c : ℕ) (x y : Entry) → IsFlown seats of t
    → IsShape size t → c / 2 ≡ h → node t h ≡ Hole x → HasWord (node t c) y
    → IsFlown seats of (set (set t h (node t c)) c (Hole x))
flown_sift seats size of t h c x y f s child is word =
    let within = s.within in let hin = in_use size t h s (ap used is) in
    let cin = in_use size t c s (used_word (node t c) y word) in
    let h_low = hin.0 in let h_high = hin.1 in let c_high = cin.1 in
    let v : Node = node t c in let t' : List Node = set (set t h v) c (Hole x) in
    let w = two_writes t h v c (Hole x) (omega arith) (omega arith) (omega arith) in
    let fact : (P : ℕ → ℕ → Entry → Type 0) → ((p : ℕ) (y : Entry) → P c p y → P h p y)
    → ((i p : ℕ) (y : Entry) → node t i ≡ Busy p y → P i p y) → (i p : ℕ) (y : Entry) → node t' i ≡ Busy p y
    → P i p y =
    λ P up all i p y e. dite (ℕ_discrete i h) (λ q. let was : node t c ≡ Busy p y = sym w.at_first
    ∙ (ap (node t') (sym q) ∙ e) in subst (λ (z : ℕ). P z p y) (sym q) (up p y (all c p y was)))
    (λ ih. dite (ℕ_discrete i c) (λ q. let bad : Hole x ≡ Busy p y = sym w.at_second ∙ (ap (node t') (sym q) ∙ e) in
    absurd cc) (λ ic. all i p y (sym (w.others i ih ic) ∙ e))) in
    let over : IsAbove h c = subst (λ (z : ℕ). IsAbove z c) child (parent c (omega arith)) in
    record {
      entry = fact (λ i p y. y ≡ (of p).entry) (λ p y e. e) f.entry;
      place = fact (λ i p y. IsAtOrAbove i (of p).place) (λ p y e. ⊎_elim (λ q. inr (subst (IsAbove h) q over))
          (λ q. inr (above_above h c (of p).place over q)) e) f.place;
      seat = fact (λ i p y. IsSeat seats p) (λ p y e. e) f.seat;
      once = λ p. let sums = two_sums (busy_of p) t h v c (Hole x) (omega arith) (omega arith) (omega arith) in
          let old = f.once p in let none : busy_of p (node t h) ≡ 0 = ap (busy_of p) is in omega arith;
      most = f.most;
    }

-- a hole is filled
pub flown_fill : (seats size : ℕ) (of : ℕ → Flight) (t : List Node) (h : ℕ) (x : Entry) → IsFlown seats of t
    → IsShape size t → node t h ≡ Hole x → IsFlown seats of (set t h (Available x))
flown_fill seats size of t h x f s is = let within = s.within in let hin = in_use size t h s (ap used is) in
    let high = hin.1 in let t' : List Node = set t h (Available x) in
    flown_fewer seats of of t t' f
    (λ i p y e. dite (ℕ_discrete i h) (λ q. let bad : Available x ≡ Busy p y = sym
    (node_same t h (Available x) (omega arith)) ∙ (ap (node t') (sym q) ∙ e) in absurd cc)
    (λ ne. sym (node_other t h i (Available x) ne) ∙ e))
    (λ p. refl) (λ p. refl)
    (λ p. let sum = sum_by-set (busy_of p) t h (Available x) Empty (omega arith) in let old = f.once p in
    let none : busy_of p (node t h) ≡ 0 = ap (busy_of p) is in omega arith)
    (λ p. omega arith)

-- an owner that does not find its entry looks one node higher
pub flown_look : (seats : ℕ) (of of' : ℕ → Flight) (t : List Node) (o : ℕ) → IsFlown seats of t
    → ((x : Entry) → node t (of o).place ≢ Busy o x)
    → IsOther of of' o (looking_at (of o) ((of o).place / 2)) → IsFlown seats of' t
flown_look seats of of' t o f gone is =
    let place : (i p : ℕ) (x : Entry) → node t i ≡ Busy p x → IsAtOrAbove i (of' p).place =
    (λ i p x e. dite (ℕ_discrete p o)
    (λ q. let mine : node t i ≡ Busy o x = e ∙ ap (λ (z : ℕ). Busy z x) q in subst
    (λ (z : ℕ). IsAtOrAbove i (of' z).place) (sym q) (subst (λ (g : Flight). IsAtOrAbove i g.place) (sym is.own)
    (⊎_elim (λ at. absurd (gone x (ap (node t) (sym at) ∙ mine)))
    (λ up. below_end i (of o).place up) (f.place i o x mine))))
    (λ ne. subst (λ (g : Flight). IsAtOrAbove i g.place) (sym (is.others p ne)) (f.place i p x e))) in
    let same : (A : Type 0) (P : Flight → A) → P (looking_at (of o) ((of o).place / 2)) ≡ P (of o) → (p : ℕ)
    → P (of' p) ≡ P (of p) =
    λ A P one p. dite (ℕ_discrete p o) (λ q. subst (λ (z : ℕ). P (of' z) ≡ P (of z)) (sym q) (ap P is.own ∙ one))
    (λ ne. ap P (is.others p ne)) in
    record {
      entry = λ i p x e. f.entry i p x e ∙ sym (same Entry (λ (g : Flight). g.entry) refl p);
      place = place;
      seat = f.seat;
      once = λ p. f.once p ∙ sym (same ℕ (λ (g : Flight). g.waiting) refl p);
      most = λ p. let a = same ℕ (λ (g : Flight). g.waiting) refl p in let b = f.most p in omega arith;
    }

not_its : (o : ℕ) (v : Node) → ((x : Entry) → v ≢ Busy o x) → busy_of o v ≤ 0
not_its o Empty not = omega arith
not_its o (Available x) not = omega arith
not_its o (Busy p x) not = ⊎_elim (λ t. absurd (not x (ap (λ (z : ℕ). Busy z x) t.1)))
    (λ t. let none : busy_of o (Busy p x) ≡ 0 = ap (λ (b : Bool). cond {A = ℕ} b 1 0) t.0 in omega arith)
    (eqb_tells p o)
not_its o (Hole x) not = omega arith

-- an owner that does not find its entry at the root has its place: its letter is there
pub flown_lost : (seats : ℕ) (of : ℕ → Flight) (t : List Node) (o : ℕ) → IsFlown seats of t → (of o).place ≡ 1
    → ((x : Entry) → node t 1 ≢ Busy o x) → (of o).waiting ≡ 0
flown_lost seats of t o f at gone =
    let nowhere : (i : ℕ) (x : Entry) → node t i ≢ Busy o x =
    (λ i x e. ⊎_elim (λ q. gone x (ap (node t) (sym (q ∙ at)) ∙ e))
    (λ up. let lt = above_lt i (of o).place up in let some = up.positive in absurd (omega arith))
    (f.place i o x e)) in
    let all : All (λ (v : Node). busy_of o v ≤ 0) t = All-from_get_or (λ (v : Node). busy_of o v ≤ 0) t Empty
    (λ i lt. not_its o (node t i) (nowhere i)) in
    let once = f.once o in omega (arith, sum_by-le (busy_of o) 0 t all)
