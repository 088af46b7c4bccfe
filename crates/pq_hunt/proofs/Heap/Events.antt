-- One lemma for each step of the heap: the facts before give the facts after.
use Rattle.std.proofs.Common.{◌≡◌, ◌≢◌, ℕ, zero, suc, ◌+◌, ◌*◌, ◌<◌, ◌≤◌, List, [], length, replicate, set, refl}
use Rattle.std.proofs.Common.{⊎_elim, sym, ap, ◌∙◌, subst, arith}
use Rattle.std.specs.Prelude.{sum_by}
use Rattle.std.proofs.lemmas.List.{length-set, set-get_or, length-replicate}
use Rattle.std.proofs.lemmas.List.Folds.{sum_by-replicate}
use Rattle.pq_words.specs.declared.entries.Entry.{Entry}
use Rattle.pq_model.specs.declared.marks.Act.{Act}
use Rattle.pq_model.specs.declared.marks.Act.TheVariants.{Insert, Remove, RemoveBelow}
use Rattle.pq_model.specs.declared.marks.Mark.{Mark}
use Rattle.pq_model.specs.declared.marks.Reply.TheVariants as replies
use Rattle.pq_model.specs.Multiset.{IsRising}
use Rattle.pq_model.specs.History.{IsStep, left_from}
use Rattle.pq_hunt.specs.declared.nodes.Node.{Node}
use Rattle.pq_hunt.specs.declared.nodes.Node.TheVariants.{Empty, Available, Busy, Hole}
use Rattle.pq_hunt.specs.Nodes.{node, used, busy_of, IsShape}
use Rattle.pq_hunt.specs.Order.{HasWord, MayStandOver}
use Rattle.pq_hunt.specs.Flights.{Flight, IsFlown, WaitsLess}
use Rattle.pq_hunt.specs.Facts.{HeapFacts, StepsTo}
use Rattle.pq_hunt.specs.Marks.{IsRemoval}
use Rattle.pq_hunt.specs.Laws.{FullIsAStep, LeavesKeep, ClimbsKeep, SettlesAreSteps, LooksKeep, LostHavePlaces}
use Rattle.pq_hunt.specs.Laws.{EmptyIsAStep, DrawsAreSteps, LastDrawsAreSteps, AboveIsAStep, SiftsKeep, FillsKeep}
use Rattle.pq_hunt.specs.Laws.{NewHeapsKeep, QuietHeapsAreNotBusy}
use Rattle.pq_hunt.proofs.Heap.Counting.{bound, weigh, IsHeap, Holds}
use Rattle.pq_hunt.specs.LawsHold.Owners.{in_use}
use Rattle.pq_hunt.proofs.Heap.Heaps.{used_word, leaf, climb, sift, fill}
use Rattle.pq_hunt.proofs.Heap.Weights.{holds_set, holds_two}
use Rattle.pq_hunt.proofs.Heap.Counts.{empty_at_zero, full_is_step}
use Rattle.pq_hunt.proofs.Heap.Steps.{IsPlaced, drawn, drawn_only, settled, above}
use Rattle.pq_hunt.proofs.Heap.Flown.{none_busy, flown_leaf, flown_climb, flown_fewer, flown_settle, flown_draw}
use Rattle.pq_hunt.proofs.Heap.Flown.{flown_draw_only, flown_sift, flown_fill, flown_look, flown_lost}
use Rattle.pq_hunt.proofs.Heap.Plain.{by_bounds, in_words, by_weights, in_entries}

-- the facts as the proofs have them
heap_in : (seats capacity size : ℕ) (of : ℕ → Flight) (t : List Node) (m : List Entry)
    → HeapFacts seats capacity size of t m → IsHeap size t
heap_in seats capacity size of t m f = record { shape = f.shape; ordered = by_bounds t f.ordered }

holds_in : (seats capacity size : ℕ) (of : ℕ → Flight) (t : List Node) (m : List Entry)
    → HeapFacts seats capacity size of t m → Holds t m
holds_in seats capacity size of t m f = (by_weights t m f.holds).0

rising_in : (seats capacity size : ℕ) (of : ℕ → Flight) (t : List Node) (m : List Entry)
    → HeapFacts seats capacity size of t m → IsRising m
rising_in seats capacity size of t m f = (by_weights t m f.holds).1

facts_out : (seats capacity size : ℕ) (of : ℕ → Flight) (t : List Node) (m : List Entry) → length t ≡ capacity + 1
    → IsHeap size t → Holds t m → IsRising m → IsFlown seats of t
    → HeapFacts seats capacity size of t m
facts_out seats capacity size of t m long heap holds rising flown = record {
  long = long;
  shape = heap.shape;
  ordered = in_words t heap.ordered;
  holds = in_entries t m holds rising;
  flown = flown;
}

steps_out : (seats capacity size : ℕ) (of : ℕ → Flight) (t : List Node) (m : List Entry) (marks : List Mark)
    → length t ≡ capacity + 1 → IsPlaced seats capacity size t m marks → IsFlown seats of t
    → StepsTo seats capacity size of t m marks
steps_out seats capacity size of t m marks long p flown = record {
  legal = p.legal;
  facts = facts_out seats capacity size of t (left_from m marks) long p.heap p.holds p.rising flown;
}

-- the size is within the capacity
pub size_fits : (seats capacity size : ℕ) (of : ℕ → Flight) (t : List Node) (m : List Entry)
    → HeapFacts seats capacity size of t m → size ≤ capacity
size_fits seats capacity size of t m f = let within = f.shape.within in let long = f.long in omega arith

-- a new Busy leaf
pub event_leaf : LeavesKeep
event_leaf seats capacity size of of' t m o x f room seat none is = let long = f.long in
    let within : size + 1 < length t = omega arith in
    facts_out seats capacity (size + 1) of' (set t (size + 1) (Busy o x)) m
    (length-set t (size + 1) (Busy o x) ∙ f.long)
    (leaf size t o x (heap_in seats capacity size of t m f) within)
    (holds_set t m (size + 1) (Busy o x) within (λ w. let at : weigh w (node t (size + 1)) ≡ 0 = ap (weigh w)
    (f.shape.clear (size + 1) (omega arith)) in omega arith) (holds_in seats capacity size of t m f))
    (rising_in seats capacity size of t m f)
    (flown_leaf seats size of of' t o x f.flown f.shape within seat none is)

-- a Busy entry climbs past an Available one
pub event_climb : ClimbsKeep
event_climb seats capacity size of of' t m p c o x y f child at_p at_c le is =
    let within = f.shape.within in let pin = in_use size t p f.shape (ap used at_p) in
    let cin = in_use size t c f.shape (ap used at_c) in
    let p_low = pin.0 in let p_high = pin.1 in let c_high = cin.1 in
    facts_out seats capacity size of' (set (set t p (Busy o x)) c (Available y)) m
    (length-set (set t p (Busy o x)) c (Available y) ∙ (length-set t p (Busy o x) ∙ f.long))
    (climb size t p c o x y (heap_in seats capacity size of t m f) child at_p at_c le)
    (holds_two t m p (Busy o x) c (Available y) (omega arith) (omega arith) (omega arith)
    (λ w. let a = ap (weigh w) at_p in let b = ap (weigh w) at_c in omega arith)
    (holds_in seats capacity size of t m f))
    (rising_in seats capacity size of t m f)
    (flown_climb seats size of of' t p c o x y f.flown f.shape child at_p at_c is)

-- a Busy entry settles, and its insert has its place
pub event_settle : SettlesAreSteps
event_settle seats capacity size of of' t m c o e f is place w =
    let marked = settled seats capacity o c size t m e (heap_in seats capacity size of t m f)
    (holds_in seats capacity size of t m f) (rising_in seats capacity size of t m f)
    (size_fits seats capacity size of t m f) is place in
    steps_out seats capacity size of' (set t c (Available e)) m _ (length-set t c (Available e) ∙ f.long) marked
    (flown_settle seats size of of' t c o e f.flown f.shape is w.entries w.places
    (λ p. subst (λ (v : Node). (of' p).waiting + busy_of p v ≡ (of p).waiting) is (w.waits p)))

-- a remover draws one to three marks, and takes the last entry in hand
pub event_draw : DrawsAreSteps
event_draw seats capacity size seat act of of' t m e l f some root last may w =
    let marked = drawn seats capacity seat size act t m e l (heap_in seats capacity size of t m f)
    (holds_in seats capacity size of t m f) (rising_in seats capacity size of t m f)
    (size_fits seats capacity size of t m f) some root last may in
    steps_out seats capacity _ of' (set (set t 1 (Hole l)) size Empty) m _
    (length-set (set t 1 (Hole l)) size Empty ∙ (length-set t 1 (Hole l) ∙ f.long)) marked
    (flown_draw seats size of of' t l f.flown some f.shape.within w.entries w.places
    (λ p. let z = w.waits p in omega arith))

-- a remover takes the only entry
pub event_draw_last : LastDrawsAreSteps
event_draw_last seats capacity seat act of of' t m e f root may w =
    let marked = drawn_only seats capacity seat act t m e (heap_in seats capacity 1 of t m f)
    (holds_in seats capacity 1 of t m f) (rising_in seats capacity 1 of t m f)
    (size_fits seats capacity 1 of t m f) root may in
    steps_out seats capacity 0 of' (set t 1 Empty) m _ (length-set t 1 Empty ∙ f.long) marked
    (flown_draw_only seats of of' t f.flown f.shape.within w.entries w.places w.waits)

-- a child's word moves up into the hole, and the child is the hole
pub event_sift : SiftsKeep
event_sift seats capacity size of t m h c d x e f is child pair word under may =
    let within = f.shape.within in let hin = in_use size t h f.shape (ap used is) in
    let cin = in_use size t c f.shape (used_word (node t c) e word) in
    let h_low = hin.0 in let h_high = hin.1 in let c_high = cin.1 in
    facts_out seats capacity size of (set (set t h (node t c)) c (Hole x)) m
    (length-set (set t h (node t c)) c (Hole x) ∙ (length-set t h (node t c) ∙ f.long))
    (sift size t h c d x e (heap_in seats capacity size of t m f) is child pair word under may)
    (holds_two t m h (node t c) c (Hole x) (omega arith) (omega arith) (omega arith)
    (λ w. let a = ap (weigh w) is in omega arith) (holds_in seats capacity size of t m f))
    (rising_in seats capacity size of t m f)
    (flown_sift seats size of t h c x e f.flown f.shape child is word)

-- the entry in hand fills the hole
pub event_fill : FillsKeep
event_fill seats capacity size of t m h x f is left right =
    let within = f.shape.within in let hin = in_use size t h f.shape (ap used is) in let high = hin.1 in
    facts_out seats capacity size of (set t h (Available x)) m (length-set t h (Available x) ∙ f.long)
    (fill size t h x (heap_in seats capacity size of t m f) is left right)
    (holds_set t m h (Available x) (omega arith) (λ w. let a = ap (weigh w) is in omega arith)
    (holds_in seats capacity size of t m f))
    (rising_in seats capacity size of t m f)
    (flown_fill seats size of t h x f.flown f.shape is)

-- an owner that does not find its entry looks one node higher
pub event_look : LooksKeep
event_look seats capacity size of of' t m o f gone is = record {
  long = f.long;
  shape = f.shape;
  ordered = f.ordered;
  holds = f.holds;
  flown = flown_look seats of of' t o f.flown gone is;
}

-- at the root this says that the insert has its place
pub event_lost : LostHavePlaces
event_lost seats capacity size of t m o f at gone = flown_lost seats of t o f.flown at gone

-- Empty, with the heap's lock
pub event_empty : EmptyIsAStep
event_empty seats capacity of t m act f removal = by_act act removal
    (empty_at_zero t m f.shape (holds_in seats capacity 0 of t m f))
  where
    by_act : (act : Act) → IsRemoval act → m ≡ [] → IsStep seats capacity m act replies.Empty
    by_act (Insert x) removal none = absurd removal
    by_act Remove removal none = none
    by_act (RemoveBelow limit) removal none = none

-- Full, with the heap's lock, by a seat that has no insert on its way
pub event_full : FullIsAStep
event_full seats capacity seat of t m e f is none = full_is_step seats seat capacity of t m f.shape
    (holds_in seats capacity capacity of t m f) f.flown is none

-- Above, with the locks of the heap and of the root
pub event_above : AboveIsAStep
event_above seats capacity size seat limit of of' t m e f some root high w =
    let marked = above seats capacity seat limit size t m e (heap_in seats capacity size of t m f)
    (holds_in seats capacity size of t m f) (rising_in seats capacity size of t m f)
    (size_fits seats capacity size of t m f) some root high in
    steps_out seats capacity size of' (set t 1 (Available e)) m _ (length-set t 1 (Available e) ∙ f.long) marked
    (root_flown seats size of of' t e f.flown f.shape root w)
  where
    root_flown : (seats size : ℕ) (of of' : ℕ → Flight) (t : List Node) (x : Entry) → IsFlown seats of t
        → IsShape size t → HasWord (node t 1) x → WaitsLess of of' (λ p. busy_of p (node t 1))
        → IsFlown seats of' (set t 1 (Available x))
    root_flown seats size of of' t x f s root w = ⊎_elim
        (λ q. let same : set t 1 (Available x) ≡ t = ap (set t 1) (sym q) ∙ set-get_or t 1 Empty in
        let none : (p : ℕ) → busy_of p (node t 1) ≡ 0 = (λ p. ap (busy_of p) q) in
        subst (IsFlown seats of') (sym same) (flown_fewer seats of of' t t f (λ i p z e. e) w.entries w.places
        (λ p. let a = f.once p in let b = w.waits p in let c = none p in omega arith)
        (λ p. let b = w.waits p in omega arith)))
        (λ q. flown_settle seats size of of' t 1 q.0 x f s q.1 w.entries w.places
        (λ p. subst (λ (v : Node). (of' p).waiting + busy_of p v ≡ (of p).waiting) q.1 (w.waits p))) root

-- a new heap
pub empties : (n i : ℕ) → node (replicate n Empty) i ≡ Empty
empties zero i = refl
empties (suc n) zero = refl
empties (suc n) (suc i) = empties n i

pub event_open : NewHeapsKeep
event_open seats capacity of none = let n : ℕ = capacity + 1 in let t : List Node = replicate n Empty in
    let nowhere : (i o : ℕ) (x : Entry) → node t i ≢ Busy o x =
    (λ i o x e. let bad : Empty ≡ Busy o x = sym (empties n i) ∙ e in absurd cc) in
    let nothing : (f : Node → ℕ) → f Empty ≡ 0 → sum_by f t ≡ 0 =
    (λ f zero_at. omega (arith, sum_by-replicate f n Empty, ap (λ (z : ℕ). n * z) zero_at)) in
    facts_out seats capacity 0 of t [] (length-replicate n Empty)
    (record {
      shape = record {
        within = omega (arith, length-replicate n Empty);
        filled = λ i one le. absurd (omega arith);
        clear = λ i lt. empties n i;
        first = empties n 0;
      };
      ordered = record { order = λ a i up. let at : bound (node t a) ≡ 0 = ap bound (empties n a) in omega arith };
    })
    (record { same = λ w. nothing (weigh w) refl }) tt
    (record {
      entry = λ i o x e. absurd (nowhere i o x e);
      place = λ i o x e. absurd (nowhere i o x e);
      seat = λ i o x e. absurd (nowhere i o x e);
      once = λ o. nothing (busy_of o) refl ∙ sym (none o);
      most = λ o. let z = none o in omega arith;
    })

-- where no insert is on its way, no node is Busy
pub event_quiet : QuietHeapsAreNotBusy
event_quiet seats capacity size of t m f none i o x is = none_busy o x i size t f.shape (f.flown.once o ∙ none o) is

-- what is past the end is empty, and any entry may stand over it
pub may_empty : (t : List Node) (x : Entry) (i : ℕ) → node t i ≡ Empty → MayStandOver x (node t i)
may_empty t x i is = subst (MayStandOver x) (sym is) tt

pub past_end : (seats capacity size : ℕ) (of : ℕ → Flight) (t : List Node) (m : List Entry) (i : ℕ)
    → HeapFacts seats capacity size of t m → capacity < i → node t i ≡ Empty
past_end seats capacity size of t m i f past = let within = f.shape.within in
    let long = f.long in f.shape.clear i (omega arith)
