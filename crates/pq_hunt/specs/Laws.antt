-- Laws of the heap's steps. In each, the facts hold before the step.
use Rattle.std.specs.Prelude.{◌≡◌, ◌≢◌, ℕ, ◌+◌, ◌-◌, ◌*◌, ◌/◌, ◌<◌, ◌≤◌, List, [], ◌∷◌, set, replicate}
use Rattle.pq_words.specs.declared.entries.Entry.{Entry}
use Rattle.pq_words.specs.Entries.{raw_of}
use Rattle.pq_model.specs.declared.marks.Act.{Act}
use Rattle.pq_model.specs.declared.marks.Act.TheVariants.{Insert}
use Rattle.pq_model.specs.declared.marks.Reply.TheVariants.{Done, Empty, Full}
use Rattle.pq_model.specs.History.{mark, IsSeat, IsStep}
use Rattle.pq_hunt.specs.declared.nodes.Node.{Node}
use Rattle.pq_hunt.specs.declared.nodes.Node.TheVariants.{Empty as EmptyNode, Available, Busy, Hole}
use Rattle.pq_hunt.specs.Nodes.{node, busy_of}
use Rattle.pq_hunt.specs.Order.{HasWord, MayStandOver, MaySettle}
use Rattle.pq_hunt.specs.Flights.{Flight, flight, looking_at, IsOther, WaitsLess}
use Rattle.pq_hunt.specs.Facts.{HeapFacts, StepsTo}
use Rattle.pq_hunt.specs.Letters.{IsClimbing}
use Rattle.pq_hunt.specs.Words.{Means}
use Rattle.pq_hunt.specs.Marks.{IsRemoval, MayGet, drawn_marks, last_marks, above_marks}

-- Full, where the size is the capacity, by a seat that has no Busy node
abbrev pub FullIsAStep : Type 0
FullIsAStep = (seats capacity seat : ℕ) (of : ℕ → Flight) (nodes : List Node) (m : List Entry) (e : Entry)
    → HeapFacts seats capacity capacity of nodes m → IsSeat seats seat → (of seat).waiting ≡ 0
    → IsStep seats capacity m (Insert e) Full

-- an insert takes the next node, which is Busy
abbrev pub LeavesKeep : Type 0
LeavesKeep = (seats capacity size : ℕ) (of of' : ℕ → Flight) (nodes : List Node) (m : List Entry) (o : ℕ) (e : Entry)
    → HeapFacts seats capacity size of nodes m → size < capacity → IsSeat seats o → (of o).waiting ≡ 0
    → IsOther of of' o (flight e (size + 1) 1)
    → HeapFacts seats capacity (size + 1) of' (set nodes (size + 1) (Busy o e)) m

-- a Busy entry changes places with its parent's, which is not below it
abbrev pub ClimbsKeep : Type 0
ClimbsKeep = (seats capacity size : ℕ) (of of' : ℕ → Flight) (nodes : List Node) (m : List Entry) (p c o : ℕ)
    (x y : Entry)
    → HeapFacts seats capacity size of nodes m → c / 2 ≡ p → node nodes p ≡ Available y → node nodes c ≡ Busy o x
    → raw_of x ≤ raw_of y → IsOther of of' o (looking_at (of o) p)
    → HeapFacts seats capacity size of' (set (set nodes p (Busy o x)) c (Available y)) m

-- a Busy entry ends its climb, and its insert has its place: Done
abbrev pub SettlesAreSteps : Type 0
SettlesAreSteps = (seats capacity size : ℕ) (of of' : ℕ → Flight) (nodes : List Node) (m : List Entry) (c o : ℕ)
    (e : Entry)
    → HeapFacts seats capacity size of nodes m → node nodes c ≡ Busy o e → MaySettle nodes c e
    → WaitsLess of of' (λ p. busy_of p (node nodes c))
    → StepsTo seats capacity size of' (set nodes c (Available e)) m (mark o (Insert e) Done ∷ [])

-- an owner that does not find its entry looks for it at the parent
abbrev pub LooksKeep : Type 0
LooksKeep = (seats capacity size : ℕ) (of of' : ℕ → Flight) (nodes : List Node) (m : List Entry) (o : ℕ)
    → HeapFacts seats capacity size of nodes m → ((e : Entry) → node nodes (of o).place ≢ Busy o e)
    → IsOther of of' o (looking_at (of o) ((of o).place / 2)) → HeapFacts seats capacity size of' nodes m

-- an owner that does not find it at the root has its place
abbrev pub LostHavePlaces : Type 0
LostHavePlaces = (seats capacity size : ℕ) (of : ℕ → Flight) (nodes : List Node) (m : List Entry) (o : ℕ)
    → HeapFacts seats capacity size of nodes m → (of o).place ≡ 1 → ((e : Entry) → node nodes 1 ≢ Busy o e)
    → (of o).waiting ≡ 0

-- Empty, where the size is 0
abbrev pub EmptyIsAStep : Type 0
EmptyIsAStep = (seats capacity : ℕ) (of : ℕ → Flight) (nodes : List Node) (m : List Entry) (act : Act)
    → HeapFacts seats capacity 0 of nodes m → IsRemoval act → IsStep seats capacity m act Empty

-- A remover that sees no hole at the root and none at the last node draws: the root's insert, where the root is Busy,
-- its own removal of the root's entry, and the last node's insert, where that is Busy. The root is its hole, and it
-- has the last node's entry in hand.
abbrev pub DrawsAreSteps : Type 0
DrawsAreSteps = (seats capacity size seat : ℕ) (act : Act) (of of' : ℕ → Flight) (nodes : List Node) (m : List Entry)
    (e l : Entry)
    → HeapFacts seats capacity size of nodes m → 2 ≤ size → HasWord (node nodes 1) e → HasWord (node nodes size) l
    → MayGet act e → WaitsLess of of' (λ p. busy_of p (node nodes 1) + busy_of p (node nodes size))
    → StepsTo seats capacity (size - 1) of' (set (set nodes 1 (Hole l)) size EmptyNode) m
    (drawn_marks seat act e (node nodes 1) (node nodes size))

-- the same where the root is the last node
abbrev pub LastDrawsAreSteps : Type 0
LastDrawsAreSteps = (seats capacity seat : ℕ) (act : Act) (of of' : ℕ → Flight) (nodes : List Node) (m : List Entry)
    (e : Entry)
    → HeapFacts seats capacity 1 of nodes m → HasWord (node nodes 1) e → MayGet act e
    → WaitsLess of of' (λ p. busy_of p (node nodes 1))
    → StepsTo seats capacity 0 of' (set nodes 1 EmptyNode) m (last_marks seat act e (node nodes 1))

-- A remover that sees no hole at the root, and there a key that is not below its limit: the root's insert, where the
-- root is Busy, and Above.
abbrev pub AboveIsAStep : Type 0
AboveIsAStep = (seats capacity size seat limit : ℕ) (of of' : ℕ
    → Flight) (nodes : List Node) (m : List Entry) (e : Entry)
    → HeapFacts seats capacity size of nodes m → 1 ≤ size → HasWord (node nodes 1) e → limit ≤ e.key
    → WaitsLess of of' (λ p. busy_of p (node nodes 1))
    → StepsTo seats capacity size of' (set nodes 1 (Available e)) m (above_marks seat limit (node nodes 1))

-- the word of a child moves up into the hole, where its entry is below the one in hand and may stand over the other
-- child
abbrev pub SiftsKeep : Type 0
SiftsKeep = (seats capacity size : ℕ) (of : ℕ → Flight) (nodes : List Node) (m : List Entry) (h c d : ℕ) (x e : Entry)
    → HeapFacts seats capacity size of nodes m → node nodes h ≡ Hole x → c / 2 ≡ h → c + d ≡ 4 * h + 1
    → HasWord (node nodes c) e → raw_of e ≤ raw_of x → MayStandOver e (node nodes d)
    → HeapFacts seats capacity size of (set (set nodes h (node nodes c)) c (Hole x)) m

-- the entry in hand fills the hole, where it may stand over both children
abbrev pub FillsKeep : Type 0
FillsKeep = (seats capacity size : ℕ) (of : ℕ → Flight) (nodes : List Node) (m : List Entry) (h : ℕ) (x : Entry)
    → HeapFacts seats capacity size of nodes m → node nodes h ≡ Hole x → MayStandOver x (node nodes (2 * h))
    → MayStandOver x (node nodes (2 * h + 1)) → HeapFacts seats capacity size of (set nodes h (Available x)) m

-- a new heap
abbrev pub NewHeapsKeep : Type 0
NewHeapsKeep = (seats capacity : ℕ) (of : ℕ → Flight) → ((o : ℕ) → (of o).waiting ≡ 0)
    → HeapFacts seats capacity 0 of (replicate (capacity + 1) EmptyNode) []

-- where no insert waits, no node is Busy
abbrev pub QuietHeapsAreNotBusy : Type 0
QuietHeapsAreNotBusy = (seats capacity size : ℕ) (of : ℕ → Flight) (nodes : List Node) (m : List Entry)
    → HeapFacts seats capacity size of nodes m → ((o : ℕ) → (of o).waiting ≡ 0)
    → (i o : ℕ) (e : Entry) → node nodes i ≢ Busy o e

-- an owner whose place is drawn, and that has not taken its call over, has a letter
abbrev pub PlacedHaveLetters : Type 0
PlacedHaveLetters = (f : Flight) (climbing letters : ℕ)
    → IsClimbing f climbing letters → climbing ≡ 1 → f.waiting ≡ 0 → letters ≡ 1

-- a draw by another seat leaves an owner told, where that seat owes it a letter for each place drawn for it
abbrev pub DrawsTell : Type 0
DrawsTell = (of of' : ℕ → Flight) (less : ℕ → ℕ) (o climbing letters letters' : ℕ)
    → WaitsLess of of' less → IsClimbing (of o) climbing letters → letters' ≡ letters + less o
    → IsClimbing (of' o) climbing letters'

-- a draw of its own leaves it told, where it climbs no more
abbrev pub SettlesTell : Type 0
SettlesTell = (of of' : ℕ → Flight) (less : ℕ → ℕ) (o climbing climbing' letters : ℕ)
    → WaitsLess of of' less → IsClimbing (of o) climbing letters → climbing' + less o ≡ climbing
    → IsClimbing (of' o) climbing' letters

-- a word says one thing of its node
abbrev pub WordsMeanOneNode : Type 0
WordsMeanOneNode = (u v : Node) (word : ℕ) → Means u word → Means v word → u ≡ v
