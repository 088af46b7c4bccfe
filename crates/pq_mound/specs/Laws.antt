-- Laws of the mound's steps. In each, the facts hold before the step.
use Rattle.std.specs.Prelude.{◌≡◌, ◌≢◌, ℕ, ◌+◌, ◌*◌, ◌/◌, ◌<◌, ◌≤◌, List, [], ◌∷◌, ◌++◌, length, set, replicate, Some}
use Rattle.pq_words.specs.declared.entries.Entry.{Entry}
use Rattle.pq_words.specs.Entries.{raw_of}
use Rattle.pq_model.specs.Multiset.{add, least, without_least}
use Rattle.pq_mound.specs.declared.nodes.Cell.{Cell}
use Rattle.pq_mound.specs.declared.nodes.Node.{Node}
use Rattle.pq_mound.specs.declared.nodes.Node.TheVariants.{Resting, Hole, Joining}
use Rattle.pq_mound.specs.Nodes.{node, all_cells, numbers, cell}
use Rattle.pq_mound.specs.Order.{value_of, bound, MayJoin, behind, joined}
use Rattle.pq_mound.specs.Cells.{times, IsDealt}
use Rattle.pq_mound.specs.Chains.{first_or, IsChain, AreLinked}
use Rattle.pq_mound.specs.Facts.{MoundFacts}

-- the words of the one cell change, and no others
abbrev pub IsStoreTo : ℕ → (ℕ → ℕ) → (ℕ → ℕ) → Type 0
IsStoreTo k words words' = (j : ℕ) → j ≢ k → words' j ≡ words j

-- An insert that finds no free cell, with fewer cells held than there are seats, may answer Full
abbrev pub FullWhereNoneIsFree : Type 0
FullWhereNoneIsFree = (seats capacity : ℕ) (held : List ℕ) (nodes : List Node) (m : List Entry)
    → MoundFacts capacity [] held nodes m → length held < seats → capacity < length m + seats

-- An insert of e whose seat holds the cell k has its place, and there is room for it. The cell joins the list of the
-- node at its place: in front of the head or behind it
abbrev pub JoinsKeep : Type 0
JoinsKeep = (capacity : ℕ) (free held held' : List ℕ) (nodes : List Node) (m : List Entry) (i k : ℕ) (e : Entry)
    (list : List Cell)
    → MoundFacts capacity free held nodes m → 1 ≤ i → i < length nodes → node nodes i ≡ Resting list → MayJoin nodes i e
    → ((n : ℕ) → times n held ≡ times n (k ∷ held'))
    → (length m < capacity) × MoundFacts capacity free held' (set nodes i (joined list (cell k e))) (add e m)

-- The cell was linked, and the list is at rest
abbrev pub RestsKeep : Type 0
RestsKeep = (capacity : ℕ) (free held : List ℕ) (nodes : List Node) (m : List Entry) (i : ℕ) (front back : List Cell)
    (c : Cell)
    → MoundFacts capacity free held nodes m → 1 ≤ i → i < length nodes → node nodes i ≡ Joining front c back
    → MoundFacts capacity free held (set nodes i (Resting (front ++ c ∷ back))) m

-- The head of the root's list is the least entry, whoever has holes below
abbrev pub HeadsAreLeast : Type 0
HeadsAreLeast = (capacity : ℕ) (free held : List ℕ) (nodes : List Node) (m : List Entry) (c : Cell) (list : List Cell)
    → MoundFacts capacity free held nodes m → node nodes 1 ≡ Resting (c ∷ list) → least m ≡ Some c.entry

-- Where the root's list is empty, no entry is left
abbrev pub EmptyRootsHoldNone : Type 0
EmptyRootsHoldNone = (capacity : ℕ) (free held : List ℕ) (nodes : List Node) (m : List Entry)
    → MoundFacts capacity free held nodes m → node nodes 1 ≡ Resting [] → m ≡ []

-- A removal takes the head off the root's list, and holds its cell. The root is its hole
abbrev pub TakesKeep : Type 0
TakesKeep = (capacity : ℕ) (free held held' : List ℕ) (nodes : List Node) (m : List Entry) (c : Cell) (list : List Cell)
    → MoundFacts capacity free held nodes m → node nodes 1 ≡ Resting (c ∷ list)
    → ((n : ℕ) → times n held' ≡ times n (c.number ∷ held))
    → MoundFacts capacity free held' (set nodes 1 (Hole list)) (without_least m)

-- The lists of a hole and of one of its children change places, and the child is the hole. The child's value is not
-- above the hole's, and not above the other child's, which is no hole
abbrev pub SwapsKeep : Type 0
SwapsKeep = (capacity : ℕ) (free held : List ℕ) (nodes : List Node) (m : List Entry) (h c d : ℕ)
    (lower upper : List Cell)
    → MoundFacts capacity free held nodes m → 1 ≤ h → c < length nodes → c / 2 ≡ h → c + d ≡ 4 * h + 1
    → node nodes h ≡ Hole lower → node nodes c ≡ Resting upper → value_of upper ≤ value_of lower
    → value_of upper ≤ bound (node nodes d)
    → MoundFacts capacity free held (set (set nodes h (Resting upper)) c (Hole lower)) m

-- A hole ends where neither child's value is below its own, and neither is a hole. Where the children are past the last
-- node, nothing more is asked
abbrev pub EndsKeep : Type 0
EndsKeep = (capacity : ℕ) (free held : List ℕ) (nodes : List Node) (m : List Entry) (h : ℕ) (list : List Cell)
    → MoundFacts capacity free held nodes m → 1 ≤ h → h < length nodes → node nodes h ≡ Hole list
    → ((c : ℕ) → c / 2 ≡ h → c < length nodes → value_of list ≤ bound (node nodes c))
    → MoundFacts capacity free held (set nodes h (Resting list)) m

-- a new mound, of at least one node, with all cells free
abbrev pub NewMoundsKeep : Type 0
NewMoundsKeep = (capacity count : ℕ) (free : List ℕ) → 1 < count → IsDealt capacity [] free []
    → MoundFacts capacity free [] (replicate count (Resting [])) []

-- a cell changes hands between the free ones and a seat
abbrev pub HandsChange : Type 0
HandsChange = (capacity : ℕ) (free free' held held' : List ℕ) (nodes : List Node) (m : List Entry)
    → MoundFacts capacity free held nodes m
    → ((n : ℕ) → times n free + times n held ≡ times n free' + times n held')
    → MoundFacts capacity free' held' nodes m

-- A store to a cell that is in no list leaves the lists as they are linked
abbrev pub OwnStoresLink : Type 0
OwnStoresLink = (entries entries' nexts nexts' : ℕ → ℕ) (nodes : List Node) (k : ℕ)
    → AreLinked entries nexts nodes → times k (numbers (all_cells nodes)) ≡ 0
    → IsStoreTo k entries entries' → IsStoreTo k nexts nexts' → AreLinked entries' nexts' nodes

-- A cell that has its entry in its entry word, and leads to the first cell of a list that is not below the entry, may
-- join the list. In front of it no word of another cell is stored for that
abbrev pub JoinsLink : Type 0
JoinsLink = (entries nexts : ℕ → ℕ) (nodes : List Node) (i k : ℕ) (e : Entry) (list : List Cell)
    → AreLinked entries nexts nodes → i < length nodes → node nodes i ≡ Resting list
    → entries k ≡ raw_of e → nexts k ≡ first_or (numbers (behind e list)) 0
    → AreLinked entries nexts (set nodes i (joined list (cell k e)))

-- A cell that is joining behind another is linked by one store, to the next word of that one
abbrev pub StoresRest : Type 0
StoresRest = (capacity : ℕ) (free held : List ℕ) (entries nexts nexts' : ℕ → ℕ) (nodes : List Node) (i : ℕ)
    (front back : List Cell) (last c : Cell)
    → IsDealt capacity (numbers (all_cells nodes)) free held → AreLinked entries nexts nodes
    → i < length nodes → node nodes i ≡ Joining (front ++ last ∷ []) c back
    → IsStoreTo last.number nexts nexts' → nexts' last.number ≡ c.number + 1
    → AreLinked entries nexts' (set nodes i (Resting ((front ++ last ∷ []) ++ c ∷ back)))

-- Lists stay linked where the root's head is taken, where two lists change places, and where a hole ends
abbrev pub TakesLink : Type 0
TakesLink = (entries nexts : ℕ → ℕ) (nodes : List Node) (c : Cell) (list : List Cell)
    → AreLinked entries nexts nodes → 1 < length nodes → node nodes 1 ≡ Resting (c ∷ list)
    → AreLinked entries nexts (set nodes 1 (Hole list))

abbrev pub SwapsLink : Type 0
SwapsLink = (entries nexts : ℕ → ℕ) (nodes : List Node) (h c : ℕ) (lower upper : List Cell)
    → AreLinked entries nexts nodes → h ≢ c → h < length nodes → c < length nodes
    → node nodes h ≡ Hole lower → node nodes c ≡ Resting upper
    → AreLinked entries nexts (set (set nodes h (Resting upper)) c (Hole lower))

abbrev pub EndsLink : Type 0
EndsLink = (entries nexts : ℕ → ℕ) (nodes : List Node) (h : ℕ) (list : List Cell)
    → AreLinked entries nexts nodes → h < length nodes → node nodes h ≡ Hole list
    → AreLinked entries nexts (set nodes h (Resting list))

-- a chain of cells, as that of the free ones, is as it was after a store to a cell that is not on it
abbrev pub OtherStoresLeaveChains : Type 0
OtherStoresLeaveChains = (nexts nexts' : ℕ → ℕ) (k last : ℕ) (ns : List ℕ)
    → IsChain nexts ns last → times k ns ≡ 0 → IsStoreTo k nexts nexts' → IsChain nexts' ns last
