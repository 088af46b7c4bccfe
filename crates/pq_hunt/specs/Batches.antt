-- What a draw of the heap places, by the view of the seat that draws, and what that seat's view names behind it.
use Rattle.std.specs.Prelude.{ℕ, zero, suc, ◌-◌, nat_le, List, [], ◌∷◌}
use mathlib.Core.Bool.{cond}
use Rattle.pq_words.specs.declared.entries.Entry.{Entry}
use Rattle.pq_model.specs.declared.marks.Act.{Act}
use Rattle.pq_model.specs.declared.marks.Act.TheVariants.{Insert, Remove, RemoveBelow}
use Rattle.pq_model.specs.declared.marks.Reply.TheVariants as replies
use Rattle.pq_model.specs.EntryWords.{entry_of}
use Rattle.pq_seats.specs.Batches.{Batch}
use Rattle.pq_hunt.specs.declared.nodes.Node.{Node}
use Rattle.pq_hunt.specs.declared.nodes.Node.TheVariants.{Empty, Available, Busy, Hole}
use Rattle.pq_hunt.specs.Guards.{Guard}
use Rattle.pq_hunt.specs.declared.views.HuntPart.{HuntPart}
use Rattle.pq_nodes.specs.Views.{guard}
use Rattle.pq_hunt.specs.Views.{with_guards}

-- the entry that a node holds, and that with the least number where it holds none
abbrev pub entry_at : Node → Entry
entry_at Empty = entry_of 0 0
entry_at (Available e) = e
entry_at (Busy o e) = e
entry_at (Hole e) = e

-- the insert in flight whose entry a node holds, where it is Busy: the owner, and the entry
abbrev pub flight_at : Node → List (ℕ × Entry)
flight_at Empty = []
flight_at (Available e) = []
flight_at (Busy o e) = (o, e) ∷ []
flight_at (Hole e) = []

-- that of the first of these guards' nodes
abbrev pub flight_in : List Guard → List (ℕ × Entry)
flight_in [] = []
flight_in (g ∷ gs) = flight_at g.counted

-- A removal by a seat that guards no node finds no entry. Else the seat guards the root and, where that is another, the
-- last node. It places the root's insert in flight, its own removal of the root's entry, and the last node's insert in
-- flight.
abbrev pub removal : List Guard → Batch
removal [] = record { before = []; reply = replies.Empty; after = [] }
removal (root ∷ others) = record {
  before = flight_at root.counted;
  reply = replies.Got (entry_at root.counted);
  after = flight_in others;
}

-- a removal below a limit, which finds the root's key there or above, takes nothing. It too places the root's insert
abbrev pub removal_below : ℕ → List Guard → Batch
removal_below limit [] = record { before = []; reply = replies.Empty; after = [] }
removal_below limit (root ∷ others) = cond (nat_le limit (entry_at root.counted).key)
    (record { before = flight_at root.counted; reply = replies.Above; after = [] })
    (removal (root ∷ others))

-- an insert that has no entry in flight finds the heap full, and else is done
abbrev pub insertion : ℕ → Batch
insertion zero = record { before = []; reply = replies.Full; after = [] }
insertion (suc climbing) = record { before = []; reply = replies.Done; after = [] }

abbrev pub hunt_batch : HuntPart → Act → Batch
hunt_batch v (Insert e) = insertion v.climbing
hunt_batch v Remove = removal v.guards
hunt_batch v (RemoveBelow limit) = removal_below limit v.guards

-- the node of the last guard is Available: the entry that it holds has its place
abbrev pub settled : List Guard → List Guard
settled [] = []
settled (g ∷ []) = guard g.node g.stored (Available (entry_at g.counted)) ∷ []
settled (g ∷ h ∷ gs) = g ∷ settled (h ∷ gs)

-- The root's entry is gone. Where the root was the only node, it is Empty. Else the last node is, and the root is a
-- hole with that node's entry in hand
abbrev pub emptied : List Guard → List Guard
emptied [] = []
emptied (root ∷ []) = guard root.node root.stored Empty ∷ []
emptied (root ∷ last ∷ gs) =
    guard root.node root.stored (Hole (entry_at last.counted)) ∷ guard last.node last.stored Empty ∷ gs

-- the view of a seat whose insert found the heap full, or was done
abbrev pub after_insert : ℕ → HuntPart → HuntPart
after_insert zero v = v
after_insert (suc climbing) v = record v { guards = settled v.guards; place = 0; climbing = 0 }

abbrev pub after_removal : HuntPart → HuntPart
after_removal v = record v { guards = emptied v.guards; size_counted = v.size_counted - 1 }

abbrev pub after_removal_below : ℕ → List Guard → HuntPart → HuntPart
after_removal_below limit [] v = v
after_removal_below limit (root ∷ others) v = cond (nat_le limit (entry_at root.counted).key)
    (with_guards v (settled v.guards)) (after_removal v)

abbrev pub after_draw : HuntPart → Act → HuntPart
after_draw v (Insert e) = after_insert v.climbing v
after_draw v Remove = after_removal v
after_draw v (RemoveBelow limit) = after_removal_below limit v.guards v
