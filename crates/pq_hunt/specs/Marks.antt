-- The marks that one step of a remover places.
use Rattle.std.specs.Prelude.{ℕ, ◌<◌, List, [], ◌∷◌, ◌++◌}
use Rattle.pq_words.specs.declared.entries.Entry.{Entry}
use Rattle.pq_model.specs.declared.marks.Act.{Act}
use Rattle.pq_model.specs.declared.marks.Act.TheVariants.{Insert, Remove, RemoveBelow}
use Rattle.pq_model.specs.declared.marks.Reply.TheVariants.{Done, Got, Above}
use Rattle.pq_model.specs.declared.marks.Mark.{Mark}
use Rattle.pq_model.specs.History.{mark}
use Rattle.pq_hunt.specs.declared.nodes.Node.{Node}
use Rattle.pq_hunt.specs.declared.nodes.Node.TheVariants.{Empty, Available, Busy, Hole}

-- the act removes
abbrev pub IsRemoval : Act → Type 0
IsRemoval (Insert x) = ⊥
IsRemoval Remove = Unit {0}
IsRemoval (RemoveBelow limit) = Unit {0}

-- the act may remove this entry: any, or one whose key is below the limit
abbrev pub MayGet : Act → Entry → Type 0
MayGet (Insert x) e = ⊥
MayGet Remove e = Unit {0}
MayGet (RemoveBelow limit) e = e.key < limit

-- the owner's insert of the node's entry, where the node is Busy
abbrev pub helped_mark : Node → List Mark
helped_mark Empty = []
helped_mark (Available e) = []
helped_mark (Busy o e) = mark o (Insert e) Done ∷ []
helped_mark (Hole e) = []

-- the root's insert, the removal of the root's entry, and the insert of the last node's entry
abbrev pub drawn_marks : ℕ → Act → Entry → Node → Node → List Mark
drawn_marks seat act e root last = helped_mark root ++ (mark seat act (Got e) ∷ helped_mark last)

-- the same where the root is the last node
abbrev pub last_marks : ℕ → Act → Entry → Node → List Mark
last_marks seat act e root = helped_mark root ++ mark seat act (Got e) ∷ []

-- the root's insert, and that no key is below the limit
abbrev pub above_marks : ℕ → ℕ → Node → List Mark
above_marks seat limit root = helped_mark root ++ mark seat (RemoveBelow limit) Above ∷ []
