-- What a draw of the mound places, by the view of the seat that draws, and what that seat's view names behind it.
use Rattle.std.specs.Prelude.{ℕ, nat_le, List, [], ◌∷◌, Option, Some, None}
use mathlib.Core.Bool.{cond}
use Rattle.pq_words.specs.declared.entries.Entry.{Entry}
use Rattle.pq_words.specs.Entries.{raw_of}
use Rattle.pq_model.specs.declared.marks.Act.{Act}
use Rattle.pq_model.specs.declared.marks.Act.TheVariants.{Insert, Remove, RemoveBelow}
use Rattle.pq_model.specs.declared.marks.Reply.{Reply}
use Rattle.pq_model.specs.declared.marks.Reply.TheVariants as replies
use Rattle.pq_seats.specs.Batches.{Batch}
use Rattle.pq_nodes.specs.Views.{guard}
use Rattle.pq_mound.specs.declared.nodes.Cell.{Cell}
use Rattle.pq_mound.specs.declared.nodes.Node.{Node}
use Rattle.pq_mound.specs.declared.nodes.Node.TheVariants.{Resting, Hole, Joining}
use Rattle.pq_mound.specs.declared.views.OwnCell.{OwnCell}
use Rattle.pq_mound.specs.declared.views.MoundPart.{MoundPart}
use Rattle.pq_mound.specs.Nodes.{cells, numbers, cell}
use Rattle.pq_mound.specs.Order.{joined}
use Rattle.pq_mound.specs.Chains.{first_or}
use Rattle.pq_mound.specs.Views.{Guard, own_cell, with_guards, holding}

-- the list of the first guard's node, which at a removal is the root
abbrev pub first_list : List Guard → List Cell
first_list [] = []
first_list (g ∷ gs) = cells g.counted

-- what a removal finds at the root, and what one below a limit does, which takes nothing of a key at the limit or above
abbrev pub removed : List Cell → Reply
removed [] = replies.Empty
removed (c ∷ list) = replies.Got c.entry

abbrev pub removed_below : ℕ → List Cell → Reply
removed_below limit [] = replies.Empty
removed_below limit (c ∷ list) = cond (nat_le limit c.entry.key) replies.Above (replies.Got c.entry)

-- an insert whose seat has no cell found none free
abbrev pub inserted : Option OwnCell → Reply
inserted None = replies.Full
inserted (Some c) = replies.Done

abbrev pub reply_of : MoundPart → Act → Reply
reply_of v (Insert e) = inserted v.held
reply_of v Remove = removed (first_list v.guards)
reply_of v (RemoveBelow limit) = removed_below limit (first_list v.guards)

-- a draw of the mound places the own mark alone
abbrev pub batch_of : MoundPart → Act → Batch
batch_of v act = record { before = []; reply = reply_of v act; after = [] }

-- a cell joins the list of a node that is at rest
abbrev pub joining : Cell → Node → Node
joining c (Resting list) = joined list c
joining c (Hole list) = Hole list
joining c (Joining before d behind) = Joining before d behind

-- that of the node of the last guard
abbrev pub last_joined : Cell → List Guard → List Guard
last_joined c [] = []
last_joined c (g ∷ []) = guard g.node g.stored (joining c g.counted) ∷ []
last_joined c (g ∷ h ∷ gs) = g ∷ last_joined c (h ∷ gs)

-- the view of a seat whose insert of e found no free cell, or has its place: its cell joins a list
abbrev pub after_insert : Entry → Option OwnCell → MoundPart → MoundPart
after_insert e None v = v
after_insert e (Some c) v = holding (with_guards v (last_joined (cell c.number e) v.guards)) None

-- the node of the first guard, the root, is a hole with this list
abbrev pub first_hole : List Cell → List Guard → List Guard
first_hole list [] = []
first_hole list (g ∷ gs) = guard g.node g.stored (Hole list) ∷ gs

-- the view of a seat whose removal took the head of the root's list: it holds that cell
abbrev pub after_removal : List Cell → MoundPart → MoundPart
after_removal [] v = v
after_removal (c ∷ list) v = holding (with_guards v (first_hole list v.guards))
    (Some (own_cell c.number (raw_of c.entry) (first_or (numbers list) 0)))

abbrev pub after_removal_below : ℕ → List Cell → MoundPart → MoundPart
after_removal_below limit [] v = v
after_removal_below limit (c ∷ list) v = cond (nat_le limit c.entry.key) v (after_removal (c ∷ list) v)

abbrev pub after_draw : MoundPart → Act → MoundPart
after_draw v (Insert e) = after_insert e v.held v
after_draw v Remove = after_removal (first_list v.guards) v
after_draw v (RemoveBelow limit) = after_removal_below limit (first_list v.guards) v
