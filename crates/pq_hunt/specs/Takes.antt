-- What a remover has taken.
use Rattle.std.specs.Prelude.{◌≡◌, ℕ, ◌-◌, ◌≤◌, ◌<◌, [], ◌∷◌, length, Option, Some, None}
use Rattle.pq_words.specs.declared.entries.Entry.{Entry}
use Rattle.pq_words.specs.declared.heap_words.HeapWord.{HeapWord}
use Rattle.pq_words.specs.HeapWords.{heap_number}
use Rattle.pq_model.specs.declared.marks.Act.{Act}
use Rattle.pq_model.specs.declared.marks.Act.TheVariants.{RemoveBelow}
use Rattle.pq_model.specs.declared.marks.Reply.{Reply}
use Rattle.pq_model.specs.declared.marks.Reply.TheVariants as replies
use Rattle.pq_api.specs.Limits.{call_limit}
use Rattle.pq_api.specs.Answers.{MakesCall}
use Rattle.pq_seats.specs.declared.shared.Shared.{Shared}
use Rattle.pq_seats.specs.declared.shared.SeatPass.{SeatPass}
use Rattle.pq_seats.specs.Views.{empty_post}
use Rattle.pq_seats.specs.Passes.{limits_of, view_of, known, IsInformed}
use Rattle.pq_hunt.specs.Marks.{MayGet}
use Rattle.pq_hunt.specs.Words.{node_of}
use Rattle.pq_hunt.specs.declared.remove.Taken.{Taken}
use Rattle.pq_hunt.specs.declared.remove.Taken.TheVariants as takes
use Rattle.pq_hunt.specs.declared.views.HuntPart.{HuntPart}
use Rattle.pq_hunt.specs.declared.nodes.Node.TheVariants.{Empty, Hole}
use Rattle.pq_nodes.specs.Views.{guard}
use Rattle.pq_hunt.specs.Views.{idle}
use Rattle.pq_hunt.specs.HeldPosts.{at_hole, removing, saying}
use Rattle.pq_words.specs.HeapWords.{FitsHeapWord}
use Rattle.pq_hunt.specs.declared.nodes.Node.{Node}
use Rattle.pq_hunt.specs.declared.nodes.Node.TheVariants.{Busy}
use Rattle.pq_hunt.specs.Order.{HasWord}

-- the word is one that a node may have, and says that the node has an entry
pub record IsUsed (word : HeapWord) : Type 0 where
  pub fits : FitsHeapWord word
  pub has : HasWord (node_of word) word.entry

-- no owner has both nodes Busy
abbrev pub AreApart : Node → Node → Type 0
AreApart r l = (o : ℕ) (e d : Entry) → r ≡ Busy o e → l ≡ Busy o d → ⊥

-- a removal takes nothing of an entry with its key at this limit or above it, and may else take it
abbrev pub IsBarred : Act → Entry → Option ℕ → Type 0
IsBarred act e (Some limit) = (act ≡ RemoveBelow limit) × (limit ≤ e.key)
IsBarred act e None = MayGet act e

-- A removal may take the root's entry, and has not drawn its place. The seat holds the lock over the size, that of the
-- root and that of the last node, which is another. These are the words of the two nodes, which are not Busy for one
-- and the same owner. The pass may make one call more.
pub record MayGetRoot {R : Type 0} (q : Shared R HuntPart) (p : SeatPass R HuntPart) (act : Act) (size : ℕ)
    (root last : HeapWord) : Type 0 where
  pub many : 2 ≤ size
  pub within : size ≤ (limits_of q).capacity
  pub root_used : IsUsed root
  pub last_used : IsUsed last
  pub apart : AreApart (node_of root) (node_of last)
  pub may : MayGet act root.entry
  pub post : (view_of p).post ≡ removing p.number [] size size (saying 1 root ∷ saying size last ∷ [])
  pub few : length (known p).calls < call_limit - 1

module _ {R : Type 0} (q : Shared R HuntPart) (p p' : SeatPass R HuntPart) (act : Act) where
  -- the removal was answered at this place, and the seat holds nothing
  pub record IsAnswered (place : ℕ) (reply : Reply) : Type 0 where
    pub rests : (view_of p').post ≡ empty_post idle p.number
    pub call : MakesCall (known p) place act reply (known p')
    pub knows : IsInformed q p'

  -- The removal was answered at this place with the root's entry, and no letter is owed. The root is a hole with the
  -- last node's entry in hand, and the last node is Empty
  pub record IsPlaced (root last : HeapWord) (size place : ℕ) : Type 0 where
    pub placed : (view_of p').post ≡ removing p.number [] (size - 1) (size - 1)
        (guard 1 (heap_number root) (Hole last.entry) ∷ guard size 0 Empty ∷ [])
    pub call : MakesCall (known p) place act (replies.Got root.entry) (known p')
    pub knows : IsInformed q p'

  -- the removal was answered at this place, and the seat holds the root's lock alone: the root is a hole with this
  -- entry in hand
  pub record IsOpened (got : Entry) (place : ℕ) (hand : Entry) : Type 0 where
    pub word : ℕ
    pub opened : (view_of p').post ≡ at_hole p.number 1 word hand
    pub call : MakesCall (known p) place act (replies.Got got) (known p')
    pub knows : IsInformed q p'

  abbrev pub HasTaken : Taken → Type 0
  HasTaken (takes.Empty place) = IsAnswered place replies.Empty
  HasTaken (takes.Above place) = (limit : ℕ) × (act ≡ RemoveBelow limit) × IsAnswered place replies.Above
  HasTaken (takes.Last got place) = MayGet act got × IsAnswered place (replies.Got got)
  HasTaken (takes.Sift got place hand) = MayGet act got × IsOpened got place hand
