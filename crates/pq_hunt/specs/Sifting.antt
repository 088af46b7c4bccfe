-- What a remover has to hold where it sifts its hole down.
use Rattle.std.specs.Prelude.{◌≡◌, ◌⊎◌, ℕ, ◌+◌, ◌*◌, ◌<◌, ◌≤◌, List, [], ◌∷◌}
use Rattle.std.specs.Prelude.{Contains}
use Rattle.pq_words.specs.declared.entries.Entry.{Entry}
use Rattle.pq_words.specs.Entries.{raw_of}
use Rattle.pq_words.specs.Limits.{raw_limit}
use Rattle.pq_seats.specs.declared.views.View.{View}
use Rattle.pq_hunt.specs.declared.nodes.Node.{Node}
use Rattle.pq_hunt.specs.declared.nodes.Node.TheVariants.{Empty, Available, Busy, Hole}
use Rattle.pq_hunt.specs.Order.{HasWord, MayStandOver}
use Rattle.pq_hunt.specs.Guards.{Guard}
use Rattle.pq_hunt.specs.declared.views.HuntPart.{HuntPart}
use Rattle.pq_hunt.specs.Words.{Means}
use Rattle.pq_nodes.specs.Views.{guard, AreOthers}
use Rattle.pq_hunt.specs.HeldPosts.{IsHolding, Leaves}

-- An entry may stand over a node: one past the end, or one whose guard says so
abbrev pub MayStand : ℕ → HuntPart → ℕ → Entry → Type 0
MayStand capacity v node e = (capacity < node) ⊎ ((g : Guard) × Contains v.guards g × (g.node ≡ node) ×
    MayStandOver e g.counted)

-- The entry in hand may stand over both children
pub record CanFill (capacity : ℕ) (v : View HuntPart) (hole : ℕ) : Type 0 where
  pub first : Guard
  pub others : List Guard
  pub guards : v.post.own.guards ≡ first ∷ others
  pub is : first.node ≡ hole
  pub hand : Entry
  pub in_hand : first.counted ≡ Hole hand
  pub over_left : MayStand capacity v.post.own (2 * hole) hand
  pub over_right : MayStand capacity v.post.own (2 * hole + 1) hand

-- a number that a node's entry is compared by: one above all entries' where the node is Empty
abbrev pub IsRank : Node → ℕ → Type 0
IsRank Empty rank = rank ≡ raw_limit
IsRank (Available e) rank = rank ≡ raw_of e
IsRank (Busy o e) rank = rank ≡ raw_of e
IsRank (Hole e) rank = ⊥

-- The first guard is of the hole, and the entry in hand may stand over both children
pub record CanFillFirst (capacity : ℕ) (v : View HuntPart) (hole : ℕ) (hand : Entry)
    (others : List Guard) : Type 0 where
  pub word : ℕ
  pub holds : IsHolding v (guard hole word (Hole hand) ∷ others)
  pub apart : AreOthers hole others
  pub over_left : MayStand capacity v.post.own (2 * hole) hand
  pub over_right : MayStand capacity v.post.own (2 * hole + 1) hand

-- The second guard is of the left child, whose word may go up into the hole
pub record CanRiseLeft (capacity : ℕ) (v : View HuntPart) (hole word : ℕ) (hand : Entry) (left : Node)
    (others : List Guard) : Type 0 where
  pub hole_word : ℕ
  pub holds : IsHolding v (guard hole hole_word (Hole hand) ∷ guard (2 * hole) word left ∷ others)
  pub apart : AreOthers hole others
  pub means : Means left word
  pub entry : Entry
  pub has : HasWord left entry
  pub under : raw_of entry ≤ raw_of hand
  pub over : MayStand capacity v.post.own (2 * hole + 1) entry

-- The seat holds the hole and both children, which count as their words say
pub record AtTwo (v : View HuntPart) (hole : ℕ) (hand : Entry) (left_word : ℕ) (left : Node) (right_word : ℕ)
    (right : Node) : Type 0 where
  pub word : ℕ
  pub holds : IsHolding v (guard hole word (Hole hand) ∷ guard (2 * hole) left_word left
      ∷ guard (2 * hole + 1) right_word right ∷ [])
  pub left_means : Means left left_word
  pub right_means : Means right right_word

-- the node has an entry not above that in hand, which may stand over the other node
pub record IsLeast (hand : Entry) (child other : Node) : Type 0 where
  pub entry : Entry
  pub has : HasWord child entry
  pub under : raw_of entry ≤ raw_of hand
  pub over : MayStandOver entry other

-- A turn filled the hole, and the seat holds no lock. Or it moved the hole down, and the seat holds the new hole's
abbrev pub Sifted : ℕ → View HuntPart → View HuntPart → ℕ → Entry → ℕ → Type 0
Sifted capacity v w hole hand next = ((next ≡ 0) × Leaves v w [])
    ⊎ ((hole < next) × (next ≤ capacity) × ((word : ℕ) × Leaves v w (guard next word (Hole hand) ∷ [])))
