-- A remover's hole and a child of it change what they count as, by the store of the child's word in the hole's.
use Rattle.std.specs.Prelude.{◌≡◌, ℕ, List, ◌∷◌}
use Rattle.pq_model.specs.History.{left}
use Rattle.pq_seats.specs.declared.views.Limits.{Limits}
use Rattle.pq_seats.specs.declared.views.View.{View}
use Rattle.pq_seats.specs.Rules.{Table, Rule, TiedAfter, Holds, Stands}
use Rattle.pq_nodes.specs.declared.guards.Guard.{Guard}
use Rattle.pq_nodes.specs.Layout.{word_of}
use Rattle.pq_nodes.specs.Views.{exchanged, exchanged_third}
use Rattle.pq_nodes.specs.Parts.{NodePart, guarding}

module _ {O N : Type 0} (R : Rule O) (P : NodePart O N) (k : Limits) (id : ℕ) (v : View O) where
  -- What the queue has to show of the step: in each state in which its rule holds, it holds too once the child's word
  -- is stored in the hole's, and the view has these guards
  abbrev pub MayRaise : Guard N → Guard N → List (Guard N) → Type 0
  MayRaise hole child guards = (s : Table O) (h : Holds R k s) → Stands R s id v
      → TiedAfter R k s (word_of hole.node) child.stored id (guarding P v.post guards) (left h.history)

  -- the first guard is of the hole, and the second of the child with this word
  pub record CanRaiseSecond (hole word : ℕ) : Type 0 where
    pub first : Guard N
    pub child : Guard N
    pub others : List (Guard N)
    pub guards : P.guards v.post.own ≡ first ∷ child ∷ others
    pub is : first.node ≡ hole
    pub stored : word ≡ child.stored
    pub allowed : MayRaise first child (exchanged (P.guards v.post.own))

  -- the first guard is of the hole, and the third of the child with this word
  pub record CanRaiseThird (hole word : ℕ) : Type 0 where
    pub first : Guard N
    pub second : Guard N
    pub child : Guard N
    pub others : List (Guard N)
    pub guards : P.guards v.post.own ≡ first ∷ second ∷ child ∷ others
    pub is : first.node ≡ hole
    pub stored : word ≡ child.stored
    pub allowed : MayRaise first child (exchanged_third (P.guards v.post.own))
