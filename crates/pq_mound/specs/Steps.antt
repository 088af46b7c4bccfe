-- What the mound's own steps on its table tell of the seat that made them.
use Rattle.std.specs.Prelude.{◌≡◌, ◌≤◌, ℕ, List, ◌∷◌, Some, None}
use Rattle.atomic_table.specs.Table.{Me, Step}
use Rattle.pq_seats.specs.declared.views.Post.{Post}
use Rattle.pq_seats.specs.declared.views.View.{View}
use Rattle.pq_seats.specs.Views.{with_post}
use Rattle.pq_mound.specs.declared.views.MoundPart.{MoundPart}
use Rattle.pq_mound.specs.declared.views.OwnCell.{OwnCell}
use Rattle.pq_mound.specs.Chains.{first_or}
use Rattle.pq_mound.specs.Views.{own_cell}

-- the count of the free cells was stored
abbrev pub counting : Post MoundPart → ℕ → Post MoundPart
counting p x = record p { own = record p.own { count = x } }

-- the first free cell was taken off, and the seat holds it: it has these words
abbrev pub taking : Post MoundPart → ℕ → List ℕ → ℕ → ℕ → Post MoundPart
taking p number rest entry next =
    record p { own = record p.own { free = rest; held = Some (own_cell number entry next) } }

-- the cell that the seat held was given back, and is the first free one
abbrev pub giving : Post MoundPart → ℕ → Post MoundPart
giving p number = record p { own = record p.own { free = number ∷ p.own.free; held = None } }

-- a word of the cell that the seat holds was stored: the cell has these
abbrev pub keeping : Post MoundPart → ℕ → ℕ → ℕ → Post MoundPart
keeping p number entry next = record p { own = record p.own { held = Some (own_cell number entry next) } }

module _ (st : Step (Unit {0})) (m : Me (Unit {0}) (View MoundPart)) (found : ℕ)
    (m' : Me (Unit {0}) (View MoundPart)) where
  -- the count is as the view names it, and so is the first free cell, which is one of the cells
  abbrev pub looks_at_count : Type 0
  looks_at_count = (m' ≡ m) × (found ≡ m.0.post.own.count)

  abbrev pub looks_at_free : Type 0
  looks_at_free = (m' ≡ m) × (found ≡ first_or m.0.post.own.free 0) × (found ≤ m.0.limits.capacity)

  abbrev pub stores_count : Type 0
  stores_count = m' ≡ (with_post m.0 (counting m.0.post st.first), m.1)

  -- the word next to the first free cell leads to the rest of them
  abbrev pub looks_at_next : Type 0
  looks_at_next = (m' ≡ m) × ((rest : List ℕ) (n : ℕ) → m.0.post.own.free ≡ n ∷ rest → found ≡ first_or rest 0)

  abbrev pub takes_off : Type 0
  takes_off = (rest : List ℕ) (n : ℕ) → m.0.post.own.free ≡ n ∷ rest
      → (entry : ℕ) × (m' ≡ (with_post m.0 (taking m.0.post n rest entry st.first), m.1))

  abbrev pub gives : Type 0
  gives = (o : OwnCell) → m.0.post.own.held ≡ Some o → m' ≡ (with_post m.0 (giving m.0.post o.number), m.1)

  -- the word that leads on from the cell that the seat holds was stored, or its entry word
  abbrev pub stores_next : Type 0
  stores_next = (o : OwnCell) → m.0.post.own.held ≡ Some o
      → m' ≡ (with_post m.0 (keeping m.0.post o.number o.entry st.first), m.1)

  abbrev pub stores_entry : Type 0
  stores_entry = (o : OwnCell) → m.0.post.own.held ≡ Some o
      → m' ≡ (with_post m.0 (keeping m.0.post o.number st.first o.next), m.1)
