-- What the heap's own steps on its table tell of the seat that made them.
use Rattle.std.specs.Prelude.{◌≡◌, ◌≢◌, ℕ, ◌/◌, true, List, [], ◌∷◌, Contains, Some}
use Rattle.atomic_table.specs.Table.{Me, Step}
use Rattle.pq_words.specs.declared.entries.Entry.{Entry}
use Rattle.pq_words.specs.declared.heap_words.Tag.TheVariants as tags
use Rattle.pq_words.specs.HeapWords.{heap_number}
use Rattle.pq_seats.specs.declared.views.Post.{Post}
use Rattle.pq_seats.specs.declared.views.View.{View}
use Rattle.pq_seats.specs.Views.{with_post}
use Rattle.pq_hunt.specs.declared.nodes.Node.TheVariants.{Empty, Available, Busy}
use Rattle.pq_hunt.specs.Guards.{Guard}
use Rattle.pq_hunt.specs.declared.views.HuntPart.{HuntPart}
use Rattle.pq_nodes.specs.Layout.{word_of}
use Rattle.pq_hunt.specs.Words.{Means}
use Rattle.pq_nodes.specs.Views.{exchanged, refilled}
use Rattle.pq_hunt.specs.Batches.{entry_at}
use Rattle.pq_nodes.specs.Parts.{guarding}
use Rattle.pq_hunt.specs.NodeParts.{hunt_nodes}

-- the node of the first guard, and what it counts as
abbrev pub first_node : List Guard → ℕ
first_node [] = 0
first_node (g ∷ gs) = g.node

abbrev pub first_entry : List Guard → Entry
first_entry [] = entry_at Empty
first_entry (g ∷ gs) = entry_at g.counted

-- the word of a Busy node
abbrev pub busy_number : ℕ → Entry → ℕ
busy_number owner e = heap_number (record { tag = tags.Busy; owner = owner; entry = e })

-- the size was stored
abbrev pub sizing : Post HuntPart → ℕ → Post HuntPart
sizing p x = record p { own = record p.own { size_stored = x } }

-- a new leaf was made Busy: the insert of e is in flight
abbrev pub leafed : Post HuntPart → ℕ → Entry → Post HuntPart
leafed p x e = record p {
  flight = Some e;
  own = record p.own {
    guards = refilled x (Busy p.number e) p.own.guards;
    size_counted = first_node p.own.guards;
    place = first_node p.own.guards;
    climbing = 1;
  };
}

-- the insert has climbed to the first guard's node
abbrev pub climbed : Post HuntPart → Post HuntPart
climbed p = record p { own = record p.own { guards = exchanged p.own.guards; place = first_node p.own.guards } }

-- its owner looks for it at the parent next
abbrev pub looking : Post HuntPart → Post HuntPart
looking p = record p { own = record p.own { place = p.own.place / 2 } }

-- and has found it gone from the root
abbrev pub missing : Post HuntPart → Post HuntPart
missing p = record p { own = record p.own { lettered = true } }

module _ (st : Step (Unit {0})) (m : Me (Unit {0}) (View HuntPart)) (found : ℕ)
    (m' : Me (Unit {0}) (View HuntPart)) where
  -- the size is as the view names it
  abbrev pub looks_at_size : Type 0
  looks_at_size = (m' ≡ m) × (found ≡ m.0.post.own.size_stored)

  abbrev pub stores_size : Type 0
  stores_size = m' ≡ (with_post m.0 (sizing m.0.post st.first), m.1)

  abbrev pub leafs : Type 0
  leafs = (e : Entry) → Means (Busy m.0.post.number e) st.first → m' ≡ (with_post m.0 (leafed m.0.post st.first e), m.1)

  abbrev pub climbs : Type 0
  climbs = m' ≡ (with_post m.0 (climbed m.0.post), m.1)

  abbrev pub fills : Type 0
  fills = m' ≡ (
    with_post m.0 (guarding hunt_nodes m.0.post
        (refilled st.first (Available (first_entry m.0.post.own.guards)) m.0.post.own.guards)),
    m.1,
  )

  -- the seat finds its entry where it looks for it, or looks at the parent next
  abbrev pub finds : Type 0
  finds = ((g : Guard) → Contains m.0.post.own.guards g → word_of g.node ≡ st.word → found ≡ g.stored)
      × ((e : Entry) → m.0.post.flight ≡ Some e
      → (found ≡ busy_number m.0.post.number e → m' ≡ m)
      × (found ≢ busy_number m.0.post.number e → m' ≡ (with_post m.0 (looking m.0.post), m.1)))

  -- the seat finds its entry at the root, or has its letter
  abbrev pub finds_at_root : Type 0
  finds_at_root = ((g : Guard) → Contains m.0.post.own.guards g → word_of g.node ≡ st.word → found ≡ g.stored)
      × ((e : Entry) → m.0.post.flight ≡ Some e
      → (found ≡ busy_number m.0.post.number e → m' ≡ m)
      × (found ≢ busy_number m.0.post.number e → m' ≡ (with_post m.0 (missing m.0.post), m.1)))
