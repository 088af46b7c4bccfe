-- What the loads and stores of nodes' words tell of the seat that made them.
use Rattle.std.specs.Prelude.{◌≡◌, ◌≤◌, ℕ, Contains}
use Rattle.atomic_table.specs.Table.{Me, Step}
use Rattle.pq_seats.specs.declared.views.View.{View}
use Rattle.pq_seats.specs.Views.{with_post}
use Rattle.pq_seats.specs.Laws.{history_limit}
use Rattle.pq_nodes.specs.declared.guards.Guard.{Guard}
use Rattle.pq_nodes.specs.Layout.{word_of}
use Rattle.pq_nodes.specs.Views.{restored, exchanged, exchanged_third}
use Rattle.pq_nodes.specs.Parts.{NodePart, guarding}

module _ {O N : Type 0} (P : NodePart O N) (st : Step (Unit {0})) (m : Me (Unit {0}) (View O)) (found : ℕ)
    (m' : Me (Unit {0}) (View O)) where
  -- the word of a guarded node is as the view names it
  abbrev pub sees_word : Type 0
  sees_word = (m' ≡ m)
      × ((g : Guard N) → Contains (P.guards m.0.post.own) g → word_of g.node ≡ st.word → found ≡ g.stored)
      × P.shows m.0.post

  -- what the seat has seen of the history is no longer than a history can be
  abbrev pub stores_word : Type 0
  stores_word = (m' ≡ (with_post m.0 (guarding P m.0.post (restored st.word st.first (P.guards m.0.post.own))), m.1))
      × (m.0.front ≤ history_limit)

  -- the word of a child went up into the hole
  abbrev pub raises_second : Type 0
  raises_second = m' ≡ (with_post m.0 (guarding P m.0.post (exchanged (P.guards m.0.post.own))), m.1)

  abbrev pub raises_third : Type 0
  raises_third = m' ≡ (with_post m.0 (guarding P m.0.post (exchanged_third (P.guards m.0.post.own))), m.1)
