-- What ties the heap's words, the seats' posts and the multiset together, between any two steps.
use Rattle.std.specs.Prelude.{◌≡◌, ◌≢◌, ◌⊎◌, ℕ, ◌<◌, ◌≤◌, true, List, [], length, slice_index, Some}
use Rattle.std.specs.Prelude.{None, Contains}
use mathlib.Core.Option.{some}
use lib.ListN.{get_elem?}
use Rattle.pq_words.specs.declared.entries.Entry.{Entry}
use Rattle.pq_model.specs.Limits.{max_seats}
use Rattle.pq_seats.specs.declared.views.Limits.{Limits}
use Rattle.pq_seats.specs.declared.views.Post.{Post}
use Rattle.pq_seats.specs.Letters.{back, letter_count}
use Rattle.pq_nodes.specs.Facts.{NodeFacts}
use Rattle.pq_hunt.specs.declared.nodes.Node.{Node}
use Rattle.pq_hunt.specs.Guards.{Guard}
use Rattle.pq_hunt.specs.declared.views.HuntPart.{HuntPart}
use Rattle.pq_hunt.specs.Layout.{heap_lock, size_word, word_count}
use Rattle.pq_hunt.specs.Flights.{Flight}
use Rattle.pq_hunt.specs.Letters.{IsClimbing}
use Rattle.pq_hunt.specs.Facts.{HeapFacts}
use Rattle.pq_hunt.specs.NodeParts.{hunt_nodes}

-- What a seat's post says of its insert. It is in flight from the step that made a node Busy until the seat has its
-- call. Till then either it waits for its place in the history, its entry Busy where the seat looks for it or above;
-- or it has its place, and a letter tells it.
pub record IsInserting (words : List ℕ) (posts : List (Post HuntPart)) (of : ℕ → Flight)
    (p : Post HuntPart) : Type 0 where
  pub told : IsClimbing (of p.number) p.own.climbing (letter_count p.number words posts)
  pub place : p.own.climbing ≡ 1 → (of p.number).place ≡ p.own.place
  pub flies : p.own.climbing ≡ 1 → (e : Entry) × (p.flight ≡ Some e) × ((of p.number).entry ≡ e)
  pub rests : p.own.climbing ≡ 0 → p.flight ≡ None

pub record HuntTied (k : Limits) (words : List ℕ) (posts : List (Post HuntPart)) (m : List Entry) : Type 0 where
  pub long : length words ≡ word_count k.capacity
  pub seated : (1 ≤ k.seats) × (k.seats ≤ k.capacity)
  pub size : ℕ
  pub of : ℕ → Flight
  pub nodes : List Node
  -- fact 6: the nodes count as their words say, and those that are locked as the views name them
  pub tree : NodeFacts hunt_nodes words posts nodes
  pub facts : HeapFacts k.seats k.capacity size of nodes m
  -- so does the size
  pub free : slice_index words heap_lock ≡ 0 → slice_index words size_word ≡ size
  pub held : (j : ℕ) (p : Post HuntPart) → get_elem? posts j ≡ some p → Contains p.locks heap_lock
      → (p.own.size_counted ≡ size) × (slice_index words size_word ≡ p.own.size_stored)
  pub told : (j : ℕ) (p : Post HuntPart) → get_elem? posts j ≡ some p → 0 < p.number → IsInserting words posts of p
  -- who waits has a seat
  pub borne : (n : ℕ) → 1 ≤ (of n).waiting
      → (j : ℕ) × (p : Post HuntPart) × (get_elem? posts j ≡ some p) × (p.number ≡ n) × (0 < n)
  -- fact 5, beside `told`: who owes a letter still holds the root's lock
  pub owing : (j : ℕ) (p : Post HuntPart) → get_elem? posts j ≡ some p
      → (p.owed ≡ []) ⊎ ((g : Guard) × Contains p.own.guards g × (g.node ≡ 1))
  -- each letter names a place
  pub sent : (n : ℕ) → 0 < n → n ≤ max_seats → slice_index words n < back
  pub owes : (j : ℕ) (p : Post HuntPart) (x : ℕ × ℕ) → get_elem? posts j ≡ some p → Contains p.owed x → x.1 < back
  -- a seat that found its entry gone from the root has its letter
  pub lettered : (j : ℕ) (p : Post HuntPart) → get_elem? posts j ≡ some p → p.own.lettered ≡ true →
      slice_index words p.number ≢ 0
