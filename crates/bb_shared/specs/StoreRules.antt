-- The rule of a store's table, and what each of its steps tells.
-- Word 0, the made word, counts the numbers that were drawn. Word x + 1 says how far the number x is: 0 none, 1
-- putting, 2 full, 3 taking, 4 done. Slot x holds the node of the number x.
use Rattle.std.specs.Prelude.{ℕ, zero, suc, ◌≡◌, ◌≢◌, ◌+◌, ◌-◌, ◌*◌, ◌^◌, ◌<◌, ◌≤◌, ◌==◌}
use Rattle.std.specs.Prelude.{not, nat_le, if◌then◌else◌}
use Rattle.std.specs.Prelude.{List, [], ◌∷◌, ◌++◌, length, Contains, count_by, sum_by, slice_index, Option, Some, None}
use mathlib.Core.Option.{some}
use lib.ListN.{get_elem?}
use Rattle.atomic_table.specs.Table.{State, Me, Step, rest}
use Rattle.pq_model.specs.Limits.{max_seats}
use Rattle.bb_problem.specs.Limits.{max_children}
use Rattle.pq_numbers.specs.declared.draws.Draw.{Draw}
use Rattle.pq_numbers.specs.Draws.{draw_of, times_drawn}
use Rattle.pq_numbers.specs.Tables.{Kind, AreDrawn, AreTold}
use Rattle.bb_shared.specs.declared.store.stored.Numbered.{Numbered}
use Rattle.bb_shared.specs.declared.store.stored.Stored.{Stored}
use Rattle.bb_shared.specs.declared.store.stored.StoreView.{StoreView}
use Rattle.bb_shared.specs.Limits.{asked_limit}
use Rattle.bb_shared.specs.Stores.{full_word, numbered, attempt, new_stored, stores_joined}
use Rattle.bb_shared.specs.Stores.{with_draw, with_put, with_take, times, KnowsStore}

-- 1 where a number's word says that its node is being put
abbrev pub is_putting : ℕ → ℕ
is_putting zero = 0
is_putting (suc zero) = 1
is_putting (suc (suc n)) = 0

-- 1 where it says that its node was put, whether or not it was taken since
abbrev pub is_put : ℕ → ℕ
is_put zero = 0
is_put (suc zero) = 0
is_put (suc (suc n)) = 1

-- 1 where it says that its node was taken
abbrev pub is_taken : ℕ → ℕ
is_taken zero = 0
is_taken (suc zero) = 0
is_taken (suc (suc zero)) = 0
is_taken (suc (suc (suc n))) = 1

abbrev pub times_in : ℕ → Option ℕ → ℕ
times_in x None = 0
times_in x (Some number) = if number == x then 1 else 0

-- how many of the draws were not within their limit
abbrev pub times_over : List Draw → ℕ
times_over = count_by (λ (d : Draw). not d.within)

module _ {N : Type 0} where
  abbrev pub store_kind : Kind (StoreView N)
  store_kind = record { parts = λ v. v.kept.parts; draws = λ v. v.kept.draws }

  abbrev pub over_by : StoreView N → ℕ
  over_by v = times_over v.kept.draws

  abbrev pub drawn_by : ℕ → StoreView N → ℕ
  drawn_by x v = times_drawn x v.kept.draws

  abbrev pub putting_by : ℕ → StoreView N → ℕ
  putting_by x v = times_in x v.putting

  abbrev pub put_by : ℕ → StoreView N → ℕ
  put_by x v = times x v.kept.puts

  abbrev pub taken_by : ℕ → StoreView N → ℕ
  taken_by x v = times x v.kept.takes

  -- the view of a seat that was joined into another, and of one that gave all its parts away
  pub record IsIdle (v : StoreView N) : Type 0 where
    pub puts : v.kept.puts ≡ []
    pub takes : v.kept.takes ≡ []
    pub putting : v.putting ≡ None

  -- What the rule says of one view. A number that the seat puts under is one that it drew.
  pub record FitsStore (seats made : ℕ) (node_of : ℕ → Option N) (v : StoreView N) : Type 0 where
    pub idle : v.kept.parts ≡ 0 → IsIdle v
    pub whole : 0 < v.kept.parts → v.kept.seats ≡ seats
    pub front : v.kept.front ≤ made
    pub own : (x : ℕ) → put_by x v + putting_by x v ≤ drawn_by x v
    pub over : over_by v ≤ v.kept.parts
    pub puts : (p : Numbered N) → Contains v.kept.puts p → node_of p.number ≡ Some p.node
    pub takes : (p : Numbered N) → Contains v.kept.takes p → node_of p.number ≡ Some p.node

  -- The seats draw each number below the made word once. Each number's word tells how often it was put and taken by
  -- all. Each number has one node, which lies in its slot while its word is full.
  pub record IsStore (seats : ℕ) (s : State (Option N) (StoreView N)) : Type 0 where
    pub few : seats ≤ max_seats
    pub wide : length s.words ≡ suc (length s.homes)
    pub numbers : AreDrawn store_kind seats (slice_index s.words 0) s.views
    pub bounded : slice_index s.words 0 ≤ 2 ^ 32 + max_children * sum_by over_by s.views
    pub putting : AreTold putting_by is_putting (λ x. suc x) s.words s.views
    pub put : AreTold put_by is_put (λ x. suc x) s.words s.views
    pub taken : AreTold taken_by is_taken (λ x. suc x) s.words s.views
    pub node_of : ℕ → Option N
    pub each : (j : ℕ) (v : StoreView N) → get_elem? s.views j ≡ some v
        → FitsStore seats (slice_index s.words 0) node_of v
    pub empty : (x : ℕ) → x < length s.homes → slice_index s.words (suc x) ≡ 0 → get_elem? s.homes x ≡ some (some None)
    pub full : (x : ℕ) → slice_index s.words (suc x) ≡ full_word → get_elem? s.homes x ≡ some (some (node_of x))

  -- the view of the first seat, which has all parts and gives them to the others
  abbrev pub giver : ℕ → ℕ → StoreView N
  giver seats parts = record { kept = record (new_stored seats) { parts = parts }; putting = None; attempts = [] }

  -- the view after one part was given away, and the view of the seat that got it
  abbrev pub given_one : StoreView N → StoreView N
  given_one v = giver v.kept.seats (v.kept.parts - 1)

  abbrev pub one_part : StoreView N → StoreView N
  one_part v = record { kept = new_stored v.kept.seats; putting = None; attempts = [] }

  abbrev pub with_kept : StoreView N → Stored N → StoreView N
  with_kept v kept = record v { kept = kept }

  abbrev pub views_joined : StoreView N → StoreView N → StoreView N
  views_joined v w = with_kept v (stores_joined v.kept w.kept)

  abbrev pub spent_view : StoreView N
  spent_view = giver 0 0

  abbrev pub with_putting : StoreView N → ℕ → StoreView N
  with_putting v x = record v { putting = Some x }

  abbrev pub having_put : StoreView N → Numbered N → StoreView N
  having_put v p = record v { kept = with_put v.kept p; putting = None }

  abbrev pub having_tried : StoreView N → ℕ → ℕ → StoreView N
  having_tried v x word = record v { attempts = v.attempts ++ attempt x word ∷ [] }

  abbrev pub having_taken : StoreView N → Numbered N → StoreView N
  having_taken v p = having_tried (with_kept v (with_take v.kept p)) p.number full_word

-- What each step tells.
module _ {N : Type 0} (st : Step (Option N)) (m : Me (Option N) (StoreView N)) (found : ℕ)
    (w : Me (Option N) (StoreView N)) where
  -- the numbers from the word found on are the seat's
  abbrev pub drew : ℕ → Type 0
  drew limit =
      (w ≡ (with_kept m.0 (with_draw m.0.kept (draw_of found st.first (nat_le (found + st.first) limit))), m.1))
      × (m.0.kept.front ≤ found) × ((p : Numbered N) → Contains m.0.kept.puts p → p.number < found)
      × (found + st.first < asked_limit) × KnowsStore st.slots w.0.kept

  -- the number had no node, and its slot is the seat's
  abbrev pub began_put : Type 0
  began_put = (x : ℕ) → st.word ≡ suc x → w ≡ (with_putting m.0 x, (x, None) ∷ m.1)

  -- the slot was given back with the node
  abbrev pub ended_put : Type 0
  ended_put = (x : ℕ) (node : N) → st.word ≡ suc x → m.1 ≡ (x, Some node) ∷ [] →
      (w ≡ (having_put m.0 (numbered x node), [])) × KnowsStore st.slots w.0.kept

  -- the slot is the seat's with the node that was in it, or else the word that was read was not full
  abbrev pub tried_take : Type 0
  tried_take = (x : ℕ) → st.word ≡ suc x →
      (found ≡ full_word → (node : N) × (w ≡ (having_taken m.0 (numbered x node), (x, Some node) ∷ m.1))
      × KnowsStore st.slots w.0.kept)
      × (found ≢ full_word → w ≡ (having_tried m.0 x found, m.1))

  -- the slot was given back
  abbrev pub ended_take : Type 0
  ended_take = w ≡ (m.0, rest m.1)

  abbrev pub learned : Type 0
  learned = (w ≡ m) × KnowsStore st.slots m.0.kept
