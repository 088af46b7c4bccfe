-- What a seat of a store keeps, and what it knows once all seats are joined into it.
use Rattle.std.specs.Prelude.{ℕ, ◌≡◌, ◌≢◌, ◌⊎◌, ◌+◌, ◌<◌, ◌≤◌, true, false, max}
use Rattle.std.specs.Prelude.{List, [], ◌∷◌, ◌++◌, length, Contains}
use Rattle.atomic_table.specs.Seated.{TableId}
use Rattle.pq_numbers.specs.declared.draws.Draw.{Draw}
use Rattle.pq_numbers.specs.Draws.{draw_of, times_of, AreTiled}
use Rattle.bb_shared.specs.declared.store.drawn.Drawn.{Drawn}
use Rattle.bb_shared.specs.declared.store.drawn.Drawn.TheVariants.{First, Over}
use Rattle.bb_shared.specs.declared.store.stored.Attempt.{Attempt}
use Rattle.bb_shared.specs.declared.store.stored.Numbered.{Numbered}
use Rattle.bb_shared.specs.declared.store.stored.Stored.{Stored}
use Rattle.bb_shared.specs.Limits.{asked_limit}

-- how many numbers a store has, which is known by its table
abbrev pub nodes_of : TableId → ℕ
nodes_of store = store.slots

-- what contracts see of a seat: the table of its store, what it keeps, and its attempts to take a node
pub record StoreSeated (N : Type 0) : Type 0 where
  pub store : TableId
  pub kept : Stored N
  pub attempts : List Attempt

-- the word of a number whose node is there to take
abbrev pub full_word : ℕ
full_word = 2

abbrev pub numbered : {N : Type 0} → ℕ → N → Numbered N
numbered number node = record { number = number; node = node }

abbrev pub attempt : ℕ → ℕ → Attempt
attempt number word = record { number = number; word = word }

-- what a seat keeps that has done nothing, one of so many
abbrev pub new_stored : {N : Type 0} → ℕ → Stored N
new_stored seats = record { seats = seats; parts = 1; draws = []; puts = []; takes = []; front = 0 }

-- the new seats of a store
abbrev pub new_store_seat : {N : Type 0} → TableId → ℕ → StoreSeated N
new_store_seat store seats = record { store = store; kept = new_stored seats; attempts = [] }

abbrev pub with_draw : {N : Type 0} → Stored N → Draw → Stored N
with_draw s d = record s { draws = s.draws ++ d ∷ []; front = d.first + d.count }

abbrev pub with_put : {N : Type 0} → Stored N → Numbered N → Stored N
with_put s p = record s { puts = s.puts ++ p ∷ [] }

-- who takes a node has seen that its number was drawn
abbrev pub with_take : {N : Type 0} → Stored N → Numbered N → Stored N
with_take s p = record s { takes = s.takes ++ p ∷ []; front = max s.front (p.number + 1) }

-- what two seats did, of which the second is gone
abbrev pub stores_joined : {N : Type 0} → Stored N → Stored N → Stored N
stores_joined s t = record s {
  parts = s.parts + t.parts;
  draws = s.draws ++ t.draws;
  puts = s.puts ++ t.puts;
  takes = s.takes ++ t.takes;
  front = max s.front t.front;
}

-- the seat was never answered Over
abbrev pub HasNoOver : {N : Type 0} → Stored N → Type 0
HasNoOver s = (d : Draw) → Contains s.draws d → d.within ≡ true

-- The numbers are above all that the seat has seen, so above those that it put. They are within the limit, or else
-- the limit is exceeded by what was asked.
abbrev pub IsDrawn : {N : Type 0} → Stored N → ℕ → ℕ → Drawn → Stored N → Type 0
IsDrawn {N} before count limit (First o) now =
    (o + count ≤ limit) × (before.front ≤ o) × ((p : Numbered N) → Contains before.puts p → p.number < o)
    × (now ≡ with_draw before (draw_of o count true))
IsDrawn {N} before count limit (Over asked) now =
    (limit < asked) × (o : ℕ) × (o + count ≡ asked) × (before.front ≤ o) × (asked < asked_limit)
    × (now ≡ with_draw before (draw_of o count false))

-- the seat drew the number, and has put nothing under it
pub record IsFree {N : Type 0} (s : Stored N) (number : ℕ) : Type 0 where
  pub draw : Draw
  pub drawn : Contains s.draws draw
  pub good : draw.within ≡ true
  pub from : draw.first ≤ number
  pub to : number < draw.first + draw.count
  pub unput : (p : Numbered N) → Contains s.puts p → p.number ≡ number → ⊥

-- No node was there to take: the number is not one of the store's, or its word was read, and was not full. The seat
-- keeps what it kept.
abbrev pub IsMissed : {N : Type 0} → ℕ → StoreSeated N → ℕ → StoreSeated N → Type 0
IsMissed nodes before number now = ((nodes ≤ number) × (now ≡ before))
    ⊎ ((word : ℕ) × (word ≢ full_word)
    × (now ≡ record before { attempts = before.attempts ++ attempt number word ∷ [] }))

abbrev pub number_of : {N : Type 0} → Numbered N → ℕ
number_of p = p.number

-- how many of the list have this number
abbrev pub times : {N : Type 0} → ℕ → List (Numbered N) → ℕ
times {N} = times_of (number_of {N = N})

-- Each node that was taken is the one that was put under its number, and no two were put under one.
pub record AreMatched {N : Type 0} (puts takes : List (Numbered N)) : Type 0 where
  pub from_puts : (t : Numbered N) → Contains takes t → Contains puts t
  pub put_once : (p q : Numbered N) → Contains puts p → Contains puts q → p.number ≡ q.number → p ≡ q

-- What a seat knows: under each number it put and took one node at most, so no more than there are numbers. And what
-- all seats did, once they are joined.
pub record KnowsStore {N : Type 0} (nodes : ℕ) (s : Stored N) : Type 0 where
  pub puts_once : (x : ℕ) → times x s.puts ≤ 1
  pub takes_once : (x : ℕ) → times x s.takes ≤ 1
  pub few_puts : length s.puts ≤ nodes
  pub few_takes : length s.takes ≤ nodes
  pub matched : s.parts ≡ s.seats → AreMatched s.puts s.takes
  pub tiled : s.parts ≡ s.seats → AreTiled s.draws
