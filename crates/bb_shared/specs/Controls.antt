-- What a seat of a control keeps, and what it knows once all seats are joined into it.
use Rattle.std.specs.Prelude.{ℕ, ◌≡◌, ◌+◌, ◌-◌, ◌*◌, ◌/◌, ◌%◌, ◌^◌, ◌<◌, ◌==◌, Bool, if◌then◌else◌}
use Rattle.std.specs.Prelude.{List, [], ◌∷◌, ◌++◌, Contains, Option, Some, None}
use Rattle.atomic_table.specs.Seated.{TableId}
use Rattle.bb_problem.specs.Limits.{cost_limit}
use Rattle.bb_shared.specs.declared.control.stop.Stop.{Stop}
use Rattle.bb_shared.specs.declared.control.stop.Stop.TheVariants.{NodeLimit, Full, NoMemory}
use Rattle.bb_shared.specs.declared.control.told.Told.{Told}
use Rattle.bb_shared.specs.Limits.{asked_limit}
use Rattle.bb_shared.specs.Costs.{IsLower, lesser}

-- what contracts see of a seat: the table of its control, and what it keeps
pub record ControlSeated : Type 0 where
  pub control : TableId
  pub kept : Told

-- what a seat keeps that has done nothing, one of so many
abbrev pub new_told : ℕ → Told
new_told seats = record {
  seats = seats;
  parts = 1;
  own = None;
  read = None;
  stops = [];
  first = None;
  word = 0;
  loads = 0;
  opened = 0;
  closed = 0;
}

-- the new seats of a control
abbrev pub new_control_seat : TableId → ℕ → ControlSeated
new_control_seat control seats = record { control = control; kept = new_told seats }

-- the least cost that the seat told or read
abbrev pub cut_of : Told → Option ℕ
cut_of c = lesser c.own c.read

abbrev pub with_cost : Told → ℕ → Told
with_cost c cost = record c { own = lesser c.own (Some cost) }

abbrev pub with_opened : Told → ℕ → Told
with_opened c count = record c { opened = c.opened + count }

abbrev pub with_closed : Told → Told
with_closed c = record c { closed = c.closed + 1 }

-- the seat keeps the word that it loaded, and has loaded one more
abbrev pub with_load : Told → ℕ → Told
with_load c word = record c { word = word; loads = c.loads + 1 }

abbrev pub or_else : Option Stop → Option Stop → Option Stop
or_else None b = b
or_else (Some a) b = Some a

-- what two seats did, of which the second is gone
abbrev pub controls_joined : Told → Told → Told
controls_joined c d = record c {
  parts = c.parts + d.parts;
  own = lesser c.own d.own;
  read = lesser c.read d.read;
  stops = c.stops ++ d.stops;
  first = or_else c.first d.first;
  opened = c.opened + d.opened;
  closed = c.closed + d.closed;
}

-- the best cost by its word
abbrev pub cost_in : ℕ → Option ℕ
cost_in word = if word == 0 then None else Some (cost_limit - word)

-- the word of a stop
abbrev pub stop_word : Stop → ℕ
stop_word (NodeLimit asked) = 4 * asked + 1
stop_word (Full place) = 4 * place + 2
stop_word NoMemory = 3

abbrev pub stop_in : ℕ → Option Stop
stop_in word =
    if word == 0 then None
    else if word % 4 == 1 then Some (NodeLimit (word / 4))
    else if word % 4 == 2 then Some (Full (word / 4))
    else Some NoMemory

-- what can be told of a stop
abbrev pub IsTellable : Stop → Type 0
IsTellable (NodeLimit asked) = asked < asked_limit
IsTellable (Full place) = place < 2 ^ 32
IsTellable NoMemory = Unit {0}

-- A cost that is read is the one of the word read, and at most what the seat told or read before. Where all seats are
-- joined, it is what they told.
pub record IsRead (before : Told) (result : Option ℕ) (now : Told) : Type 0 where
  pub word : ℕ
  pub is : now ≡ record before { read = result; word = word; loads = before.loads + 1 }
  pub answer : result ≡ cost_in word
  pub low : IsLower result (cut_of before)
  pub whole : before.parts ≡ before.seats → result ≡ before.own

-- where all seats are joined, no cost was read that is below all that they told
pub record KnowsControl (c : Told) : Type 0 where
  pub whole : c.parts ≡ c.seats → IsLower c.own c.read

-- what the open word is, where all seats are joined: what was added less what was taken away, modulo 2^64
abbrev pub IsLeftOpen : Told → ℕ → Type 0
IsLeftOpen c left = c.parts ≡ c.seats → (left + c.closed) % 2 ^ 64 ≡ c.opened % 2 ^ 64

-- nothing is open where the word read was 0
pub record IsIdleRead (before : Told) (result : Bool) (now : Told) : Type 0 where
  pub word : ℕ
  pub fits : word < 2 ^ 64
  pub is : now ≡ with_load before word
  pub answer : result ≡ (word == 0)
  pub left_open : IsLeftOpen before word

-- the answer is what is left, modulo 2^32
pub record IsClosed (before : Told) (result : ℕ) (now : Told) : Type 0 where
  pub left : ℕ
  pub fits : left < 2 ^ 64
  pub is : now ≡ with_closed before
  pub answer : result ≡ left % 2 ^ 32
  pub left_open : IsLeftOpen now left

-- The seat knows the first of all stops from now on. It is this one, where all seats are joined and had set none.
pub record IsStopSet (before : Told) (stop : Stop) (now : Told) : Type 0 where
  pub first : Stop
  pub is : now ≡ record before { stops = before.stops ++ stop ∷ []; first = Some first }
  pub same : (known : Stop) → before.first ≡ Some known → first ≡ known
  pub whole : before.parts ≡ before.seats → Contains (before.stops ++ stop ∷ []) first
  pub alone : before.parts ≡ before.seats → before.stops ≡ [] → first ≡ stop

abbrev pub IsStopped : List Stop → Option Stop → Type 0
IsStopped stops None = stops ≡ []
IsStopped stops (Some stop) = Contains stops stop

-- A stop that is read is the first of all, and stays so. Where all seats are joined it is among those that they set,
-- and there is none where they set none.
pub record IsStopRead (before : Told) (result : Option Stop) (now : Told) : Type 0 where
  pub word : ℕ
  pub is : now ≡ record before { first = result; word = word; loads = before.loads + 1 }
  pub answer : result ≡ stop_in word
  pub same : (known : Stop) → before.first ≡ Some known → result ≡ Some known
  pub whole : before.parts ≡ before.seats → IsStopped before.stops result
