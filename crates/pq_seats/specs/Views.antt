-- What a seat's view means, and the parts of a view that a step changes.
use Rattle.std.specs.Prelude.{◌≡◌, ℕ, zero, suc, ◌+◌, ◌==◌, List, [], ◌∷◌, ◌++◌, None}
use Rattle.std.specs.List.{count_by}
use Rattle.pq_model.specs.declared.passes.Call.{Call}
use Rattle.pq_model.specs.declared.passes.Lane.{Lane}
use Rattle.pq_model.specs.declared.passes.Known.{Known}
use Rattle.pq_model.specs.Passes.{lane}
use Rattle.pq_seats.specs.declared.views.Post.{Post}
use Rattle.pq_seats.specs.declared.views.View.{View}

-- the first lane has this number
abbrev pub HasFirst : ℕ → List Lane → Type 0
HasFirst n ls = (calls : List Call) × (rest : List Lane) × (ls ≡ lane n calls ∷ rest)

-- the calls of the first lane
abbrev pub first_calls : List Lane → List Call
first_calls [] = []
first_calls (l ∷ ls) = l.calls

-- the lanes behind the first
abbrev pub later_lanes : List Lane → List Lane
later_lanes [] = []
later_lanes (l ∷ ls) = ls

-- the lanes with one call more in the first
abbrev pub add_call : List Lane → Call → List Lane
add_call [] c = []
add_call (l ∷ ls) c = lane l.number (l.calls ++ c ∷ []) ∷ ls

-- this many lanes without calls, numbered from the given number on
abbrev pub numbered : ℕ → ℕ → List Lane
numbered from zero = []
numbered from (suc n) = lane from [] ∷ numbered (from + 1) n

-- how many of the lanes have this number
abbrev pub lanes_of : ℕ → List Lane → ℕ
lanes_of n ls = count_by (λ (l : Lane). l.number == n) ls

module _ {O : Type 0} where
  -- what a pass means whose seat has this view
  abbrev pub known_of : View O → Known
  known_of v = record {
    number = v.post.number;
    calls = first_calls v.lanes;
    front = v.front;
    joined = later_lanes v.lanes;
  }

  abbrev pub post_of : View O → Post O
  post_of v = v.post

  -- the post of a seat that holds nothing, where the queue's own part is this
  abbrev pub empty_post : O → ℕ → Post O
  empty_post own n = record { number = n; locks = []; flight = None; owed = []; own = own }

  abbrev pub with_post : View O → Post O → View O
  with_post v p = record v { post = p }

  abbrev pub with_seen : View O → ℕ → View O
  with_seen v front = record v { front = front }

  -- the seat has read one word more
  abbrev pub with_read : View O → ℕ → View O
  with_read v found = record v { read = found; reads = suc v.reads }

  -- the seat has made one call more, and seen it
  abbrev pub with_made : View O → Call → View O
  with_made v c = record v { lanes = add_call v.lanes c; front = c.place + 1 }

  -- the seat knows and holds the same, though it may have read further
  pub record IsAlike (v w : View O) : Type 0 where
    pub post : w.post ≡ v.post
    pub lanes : w.lanes ≡ v.lanes
    pub front : w.front ≡ v.front
    pub limits : w.limits ≡ v.limits
