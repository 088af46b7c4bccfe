-- The seats of a table from its opening to its end.
use Rattle.std.specs.Prelude.{◌≡◌, ℕ, ◌<◌, ◌≤◌, ◌⊎◌, true, List, [], ◌∷◌, ◌++◌, length, max, slice_index}
use mathlib.Core.Option.{some}
use lib.ListN.{get_elem?}
use Rattle.atomic_table.specs.Seated.{TableId}
use Rattle.atomic_table.specs.declared.shared.Seat.{Seat}
use Rattle.pq_model.specs.declared.marks.Mark.{Mark}
use Rattle.pq_model.specs.declared.passes.Lane.{Lane}
use Rattle.pq_model.specs.Limits.{max_seats}
use Rattle.pq_model.specs.History.{IsSeat, IsLegal, left}
use Rattle.pq_model.specs.Passes.{lane, IsActual}
use Rattle.pq_seats.specs.declared.views.Limits.{Limits}
use Rattle.pq_seats.specs.declared.views.Post.{Post}
use Rattle.pq_seats.specs.declared.views.View.{View}
use Rattle.pq_seats.specs.Views.{HasFirst, later_lanes, numbered, known_of, empty_post}
use Rattle.pq_seats.specs.Rules.{Rule}
use Rattle.pq_seats.specs.Laws.{history_limit}

-- A pass at this table, under these limits: its number, the number of its lanes, and its seat
pub record Sits {O : Type 0} (z : TableId) (k : Limits) (number lanes : ℕ) (seat : Seat (Unit {0}) (View O))
    : Type 0 where
  pub table : seat.table_id ≡ z
  pub limits : seat.me.0.limits ≡ k
  pub empty : seat.me.1 ≡ []
  pub seated : IsSeat k.seats number
  pub named : number ≡ seat.me.0.post.number
  pub first : HasFirst number seat.me.0.lanes
  pub counted : lanes ≡ length seat.me.0.lanes

-- the limits of a table that is opened with these words
abbrev pub limits_for : ℕ → ℕ → List ℕ → Limits
limits_for capacity seats words = record { capacity = capacity; seats = seats; words = length words }

-- the number of a list's first lane
abbrev pub first_number : List Lane → ℕ
first_number [] = 0
first_number (l ∷ ls) = l.number

module _ {O : Type 0} where
  -- the dealer, once its first lane has gone to a new pass
  abbrev pub deal_left : View O → View O
  deal_left v = record v { lanes = later_lanes v.lanes }

  -- two views made one
  abbrev pub joined_view : View O → View O → View O
  joined_view v w = record v { lanes = v.lanes ++ w.lanes; front = max v.front w.front }

module _ {O : Type 0} (R : Rule O) where
  -- a view that has seen and read nothing
  abbrev pub bare : Limits → List Lane → ℕ → View O
  bare k ls n = record { lanes = ls; front = 0; read = 0; reads = 0; limits = k; post = empty_post R.idle n }

  -- the first view of a table: it has all lanes, and deals them out from the first on
  abbrev pub dealt : Limits → ℕ → ℕ → View O
  dealt k from n = bare k (numbered from n) 0

  abbrev pub dealer : Limits → View O
  dealer k = dealt k 1 k.seats

  -- the view of a pass that has made no call
  abbrev pub newcomer : Limits → ℕ → View O
  newcomer k n = bare k (lane n [] ∷ []) n

  abbrev pub deal_right : View O → View O
  deal_right v = newcomer v.limits (first_number v.lanes)

  -- a note, which carries a front and no lane
  abbrev pub note_of : View O → View O
  note_of v = record (bare v.limits [] 0) { front = v.front }

  -- what the second seat is left with where two are joined
  abbrev pub spent : View O
  spent = bare (record { capacity = 0; seats = 0; words = 0 }) [] 0

  -- These words begin a table under these limits, with an empty history
  pub record Begins (k : Limits) (words : List ℕ) : Type 0 where
    pub seats : IsSeat max_seats k.seats
    pub letters : max_seats < length words
    pub width : R.width k ≤ length words
    pub empty : R.length_of (slice_index words 0) ≡ 0
    pub zeros : (n : ℕ) → IsSeat max_seats n → slice_index words n ≡ 0
    pub unlocked : (i : ℕ) → R.locks k i ≡ true → slice_index words i ≡ 0
    pub tied : R.ties k words (empty_post R.idle 0 ∷ []) []

  -- What the words of a closed table say to the one pass into which all others were joined
  pub record Ended (k : Limits) (v : View O) (words : List ℕ) : Type 0 where
    -- its calls, put by place, are a legal history
    pub history : List Mark
    pub actual : IsActual (known_of v) history
    pub legal : IsLegal k.seats k.capacity history
    pub short : length history ≤ history_limit
    pub counted : R.length_of (slice_index words 0) ≡ length history
    -- no lock is held, and there is no letter
    pub unlocked : (i : ℕ) → R.locks k i ≡ true → slice_index words i ≡ 0
    pub unwritten : (n : ℕ) → IsSeat k.seats n → slice_index words n ≡ 0
    -- nobody else holds anything, and the queue's facts hold of what the history leaves
    pub posts : List (Post O)
    pub others : (j : ℕ) (p : Post O) → get_elem? posts j ≡ some p → (p ≡ v.post) ⊎ (p ≡ empty_post R.idle 0)
    pub tied : R.ties k words posts (left history)
