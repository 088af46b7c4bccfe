-- What a tape holds, and the one history that tapes make when they are put together by place.
use Rattle.std.specs.Prelude.{◌≡◌, ℕ, ◌<◌, List, [], ◌∷◌, ◌++◌, length, map, All, Some, slice_get, slice_set, nat_eq}
use Rattle.std.specs.List.{IsDistinct}
use Rattle.pq_model.specs.declared.marks.Mark.{Mark}
use Rattle.pq_model.specs.declared.passes.Call.{Call}
use Rattle.pq_model.specs.declared.passes.Lane.{Lane}
use Rattle.pq_model.specs.History.{mark}

-- the number of a seat with its calls, and how many calls the tape is sure to hold
pub record Taped : Type 0 where
  pub lane : Lane
  pub room : ℕ

-- the places of the calls on the tapes, tape by tape
abbrev pub places : List Taped → List ℕ
places [] = []
places (t ∷ ts) = map (λ (c : Call). c.place) t.lane.calls ++ places ts

-- The places are 0 to n - 1, each once: n different numbers, all below n.
pub record IsComplete (tapes : List Taped) : Type 0 where
  pub below : All (λ p. p < length (places tapes)) (places tapes)
  pub once : IsDistinct nat_eq (places tapes)

-- The history has as many marks as there are calls on the tapes, and each call is the mark at its place.
pub record IsByPlace (tapes : List Taped) (history : List Mark) : Type 0 where
  pub count : length history ≡ length (places tapes)
  pub placed : All (λ (t : Taped). All
      (λ (c : Call). slice_get history c.place ≡ Some (mark t.lane.number c.act c.reply)) t.lane.calls) tapes

-- the marks after each of these calls of a seat is put at its place
abbrev pub with_calls : ℕ → List Call → List Mark → List Mark
with_calls seat [] marks = marks
with_calls seat (c ∷ cs) marks = with_calls seat cs (slice_set marks c.place (mark seat c.act c.reply))

-- the same of all these tapes
abbrev pub with_tapes : List Taped → List Mark → List Mark
with_tapes [] marks = marks
with_tapes (t ∷ ts) marks = with_tapes ts (with_calls t.lane.number t.lane.calls marks)
