-- A pass of the spot between two calls and within one.
use Rattle.std.specs.Prelude.{◌≡◌, ℕ, ◌+◌, ◌≤◌, Bool, true, false, Option, Some, None, [], ◌∷◌}
use Rattle.pq_model.specs.declared.marks.Act.TheVariants.{Insert}
use Rattle.pq_model.specs.declared.passes.Known.{Known}
use Rattle.pq_model.specs.declared.marks.Reply.{Reply}
use Rattle.pq_model.specs.declared.marks.Reply.TheVariants as replies
use Rattle.pq_api.specs.Answers.{MakesCall}
use Rattle.pq_api.specs.Closing.{Remains}
use Rattle.pq_seats.specs.declared.views.Post.{Post}
use Rattle.pq_seats.specs.declared.views.View.{View}
use Rattle.pq_seats.specs.declared.shared.Shared.{Shared}
use Rattle.pq_seats.specs.declared.shared.SeatPass.{SeatPass}
use Rattle.pq_seats.specs.Views.{empty_post}
use Rattle.pq_seats.specs.Letters.{back}
use Rattle.pq_seats.specs.Passes.{view_of, Belongs}
use Rattle.pq_spot.specs.declared.views.Settled.{Settled}
use Rattle.pq_spot.specs.declared.views.Settled.TheVariants.{Placed, Waits, Back}
use Rattle.pq_spot.specs.declared.views.SpotPart.{SpotPart}
use Rattle.pq_spot.specs.Spot.{token, lock_word, words_needed, idle, part}

-- the seat holds this now, and knows what it knew
pub record Goes (v w : View SpotPart) (p : Post SpotPart) : Type 0 where
  pub post : w.post ≡ p
  pub lanes : w.lanes ≡ v.lanes
  pub front : w.front ≡ v.front

-- the seat knows what it knew
pub record IsStill (v w : View SpotPart) : Type 0 where
  pub lanes : w.lanes ≡ v.lanes
  pub front : w.front ≡ v.front

-- a seat that holds nothing, one that offers the entry, and one whose offer was sent back
abbrev pub resting : ℕ → Post SpotPart
resting n = empty_post idle n

abbrev pub offering : ℕ → Post SpotPart
offering n = record (resting n) { flight = Some token; own = part 0 0 true }

abbrev pub refused : ℕ → Post SpotPart
refused n = record (resting n) { flight = Some token }

-- the post of a seat that has the lock, under which the spot has this word and counts so
abbrev pub locking : Post SpotPart → ℕ → ℕ → Post SpotPart
locking p stored counted = record p { locks = lock_word ∷ []; own = part stored counted p.own.out }

-- the post once the lock is free
abbrev pub freed_post : Post SpotPart → Post SpotPart
freed_post p = record p { locks = []; own = part 0 0 p.own.out }

-- whether the lock was taken
abbrev pub IsTried : ℕ → Bool → View SpotPart → View SpotPart → Type 0
IsTried n true v w = (x : ℕ) × Goes v w (locking (resting n) x x)
IsTried n false v w = Goes v w (resting n)

-- whether an insert was offered
abbrev pub offered_by : Post SpotPart → Bool → Post SpotPart
offered_by p true = record p { flight = Some token; own = part 0 0 true }
offered_by p false = p

-- what has become of an offer, and of the pass's calls
abbrev pub settled_by : ℕ → Settled → Post SpotPart
settled_by n (Placed place) = resting n
settled_by n Waits = offering n
settled_by n Back = refused n

abbrev pub IsSettled : Settled → Known → Known → Type 0
IsSettled (Placed place) k k' = MakesCall k place (Insert token) replies.Done k'
IsSettled Waits k k' = k' ≡ k
IsSettled Back k k' = k' ≡ k

-- a seat that owes this owner a letter, and holds nothing else
abbrev pub owing : ℕ → ℕ → ℕ → Post SpotPart
owing n owner letter = record (resting n) { owed = (owner, letter) ∷ [] }

-- whether an offer was accepted, and whether one was sent back
abbrev pub accepted_by : ℕ → Option (ℕ × ℕ) → Post SpotPart
accepted_by n (Some x) = owing n x.0 (x.1 + 1)
accepted_by n None = resting n

abbrev pub refused_by : ℕ → Option ℕ → Post SpotPart
refused_by n (Some owner) = owing n owner back
refused_by n None = resting n

-- what a removal is answered
abbrev pub taken_reply : Bool → Reply
taken_reply true = replies.Got token
taken_reply false = replies.Empty

-- what is left of a closed table: the entry or nothing, after so many calls
abbrev pub remains : Bool → ℕ → Remains
remains true length = record { left = token ∷ []; length = length }
remains false length = record { left = []; length = length }

module _ {R : Type 0} where
  abbrev pub Rests : Shared R SpotPart → SeatPass R SpotPart → Type 0
  Rests q p = Belongs q p × ((view_of p).post ≡ resting p.number) × (words_needed ≤ q.words)

  abbrev pub Offers : Shared R SpotPart → SeatPass R SpotPart → Type 0
  Offers q p = Belongs q p × ((view_of p).post ≡ offering p.number) × (words_needed ≤ q.words)

  abbrev pub IsRefused : Shared R SpotPart → SeatPass R SpotPart → Type 0
  IsRefused q p = Belongs q p × ((view_of p).post ≡ refused p.number) × (words_needed ≤ q.words)
