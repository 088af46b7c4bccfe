-- A new table of the spot, and what a try of its lock tells.
use Rattle.std.proofs.Common.{◌≡◌, ℕ, zero, suc, ◌≤◌, Bool, true, false, List, [], ◌∷◌, length, get_or, refl, ap, ◌∙◌, sym, subst, arith, Contains}
use Rattle.std.specs.Prelude.{MatchBool}
use mathlib.Core.Option.{some, some-injective, some-ne-none}
use lib.ListN.{get_elem?}
use Rattle.pq_model.specs.History.{IsSeat}
use Rattle.pq_model.specs.Limits.{max_seats}
use Rattle.pq_seats.specs.declared.views.Limits.{Limits}
use Rattle.pq_seats.specs.declared.views.View.{View}
use Rattle.pq_seats.specs.Views.{empty_post}
use Rattle.pq_seats.specs.Posts.{with_lock}
use Rattle.pq_seats.specs.Steps.{Took, Missed}
use Rattle.pq_seats.specs.Seats.{Begins}
use Rattle.pq_seats.proofs.Lists.{not_in}
use Rattle.pq_spot.specs.declared.views.SpotPart.{SpotPart}
use Rattle.pq_spot.specs.Spot.{idle, part, lock_word, words_needed, spot_rule}
use Rattle.pq_spot.specs.Passes.{IsTried, resting}
use Rattle.pq_spot.specs.LawsHold.{P}

-- What a try of the lock tells
pub tried_is : (n : ℕ) (v w : View SpotPart) (b : Bool) → v.post ≡ resting n → MatchBool b (Took spot_rule v w lock_word) (Missed spot_rule v w) → IsTried n b v w
tried_is n v w true rests t = (t.own.counted, record { post = t.post ∙ (λ j. with_lock (rests j) lock_word (part (t.taken.0 j) t.own.counted ((t.taken.1 ∙ ap (λ (p : P). p.own.out) rests) j))); lanes = t.lanes; front = t.front })
tried_is n v w false rests m = record { post = m.same.post ∙ rests; lanes = m.same.lanes; front = m.same.front }

-- The words of a new table
pub spot_begins : (k : Limits) (words : List ℕ) → IsSeat max_seats k.seats → 1 ≤ k.capacity → length words ≡ words_needed → ((i : ℕ) → get_or words i 0 ≡ 0) → Begins spot_rule k words
spot_begins k words seat room long all = record {
  seats = seat;
  letters = omega arith;
  width = omega arith;
  empty = all 0;
  zeros = λ n range. all n;
  unlocked = λ i is. all i;
  tied = record {
    room = room;
    counted = 0;
    entries = refl;
    offers = λ n is. absurd (omega arith);
    free = λ e. all 18;
    mine = λ j p at has. absurd (not_in lock_word (subst (λ (q : P). Contains q.locks lock_word) (sym (only j p at)) has));
    quiet = λ j p at seated loose. let low = seated.0 in let is : 0 ≡ p.number = ap (λ (q : P). q.number) (only j p at) in absurd (omega arith);
  };
}
  where
    only : (j : ℕ) (p : P) → get_elem? (empty_post idle 0 ∷ []) j ≡ some p → empty_post idle 0 ≡ p
    only zero p at = some-injective _ p at
    only (suc j) p at = absurd (some-ne-none p (sym at))
