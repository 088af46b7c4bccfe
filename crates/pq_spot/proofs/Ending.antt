-- What the words of a closed table leave.
use Rattle.std.proofs.Common.{◌≡◌, ◌≢◌, Some, None, ℕ, zero, suc, Bool, true, false, ◌==◌, List, refl, ap, ◌∙◌, sym, subst, ⊎_elim}
use mathlib.Core.Option.{some}
use lib.ListN.{get_elem?}
use Rattle.pq_model.specs.History.{IsLegal}
use Rattle.pq_api.specs.Closing.{IsClosed}
use Rattle.pq_seats.specs.declared.views.Limits.{Limits}
use Rattle.pq_seats.specs.declared.views.Post.{Post}
use Rattle.pq_seats.specs.declared.views.View.{View}
use Rattle.pq_seats.specs.Views.{known_of}
use Rattle.pq_seats.specs.Seats.{Ended}
use Rattle.pq_seats.proofs.Lists.{read_at}
use Rattle.pq_spot.specs.declared.views.SpotPart.{SpotPart}
use Rattle.pq_spot.specs.Spot.{token, lock_word, held, spot_rule}
use Rattle.pq_spot.specs.Passes.{resting, remains}

-- where nobody offers the entry, it is in the queue or nowhere
left_by_count : (c long : ℕ) → ((m : ℕ) → c ≢ suc (suc m)) → (remains (c == 1) long).left ≡ held c
left_by_count zero long nobody = refl
left_by_count (suc zero) long nobody = refl
left_by_count (suc (suc m)) long nobody = absurd (nobody m refl)

as_long : (b : Bool) (long : ℕ) → (remains b long).length ≡ long
as_long true long = refl
as_long false long = refl

module _ (k : Limits) (v : View SpotPart) (words : List ℕ) (e : Ended spot_rule k v words) (n : ℕ) (rests : v.post ≡ resting n) where
  -- no seat has an insert in flight
  nobody_offers : (m : ℕ) → e.tied.counted ≢ suc (suc m)
  nobody_offers m is =
      let o = e.tied.offers m is in
      let quiet : o.post.flight ≡ None = ⊎_elim (λ a. ap (λ (p : Post SpotPart). p.flight) (a ∙ rests)) (λ b. ap (λ (p : Post SpotPart). p.flight) b) (e.others o.id o.post o.stands) in
      let bad : None ≡ Some token = sym quiet ∙ o.flight in absurd (cc)

  -- what the answer of a shut tells
  pub shown : (seats spot long : ℕ) → seats ≡ k.seats → get_elem? words 18 ≡ some spot → get_elem? words 0 ≡ some long
      → IsClosed seats k.capacity (known_of v) (remains (spot == 1) long)
  shown seats spot long seated at first =
      let word : spot ≡ e.tied.counted = sym (read_at words 18 spot at) ∙ e.tied.free (e.unlocked lock_word refl) in record {
        history = e.history;
        actual = e.actual;
        legal = subst (λ (s : ℕ). IsLegal s k.capacity e.history) (sym seated) e.legal;
        long = (sym e.counted ∙ read_at words 0 long first) ∙ sym (as_long (spot == 1) long);
        rest = (ap (λ (c : ℕ). (remains (c == 1) long).left) word ∙ left_by_count e.tied.counted long nobody_offers) ∙ sym e.tied.entries;
      }
