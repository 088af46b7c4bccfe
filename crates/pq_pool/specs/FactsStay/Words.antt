-- The words that a step leaves, and what is said of them.
use Rattle.std.proofs.Common.{◌≡◌, ◌⊎◌, ℕ, zero, suc, ◌<◌, ◌≤◌, List, get_or, refl, ◌∙◌, inl, inr, ⊎_elim, arith}
use Rattle.pq_model.specs.Limits.{max_seats}
use Rattle.pq_model.specs.History.{IsSeat}
use Rattle.pq_seats.specs.declared.views.Post.{Post}
use Rattle.pq_pool.specs.declared.views.PoolState.{PoolState}
use Rattle.pq_pool.specs.declared.views.PoolView.{PoolView}
use Rattle.pq_pool.specs.Layout.{builder_word, pin_word, grace_word, next_word, state_word}
use Rattle.pq_pool.specs.States.{turned, IsSafe, Written}
use Rattle.pq_pool.specs.Facts.{IsBuilder, IsPinned}
use Rattle.pq_pool.specs.Builds.{IsSwept}

-- the states below 3 stay, and 3 and 4 turn
pub turned_cases : (x : ℕ) → x ≤ 4 → ((x < 3) × (turned x ≡ x)) ⊎ (((x ≡ 3) × (turned x ≡ 4)) ⊎ ((x ≡ 4) × (turned x ≡ 0)))
turned_cases zero h = inl (omega arith, refl)
turned_cases (suc zero) h = inl (omega arith, refl)
turned_cases (suc (suc zero)) h = inl (omega arith, refl)
turned_cases (suc (suc (suc zero))) h = inr (inl (refl, refl))
turned_cases (suc (suc (suc (suc zero)))) h = inr (inr (refl, refl))
turned_cases (suc (suc (suc (suc (suc n))))) h = absurd (omega arith)

-- a sweep leaves the words before the grace bits, and the links
module _ (chunks seats : ℕ) where
  pub low_not_swept : (i : ℕ) → i < 34 → ¬ IsSwept chunks seats i
  low_not_swept i low d = ⊎_elim (λ q. let s = q.1 in let a = s.0 in let e = q.2 in omega arith) (λ q. let e = q.2 in omega arith) d

  pub next_not_swept : seats ≤ max_seats → (c : ℕ) → ¬ IsSwept chunks seats (next_word c)
  next_not_swept few c d = ⊎_elim (λ q. let s = q.1 in let a = s.1 in let e = q.2 in omega arith) (λ q. let e = q.2 in omega arith) d

module _ (chunks seats : ℕ) (words words' : List ℕ) where
  pub written_still : (b : PoolState) → ((c : ℕ) → c < chunks → get_or words' (state_word c) 0 ≡ get_or words (state_word c) 0)
      → ((n : ℕ) → IsSeat seats n → get_or words' (grace_word n) 0 ≡ get_or words (grace_word n) 0)
      → Written chunks seats words b → Written chunks seats words' b
  written_still b states grace w = record { states = λ c lt. states c lt ∙ w.states c lt; grace = λ n seat. grace n seat ∙ w.grace n seat }

  module _ {O : Type 0} (view_of : O → PoolView) (counted : PoolState) (p : Post O) where
    -- the words that another step leaves to the builder
    pub builder_still : IsBuilder view_of words chunks seats counted p → get_or words' builder_word 0 ≡ get_or words builder_word 0
        → get_or words' (pin_word p.number) 0 ≡ get_or words (pin_word p.number) 0
        → (Written chunks seats words (view_of p.own).stored → Written chunks seats words' (view_of p.own).stored)
        → IsBuilder view_of words' chunks seats counted p
    builder_still b word pin written = record {
      seat = b.seat;
      word = word ∙ b.word;
      names = b.names;
      sized = b.sized;
      written = written b.written;
      unpinned = b.unpinned;
      no_pin = pin ∙ b.no_pin;
    }

    -- and to a pinned seat
    pub pinned_still : (counted' : PoolState) → IsPinned view_of words chunks seats counted p
        → get_or words' (pin_word p.number) 0 ≡ get_or words (pin_word p.number) 0
        → ((c : ℕ) → IsSafe counted p.number c → IsSafe counted' p.number c) → IsPinned view_of words' chunks seats counted' p
    pinned_still counted' o pin safe = record {
      seat = o.seat;
      word = pin ∙ o.word;
      safe = λ c on. let s = o.safe c on in (s.0, safe c s.1);
    }
