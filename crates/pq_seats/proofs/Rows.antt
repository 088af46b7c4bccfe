-- One more at the end of a row.
use Rattle.std.proofs.Common.{◌≡◌, ℕ, zero, suc, ◌+◌, List, [], ◌∷◌, ◌++◌, length, arith, length-append}
use Rattle.pq_api.specs.Answers.{EachAt}

pub EachAt-push : {X : Type 0} (P : ℕ → X → Type 0) (xs : List X) (x : X) → EachAt P xs → P (length xs) x → EachAt P (xs ++ x ∷ [])
EachAt-push P [] x all last zero d lt = last
EachAt-push P [] x all last (suc k) d lt = absurd (omega arith)
EachAt-push P (y ∷ ys) x all last zero d lt = all 0 d (omega arith)
EachAt-push P (y ∷ ys) x all last (suc k) d lt = EachAt-push (λ i z. P (suc i) z) ys x (λ i e l. all (suc i) e (omega arith)) last k d (omega arith)

pub length-push : {X : Type 0} (xs : List X) (x : X) → length (xs ++ x ∷ []) ≡ length xs + 1
length-push xs x = length-append xs (x ∷ [])
