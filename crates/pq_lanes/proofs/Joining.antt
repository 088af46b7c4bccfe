-- Passes that are joined one after the other into the first.
use Rattle.std.proofs.Common.{◌≡◌, ◌∙◌, ◌≤◌, ◌+◌, ℕ, zero, suc, List, [], ◌∷◌, ◌++◌, map, sym, ap, subst, arith, append_assoc}
use Rattle.std.specs.Prelude.{All, Contains}
use Rattle.std.proofs.lemmas.List.{map-append}
use Rattle.std.proofs.lemmas.List.Elements.{All-push, All-weaker}
use Rattle.pq_model.specs.declared.passes.Lane.{Lane}
use Rattle.pq_model.specs.declared.passes.Known.{Known}
use Rattle.pq_model.specs.Passes.{lanes, numbers, IsApart, joined_with}
use Rattle.pq_tape.specs.Tapes.{Taped}
use Rattle.pq_lanes.specs.Lanes.{on_tapes}

-- one lane more
pub lanes_joined : (k o now : Known) (l : Lane) → now ≡ joined_with k o → lanes o ≡ l ∷ [] → lanes now ≡ lanes k ++ l ∷ []
lanes_joined k o now l is one = ap lanes is ∙ ap (λ ls. lanes k ++ ls) one

pub lanes_more : (k o now : Known) (l : Lane) (rest all : List Lane) → now ≡ joined_with k o → lanes o ≡ l ∷ [] → lanes k ++ l ∷ rest ≡ all → lanes now ++ rest ≡ all
lanes_more k o now l rest all is one so_far = ap (λ ls. ls ++ rest) (lanes_joined k o now l is one) ∙ append_assoc (lanes k) (l ∷ []) rest ∙ so_far

pub taped_more : (k o now : Known) (t : Taped) (tapes longer : List Taped) → now ≡ joined_with k o → lanes o ≡ t.lane ∷ [] → longer ≡ tapes ++ t ∷ [] → on_tapes tapes ≡ lanes k → on_tapes longer ≡ lanes now
taped_more k o now t tapes longer is one push so_far =
    ap on_tapes push ∙ map-append (λ (u : Taped). u.lane) tapes (t ∷ []) ∙ ap (λ ls. ls ++ t.lane ∷ []) so_far ∙ sym (lanes_joined k o now t.lane is one)

-- the numbers stay below that of the next lane

numbers_of_one : (o : Known) (l : Lane) → lanes o ≡ l ∷ [] → numbers o ≡ l.number ∷ []
numbers_of_one o l one = ap (map (λ (m : Lane). m.number)) one

pub below_more : (k o now : Known) (l : Lane) (n m : ℕ) → now ≡ joined_with k o → lanes o ≡ l ∷ [] → l.number ≡ n + 1 → m ≡ n + 1 → All (λ i. i ≤ n) (numbers k) → All (λ i. i ≤ m) (numbers now)
below_more k o now l n m is one at more below =
    let P : ℕ → Type 0 = λ i. i ≤ m in
    let longer : numbers now ≡ numbers k ++ l.number ∷ [] = ap (map (λ (j : Lane). j.number)) (lanes_joined k o now l is one) ∙ map-append (λ (j : Lane). j.number) (lanes k) (l ∷ []) in
    subst (All P) (sym longer) (All-push P (numbers k) l.number (All-weaker (λ i. i ≤ n) P (λ i le. omega arith) (numbers k) below) (omega arith))

pub apart_from_next : (k o : Known) (l : Lane) (n : ℕ) → lanes o ≡ l ∷ [] → l.number ≡ n + 1 → All (λ i. i ≤ n) (numbers k) → IsApart k o
apart_from_next k o l n one at below = All-weaker (λ i. i ≤ n) (λ i. ¬ Contains (numbers o) i)
    (λ i le there. no_more i le (subst (λ ns. Contains ns i) (numbers_of_one o l one) there)) (numbers k) below
  where
    no_more : (i : ℕ) → i ≤ n → Contains (l.number ∷ []) i → ⊥
    no_more i le (zero, lt, is) = omega arith
    no_more i le (suc j, lt, is) = omega arith

pub below_first : (k : Known) (l : Lane) (m : ℕ) → lanes k ≡ l ∷ [] → l.number ≤ m → All (λ i. i ≤ m) (numbers k)
below_first k l m one le = subst (All (λ i. i ≤ m)) (sym (numbers_of_one k l one)) (All-push (λ i. i ≤ m) [] l.number (λ i d lt. absurd (omega arith)) le)
