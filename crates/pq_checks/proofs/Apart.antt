-- The passes of two seats, into which none is joined, are apart; and joined, they have two lanes.
use Rattle.std.proofs.Common.{◌≡◌, ◌≢◌, ℕ, zero, suc, ◌<◌, List, [], ◌∷◌, ◌++◌, length, map, ◌∙◌, ap, sym, subst, arith}
use Rattle.std.specs.Prelude.{All, Contains}
use Rattle.std.proofs.lemmas.List.Elements.{All-push}
use Rattle.pq_model.specs.declared.passes.Call.{Call}
use Rattle.pq_model.specs.declared.passes.Lane.{Lane}
use Rattle.pq_model.specs.declared.passes.Known.{Known}
use Rattle.pq_model.specs.Passes.{lane, lanes, numbers, IsApart, joined_with}

only : (x n : ℕ) → Contains (x ∷ []) n → x ≡ n
only x n (zero, lt, is) = is
only x n (suc k, lt, is) = absurd (omega arith)

one_number : (k : Known) → k.joined ≡ [] → numbers k ≡ k.number ∷ []
one_number k none = ap (λ (ls : List Lane). k.number ∷ map (λ (l : Lane). l.number) ls) none

pub apart : (k o : Known) → k.joined ≡ [] → o.joined ≡ [] → k.number ≡ 1 → o.number ≡ 2 → IsApart k o
apart k o alone other_alone one two =
    let P : ℕ → Type 0 = λ n. ¬ Contains (numbers o) n in
    let ne : ¬ Contains (numbers o) k.number = λ has.
    let is : o.number ≡ k.number = only o.number k.number (subst (λ (z : List ℕ). Contains z k.number) (one_number o other_alone) has) in omega arith in
    subst (All P) (sym (one_number k alone)) (All-push P [] k.number (λ i d lt. absurd (omega arith)) ne)

pub two_lanes : (k o now : Known) → k.joined ≡ [] → o.joined ≡ [] → k.number ≡ 1 → o.number ≡ 2 → now ≡ joined_with k o
    → lanes now ≡ lane 1 k.calls ∷ lane 2 o.calls ∷ []
two_lanes k o now alone other_alone one two is =
    ap lanes is
    ∙ (ap (λ (ls : List Lane). lane k.number k.calls ∷ (ls ++ lanes o)) alone
    ∙ (ap (λ (ls : List Lane). lane k.number k.calls ∷ lane o.number o.calls ∷ ls) other_alone
    ∙ (ap (λ (n : ℕ). lane n k.calls ∷ lane o.number o.calls ∷ []) one
    ∙ ap (λ (n : ℕ). lane 1 k.calls ∷ lane n o.calls ∷ []) two)))
