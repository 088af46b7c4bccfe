-- Schedules that dispatching makes.
use Rattle.std.proofs.Common.{◌≡◌, ℕ, ◌+◌, ◌<◌, ◌≤◌, List, [], ◌∷◌, ◌++◌, inl, inr, refl, sym, ap, ◌∙◌, subst, length, get_or, set, map, take, arith}
use Rattle.std.specs.Prelude.{max}
use Rattle.std.specs.Global.{Vec}
use Rattle.std.proofs.lemmas.Bool.{cases_lt}
use Rattle.std.proofs.lemmas.List.{take_more, map-set}
use Rattle.inst_text.specs.Limits.{max_total}
use Rattle.bb_problem.specs.Tree.{below}
use Rattle.inst_text.specs.declared.shop.Operation.{Operation}
use Rattle.inst_text.specs.Shop.{JobShop, IsJobShop, AreStarts}
use Rattle.bb_shop.specs.Dispatching.{State, opened, number_in, next_of, next_end, step_of, dispatched, state_of, IsLeft, IsOrder}
use Rattle.bb_shop.specs.Working.{dispatched_by, IsReached, IsMade}
use Rattle.bb_shop.specs.TreeLawsHold.States.{IsState, IsState-of, state_of-nil, state_of-below, IsOrder-below, AreLeft-first, AreLeft-rest}
use Rattle.bb_shop.specs.TreeLawsHold.Ready.{ready_within}

pub same_state : (starts : List (List ℕ)) (jobs machines : List ℕ) (starts' : List (List ℕ)) (jobs' machines' : List ℕ) → starts ≡ starts' → jobs ≡ jobs' → machines ≡ machines'
    → (let a : State = record { starts = starts; jobs = jobs; machines = machines } in let b : State = record { starts = starts'; jobs = jobs'; machines = machines' } in a ≡ b)
same_state starts jobs machines starts' jobs' machines' p q r = cc

-- the lists of a schedule once an operation is dispatched
pub schedule_with : (starts : List (Vec ℕ)) (jobs machines : List ℕ) (o : Operation) (j start : ℕ) (row : Vec ℕ)
    → row.items ≡ get_or (map (λ (v : Vec ℕ). v.items) starts) j [] ++ start ∷ [] → start ≡ max (number_in jobs j) (number_in machines o.machine)
    → (let after : State = record { starts = map (λ (v : Vec ℕ). v.items) (set starts j row); jobs = set jobs j (start + o.time); machines = set machines o.machine (start + o.time) } in
    after ≡ dispatched_by (record { starts = map (λ (v : Vec ℕ). v.items) starts; jobs = jobs; machines = machines }) o j)
schedule_with starts jobs machines o j start row is at =
    let rows = map (λ (v : Vec ℕ). v.items) starts in
    let when = max (number_in jobs j) (number_in machines o.machine) in
    same_state (map (λ (v : Vec ℕ). v.items) (set starts j row)) (set jobs j (start + o.time)) (set machines o.machine (start + o.time)) (set rows j (get_or rows j [] ++ when ∷ [])) (set jobs j (when + o.time)) (set machines o.machine (when + o.time))
    (map-set (λ (v : Vec ℕ). v.items) starts j row ∙ ap (set rows j) is ∙ ap (λ t. set rows j (get_or rows j [] ++ t ∷ [])) at)
    (ap (λ t. set jobs j (t + o.time)) at) (ap (λ t. set machines o.machine (t + o.time)) at)

pub dispatched-is : (s : JobShop) (st : State) (j : ℕ) → dispatched_by st (next_of s st j) j ≡ dispatched s st j
unfolding dispatched
dispatched-is s st j = refl

-- what holds of a schedule that is reached
pub reached_state : (s : JobShop) (st : State) → IsReached s st → IsState s st
reached_state s st is = subst (IsState s) (sym is.made) (IsState-of s is.name is.ordered)

pub reached_end : (s : JobShop) (st : State) (j : ℕ) → IsJobShop s → IsReached s st → IsLeft s st j → next_end s st j ≤ max_total
reached_end s st j shop is left =
    let here : IsLeft s (state_of s is.name) j = subst (λ x. IsLeft s x j) is.made left in
    omega (arith, ap (λ x. next_end s x j) is.made, (ready_within s is.name shop is.ordered).next j here)

pub made_reached : (s : JobShop) (order : List ℕ) (st : State) → IsMade s order st → IsReached s st
made_reached s order st is = record { name = is.name; ordered = is.ordered; made = is.made }

pub made-none : (s : JobShop) (st : State) → st ≡ opened s → IsMade s [] st
made-none s st is = record { name = []; ordered = tt; made = is ∙ sym (state_of-nil s); same = λ ordered. refl }

-- one job more
pub made-more : (s : JobShop) (order : List ℕ) (i k : ℕ) (st next : State) → i < length order → k ≡ get_or order i 0 → IsMade s (take i order) st
    → (IsLeft s st k → next ≡ dispatched s st k) → ((IsLeft s st k → ⊥) → next ≡ st) → IsMade s (take (i + 1) order) next
made-more s order i k st next lt is made left none =
    let longer : take (i + 1) order ≡ below (take i order) k = take_more order i 0 lt ∙ ap (below (take i order)) (sym is) in
    let before = λ (ordered : IsOrder s (take (i + 1) order)). AreLeft-first s (opened s) (take i order) (k ∷ []) (subst (IsOrder s) longer ordered) in
    let last = λ (ordered : IsOrder s (take (i + 1) order)). (AreLeft-rest s (opened s) (take i order) (k ∷ []) (subst (IsOrder s) longer ordered)).0 in
    let here = λ (ordered : IsOrder s (take (i + 1) order)). subst (λ x. IsLeft s x k) (sym made.made) (subst (λ n. IsLeft s (state_of s n) k) (sym (made.same (before ordered))) (last ordered)) in
    elim (cases_lt k (length s.rows)) [
      | inl row ↦
          elim (cases_lt (step_of st k) s.machines) [
            | inl step ↦
                let is_left : IsLeft s st k = (row, step) in
                let there : IsLeft s (state_of s made.name) k = subst (λ x. IsLeft s x k) made.made is_left in
                record {
                  name = below made.name k;
                  ordered = IsOrder-below s made.name k made.ordered there;
                  made = left is_left ∙ ap (λ x. dispatched s x k) made.made ∙ sym (state_of-below s made.name k);
                  same = λ ordered. ap (λ n. below n k) (made.same (before ordered)) ∙ sym longer;
                }
            | inr done ↦ record { name = made.name; ordered = made.ordered; made = none (λ l. omega (arith, l.1, done)) ∙ made.made; same = λ ordered. absurd (omega (arith, (here ordered).1, done)) }
          ]
      | inr past ↦ record { name = made.name; ordered = made.ordered; made = none (λ l. omega (arith, l.0, past)) ∙ made.made; same = λ ordered. absurd (omega (arith, (here ordered).0, past)) }
    ]

-- the start times that are made are within their limits
pub made_starts : (s : JobShop) (order : List ℕ) (st : State) → IsJobShop s → IsMade s order st → AreStarts st.starts
made_starts s order st shop is = subst (λ (x : State). AreStarts x.starts) (sym is.made) (ready_within s is.name shop is.ordered).starts
