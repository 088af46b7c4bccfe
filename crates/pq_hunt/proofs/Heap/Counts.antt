-- The size counts the multiset and the Busy entries.
use Rattle.std.proofs.Common.{◌≡◌, ℕ, zero, suc, ◌+◌, ◌<◌, ◌≤◌, Bool, cond, List, [], ◌∷◌, length, refl, sym, ap, ◌∙◌}
use Rattle.std.proofs.Common.{arith}
use Rattle.std.specs.Prelude.{sum_by}
use native.Mathlib.Decide.{ℕ_discrete}
use mathlib.Core.Logic.{dite}
use Rattle.std.proofs.lemmas.Bool.{eq-eqb}
use Rattle.std.proofs.lemmas.List.Sums.{sum_by-cons, sum_by-le-sum_by, get_or-le-sum_by}
use Rattle.std.proofs.lemmas.List.{nil_from_length}
use Rattle.pq_words.specs.declared.entries.Entry.{Entry}
use Rattle.pq_model.specs.History.{IsSeat}
use Rattle.pq_hunt.specs.declared.nodes.Node.{Node}
use Rattle.pq_hunt.specs.declared.nodes.Node.TheVariants.{Empty, Available, Busy, Hole}
use Rattle.pq_hunt.specs.Nodes.{node, used, busy_of, IsShape}
use Rattle.pq_hunt.proofs.Heap.Counting.{busy, weigh, Holds}
use Rattle.pq_hunt.specs.Flights.{Flight, IsFlown}
use Rattle.pq_hunt.specs.LawsHold.Owners.{in_use}

pub sum_by-both : {X : Type 0} (f g : X → ℕ) (xs : List X) → sum_by (λ x. f x + g x) xs ≡ sum_by f xs + sum_by g xs
sum_by-both f g [] = refl
sum_by-both {X} f g (x ∷ xs) = let rest = sum_by-both f g xs in
    omega (arith, sum_by-cons (λ (y : X). f y + g y) x xs, sum_by-cons f x xs, sum_by-cons g x xs)

pub ones : {X : Type 0} (xs : List X) → sum_by (λ (x : X). 1) xs ≡ length xs
ones [] = refl
ones {X} (x ∷ xs) = let rest = ones xs in omega (arith, sum_by-cons (λ (y : X). 1) x xs)

-- so many nodes from the first on, and no others, are in use
run : (n : ℕ) (t : List Node) → n ≤ length t → ((i : ℕ) → i < n → used (node t i) ≡ 1)
    → ((i : ℕ) → n ≤ i → node t i ≡ Empty) → sum_by used t ≡ n
run zero [] le filled clear = refl
run (suc n) [] le filled clear = absurd (omega arith)
run zero (v ∷ t) le filled clear = let none : used v ≡ 0 = ap used (clear 0 (omega arith)) in
    let rest = run zero t (omega arith) (λ i lt. absurd (omega arith)) (λ i from. clear (suc i) (omega arith)) in
    omega (arith, sum_by-cons used v t)
run (suc n) (v ∷ t) le filled clear = let one : used v ≡ 1 = filled 0 (omega arith) in
    let rest = run n t (omega arith) (λ i lt. filled (suc i) (omega arith)) (λ i from. clear (suc i) (omega arith)) in
    omega (arith, sum_by-cons used v t)

uses : (size : ℕ) (t : List Node) → IsShape size t → sum_by used t ≡ size
uses size [] s = let within = s.within in absurd (omega arith)
uses size (v ∷ t) s = let within = s.within in let none : used v ≡ 0 = ap used s.first in
    let rest = run size t (omega arith) (λ i lt. s.filled (suc i) (omega arith) (omega arith))
    (λ i from. s.clear (suc i) (omega arith)) in omega (arith, sum_by-cons used v t)

used_parts : (v : Node) → used v ≤ weigh (λ _. 1) v + busy v
used_parts Empty = omega arith
used_parts (Available x) = omega arith
used_parts (Busy o x) = omega arith
used_parts (Hole x) = omega arith

parts_used : (v : Node) → weigh (λ _. 1) v + busy v ≤ used v
parts_used Empty = omega arith
parts_used (Available x) = omega arith
parts_used (Busy o x) = omega arith
parts_used (Hole x) = omega arith

pub counted : (size : ℕ) (t : List Node) (m : List Entry) → IsShape size t → Holds t m → length m + sum_by busy t ≡ size
counted size t m s holds = let whole = uses size t s in let same = holds.same (λ _. 1) in let long = ones m in
    let both = sum_by-both (weigh (λ _. 1)) busy t in
    let low = sum_by-le-sum_by used (λ v. weigh (λ _. 1) v + busy v) t used_parts in
    let high = sum_by-le-sum_by (λ v. weigh (λ _. 1) v + busy v) used t parts_used in omega arith

-- a heap of size 0 holds nothing
pub empty_at_zero : (t : List Node) (m : List Entry) → IsShape 0 t → Holds t m → m ≡ []
empty_at_zero t m s holds = let all = counted 0 t m s holds in nil_from_length m (omega arith)

-- where a node is Busy, a place of the capacity is left
pub room_where_busy : (size : ℕ) (t : List Node) (m : List Entry) (i o : ℕ) (x : Entry) → IsShape size t → Holds t m
    → node t i ≡ Busy o x → length m < size
room_where_busy size t m i o x s holds is = let all = counted size t m s holds in
    let at = in_use size t i s (ap used is) in let high = at.1 in let within = s.within in
    let one : busy (node t i) ≡ 1 = ap busy is in let part = get_or-le-sum_by busy t i Empty (omega arith) in
    omega arith

-- how many of the first n owners a node is Busy of
pub owners : ℕ → Node → ℕ
owners zero v = 0
owners (suc n) v = busy_of (suc n) v + owners n v

owners_one : (n o : ℕ) (x : Entry) → IsSeat n o → 1 ≤ owners n (Busy o x)
unfolding owners
owners_one zero o x seat = let low = seat.0 in let high = seat.1 in absurd (omega arith)
owners_one (suc n) o x seat = let low = seat.0 in let high = seat.1 in dite (ℕ_discrete o (suc n))
    (λ e. let one : busy_of (suc n) (Busy o x) ≡ 1 = ap (λ (b : Bool). cond {A = ℕ} b 1 0) (eq-eqb o (suc n) e) in
    omega arith)
    (λ ne. let rest = owners_one n o x (low, omega arith) in omega arith)

owners_busy : (n : ℕ) (v : Node) → ((o : ℕ) (x : Entry) → v ≡ Busy o x → IsSeat n o) → busy v ≤ owners n v
owners_busy n Empty seat = omega arith
owners_busy n (Available x) seat = omega arith
owners_busy n (Busy o x) seat = owners_one n o x (seat o x refl)
owners_busy n (Hole x) seat = omega arith

sum_le_at : (f g : Node → ℕ) (t : List Node) → ((i : ℕ) → f (node t i) ≤ g (node t i)) → sum_by f t ≤ sum_by g t
sum_le_at f g [] le = omega arith
sum_le_at f g (v ∷ t) le = let one : f v ≤ g v = le 0 in let rest = sum_le_at f g t (λ i. le (suc i)) in
    omega (arith, sum_by-cons f v t, sum_by-cons g v t)

zeros : (t : List Node) → sum_by (λ (v : Node). 0) t ≡ 0
zeros [] = refl
zeros (v ∷ t) = let rest = zeros t in omega (arith, sum_by-cons (λ (u : Node). 0) v t)

-- one owner that has none leaves fewer than there are owners
owners_few : (n : ℕ) (t : List Node) → ((o : ℕ) → sum_by (busy_of o) t ≤ 1) → sum_by (owners n) t ≤ n
unfolding owners
owners_few zero t most = let none = zeros t in omega arith
owners_few (suc n) t most = let one = most (suc n) in let rest = owners_few n t most in
    let both = sum_by-both (busy_of (suc n)) (owners n) t in omega arith

owners_fewer : (n o : ℕ) (t : List Node) → ((o : ℕ) → sum_by (busy_of o) t ≤ 1) → IsSeat n o → sum_by (busy_of o) t ≡ 0
    → sum_by (owners n) t < n
unfolding owners
owners_fewer zero o t most seat none = let low = seat.0 in let high = seat.1 in absurd (omega arith)
owners_fewer (suc n) o t most seat none = let low = seat.0 in let high = seat.1 in
    let both = sum_by-both (busy_of (suc n)) (owners n) t in dite (ℕ_discrete o (suc n))
    (λ e. let zero_here : sum_by (busy_of (suc n)) t ≡ 0 = ap (λ (z : ℕ). sum_by (busy_of z) t) (sym e) ∙ none in
    let rest = owners_few n t most in omega arith)
    (λ ne. let one = most (suc n) in let rest = owners_fewer n o t most (low, omega arith) none in omega arith)

-- a seat whose own insert is not on its way sees fewer Busy entries than there are seats
pub few_busy : (seats seat : ℕ) (of : ℕ → Flight) (t : List Node) → IsFlown seats of t → IsSeat seats seat
    → (of seat).waiting ≡ 0 → sum_by busy t < seats
few_busy seats seat of t flown is none = let le = sum_le_at busy (owners seats) t
    (λ i. owners_busy seats (node t i) (λ o x e. flown.seat i o x e)) in
    let fewer = owners_fewer seats seat t (λ o. let one = flown.once o in let most = flown.most o in omega arith) is
    (flown.once seat ∙ none) in omega arith

-- so Full is a step where the size is the capacity
pub full_is_step : (seats seat capacity : ℕ) (of : ℕ → Flight) (t : List Node) (m : List Entry) → IsShape capacity t
    → Holds t m → IsFlown seats of t → IsSeat seats seat → (of seat).waiting ≡ 0
    → capacity < length m + seats
full_is_step seats seat capacity of t m s holds flown is none = let all = counted capacity t m s holds in
    let few = few_busy seats seat of t flown is none in omega arith
