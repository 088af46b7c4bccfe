-- What is left of a drill: the commands that each seat still owes decide it, mark by mark.
use Rattle.std.proofs.Common.{◌≡◌, ◌≢◌, ℕ, zero, suc, ◌+◌, ◌*◌, ◌<◌, ◌≤◌, Bool, List, [], ◌∷◌, ◌++◌, length, map, Some, refl, sym, ap, ◌∙◌, subst, arith, suc-mul}
use Rattle.std.proofs.lemmas.Bool.Decides.{nat_tests}
use Rattle.std.proofs.lemmas.Option.{none-some}
use Rattle.std.specs.Prelude.{All, ◌==◌, replicate}
use Rattle.std.proofs.lemmas.List.Elements.{All-head, All-tail, All-get_or}
use Rattle.pq_words.specs.declared.entries.Entry.{Entry}
use Rattle.pq_model.specs.declared.marks.Act.{Act}
use Rattle.pq_model.specs.declared.marks.Act.TheVariants.{Insert, Remove, RemoveBelow}
use Rattle.pq_model.specs.declared.marks.Reply.{Reply}
use Rattle.pq_model.specs.declared.marks.Reply.TheVariants.{Done, Got, Empty, Full, Above}
use Rattle.pq_model.specs.declared.marks.Mark.{Mark}
use Rattle.pq_model.specs.Multiset.{least, without_least}
use Rattle.pq_model.specs.History.{IsSeat, IsStep, IsLegalFrom, after, left_from, left}
use Rattle.pq_model.specs.Passes.{calls_from, calls_of}
use Rattle.pq_model.proofs.Choices.{by_outcome}
use Rattle.pq_model.proofs.Lanes.{calls_from-own, calls_from-other}
use Rattle.pq_model.proofs.Multisets.{length-add}
use Rattle.pq_api.specs.Answers.{EachAt}
use Rattle.pq_lanes.specs.Drills.{IsDrillLane, drill_capacity}
use Rattle.pq_lanes.specs.Lanes.{acts_of}
use Rattle.pq_lanes.specs.Tracing.{IsTraceOf}

-- what a command counts for among the inserts, and among the removals
abbrev pub puts : Act → ℕ
puts (Insert e) = 1
puts Remove = 0
puts (RemoveBelow limit) = 0

abbrev pub gets : Act → ℕ
gets (Insert e) = 0
gets Remove = 1
gets (RemoveBelow limit) = 1

-- what all of these commands count for
abbrev pub weigh : (Act → ℕ) → List Act → ℕ
weigh w [] = 0
weigh w (a ∷ acts) = w a + weigh w acts

-- Commands that a lane of a drill may still owe: inserts, and then removals, of which there are no fewer, and no more
-- than the lane has.
abbrev pub IsOwed : ℕ → List Act → Type 0
IsOwed size [] = Unit {0}
IsOwed size (Insert e ∷ acts) = (weigh puts acts + 1 ≤ weigh gets acts) × IsOwed size acts
IsOwed size (Remove ∷ acts) = (weigh puts acts ≡ 0) × (weigh gets acts + 1 ≤ size) × IsOwed size acts
IsOwed size (RemoveBelow limit ∷ acts) = ⊥

owed_more : (size : ℕ) (acts : List Act) → IsOwed size acts → weigh puts acts ≤ weigh gets acts
owed_more size [] owed = omega arith
owed_more size (Insert e ∷ acts) owed = let le = owed.0 in omega arith
owed_more size (Remove ∷ acts) owed = let none = owed.0 in omega arith
owed_more size (RemoveBelow limit ∷ acts) owed = absurd owed

owed_few : (size : ℕ) (acts : List Act) → IsOwed size acts → weigh gets acts ≤ size
owed_few size [] owed = omega arith
owed_few size (Insert e ∷ acts) owed = let rest = owed_few size acts owed.1 in omega arith
owed_few size (Remove ∷ acts) owed = let few = owed.1 in omega arith
owed_few size (RemoveBelow limit ∷ acts) owed = absurd owed

removals_puts : (j : ℕ) → weigh puts (replicate j Remove) ≡ 0
removals_puts zero = refl
removals_puts (suc j) = let rest = removals_puts j in omega arith

removals_gets : (j : ℕ) → weigh gets (replicate j Remove) ≡ j
removals_gets zero = refl
removals_gets (suc j) = let rest = removals_gets j in omega arith

removals_owed : (size j : ℕ) → j ≤ size → IsOwed size (replicate j Remove)
removals_owed size zero le = tt
removals_owed size (suc j) le = (removals_puts j, let few = removals_gets j in omega arith, removals_owed size j (omega arith))

lane_puts : (j : ℕ) (entries : List Entry) → weigh puts (map Insert entries ++ replicate j Remove) ≡ length entries
lane_puts j [] = removals_puts j
lane_puts j (e ∷ es) = let rest = lane_puts j es in omega arith

lane_gets : (j : ℕ) (entries : List Entry) → weigh gets (map Insert entries ++ replicate j Remove) ≡ j
lane_gets j [] = removals_gets j
lane_gets j (e ∷ es) = let rest = lane_gets j es in omega arith

lane_owed : (size j : ℕ) (entries : List Entry) → j ≤ size → length entries ≤ j → IsOwed size (map Insert entries ++ replicate j Remove)
lane_owed size j [] le few = removals_owed size j le
lane_owed size j (e ∷ es) le few =
    (let p = lane_puts j es in let g = lane_gets j es in omega arith, lane_owed size j es le (omega arith))

-- what the seats 1 to n have still to ask, in these marks
abbrev pub total : (Act → ℕ) → ℕ → ℕ → List Mark → ℕ
total w zero from xs = 0
total w (suc n) from xs = weigh w (acts_of (calls_from (suc n) from xs)) + total w n from xs

total-nil : (w : Act → ℕ) (n from : ℕ) → total w n from [] ≡ 0
total-nil w zero from = refl
total-nil w (suc n) from = let rest = total-nil w n from in omega arith

-- the first mark is its seat's next command, and nothing to the others
own_acts : (from : ℕ) (x : Mark) (xs : List Mark) → acts_of (calls_from x.seat from (x ∷ xs)) ≡ x.act ∷ acts_of (calls_from x.seat (from + 1) xs)
own_acts from x xs = ap acts_of (calls_from-own from x xs)

other_acts : (n from : ℕ) (x : Mark) (xs : List Mark) → x.seat ≢ n → acts_of (calls_from n from (x ∷ xs)) ≡ acts_of (calls_from n (from + 1) xs)
other_acts n from x xs ne = ap acts_of (calls_from-other n from x xs ne)

total_above : (w : Act → ℕ) (n from : ℕ) (x : Mark) (xs : List Mark) → n < x.seat → total w n from (x ∷ xs) ≡ total w n (from + 1) xs
total_above w zero from x xs lt = refl
total_above w (suc n) from x xs lt = let rest = total_above w n from x xs (omega arith) in let ne : x.seat ≢ suc n = omega arith in
    let same = ap (weigh w) (other_acts (suc n) from x xs ne) in omega arith

last_own : (w : Act → ℕ) (n from : ℕ) (x : Mark) (xs : List Mark) → x.seat ≡ n → weigh w (acts_of (calls_from n from (x ∷ xs))) ≡ w x.act + weigh w (acts_of (calls_from n (from + 1) xs))
last_own w n from x xs is = subst (λ k. weigh w (acts_of (calls_from k from (x ∷ xs))) ≡ w x.act + weigh w (acts_of (calls_from k (from + 1) xs))) is
    (ap (weigh w) (own_acts from x xs))

total_within : (w : Act → ℕ) (n from : ℕ) (x : Mark) (xs : List Mark) → IsSeat n x.seat → total w n from (x ∷ xs) ≡ w x.act + total w n (from + 1) xs
total_within w zero from x xs seat = let low = seat.0 in let high = seat.1 in absurd (omega arith)
total_within w (suc n) from x xs seat = let low = seat.0 in let high = seat.1 in
    let P : Type 0 = total w (suc n) from (x ∷ xs) ≡ w x.act + total w (suc n) (from + 1) xs in
    by_outcome (λ (b : Bool). P) (x.seat == suc n)
    (λ t. let is : x.seat ≡ suc n = grind (arith, nat_tests) in let own = last_own w (suc n) from x xs is in
    let rest = total_above w n from x xs (omega arith) in omega arith)
    (λ t. let ne : x.seat ≢ suc n = grind (arith, nat_tests) in let same = ap (weigh w) (other_acts (suc n) from x xs ne) in
    let rest = total_within w n from x xs (low, omega arith) in omega arith)

-- what each of the seats owes in these marks
abbrev pub Owe : ℕ → ℕ → ℕ → List Mark → Type 0
Owe size seats from xs = (k : ℕ) → IsSeat seats k → IsOwed size (acts_of (calls_from k from xs))

total_few : (size n from : ℕ) (xs : List Mark) → Owe size n from xs → total gets n from xs ≤ n * size
total_few size zero from xs owe = omega arith
total_few size (suc n) from xs owe = let last = owed_few size (acts_of (calls_from (suc n) from xs)) (owe (suc n) (omega arith, omega arith)) in
    let rest = total_few size n from xs (λ k seat. owe k (seat.0, let high = seat.1 in omega arith)) in omega (arith, suc-mul n size)

total_more : (size n from : ℕ) (xs : List Mark) → Owe size n from xs → total puts n from xs ≤ total gets n from xs
total_more size zero from xs owe = omega arith
total_more size (suc n) from xs owe = let last = owed_more size (acts_of (calls_from (suc n) from xs)) (owe (suc n) (omega arith, omega arith)) in
    let rest = total_more size n from xs (λ k seat. owe k (seat.0, let high = seat.1 in omega arith)) in omega arith

-- what they owe once the first mark is made, and what the mark's own seat owed before
owe_rest : (size seats from : ℕ) (x : Mark) (xs : List Mark) → IsSeat seats x.seat → Owe size seats from (x ∷ xs)
    → IsOwed size (x.act ∷ acts_of (calls_from x.seat (from + 1) xs))
owe_rest size seats from x xs seat owe = subst (IsOwed size) (own_acts from x xs) (owe x.seat seat)

owed_tail : (size : ℕ) (act : Act) (acts : List Act) → IsOwed size (act ∷ acts) → IsOwed size acts
owed_tail size (Insert e) acts owed = owed.1
owed_tail size Remove acts owed = owed.2
owed_tail size (RemoveBelow limit) acts owed = absurd owed

owe_after : (size seats from : ℕ) (x : Mark) (xs : List Mark) → IsSeat seats x.seat → Owe size seats from (x ∷ xs) → Owe size seats (from + 1) xs
owe_after size seats from x xs seat owe k is = let P : Type 0 = IsOwed size (acts_of (calls_from k (from + 1) xs)) in
    by_outcome (λ (b : Bool). P) (x.seat == k)
    (λ t. let same : x.seat ≡ k = grind (arith, nat_tests) in subst (λ j. IsOwed size (acts_of (calls_from j (from + 1) xs))) same
    (owed_tail size x.act (acts_of (calls_from x.seat (from + 1) xs)) (owe_rest size seats from x xs seat owe)))
    (λ t. let ne : x.seat ≢ k = grind (arith, nat_tests) in subst (IsOwed size) (other_acts k from x xs ne) (owe k is))

-- Where a seat is to remove, more removals than inserts are to come.
total_less : (size n from : ℕ) (x : Mark) (xs : List Mark) → IsSeat n x.seat → Owe size n from (x ∷ xs) → x.act ≡ Remove
    → total puts n from (x ∷ xs) + 1 ≤ total gets n from (x ∷ xs)
total_less size zero from x xs seat owe is = let low = seat.0 in let high = seat.1 in absurd (omega arith)
total_less size (suc n) from x xs seat owe is = let low = seat.0 in let high = seat.1 in
    let acts : List Act = acts_of (calls_from x.seat (from + 1) xs) in
    let owed : IsOwed size (Remove ∷ acts) = subst (λ (a : Act). IsOwed size (a ∷ acts)) is (owe_rest size (suc n) from x xs seat owe) in
    let others : Owe size n from (x ∷ xs) = λ k s. owe k (s.0, let top = s.1 in omega arith) in
    let P : Type 0 = total puts (suc n) from (x ∷ xs) + 1 ≤ total gets (suc n) from (x ∷ xs) in
    by_outcome (λ (b : Bool). P) (x.seat == suc n)
    (λ t. let same : x.seat ≡ suc n = grind (arith, nat_tests) in
    let none : weigh puts (acts_of (calls_from (suc n) (from + 1) xs)) ≡ 0 = subst (λ k. weigh puts (acts_of (calls_from k (from + 1) xs)) ≡ 0) same owed.0 in
    let p = last_own puts (suc n) from x xs same in let g = last_own gets (suc n) from x xs same in
    let wp = ap puts is in let wg = ap gets is in
    let rest = total_more size n from (x ∷ xs) others in omega arith)
    (λ t. let last = owed_more size (acts_of (calls_from (suc n) from (x ∷ xs))) (owe (suc n) (omega arith, omega arith)) in
    let ne : x.seat ≢ suc n = grind (arith, nat_tests) in let rest = total_less size n from x xs (low, omega arith) others is in omega arith)

length-without : (m : List Entry) (e : Entry) → least m ≡ Some e → length (without_least m) + 1 ≡ length m
length-without [] e is = absurd (none-some e is)
length-without (x ∷ xs) e is = omega arith

-- One mark, while what is held and what is to be inserted are together what is to be removed.
step_on : (size seats from : ℕ) (m : List Entry) (x : Mark) (xs : List Mark) (act : Act) (reply : Reply) → x.act ≡ act → x.reply ≡ reply
    → IsSeat seats x.seat → Owe size seats from (x ∷ xs) → IsStep seats (drill_capacity seats size) m act reply
    → length m + total puts seats from (x ∷ xs) ≡ total gets seats from (x ∷ xs)
    → length (after m act reply) + total puts seats (from + 1) xs ≡ total gets seats (from + 1) xs
step_on size seats from m x xs (Insert e) Done is _ seat owe step even = let p = total_within puts seats from x xs seat in let g = total_within gets seats from x xs seat in
    let wp = ap puts is in let wg = ap gets is in omega (arith, length-add e m)
step_on size seats from m x xs (Insert e) Full is _ seat owe step even = let few = total_few size seats from (x ∷ xs) owe in absurd (omega arith)
step_on size seats from m x xs (Insert e) (Got y) is _ seat owe step even = absurd step
step_on size seats from m x xs (Insert e) Empty is _ seat owe step even = absurd step
step_on size seats from m x xs (Insert e) Above is _ seat owe step even = absurd step
step_on size seats from m x xs Remove (Got e) is _ seat owe step even = let p = total_within puts seats from x xs seat in let g = total_within gets seats from x xs seat in
    let wp = ap puts is in let wg = ap gets is in let less = length-without m e step in omega arith
step_on size seats from m x xs Remove Empty is _ seat owe step even = let more = total_less size seats from x xs seat owe is in let none = ap length step in absurd (omega arith)
step_on size seats from m x xs Remove Done is _ seat owe step even = absurd step
step_on size seats from m x xs Remove Full is _ seat owe step even = absurd step
step_on size seats from m x xs Remove Above is _ seat owe step even = absurd step
step_on size seats from m x xs (RemoveBelow limit) reply is _ seat owe step even =
    absurd (subst (λ (a : Act). IsOwed size (a ∷ acts_of (calls_from x.seat (from + 1) xs))) is (owe_rest size seats from x xs seat owe))

one_more : (act : Act) → puts act + gets act ≡ 1
one_more (Insert e) = refl
one_more Remove = refl
one_more (RemoveBelow limit) = refl

none_held : (m : List Entry) → length m ≡ 0 → m ≡ []
none_held [] is = refl
none_held (x ∷ xs) is = absurd (omega arith)

all_gone : (size seats from : ℕ) (m : List Entry) (xs : List Mark) → All (λ (x : Mark). IsSeat seats x.seat) xs → Owe size seats from xs
    → IsLegalFrom seats (drill_capacity seats size) m xs → length m + total puts seats from xs ≡ total gets seats from xs
    → (length xs ≡ total puts seats from xs + total gets seats from xs) × (left_from m xs ≡ [])
all_gone size seats from m [] seated owe legal even = let p = total-nil puts seats from in let g = total-nil gets seats from in
    (omega arith, none_held m (omega arith))
all_gone size seats from m (x ∷ xs) seated owe legal even = let P : Mark → Type 0 = λ y. IsSeat seats y.seat in
    let seat = All-head P x xs seated in
    let rest = all_gone size seats (from + 1) (after m x.act x.reply) xs (All-tail P x xs seated) (owe_after size seats from x xs seat owe) legal.1
    (step_on size seats from m x xs x.act x.reply refl refl seat owe legal.0 even) in
    let p = total_within puts seats from x xs seat in let g = total_within gets seats from x xs seat in
    let one = one_more x.act in let long = rest.0 in (omega arith, rest.1)

-- all inserts and all removals of a drill
total_size : (w : Act → ℕ) (size n from : ℕ) (xs : List Mark) → ((k : ℕ) → IsSeat n k → weigh w (acts_of (calls_from k from xs)) ≡ size) → total w n from xs ≡ n * size
total_size w size zero from xs each = omega arith
total_size w size (suc n) from xs each = let last = each (suc n) (omega arith, omega arith) in
    let rest = total_size w size n from xs (λ k seat. each k (seat.0, let high = seat.1 in omega arith)) in omega (arith, suc-mul n size)

-- a seat's commands are those of a lane of the drill
drilled : (size : ℕ) (script : List (List Act)) (marks : List Mark) → All (IsDrillLane size) script
    → EachAt (λ k (acts : List Act). acts_of (calls_of (k + 1) marks) ≡ acts) script
    → (k : ℕ) → IsSeat (length script) k → IsDrillLane size (acts_of (calls_of k marks))
drilled size script marks drill lanes zero seat = let low = seat.0 in absurd (omega arith)
drilled size script marks drill lanes (suc j) seat = let lt : j < length script = (let high = seat.1 in omega arith) in
    let same : j + 1 ≡ suc j = omega arith in subst (λ (k : ℕ). IsDrillLane size (acts_of (calls_of k marks))) same
    (subst (IsDrillLane size) (sym (lanes j [] lt)) (All-get_or (IsDrillLane size) script j [] lt drill))

pub drill_leaves_nothing : (size : ℕ) (script : List (List Act)) (marks : List Mark) → All (IsDrillLane size) script
    → IsTraceOf (drill_capacity (length script) size) script marks
    → (length marks ≡ 2 * (length script * size)) × (left marks ≡ [])
drill_leaves_nothing size script marks drill trace = let seats : ℕ = length script in
    let each = drilled size script marks drill trace.lanes in
    let owe : Owe size seats 0 marks = λ k seat. let lane = each k seat in subst (IsOwed size) (sym lane.acts_are)
    (lane_owed size size lane.entries (omega arith) (let is = lane.size_is in omega arith)) in
    let p : total puts seats 0 marks ≡ seats * size = total_size puts size seats 0 marks (λ k seat. let lane = each k seat in
    ap (weigh puts) lane.acts_are ∙ (lane_puts size lane.entries ∙ lane.size_is)) in
    let g : total gets seats 0 marks ≡ seats * size = total_size gets size seats 0 marks (λ k seat. let lane = each k seat in
    ap (weigh gets) lane.acts_are ∙ lane_gets size lane.entries) in
    let all = all_gone size seats 0 [] marks trace.legal.seated owe trace.legal.steps (omega arith) in
    let long = all.0 in (omega arith, all.1)
