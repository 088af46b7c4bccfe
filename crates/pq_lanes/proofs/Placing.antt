-- The calls of tapes, put by place, are the actual history of the lanes that the tapes hold.
use Rattle.std.proofs.Common.{◌≡◌, ◌∙◌, ◌≤◌, ◌<◌, ◌+◌, ℕ, zero, suc, false, List, [], ◌∷◌, ◌++◌, length, length-append, map, get_or, Some, eqb, refl, sym, ap, subst, arith}
use Rattle.std.specs.Prelude.{All, Contains, slice_get, ◌==◌}
use Rattle.std.specs.List.{AllByRecursion, IsDistinct}
use Rattle.std.proofs.lemmas.Bool.Decides.{nat_tests}
use Rattle.std.proofs.lemmas.List.{length-map, ext_get_or}
use Rattle.std.proofs.lemmas.List.Elements.{All-from_recursion, recursion_from_All, All-weaker, All-contains, All-map, All-head, All-tail}
use Rattle.std.proofs.lemmas.Option.{get_or_from_slice_get}
use Rattle.pq_model.specs.declared.marks.Act.TheVariants.{Remove}
use Rattle.pq_model.specs.declared.marks.Reply.TheVariants.{Empty}
use Rattle.pq_model.specs.declared.marks.Mark.{Mark}
use Rattle.pq_model.specs.declared.passes.Call.{Call}
use Rattle.pq_model.specs.declared.passes.Lane.{Lane}
use Rattle.pq_model.specs.declared.passes.Known.{Known}
use Rattle.pq_model.specs.History.{mark, IsSeat}
use Rattle.pq_model.specs.Passes.{call, calls_from, calls_of, lanes, numbers, IsActual}
use Rattle.pq_model.proofs.Choices.{by_test}
use Rattle.pq_model.proofs.Lanes.{calls_from-within, calls_of-within, mark_of_call}
use Rattle.pq_model.proofs.Counts.{counted, counted-length}
use Rattle.pq_api.proofs.Places.{each_place, kept_mark}
use Rattle.pq_tape.specs.Tapes.{Taped, places, IsComplete, IsByPlace}
use Rattle.pq_lanes.specs.Lanes.{on_tapes, AreNumbered}

abbrev place_of : Call → ℕ
place_of c = c.place

-- the history holds the calls of each tape
abbrev HoldsTapes : List Mark → List Taped → Type 0
HoldsTapes history ts = AllByRecursion (λ (t : Taped). calls_of t.lane.number history ≡ t.lane.calls) ts

abbrev TapesNumbered : ℕ → List Taped → Type 0
TapesNumbered n ts = AreNumbered n (on_tapes ts)

-- there are as many calls as marks

counted_places : (m : ℕ) (history : List Mark) (ts : List Taped) → TapesNumbered (m + 1) ts → HoldsTapes history ts → counted m 0 history + length (places ts) ≡ counted (m + length ts) 0 history
counted_places m history [] numbered holds = let same : m ≡ m + 0 = omega arith in ap (λ k. counted m 0 history + 0) same ∙ let e : counted m 0 history + 0 ≡ counted m 0 history = omega arith in e ∙ ap (λ k. counted k 0 history) same
counted_places m history (t ∷ ts) numbered holds =
    let one : m + 1 ≡ suc m = omega arith in
    let calls : length (calls_of (suc m) history) ≡ length t.lane.calls = ap (λ n. length (calls_of n history)) (sym (numbered.0 ∙ one)) ∙ ap length holds.0 in
    let parts : length (places (t ∷ ts)) ≡ length t.lane.calls + length (places ts) = length-append (map place_of t.lane.calls) (places ts) ∙ ap (λ n. n + length (places ts)) (length-map t.lane.calls place_of) in
    let rest : counted (suc m) 0 history + length (places ts) ≡ counted (suc m + length ts) 0 history = counted_places (suc m) history ts (subst (λ n. TapesNumbered n ts) (ap (λ n. n + 1) one) numbered.1) holds.1 in
    let same : suc m + length ts ≡ m + length (t ∷ ts) = omega arith in
    let more : counted (suc m) 0 history ≡ length (calls_of (suc m) history) + counted m 0 history = refl in
    let sums : counted m 0 history + length (places (t ∷ ts)) ≡ counted (suc m) 0 history + length (places ts) = omega arith in
    sums ∙ rest ∙ ap (λ n. counted n 0 history) same

numbered_between : (n x : ℕ) (ls : List Lane) → AreNumbered n ls → Contains (map (λ (l : Lane). l.number) ls) x → (n ≤ x) × (x < n + length ls)
numbered_between n x [] numbered (i, lt, is) = absurd (omega arith)
numbered_between n x (l ∷ ls) numbered (zero, lt, is) = let own = numbered.0 in (omega arith, omega arith)
numbered_between n x (l ∷ ls) numbered (suc i, lt, is) = let rest = numbered_between (n + 1) x ls numbered.1 (i, omega arith, is) in let low = rest.0 in let high = rest.1 in (omega arith, omega arith)

-- where each call stands

record StandsFrom (history : List Mark) (n p : ℕ) : Type 0 where
  seat : ℕ
  from : n ≤ seat
  there : Mark
  is : slice_get history p ≡ Some there
  own : there.seat ≡ seat

abbrev StandsAt : List Mark → ℕ → ℕ → Type 0
StandsAt history n p = (x : Mark) × (slice_get history p ≡ Some x) × (x.seat ≡ n)

append_both : (P : ℕ → Type 0) (xs ys : List ℕ) → AllByRecursion P xs → AllByRecursion P ys → AllByRecursion P (xs ++ ys)
append_both P [] ys a b = b
append_both P (x ∷ xs) ys a b = (a.0, append_both P xs ys a.1 b)

weaker : (P Q : ℕ → Type 0) → ((p : ℕ) → P p → Q p) → (xs : List ℕ) → AllByRecursion P xs → AllByRecursion Q xs
weaker P Q f [] a = tt
weaker P Q f (x ∷ xs) a = (f x a.0, weaker P Q f xs a.1)

lane_stands : (history : List Mark) (n : ℕ) (cs : List Call) → AllByRecursion (λ (c : Call). slice_get history c.place ≡ Some (mark n c.act c.reply)) cs → AllByRecursion (StandsAt history n) (map place_of cs)
lane_stands history n [] a = tt
lane_stands history n (c ∷ cs) a = ((mark n c.act c.reply, a.0, refl), lane_stands history n cs a.1)

marks_of_lane : (history : List Mark) (n : ℕ) → All (λ (c : Call). slice_get history c.place ≡ Some (mark n c.act c.reply)) (calls_of n history)
marks_of_lane history n i d lt = mark_of_call n history (get_or (calls_of n history) i d) (i, lt, get_or_same (calls_of n history) i d (get_or (calls_of n history) i d) lt)
  where
    get_or_same : (cs : List Call) (i : ℕ) (d e : Call) → i < length cs → get_or cs i e ≡ get_or cs i d
    get_or_same [] i d e lt = absurd (omega arith)
    get_or_same (c ∷ cs) zero d e lt = refl
    get_or_same (c ∷ cs) (suc i) d e lt = get_or_same cs i d e (omega arith)

tape_stands : (history : List Mark) (t : Taped) (n : ℕ) → t.lane.number ≡ n → calls_of t.lane.number history ≡ t.lane.calls → AllByRecursion (StandsAt history n) (map place_of t.lane.calls)
tape_stands history t n at holds =
    let P : Call → Type 0 = λ c. slice_get history c.place ≡ Some (mark n c.act c.reply) in
    let same : calls_of n history ≡ t.lane.calls = ap (λ m. calls_of m history) (sym at) ∙ holds in
    lane_stands history n t.lane.calls (recursion_from_All P t.lane.calls (subst (All P) same (marks_of_lane history n)))

tapes_stand : (history : List Mark) (n : ℕ) (ts : List Taped) → TapesNumbered n ts → HoldsTapes history ts → AllByRecursion (StandsFrom history n) (places ts)
tapes_stand history n [] numbered holds = tt
tapes_stand history n (t ∷ ts) numbered holds =
    append_both (StandsFrom history n) (map place_of t.lane.calls) (places ts)
    (weaker (StandsAt history n) (StandsFrom history n) (λ p s. record { seat = n; from = omega arith; there = s.0; is = s.1; own = s.2 }) (map place_of t.lane.calls) (tape_stands history t n numbered.0 holds.0))
    (weaker (StandsFrom history (n + 1)) (StandsFrom history n) (λ p s. let later = s.from in record { seat = s.seat; from = omega arith; there = s.there; is = s.is; own = s.own }) (places ts) (tapes_stand history (n + 1) ts numbered.1 holds.1))

-- no two stand at one place

differs : (history : List Mark) (n p q : ℕ) → StandsAt history n p → StandsFrom history (n + 1) q → eqb p q ≡ false
differs history n p q s t = let ne : p ≡ q → ⊥ = λ same. clash same in grind (arith, nat_tests)
  where
    clash : p ≡ q → ⊥
    clash same =
        let there : Some s.0 ≡ Some t.there = sym s.1 ∙ ap (slice_get history) same ∙ t.is in
        let x : s.0 ≡ t.there = cc in
        let seats = ap (λ (y : Mark). y.seat) x in let a = s.2 in let b = t.own in let later = t.from in omega arith

all_differ : (history : List Mark) (n p : ℕ) (qs : List ℕ) → StandsAt history n p → AllByRecursion (StandsFrom history (n + 1)) qs → AllByRecursion (λ q. eqb p q ≡ false) qs
all_differ history n p [] s a = tt
all_differ history n p (q ∷ qs) s a = (differs history n p q s a.0, all_differ history n p qs s a.1)

across : (history : List Mark) (n : ℕ) (ps qs : List ℕ) → AllByRecursion (StandsAt history n) ps → AllByRecursion (StandsFrom history (n + 1)) qs → AllByRecursion (λ p. AllByRecursion (λ q. eqb p q ≡ false) qs) ps
across history n [] qs a b = tt
across history n (p ∷ ps) qs a b = (all_differ history n p qs a.0 b, across history n ps qs a.1 b)

distinct_append : (xs ys : List ℕ) → IsDistinct eqb xs → IsDistinct eqb ys → AllByRecursion (λ x. AllByRecursion (λ y. eqb x y ≡ false) ys) xs → IsDistinct eqb (xs ++ ys)
unfolding IsDistinct
distinct_append [] ys a b apart = b
distinct_append (x ∷ xs) ys a b apart = (append_both (λ y. eqb x y ≡ false) xs ys a.0 apart.0, distinct_append xs ys a.1 b apart.1)

-- within a lane the places rise

all_later : (from : ℕ) (cs : List Call) → AllByRecursion (λ (c : Call). from + 1 ≤ c.place) cs → AllByRecursion (λ q. eqb from q ≡ false) (map place_of cs)
all_later from [] a = tt
all_later from (c ∷ cs) a = let later = a.0 in (grind (arith, nat_tests), all_later from cs a.1)

calls_distinct : (n from : ℕ) (xs : List Mark) → IsDistinct eqb (map place_of (calls_from n from xs))
unfolding IsDistinct
calls_distinct n from [] = tt
calls_distinct n from (x ∷ xs) =
    let rest : List Call = calls_from n (from + 1) xs in
    let within = calls_from-within n (from + 1) xs in
    let later : AllByRecursion (λ (c : Call). from + 1 ≤ c.place) rest = recursion_from_All (λ (c : Call). from + 1 ≤ c.place) rest (λ i d lt. (within i d lt).0) in
    by_test (λ (cs : List Call). IsDistinct eqb (map place_of cs)) (x.seat == n) (call from x.act x.reply ∷ rest) rest
    (λ t. (all_later from rest later, calls_distinct n (from + 1) xs)) (λ t. calls_distinct n (from + 1) xs)

places_distinct : (history : List Mark) (n : ℕ) (ts : List Taped) → TapesNumbered n ts → HoldsTapes history ts → IsDistinct eqb (places ts)
unfolding IsDistinct
places_distinct history n [] numbered holds = tt
places_distinct history n (t ∷ ts) numbered holds =
    distinct_append (map place_of t.lane.calls) (places ts)
    (subst (λ (cs : List Call). IsDistinct eqb (map place_of cs)) holds.0 (calls_distinct t.lane.number 0 history))
    (places_distinct history (n + 1) ts numbered.1 holds.1)
    (across history n (map place_of t.lane.calls) (places ts) (tape_stands history t n numbered.0 holds.0) (tapes_stand history (n + 1) ts numbered.1 holds.1))

-- all places are below the length

places_of : (n : ℕ) (cs : List Call) → AllByRecursion (λ (c : Call). c.place < n) cs → AllByRecursion (λ p. p < n) (map place_of cs)
places_of n [] a = tt
places_of n (c ∷ cs) a = (a.0, places_of n cs a.1)

places_below : (history : List Mark) (ts : List Taped) → HoldsTapes history ts → AllByRecursion (λ p. p < length history) (places ts)
places_below history [] holds = tt
places_below history (t ∷ ts) holds =
    let P : Call → Type 0 = λ c. c.place < length history in
    append_both (λ p. p < length history) (map place_of t.lane.calls) (places ts)
    (places_of (length history) t.lane.calls (recursion_from_All P t.lane.calls (subst (All P) holds.0 (calls_of-within t.lane.number history)))) (places_below history ts holds.1)

-- all together

-- the tapes hold the lanes of a pass, which has an actual history
pub record AreOf (ts : List Taped) (k : Known) (history : List Mark) : Type 0 where
  pub lanes_are : on_tapes ts ≡ lanes k
  pub numbered : AreNumbered 1 (lanes k)
  pub actual : IsActual k history

holds_tapes : (ts : List Taped) (history : List Mark) → All (λ (l : Lane). calls_of l.number history ≡ l.calls) (on_tapes ts) → HoldsTapes history ts
holds_tapes [] history all = tt
holds_tapes (t ∷ ts) history all = let P : Lane → Type 0 = λ l. calls_of l.number history ≡ l.calls in
    (All-head P t.lane (on_tapes ts) all, holds_tapes ts history (All-tail P t.lane (on_tapes ts) all))

all_held : (ts : List Taped) (k : Known) (history : List Mark) → AreOf ts k history → HoldsTapes history ts
all_held ts k history is = holds_tapes ts history (subst (All (λ (l : Lane). calls_of l.number history ≡ l.calls)) (sym is.lanes_are) is.actual.holds)

pub are_seated : (ts : List Taped) (k : Known) (history : List Mark) → AreOf ts k history → All (λ (x : Mark). IsSeat (length ts) x.seat) history
are_seated ts k history is =
    let many : length (lanes k) ≡ length ts = sym (ap length is.lanes_are) ∙ length-map ts (λ (t : Taped). t.lane) in
    All-weaker (λ (x : Mark). Contains (numbers k) x.seat) (λ (x : Mark). IsSeat (length ts) x.seat)
    (λ x own. let between = numbered_between 1 x.seat (lanes k) is.numbered own in let low = between.0 in let high = between.1 in (low, omega arith)) history is.actual.own

pub as_many : (ts : List Taped) (k : Known) (history : List Mark) → AreOf ts k history → length (places ts) ≡ length history
as_many ts k history is =
    let all = counted_places 0 history ts (subst (AreNumbered 1) (sym is.lanes_are) is.numbered) (all_held ts k history is) in
    let same : 0 + length ts ≡ length ts = omega arith in
    let whole = ap (λ n. counted n 0 history) same ∙ counted-length (length ts) 0 history (are_seated ts k history is) in
    omega arith

pub complete : (ts : List Taped) (k : Known) (history : List Mark) → AreOf ts k history → IsComplete ts
complete ts k history is = record {
  below = All-from_recursion (λ p. p < length (places ts)) (places ts) (subst (λ n. AllByRecursion (λ p. p < n) (places ts)) (sym (as_many ts k history is)) (places_below history ts (all_held ts k history is)));
  once = places_distinct history 1 ts (subst (AreNumbered 1) (sym is.lanes_are) is.numbered) (all_held ts k history is);
}

-- what is put by place is the history

placed_lanes : (ts : List Taped) (merged : List Mark) → All (λ (t : Taped). All (λ (c : Call). slice_get merged c.place ≡ Some (mark t.lane.number c.act c.reply)) t.lane.calls) ts
    → All (λ (l : Lane). All (λ (c : Call). slice_get merged c.place ≡ Some (mark l.number c.act c.reply)) l.calls) (on_tapes ts)
placed_lanes ts merged placed = All-map (λ (l : Lane). All (λ (c : Call). slice_get merged c.place ≡ Some (mark l.number c.act c.reply)) l.calls) (λ (t : Taped). t.lane) ts placed

pub merged_is : (ts : List Taped) (k : Known) (history merged : List Mark) → AreOf ts k history → IsByPlace ts merged → merged ≡ history
merged_is ts k history merged is by = ext_get_or none merged history (by.count ∙ as_many ts k history is) at
  where
    none : Mark
    none = mark 0 Remove Empty

    at : (i : ℕ) → i < length merged → get_or merged i none ≡ get_or history i none
    at i lt =
        let count = by.count in let many = as_many ts k history is in
        let kept = each_place k history i is.actual (omega arith) in
        let l = kept.0 in let c = kept.1 in let own = kept.2 in
        let P : Lane → Type 0 = λ l. All (λ (c : Call). slice_get merged c.place ≡ Some (mark l.number c.act c.reply)) l.calls in
        let lane = All-contains P (lanes k) l (subst (All P) is.lanes_are (placed_lanes ts merged by.placed)) own.0 in
        let here = All-contains (λ (c : Call). slice_get merged c.place ≡ Some (mark l.number c.act c.reply)) l.calls c lane own.1 in
        let there = kept_mark k history l c is.actual.holds own in
        let x : Mark = mark l.number c.act c.reply in
        get_or_from_slice_get merged i x none (ap (slice_get merged) (sym kept.3) ∙ here) ∙ sym (get_or_from_slice_get history i x none (ap (slice_get history) (sym kept.3) ∙ there))
