-- Calls that are put at their places, one after the other.
use Rattle.std.proofs.Common.{◌≡◌, ℕ, zero, suc, ◌+◌, ◌<◌, ◌≢◌, false, List, [], ◌∷◌, ◌++◌, length, map, get_or, set, drop, Some, eqb, refl, sym, ap, subst, ◌∙◌, arith, add-one, drop-cons}
use Rattle.std.specs.Prelude.{All, slice_get}
use Rattle.std.specs.List.{AllByRecursion, IsDistinct}
use Rattle.std.proofs.lemmas.Bool.Decides.{nat_tests}
use Rattle.std.proofs.lemmas.List.{length-set, get_or-set_same}
use Rattle.std.proofs.lemmas.List.Elements.{All-from_recursion, recursion_from_All}
use Rattle.std.proofs.lemmas.Option.{slice_get-get_or}
use Rattle.pq_model.specs.declared.marks.Mark.{Mark}
use Rattle.pq_model.specs.declared.passes.Call.{Call}
use Rattle.pq_model.specs.History.{mark}
use Rattle.pq_tape.specs.Tapes.{Taped, places, IsComplete, IsByPlace, with_calls, with_tapes}

abbrev place_of : Call → ℕ
place_of c = c.place

-- the marks stay as many

pub length-with_calls : (seat : ℕ) (cs : List Call) (ms : List Mark) → length (with_calls seat cs ms) ≡ length ms
length-with_calls seat [] ms = refl
length-with_calls seat (c ∷ cs) ms = length-with_calls seat cs (set ms c.place (mark seat c.act c.reply)) ∙ length-set ms c.place (mark seat c.act c.reply)

pub length-with_tapes : (ts : List Taped) (ms : List Mark) → length (with_tapes ts ms) ≡ length ms
length-with_tapes [] ms = refl
length-with_tapes (t ∷ ts) ms = length-with_tapes ts (with_calls t.lane.number t.lane.calls ms) ∙ length-with_calls t.lane.number t.lane.calls ms

-- the next tape
pub tape_step : (ts : List Taped) (i : ℕ) (t : Taped) (ms : List Mark) → i < length ts → t ≡ get_or ts i t → with_tapes (drop i ts) ms ≡ with_tapes (drop (i + 1) ts) (with_calls t.lane.number t.lane.calls ms)
tape_step ts i t ms lt is =
    let e : drop i ts ≡ t ∷ drop (i + 1) ts = rw add-one (drop-cons ts i t lt ∙ ap (λ (x : Taped). x ∷ drop (suc i) ts) (sym is)) in
    ap (λ (xs : List Taped). with_tapes xs ms) e

-- a place that none of the calls has keeps its mark

-- none of these places is p
abbrev IsOther : ℕ → List ℕ → Type 0
IsOther p ps = AllByRecursion (λ q. eqb p q ≡ false) ps

differ : (p i : ℕ) → eqb p i ≡ false → p ≢ i
differ p i e h = grind (arith, nat_tests)

get-set_other : (ms : List Mark) (i p : ℕ) (x : Mark) → p ≢ i → slice_get (set ms i x) p ≡ slice_get ms p
get-set_other [] i p x e = refl
get-set_other (m ∷ ms) zero zero x e = absurd (e refl)
get-set_other (m ∷ ms) zero (suc p) x e = refl
get-set_other (m ∷ ms) (suc i) zero x e = refl
get-set_other (m ∷ ms) (suc i) (suc p) x e = get-set_other ms i p x (λ h. e (ap suc h))

get-set_same : (ms : List Mark) (i : ℕ) (x : Mark) → i < length ms → slice_get (set ms i x) i ≡ Some x
get-set_same ms i x lt =
    let n : i < length (set ms i x) = omega (arith, length-set ms i x) in
    slice_get-get_or (set ms i x) i x n ∙ ap (λ (y : Mark). Some y) (get_or-set_same ms i x x lt)

calls_other : (seat p : ℕ) (cs : List Call) (ms : List Mark) → IsOther p (map place_of cs) → slice_get (with_calls seat cs ms) p ≡ slice_get ms p
calls_other seat p [] ms o = refl
calls_other seat p (c ∷ cs) ms o = calls_other seat p cs (set ms c.place (mark seat c.act c.reply)) o.1 ∙ get-set_other ms c.place p (mark seat c.act c.reply) (differ p c.place o.0)

other_parts : (p : ℕ) (xs ys : List ℕ) → IsOther p (xs ++ ys) → IsOther p xs × IsOther p ys
other_parts p [] ys o = (tt, o)
other_parts p (x ∷ xs) ys o = let r = other_parts p xs ys o.1 in ((o.0, r.0), r.1)

tapes_other : (p : ℕ) (ts : List Taped) (ms : List Mark) → IsOther p (places ts) → slice_get (with_tapes ts ms) p ≡ slice_get ms p
tapes_other p [] ms o = refl
tapes_other p (t ∷ ts) ms o =
    let r = other_parts p (map place_of t.lane.calls) (places ts) o in
    tapes_other p ts (with_calls t.lane.number t.lane.calls ms) r.1 ∙ calls_other t.lane.number p t.lane.calls ms r.0

-- each call stands at its place

abbrev Stands : List Mark → ℕ → Call → Type 0
Stands history seat c = slice_get history c.place ≡ Some (mark seat c.act c.reply)

abbrev AreBelow : ℕ → List Call → Type 0
AreBelow n cs = AllByRecursion (λ (c : Call). c.place < n) cs

calls_stand : (seat : ℕ) (cs : List Call) (ms : List Mark) → IsDistinct eqb (map place_of cs) → AreBelow (length ms) cs → AllByRecursion (Stands (with_calls seat cs ms) seat) cs
unfolding IsDistinct
calls_stand seat [] ms once below = tt
calls_stand seat (c ∷ cs) ms once below =
    let x : Mark = mark seat c.act c.reply in
    let first : slice_get (with_calls seat cs (set ms c.place x)) c.place ≡ Some x = calls_other seat c.place cs (set ms c.place x) once.0 ∙ get-set_same ms c.place x below.0 in
    let same : length ms ≡ length (set ms c.place x) = sym (length-set ms c.place x) in
    (first, calls_stand seat cs (set ms c.place x) once.1 (subst (λ n. AreBelow n cs) same below.1))

record Apart (xs ys : List ℕ) : Type 0 where
  front : IsDistinct eqb xs
  back : IsDistinct eqb ys
  across : AllByRecursion (λ x. IsOther x ys) xs

apart : (xs ys : List ℕ) → IsDistinct eqb (xs ++ ys) → Apart xs ys
unfolding IsDistinct
apart [] ys once = record { front = tt; back = once; across = tt }
apart (x ∷ xs) ys once =
    let o = other_parts x xs ys once.0 in
    let r = apart xs ys once.1 in
    record { front = (o.0, r.front); back = r.back; across = (o.1, r.across) }

still_stand : (seat : ℕ) (cs : List Call) (ts : List Taped) (ms : List Mark) → AllByRecursion (λ p. IsOther p (places ts)) (map place_of cs) → AllByRecursion (Stands ms seat) cs → AllByRecursion (Stands (with_tapes ts ms) seat) cs
still_stand seat [] ts ms across stand = tt
still_stand seat (c ∷ cs) ts ms across stand = (tapes_other c.place ts ms across.0 ∙ stand.0, still_stand seat cs ts ms across.1 stand.1)

abbrev AreAllBelow : ℕ → List Taped → Type 0
AreAllBelow n ts = AllByRecursion (λ (t : Taped). AreBelow n t.lane.calls) ts

abbrev AllStand : List Mark → List Taped → Type 0
AllStand history ts = AllByRecursion (λ (t : Taped). AllByRecursion (Stands history t.lane.number) t.lane.calls) ts

tapes_stand : (ts : List Taped) (ms : List Mark) → IsDistinct eqb (places ts) → AreAllBelow (length ms) ts → AllStand (with_tapes ts ms) ts
tapes_stand [] ms once below = tt
tapes_stand (t ∷ ts) ms once below =
    let a = apart (map place_of t.lane.calls) (places ts) once in
    let next : List Mark = with_calls t.lane.number t.lane.calls ms in
    let same : length ms ≡ length next = sym (length-with_calls t.lane.number t.lane.calls ms) in (
      still_stand t.lane.number t.lane.calls ts next a.across (calls_stand t.lane.number t.lane.calls ms a.front below.0),
      tapes_stand ts next a.back (subst (λ n. AreAllBelow n ts) same below.1),
    )

-- what is asked of tapes, tape by tape

below_parts : (n : ℕ) (cs : List Call) (ps : List ℕ) → AllByRecursion (λ p. p < n) (map place_of cs ++ ps) → AreBelow n cs × AllByRecursion (λ p. p < n) ps
below_parts n [] ps b = (tt, b)
below_parts n (c ∷ cs) ps b = let r = below_parts n cs ps b.1 in ((b.0, r.0), r.1)

tapes_below : (n : ℕ) (ts : List Taped) → AllByRecursion (λ p. p < n) (places ts) → AreAllBelow n ts
tapes_below n [] b = tt
tapes_below n (t ∷ ts) b = let r = below_parts n t.lane.calls (places ts) b in (r.0, tapes_below n ts r.1)

all_all_below : (n : ℕ) (ts : List Taped) → AreAllBelow n ts → AllByRecursion (λ (t : Taped). All (λ (c : Call). c.place < n) t.lane.calls) ts
all_all_below n [] b = tt
all_all_below n (t ∷ ts) b = (All-from_recursion (λ (c : Call). c.place < n) t.lane.calls b.0, all_all_below n ts b.1)

pub complete_below : (ts : List Taped) (n : ℕ) → n ≡ length (places ts) → IsComplete ts → All (λ (t : Taped). All (λ (c : Call). c.place < n) t.lane.calls) ts
complete_below ts n e is =
    let b : AreAllBelow n ts = subst (λ k. AreAllBelow k ts) (sym e) (tapes_below (length (places ts)) ts (recursion_from_All (λ p. p < length (places ts)) (places ts) is.below)) in
    All-from_recursion (λ (t : Taped). All (λ (c : Call). c.place < n) t.lane.calls) ts (all_all_below n ts b)

all_all_stand : (history : List Mark) (ts : List Taped) → AllStand history ts → AllByRecursion (λ (t : Taped). All (Stands history t.lane.number) t.lane.calls) ts
all_all_stand history [] s = tt
all_all_stand history (t ∷ ts) s = (All-from_recursion (Stands history t.lane.number) t.lane.calls s.0, all_all_stand history ts s.1)

pub is_by_place : (ts : List Taped) (ms : List Mark) → length ms ≡ length (places ts) → IsComplete ts → IsByPlace ts (with_tapes ts ms)
is_by_place ts ms e is =
    let b : AreAllBelow (length ms) ts = subst (λ k. AreAllBelow k ts) (sym e) (tapes_below (length (places ts)) ts (recursion_from_All (λ p. p < length (places ts)) (places ts) is.below)) in
    let history : List Mark = with_tapes ts ms in
    record {
      count = length-with_tapes ts ms ∙ e;
      placed = All-from_recursion (λ (t : Taped). All (Stands history t.lane.number) t.lane.calls) ts (all_all_stand history ts (tapes_stand ts ms is.once b));
    }
