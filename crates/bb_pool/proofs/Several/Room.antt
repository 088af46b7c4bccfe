-- A multiset has no more entries than were inserted, and so a full queue has little capacity.
use Rattle.std.proofs.Common.{◌≡◌, ◌≢◌, ℕ, zero, suc, ◌+◌, ◌<◌, ◌≤◌, List, [], ◌∷◌, length, map, take, refl, sym, ap, subst, inl, inr, arith}
use Rattle.std.specs.Prelude.{All, Contains, ◌==◌}
use Rattle.std.proofs.lemmas.Bool.Decides.{nat_tests}
use Rattle.std.proofs.lemmas.List.Elements.{All-head, All-tail}
use Rattle.pq_words.specs.declared.entries.Entry.{Entry}
use Rattle.pq_model.specs.declared.marks.Act.{Act}
use Rattle.pq_model.specs.declared.marks.Act.TheVariants.{Insert, Remove, RemoveBelow}
use Rattle.pq_model.specs.declared.marks.Reply.{Reply}
use Rattle.pq_model.specs.declared.marks.Reply.TheVariants.{Done, Got, Empty, Full, Above}
use Rattle.pq_model.specs.declared.marks.Mark.{Mark}
use Rattle.pq_model.specs.declared.passes.Call.{Call}
use Rattle.pq_model.specs.declared.passes.Lane.{Lane}
use Rattle.pq_model.specs.declared.passes.Known.{Known}
use Rattle.pq_model.specs.Multiset.{without_least}
use Rattle.pq_model.specs.History.{IsStep, after, left_from, left}
use Rattle.pq_model.specs.Passes.{call, calls_from, calls_of, lanes, numbers, Witnesses}
use Rattle.pq_model.proofs.Choices.{by_test}
use Rattle.pq_model.proofs.Multisets.{length-add}
use Rattle.pq_model.proofs.Replays.{step_at, IsLegalFrom-take}
use Rattle.bb_problem.specs.Tree.{total}
use Rattle.bb_pool.specs.Endings.{IsWhole}
use Rattle.bb_pool.specs.Working.{HasMade}
use Rattle.bb_pool.specs.Room.{done, inserts_of, all_inserts}
use Rattle.bb_pool.proofs.Members.{none_in_empty, Contains-cases}
use Rattle.bb_pool.proofs.Several.Marks.{mark_of, place_of}
use Rattle.bb_pool.proofs.Ending.{all_own}

abbrev in_calls : List Call → ℕ
in_calls cs = total (λ (c : Call). done c.act c.reply) cs

abbrev in_marks : List Mark → ℕ
in_marks h = total (λ (x : Mark). done x.act x.reply) h

shorter : (m : List Entry) → length (without_least m) ≤ length m
shorter [] = omega arith
shorter (x ∷ xs) = omega arith

size : (m : List Entry) (act : Act) (reply : Reply) → length (after m act reply) ≤ length m + done act reply
size m (Insert e) Done = omega (arith, length-add e m)
size m (Insert e) Full = omega arith
size m (Insert e) (Got x) = omega arith
size m (Insert e) Empty = omega arith
size m (Insert e) Above = omega arith
size m Remove (Got e) = let s = shorter m in omega arith
size m Remove Empty = omega arith
size m Remove Done = omega arith
size m Remove Full = omega arith
size m Remove Above = omega arith
size m (RemoveBelow k) (Got e) = let s = shorter m in omega arith
size m (RemoveBelow k) Empty = omega arith
size m (RemoveBelow k) Above = omega arith
size m (RemoveBelow k) Done = omega arith
size m (RemoveBelow k) Full = omega arith

sizes : (m : List Entry) (h : List Mark) → length (left_from m h) ≤ length m + in_marks h
sizes m [] = omega arith
sizes m (x ∷ xs) = let a = size m x.act x.reply in let b = sizes (after m x.act x.reply) xs in omega arith

fewer : (place : ℕ) (h : List Mark) → in_marks (take place h) ≤ in_marks h
fewer zero h = omega arith
fewer (suc place) [] = omega arith
fewer (suc place) (x ∷ xs) = let rest = fewer place xs in omega arith

-- each mark is counted in a lane
abbrev in_seats : List ℕ → ℕ → List Mark → ℕ
in_seats ns from h = total (λ (n : ℕ). in_calls (calls_from n from h)) ns

one_more : (n from : ℕ) (x : Mark) (xs : List Mark) → in_calls (calls_from n (from + 1) xs) ≤ in_calls (calls_from n from (x ∷ xs))
one_more n from x xs = by_test (λ (cs : List Call). in_calls (calls_from n (from + 1) xs) ≤ in_calls cs) (x.seat == n) (call from x.act x.reply ∷ calls_from n (from + 1) xs) (calls_from n (from + 1) xs) (λ _. omega arith) (λ _. omega arith)

its_own : (n from : ℕ) (x : Mark) (xs : List Mark) → n ≡ x.seat → done x.act x.reply + in_calls (calls_from n (from + 1) xs) ≤ in_calls (calls_from n from (x ∷ xs))
its_own n from x xs is = by_test (λ (cs : List Call). done x.act x.reply + in_calls (calls_from n (from + 1) xs) ≤ in_calls cs) (x.seat == n) (call from x.act x.reply ∷ calls_from n (from + 1) xs) (calls_from n (from + 1) xs) (λ _. omega arith)
    (λ t. let ne : x.seat ≢ n = grind (arith, nat_tests) in absurd (ne (sym is)))

no_less : (ns : List ℕ) (from : ℕ) (x : Mark) (xs : List Mark) → in_seats ns (from + 1) xs ≤ in_seats ns from (x ∷ xs)
no_less [] from x xs = omega arith
no_less (n ∷ ns) from x xs = let a = one_more n from x xs in let b = no_less ns from x xs in omega arith

seated : (ns : List ℕ) (from : ℕ) (x : Mark) (xs : List Mark) → Contains ns x.seat → done x.act x.reply + in_seats ns (from + 1) xs ≤ in_seats ns from (x ∷ xs)
seated [] from x xs there = absurd (none_in_empty x.seat there)
seated (n ∷ ns) from x xs there = elim (Contains-cases n x.seat ns there) [
  | inl same ↦ (let a = its_own n from x xs same in let b = no_less ns from x xs in omega arith)
  | inr rest ↦ (let a = one_more n from x xs in let b = seated ns from x xs rest in omega arith)
]

counted : (ns : List ℕ) (from : ℕ) (h : List Mark) → All (λ (x : Mark). Contains ns x.seat) h → in_marks h ≤ in_seats ns from h
counted ns from [] own = omega arith
counted ns from (x ∷ xs) own = let P : Mark → Type 0 = λ y. Contains ns y.seat in let a = seated ns from x xs (All-head P x xs own) in let b = counted ns (from + 1) xs (All-tail P x xs own) in omega arith

in_lanes : (ls : List Lane) (h : List Mark) → All (λ (l : Lane). calls_of l.number h ≡ l.calls) ls → in_seats (map (λ (l : Lane). l.number) ls) 0 h ≡ total inserts_of ls
in_lanes [] h holds = refl
in_lanes (l ∷ ls) h holds = let P : Lane → Type 0 = λ l. calls_of l.number h ≡ l.calls in let a : in_calls (calls_of l.number h) ≡ in_calls l.calls = ap in_calls (All-head P l ls holds) in let b = in_lanes ls h (All-tail P l ls holds) in omega arith

pub full_needs_room : (seats capacity nodes : ℕ) (k : Known) (history : List Mark) (e : Entry) → IsWhole seats k → Witnesses seats capacity k history → HasMade k (Insert e) Full → all_inserts k ≤ nodes → capacity < nodes + seats
full_needs_room seats capacity nodes k history e whole w made few = let m = mark_of k history (Insert e) Full w.holds made in let at = place_of history m.0 m.1 in let place : ℕ = at.0 in
    let step : IsStep seats capacity (left (take place history)) m.0.act m.0.reply = step_at seats capacity [] history place (place + 1) m.0 (omega arith) at.1 (IsLegalFrom-take seats capacity [] (place + 1) history w.legal.steps) in
    let full : capacity < length (left (take place history)) + seats = subst (λ (a : Act × Reply). IsStep seats capacity (left (take place history)) a.0 a.1) (λ i. (m.2 i, m.3 i)) step in
    let some = sizes [] (take place history) in let less = fewer place history in let all = counted (numbers k) 0 history (all_own seats capacity k history whole w) in let same = in_lanes (lanes k) history w.holds in omega arith
