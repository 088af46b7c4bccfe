-- What the outcome says, once all workers are joined: of a stop, and of the best plan.
use Rattle.std.proofs.Common.{◌≡◌, ℕ, ◌+◌, ◌<◌, ◌≤◌, List, [], Option, Some, None, refl, sym, subst, inl, inr, arith}
use Rattle.std.specs.Prelude.{Contains, IsSomeAnd}
use Rattle.std.proofs.lemmas.Bool.{cases_lt}
use Rattle.std.proofs.lemmas.List.Elements.{All-contains}
use Rattle.pq_model.specs.declared.passes.Call.{Call}
use Rattle.pq_model.specs.declared.passes.Lane.{Lane}
use Rattle.pq_model.specs.declared.passes.Known.{Known}
use Rattle.pq_model.specs.Passes.{call, calls_of, lanes, Knows}
use Rattle.pq_model.specs.declared.marks.Act.TheVariants.{Insert}
use Rattle.pq_model.specs.declared.marks.Reply.TheVariants as replies
use Rattle.pq_model.proofs.Lanes.{mark_of_call}
use Rattle.bb_problem.specs.Limits.{size_limit}
use Rattle.bb_problem.specs.Meaning.{Meaning, IsLawful}
use Rattle.bb_shared.specs.Costs.{IsLower}
use Rattle.bb_shared.specs.declared.control.stop.Stop.{Stop}
use Rattle.bb_shared.specs.declared.control.stop.Stop.TheVariants as stops
use Rattle.bb_pool.specs.declared.found.Found.{Found}
use Rattle.bb_pool.specs.declared.outcome.Outcome.{Outcome}
use Rattle.bb_pool.specs.declared.outcome.Outcome.TheVariants as outcomes
use Rattle.bb_pool.specs.Costs.{limit_of}
use Rattle.bb_pool.specs.Endings.{IsWhole, EndsAt, IsFullMark}
use Rattle.bb_pool.specs.Limits.{max_nodes}
use Rattle.bb_pool.specs.Outcomes.{IsOptimal, IsOutcome, IfNodeLimit, outcome_of}
use Rattle.bb_pool.specs.Origins.{HasOriginsFrom}
use Rattle.bb_pool.specs.Underway.{cost_so_far, best_outcome}
use Rattle.bb_pool.specs.Together.{Doing, AtWork, IsCounted, IsNumbered, IsCause, IsTogether, GoesOn}
use Rattle.bb_pool.specs.Turns.{EndsIfWhole}
use Rattle.bb_pool.specs.Runs.{HasRun}
use Rattle.bb_pool.specs.SearchOutcomes.{IsSearchOutcome, IsSearchStop, HasFoundBest, IsFoundByAll}
use Rattle.bb_pool.proofs.Several.Turning.{rooted_more}
use Rattle.bb_pool.proofs.Several.Growing.{best_is_optimal}
use Rattle.bb_pool.proofs.Several.Room.{full_needs_room}
use Rattle.bb_pool.proofs.Several.Traced.{drawn_within_size}
use Rattle.bb_pool.proofs.Several.Runs.{numbered_more, follows_further}

pub whole_of : {N L : Type 0} {seats : ℕ} {w : Doing N L} → IsNumbered seats 1 seats w → IsWhole seats w.known
whole_of t n is = t.each n is.0 is.1

pub stop_answer : {N L : Type 0} (m : Meaning N L) (nodes seats capacity idle : ℕ) (w : Doing N L) (stop : Stop) → IsLawful m → nodes ≤ max_nodes → IsNumbered seats 1 seats w → IsCounted nodes idle w → Knows seats capacity w.known → HasOriginsFrom m 1 w.stored → IsCause nodes w.known w.stored.draws stop
    → IsSearchStop m nodes capacity seats stop
stop_answer m nodes seats capacity idle w (stops.NodeLimit asked) laws few t c knows (root, alone, traced) (over, d, has, low, is) =
    let sized : m.tree_size < size_limit → asked ≤ m.tree_size = drawn_within_size m root w.stored nodes traced c.knows (let a = t.parts in let b = t.seats_are in omega arith) laws d asked has low is in (
      refl,
      over,
      elim (cases_lt m.tree_size size_limit) [
        | inl small ↦ (let within = sized small in omega arith)
        | inr large ↦ omega arith
      ],
      sized,
    )
stop_answer m nodes seats capacity idle w stops.NoMemory laws few t c knows traced cause = tt
stop_answer m nodes seats capacity idle w (stops.Full place) laws few t c (history, is) traced (e, l, has, there) =
    let made : Call = call place (Insert e) replies.Full in
    let few = c.inserts in let nodes_put = c.knows.few_puts in
    let same : calls_of l.number history ≡ l.calls = All-contains (λ (x : Lane). calls_of x.number history ≡ x.calls) (lanes w.known) l is.holds has in (
      full_needs_room seats capacity nodes w.known history e (whole_of t) is (l, has, made, there, refl, refl) (omega arith),
      (history, is.legal, l.number, e, mark_of_call l.number history made (subst (λ (cs : List Call). Contains cs made) (sym same) there)),
    )

pub solved : {N L : Type 0} {m : Meaning N L} {nodes seats capacity idle : ℕ} {u v w : Doing N L} → IsLawful m → u.told.stops ≡ [] → IsTogether m nodes seats capacity idle 1 seats u → HasRun m nodes idle u v → GoesOn nodes 1 v w → AtWork m w → EndsIfWhole seats capacity w
    → HasFoundBest m seats capacity w
solved {m} {nodes} {seats} {capacity} {idle} {u} {v} {w} laws none t r on work ends =
    let f = follows_further r.follows on.follows in let n = numbered_more f t.numbered in
    let parts : w.told.parts ≡ w.told.seats = let a = n.control_parts in let b = n.control_seats in omega arith in
    let store_parts : w.stored.parts ≡ w.stored.seats = let a = n.parts in let b = n.seats_are in omega arith in
    let last = ends parts (whole_of n) in
    let knows = (on.counted idle (idle + 1) refl r.counted).knows in
    let rooted = rooted_more m u.known w.known u.stored.puts w.stored.puts f.calls f.puts (t.rooted refl none) in
    record {
      rooted = rooted;
      working = work;
      matched = knows.matched store_parts;
      ends = last.0;
      optimal = best_is_optimal m seats capacity nodes w.known w.stored w.told w.found laws work rooted last.0 knows store_parts (subst (λ (o : Option ℕ). IsLower w.told.own o) (sym last.1) (λ x better. better));
    }

pub best_answer : {N L : Type 0} (m : Meaning N L) (nodes seats capacity : ℕ) (k : Known) (found : Option (Found L)) → EndsAt seats capacity (limit_of (cost_so_far found)) k → IsSomeAnd found (λ f. IsOptimal m.is_feasible m.cost_of f.plan f.cost) → IsSearchOutcome m nodes capacity seats (best_outcome found)
best_answer m nodes seats capacity k None ends is = absurd is
best_answer m nodes seats capacity k (Some f) ends is = (is, k, ends)

-- the best plan is the one that all found
pub found_by_all : {N L : Type 0} (m : Meaning N L) (seats capacity : ℕ) (w : Doing N L) (found : Option (Found L)) → w.found ≡ found → HasFoundBest m seats capacity w → IsFoundByAll m seats capacity (best_outcome found)
found_by_all m seats capacity w None is solved = tt
found_by_all m seats capacity w (Some f) is solved = (w, solved, subst (λ (o : _). IsSomeAnd o (λ h. (h.plan ≡ f.plan) × (h.cost ≡ f.cost))) (sym is) (refl, refl))

-- a stop says nothing of a plan
pub none_found : {N L : Type 0} (m : Meaning N L) (nodes seats capacity : ℕ) (stop : Stop) → IsFoundByAll m seats capacity (outcome_of stop nodes)
none_found m nodes seats capacity (stops.NodeLimit asked) = tt
none_found m nodes seats capacity (stops.Full place) = tt
none_found m nodes seats capacity stops.NoMemory = tt

-- what a search with one caller says, said as that of several
pub one_outcome : {N L : Type 0} (m : Meaning N L) (nodes capacity seats : ℕ) (out : Outcome L) → seats ≡ 1 → IfNodeLimit out (λ asked limit. limit < m.tree_size) → IfNodeLimit out (λ asked limit. m.tree_size < size_limit → asked ≤ m.tree_size) → IsOutcome m nodes capacity out → IsSearchOutcome m nodes capacity seats out
one_outcome m nodes capacity seats (outcomes.Best plan cost) one low sized (k, is) = (is.optimal, k, subst (λ (n : ℕ). EndsAt n capacity cost k) (sym one) is.ended)
one_outcome m nodes capacity seats (outcomes.NodeLimit asked limit) one low sized is = (is.limit_is, is.over, low, sized)
one_outcome m nodes capacity seats (outcomes.Full place) one low sized is = ((let below = is.below_limit in omega arith), subst (λ (n : ℕ). IsFullMark n capacity place) (sym one) is.told)
one_outcome m nodes capacity seats outcomes.NoMemory one low sized is = tt

pub size_outcome : {N L : Type 0} (m : Meaning N L) (nodes capacity seats : ℕ) (out : Outcome L) → IsSearchOutcome m nodes capacity seats out → IfNodeLimit out (λ asked limit. limit < m.tree_size)
size_outcome m nodes capacity seats (outcomes.Best plan cost) is = tt
size_outcome m nodes capacity seats (outcomes.NodeLimit asked limit) is = is.2
size_outcome m nodes capacity seats (outcomes.Full place) is = tt
size_outcome m nodes capacity seats outcomes.NoMemory is = tt

-- all control seats are joined, and the stop that was read is one of those that were set
pub all_told : {N L : Type 0} {seats : ℕ} {w : Doing N L} → IsNumbered seats 1 seats w → w.told.parts ≡ w.told.seats
all_told n = let a = n.control_parts in let b = n.control_seats in omega arith
