-- What a call of the queue did, said of a search's fields.
use Rattle.std.proofs.Common.{◌≡◌, ℕ, ◌+◌, ◌<◌, ◌≤◌, List, [], ◌∷◌, ◌++◌, length, set, Some, None, refl, sym, ap, ◌∙◌, subst, arith}
use Rattle.std.specs.Prelude.{slice_get, All, Contains, IfSome}
use Rattle.std.proofs.Math.Seq.{take-append_seam}
use Rattle.std.proofs.lemmas.List.{length-append, map-append}
use Rattle.std.proofs.lemmas.List.Elements.{All-head, Contains-append_right}
use Rattle.pq_words.specs.declared.entries.Entry.{Entry}
use Rattle.pq_model.specs.declared.marks.Act.{Act}
use Rattle.pq_model.specs.declared.marks.Act.TheVariants.{Insert, RemoveBelow}
use Rattle.pq_model.specs.declared.marks.Reply.{Reply}
use Rattle.pq_model.specs.declared.marks.Reply.TheVariants.{Done, Got, Full}
use Rattle.pq_model.specs.declared.marks.Mark.{Mark}
use Rattle.pq_model.specs.declared.passes.Call.{Call}
use Rattle.pq_model.specs.declared.passes.Known.{Known}
use Rattle.pq_model.specs.Multiset.{least}
use Rattle.pq_model.specs.History.{mark, IsLegal, left}
use Rattle.pq_model.specs.declared.passes.Lane.{Lane}
use Rattle.pq_model.specs.Passes.{call, calls_of, lane, Knows, fresh, with_call}
use Rattle.pq_model.proofs.Lanes.{mark_of_call}
use Rattle.pq_model.proofs.Multisets.{with_least}
use Rattle.pq_api.specs.Plain.{marks_of}
use Rattle.pq_api.specs.Laws.{OneSeatHasMadeAll, OneSeatSteps, FullWithOneSeat}
use Rattle.bb_problem.specs.Meaning.{Meaning, IsLawful}
use Rattle.bb_pool.specs.declared.child.Child.{Child}
use Rattle.bb_pool.specs.OneSeat.{held}
use Rattle.bb_pool.specs.Costs.{limit_of}
use Rattle.bb_pool.specs.Endings.{IsWhole, IsNoneBelow, EndsAt, IsFullMark}
use Rattle.bb_pool.specs.Underway.{State, cost_so_far, IsFound, IsUnderway, IsPut, IsTaken, IsSpent}
use Rattle.bb_pool.proofs.Members.{Contains-here}
use Rattle.bb_pool.proofs.Names.{slice_get-new}
use Rattle.bb_pool.proofs.Searches.{root_waits}
use Rattle.bb_pool.proofs.Ending.{none_below, none_taken, ends_at}
use Rattle.bb_pool.proofs.OnePass.Turns.{same_search}

one_more : (before now : Known) (place : ℕ) (act : Act) (reply : Reply) → now ≡ with_call before place act reply → length now.calls ≡ length before.calls + 1
one_more before now place act reply is = ap (λ (k : Known). length k.calls) is ∙ length-append before.calls (call place act reply ∷ [])

pub put_made : {N P : Type 0} {before now : State N P} {key : ℕ} {node : N} (e : Entry) (place : ℕ) → OneSeatSteps → before.queue.known.number ≡ 1
    → now.queue.known ≡ with_call before.queue.known place (Insert e) Done → Knows 1 before.queue.capacity now.queue.known → e.key ≡ key → e.id ≡ length before.store
    → now.store ≡ before.store ++ Some node ∷ [] → now.queue.capacity ≡ before.queue.capacity → now.best ≡ before.best → IsPut before key node now
put_made {before} {now} e place steps one called knows same id stored capacity best =
    let step = steps before.queue.capacity place before.queue.known now.queue.known (Insert e) Done one called knows in record {
      entry = e;
      key_is = same;
      id = id;
      stored = stored;
      room = step.0;
      added = step.1;
      calls = one_more before.queue.known now.queue.known place (Insert e) Done called;
      number = ap (λ (k : Known). k.number) called;
      capacity = capacity;
      best = best;
    }

-- the queue was full
pub full_made : FullWithOneSeat → OneSeatHasMadeAll → (capacity place : ℕ) (before now : Known) (e : Entry) → before.number ≡ 1 → now ≡ with_call before place (Insert e) Full → Knows 1 capacity now
    → length (left (marks_of before)) ≡ capacity
full_made full alone capacity place before now e one called (history, w) =
    let marks : List Mark = marks_of before in let last : Mark = mark before.number (Insert e) Full in
    let whole : history ≡ marks_of now = alone capacity now history w.legal w.holds (ap (λ (k : Known). k.number) called ∙ one) in
    let more : history ≡ marks ++ last ∷ [] = whole ∙ ap marks_of called ∙ map-append (λ (c : Call). mark before.number c.act c.reply) before.calls (call place (Insert e) Full ∷ []) in
    let legal : IsLegal 1 capacity (marks ++ last ∷ []) = subst (IsLegal 1 capacity) more w.legal in
    let size = (full capacity (length marks) before.number (marks ++ last ∷ []) e Full legal (slice_get-new marks last)).0 refl in
    ap (λ (h : List Mark). length (left h)) (sym (take-append_seam marks (last ∷ []))) ∙ size

-- and an insert was answered so
pub full_mark : (capacity place : ℕ) (before now : Known) (e : Entry) → now ≡ with_call before place (Insert e) Full → Knows 1 capacity now → IsFullMark 1 capacity place
full_mark capacity place before now e is (history, w) = let made : Call = call place (Insert e) Full in
    let mine : calls_of now.number history ≡ now.calls = All-head (λ (l : Lane). calls_of l.number history ≡ l.calls) (lane now.number now.calls) now.joined w.holds in
    let there : Contains now.calls made = subst (λ (cs : List Call). Contains cs made) (sym (ap (λ (k : Known). k.calls) is)) (Contains-append_right before.calls (made ∷ []) made (Contains-here made [])) in
    (history, w.legal, now.number, e, mark_of_call now.number history made (subst (λ (cs : List Call). Contains cs made) (sym mine) there))

pub take_made : {N P : Type 0} {before now : State N P} {child : Child N} (e : Entry) (place limit : ℕ) → OneSeatSteps → before.queue.known.number ≡ 1
    → limit ≡ limit_of (cost_so_far before.best) → e.key < limit → now.queue.known ≡ with_call before.queue.known place (RemoveBelow limit) (Got e) → Knows 1 before.queue.capacity now.queue.known
    → child.key ≡ e.key → slice_get before.store e.id ≡ Some (Some child.node) → now.store ≡ set before.store e.id None → now.queue.capacity ≡ before.queue.capacity → now.best ≡ before.best → IsTaken before child now
take_made {before} {now} e place limit steps one is below called knows key node emptied capacity best =
    let step = steps before.queue.capacity place before.queue.known now.queue.known (RemoveBelow limit) (Got e) one called knows in record {
      entry = e;
      key = key;
      better = omega arith;
      first = with_least (held before.queue) e step.0.0 ∙ ap (λ (l : List Entry). e ∷ l) (sym step.1);
      node = node;
      emptied = emptied;
      calls = one_more before.queue.known now.queue.known place (RemoveBelow limit) (Got e) called;
      number = ap (λ (k : Known). k.number) called;
      capacity = capacity;
      best = best;
    }

-- the entry that was removed is the least
pub got_least : (capacity place limit : ℕ) (before now : Known) (e : Entry) → OneSeatSteps → before.number ≡ 1 → now ≡ with_call before place (RemoveBelow limit) (Got e) → Knows 1 capacity now
    → least (left (marks_of before)) ≡ Some e
got_least capacity place limit before now e steps one called knows = (steps capacity place before now (RemoveBelow limit) (Got e) one called knows).0.0

only_one : (k : Known) → k.number ≡ 1 → IsWhole 1 k
only_one k one n (low, high) = (0, omega arith, let e : k.number ≡ n = omega arith in e)

-- a removal found no entry below the best cost
pub none_made : {N P : Type 0} {before now : State N P} (place limit : ℕ) (reply : Reply) → OneSeatSteps → before.queue.known.number ≡ 1 → limit ≡ limit_of (cost_so_far before.best) → IsNoneBelow reply
    → now.queue.known ≡ with_call before.queue.known place (RemoveBelow limit) reply → Knows 1 before.queue.capacity now.queue.known → now.best ≡ before.best → IsSpent before now
none_made {before} {now} place limit reply steps one is none called knows best = let capacity : ℕ = before.queue.capacity in
    let step = steps capacity place before.queue.known now.queue.known (RemoveBelow limit) reply one called knows in
    let ended : EndsAt 1 capacity limit now.queue.known = ends_at 1 capacity limit place before.queue.known now.queue.known reply knows.0 called none (only_one now.queue.known (ap (λ (k : Known). k.number) called ∙ one)) knows.1 in
    record {
      same = step.1 ∙ none_taken limit (held before.queue) reply none;
      high = subst (λ (l : ℕ). IfSome (least (held before.queue)) (λ (e : Entry). l ≤ e.key)) is (none_below 1 capacity limit (held before.queue) reply none step.0);
      ended = subst (λ (l : ℕ). EndsAt 1 capacity l now.queue.known) is ended;
      best = best;
    }

-- a search whose queue has had no call yet, with the root still to be put
pub begun : {N P : Type 0} {m : Meaning N P} (nodes : ℕ) (before : State N P) → IsLawful m → before.queue.known ≡ fresh 1 → before.store ≡ [] → before.best ≡ None
    → IsUnderway m nodes before.queue.capacity before ([] ∷ [])
begun {m} nodes before laws is empty none =
    let nothing : held before.queue ≡ [] = ap (λ (k : Known). left (marks_of k)) is in
    let calls : before.queue.known.calls ≡ [] = ap (λ (k : Known). k.calls) is in
    let length_calls : length before.queue.known.calls ≡ 0 = ap length calls in let length_held : length (held before.queue) ≡ 0 = ap length nothing in let length_store : length before.store ≡ 0 = ap length empty in
    record {
      lawful = laws;
      names = [];
      searching = same_search (sym nothing) (sym empty) (ap cost_so_far (sym none)) (root_waits m before.queue.capacity);
      found = subst (IsFound m) (sym none) tt;
      calls = omega arith;
      number = ap (λ (k : Known). k.number) is;
      within = omega arith;
      capacity_is = refl;
    }

-- what holds of each entry holds of the least
pub of_least : (P : Entry → Type 0) (m : List Entry) (e : Entry) → least m ≡ Some e → All P m → P e
of_least P [] e is all = absurd (cc)
of_least P (x ∷ xs) e is all = let same : x ≡ e = cc in subst P same (All-head P x xs all)
