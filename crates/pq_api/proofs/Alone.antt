-- With one seat, the calls of its pass are the history.
use Rattle.std.proofs.Common.{◌≡◌, ℕ, ◌+◌, List, [], ◌∷◌, ◌++◌, length, map, refl, sym, ap, ◌∙◌, subst, arith}
use Rattle.std.specs.Prelude.{All, Contains}
use Rattle.std.proofs.lemmas.List.{map-append, length-map}
use Rattle.std.proofs.lemmas.List.Elements.{All-head, All-tail, All-weaker}
use Rattle.pq_model.specs.declared.marks.Act.{Act}
use Rattle.pq_model.specs.declared.marks.Reply.{Reply}
use Rattle.pq_model.specs.declared.marks.Mark.{Mark}
use Rattle.pq_model.specs.declared.passes.Call.{Call}
use Rattle.pq_model.specs.declared.passes.Lane.{Lane}
use Rattle.pq_model.specs.declared.passes.Known.{Known}
use Rattle.pq_model.specs.History.{mark, IsSeat, IsStep, IsLegal, after, left}
use Rattle.pq_model.specs.Passes.{call, calls_from, calls_of, lane, numbers, HoldsCalls, Witnesses, Knows, IsApart, with_call}
use Rattle.pq_model.proofs.Lanes.{calls_from-own}
use Rattle.pq_model.proofs.Replays.{last_step, left-push}
use Rattle.pq_api.specs.Plain.{marks_of}

abbrev as_mark : ℕ → Call → Mark
as_mark n c = mark n c.act c.reply

-- where all marks are of one seat, its calls are all marks
all_of_one : (n from : ℕ) (history : List Mark) → All (λ (x : Mark). x.seat ≡ n) history → map (as_mark n) (calls_from n from history) ≡ history
all_of_one n from [] all = refl
all_of_one n from (x ∷ xs) all = let P : Mark → Type 0 = λ y. y.seat ≡ n in let seat : x.seat ≡ n = All-head P x xs all in
    let first : calls_from n from (x ∷ xs) ≡ call from x.act x.reply ∷ calls_from n (from + 1) xs =
    subst (λ (m : ℕ). calls_from m from (x ∷ xs) ≡ call from x.act x.reply ∷ calls_from m (from + 1) xs) seat (calls_from-own from x xs) in
    let rest : map (as_mark n) (calls_from n (from + 1) xs) ≡ xs = all_of_one n (from + 1) xs (All-tail P x xs all) in
    ap (map (as_mark n)) first ∙ (λ i. mark (sym seat i) x.act x.reply ∷ rest i)

pub whole_history : (c : ℕ) (k : Known) (history : List Mark) → IsLegal 1 c history → HoldsCalls history k → k.number ≡ 1 → history ≡ marks_of k
whole_history c k history legal holds one = let seats : All (λ (x : Mark). x.seat ≡ k.number) history =
    All-weaker (λ (x : Mark). IsSeat 1 x.seat) (λ (x : Mark). x.seat ≡ k.number) (λ x h. let low = h.0 in let high = h.1 in omega arith) history legal.seated in
    let mine : calls_of k.number history ≡ k.calls = All-head (λ (l : Lane). calls_of l.number history ≡ l.calls) (lane k.number k.calls) k.joined holds in
    sym (all_of_one k.number 0 history seats) ∙ ap (map (as_mark k.number)) mine

-- so the pass knows that its own calls are a legal history
pub knows_own : (c : ℕ) (k : Known) → Knows 1 c k → k.number ≡ 1 → Witnesses 1 c k (marks_of k)
knows_own c k (history, w) one = subst (λ (h : List Mark). Witnesses 1 c k h) (whole_history c k history w.legal w.holds one) w

pub marks_of-call : (k : Known) (place : ℕ) (act : Act) (reply : Reply) → marks_of (with_call k place act reply) ≡ marks_of k ++ mark k.number act reply ∷ []
marks_of-call k place act reply = map-append (as_mark k.number) k.calls (call place act reply ∷ [])

pub length-marks_of : (k : Known) → length (marks_of k) ≡ length k.calls
length-marks_of k = length-map k.calls (as_mark k.number)

-- passes of one number are not apart
pub not_apart : (k other : Known) → k.number ≡ other.number → ¬ IsApart k other
not_apart k other same apart = All-head (λ (n : ℕ). ¬ Contains (numbers other) n) k.number (map (λ (l : Lane). l.number) k.joined) apart (0, omega arith, sym same)

-- each call is a step from what the calls before it leave
pub own_step : (c place : ℕ) (before now : Known) (act : Act) (reply : Reply) → before.number ≡ 1 → now ≡ with_call before place act reply → Knows 1 c now
    → IsStep 1 c (left (marks_of before)) act reply × (left (marks_of now) ≡ after (left (marks_of before)) act reply)
own_step c place before now act reply one is knows = let x : Mark = mark before.number act reply in
    let more : marks_of now ≡ marks_of before ++ x ∷ [] = ap marks_of is ∙ marks_of-call before place act reply in
    let legal : IsLegal 1 c (marks_of before ++ x ∷ []) = subst (λ (h : List Mark). IsLegal 1 c h) more (knows_own c now knows (ap (λ (k : Known). k.number) is ∙ one)).legal in
    (last_step 1 c (marks_of before) x legal, ap left more ∙ left-push (marks_of before) x)
