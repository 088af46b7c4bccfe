-- What the last removal says, where all passes are joined: it is the last mark, and no entry that is left is below its
-- limit.
use Rattle.std.proofs.Common.{◌≡◌, ℕ, zero, suc, ◌+◌, ◌<◌, ◌≤◌, false, List, [], ◌∷◌, ◌++◌, length, map, Option, refl, sym, ap, ◌∙◌, subst, arith}
use mathlib.Core.Logic.{dite}
use native.Mathlib.Decide.{ℕ_discrete}
use Rattle.std.specs.Prelude.{All, Contains, IfSome}
use Rattle.std.proofs.lemmas.List.{length-append}
use Rattle.std.proofs.lemmas.List.Elements.{All-nil, All-cons, All-head, All-tail, All-weaker, All-contains}
use Rattle.pq_words.specs.declared.entries.Entry.{Entry}
use Rattle.pq_words.specs.Entries.{raw_of}
use Rattle.pq_model.specs.declared.marks.Act.{Act}
use Rattle.pq_model.specs.declared.marks.Act.TheVariants.{RemoveBelow}
use Rattle.pq_model.specs.declared.marks.Reply.{Reply}
use Rattle.pq_model.specs.declared.marks.Reply.TheVariants.{Done, Got, Empty, Full, Above}
use Rattle.pq_model.specs.declared.marks.Mark.{Mark}
use Rattle.pq_model.specs.declared.passes.Call.{Call}
use Rattle.pq_model.specs.declared.passes.Lane.{Lane}
use Rattle.pq_model.specs.declared.passes.Known.{Known}
use Rattle.pq_model.specs.Multiset.{IsRising, least}
use Rattle.pq_model.specs.History.{mark, IsStep, after, IsSeat, left, IsLegal}
use Rattle.pq_model.specs.Passes.{call, calls_of, lane, lanes, numbers, HoldsCalls, IsBehind, Witnesses, with_call}
use Rattle.pq_model.proofs.Multisets.{IsRising-left}
use Rattle.pq_model.proofs.Lanes.{calls_of-own, calls_of-other, calls_of-within}
use Rattle.pq_model.proofs.Replays.{last_step, left-push}
use Rattle.bb_pool.specs.Costs.{is_better, limit_of}
use Rattle.bb_pool.specs.Endings.{IsWhole, IsNoneBelow, EndsWithNone, EndsAt}
use Rattle.bb_pool.proofs.Searches.{key_le}
use Rattle.bb_pool.proofs.Costs.{from_limit}

-- each mark is one of the pass's calls
pub all_own : (seats capacity : ℕ) (k : Known) (history : List Mark) → IsWhole seats k → Witnesses seats capacity k history → All (λ (x : Mark). Contains (numbers k) x.seat) history
all_own seats capacity k history whole w = All-weaker (λ (x : Mark). IsSeat seats x.seat) (λ (x : Mark). Contains (numbers k) x.seat) (λ x is. whole x.seat is) history w.legal.seated

pub lane_at : (ls : List Lane) (n : ℕ) → Contains (map (λ (l : Lane). l.number) ls) n → (l : Lane) × Contains ls l × (l.number ≡ n)
lane_at [] n (i, lt, is) = absurd (omega arith)
lane_at (l ∷ ls) n (zero, lt, is) = (l, (0, omega arith, refl), is)
lane_at (l ∷ ls) n (suc i, lt, is) = let rest = lane_at ls n (i, omega arith, is) in let at = rest.1 in (rest.0, (suc at.0, let within = at.1 in omega arith, at.2), rest.2)

last_or : Call → List Call → Call
last_or d [] = d
last_or d (x ∷ xs) = last_or x xs

last_of : (d a : Call) (xs : List Call) → last_or d (xs ++ a ∷ []) ≡ a
unfolding last_or
last_of d a [] = refl
last_of d a (x ∷ xs) = last_of x a xs

same_last : (xs ys : List Call) (a b : Call) → xs ++ a ∷ [] ≡ ys ++ b ∷ [] → a ≡ b
same_last xs ys a b e = sym (last_of a a xs) ∙ (ap (last_or a) e ∙ last_of a b ys)

at_end : {X : Type 0} (P : X → Type 0) (xs : List X) (a : X) → All P (xs ++ a ∷ []) → P a
at_end P [] a all = All-head P a [] all
at_end P (x ∷ xs) a all = at_end P xs a (All-tail P x (xs ++ a ∷ []) all)

by_end : (P : List Mark → Type 0) → P [] → ((h : List Mark) (x : Mark) → P (h ++ x ∷ [])) → (h : List Mark) → P h
by_end P none more [] = none
by_end P none more (x ∷ xs) = by_end (λ l. P (x ∷ l)) (more [] x) (λ h y. more (x ∷ h) y) xs

-- The mark at the end is the pass's last call, or the pass whose mark it is kept a call past its front.
end_is_last : (k : Known) (p : ℕ) (act : Act) (reply : Reply) (h : List Mark) (x : Mark) → IsBehind (with_call k p act reply) → HoldsCalls (h ++ x ∷ []) (with_call k p act reply) → Contains (numbers k) x.seat → (x.act ≡ act) × (x.reply ≡ reply)
end_is_last k p act reply h x behind holds own = let k' : Known = with_call k p act reply in let n : ℕ = length h in
    let mine : calls_of k.number (h ++ x ∷ []) ≡ k.calls ++ call p act reply ∷ [] = All-head (λ (l : Lane). calls_of l.number (h ++ x ∷ []) ≡ l.calls) (lane k.number (k.calls ++ call p act reply ∷ [])) k.joined holds in
    dite (ℕ_discrete x.seat k.number)
    (λ e. let whole : calls_of k.number (h ++ x ∷ []) ≡ calls_of k.number h ++ call n x.act x.reply ∷ [] =
    subst (λ (z : ℕ). calls_of z (h ++ x ∷ []) ≡ calls_of z h ++ call n x.act x.reply ∷ []) e (calls_of-own h x) in
    let is : call n x.act x.reply ≡ call p act reply = same_last (calls_of k.number h) k.calls (call n x.act x.reply) (call p act reply) (sym whole ∙ mine) in
    (ap (λ (c : Call). c.act) is, ap (λ (c : Call). c.reply) is))
    (λ ne. let whole : calls_of k.number h ≡ k.calls ++ call p act reply ∷ [] = sym (calls_of-other k.number h x ne) ∙ mine in
    let low : p < n = at_end (λ (c : Call). c.place < n) k.calls (call p act reply) (subst (All (λ (c : Call). c.place < n)) whole (calls_of-within k.number h)) in
    let at = lane_at (lanes k') x.seat own in
    let held : calls_of at.0.number (h ++ x ∷ []) ≡ at.0.calls = All-contains (λ (l : Lane). calls_of l.number (h ++ x ∷ []) ≡ l.calls) (lanes k') at.0 holds at.1 in
    let below : All (λ (c : Call). c.place < p + 1) at.0.calls = All-contains (λ (l : Lane). All (λ (c : Call). c.place < p + 1) l.calls) (lanes k') at.0 behind at.1 in
    let its : calls_of x.seat h ++ call n x.act x.reply ∷ [] ≡ at.0.calls = sym (calls_of-own h x) ∙ (ap (λ (z : ℕ). calls_of z (h ++ x ∷ [])) (sym at.2) ∙ held) in
    let high : n < p + 1 = at_end (λ (c : Call). c.place < p + 1) (calls_of x.seat h) (call n x.act x.reply) (subst (All (λ (c : Call). c.place < p + 1)) (sym its) below) in absurd (omega arith))

-- a history that holds a call has a mark
some_mark : (k : Known) (p : ℕ) (act : Act) (reply : Reply) → HoldsCalls [] (with_call k p act reply) → ⊥
some_mark k p act reply holds = let mine : [] ≡ k.calls ++ call p act reply ∷ [] = All-head (λ (l : Lane). calls_of l.number [] ≡ l.calls) (lane k.number (k.calls ++ call p act reply ∷ [])) k.joined holds in
    let long = ap length mine in let more = length-append k.calls (call p act reply ∷ []) in absurd (omega arith)

-- a removal that found none leaves none below its limit
pub none_below : (s c limit : ℕ) (m : List Entry) (reply : Reply) → IsNoneBelow reply → IsStep s c m (RemoveBelow limit) reply → IfSome (least m) (λ (e : Entry). limit ≤ e.key)
none_below s c limit [] reply none step = tt
none_below s c limit (x ∷ xs) Empty none step = absurd (cc)
none_below s c limit (x ∷ xs) Above none step = step
none_below s c limit (x ∷ xs) Done none step = absurd none
none_below s c limit (x ∷ xs) Full none step = absurd none
none_below s c limit (x ∷ xs) (Got e) none step = absurd none

-- and leaves what was there
pub none_taken : (limit : ℕ) (m : List Entry) (reply : Reply) → IsNoneBelow reply → after m (RemoveBelow limit) reply ≡ m
none_taken limit m Empty none = refl
none_taken limit m Above none = refl
none_taken limit m Done none = absurd none
none_taken limit m Full none = absurd none
none_taken limit m (Got e) none = absurd none

-- where the least key is not below a limit, none is
pub from_least : (cost : ℕ) (m : List Entry) → IsRising m → IfSome (least m) (λ (e : Entry). cost ≤ e.key) → All (λ (e : Entry). cost ≤ e.key) m
from_least cost [] rising high = All-nil (λ (e : Entry). cost ≤ e.key)
from_least cost (x ∷ xs) rising high = All-cons (λ (e : Entry). cost ≤ e.key) x xs high
    (All-weaker (λ (y : Entry). raw_of x ≤ raw_of y) (λ (e : Entry). cost ≤ e.key) (λ y le. let more = key_le x y le in omega arith) xs rising.0)

pub none_better : (best : Option ℕ) (m : List Entry) → IsRising m → IfSome (least m) (λ (e : Entry). limit_of best ≤ e.key) → All (λ (e : Entry). is_better e.key best ≡ false) m
none_better best m rising high = All-weaker (λ (e : Entry). limit_of best ≤ e.key) (λ (e : Entry). is_better e.key best ≡ false) (λ e le. from_limit e.key best e.key_fits le) m (from_least (limit_of best) m rising high)

-- the history at whose end a removal found none
ends_with : (s c limit : ℕ) (h : List Mark) (x : Mark) (reply : Reply) → x.act ≡ RemoveBelow limit → x.reply ≡ reply → IsNoneBelow reply → IsLegal s c (h ++ x ∷ [])
    → EndsWithNone limit (h ++ x ∷ []) × IfSome (least (left (h ++ x ∷ []))) (λ (e : Entry). limit ≤ e.key)
ends_with s c limit h x reply act is none legal =
    let step : IsStep s c (left h) (RemoveBelow limit) reply = subst (λ (a : Act × Reply). IsStep s c (left h) a.0 a.1) (λ i. (act i, is i)) (last_step s c h x legal) in
    let same : after (left h) (RemoveBelow limit) reply ≡ left (h ++ x ∷ []) = subst (λ (a : Act × Reply). after (left h) a.0 a.1 ≡ left (h ++ x ∷ [])) (λ i. (act i, is i)) (sym (left-push h x)) in (
      record { earlier = h; seat = x.seat; reply = reply; is = subst (λ (a : Act × Reply). h ++ x ∷ [] ≡ h ++ mark x.seat a.0 a.1 ∷ []) (λ i. (act i, is i)) refl; none = none },
      subst (λ (m : List Entry). IfSome (least m) (λ (e : Entry). limit ≤ e.key)) (sym (none_taken limit (left h) reply none) ∙ same) (none_below s c limit (left h) reply none step),
    )

-- The last call of the pass, into which all are joined, is a removal that found none: so the history ends with it.
pub ends_at : (s c limit p : ℕ) (before k : Known) (reply : Reply) (h : List Mark) → k ≡ with_call before p (RemoveBelow limit) reply → IsNoneBelow reply → IsWhole s k → Witnesses s c k h → EndsAt s c limit k
ends_at s c limit p before k reply h is none whole w = let now : Known = with_call before p (RemoveBelow limit) reply in
    let there : Witnesses s c now h = subst (λ (z : Known). Witnesses s c z h) is w in
    let all : IsWhole s now = subst (IsWhole s) is whole in
    let end = by_end (λ h. HoldsCalls h now → All (λ (x : Mark). Contains (numbers now) x.seat) h → IsLegal s c h → EndsWithNone limit h × IfSome (least (left h)) (λ (e : Entry). limit ≤ e.key))
    (λ holds _ _. absurd (some_mark before p (RemoveBelow limit) reply holds))
    (λ h x holds own legal. let e = end_is_last before p (RemoveBelow limit) reply h x there.behind holds (at_end (λ (y : Mark). Contains (numbers now) y.seat) h x own) in
    ends_with s c limit h x reply e.0 e.1 none legal)
    h there.holds (all_own s c now h all there) there.legal in
    record { whole = whole; history = h; witnessed = w; last = end.0; at_least = end.1 }

-- no entry that is left is below the best cost
pub none_left : (seats capacity : ℕ) (k : Known) (best : Option ℕ) (ends : EndsAt seats capacity (limit_of best) k) → All (λ (e : Entry). is_better e.key best ≡ false) (left ends.history)
none_left seats capacity k best ends = none_better best (left ends.history) (IsRising-left ends.history) ends.at_least
