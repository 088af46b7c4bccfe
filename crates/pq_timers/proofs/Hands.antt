-- What a seat has between the steps of its calls.
use Rattle.std.proofs.Common.{◌≡◌, ◌≢◌, ℕ, zero, suc, ◌+◌, ◌-◌, ◌<◌, ◌≤◌, Bool, cond, List, [], ◌∷◌, ◌++◌, Some, None, replicate, eqb, eq-eqb, ne_eqb, refl, ap, ◌∙◌, subst, sym, inl, inr, ⊎_elim, arith}
use Rattle.std.specs.Prelude.{Contains, MatchBool}
use Rattle.std.proofs.lemmas.Bool.{lt-ltb, le-ltb}
use Rattle.std.proofs.lemmas.List.Elements.{Contains-push_cases, Contains-append_cases}
use mathlib.Core.Logic.{dite}
use native.Mathlib.Decide.{ℕ_discrete}
use Rattle.atomic_table.specs.Table.{Me}
use Rattle.pq_timers.specs.declared.answers.Cancel.TheVariants.{Unknown}
use Rattle.pq_timers.specs.declared.ticket.Ticket.{Ticket}
use Rattle.pq_timers.specs.declared.words.kept.Kept.{Kept}
use Rattle.pq_timers.specs.declared.words.kept.TimerLimits.{TimerLimits}
use Rattle.pq_timers.specs.declared.words.kept.TimerView.{TimerView}
use Rattle.pq_timers.specs.Words.{ticket, with_armed, with_refused, with_moment, with_state, with_fired, firing, kept_joined, looked, answer_of, IsCancel, HasWaited, IsFired, IsDropped}
use Rattle.pq_timers.specs.WordRules.{AreTimers, drawn_view, with_kept, read_ticket, cancelling}

abbrev pub Hand : Type 0
Hand = Me (Unit {0}) TimerView

abbrev pub hand_of : TimerView → Hand
hand_of v = (v, [])

pub replicate-snoc : {A : Type 0} (n : ℕ) (x : A) → replicate n x ++ x ∷ [] ≡ replicate (n + 1) x
replicate-snoc zero x = refl
replicate-snoc {A} (suc n) x = let e : suc (n + 1) ≡ suc n + 1 = omega arith in ap (λ (l : List A). x ∷ l) (replicate-snoc n x) ∙ ap (λ (k : ℕ). replicate k x) e

-- a number that is none of a timer is not to be armed, and one of a timer is
pub spent_idle : (v : TimerView) (number moment : ℕ) → v.kept.limits.timers ≤ number → (drawn_view v number moment).arming ≡ None
spent_idle v number moment past = ap (λ (b : Bool). cond b (Some (ticket number moment)) None) (le-ltb number v.kept.limits.timers past)

pub timer_arming : (v : TimerView) (number moment : ℕ) → number < v.kept.limits.timers → (drawn_view v number moment).arming ≡ Some (ticket number moment)
timer_arming v number moment within = ap (λ (b : Bool). cond b (Some (ticket number moment)) None) (lt-ltb number v.kept.limits.timers within)

pub more_timers : (k : Kept) (t : Ticket) → AreTimers k → t.number < k.limits.timers → AreTimers (with_armed k t)
more_timers k t all within u c = ⊎_elim (all u) (λ e. subst (λ (z : Ticket). z.number < k.limits.timers) e within) (Contains-push_cases k.armed t u c)

pub joined_timers : (k l : Kept) → k.limits ≡ l.limits → AreTimers k → AreTimers l → AreTimers (kept_joined k l)
joined_timers k l same all all' u c = ⊎_elim (all u) (λ had. subst (λ (z : TimerLimits). u.number < z.timers) (sym same) (all' u had)) (Contains-append_cases k.armed l.armed u c)

-- what a seat is between its calls
abbrev pub IsResting : Hand → Type 0
IsResting m = (m.1 ≡ []) × (m.0.arming ≡ None) × (0 < m.0.kept.parts) × AreTimers m.0.kept

-- a step that leaves the seat as it was, but for what it read and ended
pub record KeepsSeat (m w : Hand) : Type 0 where
  pub hands : w.1 ≡ m.1
  pub arming : w.0.arming ≡ m.0.arming
  pub parts : w.0.kept.parts ≡ m.0.kept.parts
  pub limits : w.0.kept.limits ≡ m.0.kept.limits
  pub armed : w.0.kept.armed ≡ m.0.kept.armed

pub rests_on : (m w : Hand) → KeepsSeat m w → IsResting m → IsResting w
rests_on m w k rests = (
  k.hands ∙ rests.0,
  k.arming ∙ rests.1,
  (let a = k.parts in let b = rests.2 in omega arith),
  λ t c. let a = rests.3 t (subst (λ (ts : List Ticket). Contains ts t) k.armed c) in let b = ap (λ (l : TimerLimits). l.timers) k.limits in omega arith,
)

pub refused_keeps : (m w : Hand) (t : Ticket) (found : ℕ) → (found ≡ 1 → w ≡ (with_kept m.0 (with_refused (with_state m.0.kept t.number found) t), m.1)) → (found ≢ 1 → w ≡ (with_kept m.0 (with_state m.0.kept t.number found), m.1)) → KeepsSeat m w
refused_keeps m w t found hit miss = dite (ℕ_discrete found 1)
    (λ e. let is = hit e in record { hands = ap (λ (z : Hand). z.1) is; arming = ap (λ (z : Hand). z.0.arming) is; parts = ap (λ (z : Hand). z.0.kept.parts) is; limits = ap (λ (z : Hand). z.0.kept.limits) is; armed = ap (λ (z : Hand). z.0.kept.armed) is })
    (λ ne. let is = miss ne in record { hands = ap (λ (z : Hand). z.1) is; arming = ap (λ (z : Hand). z.0.arming) is; parts = ap (λ (z : Hand). z.0.kept.parts) is; limits = ap (λ (z : Hand). z.0.kept.limits) is; armed = ap (λ (z : Hand). z.0.kept.armed) is })

pub seen_keeps : (m w : Hand) (number found : ℕ) → w ≡ (with_kept m.0 (with_moment m.0.kept number found), m.1) → KeepsSeat m w
seen_keeps m w number found is = record { hands = ap (λ (z : Hand). z.1) is; arming = ap (λ (z : Hand). z.0.arming) is; parts = ap (λ (z : Hand). z.0.kept.parts) is; limits = ap (λ (z : Hand). z.0.kept.limits) is; armed = ap (λ (z : Hand). z.0.kept.armed) is }

pub state_keeps : (m w : Hand) (number found : ℕ) → w ≡ (with_kept m.0 (with_state m.0.kept number found), m.1) → KeepsSeat m w
state_keeps m w number found is = record { hands = ap (λ (z : Hand). z.1) is; arming = ap (λ (z : Hand). z.0.arming) is; parts = ap (λ (z : Hand). z.0.kept.parts) is; limits = ap (λ (z : Hand). z.0.kept.limits) is; armed = ap (λ (z : Hand). z.0.kept.armed) is }

pub fired_keeps : (m w : Hand) (t : Ticket) (at found : ℕ) → (found ≡ 1 → w ≡ (with_kept m.0 (with_fired (with_state m.0.kept t.number found) (firing t at)), m.1)) → (found ≢ 1 → w ≡ (with_kept m.0 (with_state m.0.kept t.number found), m.1)) → KeepsSeat m w
fired_keeps m w t at found hit miss = dite (ℕ_discrete found 1)
    (λ e. let is = hit e in record { hands = ap (λ (z : Hand). z.1) is; arming = ap (λ (z : Hand). z.0.arming) is; parts = ap (λ (z : Hand). z.0.kept.parts) is; limits = ap (λ (z : Hand). z.0.kept.limits) is; armed = ap (λ (z : Hand). z.0.kept.armed) is })
    (λ ne. let is = miss ne in record { hands = ap (λ (z : Hand). z.1) is; arming = ap (λ (z : Hand). z.0.arming) is; parts = ap (λ (z : Hand). z.0.kept.parts) is; limits = ap (λ (z : Hand). z.0.kept.limits) is; armed = ap (λ (z : Hand). z.0.kept.armed) is })

-- a seat that reads states has read no less than before
pub record IsReading (before k : Kept) : Type 0 where
  pub number : ℕ
  pub word : ℕ
  pub reads : ℕ
  pub more : before.reads ≤ reads
  pub is : k ≡ record before { state_of = number; state_word = word; reads = reads }

pub reads_on : (before k l : Kept) (number word : ℕ) → IsReading before k → l ≡ with_state k number word → IsReading before l
reads_on before k l number word r is = record { number = number; word = word; reads = r.reads + 1; more = (let a = r.more in omega arith); is = is ∙ ap (λ (z : Kept). with_state z number word) r.is }

pub has_waited : (before k l : Kept) (number word : ℕ) → IsReading before k → l ≡ with_state k number word → word ≢ 0 → HasWaited before number l
has_waited before k l number word r is ne = (word, r.reads + 1, ne, (let a = r.more in omega arith), is ∙ ap (λ (z : Kept). with_state z number word) r.is)

cancelling_same : (k : Kept) (t : Ticket) (found : ℕ) → ((cancelling k t found).parts ≡ k.parts) × ((cancelling k t found).limits ≡ k.limits) × ((cancelling k t found).armed ≡ k.armed)
cancelling_same k t zero = (refl, refl, refl)
cancelling_same k t (suc zero) = (refl, refl, refl)
cancelling_same k t (suc (suc zero)) = (refl, refl, refl)
cancelling_same k t (suc (suc (suc zero))) = (refl, refl, refl)
cancelling_same k t (suc (suc (suc (suc n)))) = (refl, refl, refl)

pub cancelled_keeps : (m w : Hand) (t : Ticket) (found : ℕ) → w ≡ (with_kept m.0 (cancelling m.0.kept t found), m.1) → KeepsSeat m w
cancelled_keeps m w t found is = let same = cancelling_same m.0.kept t found in record {
  hands = ap (λ (z : Hand). z.1) is;
  arming = ap (λ (z : Hand). z.0.arming) is;
  parts = ap (λ (z : Hand). z.0.kept.parts) is ∙ same.0;
  limits = ap (λ (z : Hand). z.0.kept.limits) is ∙ same.1;
  armed = ap (λ (z : Hand). z.0.kept.armed) is ∙ same.2;
}

pub both_keep : (m v w : Hand) → KeepsSeat m v → KeepsSeat v w → KeepsSeat m w
both_keep m v w a b = record { hands = b.hands ∙ a.hands; arming = b.arming ∙ a.arming; parts = b.parts ∙ a.parts; limits = b.limits ∙ a.limits; armed = b.armed ∙ a.armed }

-- the ticket that was looked at is read back from the moment word
pub read_back : (k : Kept) (t : Ticket) → read_ticket (looked k t) ≡ t
read_back k t = let e : t.moment + 1 - 1 ≡ t.moment = omega arith in λ i. record { number = t.number; moment = e i }

-- what a cancel answers by the state that it found
pub answered : (before : Kept) (t : Ticket) (found : ℕ) → found ≤ 4 → t.number < before.limits.timers → IsCancel before t (answer_of found) (cancelling (looked before t) t found)
answered before t zero small within = inr (inr (0, inl refl, refl))
answered before t (suc zero) small within = (within, refl)
answered before t (suc (suc zero)) small within = (within, refl)
answered before t (suc (suc (suc zero))) small within = (within, refl)
answered before t (suc (suc (suc (suc zero)))) small within = inr (inr (4, inr refl, refl))
answered before t (suc (suc (suc (suc (suc n))))) small within = absurd (omega arith)

pub is_known : (found : ℕ) → found ≤ 4 → found ≢ 0 → found ≢ 4 → answer_of found ≢ Unknown
is_known zero small none refused e = none refl
is_known (suc zero) small none refused e = absurd (cc)
is_known (suc (suc zero)) small none refused e = absurd (cc)
is_known (suc (suc (suc zero))) small none refused e = absurd (cc)
is_known (suc (suc (suc (suc zero)))) small none refused e = refused refl
is_known (suc (suc (suc (suc (suc n))))) small none refused e = absurd (omega arith)

-- what a fire answers by the state that it found, once the state was set and the moment was the ticket's
pub fired_or_dropped : (before k w : Kept) (t : Ticket) (at found : ℕ) → t.number < before.limits.timers → HasWaited before t.number k → (found ≡ 1 → w ≡ with_fired (with_state (looked k t) t.number found) (firing t at)) → (found ≢ 1 → w ≡ with_state (looked k t) t.number found) → found ≢ 0 → found ≤ 4 → MatchBool (eqb found 1) (IsFired before t at w) (IsDropped before t w)
fired_or_dropped before k w t at found within waited hit miss was_set small = dite (ℕ_discrete found 1)
    (λ e. subst (λ (b : Bool). MatchBool b (IsFired before t at w) (IsDropped before t w)) (sym (eq-eqb found 1 e)) (within, k, waited, hit e ∙ ap (λ (n : ℕ). with_fired (with_state (looked k t) t.number n) (firing t at)) e))
    (λ ne. subst (λ (b : Bool). MatchBool b (IsFired before t at w) (IsDropped before t w)) (sym (ne_eqb found 1 ne)) (inr (k, waited, inr (found, omega arith, small, miss ne))))
