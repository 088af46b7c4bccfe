-- What a plain pass keeps after each of its calls.
use Rattle.std.proofs.Common.{◌≡◌, ◌≢◌, ℕ, ◌-◌, ◌^◌, ◌<◌, List, [], ◌∷◌, ◌++◌, length, refl, sym, ap, ◌∙◌, subst, arith, length-append}
use Rattle.std.specs.Prelude.{◌↔◌, All, Contains}
use Rattle.std.proofs.lemmas.List.Elements.{All-nil, All-weaker}
use Rattle.atomic_table.specs.Seated.{TableId}
use Rattle.pq_words.specs.declared.entries.Entry.{Entry}
use Rattle.pq_model.specs.declared.marks.Act.{Act}
use Rattle.pq_model.specs.declared.marks.Act.TheVariants.{Insert}
use Rattle.pq_model.specs.declared.marks.Reply.{Reply}
use Rattle.pq_model.specs.declared.marks.Reply.TheVariants.{Full}
use Rattle.pq_model.specs.declared.marks.Mark.{Mark}
use Rattle.pq_model.specs.declared.passes.Lane.{Lane}
use Rattle.pq_model.specs.declared.passes.Known.{Known}
use Rattle.pq_model.specs.History.{mark, IsSeat, IsStep, after, left}
use Rattle.pq_model.specs.Passes.{call, numbers, Witnesses, Knows, with_call}
use Rattle.pq_model.proofs.Replays.{left-push}
use Rattle.pq_model.proofs.Fronts.{Witnesses-own}
use Rattle.pq_api.specs.Closing.{IsClosed}
use Rattle.pq_api.specs.Plain.{Plain, marks_of, IsKept}
use Rattle.pq_api.proofs.Alone.{marks_of-call, length-marks_of}
use Rattle.pq_api.proofs.Replayed.{size_bounded, full_exactly}

-- a step more is kept
pub kept_call : (c : ℕ) (k now : Known) (place : ℕ) (act : Act) (reply : Reply) → IsKept c k → IsStep 1 c (left (marks_of k)) act reply → length k.calls < 2 ^ 25 - 1 → place ≡ length k.calls
    → now ≡ with_call k place act reply → IsKept c now
kept_call c k now place act reply h step few at is = let marks : List Mark = marks_of k in let x : Mark = mark k.number act reply in
    let here : length marks ≡ place = length-marks_of k ∙ sym at in let one : k.number ≡ 1 = h.first in
    let longer : marks ++ x ∷ [] ≡ marks_of (with_call k place act reply) = sym (marks_of-call k place act reply) in
    let apart : All (λ (l : Lane). l.number ≢ k.number) k.joined = subst (λ (ls : List Lane). All (λ (l : Lane). l.number ≢ k.number) ls) (sym h.alone) (All-nil (λ (l : Lane). l.number ≢ k.number)) in
    let made : Witnesses 1 c (with_call k (length marks) act reply) (marks ++ x ∷ []) = Witnesses-own 1 c k marks x refl apart (omega arith, omega arith) step h.witnessed in
    subst (IsKept c) (sym is) (record {
      first = h.first;
      alone = h.alone;
      witnessed = subst (λ (z : ℕ × List Mark). Witnesses 1 c (with_call k z.0 act reply) z.1) (λ i. (here i, longer i)) made;
      few = omega (arith, length-append k.calls (call place act reply ∷ []));
    })

-- a history that the pass knows is its own calls
pub kept_knows : {c : ℕ} {k : Known} → IsKept c k → Knows 1 c k
kept_knows {c} {k} h = (marks_of k, h.witnessed)

-- what the calls leave after one more
pub left_call : (k now : Known) (place : ℕ) (act : Act) (reply : Reply) → now ≡ with_call k place act reply → left (marks_of now) ≡ after (left (marks_of k)) act reply
left_call k now place act reply is = ap (λ (z : Known). left (marks_of z)) is ∙ (ap left (marks_of-call k place act reply) ∙ left-push (marks_of k) (mark k.number act reply))

-- an insert is answered Full exactly where as many are held as the capacity is
pub full_kept : {c : ℕ} {k : Known} (e : Entry) (reply : Reply) → IsKept c k → IsStep 1 c (left (marks_of k)) (Insert e) reply → (reply ≡ Full) ↔ (length (left (marks_of k)) ≡ c)
full_kept {c} {k} e reply h step = full_exactly c (left (marks_of k)) e reply (size_bounded 1 c (marks_of k) h.witnessed.legal) step

-- what the pass shows when its queue is closed
pub kept_closed : {c : ℕ} {t : TableId} {k : Known} {old : Plain} (es : List Entry) (n : ℕ) → IsKept c k → record { capacity = c; table = t; known = k } ≡ old → es ≡ left (marks_of k) → n ≡ length k.calls
    → IsClosed 1 old.capacity old.known (record { left = es; length = n })
kept_closed {c} {t} {k} {old} es n h same entries count = let one : k.number ≡ 1 = h.first in subst (λ (v : Plain). IsClosed 1 v.capacity v.known (record { left = es; length = n })) same (record {
  history = marks_of k;
  actual = record {
    holds = h.witnessed.holds;
    own = All-weaker (λ (x : Mark). IsSeat 1 x.seat) (λ (x : Mark). Contains (numbers k) x.seat) (λ x seat. let low = seat.0 in let high = seat.1 in (0, omega arith, omega arith)) (marks_of k) h.witnessed.legal.seated;
  };
  legal = h.witnessed.legal;
  long = length-marks_of k ∙ sym count;
  rest = entries;
})
