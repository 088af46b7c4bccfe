-- What the status of a call says of how it ended.
use Rattle.std.proofs.Common.{◌≡◌, ◌≤◌, ◌∙◌, ◌⊎◌, min, inl, inr, refl, sym, ap, subst, ℕ, List, Option, None, Some, IfSome, MatchOption, Result, Ok, Err, arith}
use Rattle.std.specs.Prelude.{IfOk, IfErr, MatchResult}
use Rattle.bb_pool.specs.Outcomes.{IsOverLimit, IsFullAt}
use Rattle.pq_cli.specs.declared.answer.Answer.{Answer}
use Rattle.cli_words.specs.declared.command.Command.{Command}
use Rattle.pq_cli.specs.declared.refusal.Refusal.{Refusal}
use Rattle.pq_cli.specs.declared.refusal.Refusal.TheVariants as refusals
use Rattle.pq_cli.specs.declared.status.Status.{Status}
use Rattle.pq_cli.specs.declared.status.Status.TheVariants as statuses
use Rattle.pq_cli.specs.Answers.{status_in, text_in}
use Rattle.pq_cli.specs.Commands.{duty_of}
use Rattle.pq_cli.specs.Duties.{Duty, Reads, Writes}
use Rattle.pq_cli.specs.Refusals.{status_of}
use Rattle.pq_cli.specs.Statuses.{IsAnswered}
use Rattle.pq_cli.specs.Streams.{Change, IsFailed, IsSame, IsSound, HasFailedOnce}
use Rattle.pq_cli.specs.Work.{Work, Search, fault_of, HasEnough}
use Rattle.pq_cli.specs.Runs.{StopsWork, Stops, Answers, IsWhole, Ends, IsWritten, IsUnread, IsRun, IsReported, IsAnsweredWhole, IsComplete, TellsFaults}

-- what a command came to, and what writing it came to

made_ends : {I O : Type 0} (duty : Duty) (made : Result Answer Refusal) (status : Status) (input : Change I) (output : Change O) →
    IfOk made (λ a. Answers duty (status_in a) (text_in a) input) → IfErr made (Stops duty input) →
    MatchResult made (λ a. IsWritten (text_in a) (status_in a) status output) (λ r. (status ≡ status_of r) × IsSame output) →
    Ends duty status input output
made_ends duty (Ok a) status input output answers stops written = elim written [
  | inl whole ↦ inl (record { text = text_in a; answers = rw whole.0 answers; written = whole.1; sound = whole.2 })
  | inr cut ↦ inr (inr (record {
    answered = status_in a;
    text = text_in a;
    named = cut.0;
    answers = answers;
    written = cut.2;
    failed = cut.1;
  }))
]
made_ends duty (Err r) status input output answers stops written =
    inr (inl (record { refusal = r; named = written.0; stops = stops; same = written.1 }))

pub made_run : {I O : Type 0} (said : Option Command) (c : Command) (made : Result Answer Refusal) (status : Status) (input : Change I) (output : Change O) →
    said ≡ Some c → IfOk made (λ a. Answers (duty_of c) (status_in a) (text_in a) input) → IfErr made (Stops (duty_of c) input) →
    MatchResult made (λ a. IsWritten (text_in a) (status_in a) status output) (λ r. (status ≡ status_of r) × IsSame output) →
    IsRun said status input output
made_run None c made status input output is answers stops written = absurd (cc)
made_run (Some k) c made status input output is answers stops written =
    let same : c ≡ k = cc in
    subst (λ x. Ends (duty_of x) status input output) same (made_ends (duty_of c) made status input output answers stops written)

-- answers

-- faults

-- a count that rose by one rose, or stands at its last value
once_rose : {S : Type 0} (stream : Change S) → HasFailedOnce stream → IsFailed stream
once_rose stream once = omega (arith, once)

same_sound : {S : Type 0} (stream : Change S) → IsSame stream → IsSound stream
same_sound stream same = ap stream.faults same

answers_sound : {I : Type 0} (duty : Duty) (status : Status) (text : List ℕ) (input : Change I) → Answers duty status text input → IsSound input
answers_sound (Reads work) status text input h = h.taken.sound
answers_sound (Writes own) status text input h = same_sound input h.unread

work_sound : {I : Type 0} (work : Work) (input : Change I) (refusal : Refusal) → StopsWork work input refusal → (status_of refusal ≡ statuses.ReadFault → ⊥) → IsSound input
work_sound work input (refusals.BadInput fault) h not = h.sound
work_sound work input (refusals.NodeLimit asked limit) h not = h.taken.sound
work_sound work input (refusals.Full place) h not = h.taken.sound
work_sound work input refusals.ReadFault h not = absurd (not refl)
work_sound work input refusals.NoMemory h not = h
work_sound work input refusals.ProofLimit h not = h.taken.sound

stops_sound : {I : Type 0} (duty : Duty) (input : Change I) (refusal : Refusal) → Stops duty input refusal → (status_of refusal ≡ statuses.ReadFault → ⊥) → IsSound input
stops_sound (Reads work) input refusal h not = work_sound work input refusal h not
stops_sound (Writes own) input refusal h not = same_sound input h.0

end_reads : {I O : Type 0} (duty : Duty) (status : Status) (input : Change I) (output : Change O) →
    Ends duty status input output → (status ≡ statuses.ReadFault → ⊥) → IsSound input
end_reads duty status input output (inl whole) not = answers_sound duty status whole.text input whole.answers
end_reads duty status input output (inr (inl s)) not = stops_sound duty input s.refusal s.stops (λ e. not (s.named ∙ e))
end_reads duty status input output (inr (inr cut)) not = answers_sound duty cut.answered cut.text input cut.answers

end_writes : {I O : Type 0} (duty : Duty) (status : Status) (input : Change I) (output : Change O) →
    Ends duty status input output → (status ≡ statuses.WriteFault → ⊥) → IsSound output
end_writes duty status input output (inl whole) not = whole.sound
end_writes duty status input output (inr (inl s)) not = same_sound output s.same
end_writes duty status input output (inr (inr cut)) not = absurd (not cut.named)

run_reads : {I O : Type 0} (said : Option Command) (status : Status) (input : Change I) (output : Change O) →
    IsRun said status input output → (status ≡ statuses.ReadFault → ⊥) → IsSound input
run_reads None status input output ran not = same_sound input ran.unread
run_reads (Some c) status input output ran not = end_reads (duty_of c) status input output ran not

run_writes : {I O : Type 0} (said : Option Command) (status : Status) (input : Change I) (output : Change O) →
    IsRun said status input output → (status ≡ statuses.WriteFault → ⊥) → IsSound output
run_writes None status input output ran not = same_sound output ran.unwritten
run_writes (Some c) status input output ran not = end_writes (duty_of c) status input output ran not

-- where the call does not end with a write fault, its status is the one that it came to, and the faults took the line
told_line : {E : Type 0} (status ended : Status) (faults : Change E) →
    IsReported status ended faults → (ended ≡ statuses.WriteFault → ⊥) → (ended ≡ status) × IsSound faults
told_line status ended faults reported not = elim reported.line [
  | inl same ↦ (same.0, same.2)
  | inr failed ↦ absurd (not failed.0)
]

-- the faults of the three streams show in the status
pub faults_told : {I O E : Type 0} (said : Option Command) (status ended : Status) (input : Change I) (output : Change O) (faults : Change E) →
    IsRun said status input output → IsReported status ended faults → TellsFaults ended input output faults
faults_told said status ended input output faults ran reported = record {
  read = λ not_read not_write. run_reads said status input output ran (λ e. not_read ((told_line status ended faults reported not_write).0 ∙ e));
  written = λ not_write. let line = told_line status ended faults reported not_write in
      (run_writes said status input output ran (λ e. not_write (line.0 ∙ e)), line.1);
}

-- answers, again

not_answered : (refusal : Refusal) → IsAnswered (status_of refusal) → ⊥
not_answered (refusals.BadInput fault) h = h
not_answered (refusals.NodeLimit asked limit) h = h
not_answered (refusals.Full place) h = h
not_answered refusals.ReadFault h = h
not_answered refusals.NoMemory h = h
not_answered refusals.ProofLimit h = h

whole_end : {I O : Type 0} (duty : Duty) (status : Status) (input : Change I) (output : Change O) →
    IsAnswered status → Ends duty status input output → IsWhole duty status input output
whole_end duty status input output answered (inl whole) = whole
whole_end duty status input output answered (inr (inl s)) = absurd (not_answered s.refusal (subst IsAnswered s.named answered))
whole_end duty status input output answered (inr (inr cut)) = absurd (subst IsAnswered cut.named answered)

whole_run : {I O : Type 0} (said : Option Command) (status : Status) (input : Change I) (output : Change O) →
    IsAnswered status → IsRun said status input output → IsAnsweredWhole said status input output
whole_run None status input output answered ran = elim ran.cause [
  | inl bad_words ↦ absurd (subst IsAnswered bad_words answered)
  | inr no_memory ↦ absurd (subst IsAnswered no_memory answered)
]
whole_run (Some c) status input output answered ran =
    record { command = c; is = refl; whole = whole_end (duty_of c) status input output answered ran }

kept_end : {E : Type 0} (status ended : Status) (faults : Change E) → IsReported status ended faults → IsAnswered ended → ended ≡ status
kept_end status ended faults reported answered = elim reported.line [
  | inl same ↦ same.0
  | inr failed ↦ absurd (subst IsAnswered failed.0 answered)
]

-- at Ok and Illegal the command that was said has its whole answer in the output
pub answered_whole : {I O E : Type 0} (said : Option Command) (status ended : Status) (input : Change I) (output : Change O) (faults : Change E) →
    IsRun said status input output → IsReported status ended faults → IsAnswered ended → IsAnsweredWhole said ended input output
answered_whole said status ended input output faults ran reported answered =
    let same = kept_end status ended faults reported answered in
    rw same (whole_run said status input output (subst IsAnswered same answered) ran)

-- completeness

with_some : {A : Type 0} (o : Option A) (P : A → Type 0) → ((x : A) → o ≡ Some x → P x) → IfSome o P
with_some None P f = tt
with_some (Some x) P f = f x refl

said_ends : {I O : Type 0} (said : Option Command) (c : Command) (status : Status) (input : Change I) (output : Change O) →
    said ≡ Some c → IsRun said status input output → Ends (duty_of c) status input output
said_ends said c status input output is ran =
    subst (λ o. MatchOption o (IsUnread status input output) (λ k. Ends (duty_of k) status input output)) is ran

left_is : {A : Type 0} (o : Option A) (x y : A) → o ≡ Some y → IfSome o (λ z. x ≡ z) → x ≡ y
left_is o x y is h = subst (λ p. IfSome p (λ z. x ≡ z)) is h

not_limited : (search : Option Search) (bytes : List ℕ) (asked limit : ℕ) →
    IfSome search (λ s. (s.needs bytes ≤ s.limits.nodes) × (min s.limits.nodes (s.needs bytes) ≤ s.limits.capacity)) →
    MatchOption search ⊥ (λ s. IsOverLimit (s.needs bytes) s.limits.nodes asked limit) → ⊥
not_limited None bytes asked limit enough h = h
not_limited (Some s) bytes asked limit enough h = omega (arith, enough.0, h.limit_is, h.over, h.within)

not_filled : (search : Option Search) (bytes : List ℕ) (place : ℕ) →
    IfSome search (λ s. (s.needs bytes ≤ s.limits.nodes) × (min s.limits.nodes (s.needs bytes) ≤ s.limits.capacity)) →
    MatchOption search ⊥ (λ s. IsFullAt (s.needs bytes) s.limits.nodes s.limits.capacity place) → ⊥
not_filled None bytes place enough h = h
not_filled (Some s) bytes place enough h = omega (arith, enough.0, enough.1, h.below_limit, h.below_needed)

-- what a refusal leaves: where the input has a reading, the limits are enough and the source did not fail, only want of
-- memory stops the work
no_memory : {I : Type 0} (work : Work) (input : Change I) (refusal : Refusal) (bytes : List ℕ) → input.told input.old ≡ Some bytes →
    fault_of work bytes ≡ None → HasEnough work bytes → (IsFailed input → ⊥) → StopsWork work input refusal → refusal ≡ refusals.NoMemory
no_memory work input (refusals.BadInput fault) bytes told reads enough still h =
    let same = left_is (input.told input.old) h.bytes bytes told h.were_left in
    let faulty = h.faulty in
    absurd (cc (same, faulty, reads))
no_memory work input (refusals.NodeLimit asked limit) bytes told reads enough still h =
    let same = left_is (input.told input.old) h.bytes bytes told h.taken.were_left in
    absurd (not_limited work.search bytes asked limit enough.for_search (rw same at h.holds.1))
no_memory work input (refusals.Full place) bytes told reads enough still h =
    let same = left_is (input.told input.old) h.bytes bytes told h.taken.were_left in
    absurd (not_filled work.search bytes place enough.for_search (rw same at h.holds.1))
no_memory work input refusals.ReadFault bytes told reads enough still h = absurd (still (once_rose input h))
no_memory work input refusals.NoMemory bytes told reads enough still h = refl
no_memory work input refusals.ProofLimit bytes told reads enough still h =
    let same = left_is (input.told input.old) h.bytes bytes told h.taken.were_left in
    absurd (enough.for_proof (rw same at h.holds))

answers_end : {I : Type 0} (duty : Duty) (status : Status) (text : List ℕ) (input : Change I) → Answers duty status text input → IsAnswered status
answers_end (Reads work) status text input h = h.ended
answers_end (Writes own) status text input h = subst IsAnswered (sym h.ended) tt

-- the same of all three ways in which a command ends
answered_or_no_memory : {I O : Type 0} (duty : Duty) (status : Status) (input : Change I) (output : Change O) →
    ((refusal : Refusal) → Stops duty input refusal → refusal ≡ refusals.NoMemory) → (IsFailed output → ⊥) →
    Ends duty status input output → IsAnswered status ⊎ (status ≡ statuses.NoMemory)
answered_or_no_memory duty status input output only written (inl whole) = inl (answers_end duty status whole.text input whole.answers)
answered_or_no_memory duty status input output only written (inr (inl s)) = inr (s.named ∙ ap status_of (only s.refusal s.stops))
answered_or_no_memory duty status input output only written (inr (inr cut)) = absurd (written (once_rose output cut.failed))

kept_outcome : {E : Type 0} (status ended : Status) (faults : Change E) → IsReported status ended faults → (IsFailed faults → ⊥) →
    IsAnswered status ⊎ (status ≡ statuses.NoMemory) → IsAnswered ended ⊎ (ended ≡ statuses.NoMemory)
kept_outcome status ended faults reported still outcome = elim reported.line [
  | inl same ↦ rw same.0 outcome
  | inr failed ↦ absurd (still (once_rose faults failed.1))
]

-- where there was all that the command needs, there is an answer, or no memory
ended_complete : {I O E : Type 0} (duty : Duty) (status ended : Status) (input : Change I) (output : Change O) (faults : Change E) →
    Ends duty status input output → IsReported status ended faults → IsComplete duty ended input output faults
ended_complete (Reads work) status ended input output faults ends reported = with_some (input.told input.old) _ (λ bytes told reads enough still written reporting.
    kept_outcome status ended faults reported reporting
    (answered_or_no_memory (Reads work) status input output (λ refusal h. no_memory work input refusal bytes told reads enough still h) written ends))
ended_complete (Writes own) status ended input output faults ends reported = λ written reporting.
    kept_outcome status ended faults reported reporting
    (answered_or_no_memory (Writes own) status input output (λ refusal h. h.1) written ends)

pub completed : {I O E : Type 0} (said : Option Command) (status ended : Status) (input : Change I) (output : Change O) (faults : Change E) →
    IsRun said status input output → IsReported status ended faults →
    (c : Command) → said ≡ Some c → IsComplete (duty_of c) ended input output faults
completed said status ended input output faults ran reported c is =
    ended_complete (duty_of c) status ended input output faults (said_ends said c status input output is ran) reported
