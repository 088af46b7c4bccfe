-- A history that grows by the mark of one more command.
use Rattle.pq_lanes.specs.Lanes.{acts_of}
use Rattle.pq_lanes.specs.Tracing.{IsTraceOf}
use Rattle.pq_lanes.proofs.Ran.{step_has_line, acts_of_one}
use Rattle.std.proofs.Common.{◌≡◌, ◌∙◌, ◌<◌, ◌+◌, ℕ, zero, suc, List, [], ◌∷◌, ◌++◌, length, get_or, refl, sym, ap, subst, arith, Ok}
use Rattle.std.specs.Prelude.{All}
use Rattle.std.specs.List.{AllByRecursion}
use Rattle.std.proofs.lemmas.List.{length-append, map-append}
use Rattle.std.proofs.lemmas.List.Elements.{All-push}
use Rattle.pq_model.specs.declared.marks.Act.{Act}
use Rattle.pq_model.specs.declared.marks.Reply.{Reply}
use Rattle.pq_model.specs.declared.marks.Mark.{Mark}
use Rattle.pq_model.specs.History.{IsStep, after, left, mark}
use Rattle.pq_model.specs.Passes.{fresh, calls_of}
use Rattle.pq_model.proofs.Replays.{IsLegal-push, left-push}
use Rattle.pq_tape.specs.HistoryText.{HasLine, history_text}
use Rattle.inst_text.specs.Script.{IsCommand, script_of}
use Rattle.pq_api.specs.Plain.{Plain, held}
use Rattle.pq_cli.specs.Tracing.{IsTracing, IsTraced}

pub one_more : (capacity : ℕ) (acts : List Act) (marks : List Mark) (pass next : Plain) (act : Act) (reply : Reply) → IsCommand act →
    IsStep 1 pass.capacity (held pass) act reply → held next ≡ after (held pass) act reply →
    length next.known.calls ≡ length pass.known.calls + 1 → next.capacity ≡ pass.capacity →
    IsTracing capacity acts marks pass → IsTracing capacity (acts ++ act ∷ []) (marks ++ mark 1 act reply ∷ []) next
one_more capacity acts marks pass next act reply is step holds counted same t =
    let x = mark 1 act reply in
    let at : IsStep 1 capacity (left marks) act reply =
    subst (λ m. IsStep 1 capacity m act reply) t.held_is (subst (λ c. IsStep 1 c (held pass) act reply) t.capacity_is step) in
    record {
      acts_are = map-append (λ (y : Mark). y.act) marks (x ∷ []) ∙ ap (λ ys. ys ++ act ∷ []) t.acts_are;
      legal = IsLegal-push 1 capacity marks x t.legal (omega arith, omega arith) at;
      lines = All-push (λ (y : Mark). HasLine y.act y.reply) marks x t.lines (step_has_line 1 capacity (left marks) act reply is at);
      held_is = holds ∙ ap (λ m. after m act reply) t.held_is ∙ sym (left-push marks x);
      calls = counted ∙ ap (λ n. n + 1) t.calls ∙ sym (length-append acts (act ∷ []));
      capacity_is = same ∙ t.capacity_is;
    }

none_yet : (P : Mark → Type 0) → All P []
none_yet P k d lt = absurd (omega arith)

pub nothing_yet : (capacity : ℕ) (pass : Plain) → pass.known ≡ fresh 1 → pass.capacity ≡ capacity → IsTracing capacity [] [] pass
nothing_yet capacity pass new same = record {
  acts_are = refl;
  legal = record { seated = none_yet _; steps = tt };
  lines = none_yet _;
  held_is = rw new refl;
  calls = rw new refl;
  capacity_is = same;
}

pub command_at : (acts : List Act) (i : ℕ) (d : Act) → i < length acts → AllByRecursion IsCommand acts → IsCommand (get_or acts i d)
command_at [] i d lt all = absurd (omega arith)
command_at (a ∷ acts) zero d lt all = all.0
command_at (a ∷ acts) (suc i) d lt all = command_at acts i d (omega arith) all.1

-- at the end the history is that of the script with this one lane
pub all_traced : (capacity : ℕ) (acts : List Act) (marks : List Mark) (pass : Plain) → IsTracing capacity acts marks pass → IsTraceOf capacity (acts ∷ []) marks
all_traced capacity acts marks pass t = record { legal = t.legal; lanes = λ k d lt. only k d lt }
  where
    only : (k : ℕ) (d : List Act) → k < length (acts ∷ []) → acts_of (calls_of (k + 1) marks) ≡ get_or (acts ∷ []) k d
    only zero d lt = acts_of_one capacity marks t.legal ∙ t.acts_are
    only (suc k) d lt = absurd (omega arith)

-- and its text is the answer
pub traced_text : (capacity count : ℕ) (bytes : List ℕ) (script : List (List Act)) (acts : List Act) (marks : List Mark) (pass : Plain) → script_of 1 bytes ≡ Ok script → script ≡ acts ∷ [] →
    pass.capacity ≡ capacity → count ≡ length (held pass) → IsTracing pass.capacity acts marks pass → IsTraced 1 capacity bytes (history_text (record { seats = 1; capacity = capacity }) marks count)
traced_text capacity count bytes script acts marks pass reads only same counted t = record {
  script = acts ∷ [];
  marks = marks;
  reads = reads ∙ ap Ok only;
  trace = subst (λ n. IsTraceOf n (acts ∷ []) marks) same (all_traced pass.capacity acts marks pass t);
  written = ap (history_text (record { seats = 1; capacity = capacity }) marks) (counted ∙ ap length t.held_is);
}
