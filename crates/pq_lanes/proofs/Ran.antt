-- What all callers together have run, and the history of it.
use Rattle.std.proofs.Common.{◌≡◌, ◌∙◌, ◌≤◌, ◌+◌, ℕ, zero, suc, List, [], ◌∷◌, ◌++◌, length, map, take, get_or, refl, sym, ap, subst, arith}
use Rattle.std.proofs.Math.Seq.{take-append_seam}
use Rattle.std.specs.Prelude.{All, Contains, slice_index_or, slice_get, Some}
use Rattle.std.specs.List.{AllByRecursion}
use Rattle.std.proofs.lemmas.List.{length-map}
use Rattle.std.proofs.lemmas.List.Elements.{All-from_recursion, recursion_from_All, All-get_or, All-contains, All-head, All-tail}
use Rattle.std.proofs.lemmas.Option.{slice_get-get_or}
use Rattle.pq_words.specs.declared.entries.Entry.{Entry}
use Rattle.pq_model.specs.declared.marks.Act.{Act}
use Rattle.pq_model.specs.declared.marks.Act.TheVariants.{Insert, Remove, RemoveBelow}
use Rattle.pq_model.specs.declared.marks.Reply.{Reply}
use Rattle.pq_model.specs.declared.marks.Reply.TheVariants.{Done, Got, Empty, Full, Above}
use Rattle.pq_model.specs.declared.marks.Mark.{Mark}
use Rattle.pq_model.specs.declared.passes.Call.{Call}
use Rattle.pq_model.specs.declared.passes.Lane.{Lane}
use Rattle.pq_model.specs.declared.passes.Known.{Known}
use Rattle.pq_model.specs.History.{IsStep, IsLegal, IsLegalFrom, IsSeat, after}
use Rattle.pq_model.specs.Passes.{call, calls_from, calls_of, lanes, IsActual}
use Rattle.pq_model.proofs.Lanes.{call_of_mark, calls_from-own}
use Rattle.pq_api.specs.Answers.{EachAt}
use Rattle.pq_tape.specs.Tapes.{Taped}
use Rattle.pq_tape.specs.HistoryText.{HasLine}
use Rattle.inst_text.specs.Script.{IsCommand, IsScript}
use Rattle.pq_lanes.specs.Lanes.{acts_of, on_tapes, HaveRun, HasMade, AreNumbered}
use Rattle.pq_lanes.specs.Tracing.{IsTraceOf}
use Rattle.pq_lanes.proofs.Making.{each_of}

-- each caller its lane

pub have_run : {X : Type 0} (s c : ℕ) (known : X → Known) (tape : X → Lane) (n : ℕ) (script : List (List Act)) (xs : List X) → length xs ≡ length script
    → EachAt (λ k x. HasMade s c (k + n) (slice_index_or script k []) (known x) (tape x)) xs → HaveRun n script (map tape xs)
have_run s c known tape n [] [] count all = tt
have_run s c known tape n [] (x ∷ xs) count all = absurd (omega arith)
have_run s c known tape n (acts ∷ script) [] count all = absurd (omega arith)
have_run s c known tape n (acts ∷ script) (x ∷ xs) count all =
    let first : HasMade s c (0 + n) acts (known x) (tape x) = all 0 x (omega arith) in
    let start : 0 + n ≡ n = omega arith in (
      ap (λ (l : Lane). l.number) first.taped ∙ start,
      ap (λ (l : Lane). acts_of l.calls) first.taped ∙ first.acts_are,
      have_run s c known tape (n + 1) script xs (omega arith)
          (λ k d lt. let same : suc k + n ≡ k + (n + 1) = omega arith in
          subst (λ j. HasMade s c j (slice_index_or script k []) (known (slice_index_or xs k d)) (tape (slice_index_or xs k d))) same (all (suc k) d (omega arith))),
    )

-- the callers as the vector that was lent has them
pub written_back : {A : Type 0} (xs ys : List A) (n : ℕ) → n ≡ length xs → take n (xs ++ ys) ≡ xs
written_back xs ys n many = ap (λ k. take k (xs ++ ys)) many ∙ take-append_seam xs ys

pub numbered : (n : ℕ) (script : List (List Act)) (ls : List Lane) → HaveRun n script ls → AreNumbered n ls
numbered n [] [] ran = tt
numbered n [] (l ∷ ls) ran = absurd ran
numbered n (acts ∷ script) [] ran = absurd ran
numbered n (acts ∷ script) (l ∷ ls) ran = (ran.0, numbered (n + 1) script ls ran.2)

pub as_many_lanes : (n : ℕ) (script : List (List Act)) (ls : List Lane) → HaveRun n script ls → length ls ≡ length script
as_many_lanes n [] [] ran = refl
as_many_lanes n [] (l ∷ ls) ran = absurd ran
as_many_lanes n (acts ∷ script) [] ran = absurd ran
as_many_lanes n (acts ∷ script) (l ∷ ls) ran = ap suc (as_many_lanes (n + 1) script ls ran.2)

pub as_many_tapes : (script : List (List Act)) (ts : List Taped) (ls : List Lane) → on_tapes ts ≡ ls → HaveRun 1 script ls → length ts ≡ length script
as_many_tapes script ts ls are ran = sym (length-map ts (λ (t : Taped). t.lane)) ∙ ap length are ∙ as_many_lanes 1 script ls ran

-- the marks of each lane are its commands

abbrev Holds : List Mark → Lane → Type 0
Holds history l = calls_of l.number history ≡ l.calls

lanes_marked : (n : ℕ) (script : List (List Act)) (ls : List Lane) (history : List Mark) → HaveRun n script ls → All (Holds history) ls
    → EachAt (λ k (acts : List Act). acts_of (calls_of (k + n) history) ≡ acts) script
lanes_marked n [] ls history ran holds k d lt = absurd (omega arith)
lanes_marked n (acts ∷ script) [] history ran holds k d lt = absurd ran
lanes_marked n (acts ∷ script) (l ∷ ls) history ran holds zero d lt =
    let start : 0 + n ≡ l.number = let own = ran.0 in omega arith in
    ap (λ j. acts_of (calls_of j history)) start ∙ ap acts_of (All-head (Holds history) l ls holds) ∙ ran.1
lanes_marked n (acts ∷ script) (l ∷ ls) history ran holds (suc k) d lt =
    let same : suc k + n ≡ k + (n + 1) = omega arith in
    ap (λ j. acts_of (calls_of j history)) same ∙ lanes_marked (n + 1) script ls history ran.2 (All-tail (Holds history) l ls holds) k d (omega arith)

pub is_trace : (seats capacity : ℕ) (script : List (List Act)) (k : Known) (history : List Mark) → seats ≡ length script → HaveRun 1 script (lanes k) → IsActual k history
    → IsLegal seats capacity history → IsTraceOf capacity script history
is_trace seats capacity script k history many ran actual legal = record {
  legal = subst (λ s. IsLegal s capacity history) many legal;
  lanes = lanes_marked 1 script (lanes k) history ran actual.holds;
}

-- each mark has a line

-- a step has a line, if the command's limit is one
pub step_has_line : (seats capacity : ℕ) (m : List Entry) (act : Act) (reply : Reply) → IsCommand act → IsStep seats capacity m act reply → HasLine act reply
step_has_line seats capacity m (Insert e) Done is step = tt
step_has_line seats capacity m (Insert e) (Got x) is step = absurd step
step_has_line seats capacity m (Insert e) Empty is step = absurd step
step_has_line seats capacity m (Insert e) Full is step = tt
step_has_line seats capacity m (Insert e) Above is step = absurd step
step_has_line seats capacity m Remove Done is step = absurd step
step_has_line seats capacity m Remove (Got x) is step = tt
step_has_line seats capacity m Remove Empty is step = tt
step_has_line seats capacity m Remove Full is step = absurd step
step_has_line seats capacity m Remove Above is step = absurd step
step_has_line seats capacity m (RemoveBelow limit) Done is step = absurd step
step_has_line seats capacity m (RemoveBelow limit) (Got x) is step = is
step_has_line seats capacity m (RemoveBelow limit) Empty is step = is
step_has_line seats capacity m (RemoveBelow limit) Full is step = absurd step
step_has_line seats capacity m (RemoveBelow limit) Above is step = is

abbrev Lined : Mark → Type 0
Lined x = HasLine x.act x.reply

steps_have_lines : (seats capacity : ℕ) (m : List Entry) (xs : List Mark) → IsLegalFrom seats capacity m xs → AllByRecursion (λ (x : Mark). IsCommand x.act) xs → AllByRecursion Lined xs
steps_have_lines seats capacity m [] legal all = tt
steps_have_lines seats capacity m (x ∷ xs) legal all = (step_has_line seats capacity m x.act x.reply all.0 legal.0, steps_have_lines seats capacity (after m x.act x.reply) xs legal.1 all.1)

calls_are_commands : (cs : List Call) → AllByRecursion IsCommand (acts_of cs) → AllByRecursion (λ (c : Call). IsCommand c.act) cs
calls_are_commands [] all = tt
calls_are_commands (c ∷ cs) all = (all.0, calls_are_commands cs all.1)

-- the mark's seat has a lane, whose commands are those of the script
mark_is_command : (capacity : ℕ) (script : List (List Act)) (history : List Mark) → IsScript script → IsTraceOf capacity script history → All (λ (x : Mark). IsCommand x.act) history
mark_is_command capacity script history limits trace i d lt =
    let x : Mark = get_or history i d in
    let seat = All-get_or (λ (y : Mark). IsSeat (length script) y.seat) history i d lt trace.legal.seated in
    let low = seat.0 in let high = seat.1 in
    let at : slice_get history i ≡ Some x = slice_get-get_or history i d lt in
    let own = call_of_mark x.seat history (call i x.act x.reply) at in
    commands_at x.seat (call i x.act x.reply) low high own
  where
    commands_at : (seat : ℕ) (c : Call) → 1 ≤ seat → seat ≤ length script → Contains (calls_of seat history) c → IsCommand c.act
    commands_at zero c low high own = absurd (omega arith)
    commands_at (suc j) c low high own =
        let next : j + 1 ≡ suc j = omega arith in
        let acts : acts_of (calls_of (suc j) history) ≡ get_or script j [] = ap (λ n. acts_of (calls_of n history)) (sym next) ∙ trace.lanes j [] (omega arith) in
        let commands = subst (AllByRecursion IsCommand) (sym acts) (each_of (λ (lane : List Act). AllByRecursion IsCommand lane) script j [] (omega arith) limits.commands) in
        All-contains (λ (d : Call). IsCommand d.act) (calls_of (suc j) history) c
        (All-from_recursion (λ (d : Call). IsCommand d.act) (calls_of (suc j) history) (calls_are_commands (calls_of (suc j) history) commands)) own

pub marks_have_lines : (capacity : ℕ) (script : List (List Act)) (history : List Mark) → IsScript script → IsTraceOf capacity script history → All Lined history
marks_have_lines capacity script history limits trace =
    All-from_recursion Lined history (steps_have_lines (length script) capacity [] history trace.legal.steps
    (recursion_from_All (λ (x : Mark). IsCommand x.act) history (mark_is_command capacity script history limits trace)))

-- with one seat all marks are of the first, and its acts are those of the marks

pub all_first : (capacity : ℕ) (history : List Mark) → IsLegal 1 capacity history → All (λ (x : Mark). x.seat ≡ 1) history
all_first capacity history legal = λ i d lt. let seat = legal.seated i d lt in let low = seat.0 in let high = seat.1 in omega arith

own_acts : (n from : ℕ) (xs : List Mark) → All (λ (x : Mark). x.seat ≡ n) xs → acts_of (calls_from n from xs) ≡ map (λ (x : Mark). x.act) xs
own_acts n from [] all = refl
own_acts n from (x ∷ xs) all =
    let P : Mark → Type 0 = λ y. y.seat ≡ n in
    let first : calls_from n from (x ∷ xs) ≡ call from x.act x.reply ∷ calls_from n (from + 1) xs =
    subst (λ (m : ℕ). calls_from m from (x ∷ xs) ≡ call from x.act x.reply ∷ calls_from m (from + 1) xs) (All-head P x xs all) (calls_from-own from x xs) in
    ap acts_of first ∙ ap (λ ys. x.act ∷ ys) (own_acts n (from + 1) xs (All-tail P x xs all))

pub acts_of_one : (capacity : ℕ) (history : List Mark) → IsLegal 1 capacity history → acts_of (calls_of 1 history) ≡ map (λ (x : Mark). x.act) history
acts_of_one capacity history legal = own_acts 1 0 history (all_first capacity history legal)
