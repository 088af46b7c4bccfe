-- The lanes of a script, read by a loop.
use Rattle.std.proofs.Common.{◌≡◌, ℕ, List, [], ◌∷◌, ◌++◌, Result, Ok, Err, refl, sym, ap, subst, ◌∙◌}
use Rattle.std.proofs.lemmas.List.{append-nil, append_assoc}
use Rattle.pq_io.specs.declared.text.fault.BadInput.{BadInput}
use Rattle.pq_io.specs.Lines.{Line}
use Rattle.pq_io.specs.Reading.{◌>>=◌, on_line}
use Rattle.pq_model.specs.declared.marks.Act.{Act}
use Rattle.inst_text.specs.declared.script.lines.ScriptLine.{ScriptLine}
use Rattle.inst_text.specs.declared.script.lines.ScriptLine.TheVariants.{Command, NextLane}
use Rattle.inst_text.specs.Several.{every_line}
use Rattle.inst_text.specs.Script.{Counted, counted_on, script_line_of, script_in, onto_first_lane, lanes_of}

abbrev Lanes : Type 0
Lanes = List (List Act)

-- lanes that are done, the commands so far of the lane that is read, and the lanes that are still read from there on
abbrev pub onto : Lanes → List Act → Lanes → Lanes
onto done lane [] = done ++ lane ∷ []
onto done lane (first ∷ others) = done ++ (lane ++ first) ∷ others

-- the lanes of the lines from here on
abbrev pub script_from : ℕ → Counted → List Line → Result Lanes BadInput
script_from allowed c ls = every_line (script_line_of allowed) counted_on c ls >>= λ lines. Ok (lanes_of lines)

abbrev pub SoFar : ℕ → Counted → Lanes → List Act → List Line → Result Lanes BadInput → Type 0
SoFar allowed c done lane ls total = (script_from allowed c ls >>= λ lanes. Ok (onto done lane lanes)) ≡ total

-- there is a lane at least

record Some (xs : List ScriptLine) : Type 0 where
  first : List Act
  others : Lanes
  are : lanes_of xs ≡ first ∷ others

onto_some : (act : Act) (lanes : Lanes) → (first : List Act) × (others : Lanes) × (onto_first_lane act lanes ≡ first ∷ others)
onto_some act [] = (act ∷ [], [], refl)
onto_some act (lane ∷ lanes) = (act ∷ lane, lanes, refl)

lanes_some : (xs : List ScriptLine) → Some xs
lanes_some [] = record { first = []; others = []; are = refl }
lanes_some (Command act ∷ xs) = let s = onto_some act (lanes_of xs) in record { first = s.0; others = s.1; are = s.2 }
lanes_some (NextLane ∷ xs) = record { first = []; others = lanes_of xs; are = refl }

-- one more command

onto_command : (done : Lanes) (lane : List Act) (act : Act) (lanes : Lanes) → onto done lane (onto_first_lane act lanes) ≡ onto done (lane ++ act ∷ []) lanes
onto_command done lane act [] = refl
onto_command done lane act (first ∷ others) = ap (λ (l : List Act). done ++ l ∷ others) (sym (append_assoc lane (act ∷ []) first))

command_next : (done : Lanes) (lane : List Act) (act : Act) (r : Result (List ScriptLine) BadInput)
    → (((r >>= λ xs. Ok (Command act ∷ xs)) >>= λ xs. Ok (lanes_of xs)) >>= λ lanes. Ok (onto done lane lanes))
    ≡ ((r >>= λ xs. Ok (lanes_of xs)) >>= λ lanes. Ok (onto done (lane ++ act ∷ []) lanes))
command_next done lane act (Ok xs) = ap (λ (lanes : Lanes). Ok lanes) (onto_command done lane act (lanes_of xs))
command_next done lane act (Err fault) = refl

pub command_read : (allowed : ℕ) (c : Counted) (done : Lanes) (lane : List Act) (ls : List Line) (l : Line) (after : List Line) (act : Act) (total : Result Lanes BadInput)
    → ls ≡ l ∷ after → on_line l.number (script_line_of allowed c l.words) ≡ Ok (Command act) → SoFar allowed c done lane ls total
    → SoFar allowed (counted_on c (Command act)) done (lane ++ act ∷ []) after total
unfolding every_line
command_read allowed c done lane ls l after act total first line so_far =
    let all : SoFar allowed c done lane (l ∷ after) total = subst (λ (t : List Line). SoFar allowed c done lane t total) first so_far in
    sym (command_next done lane act (every_line (script_line_of allowed) counted_on (counted_on c (Command act)) after)) ∙ (rw line at all)

-- the next lane

onto_lane : (done : Lanes) (lane first : List Act) (others : Lanes) → onto done lane ([] ∷ first ∷ others) ≡ onto (done ++ lane ∷ []) [] (first ∷ others)
onto_lane done lane first others =
    ap (λ (l : List Act). done ++ l ∷ first ∷ others) (append-nil lane) ∙ sym (append_assoc done (lane ∷ []) (first ∷ others))

lane_next : (done : Lanes) (lane : List Act) (r : Result (List ScriptLine) BadInput)
    → (((r >>= λ xs. Ok (NextLane ∷ xs)) >>= λ xs. Ok (lanes_of xs)) >>= λ lanes. Ok (onto done lane lanes))
    ≡ ((r >>= λ xs. Ok (lanes_of xs)) >>= λ lanes. Ok (onto (done ++ lane ∷ []) [] lanes))
lane_next done lane (Ok xs) =
    let s = lanes_some xs in
    ap (λ (lanes : Lanes). Ok (onto done lane ([] ∷ lanes))) s.are
    ∙ ap (λ (lanes : Lanes). Ok lanes) (onto_lane done lane s.first s.others)
    ∙ ap (λ (lanes : Lanes). Ok (onto (done ++ lane ∷ []) [] lanes)) (sym s.are)
lane_next done lane (Err fault) = refl

pub lane_read : (allowed : ℕ) (c : Counted) (done : Lanes) (lane : List Act) (ls : List Line) (l : Line) (after : List Line) (total : Result Lanes BadInput)
    → ls ≡ l ∷ after → on_line l.number (script_line_of allowed c l.words) ≡ Ok NextLane → SoFar allowed c done lane ls total
    → SoFar allowed (counted_on c NextLane) (done ++ lane ∷ []) [] after total
unfolding every_line
lane_read allowed c done lane ls l after total first line so_far =
    let all : SoFar allowed c done lane (l ∷ after) total = subst (λ (t : List Line). SoFar allowed c done lane t total) first so_far in
    sym (lane_next done lane (every_line (script_line_of allowed) counted_on (counted_on c NextLane) after)) ∙ (rw line at all)

-- a faulty line
pub line_faulty : (allowed : ℕ) (c : Counted) (done : Lanes) (lane : List Act) (ls : List Line) (l : Line) (after : List Line) (fault : BadInput) (total : Result Lanes BadInput)
    → ls ≡ l ∷ after → on_line l.number (script_line_of allowed c l.words) ≡ Err fault → SoFar allowed c done lane ls total → total ≡ Err fault
unfolding every_line
line_faulty allowed c done lane ls l after fault total first line so_far =
    let all : SoFar allowed c done lane (l ∷ after) total = subst (λ (t : List Line). SoFar allowed c done lane t total) first so_far in
    sym (rw line at all)

-- no line is left
pub lines_end : (allowed : ℕ) (c : Counted) (done : Lanes) (lane : List Act) (ls : List Line) (total : Result Lanes BadInput)
    → ls ≡ [] → SoFar allowed c done lane ls total → total ≡ Ok (done ++ lane ∷ [])
unfolding every_line
lines_end allowed c done lane ls total none so_far =
    let all : SoFar allowed c done lane [] total = subst (λ (t : List Line). SoFar allowed c done lane t total) none so_far in
    sym all ∙ ap (λ (l : List Act). Ok (done ++ l ∷ [])) (append-nil lane)

-- before the first line
then_same : (r : Result (List ScriptLine) BadInput) → ((r >>= λ xs. Ok (lanes_of xs)) >>= λ lanes. Ok (onto [] [] lanes)) ≡ (r >>= λ xs. Ok (lanes_of xs))
then_same (Ok xs) =
    let s = lanes_some xs in
    ap (λ (lanes : Lanes). Ok (onto [] [] lanes)) s.are ∙ ap (λ (lanes : Lanes). Ok lanes) (sym s.are)
then_same (Err fault) = refl

pub nothing_read : (allowed : ℕ) (ls : List Line) → SoFar allowed (record { commands = 0; lanes = 1 }) [] [] ls (script_in allowed ls)
unfolding script_in
nothing_read allowed ls = then_same (every_line (script_line_of allowed) counted_on (record { commands = 0; lanes = 1 }) ls)
