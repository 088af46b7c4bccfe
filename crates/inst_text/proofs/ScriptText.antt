-- What is read as a script is spelled so and keeps the limits, and what is spelled so is read.
use Rattle.std.proofs.Common.{◌≡◌, ℕ, ◌+◌, ◌≤◌, leb, cond, List, [], ◌∷◌, length, codes, Ok, Err, refl, sym, ap, subst, arith}
use Rattle.std.specs.List.{AllByRecursion}
use Rattle.std.proofs.lemmas.Bool.{leb-true, le-leb}
use Rattle.std.proofs.lemmas.List.Sums.{sum_by-cons}
use Rattle.pq_io.specs.Inputs.{longest_input, too_large, text_within}
use Rattle.pq_io.specs.Lines.{Line, Text, text_of}
use Rattle.pq_io.proofs.Binds.{ok_is, bind_ok, guard_ok}
use Rattle.pq_model.specs.declared.marks.Act.{Act}
use Rattle.inst_text.specs.declared.script.lines.ScriptLine.{ScriptLine}
use Rattle.inst_text.specs.declared.script.lines.ScriptLine.TheVariants.{Command, NextLane}
use Rattle.inst_text.specs.Limits.{max_lanes, max_commands}
use Rattle.inst_text.specs.Several.{every_line}
use Rattle.inst_text.specs.Script.{Counted, IsCommand, IsScriptOf, IsScript, IsScriptText, SpellsCommand, SpellLanes, command_count, counted_on, script_line_of, onto_first_lane, lanes_of, script_in, script_of}
use Rattle.inst_text.proofs.OneByOne.{EachReads}
use Rattle.inst_text.proofs.EveryLine.{every_taken, every_found}
use Rattle.inst_text.proofs.ScriptLines.{script_line_taken, script_line_found}

abbrev Lanes : Type 0
Lanes = List (List Act)

abbrev Commands : Lanes → Type 0
Commands lanes = AllByRecursion (λ (lane : List Act). AllByRecursion IsCommand lane) lanes

abbrev Reads : ℕ → Counted → List Line → List ScriptLine → Type 0
Reads allowed c ls xs = EachReads (script_line_of allowed) counted_on c ls xs

-- how many commands there are

count_lane : (lane : List Act) (lanes : Lanes) → command_count (lane ∷ lanes) ≡ length lane + command_count lanes
count_lane lane lanes = sum_by-cons length lane lanes

count_more : (act : Act) (lane : List Act) (lanes : Lanes) → command_count ((act ∷ lane) ∷ lanes) ≡ command_count (lane ∷ lanes) + 1
count_more act lane lanes = omega (arith, count_lane (act ∷ lane) lanes, count_lane lane lanes)

-- lines that were read

record Spelled (allowed : ℕ) (c : Counted) (ls : List Line) (lanes : Lanes) : Type 0 where
  spell : SpellLanes ls lanes
  some : 1 ≤ length lanes
  few : length lanes + c.lanes ≤ allowed + 1
  count : command_count lanes + c.commands ≤ max_commands
  commands : Commands lanes

command_spelled : (allowed : ℕ) (c : Counted) (l : Line) (ls : List Line) (act : Act) (lanes : Lanes) → SpellsCommand l.words act → IsCommand act
    → Spelled allowed (counted_on c (Command act)) ls lanes → Spelled allowed c (l ∷ ls) (onto_first_lane act lanes)
command_spelled allowed c l ls act [] says is s = let some = s.some in absurd (omega arith)
command_spelled allowed c l ls act (lane ∷ lanes) says is s =
    record {
      spell = (says, s.spell);
      some = omega arith;
      few = s.few;
      count = omega (arith, s.count, count_more act lane lanes);
      commands = ((is, s.commands.0), s.commands.1);
    }

lane_spelled : (allowed : ℕ) (c : Counted) (l : Line) (ls : List Line) (lanes : Lanes) → l.words ≡ codes "lane" ∷ []
    → Spelled allowed (counted_on c NextLane) ls lanes → Spelled allowed c (l ∷ ls) ([] ∷ lanes)
lane_spelled allowed c l ls [] says s = let some = s.some in absurd (omega arith)
lane_spelled allowed c l ls (lane ∷ lanes) says s =
    record { spell = (says, s.spell); some = omega arith; few = omega (arith, s.few); count = omega (arith, s.count, count_lane [] (lane ∷ lanes)); commands = (tt, s.commands) }

lines_spelled : (allowed : ℕ) (c : Counted) (ls : List Line) (xs : List ScriptLine) → c.lanes ≤ allowed → c.commands ≤ max_commands → Reads allowed c ls xs
    → Spelled allowed c ls (lanes_of xs)
lines_spelled allowed c [] [] lanes commands reads = record { spell = tt; some = omega arith; few = omega arith; count = omega arith; commands = (tt, tt) }
lines_spelled allowed c [] (x ∷ xs) lanes commands reads = absurd reads
lines_spelled allowed c (l ∷ ls) [] lanes commands reads = absurd reads
lines_spelled allowed c (l ∷ ls) (Command act ∷ xs) lanes commands reads =
    let t = script_line_taken allowed c l.words (Command act) reads.0 in
    let room = t.allows.0 in
    command_spelled allowed c l ls act (lanes_of xs) t.says t.allows.1 (lines_spelled allowed (counted_on c (Command act)) ls xs lanes (omega arith) reads.1)
lines_spelled allowed c (l ∷ ls) (NextLane ∷ xs) lanes commands reads =
    let t = script_line_taken allowed c l.words NextLane reads.0 in
    let room = t.allows in
    lane_spelled allowed c l ls (lanes_of xs) t.says (lines_spelled allowed (counted_on c NextLane) ls xs (omega arith) commands reads.1)

-- lines that are spelled

record Found (allowed : ℕ) (c : Counted) (ls : List Line) (lanes : Lanes) : Type 0 where
  lines : List ScriptLine
  are : lanes_of lines ≡ lanes
  reads : Reads allowed c ls lines

lanes_found : (allowed : ℕ) (c : Counted) (ls : List Line) (lanes : Lanes) → SpellLanes ls lanes → length lanes + c.lanes ≤ allowed + 1 → command_count lanes + c.commands ≤ max_commands → Commands lanes
    → Found allowed c ls lanes
lanes_found allowed c [] [] spell few count commands = absurd spell
lanes_found allowed c [] ([] ∷ []) spell few count commands = record { lines = []; are = refl; reads = tt }
lanes_found allowed c [] ([] ∷ lane ∷ lanes) spell few count commands = absurd spell
lanes_found allowed c [] ((act ∷ acts) ∷ lanes) spell few count commands = absurd spell
lanes_found allowed c (l ∷ ls) [] spell few count commands = absurd spell
lanes_found allowed c (l ∷ ls) ([] ∷ []) spell few count commands = absurd spell
lanes_found allowed c (l ∷ ls) ([] ∷ lane ∷ lanes) spell few count commands =
    let f = lanes_found allowed (counted_on c NextLane) ls (lane ∷ lanes) spell.1 (omega arith) (omega (arith, count, count_lane [] (lane ∷ lanes))) commands.1 in
    record {
      lines = NextLane ∷ f.lines;
      are = ap (λ (t : Lanes). [] ∷ t) f.are;
      reads = (script_line_found allowed c l.words NextLane spell.0 (omega arith), f.reads);
    }
lanes_found allowed c (l ∷ ls) ((act ∷ acts) ∷ lanes) spell few count commands =
    let f = lanes_found allowed (counted_on c (Command act)) ls (acts ∷ lanes) spell.1 few (omega (arith, count, count_more act acts lanes)) (commands.0.1, commands.1) in
    record {
      lines = Command act ∷ f.lines;
      are = ap (onto_first_lane act) f.are;
      reads = (script_line_found allowed c l.words (Command act) spell.0 (omega (arith, count, count_more act acts lanes), commands.0.0), f.reads);
    }

-- the whole text

record ScriptTaken (allowed : ℕ) (ls : List Line) (lanes : Lanes) : Type 0 where
  spell : SpellLanes ls lanes
  limits : IsScriptOf allowed lanes

script_taken : (allowed : ℕ) (ls : List Line) (lanes : Lanes) → 1 ≤ allowed → script_in allowed ls ≡ Ok lanes → ScriptTaken allowed ls lanes
unfolding script_in
script_taken allowed ls lanes some e =
    let start : Counted = record { commands = 0; lanes = 1 } in
    let p = bind_ok (every_line (script_line_of allowed) counted_on start ls) (λ lines. Ok (lanes_of lines)) lanes e in
    let s = lines_spelled allowed start ls p.0 some (omega arith) (every_taken (script_line_of allowed) counted_on start ls p.0 p.1) in
    subst (λ (t : Lanes). ScriptTaken allowed ls t) (ok_is (lanes_of p.0) lanes p.2)
    (record { spell = s.spell; limits = record { some = s.some; few = omega (arith, s.few); count = omega (arith, s.count); commands = s.commands } })

-- what a loop has read keeps the limits of every script
pub script_fits : (allowed : ℕ) (ls : List Line) (lanes : Lanes) → 1 ≤ allowed → allowed ≤ max_lanes → script_in allowed ls ≡ Ok lanes → IsScript lanes
script_fits allowed ls lanes some few e =
    let limits = (script_taken allowed ls lanes some e).limits in
    record { some = limits.some; few = omega (arith, limits.few); count = limits.count; commands = limits.commands }

pub script_is_spelled : (allowed : ℕ) (bytes : List ℕ) (lanes : Lanes) → 1 ≤ allowed → script_of allowed bytes ≡ Ok lanes → IsScriptText allowed bytes lanes
unfolding script_of
script_is_spelled allowed bytes lanes some e =
    let p = bind_ok (text_within bytes) (λ text. script_in allowed text.lines) lanes e in
    let g = guard_ok (leb (length bytes) longest_input) (text_of bytes) p.0 too_large p.1 in
    let t = script_taken allowed p.0.lines lanes some p.2 in
    record {
      size = leb-true (length bytes) longest_input g.0;
      lines = subst (λ (text : Text). SpellLanes text.lines lanes) (sym g.1) t.spell;
      limits = t.limits;
    }

pub script_is_read : (allowed : ℕ) (bytes : List ℕ) (lanes : Lanes) → IsScriptText allowed bytes lanes → script_of allowed bytes ≡ Ok lanes
unfolding script_of script_in
script_is_read allowed bytes lanes is =
    let start : Counted = record { commands = 0; lanes = 1 } in
    let limits = is.limits in
    let f = lanes_found allowed start (text_of bytes).lines lanes is.lines (omega (arith, limits.few)) (omega (arith, limits.count)) limits.commands in
    let opened : text_within bytes ≡ Ok (text_of bytes) = ap (λ b. cond b (Ok (text_of bytes)) (Err too_large)) (le-leb (length bytes) longest_input is.size) in
    rw (opened, every_found (script_line_of allowed) counted_on start (text_of bytes).lines f.lines f.reads) (ap (λ (t : Lanes). Ok t) f.are)
