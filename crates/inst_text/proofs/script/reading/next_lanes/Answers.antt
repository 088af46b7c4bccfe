use Rattle.std.proofs.Common.{◌≡◌, Ok, sym, ap, length, arith}
use Rattle.std.proofs.lemmas.List.{map-append}
use Rattle.std.proofs.lemmas.Result.{err_from_is_err_and}
use Rattle.pq_io.specs.Reading.{on_line}
use Rattle.inst_text.specs.declared.script.lines.ScriptLine.TheVariants.{Command, NextLane}
use Rattle.inst_text.specs.Script.{script_line_of}
use Rattle.inst_text.proofs.EveryLine.{line_came, no_line}
use Rattle.inst_text.proofs.ScriptLines.{line_allows}
use Rattle.inst_text.proofs.ScriptLoop.{nothing_read, command_read, lane_read, line_faulty, lines_end}
use Rattle.inst_text.proofs.script.reading.next_lanes.Goals as goal

pub loop-words-init : goal.loop-words-init
loop-words-init c = rw (c.in_ok-lanes.ensures.items, c.new-lane.ensures.items) (nothing_read c.args.allowed c.args.text.now.lines)

pub returns-in_err-act : goal.returns-in_err-act
returns-in_err-act c =
    let p = err_from_is_err_and c.from_residual-in_err-act.result c.from_residual-in_err-act.ensures.1 in
    rw (p.1, p.2) (line_faulty _ _ _ _ _ _ _ _ _ (line_came c.loop-words.text _ _ c.in-Ok.ensures) (sym c.in_err-act.ensures) c.loop-words.invariant)

pub overflow_add-commands : goal.overflow_add-commands
overflow_add-commands c =
    let line : on_line c.in-Ok.words.number (script_line_of c.args.allowed (record { commands = c.loop-words.commands; lanes = c.loop-words.begun }) c.in-Ok.words.words) ≡ Ok (Command c.in-Command.act) = (rw c.in-Command.is at (sym c.in_ok-act.ensures)) in
    let allows = line_allows _ _ _ _ _ line in
    record { fits = omega (arith, allows.0) }

pub loop-words-smaller-in-Command : goal.loop-words-smaller-in-Command
loop-words-smaller-in-Command c = omega (arith, ap length (line_came c.loop-words.text _ _ c.in-Ok.ensures))

pub loop-words-preserved-in-Command : goal.loop-words-preserved-in-Command
loop-words-preserved-in-Command c =
    let line : on_line c.in-Ok.words.number (script_line_of c.args.allowed (record { commands = c.loop-words.commands; lanes = c.loop-words.begun }) c.in-Ok.words.words) ≡ Ok (Command c.in-Command.act) = (rw c.in-Command.is at (sym c.in_ok-act.ensures)) in
    rw c.in_ok-push-in-Command.ensures.items
    (command_read _ _ _ _ _ _ _ _ _ (line_came c.loop-words.text _ _ c.in-Ok.ensures) line c.loop-words.invariant)

pub overflow_add-begun : goal.overflow_add-begun
overflow_add-begun c =
    let line : on_line c.in-Ok.words.number (script_line_of c.args.allowed (record { commands = c.loop-words.commands; lanes = c.loop-words.begun }) c.in-Ok.words.words) ≡ Ok NextLane = (rw c.in-NextLane.is at (sym c.in_ok-act.ensures)) in
    let allows = line_allows _ _ _ _ _ line in
    record { fits = omega (arith, allows, c.requires.few) }

pub loop-words-smaller : goal.loop-words-smaller
loop-words-smaller c = omega (arith, ap length (line_came c.loop-words.text _ _ c.in-Ok.ensures))

pub loop-words-preserved : goal.loop-words-preserved
loop-words-preserved c =
    let line : on_line c.in-Ok.words.number (script_line_of c.args.allowed (record { commands = c.loop-words.commands; lanes = c.loop-words.begun }) c.in-Ok.words.words) ≡ Ok NextLane = (rw c.in-NextLane.is at (sym c.in_ok-act.ensures)) in
    rw (c.in_ok-push-in-NextLane.ensures.items, c.replace.ensures.value, c.replace.ensures.after, c.new.ensures.items, map-append)
    (lane_read _ _ _ _ _ _ _ _ (line_came c.loop-words.text _ _ c.in-Ok.ensures) line c.loop-words.invariant)

pub returns : goal.returns
returns c =
    rw (c.in_ok-push.ensures.items, map-append)
    (lines_end _ _ _ _ _ _ (no_line c.loop-words.text _ c.in_default.ensures) c.loop-words.invariant)
