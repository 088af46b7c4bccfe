use Rattle.std.proofs.Common.{◌≡◌, ◌∙◌, true, false, is_err, Err, sym, ap}
use Rattle.std.proofs.lemmas.Result.{err_from_is_err_and}
use Rattle.pq_io.specs.Reading.{on_line, at_line_end}
use Rattle.inst_text.specs.Plans.{item_number_at}
use Rattle.inst_text.proofs.ItemNumbers.{number_read, number_faulty, numbers_end}
use Rattle.inst_text.proofs.plan.choices.item_numbers.Goals as goal

pub returns-in_err-number : goal.returns-in_err-number
returns-in_err-number c =
    let p = err_from_is_err_and c.from_residual.result c.from_residual.ensures.1 in
    let line = c.args.words.now.number in
    let ws = c.loop-words.words.words in
    let some : is_err (at_line_end ws) ≡ true = cc (c.is_err.ensures.value, c.finish.ensures, c.loop-words-test.true) in
    let e : on_line line (item_number_at c.args.count c.loop-words.low ws) ≡ Err c.in_err-number.field-0.0 =
    ap (λ n. on_line n (item_number_at c.args.count c.loop-words.low ws)) (sym c.loop-words.invariant.line) ∙ c.in_err-number.ensures.exact in
    rw (p.1, p.2) (sym c.loop-words.invariant.so_far ∙ number_faulty c.args.count c.loop-words.low line ws c.in_err-number.field-0.0 c.loop-words.numbers.items some e)

pub loop-words-preserved : goal.loop-words-preserved
loop-words-preserved c =
    let next =
    number_read c.args.count c.loop-words.low c.loop-words.words.number c.loop-words.words.words c.in_ok-number.number c.next_number.new.words.words c.loop-words.numbers.items c.in_ok-number.ensures.exact in
    record {
      line = c.next_number.ensures.line ∙ c.loop-words.invariant.line;
      so_far = rw (c.in_ok-push.ensures.items, c.from-low.ensures) (ap (on_line c.args.words.now.number) (sym next.same) ∙ c.loop-words.invariant.so_far);
    }

pub loop-words-smaller : goal.loop-words-smaller
loop-words-smaller c =
    (number_read c.args.count c.loop-words.low c.loop-words.words.number c.loop-words.words.words c.in_ok-number.number c.next_number.new.words.words c.loop-words.numbers.items c.in_ok-number.ensures.exact).fewer

pub returns : goal.returns
returns c =
    let ws = c.loop-words.words.words in
    let none : is_err (at_line_end ws) ≡ false = cc (c.is_err.ensures.value, c.finish.ensures, c.loop-words-test.false) in
    sym c.loop-words.invariant.so_far ∙ ap (on_line c.args.words.now.number) (numbers_end c.args.count c.loop-words.low ws c.loop-words.numbers.items none)
