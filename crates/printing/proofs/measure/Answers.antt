-- `printing::measure` meets its contract: refusal 2, by its law. Assumes nothing.
use native.Mathlib.Omega.{arith}
use lib.ListN.{length}
use Rattle.signals.specs.Numbers.{first_not}
use Rattle.text.specs.Printing.{may_print, printed, ends_printed}
use Rattle.text.proofs.AnswerLaws.{no_room}
use Rattle.text.proofs.PrintingLaws.{printing_judged}
use Rattle.judging.proofs.SizeLaws.{at_most}
use Rattle.printing.proofs.measure.Goals as goal

pub returns-then-places-need-clause-err : goal.returns-then-places-need-clause-err
returns-then-places-need-clause-err c = λ case room e.
    let words = c.args.judged.words.now in
    let n = c.needed-need in
    rw printing_judged
    (no_room 8192 7 3 (length words) (first_not may_print words) room (record { bytes = printed case words; ends = ends_printed case words }) c.args.judged.short c.args.judged.may n.result (n.ensures.1 c.args.judged.may case) (omega (arith, c.if-places-need.true)))

pub returns-else-short-clause-ok : goal.returns-else-short-clause-ok
returns-else-short-clause-ok c = λ ok case. omega (arith, at_most case c.args.judged.words.now)
