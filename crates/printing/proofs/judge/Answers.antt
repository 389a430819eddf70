-- `printing::judge` meets its contract: refusals 7 and 3, by the law of each. Assumes nothing.
use native.Mathlib.Omega.{arith}
use lib.ListN.{length}
use Rattle.signals.specs.Numbers.{first_not}
use Rattle.text.specs.Printing.{may_print, printed, ends_printed}
use Rattle.text.proofs.AnswerLaws.{too_long, bad_entry}
use Rattle.text.proofs.PrintingLaws.{printing_judged}
use Rattle.printing.proofs.judge.Goals as goal

pub returns-then-words-gt-MOST_SIGNALS-clause-err : goal.returns-then-words-gt-MOST_SIGNALS-clause-err
returns-then-words-gt-MOST_SIGNALS-clause-err c = λ case room.
    let words = c.args.words.now in
    rw printing_judged (too_long 8192 7 3 (length words) (first_not may_print words) room (record { bytes = printed case words; ends = ends_printed case words }) c.if-words-gt-MOST_SIGNALS.true)

pub returns-then-bad-words-clause-err : goal.returns-then-bad-words-clause-err
returns-then-bad-words-clause-err c = λ case room.
    let words = c.args.words.now in
    let bad = c.first_bad-bad in
    rw printing_judged
    (bad_entry 8192 7 3 (length words) (first_not may_print words) room (record { bytes = printed case words; ends = ends_printed case words }) c.if-words-gt-MOST_SIGNALS.false bad.result bad.ensures (omega (arith, bad.ensures, c.if-bad-words.true)))
