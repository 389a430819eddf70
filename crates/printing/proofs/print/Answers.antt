-- `printing::print` meets its contract: where neither judging nor measuring refuses, what is written is the answer. Assumes nothing.
use mathlib.Core.Path.{◌≡◌, refl, sym, ◌∙◌}
use native.Mathlib.Nat.{zero-add}
use native.Mathlib.Omega.{arith}
use lib.ListN.{length}
use Rattle.laws.proofs.Writes.{sets_over}
use Rattle.signals.specs.Numbers.{first_not}
use Rattle.text.specs.Printing.{may_print, printed, ends_printed}
use Rattle.text.proofs.AnswerLaws.{all_written}
use Rattle.text.proofs.PrintingLaws.{printing_judged}
use Rattle.printing.proofs.print.Goals as goal

pub returns : goal.returns
returns c =
    let judged = c.in_ok-judged.judged in
    let words = judged.words.now in
    let same : c.args.words.now ≡ words = sym c.in_ok-judged.ensures.ok in
    let case = c.args.case in
    let room = c.args.room.now in
    let fits = c.in_ok-measure.ensures.ok refl case in
    let w = c.write-end in
    rw (same, printing_judged)
    (all_written 8192 7 3 (length words) (first_not may_print words) room (record { bytes = printed case words; ends = ends_printed case words }) judged.short judged.may
    w.result.to
    (w.ensures.wrote.ended ∙ zero-add _)
    (omega (arith, w.ensures.wrote.ended, fits))
    w.result.case
    w.ensures.ends
    w.new.room
    (w.ensures.wrote.holds ∙ sets_over room (printed case words) fits))
