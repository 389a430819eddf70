-- `encoding::judge` meets its contract: refusals 5 and 1, by the law of each. Assumes nothing.
use native.Mathlib.Omega.{arith}
use lib.ListN.{length}
use Rattle.signals.specs.Numbers.{first_not}
use Rattle.text.specs.Encoding.{has_signal, encoded, ends_encoded}
use Rattle.text.proofs.AnswerLaws.{too_long, bad_entry}
use Rattle.text.proofs.EncodingLaws.{encoding_judged}
use Rattle.encoding.proofs.judge.Goals as goal

pub returns-then-text-gt-MOST_CHARACTERS-clause-err : goal.returns-then-text-gt-MOST_CHARACTERS-clause-err
returns-then-text-gt-MOST_CHARACTERS-clause-err c = λ case room.
    let text = c.args.text.now in
    rw encoding_judged (too_long 4096 5 1 (length text) (first_not has_signal text) room (record { bytes = encoded case text; ends = ends_encoded case text }) c.if-text-gt-MOST_CHARACTERS.true)

pub returns-then-first-text-clause-err : goal.returns-then-first-text-clause-err
returns-then-first-text-clause-err c = λ case room.
    let text = c.args.text.now in
    let f = c.first_without-first in
    rw encoding_judged
    (bad_entry 4096 5 1 (length text) (first_not has_signal text) room (record { bytes = encoded case text; ends = ends_encoded case text }) c.if-text-gt-MOST_CHARACTERS.false f.result f.ensures (omega (arith, f.ensures, c.if-first-text.true)))
