-- `encoding::measure` meets its contract: refusal 2, by its law. Assumes nothing.
use native.Mathlib.Omega.{arith}
use lib.ListN.{length}
use Rattle.signals.specs.Numbers.{first_not}
use Rattle.text.specs.Encoding.{has_signal, encoded, ends_encoded}
use Rattle.text.proofs.AnswerLaws.{no_room}
use Rattle.text.proofs.EncodingLaws.{encoding_judged, encoded_le}
use Rattle.encoding.proofs.measure.Goals as goal

pub returns-then-places-needed-clause-err : goal.returns-then-places-needed-clause-err
returns-then-places-needed-clause-err c = λ room e.
    let text = c.args.judged.text.now in
    let case = c.args.case in
    let n = c.room_for-needed in
    rw encoding_judged
    (no_room 4096 5 1 (length text) (first_not has_signal text) room (record { bytes = encoded case text; ends = ends_encoded case text }) c.args.judged.short c.args.judged.have n.result n.ensures (omega (arith, c.if-places-needed.true)))

pub returns-else-places-judged-clause-ok : goal.returns-else-places-judged-clause-ok
returns-else-places-judged-clause-ok c = λ ok. omega (arith, encoded_le c.args.case c.args.judged.text.now)
