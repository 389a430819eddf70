-- `encoding::encode` meets its contract: where neither judging nor measuring refuses, what is written is the answer. Assumes nothing.
use mathlib.Core.Path.{◌≡◌, refl, sym, ◌∙◌}
use native.Mathlib.Nat.{zero-add}
use native.Mathlib.Omega.{arith}
use lib.ListN.{length}
use Rattle.laws.proofs.Writes.{sets_over}
use Rattle.signals.specs.Numbers.{first_not}
use Rattle.text.specs.Encoding.{has_signal, encoded, ends_encoded}
use Rattle.text.proofs.AnswerLaws.{all_written}
use Rattle.text.proofs.EncodingLaws.{encoding_judged}
use Rattle.encoding.proofs.encode.Goals as goal

pub returns : goal.returns
returns c =
    let judged = c.in_ok-judged.judged in
    let text = judged.text.now in
    let same : c.args.text.now ≡ text = sym c.in_ok-judged.ensures.ok in
    let case = c.args.case in
    let room = c.args.room.now in
    let fits = c.in_ok-measure.ensures.ok refl in
    let w = c.write in
    rw (same, encoding_judged)
    (all_written 4096 5 1 (length text) (first_not has_signal text) room (record { bytes = encoded case text; ends = ends_encoded case text }) judged.short judged.have
    w.result.count
    (w.ensures.wrote.ended ∙ zero-add _)
    (omega (arith, w.ensures.wrote.ended, fits))
    w.result.ends
    w.ensures.case_value
    w.new.room
    (w.ensures.wrote.holds ∙ sets_over room (encoded case text) fits))
