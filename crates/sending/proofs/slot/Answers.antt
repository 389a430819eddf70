-- `sending::slot` meets its contract: the refusals in 01's order, and else the word that the list of slots has there.
-- Assumes nothing.
use mathlib.Core.Path.{refl, ap, ◌∙◌}
use Prim.Native.Nat.{ℕ, ◌+◌, ◌*◌, ◌<◌}
use native.Mathlib.Omega.{arith}
use lib.ListN.{length}
use Rattle.signals.specs.Meaning.{traffic_of, alpha}
use Rattle.sending.specs.Places.{count_of}
use Rattle.sending.proofs.SlotLaws.{too_long, bad_word, past_last, word_told, even_slot, odd_slot, first_odd_slot}
use Rattle.sending.proofs.slot.Goals as goal

pub returns-then-text-gt8192 : goal.returns-then-text-gt8192
returns-then-text-gt8192 c =
    too_long c.args.text.now c.args.number c.if-text-gt8192.true

pub returns-then-bad-text : goal.returns-then-bad-text
returns-then-bad-text c =
    bad_word c.args.text.now c.if-text-gt8192.false c.args.number c.first_failing-bad.result (c.first_failing-bad.ensures traffic_of (λ w r e. e)) c.if-bad-text.true

pub returns-then-slots-number : goal.returns-then-slots-number
returns-then-slots-number c =
    let n = c.count_of-slots in
    past_last c.args.text.now c.if-text-gt8192.false c.args.number (omega (arith, c.first_failing-bad.ensures traffic_of (λ w r e. e), c.if-bad-text.false)) (2 * n.result) (ap (λ (k : ℕ). 2 * k) n.ensures) c.if-slots-number.true

pub returns-then-number-eq0 : goal.returns-then-number-eq0
returns-then-number-eq0 c =
    let m : c.args.number < 2 * count_of (length c.args.text.now + 2) = omega (arith, c.count_of-slots.ensures, c.if-slots-number.false) in
    word_told c.args.text.now c.if-text-gt8192.false c.args.number (omega (arith, c.first_failing-bad.ensures traffic_of (λ w r e. e), c.if-bad-text.false)) m c.word_at.result
    (c.word_at.ensures.dx refl ∙ even_slot c.args.text.now c.args.number m c.if-number-eq0.true)

pub returns-then-t-lt2 : goal.returns-then-t-lt2
returns-then-t-lt2 c =
    let m : c.args.number < 2 * count_of (length c.args.text.now + 2) = omega (arith, c.count_of-slots.ensures, c.if-slots-number.false) in
    word_told c.args.text.now c.if-text-gt8192.false c.args.number (omega (arith, c.first_failing-bad.ensures traffic_of (λ w r e. e), c.if-bad-text.false)) m alpha
    (first_odd_slot c.args.text.now c.args.number m c.if-number-eq0.false c.if-t-lt2.true)

pub returns-else-t-lt2 : goal.returns-else-t-lt2
returns-else-t-lt2 c =
    let m : c.args.number < 2 * count_of (length c.args.text.now + 2) = omega (arith, c.count_of-slots.ensures, c.if-slots-number.false) in
    word_told c.args.text.now c.if-text-gt8192.false c.args.number (omega (arith, c.first_failing-bad.ensures traffic_of (λ w r e. e), c.if-bad-text.false)) m c.word_at-else-t-lt2.result
    (c.word_at-else-t-lt2.ensures.rx refl ∙ odd_slot c.args.text.now c.args.number m c.if-number-eq0.false c.if-t-lt2.false)
