-- `characters::first_without` meets its contract: every byte passed has a signal. Assumes nothing.
use mathlib.Core.Path.{sym, ◌∙◌}
use native.Mathlib.Omega.{arith}
use Rattle.text.specs.Encoding.{has_signal}
use Rattle.characters.proofs.JudgeLaws.{pass_starts, pass_next, pass_stops, pass_ends}
use Rattle.characters.proofs.first_without.Goals as goal

pub loop-i-init : goal.loop-i-init
loop-i-init c = pass_starts has_signal c.args.text.now

pub returns-then-not-has_signal : goal.returns-then-not-has_signal
returns-then-not-has_signal c =
    let l = c.loop-i in
    omega (arith, pass_stops has_signal c.args.text.now l.i l.invariant c.loop-i-test.true (sym c.has_signal.ensures ∙ c.if-not-has_signal.true))

pub loop-i-preserved : goal.loop-i-preserved
loop-i-preserved c =
    let l = c.loop-i in
    pass_next has_signal c.args.text.now l.i l.invariant c.loop-i-test.true (sym c.has_signal.ensures ∙ c.if-not-has_signal.false)

pub returns : goal.returns
returns c =
    let l = c.loop-i in
    omega (arith, pass_ends has_signal c.args.text.now l.i l.invariant c.loop-i-test.false, c.loop-i-test.false, l.auto.i-end)
