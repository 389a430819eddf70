-- `refusals::first_outside` meets its contract. Assumes nothing.
use mathlib.Core.Path.{sym, ◌∙◌}
use native.Mathlib.Omega.{arith}
use Rattle.signals.proofs.NumberLaws.{first_le}
use Rattle.identity.specs.Table3.{is_identity}
use Rattle.identity.specs.Sums.{signals_of7}
use Rattle.identity.proofs.OutsideLaws.{outside_first, outside_second}
use Rattle.refusals.proofs.first_outside.Goals as goal

pub returns-then-outside-lt7 : goal.returns-then-outside-lt7
returns-then-outside-lt7 c = c.first_outside-outside.ensures ∙ sym (outside_first c.args.first c.args.second (rw c.first_outside-outside.ensures at c.if-outside-lt7.true))

pub overflow_add-result : goal.overflow_add-result
overflow_add-result c = omega (arith, c.first_outside.ensures, first_le is_identity (signals_of7 c.args.second))

pub returns : goal.returns
returns c = rw c.first_outside.ensures (sym (outside_second c.args.first c.args.second (rw c.first_outside-outside.ensures at c.if-outside-lt7.false)))
