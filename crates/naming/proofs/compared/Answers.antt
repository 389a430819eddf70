-- `naming::compared` meets its contract. Assumes nothing.
use mathlib.Core.Path.{sym, ◌∙◌}
use Rattle.naming.proofs.FirstLaws.{letter_first, comparing_else}
use Rattle.naming.proofs.compared.Goals as goal

pub returns-then-may_identify : goal.returns-then-may_identify
returns-then-may_identify c = rw (letter_first _ (sym c.may_identify.ensures ∙ c.if-may_identify.true)) c.summed.ensures

pub returns-else-may_identify : goal.returns-else-may_identify
returns-else-may_identify c = rw (comparing_else _ _ _ _ (sym c.may_identify.ensures ∙ c.if-may_identify.false)) c.unnamed.ensures
