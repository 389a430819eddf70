-- `naming::judged` meets its contract. Assumes nothing.
use mathlib.Core.Path.{◌∙◌}
use Rattle.signals.specs.Units.{intact_of}
use Rattle.reasons.specs.Reasons.{not_rq}
use Rattle.naming.proofs.JudgeLaws.{first_of_three, is_bad, is_rq_lem, is_neither}
use Rattle.naming.proofs.judged.Goals as goal

pub returns-then-bad-read : goal.returns-then-bad-read
returns-then-bad-read c = is_bad _ _ c.requires _ (rw (c.intact.ensures, c.intact-2.ensures, c.intact-3.ensures) at c.first_not-bad.ensures ∙ first_of_three intact_of _ _ _) c.if-bad-read.true _ c.word_at.ensures

pub returns-then-rq-read : goal.returns-then-rq-read
returns-then-rq-read c = is_rq_lem _ _ c.requires _ (rw (c.intact.ensures, c.intact-2.ensures, c.intact-3.ensures) at c.first_not-bad.ensures ∙ first_of_three intact_of _ _ _) c.if-bad-read.false _ (c.first_not-rq.ensures ∙ first_of_three not_rq _ _ _) c.if-rq-read.true

pub returns-else-rq-read : goal.returns-else-rq-read
returns-else-rq-read c = is_neither _ _ c.requires _ (rw (c.intact.ensures, c.intact-2.ensures, c.intact-3.ensures) at c.first_not-bad.ensures ∙ first_of_three intact_of _ _ _) c.if-bad-read.false _ (c.first_not-rq.ensures ∙ first_of_three not_rq _ _ _) c.if-rq-read.false
