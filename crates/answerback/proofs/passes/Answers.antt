-- `answerback::passes` meets its contract. Assumes nothing.
use mathlib.Core.Path.{◌∙◌}
use native.Mathlib.Omega.{arith}
use Rattle.answerback.proofs.WordLaws.{passes_empty, passes_long, passes_short}
use Rattle.answerback.proofs.passes.Goals as goal

pub returns-then-code-eq0 : goal.returns-then-code-eq0
returns-then-code-eq0 c = passes_empty _ c.if-code-eq0.true

pub returns-then-code-gt-SIGNALS : goal.returns-then-code-gt-SIGNALS
returns-then-code-gt-SIGNALS c = passes_long c.args.code (omega arith)

pub returns : goal.returns
returns c = c.judged.ensures ∙ passes_short c.args.code c.if-code-gt-SIGNALS.false
