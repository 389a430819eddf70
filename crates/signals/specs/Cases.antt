-- 01, Text: the two cases, and the shift to each.  R-030, R-033
-- Assumes nothing.
use Rattle.std.specs.Prelude.{ℕ}
use Rattle.signals.specs.declared.Case.{Case}
use Rattle.signals.specs.declared.Case.TheVariants.{Letters, Figures}
use Rattle.signals.specs.Meaning.{letters, figures}

-- the shift to a case
abbrev pub shift_to : Case → ℕ
shift_to Letters = letters
shift_to Figures = figures

abbrev pub other : Case → Case
other Letters = Figures
other Figures = Letters
