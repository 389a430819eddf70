-- The byte that a word prints in a case, as its signal's row has it; 0 for no byte. Assumes nothing.
use Rattle.std.specs.Prelude.{List, [], ◌∷◌, ℕ, zero, suc}
use Rattle.signals.specs.declared.Case.{Case}
use Rattle.signals.specs.declared.Case.TheVariants.{Letters, Figures}
use Rattle.signals.specs.declared.Row.{Row}

-- the row's column for a case
abbrev pub column : Case → Row → ℕ
column Letters r = r.1
column Figures r = r.2

-- what is put for it
abbrev pub put_of : ℕ → List ℕ
put_of zero = []
put_of (suc g) = suc g ∷ []
