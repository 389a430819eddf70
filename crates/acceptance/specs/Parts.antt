-- Traffic signals word by word. Assumes nothing.
use Rattle.std.specs.Prelude.{ℕ, eqb, if◌then◌else◌}
use Rattle.signals.specs.Meaning.{beta}
use Rattle.mode_a.specs.declared.Words.{Words}
use Rattle.mode_a.specs.Station.{words}

-- the word before the others, unless it is β
abbrev pub prepended : ℕ → Words → Words
prepended w r = if eqb w beta then r else words w r.0 r.1
