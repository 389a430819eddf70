-- Sending and Ending, by the number of the control signal heard and by what the place carries: its number n, and its block or its total.
-- Assumes nothing.
use Rattle.std.specs.Prelude.{ℕ, ◌+◌, leb, if◌then◌else◌}
use Rattle.mode_a.specs.declared.Number.{Number}
use Rattle.mode_a.specs.declared.Words.{Words}
use Rattle.mode_a.specs.declared.Place.TheVariants.{Ending}
use Rattle.mode_a.specs.declared.Doing.{Doing}
use Rattle.mode_a.specs.declared.Doing.TheVariants.{Repeats, Goes, Takes, Rests}
use Rattle.mode_a.specs.Station.{silence, ααα, other, same}

abbrev pub asked : Number → Number → Words → Doing
asked m n b = if same m n then Repeats b else Takes (other n)

abbrev pub ends_again : Number → ℕ → Doing
ends_again n t =
    if leb 4 t then Rests 0 silence else Goes (Ending (record { number = n; total = t + 1 })) ααα

abbrev pub ended : Number → Number → ℕ → Doing
ended m n t = if same m n then ends_again n t else Rests 0 silence
