-- How a program ends (docs/FORMATS.md, "Status"). Assumes nothing.
use Rattle.std.specs.Prelude.{Bool, true, false, ℕ, Result, Ok, Err, ⊤}
use Rattle.std.specs.declared.process.ExitCode.{ExitCode}
use Rattle.std.specs.Process.{exit_status}

-- "0: done. 1: refused, bad input, or a failed read or write"
abbrev pub status_of : Bool → ℕ
status_of true = 0
status_of false = 1

-- of a program that stops where it has told something: that of what was told
abbrev pub status_after : Result ⊤ ExitCode → ℕ
status_after (Ok done) = status_of true
status_after (Err told) = exit_status told
