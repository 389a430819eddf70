-- `sending::all_pass` meets its contract: while all have passed, the first that fails stands behind those looked at. Assumes nothing.
use mathlib.Core.Path.{◌≡◌}
use mathlib.Core.Bool.{Bool, true}
use Prim.Native.Nat.{ℕ}
use lib.ListN.{take}
use Rattle.signals.specs.Numbers.{first_not}
use Rattle.sending.specs.Tests.{DecidedBy}
use Rattle.sending.proofs.all_pass.Given as goal

abbrev pub invariant-loop-word : goal.invariant-loop-word
invariant-loop-word g l =
    (test : ℕ → Bool) → DecidedBy test (goal.F-post g l.may) → l.all ≡ true → first_not test (take l.word-index l.words) ≡ l.word-index
