-- `characters::first_without` meets its contract: every byte passed has a signal. Assumes nothing.
use Prim.Native.Nat.{◌-◌}
use lib.ListN.{length}
use Rattle.text.specs.Encoding.{has_signal}
use Rattle.characters.proofs.JudgeLaws.{Passed}
use Rattle.characters.proofs.first_without.Given as goal

abbrev pub invariant-loop-i : goal.invariant-loop-i
invariant-loop-i l = Passed has_signal l.text l.i

abbrev pub decreases-loop-i : goal.decreases-loop-i
decreases-loop-i l = length l.text - l.i
