-- `printing::glyph` meets its contract: the search of the rows is for a traffic signal, whose row is never behind it. Assumes nothing.
use Prim.Native.Nat.{◌-◌}
use Rattle.signals.proofs.CodeLaws.{Searching}
use Rattle.printing.proofs.glyph.Given as goal

abbrev pub invariant-loop-place : goal.invariant-loop-place
invariant-loop-place l = Searching l.word l.place

abbrev pub decreases-loop-place : goal.decreases-loop-place
decreases-loop-place l = 35 - l.place
