-- `printing::write` meets its contract: turn by turn what the case in force reaches. Assumes nothing.
use Prim.Native.Nat.{◌-◌}
use lib.ListN.{length}
use Rattle.printing.specs.Run.{Going}
use Rattle.printing.proofs.write.Given as goal

abbrev pub invariant-loop-stands : goal.invariant-loop-stands
invariant-loop-stands l = Going l.initial.stands.case l.judged.words.now l.initial.stands.at l.initial.room l.initial.stands.to l.stands l.room

abbrev pub decreases-loop-stands : goal.decreases-loop-stands
decreases-loop-stands l = length l.judged.words.now - l.stands.at
