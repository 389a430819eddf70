-- `printing::print_run` meets its contract: the words passed are printed, all in the case of the run. Assumes nothing.
use Rattle.printing.specs.Run.{Going}
use Rattle.printing.proofs.RunLaws.{stands}
use Rattle.printing.proofs.print_run.Given as goal

abbrev pub invariant-loop-i : goal.invariant-loop-i
invariant-loop-i l = Going l.case l.judged.words.now l.at l.initial.room l.to (stands l.i l.next l.case) l.room
