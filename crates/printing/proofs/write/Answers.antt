-- `printing::write` meets its contract: turn by turn what the case in force reaches. Assumes nothing.
use Rattle.printing.proofs.RunLaws.{going_then, going_all}
use Rattle.printing.proofs.write.Goals as goal

pub loop-stands-preserved-in-Letters : goal.loop-stands-preserved-in-Letters
loop-stands-preserved-in-Letters c = going_then c.loop-stands.invariant (rw c.in-Letters.is c.print_letters-stands.ensures.going)

pub loop-stands-preserved : goal.loop-stands-preserved
loop-stands-preserved c = going_then c.loop-stands.invariant (rw c.in-Figures.is c.print_figures-stands.ensures.going)

pub returns : goal.returns
returns c = going_all c.loop-stands.invariant c.loop-stands-test.false
