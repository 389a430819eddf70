-- `judging::may_print` meets its contract. Assumes nothing.
use Rattle.text.specs.Printing.{may_print}
use Rattle.judging.proofs.may_print.Goals as goal

pub returns : goal.returns
unfolding may_print
returns c = rw c.is_traffic.ensures
