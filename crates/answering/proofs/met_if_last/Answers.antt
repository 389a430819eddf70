-- `answering::met_if_last` meets its contract. Assumes nothing.
use Rattle.answering.proofs.met_if_last.Goals as goal

pub returns-else-is_last : goal.returns-else-is_last
returns-else-is_last c = rw (← c.gathered_in-g.ensures, ← c.is_last.ensures, c.if-is_last.false) c.hear.ensures
