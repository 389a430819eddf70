-- `answering::gathered` meets its contract. Assumes nothing.
use Rattle.answering.proofs.gathered.Goals as goal

pub returns : goal.returns
returns c = rw (← c.gathered_in.ensures) c.hear.ensures
