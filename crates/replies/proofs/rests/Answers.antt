-- `replies::rests` meets its contract. Assumes nothing.
use Rattle.replies.proofs.rests.Goals as goal

pub returns : goal.returns
returns c = simp (c.sends.ensures, c.rested.ensures)
