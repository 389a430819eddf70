-- `replies::goes` meets its contract. Assumes nothing.
use Rattle.replies.proofs.goes.Goals as goal

pub returns : goal.returns
returns c = simp (c.sends.ensures, c.moved_to.ensures)
