-- `replies::opens` meets its contract. Assumes nothing.
use Rattle.replies.proofs.opens.Goals as goal

pub returns : goal.returns
returns c = simp (c.sends.ensures, c.requests.ensures, c.cancelled_to.ensures)
