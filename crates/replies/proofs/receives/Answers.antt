-- `replies::receives` meets its contract. Assumes nothing.
use Rattle.replies.proofs.receives.Goals as goal

pub returns : goal.returns
returns c = simp (c.sends.ensures, c.asks.ensures, c.cancelled_to.ensures)
