-- `replies::yields` meets its contract. Assumes nothing.
use Rattle.replies.proofs.yields.Goals as goal

pub returns : goal.returns
returns c = simp (c.sends.ensures, c.owing_at.ensures)
