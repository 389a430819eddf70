-- `replies::answers` meets its contract. Assumes nothing.
use Rattle.replies.proofs.answers.Goals as goal

pub returns : goal.returns
returns c = simp (c.sends.ensures, c.asks.ensures, c.begun.ensures)
