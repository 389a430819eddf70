-- `replies::reaches` meets its contract. Assumes nothing.
use Rattle.mode_a.specs.Step.{knowing}
use Rattle.offers.proofs.NextLaws.{takes_next_lem}
use Rattle.replies.proofs.reaches.Goals as goal

pub returns : goal.returns
returns c =
    let a = c.args in
    rw (c.takes.ensures, c.knowing.ensures, c.next-next.ensures)
    (takes_next_lem (knowing a.s a.other) a.number a.offer)
