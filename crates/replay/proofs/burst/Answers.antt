-- `replay::burst` meets its contract. Assumes nothing.
use Rattle.replay.proofs.GoLaws.{answers_so, refuses_so}
use Rattle.replay.proofs.burst.Goals as goal

pub returns-in-Ok : goal.returns-in-Ok
returns-in-Ok c =
    let r = c.hearing-by in
    let h = c.hears in
    rw c.answered.ensures (answers_so c.args.state c.args.damage r.result r.ensures h.result h.ensures _ c.in-Ok.is)

pub returns-in-Err : goal.returns-in-Err
returns-in-Err c =
    let r = c.hearing-by in
    let h = c.hears in
    refuses_so c.args.state c.args.damage r.result r.ensures h.result h.ensures _ c.in-Err.is
