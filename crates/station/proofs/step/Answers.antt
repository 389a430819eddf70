-- `station::step` meets its contract: what is refused, and the step done. Assumes nothing.
use Rattle.station.proofs.PartLaws.{done_by_row, refused_lem, step_done}
use Rattle.station.proofs.step.Goals as goal

pub returns-in-Err : goal.returns-in-Err
returns-in-Err c = rw (c.refused.ensures.station, c.refused.ensures.reason) (refused_lem c.args.s c.args.burst c.args.offer _ c.in-Err.ensures)

pub returns : goal.returns
returns c =
    let a = c.args in
    step_done a.s a.burst a.offer _ c.in_default.ensures _
    (done_by_row a.s a.burst a.offer _ c.kind_of.ensures _ c.action_at-action.ensures _ c.doing-doing.ensures _ c.done.ensures)
