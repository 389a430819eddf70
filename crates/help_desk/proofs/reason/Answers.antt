-- `help_desk::reason` meets its contract: at each place the reason is that place's. Assumes nothing.
use Rattle.naming.proofs.PlaceLaws.{at_sending_lem, at_turning, at_opening, at_ending_lem, at_receiving, at_asking, at_stand_by_lem, at_lost, at_calling_lem, at_calling_3, at_identifying, at_answering}
use Rattle.help_desk.proofs.reason.Goals as goal

pub returns-in-Sending : goal.returns-in-Sending
returns-in-Sending c =
    let a = c.args in
    rw (at_sending_lem a.s a.burst a.offer _ c.in-Sending.is, ← c.late-late.ensures) c.sending.ensures

pub returns-in-Turning : goal.returns-in-Turning
returns-in-Turning c =
    let a = c.args in
    rw (at_turning a.s a.burst a.offer _ c.in-Turning.is, ← c.late-late.ensures) c.turning.ensures

pub returns-in-Opening : goal.returns-in-Opening
returns-in-Opening c =
    let a = c.args in
    rw (at_opening a.s a.burst a.offer c.in-Opening.is, ← c.late-late.ensures) c.opening.ensures

pub returns-in-Ending : goal.returns-in-Ending
returns-in-Ending c =
    let a = c.args in
    rw (at_ending_lem a.s a.burst a.offer _ c.in-Ending.is) c.ending.ensures

pub returns-in-Receiving : goal.returns-in-Receiving
returns-in-Receiving c =
    let a = c.args in
    rw (at_receiving a.s a.burst a.offer _ c.in-Receiving.is, ← c.late-late.ensures, ← c.is_over.ensures) c.receiving.ensures

pub returns-in-Asking : goal.returns-in-Asking
returns-in-Asking c =
    let a = c.args in
    rw (at_asking a.s a.burst a.offer c.in-Asking.is, ← c.late-late.ensures) c.asking.ensures

pub returns-in-StandBy : goal.returns-in-StandBy
returns-in-StandBy c =
    let a = c.args in
    rw (at_stand_by_lem a.s a.burst a.offer _ c.in-StandBy.is) c.stand_by.ensures

pub returns-in-Lost : goal.returns-in-Lost
returns-in-Lost c =
    let a = c.args in
    rw (at_lost a.s a.burst a.offer c.in-Lost.is)

pub returns-in-Calling : goal.returns-in-Calling
returns-in-Calling c =
    let a = c.args in
    rw (at_calling_lem a.s a.burst a.offer _ c.in-Calling.is) c.calling.ensures

pub returns-in-Calling3 : goal.returns-in-Calling3
returns-in-Calling3 c =
    let a = c.args in
    rw (at_calling_3 a.s a.burst a.offer _ c.in-Calling3.is) c.calling3.ensures

pub returns-in-Identifying : goal.returns-in-Identifying
returns-in-Identifying c =
    let a = c.args in
    rw (at_identifying a.s a.burst a.offer _ c.in-Identifying.is, ← c.late-late.ensures) c.identifying.ensures

pub returns-in-Answering : goal.returns-in-Answering
returns-in-Answering c =
    let a = c.args in
    rw (at_answering a.s a.burst a.offer _ c.in-Answering.is, ← c.late-late.ensures) c.answering.ensures
