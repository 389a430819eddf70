-- `refusals::bad_call` meets its contract. Assumes nothing.
use Rattle.refusals.proofs.JudgeLaws.{four_of_fourteen}
use Rattle.refusals.proofs.bad_call.Goals as goal

pub returns-in-Call : goal.returns-in-Call
returns-in-Call c = rw (c.first_outside.ensures, c.in-Call.is) (four_of_fourteen _)
