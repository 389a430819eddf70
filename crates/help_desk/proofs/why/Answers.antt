-- `help_desk::why` meets its contract where nothing is refused: the reason. Assumes nothing.
use Rattle.help_desk.proofs.RefusalLaws.{because}
use Rattle.help_desk.proofs.why.Goals as goal

pub returns : goal.returns
returns c = because c.args.s c.args.burst c.args.offer _ c.in_ok-judged.ensures _ c.reason.ensures
