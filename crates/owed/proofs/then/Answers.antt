-- `owed::then` meets its contract. Assumes nothing.
use borrow.Author.Tests.{lt-ltb, le-ltb}
use Rattle.owed.proofs.BlockLaws.{then_back, then_keep}
use Rattle.owed.proofs.then.Goals as goal

pub returns-then-index-filled : goal.returns-then-index-filled
returns-then-index-filled c = rw (c.in-Back.is, then_back c.args.code _ c.filled.ensures, lt-ltb _ _ c.if-index-filled.true)

pub returns-then-index-filled-2 : goal.returns-then-index-filled-2
returns-then-index-filled-2 c = rw (c.in-Keep.is, then_keep c.args.code _ c.filled-in-Keep.ensures, lt-ltb _ _ c.if-index-filled-2.true)

pub returns-else-index-filled : goal.returns-else-index-filled
returns-else-index-filled c = rw (c.in-Back.is, then_back c.args.code _ c.filled.ensures, le-ltb _ _ c.if-index-filled.false)

pub returns-else-index-filled-2 : goal.returns-else-index-filled-2
returns-else-index-filled-2 c = rw (c.in-Keep.is, then_keep c.args.code _ c.filled-in-Keep.ensures, le-ltb _ _ c.if-index-filled-2.false)
