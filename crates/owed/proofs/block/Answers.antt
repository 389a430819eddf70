-- `owed::block` meets its contract. Assumes nothing.
use borrow.Author.Tests.{eq-eqb, ne_eqb}
use Rattle.owed.proofs.BlockLaws.{block_back}
use Rattle.owed.proofs.block.Goals as goal

pub returns-then-index-filled : goal.returns-then-index-filled
returns-then-index-filled c = rw (c.in-Back.is, block_back c.args.code _ c.filled.ensures, eq-eqb _ _ c.if-index-filled.true)

pub returns-else-index-filled : goal.returns-else-index-filled
returns-else-index-filled c = rw (c.in-Back.is, block_back c.args.code _ c.filled.ensures, ne_eqb _ _ c.if-index-filled.false) c.code_block.ensures
