-- `sending::all_pass` meets its contract. Assumes nothing.
use Rattle.sending.proofs.TestLaws.{none, one_more}
use Rattle.sending.proofs.all_pass.Goals as goal

pub loop-word-init : goal.loop-word-init
loop-word-init g c test d e = none test

pub loop-word-preserved : goal.loop-word-preserved
loop-word-preserved g c test d = one_more test _ _ c.args.words.now _ c.loop-word-test.true (c.loop-word.invariant test d) (d _ _ c.may-all.ensures)
