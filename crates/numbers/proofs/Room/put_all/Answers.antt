-- `numbers::Room::put_all` meets its contract. Assumes nothing.
use Rattle.numbers.proofs.PutLaws.{put_more}
use Rattle.numbers.proofs.Room.put_all.Goals as goal

pub loop-byte-preserved : goal.loop-byte-preserved
loop-byte-preserved c = put_more _ _ _ _ _ c.loop-byte-test.true c.loop-byte.invariant c.put.ensures
