-- `encoding::room_for` meets its contract: the signals so far and those that are left are all. Assumes nothing.
use Rattle.encoding.proofs.WriteLaws.{Turning}
use Rattle.encoding.proofs.room_for.Given as goal

abbrev pub invariant-loop-byte : goal.invariant-loop-byte
invariant-loop-byte l = Turning l.judged.text.now l.initial.to.ends l.to.count l.to.ends l.byte-index
