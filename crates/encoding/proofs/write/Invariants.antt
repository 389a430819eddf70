-- `encoding::write` meets its contract: after each byte what is left to write makes of the room what the whole text makes of it
-- at first. Assumes nothing.
use Rattle.encoding.proofs.WriteLaws.{Writing}
use Rattle.encoding.proofs.write.Given as goal

abbrev pub invariant-loop-byte : goal.invariant-loop-byte
invariant-loop-byte l = Writing l.judged.text.now l.initial.to.ends l.initial.room l.room l.to.count l.to.ends l.byte-index
