-- `numbers::Room::put_all` meets its contract: at each turn the bytes before this one are put. Assumes nothing.
use lib.ListN.{take}
use Rattle.numbers.specs.Writing.{PutsOn}
use Rattle.numbers.proofs.Room.put_all.Given as goal

abbrev pub invariant-loop-byte : goal.invariant-loop-byte
invariant-loop-byte l = PutsOn l.initial.self (take l.byte-index l.bytes) l.self
