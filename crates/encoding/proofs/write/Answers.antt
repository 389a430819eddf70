-- `encoding::write` meets its contract: after each byte what is left to write makes of the room what the whole text makes of it
-- at first. Assumes nothing.
use native.Mathlib.Omega.{arith}
use Rattle.encoding.proofs.WriteLaws.{write_next, write_ends, turn_room, turn_small, turn_end, has_at}
use Rattle.encoding.proofs.write.Goals as goal

pub row_of-requires : goal.row_of-requires
row_of-requires c =
    has_at c.args.judged.text.now c.loop-byte.byte-index c.args.judged.have (omega arith)

pub put-to-requires-clause-small : goal.put-to-requires-clause-small
put-to-requires-clause-small c =
    let l = c.loop-byte in
    omega (arith, c.args.judged.short, turn_small c.args.judged.text.now c.args.case l.to.count l.to.ends l.byte-index l.invariant.turning)

pub put-to-requires-clause-fits : goal.put-to-requires-clause-fits
put-to-requires-clause-fits c =
    let l = c.loop-byte in
    let room = turn_room c.args.judged.text.now c.args.case l.to.count l.to.ends l.byte-index l.invariant.turning (omega arith) in
    omega (arith, c.requires, l.invariant.same)

pub loop-byte-preserved : goal.loop-byte-preserved
loop-byte-preserved c =
    let l = c.loop-byte in
    let p = c.put-to in
    write_next c.args.judged.text.now c.args.case c.args.room.now l.room l.to.count l.to.ends l.byte-index l.invariant
    (omega arith)
    p.result.count
    p.new.room
    p.ensures.wrote
    p.auto.room
    p.result.ends
    p.ensures.case_value

pub returns-clause-wrote : goal.returns-clause-wrote
returns-clause-wrote c =
    let l = c.loop-byte in
    write_ends c.args.judged.text.now c.args.case c.args.room.now l.room l.to.count l.to.ends l.byte-index l.invariant (omega arith)

pub returns-clause-case_value : goal.returns-clause-case_value
returns-clause-case_value c =
    let l = c.loop-byte in
    turn_end c.args.judged.text.now c.args.case l.to.count l.to.ends l.byte-index l.invariant.turning (omega arith)
