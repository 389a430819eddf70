-- `encoding::room_for` meets its contract: the signals so far and those that are left are all. Assumes nothing.
use native.Mathlib.Omega.{arith}
use Rattle.encoding.proofs.WriteLaws.{turn_small, turn_next, turn_count, has_at}
use Rattle.encoding.proofs.room_for.Goals as goal

pub row_of-requires : goal.row_of-requires
row_of-requires c =
    has_at c.args.judged.text.now c.loop-byte.byte-index c.args.judged.have (omega arith)

pub past-to-requires : goal.past-to-requires
past-to-requires c =
    let l = c.loop-byte in
    let small = turn_small c.args.judged.text.now c.args.case l.to.count l.to.ends l.byte-index l.invariant in
    (c.row_of.ensures, omega (arith, c.args.judged.short))

pub loop-byte-preserved : goal.loop-byte-preserved
loop-byte-preserved c =
    let l = c.loop-byte in
    turn_next c.args.judged.text.now c.args.case l.to.count l.to.ends l.byte-index l.invariant
    (omega arith)
    c.past-to.result.count
    c.past-to.ensures.count_value
    c.past-to.result.ends
    c.past-to.ensures.case_value

pub returns : goal.returns
returns c =
    let l = c.loop-byte in
    turn_count c.args.judged.text.now c.args.case l.to.count l.to.ends l.byte-index l.invariant (omega arith)
