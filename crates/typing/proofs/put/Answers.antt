-- `typing::put` meets its contract: the three words one behind the other. Assumes nothing.
use mathlib.Core.List.{◌++◌}
use native.Mathlib.Omega.{arith}
use Rattle.typing.specs.Typing.{signal_in}
use Rattle.typing.proofs.TypingLaws.{one_by_one, one_more, types_then}
use Rattle.typing.proofs.put.Goals as goal

pub put_word-two-requires : goal.put_word-two-requires
put_word-two-requires c =
    let w = c.args.words in
    let o = c.put_word-one in
    (c.requires.0.1, omega (arith, c.requires.1, one_more w.0 c.args.typed o.result o.ensures.0))

pub put_word-requires : goal.put_word-requires
put_word-requires c =
    let w = c.args.words in
    let o = c.put_word-one in
    let p = c.put_word-two in
    (c.requires.0.2, omega (arith, c.requires.1, one_more w.0 c.args.typed o.result o.ensures.0, one_more w.1 o.result p.result p.ensures.0))

pub returns : goal.returns
returns c =
    let w = c.args.words in
    let t = c.args.typed in
    let o = c.put_word-one in
    let p = c.put_word-two in
    let q = c.put_word in
    rw (one_by_one w)
    (types_then (signal_in w.0) (signal_in w.1 ++ signal_in w.2) t c.args.write c.args.room.now o.new.room q.new.room o.result q.result o.ensures
    (types_then (signal_in w.1) (signal_in w.2) o.result c.args.write o.new.room p.new.room q.new.room p.result q.result p.ensures q.ensures))
