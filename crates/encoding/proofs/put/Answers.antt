-- `encoding::put` meets its contract: the shift, if one is needed, and then the signal. Assumes nothing.
use mathlib.Core.Path.{◌≡◌}
use Rattle.std.proofs.Common.{rules, tests}
use Rattle.encoding.proofs.WriteLaws.{put_one, put_two}
use Rattle.encoding.proofs.put.Goals as goal
use Rattle.encoding.proofs.put.Goals.{then-ne, else-ne}

pub returns-clause-wrote : goal.returns-clause-wrote
returns-clause-wrote c =
    let a = c.args in
    let to = c.past-to in
    elim c.if-ne.branch [
      | then-ne w ↦ (let d : (to.result.ends ≡ a.from.ends → ⊥) = search (rules, tests) in rw (w.room-is, w.shift_to.ensures) (put_two a.byte a.row c.requires.row a.from.ends to.result.ends to.ensures.case_value a.room.now a.from.count to.result.count to.ensures.count_value d))
      | else-ne w ↦ (let d : to.result.ends ≡ a.from.ends = search (rules, tests) in rw w.room-is (put_one a.byte a.row c.requires.row a.from.ends to.result.ends to.ensures.case_value a.room.now a.from.count to.result.count to.ensures.count_value d))
    ]
