-- `identity::check_sum` meets its contract: the code's array is table 3b, and the sums fit. Assumes nothing.
use mathlib.Core.Path.{ap, sym}
use Prim.Native.Nat.{◌+◌}
use native.Mathlib.Nat.{mod-add-mod}
use native.Mathlib.Omega.{arith}
use Rattle.identity.specs.Table3.{number_of, signal_of}
use Rattle.identity.specs.Sums.{check_sum}
use Rattle.identity.proofs.TableLaws.{number_lt}
use Rattle.identity.proofs.check_sum.Goals as goal

pub overflow_add-sum : goal.overflow_add-sum
overflow_add-sum c =
    let a = c.args in
    omega (arith, number_lt a.x, number_lt a.y)

pub overflow_add-sum-2 : goal.overflow_add-sum-2
overflow_add-sum-2 c =
    let a = c.args in
    omega (arith, number_lt a.x, number_lt a.y, number_lt a.z)

pub returns : goal.returns
unfolding check_sum signal_of
returns c =
    let a = c.args in
    rw (c.number.ensures, c.number-2.ensures, c.number-3.ensures)
    (ap signal_of (sym (mod-add-mod (number_of a.x + number_of a.y) 20 (number_of a.z))))
