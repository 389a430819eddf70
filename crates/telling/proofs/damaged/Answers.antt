-- `telling::damaged` meets its contract. Assumes nothing.
use native.Mathlib.Omega.{arith}
use Rattle.telling.proofs.DamageLaws.{arrives_masked}
use Rattle.telling.proofs.damaged.Goals as goal

pub returns : goal.returns
returns c =
    let d = c.args.damage in
    let byte = c.ranges.damage.fits in
    rw (c.arrived-3.ensures, c.arrived-2.ensures, c.arrived.ensures, arrives_masked 0 (omega arith) d byte c.args.burst.0, arrives_masked 1 (omega arith) d byte c.args.burst.1, arrives_masked 2 (omega arith) d byte c.args.burst.2)
