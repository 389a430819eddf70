-- `owed::filled` meets its contract: of each byte, what the code answers is the definition, listed. Assumes nothing.
use Prim.Native.Nat.{◌+◌, ◌/◌}
use native.Mathlib.Omega.{arith}
use Rattle.laws.proofs.Below.{agree_below}
use Rattle.owed.specs.Blocks.{filled_by}
use Rattle.owed.proofs.filled.Goals as goal

pub returns : goal.returns
unfolding filled_by
returns c =
    record { is = agree_below (λ n. (n + 2) / 3) filled_by 256 tt c.args.length c.ranges.length.fits; small = omega arith }
