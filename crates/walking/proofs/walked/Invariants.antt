-- `walking::walked` meets its contract: at each place the walk stands where the passage so far does. Assumes nothing.
use mathlib.Core.Path.{◌≡◌}
use Prim.Native.Nat.{◌-◌}
use lib.ListN.{length}
use Rattle.walking.proofs.WalkingLaws.{Walking}
use Rattle.walking.proofs.walked.Given as goal

abbrev pub invariant-loop-entry : goal.invariant-loop-entry
invariant-loop-entry l = record {
  same_record : l.reader.bytes.now ≡ l.fn.from.bytes.now;
  walks : Walking l.fn.write l.fn.from.bytes.now l.fn.from.at l.initial.master l.initial.slave l.reader.at l.walk l.master l.slave;
}

abbrev pub decreases-loop-entry : goal.decreases-loop-entry
decreases-loop-entry l = length l.reader.bytes.now - l.reader.at
