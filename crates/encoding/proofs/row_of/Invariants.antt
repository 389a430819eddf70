-- `encoding::row_of` meets its contract: a letter's row by its number, and any other byte's by a search that stays short of its
-- holder's number, and so ends there. Assumes nothing.
use Prim.Native.Nat.{◌-◌, ◌<◌}
use Rattle.characters.specs.Holder.{holder_of}
use Rattle.encoding.proofs.row_of.Given as goal

abbrev pub invariant-loop-place : goal.invariant-loop-place
invariant-loop-place l = l.place < holder_of l.byte

abbrev pub decreases-loop-place : goal.decreases-loop-place
decreases-loop-place l = holder_of l.byte - l.place
