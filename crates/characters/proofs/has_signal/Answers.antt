-- `characters::has_signal` meets its contract: what the code tests of each byte, below 64 and from there on, is the definition, listed.
-- Assumes nothing.
use mathlib.Core.Path.{◌≡◌, refl}
use mathlib.Core.Bool.{Bool, false, ◌&&◌}
use Prim.Native.Nat.{ℕ, ◌/◌, ◌^◌, ◌<◌, ◌≤◌}
use lib.Bits.{bit_and}
use lib.Dec.{eqb, ltb}
use borrow.Author.Tests.{le-ltb}
use Rattle.std.specs.Prelude.{if◌then◌else◌}
use Rattle.laws.proofs.Table.{tab_from, same_table}
use Rattle.text.specs.Encoding.{character_of, raised, has_signal}
use Rattle.characters.proofs.has_signal.Goals as goal

-- the bit of a byte in a mask
abbrev bit : ℕ → ℕ → Bool
bit mask x = eqb (bit_and (mask / 2 ^ x) 1) 1

-- from 64 on, a byte of which a mask leaves what is between two bounds
abbrev between : ℕ → ℕ → ℕ → ℕ → Bool
between mask low high x = ltb low (bit_and x mask) && ltb (bit_and x mask) high

abbrev from64 : (ℕ → Bool) → ℕ → Bool
from64 f x = if ltb x 64 then false else f x

past-64 : (f g : ℕ → Bool) → tab_from (from64 f) 256 0 ≡ tab_from (from64 g) 256 0 → (x : ℕ) → x < 256 → 64 ≤ x → f x ≡ g x
past-64 f g e x fits h = rw (le-ltb x 64 h) at (same_table (from64 f) (from64 g) 256 false e x fits)

pub returns-then-byte-lt64 : goal.returns-then-byte-lt64
unfolding character_of raised
returns-then-byte-lt64 c = same_table (bit _) has_signal 64 false refl c.args.byte c.if-byte-lt64.true

pub returns : goal.returns
unfolding character_of raised
returns c = past-64 (between _ _ _) has_signal refl c.args.byte c.ranges.byte.fits c.if-byte-lt64.false
