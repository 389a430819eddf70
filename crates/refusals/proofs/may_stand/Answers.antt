-- `refusals::may_stand` meets its contract: of each byte, the bit that the code looks at is the definition, listed. Assumes nothing.
use mathlib.Core.Path.{◌≡◌, refl}
use mathlib.Core.Bool.{Bool, false, ◌&&◌}
use Prim.Native.Nat.{ℕ, ◌/◌, ◌%◌, ◌^◌, ◌<◌, ◌≤◌}
use lib.Bits.{bit_and}
use lib.Dec.{eqb, ltb}
use borrow.Author.Tests.{le-ltb}
use Rattle.std.specs.Prelude.{if◌then◌else◌}
use Rattle.laws.proofs.Table.{tab_from, same_table}
use Rattle.signals.specs.Meaning.{meaning_of, traffic_of}
use Rattle.mode_a.specs.Heard.{may_hold}
use Rattle.refusals.proofs.may_stand.Goals as goal
use Rattle.refusals.proofs.may_stand.Goals.{then-word-lt64, else-word-lt64}

-- a word below a bound whose bit is set in a half of the table
abbrev bit : ℕ → ℕ → ℕ → Bool
bit bound half x = ltb x bound && eqb (bit_and (half / 2 ^ (x % 64)) 1) 1

-- from 64 on: a word below has the value that the definition has, so that one table says it of all bytes
abbrev upper : ℕ → ℕ → ℕ → Bool
upper bound half x = if ltb x 64 then may_hold x else bit bound half x

upper-bit : (bound half x : ℕ) → tab_from (upper bound half) 256 0 ≡ tab_from may_hold 256 0 →
    x < 256 → 64 ≤ x → bit bound half x ≡ may_hold x
upper-bit bound half x e byte h = rw (le-ltb x 64 h) at (same_table (upper bound half) may_hold 256 false e x byte)

pub returns : goal.returns
unfolding may_hold traffic_of meaning_of
returns c =
    elim c.if-word-lt64.branch [
      | then-word-lt64 w ↦ rw w.half-is (same_table (bit _ _) may_hold 64 false refl c.args.word w.if-word-lt64.true)
      | else-word-lt64 w ↦ rw w.half-is (upper-bit _ _ c.args.word refl c.ranges.word.fits w.if-word-lt64.false)
    ]
