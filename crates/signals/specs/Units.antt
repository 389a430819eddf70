-- 01, The code: "A word is a byte. The unit sent first is bit 0, B is 1, Y is 0, bit 7 is 0."  R-010, R-011, R-012, R-013, R-014, R-015
--
-- 001, table 1, note 3, writes B as 0 and Y as 1. 01 turns this round, and 01 decides.
-- Assumes nothing.
use Rattle.std.specs.Prelude.{Bool, ◌&&◌, ℕ, ◌+◌, ◌*◌, ◌/◌, ◌%◌, ◌^◌, ltb, eqb}

-- R-012
abbrev pub B : ℕ
B = 1

abbrev pub Y : ℕ
Y = 0

-- the word of seven units, the one sent first on the left, as 001 prints them  R-011, R-013
abbrev pub word : ℕ → ℕ → ℕ → ℕ → ℕ → ℕ → ℕ → ℕ
word a b c d e f g = a + 2 * b + 4 * c + 8 * d + 16 * e + 32 * f + 64 * g

-- unit k of a word, from 0
abbrev pub unit : ℕ → ℕ → ℕ
unit w k = w / 2 ^ k % 2

-- how many of the seven units are B
unfoldable pub ones_of : ℕ → ℕ
ones_of w = unit w 0 + unit w 1 + unit w 2 + unit w 3 + unit w 4 + unit w 5 + unit w 6

-- "A word is intact when it is below 128 and has exactly four ones; otherwise it is mutilated."  R-014, R-015, R-159
unfoldable pub intact_of : ℕ → Bool
intact_of w = ltb w 128 && eqb (ones_of w) 4
