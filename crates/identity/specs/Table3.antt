-- 001, 2.4, tables 3a and 3b: "The relationship between the transmitted identification signals and their equivalent numbers is shown in
-- Table 3a; Table 3b indicates the conversion from check-sum numbers to the transmitted check-sum signals."  R-176, R-197
-- Assumes nothing.
use Rattle.std.specs.Prelude.{Bool, false, ◌||◌, List, [], ◌∷◌, ℕ, eqb, get_or, if◌then◌else◌}
use Rattle.signals.specs.Meaning.{word_no}

-- Table 3a: "identification signal, equivalent number", in 001's order, each signal by its number in table 1
abbrev pub table3a : List (ℕ × ℕ)
table3a =
    (word_no 1, 19)  -- A
    ∷ (word_no 2, 11)  -- B
    ∷ (word_no 3, 6)  -- C
    ∷ (word_no 4, 18)  -- D
    ∷ (word_no 5, 13)  -- E
    ∷ (word_no 6, 8)  -- F
    ∷ (word_no 9, 15)  -- I
    ∷ (word_no 11, 3)  -- K
    ∷ (word_no 13, 4)  -- M
    ∷ (word_no 15, 14)  -- O
    ∷ (word_no 16, 5)  -- P
    ∷ (word_no 17, 2)  -- Q
    ∷ (word_no 18, 16)  -- R
    ∷ (word_no 19, 9)  -- S
    ∷ (word_no 20, 10)  -- T
    ∷ (word_no 21, 12)  -- U
    ∷ (word_no 22, 0)  -- V
    ∷ (word_no 24, 1)  -- X
    ∷ (word_no 25, 7)  -- Y
    ∷ (word_no 26, 17)  -- Z
    ∷ []

-- Table 3b: "check-sum number, check-sum signal", the signals in the order of their numbers from 0
abbrev pub table3b : List ℕ
table3b =
    word_no 22  --  0  V
    ∷ word_no 24  --  1  X
    ∷ word_no 17  --  2  Q
    ∷ word_no 11  --  3  K
    ∷ word_no 13  --  4  M
    ∷ word_no 16  --  5  P
    ∷ word_no 3  --  6  C
    ∷ word_no 25  --  7  Y
    ∷ word_no 6  --  8  F
    ∷ word_no 19  --  9  S
    ∷ word_no 20  --  10  T
    ∷ word_no 2  --  11  B
    ∷ word_no 21  --  12  U
    ∷ word_no 5  --  13  E
    ∷ word_no 15  --  14  O
    ∷ word_no 9  --  15  I
    ∷ word_no 18  --  16  R
    ∷ word_no 26  --  17  Z
    ∷ word_no 4  --  18  D
    ∷ word_no 1  --  19  A
    ∷ []

-- a word that table 3a has, and its number; 0 for any other word
abbrev pub has : List (ℕ × ℕ) → ℕ → Bool
has [] w = false
has (row ∷ rows) w = eqb w row.0 || has rows w

abbrev pub number_in : List (ℕ × ℕ) → ℕ → ℕ
number_in [] w = 0
number_in (row ∷ rows) w = if eqb w row.0 then row.1 else number_in rows w

unfoldable pub is_identity : ℕ → Bool
is_identity w = has table3a w

unfoldable pub number_of : ℕ → ℕ
number_of w = number_in table3a w

-- the signal of a check-sum number
unfoldable pub signal_of : ℕ → ℕ
signal_of n = get_or table3b n 0
