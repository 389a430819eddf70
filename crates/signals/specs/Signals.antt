-- 01, The code (001, tables 1 and 2): the 35 signals, a line each.  R-016, R-017, R-018, R-019, R-020
--
-- Letters and figures stand as bytes. The units are those of 01's list, first sent on the left, and 001's wherever our copy of it
-- is legible (docs/DECISIONS.md, The code tables). The kinds of signal:
--     pair   a letter and, in figures case, a figure
--     lone   a letter that has no figure: F, G and H (001, table 1, note 5)
--     free   a character that is the same in either case
--     mute   a signal that prints no byte: the shifts and blank; and the three service signals, which are never printed
-- Assumes nothing.
use Rattle.std.specs.Prelude.{List, [], ◌∷◌, ℕ}
use Rattle.signals.specs.Units.{B, Y, word}

pub data Signal : Type 0 where
  pair : (word letter figure : ℕ) → Signal
  lone : (word letter : ℕ) → Signal
  free : (word character : ℕ) → Signal
  mute : (word : ℕ) → Signal

abbrev pub word_of : Signal → ℕ
word_of (pair w l f) = w
word_of (lone w l) = w
word_of (free w c) = w
word_of (mute w) = w

abbrev pub signals : List Signal
signals =
    pair (word B B B Y Y Y B) 65 45  --  1  A  -
    ∷ pair (word Y B Y Y B B B) 66 63  --  2  B  ?
    ∷ pair (word B Y B B B Y Y) 67 58  --  3  C  :
    ∷ pair (word B B Y Y B Y B) 68 05  --  4  D  who are you
    ∷ pair (word Y B B Y B Y B) 69 51  --  5  E  3
    ∷ lone (word B B Y B B Y Y) 70  --     6  F
    ∷ lone (word B Y B Y B B Y) 71  --     7  G
    ∷ lone (word B Y Y B Y B B) 72  --     8  H
    ∷ pair (word B Y B B Y Y B) 73 56  --  9  I  8
    ∷ pair (word B B B Y B Y Y) 74 07  -- 10  J  bell
    ∷ pair (word Y B B B B Y Y) 75 40  -- 11  K  (
    ∷ pair (word B Y B Y Y B B) 76 41  -- 12  L  )
    ∷ pair (word B Y Y B B B Y) 77 46  -- 13  M  .
    ∷ pair (word B Y Y B B Y B) 78 44  -- 14  N  ,
    ∷ pair (word B Y Y Y B B B) 79 57  -- 15  O  9
    ∷ pair (word B Y B B Y B Y) 80 48  -- 16  P  0
    ∷ pair (word Y B B B Y B Y) 81 49  -- 17  Q  1
    ∷ pair (word B Y B Y B Y B) 82 52  -- 18  R  4
    ∷ pair (word B B Y B Y Y B) 83 39  -- 19  S  '
    ∷ pair (word Y Y B Y B B B) 84 53  -- 20  T  5
    ∷ pair (word Y B B B Y Y B) 85 55  -- 21  U  7
    ∷ pair (word Y Y B B B B Y) 86 61  -- 22  V  =
    ∷ pair (word B B B Y Y B Y) 87 50  -- 23  W  2
    ∷ pair (word Y B Y B B B Y) 88 47  -- 24  X  /
    ∷ pair (word B B Y B Y B Y) 89 54  -- 25  Y  6
    ∷ pair (word B B Y Y Y B B) 90 43  -- 26  Z  +
    ∷ free (word Y Y Y B B B B) 13  --    27  carriage return
    ∷ free (word Y Y B B Y B B) 10  --    28  line feed
    ∷ mute (word Y B Y B B Y B)  --       29  letters
    ∷ mute (word Y B B Y B B Y)  --       30  figures
    ∷ free (word Y Y B B B Y B) 32  --    31  space
    ∷ mute (word Y B Y B Y B B)  --       32  blank
    ∷ mute (word B B B B Y Y Y)  --       33  α
    ∷ mute (word B B Y Y B B Y)  --       34  β
    ∷ mute (word Y B B Y Y B B)  --       35  RQ
    ∷ []
