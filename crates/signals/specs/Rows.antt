-- The code's table, beside the 35 signals: a signal's row has its word and the byte that it prints in each case.  R-162
--
-- 0 stands for no byte; no character is the byte 0. A letter without a figure prints 35 (01, Text; R-035).
-- Assumes nothing.
use Rattle.std.specs.Prelude.{◌≡◌, List, map, ℕ, ◌<◌, get_or}
use Rattle.signals.specs.declared.Row.{Row}
use Rattle.signals.specs.Signals.{Signal, pair, lone, free, mute, signals}

abbrev pub row : ℕ → ℕ → ℕ → Row
row w l f = record { 0 = w; 1 = l; 2 = f }

abbrev pub row_for : Signal → Row
row_for (pair w l f) = row w l f
row_for (lone w l) = row w l 35
row_for (free w c) = row w c c
row_for (mute w) = row w 0 0

-- the row at a place, from 0
unfoldable pub row_of : ℕ → Row
row_of at = get_or (map row_for signals) at (row 0 0 0)

-- a list that has each row at its place: the code's table
abbrev pub Rows : List Row → Type 0
Rows l = (at : ℕ) → at < 35 → get_or l at (row 0 0 0) ≡ row_of at
