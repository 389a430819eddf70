-- The holder of a byte: the number of the signal that has it as its letter, figure or character, small letters as the capitals;
-- and that signal's row.
-- Assumes nothing.
use Rattle.std.specs.Prelude.{◌≡◌, true, ◌||◌, List, [], ◌∷◌, ℕ, suc, ◌-◌, eqb, if◌then◌else◌}
use Rattle.signals.specs.declared.Row.{Row}
use Rattle.signals.specs.Rows.{row_of}
use Rattle.signals.specs.Signals.{Signal, pair, lone, free, mute, signals}
use Rattle.text.specs.Encoding.{raised, has_signal}

-- counted from n; 0 where no signal has it
abbrev pub holder_in : List Signal → ℕ → ℕ → ℕ
holder_in [] n x = 0
holder_in (pair w l f ∷ ss) n x = if eqb x l || eqb x f then n else holder_in ss (suc n) x
holder_in (lone w l ∷ ss) n x = if eqb x l then n else holder_in ss (suc n) x
holder_in (free w c ∷ ss) n x = if eqb x c then n else holder_in ss (suc n) x
holder_in (mute w ∷ ss) n x = holder_in ss (suc n) x

unfoldable pub holder_of : ℕ → ℕ
holder_of x = holder_in signals 1 (raised x)

-- a signal has the byte x, and r is its row
pub record HasRow (x : ℕ) (r : Row) : Type 0 where
  pub has : has_signal x ≡ true
  pub row : r ≡ row_of (holder_of x - 1)
