-- Lent room of which a first part is written. Assumes nothing.
use Rattle.std.specs.Prelude.{◌≡◌, List, ◌++◌, ℕ, ◌+◌, length, drop}
use Rattle.std.proofs.lemmas.List.Edits.{sets}

-- what was written, and beyond it the room as it was
abbrev pub over : List ℕ → List ℕ → List ℕ
over written room = written ++ drop (length written) room

-- l was stored into `out` from `to` on, and nothing else: `after` is what it then holds, and r the place past the last
pub record Wrote (out : List ℕ) (to : ℕ) (l : List ℕ) (r : ℕ) (after : List ℕ) : Type 0 where
  pub ended : r ≡ to + length l
  pub holds : after ≡ sets out to l
