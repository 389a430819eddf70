-- How many bytes a word prints, and a list of words. Assumes nothing.
use Rattle.std.specs.Prelude.{List, [], ◌∷◌, ℕ, ◌+◌, eqb, if◌then◌else◌}

-- how many bytes a word that may be printed prints, in either case: none for the shifts (90, 54) and blank (106)
abbrev pub size_of : ℕ → ℕ
size_of w = if eqb w 90 then 0 else if eqb w 54 then 0 else if eqb w 106 then 0 else 1

-- and the words of a list
unfoldable pub sizes_of : List ℕ → ℕ
sizes_of [] = 0
sizes_of (w ∷ ws) = size_of w + sizes_of ws
