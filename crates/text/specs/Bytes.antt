-- The bytes that have a signal, one by one, in 01's order, and then 02's.
-- Assumes nothing.
use Rattle.std.specs.Prelude.{Bool, false, ◌||◌, List, [], ◌∷◌, ◌++◌, ℕ, eqb}

-- "Capitals"  R-027
abbrev pub capitals : List ℕ
capitals =
    65 ∷ 66 ∷ 67 ∷ 68 ∷ 69 ∷ 70 ∷ 71 ∷ 72 ∷ 73 ∷ 74 ∷ 75 ∷ 76 ∷ 77
    ∷ 78 ∷ 79 ∷ 80 ∷ 81 ∷ 82 ∷ 83 ∷ 84 ∷ 85 ∷ 86 ∷ 87 ∷ 88 ∷ 89 ∷ 90
    ∷ []

-- "the figures above":  ' ( )   + , - . /   0 to 9   : = ?
abbrev pub figure_bytes : List ℕ
figure_bytes =
    39 ∷ 40 ∷ 41
    ∷ 43 ∷ 44 ∷ 45 ∷ 46 ∷ 47
    ∷ 48 ∷ 49 ∷ 50 ∷ 51 ∷ 52 ∷ 53 ∷ 54 ∷ 55 ∷ 56 ∷ 57
    ∷ 58 ∷ 61 ∷ 63
    ∷ []

-- "13, 10, 32, 5 (who are you) and 7 (bell)"
abbrev pub other_bytes : List ℕ
other_bytes = 13 ∷ 10 ∷ 32 ∷ 5 ∷ 7 ∷ []

-- 02, T-01: "a to z as the capitals"
abbrev pub small_letters : List ℕ
small_letters =
    97 ∷ 98 ∷ 99 ∷ 100 ∷ 101 ∷ 102 ∷ 103 ∷ 104 ∷ 105 ∷ 106 ∷ 107 ∷ 108 ∷ 109
    ∷ 110 ∷ 111 ∷ 112 ∷ 113 ∷ 114 ∷ 115 ∷ 116 ∷ 117 ∷ 118 ∷ 119 ∷ 120 ∷ 121 ∷ 122
    ∷ []

-- "no other byte does"  R-028
abbrev pub bytes_with_signals : List ℕ
bytes_with_signals = capitals ++ figure_bytes ++ other_bytes ++ small_letters

abbrev pub among : List ℕ → ℕ → Bool
among [] x = false
among (y ∷ ys) x = eqb x y || among ys x
