-- 001, 2.5, its own example ("P E A R D B Y → 5 13 19 16 18 11 7", "17 13 16 → Z E R"), and the check-sums of figure 3; 02, T-05: "Checked
-- against 2.5's own example."  R-198
-- Assumes nothing.
use Rattle.std.specs.Prelude.{Bool, ◌&&◌, List, [], ◌∷◌, ℕ, eqb}
use Rattle.identity.specs.declared.Seven.{Seven}
use Rattle.identity.specs.Table3.{number_of}
use Rattle.identity.specs.Sums.{check_sum1, check_sum2, check_sum3}

seven : ℕ → ℕ → ℕ → ℕ → ℕ → ℕ → ℕ → Seven
seven a b c d e f g = record { 0 = a; 1 = b; 2 = c; 3 = d; 4 = e; 5 = f; 6 = g }

-- the three check-sums, by their words
sums : Seven → ℕ → ℕ → ℕ → Bool
sums i a b c = eqb (check_sum1 i) a && (eqb (check_sum2 i) b && eqb (check_sum3 i) c)

unfoldable pub sum_examples : List Bool
unfolding seven sums
sum_examples =
    eqb (number_of 45) 5  -- P
    ∷ eqb (number_of 86) 13  -- E
    ∷ eqb (number_of 71) 19  -- A
    ∷ eqb (number_of 85) 16  -- R
    ∷ eqb (number_of 83) 18  -- D
    ∷ eqb (number_of 114) 11  -- B
    ∷ eqb (number_of 43) 7  -- Y
    ∷ sums (seven 45 86 71 85 83 114 43) 99 86 85  -- P E A R D B Y: Z E R
    ∷ sums (seven 30 46 60 99 85 75 86) 45 86 83  -- K Q V Z R S E: P E D
    ∷ []
