-- 01, Worked examples: "P: 71 is A; 86 is E; 0, 127 and 199 are mutilated; α 15, β 51, RQ 102, CS1 101, CS2 106, CS3 89."
-- R-140
-- Assumes nothing.
use Rattle.std.specs.Prelude.{Bool, not, ◌&&◌, List, [], ◌∷◌, ℕ, eqb}
use Rattle.signals.specs.Units.{intact_of}
use Rattle.signals.specs.Meaning.{meaning_of, alpha, beta, rq, cs1, cs2, cs3}

-- the word is intact, and means the signal with that number
is : ℕ → ℕ → Bool
is w n = intact_of w && eqb (meaning_of w) n

mutilated : ℕ → Bool
mutilated w = not (intact_of w) && eqb (meaning_of w) 0

unfoldable pub code_examples : List Bool
unfolding is mutilated
code_examples =
    is 71 1  -- 71 is A
    ∷ is 86 5  -- 86 is E
    ∷ mutilated 0
    ∷ mutilated 127
    ∷ mutilated 199
    ∷ eqb alpha 15
    ∷ eqb beta 51
    ∷ eqb rq 102
    ∷ eqb cs1 101
    ∷ eqb cs2 106
    ∷ eqb cs3 89
    ∷ []
