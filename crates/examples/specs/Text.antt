-- 01, Worked examples: 'P, from letters: "A1" gives 71 54 46; "1 2" gives 54 46 92 39; "" gives none.'  R-141
-- Assumes nothing.
use Rattle.std.specs.Prelude.{Bool, true, false, ◌&&◌, List, [], ◌∷◌, ℕ, eqb, length}
use Rattle.signals.specs.declared.Case.TheVariants.{Letters}
use Rattle.signals.specs.Numbers.{Answer, answered, refused}
use Rattle.text.specs.Written.{Written}
use Rattle.text.specs.Encoding.{encoding}

same : List ℕ → List ℕ → Bool
same [] [] = true
same [] (y ∷ ys) = false
same (x ∷ xs) [] = false
same (x ∷ xs) (y ∷ ys) = eqb x y && same xs ys

wrote : Answer Written → List ℕ → Bool
wrote (answered w) ws = same w.bytes ws
wrote (refused n v) ws = false

-- encoding the text, into room that is just enough, is not refused and writes these words
gives : List ℕ → List ℕ → Bool
gives text ws = wrote (encoding text Letters (length ws)) ws

unfoldable pub text_examples : List Bool
unfolding same wrote gives
text_examples =
    gives (65 ∷ 49 ∷ []) (71 ∷ 54 ∷ 46 ∷ [])  -- "A1"
    ∷ gives (49 ∷ 32 ∷ 50 ∷ []) (54 ∷ 46 ∷ 92 ∷ 39 ∷ [])  -- "1 2"
    ∷ gives [] []  -- ""
    ∷ []
