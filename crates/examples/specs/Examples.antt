-- 01, Worked examples: "Those marked P are proved, as a single statement over a list of them."  R-151.
-- And those of 001 that 02 names (T-05).
-- Assumes nothing.
use Rattle.std.specs.Prelude.{Bool, true, ◌&&◌, List, [], ◌∷◌, ◌++◌}
use Rattle.examples.specs.Code.{code_examples}
use Rattle.examples.specs.Text.{text_examples}
use Rattle.examples.specs.ModeA.{mode_a_examples}
use Rattle.examples.specs.ModeB.{mode_b_examples}
use Rattle.examples.specs.Sums.{sum_examples}

unfoldable pub examples : List Bool
examples = code_examples ++ text_examples ++ mode_a_examples ++ mode_b_examples ++ sum_examples

unfoldable pub holds : List Bool → Bool
holds [] = true
holds (e ∷ es) = e && holds es
