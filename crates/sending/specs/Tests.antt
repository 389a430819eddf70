-- A test of words, as a function decides it. Assumes nothing.
use Rattle.std.specs.Prelude.{◌≡◌, Bool, ℕ}

-- whatever the function answers is what the test says
abbrev pub DecidedBy : (ℕ → Bool) → (ℕ → Bool → Type 0) → Type 0
DecidedBy test post = (w : ℕ) (r : Bool) → post w r → r ≡ test w
