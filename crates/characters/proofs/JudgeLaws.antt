-- The bytes of a text judged one after the other. Assumes nothing.
use mathlib.Core.Path.{◌≡◌}
use mathlib.Core.Bool.{Bool, true, false}
use mathlib.Core.List.{List}
use Prim.Native.Nat.{ℕ, ◌+◌, ◌<◌, ◌≤◌}
use native.Mathlib.Omega.{arith}
use lib.ListN.{length, get_or, drop}
use Rattle.signals.specs.Numbers.{first_not}
use Rattle.signals.proofs.NumberLaws.{first_next, first_here, first_end}

-- every byte before i passes a test
pub record Passed (may : ℕ → Bool) (text : List ℕ) (i : ℕ) : Type 0 where
  pub within : i ≤ length text
  pub first : i + first_not may (drop i text) ≡ first_not may text

module _ (may : ℕ → Bool) (text : List ℕ) where
  pub pass_starts : Passed may text 0
  pass_starts = record { within = omega arith; first = omega arith }

  module _ (i : ℕ) (g : Passed may text i) where
    pub pass_ends : length text ≤ i → i ≡ first_not may text
    pass_ends h =
        let e : i ≡ length text = omega (arith, g.within) in
        let last : first_not may (drop i text) ≡ 0 = rw e (first_end may text) in
        omega (arith, g.first)

    module _ (h : i < length text) where
      pub pass_stops : may (get_or text i 0) ≡ false → i ≡ first_not may text
      pass_stops z = omega (arith, g.first, first_here may text i h z)

      pub pass_next : may (get_or text i 0) ≡ true → Passed may text (i + 1)
      pass_next z =
          let n = first_next may text i h z in
          record { within = omega arith; first = omega (arith, g.first) }
