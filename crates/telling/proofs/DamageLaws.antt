-- A bit of the damage byte, masked out, is that unit, by one test for each word that antt computes over all 256 bytes. Assumes nothing.
use mathlib.Core.Path.{◌≡◌, refl}
use mathlib.Core.Bool.{Bool, true, false, not}
use Prim.Native.Nat.{ℕ, zero, suc, ◌<◌, ◌^◌}
use native.Mathlib.Omega.{arith}
use lib.Dec.{eqb}
use lib.Bits.{bit_and}
use Rattle.std.specs.Prelude.{if◌then◌else◌}
use Rattle.laws.proofs.Table.{same_table}
use Rattle.signals.specs.Units.{unit}
use Rattle.signals.specs.Damage.{kept, hurt, arrives}
use Rattle.entries.specs.Passage.{damage_to}

masked : (i : ℕ) → i < 3 → (d : ℕ) → d < 256 → eqb (bit_and d (2 ^ i)) 0 ≡ not (eqb (unit d i) 1)
masked zero h = same_table (λ d. eqb (bit_and d 1) 0) (λ d. not (eqb (unit d 0) 1)) 256 true refl
masked (suc zero) h = same_table (λ d. eqb (bit_and d 2) 0) (λ d. not (eqb (unit d 1) 1)) 256 true refl
masked (suc (suc zero)) h = same_table (λ d. eqb (bit_and d 4) 0) (λ d. not (eqb (unit d 2) 1)) 256 true refl
masked (suc (suc (suc i))) h = absurd (omega arith)

pub arrives_masked : (i : ℕ) → i < 3 → (d : ℕ) → d < 256 → (w : ℕ) → (if eqb (bit_and d (2 ^ i)) 0 then w else 0) ≡ arrives (damage_to d i) w
arrives_masked i h d b w = rw (masked i h d b) (go (eqb (unit d i) 1))
  where
    go : (t : Bool) → (if not t then w else 0) ≡ arrives (if t then hurt 0 else kept) w
    go true = refl
    go false = refl
