-- The index of the first word that fails a test. Assumes nothing.
use mathlib.Core.Path.{◌≡◌, refl, sym}
use mathlib.Core.Bool.{Bool, true, false, ◌&&◌}
use mathlib.Core.List.{List, [], ◌∷◌}
use Prim.Native.Nat.{ℕ, zero, suc, ◌+◌, ◌<◌}
use native.Mathlib.Omega.{arith}
use lib.ListN.{length, get_or, take}
use Rattle.signals.specs.Numbers.{first_not}

module _ (test : ℕ → Bool) where
  pub none : first_not test [] ≡ 0
  unfolding first_not
  none = refl

  pub hit : (w : ℕ) (ws : List ℕ) → test w ≡ false → first_not test (w ∷ ws) ≡ 0
  unfolding first_not
  hit w ws e = rw e

  pub miss : (w : ℕ) (ws : List ℕ) → test w ≡ true → first_not test (w ∷ ws) ≡ first_not test ws + 1
  unfolding first_not
  miss w ws e = rw e (omega arith)

  -- where all before it pass, and it passes
  further : (ws : List ℕ) (i : ℕ) → i < length ws → first_not test (take i ws) ≡ i → test (get_or ws i 0) ≡ true → first_not test (take (i + 1) ws) ≡ i + 1
  further [] i h p q = absurd (omega arith)
  further (w ∷ ws) zero h p q = rw (miss w [] q, none) refl
  further (w ∷ ws) (suc i) h p q = go (test w) refl (λ n. further ws i (omega arith) n q)
    where
      go : (b : Bool) → test w ≡ b → (first_not test (take i ws) ≡ i → first_not test (take (i + 1) ws) ≡ i + 1) → first_not test (take (suc i + 1) (w ∷ ws)) ≡ suc i + 1
      go true e f = let n : suc i + 1 ≡ suc (i + 1) = omega arith in rw n (omega (arith, miss w (take (i + 1) ws) e, f (omega (arith, miss w (take i ws) e, p))))
      go false e f = absurd (omega (arith, hit w (take i ws) e, p))

  pub one_more : (a r : Bool) (ws : List ℕ) (i : ℕ) → i < length ws → (a ≡ true → first_not test (take i ws) ≡ i) → r ≡ test (get_or ws i 0) → a && r ≡ true → first_not test (take (i + 1) ws) ≡ i + 1
  one_more true true ws i h before now e = further ws i h (before refl) (sym now)
  one_more true false ws i h before now e = let z : ◌≡◌ {A = ℕ} 0 1 = cc in absurd (omega arith)
  one_more false r ws i h before now e = let z : ◌≡◌ {A = ℕ} 0 1 = cc in absurd (omega arith)
