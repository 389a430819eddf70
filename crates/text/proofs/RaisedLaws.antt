-- A number raised: what is no small letter stays, and once is enough. Assumes nothing.
use mathlib.Core.Path.{◌≡◌, refl}
use mathlib.Core.Bool.{Bool, true, false, ◌&&◌}
use mathlib.Core.List.{List, [], ◌∷◌, map}
use Prim.Native.Nat.{ℕ, ◌-◌, ◌<◌, ◌≤◌}
use native.Mathlib.Omega.{arith}
use lib.Dec.{leb}
use lib.ListN.{length}
use borrow.Author.Tests.{leb-true}
use Rattle.text.specs.Encoding.{small, raised}

pub raised_stays : (x : ℕ) → small x ≡ false → raised x ≡ x
unfolding raised
raised_stays x e = rw e

small_means : (x : ℕ) → small x ≡ true → (97 ≤ x) × (x ≤ 122)
small_means x e = go (leb 97 x) (leb x 122) refl refl e
  where
    go : (a b : Bool) → leb 97 x ≡ a → leb x 122 ≡ b → (a && b) ≡ true → (97 ≤ x) × (x ≤ 122)
    go true true p q e = (leb-true 97 x p, leb-true x 122 q)
    go true false p q e = let z : ◌≡◌ {A = ℕ} 0 1 = cc in absurd (omega arith)
    go false b p q e = let z : ◌≡◌ {A = ℕ} 0 1 = cc in absurd (omega arith)

pub small_low : (x : ℕ) → small x ≡ true → x < 128
small_low x e = omega (arith, (small_means x e).1)

none : (x : ℕ) → (small x ≡ true → ⊥) → small x ≡ false
none x f = go (small x) f
  where
    go : (b : Bool) → (b ≡ true → ⊥) → b ≡ false
    go true f = absurd (f refl)
    go false f = refl

pub small_past : (x : ℕ) → 122 < x → small x ≡ false
small_past x h = none x (λ e. omega (arith, (small_means x e).1))

small_before : (x : ℕ) → x < 97 → small x ≡ false
small_before x h = none x (λ e. omega (arith, (small_means x e).0))

raised_small : (x : ℕ) → small x ≡ true → raised x ≡ x - 32
unfolding raised
raised_small x e = rw e

pub raised_twice : (x : ℕ) → raised (raised x) ≡ raised x
raised_twice x = go (small x) refl
  where
    go : (b : Bool) → small x ≡ b → raised (raised x) ≡ raised x
    go true e = let m = small_means x e in rw (raised_small x e) (raised_stays (x - 32) (small_before (x - 32) (omega (arith, m.0, m.1))))
    go false e = rw (raised_stays x e) (raised_stays x e)

pub length_raised : (text : List ℕ) → length (map raised text) ≡ length text
length_raised [] = refl
length_raised (x ∷ xs) = rw (length_raised xs)
