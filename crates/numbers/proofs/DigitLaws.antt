-- What the tests of a byte say. Assumes nothing.
use mathlib.Core.Path.{◌≡◌, refl}
use mathlib.Core.Bool.{Bool, true, false, ◌&&◌}
use Prim.Native.Nat.{ℕ, ◌≤◌}
use native.Mathlib.Omega.{arith}
use lib.Dec.{leb}
use borrow.Author.Tests.{leb-true, ne_eqb}
use Rattle.numbers.specs.Reading.{is_white, is_digit}

both_true : (a b : Bool) → a && b ≡ true → (a ≡ true) × (b ≡ true)
both_true true b e = (refl, e)
both_true false b e = (e, cc)

pub digit_bounds : (b : ℕ) → is_digit b ≡ true → (48 ≤ b) × (b ≤ 57)
unfolding is_digit
digit_bounds b e =
    let both = both_true (leb 48 b) (leb b 57) e in
    (leb-true 48 b both.0, leb-true b 57 both.1)

-- a byte is a digit, or white space, or neither
pub data Kind (b : ℕ) : Type 0 where
  digit : is_digit b ≡ true → is_white b ≡ false → Kind b
  white : is_digit b ≡ false → is_white b ≡ true → Kind b
  other : is_digit b ≡ false → is_white b ≡ false → Kind b

digit_not_white : (b : ℕ) → is_digit b ≡ true → is_white b ≡ false
unfolding is_white
digit_not_white b e =
    let h = digit_bounds b e in
    rw (ne_eqb b 32 (λ q. omega arith), ne_eqb b 9 (λ q. omega arith), ne_eqb b 13 (λ q. omega arith), ne_eqb b 10 (λ q. omega arith))

kind_by : (b : ℕ) (d w : Bool) → is_digit b ≡ d → is_white b ≡ w → Kind b
kind_by b true w e f = digit e (digit_not_white b e)
kind_by b false true e f = white e f
kind_by b false false e f = other e f

pub kind : (b : ℕ) → Kind b
kind b = kind_by b (is_digit b) (is_white b) refl refl
