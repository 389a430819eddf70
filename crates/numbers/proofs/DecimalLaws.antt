-- The digits of a number.
--     decimal_only   of the runs that are a number, `decimal` is the one that has no leading zero
-- Assumes nothing.
use mathlib.Core.Path.{◌≡◌, refl, sym, ◌∙◌}
use mathlib.Core.Bool.{Bool, true, false}
use mathlib.Core.List.{List, [], ◌∷◌}
use Prim.Native.Nat.{ℕ, ◌+◌, ◌-◌, ◌*◌, ◌/◌, ◌%◌, ◌≤◌, ◌<◌}
use native.Mathlib.Omega.{arith}
use lib.Dec.{ltb}
use lib.ListN.{length}
use borrow.Author.Tests.{lt-ltb, le-ltb, ltb-false}
use Rattle.numbers.specs.Reading.{is_digit, number, over, no_digit, judged}
use Rattle.numbers.specs.Writing.{decimal}
use Rattle.numbers.proofs.DigitLaws.{Kind, digit, white, other, kind, digit_bounds}
use Rattle.numbers.proofs.JudgedLaws.{judged_from, judged_from_lem}

-- a run that is a number has digits alone, and each leaves a value of 255 or less
record Grows (v b : ℕ) (bs : List ℕ) (n : ℕ) : Type 0 where
  low : 48 ≤ b
  high : b ≤ 57
  small : v * 10 + (b - 48) ≤ 255
  rest : judged_from (v * 10 + (b - 48)) bs ≡ number n

module _ (v b : ℕ) (bs : List ℕ) (n : ℕ) (e : judged_from v (b ∷ bs) ≡ number n) where
  grows_by : is_digit b ≡ true → (o : Bool) → ltb 255 (v * 10 + (b - 48)) ≡ o → Grows v b bs n
  unfolding judged_from
  grows_by d true o = absurd (never (rw (d, o) at e))
    where
      never : over ≡ number n → ⊥
      never q = let z : ◌≡◌ {A = ℕ} 0 1 = cc in omega arith
  grows_by d false o =
      let h = digit_bounds b d in
      record { low = h.0; high = h.1; small = ltb-false 255 (v * 10 + (b - 48)) o; rest = rw (d, o) at e }

  not_digit : is_digit b ≡ false → ⊥
  unfolding judged_from
  not_digit d = let q : no_digit ≡ number n = rw d at e in let z : ◌≡◌ {A = ℕ} 0 1 = cc in omega arith

  grows : Kind b → Grows v b bs n
  grows (digit d w) = grows_by d (ltb 255 (v * 10 + (b - 48))) refl
  grows (white d w) = absurd (not_digit d)
  grows (other d w) = absurd (not_digit d)

ended : (v n : ℕ) → judged_from v [] ≡ number n → v ≡ n
unfolding judged_from
ended v n e = cc

one : (d n : ℕ) → judged_from 0 (d ∷ []) ≡ number n → d ∷ [] ≡ decimal n
unfolding decimal
one d n e =
    let g = grows 0 d [] n e (kind d) in
    let v = ended (0 * 10 + (d - 48)) n g.rest in
    let a : d ≡ 48 + n = omega (arith, g.low) in
    rw (lt-ltb n 10 (omega (arith, g.high)), a)

two : (d f n : ℕ) → 48 < d → judged_from 0 (d ∷ f ∷ []) ≡ number n → d ∷ f ∷ [] ≡ decimal n
unfolding decimal
two d f n h e =
    let g = grows 0 d (f ∷ []) n e (kind d) in
    let k = grows (0 * 10 + (d - 48)) f [] n g.rest (kind f) in
    let v = ended ((0 * 10 + (d - 48)) * 10 + (f - 48)) n k.rest in
    let a : d ≡ 48 + n / 10 = omega (arith, g.low, g.high, k.low, k.high) in
    let b : f ≡ 48 + n % 10 = omega (arith, g.low, g.high, k.low, k.high) in
    rw (le-ltb n 10 (omega (arith, g.low, k.low)), lt-ltb n 100 (omega (arith, g.high, k.high)), ← a, ← b)

three : (d f l n : ℕ) → 48 < d → judged_from 0 (d ∷ f ∷ l ∷ []) ≡ number n → d ∷ f ∷ l ∷ [] ≡ decimal n
unfolding decimal
three d f l n h e =
    let g = grows 0 d (f ∷ l ∷ []) n e (kind d) in
    let k = grows (0 * 10 + (d - 48)) f (l ∷ []) n g.rest (kind f) in
    let m = grows ((0 * 10 + (d - 48)) * 10 + (f - 48)) l [] n k.rest (kind l) in
    let v = ended (((0 * 10 + (d - 48)) * 10 + (f - 48)) * 10 + (l - 48)) n m.rest in
    let a : d ≡ 48 + n / 100 = omega (arith, g.low, g.high, k.low, k.high, m.low, m.high) in
    let b : f ≡ 48 + n / 10 % 10 = omega (arith, g.low, g.high, k.low, k.high, m.low, m.high) in
    let c : l ≡ 48 + n % 10 = omega (arith, g.low, g.high, k.low, k.high, m.low, m.high) in
    rw (le-ltb n 10 (omega (arith, g.low, k.low, m.low)), le-ltb n 100 (omega (arith, g.low, k.low, m.low)), ← a, ← b, ← c)

four : (d f l m : ℕ) (more : List ℕ) (n : ℕ) → 48 < d → judged_from 0 (d ∷ f ∷ l ∷ m ∷ more) ≡ number n → ⊥
four d f l m more n h e =
    let g = grows 0 d (f ∷ l ∷ m ∷ more) n e (kind d) in
    let k = grows (0 * 10 + (d - 48)) f (l ∷ m ∷ more) n g.rest (kind f) in
    let j = grows ((0 * 10 + (d - 48)) * 10 + (f - 48)) l (m ∷ more) n k.rest (kind l) in
    let i = grows (((0 * 10 + (d - 48)) * 10 + (f - 48)) * 10 + (l - 48)) m more n j.rest (kind m) in
    omega (arith, i.small)

from_left : (d : ℕ) (ds : List ℕ) (n : ℕ) → (0 < length ds → 48 < d) → judged_from 0 (d ∷ ds) ≡ number n → d ∷ ds ≡ decimal n
from_left d [] n h e = one d n e
from_left d (f ∷ []) n h e = two d f n (h (omega arith)) e
from_left d (f ∷ l ∷ []) n h e = three d f l n (h (omega arith)) e
from_left d (f ∷ l ∷ m ∷ more) n h e = absurd (four d f l m more n (h (omega arith)) e)

pub decimal_only : (d : ℕ) (ds : List ℕ) (n : ℕ) → judged (d ∷ ds) ≡ number n → (0 < length ds → 48 < d) → d ∷ ds ≡ decimal n
decimal_only d ds n e h = from_left d ds n h (sym (judged_from_lem (d ∷ ds)) ∙ e)
