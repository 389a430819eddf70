-- A run judged byte by byte from the left: the first byte at which it is no number any more decides. Assumes nothing.
use mathlib.Core.Path.{◌≡◌, refl, sym, ◌∙◌}
use mathlib.Core.Bool.{Bool, true, false}
use mathlib.Core.List.{List, [], ◌∷◌}
use Prim.Native.Nat.{ℕ, suc, ◌+◌, ◌-◌, ◌*◌, ◌^◌, ◌≤◌, ◌<◌}
use native.Mathlib.Nat.{pow-succ', mul_assoc, add-mul, zero-mul, zero-add}
use native.Mathlib.Omega.{arith}
use lib.Dec.{ltb, leb-suc-suc}
use lib.ListN.{length}
use borrow.Author.Tests.{lt-ltb, le-ltb, ltb-true, ltb-false}
use Rattle.std.specs.Prelude.{if◌then◌else◌}
use Rattle.numbers.specs.Reading.{is_digit, leading_digits, value_of, Judged, number, over, no_digit, judged}
use Rattle.numbers.proofs.DigitLaws.{Kind, digit, white, other, kind}

-- digits behind what has come to v already
abbrev pub grown : ℕ → List ℕ → ℕ
grown v ds = v * 10 ^ length ds + value_of ds

grown_nil : (v : ℕ) → grown v [] ≡ v
unfolding value_of
grown_nil v = omega arith

grown_next : (v d : ℕ) (ds : List ℕ) → grown v (d ∷ ds) ≡ grown (v * 10 + (d - 48)) ds
unfolding value_of
grown_next v d ds =
    let p = 10 ^ length ds in
    let e : v * 10 ^ suc (length ds) ≡ v * 10 * p = rw (pow-succ' 10 (length ds)) (sym (mul_assoc v 10 p)) in
    omega (arith, e, add-mul (v * 10) (d - 48) p)

grown_le : (v : ℕ) (ds : List ℕ) → v ≤ grown v ds
grown_le v [] = omega (arith, grown_nil v)
grown_le v (d ∷ ds) = omega (arith, grown_next v d ds, grown_le (v * 10 + (d - 48)) ds)

-- judged from the left, v the value so far
unfoldable pub judged_from : ℕ → List ℕ → Judged
judged_from v [] = number v
judged_from v (b ∷ bs) =
    if is_digit b then (if ltb 255 (v * 10 + (b - 48)) then over else judged_from (v * 10 + (b - 48)) bs) else no_digit

-- judged at once, the same v before it
judged_with : ℕ → List ℕ → Judged
judged_with v bs =
    if ltb 255 (grown v (leading_digits bs)) then over
    else if ltb (length (leading_digits bs)) (length bs) then no_digit
    else number (grown v bs)

module _ (v b : ℕ) (bs : List ℕ) (d : is_digit b ≡ true) where
  with_next : judged_with v (b ∷ bs) ≡ judged_with (v * 10 + (b - 48)) bs
  unfolding judged_with leading_digits
  with_next =
      rw (d, grown_next v b (leading_digits bs), grown_next v b bs, leb-suc-suc (suc (length (leading_digits bs))) (length bs))

  with_over : 255 < v * 10 + (b - 48) → judged_with (v * 10 + (b - 48)) bs ≡ over
  unfolding judged_with
  with_over h = rw (lt-ltb 255 (grown (v * 10 + (b - 48)) (leading_digits bs)) (omega (arith, grown_le (v * 10 + (b - 48)) (leading_digits bs))))

with_none : (v b : ℕ) (bs : List ℕ) → v ≤ 255 → is_digit b ≡ false → judged_with v (b ∷ bs) ≡ no_digit
unfolding judged_with leading_digits
with_none v b bs h d = rw (d, grown_nil v, le-ltb 255 v h, lt-ltb 0 (suc (length bs)) (omega arith))

with_nil : (v : ℕ) → v ≤ 255 → judged_with v [] ≡ number v
unfolding judged_with leading_digits
with_nil v h = rw (grown_nil v, le-ltb 255 v h)

module _ (v b : ℕ) (bs : List ℕ) (h : v ≤ 255) (rest : (w : ℕ) → w ≤ 255 → judged_from w bs ≡ judged_with w bs) where
  from_digit : is_digit b ≡ true → (o : Bool) → ltb 255 (v * 10 + (b - 48)) ≡ o → judged_from v (b ∷ bs) ≡ judged_with v (b ∷ bs)
  unfolding judged_from
  from_digit d true o = rw (d, o) (sym (with_next v b bs d ∙ with_over v b bs d (ltb-true 255 (v * 10 + (b - 48)) o)))
  from_digit d false o = rw (d, o) (rest (v * 10 + (b - 48)) (ltb-false 255 (v * 10 + (b - 48)) o) ∙ sym (with_next v b bs d))

  from_none : is_digit b ≡ false → judged_from v (b ∷ bs) ≡ judged_with v (b ∷ bs)
  unfolding judged_from
  from_none d = rw d (sym (with_none v b bs h d))

  from_next : Kind b → judged_from v (b ∷ bs) ≡ judged_with v (b ∷ bs)
  from_next (digit d w) = from_digit d (ltb 255 (v * 10 + (b - 48))) refl
  from_next (white d w) = from_none d
  from_next (other d w) = from_none d

from_with : (bs : List ℕ) (v : ℕ) → v ≤ 255 → judged_from v bs ≡ judged_with v bs
unfolding judged_from
from_with [] v h = sym (with_nil v h)
from_with (b ∷ bs) v h = from_next v b bs h (λ w k. from_with bs w k) (kind b)

pub judged_from_lem : (run : List ℕ) → judged run ≡ judged_from 0 run
unfolding judged judged_with
judged_from_lem run =
    let g : (ds : List ℕ) → grown 0 ds ≡ value_of ds = λ ds. rw (zero-mul (10 ^ length ds), zero-add (value_of ds)) in
    sym (from_with run 0 (omega arith) ∙ rw (g (leading_digits run), g run))
