-- A rule that antt computes at each number below a bound holds at each. Assumes nothing.
use mathlib.Core.Path.{◌≡◌, ◌∙◌, subst, sym}
use mathlib.Core.Bool.{Bool, true, false, ◌&&◌}
use Prim.Native.Nat.{ℕ, zero, suc, ◌+◌, ◌<◌}
use native.Mathlib.Nat.{add-zero, zero-add, add-suc, suc-add, le_of_suc-le-suc, not-suc-le-zero}
use lib.Dec.{T, eqb, eqb→eq}

pub both_left : (a b : Bool) → T (a && b) → T a
both_left true b t = tt
both_left false b t = t

pub both_right : (a b : Bool) → T (a && b) → T b
both_right true b t = t
both_right false b t = absurd t

-- the test passes at i, i + 1, .., n of them
abbrev pub every : (ℕ → Bool) → ℕ → ℕ → Bool
every f zero i = true
every f (suc n) i = f i && every f n (suc i)

from : (f : ℕ → Bool) (n i : ℕ) → T (every f n i) → (k : ℕ) → k < n → T (f (i + k))
from f zero i t k h = absurd (not-suc-le-zero h)
from f (suc n) i t zero h = subst (λ (m : ℕ). T (f m)) (sym (add-zero i)) (both_left (f i) (every f n (suc i)) t)
from f (suc n) i t (suc k) h =
    subst (λ (m : ℕ). T (f m)) (suc-add i k ∙ sym (add-suc i k))
    (from f n (suc i) (both_right (f i) (every f n (suc i)) t) k (le_of_suc-le-suc h))

-- below n it holds, where it passes at 0, 1, .., n - 1
pub at_below : (f : ℕ → Bool) (n : ℕ) → T (every f n 0) → (k : ℕ) → k < n → T (f k)
at_below f n t k h = subst (λ (m : ℕ). T (f m)) (zero-add k) (from f n 0 t k h)

-- two functions that agree, by test, at 0, 1, .., n - 1 are equal below n
pub agree_below : (f g : ℕ → ℕ) (n : ℕ) → T (every (λ k. eqb (f k) (g k)) n 0) → (k : ℕ) → k < n → f k ≡ g k
agree_below f g n t k h = eqb→eq (f k) (g k) (at_below (λ k. eqb (f k) (g k)) n t k h)
