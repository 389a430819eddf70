-- Check-sums: the number of one, and that it is a letter; and what is the same in each of the seven. Assumes nothing.
use mathlib.Core.Path.{◌≡◌, refl}
use mathlib.Core.Bool.{true, and-eq-true_iff}
use Prim.Native.Nat.{ℕ}
use native.Mathlib.Omega.{arith}
use lib.Dec.{eqb}
use borrow.Author.Tests.{eqb-true, eq-eqb}
use Rattle.identity.specs.declared.Seven.{Seven}
use Rattle.identity.specs.Table3.{number_of}
use Rattle.identity.specs.Sums.{same_seven, ◌⊕◌, check_sum}
use Rattle.identity.specs.Strength.{AlwaysALetter}
use Rattle.identity.proofs.TableLaws.{number_of_signal, signal_is_letter}

-- "N1 ⊕ N2 ⊕ N3 = CN1"
pub check_sum_number : (x y z : ℕ) → number_of (check_sum x y z) ≡ number_of x ⊕ number_of y ⊕ number_of z
unfolding check_sum
check_sum_number x y z = number_of_signal (number_of x ⊕ number_of y ⊕ number_of z) (omega arith)

pub check_sum_letter : AlwaysALetter
unfolding check_sum
check_sum_letter x y z = signal_is_letter (number_of x ⊕ number_of y ⊕ number_of z) (omega arith)

-- the same in each of the seven is the same identity
pub same_seven_lem : (i j : Seven) → same_seven i j ≡ true → i ≡ j
unfolding same_seven
same_seven_lem i j t =
    let g = (and-eq-true_iff _ _).0 t in
    let f = (and-eq-true_iff _ _).0 g.0 in
    let e = (and-eq-true_iff _ _).0 f.0 in
    let d = (and-eq-true_iff _ _).0 e.0 in
    let c = (and-eq-true_iff _ _).0 d.0 in
    let b = (and-eq-true_iff _ _).0 c.0 in
    let p0 = eqb-true i.0 j.0 b.0 in
    let p1 = eqb-true i.1 j.1 b.1 in
    let p2 = eqb-true i.2 j.2 c.1 in
    let p3 = eqb-true i.3 j.3 d.1 in
    let p4 = eqb-true i.4 j.4 e.1 in
    let p5 = eqb-true i.5 j.5 f.1 in
    let p6 = eqb-true i.6 j.6 g.1 in
    λ k. record { 0 = p0 k; 1 = p1 k; 2 = p2 k; 3 = p3 k; 4 = p4 k; 5 = p5 k; 6 = p6 k }

pub same_itself : (i : Seven) → same_seven i i ≡ true
unfolding same_seven
same_itself i =
    rw (alike i.0, alike i.1, alike i.2, alike i.3, alike i.4, alike i.5, alike i.6)
  where
    alike : (w : ℕ) → eqb w w ≡ true
    alike w = eq-eqb w w refl
