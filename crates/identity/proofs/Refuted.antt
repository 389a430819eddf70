-- Wrong check-sums, of each an identity at which it is not what the definition says, and a wrong belief about the right ones. The
-- identity is that of 001's own example: computed, not argued.
--     no_two_letters         the first sum of two letters: D and not Z
--     no_rows_counted        a letter's number taken as its row in table 3a, counted from 0: O and not Z
--     no_row_sent            the check-sum signal taken from the row of table 3a that the sum counts to: X and not Z
--     no_plain_sum           a sum that is not taken modulo 20: 37 has no letter
--     no_third_once          the third signal counted in the first sum alone: O and not E
--     no_fifth_once          the fifth signal counted in the second sum alone: D and not R
--     no_sums_for_identity   that the three check-sums tell an identity from every other: E P A R D B Y has those of P E A R D B Y
-- Assumes nothing.
use mathlib.Core.Path.{◌≡◌, refl, ap}
use mathlib.Core.Bool.{true}
use mathlib.Core.List.{List, [], ◌∷◌}
use Prim.Native.Nat.{ℕ, suc, ◌+◌}
use native.Mathlib.Omega.{arith}
use lib.Dec.{eqb}
use lib.ListN.{get_or}
use Rattle.std.specs.Prelude.{if◌then◌else◌}
use Rattle.identity.specs.declared.Seven.{Seven}
use Rattle.identity.specs.Table3.{table3a, is_identity, number_of, signal_of}
use Rattle.identity.specs.Sums.{is_callable7, ◌⊕◌, check_sum, check_sum1, check_sum2, check_sum3}
use Rattle.identity.specs.Strength.{SameSums}
use Rattle.identity.proofs.Examples.{spelt, PEARDBY}

abbrev EPARDBY : Seven
EPARDBY = spelt 05 16 01 18 04 02 25

-- a way to form a check-sum is right where it gives that of every identity of seven letters
abbrev Right : (Seven → ℕ) → (Seven → ℕ) → Type 0
Right f sum = (i : Seven) → is_callable7 i ≡ true → f i ≡ sum i

at_peardby : {f sum : Seven → ℕ} → Right f sum → f PEARDBY ≡ sum PEARDBY
unfolding is_callable7 is_identity
at_peardby r = r PEARDBY refl

-- the row of a word in table 3a
abbrev row_in : List (ℕ × ℕ) → ℕ → ℕ → ℕ
row_in [] n w = n
row_in (row ∷ rows) n w = if eqb w row.0 then n else row_in rows (suc n) w

abbrev row : ℕ → ℕ
row w = row_in table3a 0 w

pub no_two_letters : Right (λ i. signal_of (number_of i.0 ⊕ number_of i.1)) check_sum1 → ⊥
unfolding check_sum number_of signal_of
no_two_letters r = let z : ◌≡◌ {A = ℕ} 83 99 = at_peardby r in omega arith

pub no_rows_counted : Right (λ i. signal_of (row i.0 ⊕ row i.1 ⊕ row i.2)) check_sum1 → ⊥
unfolding check_sum number_of signal_of
no_rows_counted r = let z : ◌≡◌ {A = ℕ} 113 99 = at_peardby r in omega arith

pub no_row_sent : Right (λ i. (get_or table3a (number_of i.0 ⊕ number_of i.1 ⊕ number_of i.2) (0, 0)).0) check_sum1 → ⊥
unfolding check_sum number_of signal_of
no_row_sent r = let z : ◌≡◌ {A = ℕ} 58 99 = at_peardby r in omega arith

pub no_plain_sum : Right (λ i. signal_of (number_of i.0 + number_of i.1 + number_of i.2)) check_sum1 → ⊥
unfolding check_sum number_of signal_of
no_plain_sum r = let z : ◌≡◌ {A = ℕ} 0 99 = at_peardby r in omega arith

pub no_third_once : Right (λ i. signal_of (number_of i.3 ⊕ number_of i.4)) check_sum2 → ⊥
unfolding check_sum number_of signal_of
no_third_once r = let z : ◌≡◌ {A = ℕ} 113 86 = at_peardby r in omega arith

pub no_fifth_once : Right (λ i. signal_of (number_of i.5 ⊕ number_of i.6)) check_sum3 → ⊥
unfolding check_sum number_of signal_of
no_fifth_once r = let z : ◌≡◌ {A = ℕ} 83 85 = at_peardby r in omega arith

pub no_sums_for_identity : ((i j : Seven) → is_callable7 i ≡ true → is_callable7 j ≡ true → SameSums i j → i ≡ j) → ⊥
unfolding is_callable7 is_identity check_sum number_of signal_of
no_sums_for_identity r =
    let e : PEARDBY ≡ EPARDBY = r PEARDBY EPARDBY refl refl (record { sums_1 = refl; sums_2 = refl; sums_3 = refl }) in
    let z : ◌≡◌ {A = ℕ} 45 86 = ap (λ (i : Seven). i.0) e in
    omega arith
