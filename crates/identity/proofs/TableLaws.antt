-- Tables 3a and 3b, by tests that antt computes over their 20 lines. Assumes nothing.
use mathlib.Core.Path.{◌≡◌, refl, sym, ◌∙◌}
use mathlib.Core.Bool.{Bool, true, false, ◌&&◌, ◌||◌, true≢false}
use mathlib.Core.List.{List, [], ◌∷◌}
use Prim.Native.Nat.{ℕ, ◌<◌}
use native.Mathlib.Omega.{arith}
use lib.Dec.{T, eqb, ltb, eqb→eq, ltb→lt}
use borrow.Author.Tests.{eqb-true}
use Rattle.std.specs.Prelude.{if◌then◌else◌}
use Rattle.laws.proofs.Below.{both_left, both_right}
use Rattle.laws.proofs.Table.{same_table}
use Rattle.identity.specs.Table3.{table3a, has, number_in, is_identity, number_of, signal_of}

-- from a number to its letter by table 3b, and back by table 3a
module _ (n : ℕ) (h : n < 20) where
  pub number_of_signal : number_of (signal_of n) ≡ n
  unfolding number_of signal_of
  number_of_signal = same_table (λ n. number_of (signal_of n)) (λ n. n) 20 0 refl n h

  pub signal_is_letter : is_identity (signal_of n) ≡ true
  unfolding is_identity signal_of
  signal_is_letter = same_table (λ n. is_identity (signal_of n)) (λ n. true) 20 true refl n h

-- and from a letter to its number, and back. A number is the word's where table 3b has the word there
abbrev IsNumber : ℕ → ℕ → Type 0
IsNumber w n = (signal_of n ≡ w) × (n < 20)

-- the test of a line of table 3a
abbrev fits : ℕ × ℕ → Bool
fits row = eqb (signal_of row.1) row.0 && ltb row.1 20

abbrev all_fit : List (ℕ × ℕ) → Bool
all_fit [] = true
all_fit (row ∷ rows) = fits row && all_fit rows

read_back : (rows : List (ℕ × ℕ)) → T (all_fit rows) → (w : ℕ) → has rows w ≡ true → IsNumber w (number_in rows w)
read_back [] t w h = absurd (true≢false (sym h))
read_back (row ∷ rows) t w h = go (eqb w row.0) refl h (read_back rows (both_right (fits row) (all_fit rows) t) w)
  where
    same : Bool
    same = eqb (signal_of row.1) row.0

    here : T (same && ltb row.1 20)
    here = both_left (fits row) (all_fit rows) t

    go : (b : Bool) → eqb w row.0 ≡ b → b || has rows w ≡ true →
        (has rows w ≡ true → IsNumber w (number_in rows w)) → IsNumber w (if b then row.1 else number_in rows w)
    go true e h later = (
      eqb→eq (signal_of row.1) row.0 (both_left same (ltb row.1 20) here) ∙ sym (eqb-true w row.0 e),
      ltb→lt row.1 20 (both_right same (ltb row.1 20) here),
    )
    go false e h later = later h

no_row : (rows : List (ℕ × ℕ)) (w : ℕ) → has rows w ≡ false → number_in rows w ≡ 0
no_row [] w h = refl
no_row (row ∷ rows) w h = go (eqb w row.0) h (no_row rows w)
  where
    go : (b : Bool) → b || has rows w ≡ false → (has rows w ≡ false → number_in rows w ≡ 0) →
        (if b then row.1 else number_in rows w) ≡ 0
    go true h later = absurd (true≢false h)
    go false h later = later h

module _ (w : ℕ) where
  pub letter_read_back : is_identity w ≡ true → (signal_of (number_of w) ≡ w) × (number_of w < 20)
  unfolding is_identity number_of signal_of
  letter_read_back = read_back table3a tt w

  pub no_letter : is_identity w ≡ false → number_of w ≡ 0
  unfolding is_identity number_of
  no_letter = no_row table3a w

  -- so a word's number is below 20, a letter's or not
  pub number_lt : number_of w < 20
  number_lt = go (is_identity w) refl
    where
      go : (b : Bool) → is_identity w ≡ b → number_of w < 20
      go true e = (letter_read_back e).1
      go false e = omega (arith, no_letter e)
