-- Wrong ways to find the meaning of a word. Of each, a byte at which it is not what the definition says: computed, not argued.
--     no_short_search     one that looks at the first 34 rows alone: RQ is not found
--     no_count_from_0     one that counts the signals from 0: A is told as mutilated
--     no_seven_units      one that looks at the low seven bits: 199 is told as A, whose word is 71
--     no_unjudged_word    one that does not count the ones, and takes what is not in the first 34 rows for the last: 0 is told as RQ
--     no_five_ones        one that searches for a word with five ones: it would find none
-- Assumes nothing.
use mathlib.Core.Path.{◌≡◌}
use mathlib.Core.List.{List}
use Prim.Native.Nat.{ℕ, ◌<◌, ◌%◌}
use native.Mathlib.Omega.{arith}
use lib.Dec.{eqb}
use lib.ListN.{take}
use Rattle.std.specs.Prelude.{if◌then◌else◌}
use Rattle.signals.specs.Signals.{Signal, signals}
use Rattle.signals.specs.Units.{ones_of}
use Rattle.signals.specs.Meaning.{number_in, meaning_of}

-- a way to find the meaning is right where it is that of every byte
abbrev Right : (ℕ → ℕ) → Type 0
Right f = (w : ℕ) → w < 256 → f w ≡ meaning_of w

-- the first 34 signals
abbrev most : List Signal
most = take 34 signals

pub no_short_search : Right (number_in most 1) → ⊥
unfolding meaning_of
no_short_search r = let z : ◌≡◌ {A = ℕ} 0 35 = r 102 (omega arith) in omega arith

pub no_count_from_0 : Right (number_in signals 0) → ⊥
unfolding meaning_of
no_count_from_0 r = let z : ◌≡◌ {A = ℕ} 0 1 = r 71 (omega arith) in omega arith

pub no_seven_units : Right (λ w. meaning_of (w % 128)) → ⊥
unfolding meaning_of
no_seven_units r = let z : ◌≡◌ {A = ℕ} 1 0 = r 199 (omega arith) in omega arith

pub no_unjudged_word : Right (λ w. if eqb (number_in most 1 w) 0 then 35 else number_in most 1 w) → ⊥
unfolding meaning_of
no_unjudged_word r = let z : ◌≡◌ {A = ℕ} 35 0 = r 0 (omega arith) in omega arith

pub no_five_ones : Right (λ w. if eqb (ones_of w) 5 then number_in signals 1 w else 0) → ⊥
unfolding meaning_of ones_of
no_five_ones r = let z : ◌≡◌ {A = ℕ} 0 1 = r 71 (omega arith) in omega arith
