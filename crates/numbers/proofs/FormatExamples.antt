-- What small inputs list, and how few words are written: computed. Assumes nothing.
use mathlib.Core.Path.{◌≡◌, refl}
use mathlib.Core.List.{List, [], ◌∷◌}
use mathlib.Core.Option.{Option, some, none}
use Prim.Native.Nat.{ℕ}
use Rattle.numbers.specs.Reading.{is_white, is_digit, up_to_white, runs_from, leading_digits, value_of, judged, Fault, over_at, no_digit_at, listed, listing}
use Rattle.numbers.specs.Writing.{decimal, written_from, written}

abbrev Lists : List ℕ → List ℕ → Option Fault → Type 0
Lists input values fault = listing input ≡ record { values = values; fault = fault }

-- nothing, and white space alone
lists_nothing : Lists [] [] none × Lists (32 ∷ 9 ∷ 13 ∷ 10 ∷ []) [] none
unfolding listed runs_from is_white
lists_nothing = (refl, refl)

-- "007", a tab, "255": leading zeros, and no white space at the end
lists_two : Lists (48 ∷ 48 ∷ 55 ∷ 9 ∷ 50 ∷ 53 ∷ 53 ∷ []) (7 ∷ 255 ∷ []) none
unfolding listed runs_from is_white is_digit up_to_white leading_digits value_of judged
lists_two = refl

-- "1 256 2": over 255 at place 2, and what follows is not listed
lists_over : Lists (49 ∷ 32 ∷ 50 ∷ 53 ∷ 54 ∷ 32 ∷ 50 ∷ []) (1 ∷ []) (some (over_at 2))
unfolding listed runs_from is_white is_digit up_to_white leading_digits value_of judged
lists_over = refl

-- "256x" has come to more than 255 before its byte that is no digit, and "25x6" has not
lists_over_first : Lists (50 ∷ 53 ∷ 54 ∷ 120 ∷ []) [] (some (over_at 0))
unfolding listed runs_from is_white is_digit up_to_white leading_digits value_of judged
lists_over_first = refl

lists_no_digit_first : Lists (50 ∷ 53 ∷ 120 ∷ 54 ∷ []) [] (some (no_digit_at 0))
unfolding listed runs_from is_white is_digit up_to_white leading_digits value_of judged
lists_no_digit_first = refl

-- 12 is no white space, and there are no signs: "1", 12, "2" and "7 -1"
lists_no_digit : Lists (49 ∷ 12 ∷ 50 ∷ []) [] (some (no_digit_at 0)) × Lists (55 ∷ 32 ∷ 45 ∷ 49 ∷ []) (7 ∷ []) (some (no_digit_at 2))
unfolding listed runs_from is_white is_digit up_to_white leading_digits value_of judged
lists_no_digit = (refl, refl)

-- nothing is written of no words; of 0, 10 and 255: "0 10 255" and a line feed
written_few : (written [] ≡ []) × (written (0 ∷ 10 ∷ 255 ∷ []) ≡ 48 ∷ 32 ∷ 49 ∷ 48 ∷ 32 ∷ 50 ∷ 53 ∷ 53 ∷ 10 ∷ [])
unfolding written_from decimal
written_few = (refl, refl)
