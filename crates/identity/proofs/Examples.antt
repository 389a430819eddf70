-- 001's own examples of check-sums, computed. A letter stands by its number in table 1, its place in the alphabet. Assumes nothing.
use mathlib.Core.Path.{◌≡◌, refl}
use mathlib.Core.List.{[], ◌∷◌, map}
use Prim.Native.Nat.{ℕ}
use Rattle.signals.specs.Meaning.{word_no}
use Rattle.identity.specs.declared.Seven.{Seven}
use Rattle.identity.specs.Table3.{number_of, signal_of}
use Rattle.identity.specs.Sums.{signals_of7, check_sum, check_sum1, check_sum2, check_sum3}

abbrev pub spelt : ℕ → ℕ → ℕ → ℕ → ℕ → ℕ → ℕ → Seven
spelt a b c d e f g = record { 0 = word_no a; 1 = word_no b; 2 = word_no c; 3 = word_no d; 4 = word_no e; 5 = word_no f; 6 = word_no g }

abbrev pub SumsAre : Seven → ℕ → ℕ → ℕ → Type 0
SumsAre i a b c = (check_sum1 i ≡ word_no a) × (check_sum2 i ≡ word_no b) × (check_sum3 i ≡ word_no c)

-- 2.5: "The seven identification signals of station 364775427 are: P E A R D B Y"
abbrev pub PEARDBY : Seven
PEARDBY = spelt 16 05 01 18 04 02 25

-- "P E A R D B Y → 5 13 19 16 18 11 7"
pub peardby_numbers : map number_of (signals_of7 PEARDBY) ≡ 5 ∷ 13 ∷ 19 ∷ 16 ∷ 18 ∷ 11 ∷ 7 ∷ []
unfolding number_of
peardby_numbers = refl

-- "17 13 16 → Z E R"
pub peardby_sums : SumsAre PEARDBY 26 05 18
unfolding check_sum number_of signal_of
peardby_sums = (refl, refl, refl)

-- figure 3: K Q V Z R S E, and P E D
pub kqvzrse_sums : SumsAre (spelt 11 17 22 26 18 19 05) 16 05 04
unfolding check_sum number_of signal_of
kqvzrse_sums = (refl, refl, refl)
