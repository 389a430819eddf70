-- Encoding is a walk, of at most two signals a character, and answers in the order 5, 1, 2. Assumes nothing.
use mathlib.Core.Path.{◌≡◌, refl}
use mathlib.Core.List.{List, [], ◌∷◌}
use Prim.Native.Nat.{ℕ, ◌*◌, ◌≤◌}
use native.Mathlib.Omega.{arith}
use lib.ListN.{length, length-append}
use Rattle.signals.specs.declared.Case.{Case}
use Rattle.signals.specs.declared.Case.TheVariants.{Letters, Figures}
use Rattle.signals.specs.Numbers.{first_not}
use Rattle.text.specs.Encoding.{Character, Without, Either, Needing, character_of, shift, signals_for, case_after, encoded, ends_encoded, has_signal, encoding}
use Rattle.text.proofs.WalkLaws.{Walk}
use Rattle.text.proofs.AnswerLaws.{judged}

abbrev pub encode_step : Case → ℕ → List ℕ
encode_step c x = signals_for c (character_of x)

abbrev pub encode_after : Case → ℕ → Case
encode_after c x = case_after c (character_of x)

pub encoded_walk : Walk encoded ends_encoded encode_step encode_after
unfolding encoded ends_encoded
encoded_walk =
    record {
      nil = λ c. refl;
      cons = λ c x xs. refl;
      ends_nil = λ c. refl;
      ends_cons = λ c x xs. refl;
    }

pub encoding_judged : (text : List ℕ) (c : Case) (room : ℕ) → encoding text c room ≡ judged 4096 5 1 (length text) (first_not has_signal text) room (record { bytes = encoded c text; ends = ends_encoded c text })
unfolding encoding
encoding_judged text c room = refl

pub shift_le : (c d : Case) → length (shift c d) ≤ 1
shift_le Letters Letters = omega arith
shift_le Letters Figures = omega arith
shift_le Figures Letters = omega arith
shift_le Figures Figures = omega arith

-- at most a shift and the signal
pub signals_le : (c : Case) (x : Character) → length (signals_for c x) ≤ 2
signals_le c Without = omega arith
signals_le c (Either w) = omega arith
signals_le c (Needing d w) = omega (arith, length-append (shift c d) (w ∷ []), shift_le c d)

-- the room that encoding needs is at most twice the characters
pub encoded_le : (c : Case) (text : List ℕ) → length (encoded c text) ≤ 2 * length text
unfolding encoded
encoded_le c [] = omega arith
encoded_le c (x ∷ xs) =
    omega (arith, length-append (encode_step c x) (encoded (encode_after c x) xs), signals_le c (character_of x), encoded_le (encode_after c x) xs)
