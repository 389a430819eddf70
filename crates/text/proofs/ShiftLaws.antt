-- 01, Text: "A shift is put in only where the next letter or figure needs the other case"  R-030
--     shift_is_needed   of every shift in what encoding answers
-- Assumes nothing.
use mathlib.Core.Path.{◌≡◌, refl, ap, sym, ◌∙◌}
use mathlib.Core.Bool.{Bool, not, ◌&&◌}
use mathlib.Core.List.{List, [], ◌∷◌, ◌++◌, append_assoc}
use Prim.Native.Nat.{ℕ, ◌<◌, ◌≤◌}
use native.Mathlib.Omega.{arith}
use lib.Dec.{T, eqb, eqb_refl, T_not}
use lib.ListN.{length}
use borrow.Author.Tests.{ne_eqb}
use Rattle.laws.proofs.Below.{at_below, both_left, both_right}
use Rattle.signals.specs.declared.Case.{Case}
use Rattle.signals.specs.declared.Case.TheVariants.{Letters, Figures}
use Rattle.signals.specs.Meaning.{letters, figures}
use Rattle.signals.specs.Numbers.{answered, first_not}
use Rattle.signals.proofs.NumberLaws.{all_head}
use Rattle.text.specs.Written.{Written}
use Rattle.text.specs.Encoding.{Character, Without, Either, Needing, raised, character_of, shift, signals_for, case_after, has_signal, encoded, ends_encoded, encoding}
use Rattle.text.specs.Printing.{case_at, ends_printed}
use Rattle.signals.specs.Cases.{shift_to}
use Rattle.text.specs.Shifts.{Needed}
use Rattle.text.proofs.AnswerLaws.{answered_means}
use Rattle.text.proofs.EncodingLaws.{encoded_walk, encoding_judged, encode_after}
use Rattle.text.proofs.PrintingLaws.{printed_walk}
use Rattle.text.proofs.CharacterLaws.{signal_is_byte}

-- no character's own signal is a shift
abbrev word_is : Character → ℕ
word_is Without = 0
word_is (Either w) = w
word_is (Needing d w) = w

plain_test : ℕ → Bool
plain_test x = not (eqb (word_is (character_of x)) letters) && not (eqb (word_is (character_of x)) figures)

unequal : (a b : ℕ) → T (not (eqb a b)) → a ≡ b → ⊥
unequal a b t e = T_not (eqb a b) t (rw e (eqb_refl b))

module _ (x : ℕ) (byte : x < 256) where
  passes : T (plain_test x)
  unfolding plain_test character_of raised
  passes = at_below plain_test 256 tt x byte

  not_letters : word_is (character_of x) ≡ letters → ⊥
  unfolding plain_test
  not_letters = unequal _ _ (both_left (not (eqb (word_is (character_of x)) letters)) _ passes)

  not_figures : word_is (character_of x) ≡ figures → ⊥
  unfolding plain_test
  not_figures = unequal _ _ (both_right (not (eqb (word_is (character_of x)) letters)) _ passes)

  no_shift : (d : Case) → word_is (character_of x) ≡ shift_to d → ⊥
  no_shift Letters = not_letters
  no_shift Figures = not_figures

  stays : (c : Case) → case_at c (word_is (character_of x)) ≡ c
  stays c = rw (ne_eqb _ letters not_letters, ne_eqb _ figures not_figures)

-- every shift of a list is needed where it stands
Right : Case → List ℕ → Type 0
Right c [] = Unit {0}
Right c (w ∷ ws) = ((d : Case) → w ≡ shift_to d → Needed c d ws) × Right (case_at c w) ws

right_at : (c : Case) (before : List ℕ) (d : Case) (after : List ℕ) → Right c (before ++ shift_to d ∷ after) → Needed (ends_printed c before) d after
unfolding Right
right_at c [] d after r = rw (printed_walk.ends_nil c) (r.0 d refl)
right_at c (w ∷ ws) d after r = rw (printed_walk.ends_cons c w ws) (right_at (case_at c w) ws d after r.1)

same_shift : (d e : Case) → shift_to d ≡ shift_to e → d ≡ e
same_shift Letters Letters p = refl
same_shift Letters Figures p = absurd (omega arith)
same_shift Figures Letters p = absurd (omega arith)
same_shift Figures Figures p = refl

module _ (x : ℕ) (byte : x < 256) (rest : List ℕ) where
  -- the signal itself, in a case that it leaves in force
  own : (c : Case) (w : ℕ) → word_is (character_of x) ≡ w → Right c rest → Right c (w ∷ rest)
  unfolding Right
  own c w e r = (λ d p. absurd (no_shift x byte d (e ∙ p)), rw (← e, stays x byte c) r)

  shifted : (c d : Case) (w : ℕ) → character_of x ≡ Needing d w → Right d rest → Right c (shift c d ++ w ∷ rest)
  unfolding Right
  shifted Letters Letters w e r = own Letters w (ap word_is e) r
  shifted Figures Figures w e r = own Figures w (ap word_is e) r
  shifted Letters Figures w e r =
      (λ d p. rw (← same_shift Figures d p) (record { from_other = refl; character = x; word = w; rest = rest; needs = e; directly = refl }), own Figures w (ap word_is e) r)
  shifted Figures Letters w e r =
      (λ d p. rw (← same_shift Letters d p) (record { from_other = refl; character = x; word = w; rest = rest; needs = e; directly = refl }), own Letters w (ap word_is e) r)

  right_next : (c : Case) (k : Character) → character_of x ≡ k → Right (case_after c k) rest → Right c (signals_for c k ++ rest)
  right_next c Without e r = r
  right_next c (Either w) e r = own c w (ap word_is e) r
  right_next c (Needing d w) e r = rw (append_assoc (shift c d) (w ∷ []) rest) (shifted c d w e r)

right_encoded : (c : Case) (text : List ℕ) → length text ≤ first_not has_signal text → Right c (encoded c text)
unfolding Right
right_encoded c [] a = rw (encoded_walk.nil c) tt
right_encoded c (x ∷ xs) a =
    let h = all_head has_signal x xs a in
    rw (encoded_walk.cons c x xs)
    (right_next x (signal_is_byte x h.0) (encoded (encode_after c x) xs) c (character_of x) refl (right_encoded (encode_after c x) xs h.1))

module _ (text : List ℕ) (c : Case) (room : ℕ) (t : Written) (e : encoding text c room ≡ answered t) where
  pub shift_is_needed : (before : List ℕ) (d : Case) (after : List ℕ) → t.bytes ≡ before ++ shift_to d ∷ after → Needed (ends_printed c before) d after
  shift_is_needed before d after s =
      let m = answered_means 4096 5 1 (length text) (first_not has_signal text) room (record { bytes = encoded c text; ends = ends_encoded c text }) t (sym (encoding_judged text c room) ∙ e) in
      right_at c before d after (rw (ap (λ (t : Written). t.bytes) m.3 ∙ s) at (right_encoded c text m.1))
