-- 01, Text: "Printing an encoded text from the same case gives the text", and 02, T-01: "text read back is the text in capitals".
-- R-037
--     text_comes_back      over the calls' own definitions: never refused where there is room for the text, the text in
--                          capitals, and the case that encoding ended in
--     capitals_come_back   for a text without small letters that is the text
-- Assumes nothing.
use mathlib.Core.Path.{◌≡◌, refl, ap, sym, ◌∙◌}
use mathlib.Core.Bool.{true, false}
use mathlib.Core.List.{List, [], ◌∷◌, map}
use Prim.Native.Nat.{ℕ, zero, suc, ◌<◌, ◌≤◌}
use native.Mathlib.Omega.{arith}
use lib.ListN.{length, get_or}
use Rattle.signals.specs.declared.Case.{Case}
use Rattle.signals.specs.Numbers.{answered, first_not}
use Rattle.signals.proofs.NumberLaws.{all_head, all_append as all_may_append}
use Rattle.text.specs.Written.{Written}
use Rattle.text.specs.Encoding.{small, raised, has_signal, encoded, ends_encoded, encoding}
use Rattle.text.specs.Printing.{bytes_of, case_at, printed, ends_printed, may_print, printing}
use Rattle.text.proofs.WalkLaws.{all_append, ends_append}
use Rattle.text.proofs.AnswerLaws.{answered_means, judged_answers}
use Rattle.text.proofs.EncodingLaws.{encoded_walk, encoding_judged, encode_step, encode_after, encoded_le}
use Rattle.text.proofs.PrintingLaws.{printed_walk, printing_judged}
use Rattle.text.proofs.CharacterLaws.{signal_is_low, character_prints, character_ends, character_may}
use Rattle.text.proofs.RaisedLaws.{raised_stays, length_raised}

-- a text all of whose bytes have signals
AllHave : List ℕ → Type 0
AllHave text = length text ≤ first_not has_signal text

-- printing what one character and then the rest gave
module _ (c : Case) (x : ℕ) (xs : List ℕ) (a : AllHave (x ∷ xs)) where
  has : has_signal x ≡ true
  unfolding AllHave
  has = (all_head has_signal x xs a).0

  rest : AllHave xs
  unfolding AllHave
  rest = (all_head has_signal x xs a).1

  ends : ends_printed c (encode_step c x) ≡ encode_after c x
  ends = character_ends c x (signal_is_low x has)

  prints_next : printed c (encoded c (x ∷ xs)) ≡ raised x ∷ printed (encode_after c x) (encoded (encode_after c x) xs)
  prints_next =
      ap (printed c) (encoded_walk.cons c x xs)
      ∙ all_append printed ends_printed bytes_of case_at printed_walk c (encode_step c x) (encoded (encode_after c x) xs)
      ∙ rw (character_prints c x (signal_is_low x has) has, ends)

  ends_next : ends_printed c (encoded c (x ∷ xs)) ≡ ends_printed (encode_after c x) (encoded (encode_after c x) xs)
  ends_next =
      ap (ends_printed c) (encoded_walk.cons c x xs)
      ∙ ends_append printed ends_printed bytes_of case_at printed_walk c (encode_step c x) (encoded (encode_after c x) xs)
      ∙ rw ends

printed_encoded : (c : Case) (text : List ℕ) → AllHave text → printed c (encoded c text) ≡ map raised text
printed_encoded c [] a = ap (printed c) (encoded_walk.nil c) ∙ printed_walk.nil c
printed_encoded c (x ∷ xs) a =
    prints_next c x xs a ∙ ap (λ (l : List ℕ). raised x ∷ l) (printed_encoded (encode_after c x) xs (rest c x xs a))

ends_encoded_lem : (c : Case) (text : List ℕ) → AllHave text → ends_printed c (encoded c text) ≡ ends_encoded c text
ends_encoded_lem c [] a = ap (ends_printed c) (encoded_walk.nil c) ∙ printed_walk.ends_nil c ∙ sym (encoded_walk.ends_nil c)
ends_encoded_lem c (x ∷ xs) a =
    ends_next c x xs a ∙ ends_encoded_lem (encode_after c x) xs (rest c x xs a) ∙ sym (encoded_walk.ends_cons c x xs)

may_encoded : (c : Case) (text : List ℕ) → AllHave text → length (encoded c text) ≤ first_not may_print (encoded c text)
may_encoded c [] a = rw (encoded_walk.nil c) (omega arith)
may_encoded c (x ∷ xs) a =
    rw (encoded_walk.cons c x xs)
    (all_may_append may_print (encode_step c x) (encoded (encode_after c x) xs)
    (omega (arith, character_may c x (signal_is_low x (has c x xs a))))
    (may_encoded (encode_after c x) xs (rest c x xs a)))

module _ (text : List ℕ) (c : Case) (room : ℕ) (t : Written) (e : encoding text c room ≡ answered t) where
  pub text_comes_back : (room' : ℕ) → length text ≤ room' → printing t.bytes c room' ≡ answered (record { bytes = map raised text; ends = t.ends })
  unfolding AllHave
  text_comes_back room' h =
      let m = answered_means 4096 5 1 (length text) (first_not has_signal text) room (record { bytes = encoded c text; ends = ends_encoded c text }) t (sym (encoding_judged text c room) ∙ e) in
      let p = printed_encoded c text m.1 in
      let q = ends_encoded_lem c text m.1 in
      ap (λ (t : Written). printing t.bytes c room') (sym m.3)
      ∙ printing_judged (encoded c text) c room'
      ∙ judged_answers 8192 7 3 (length (encoded c text)) (first_not may_print (encoded c text)) room' (record { bytes = printed c (encoded c text); ends = ends_printed c (encoded c text) }) (omega (arith, m.0, encoded_le c text)) (may_encoded c text m.1) (rw p (omega (arith, length_raised text)))
      ∙ ap answered (λ i. record { bytes = p i; ends = (q ∙ ap (λ (t : Written). t.ends) m.3) i })

-- no small letter, at any place
raised_none : (text : List ℕ) → ((i : ℕ) → i < length text → small (get_or text i 0) ≡ false) → map raised text ≡ text
raised_none [] none = refl
raised_none (x ∷ xs) none =
    rw (raised_stays x (none zero (omega arith)), raised_none xs (λ i h. none (suc i) (omega arith)))

module _ (text : List ℕ) (c : Case) (room : ℕ) (t : Written) (e : encoding text c room ≡ answered t) where
  pub capitals_come_back : ((i : ℕ) → i < length text → small (get_or text i 0) ≡ false) → (room' : ℕ) → length text ≤ room' → printing t.bytes c room' ≡ answered (record { bytes = text; ends = t.ends })
  capitals_come_back none room' h = rw (raised_none text none) at (text_comes_back text c room t e room' h)
