-- Wrong programs that have another shape than the right one, so that no edit of one operand makes them. Of each, an input at
-- which what the promise says is not what it would do: computed, not argued.
--     no_silent_encoder       an encoder that answers and writes nothing
--     no_byte_on_a_refusal    an encoder that has written before it refuses
--     no_order_1_5_2          refusals in another order: a byte without a signal told before the limit is looked at
--     no_order_5_2_1          the room looked at before the bytes
--     no_order_3_7_2          the same two of printing
--     no_order_7_2_3
--     no_touch_beyond         an encoder that clears the room beyond the part written
--     no_trailing_shift       an encoder that goes back to letters at the end
-- and of small letters (02, T-01):
--     no_letter_refused       an encoder that refuses a small letter, any one of them
--     no_96, no_123           one that takes the byte before a, or the byte behind z
--     no_byte_over_127        one that takes a byte over 127, as o by the low seven bits of 239, or ö as O
--     no_digit_touched        one that raises by taking bit 5 off every byte, digits too: 1 would be 17
--     no_index_of_raised      one that counts raised letters alone for the index of refusal 1
--     no_case_kept            one that takes small letters in the case in force, without a shift
--     no_text_as_typed        the claim that printing an encoded text gives it as it was typed
-- Assumes nothing.
use mathlib.Core.Path.{◌≡◌, ap}
use mathlib.Core.Bool.{Bool, true, false}
use mathlib.Core.List.{List, [], ◌∷◌}
use Prim.Native.Nat.{ℕ, ◌<◌}
use native.Mathlib.Omega.{arith}
use lib.Dec.{ltb}
use lib.ListN.{length, replicate, get_or}
use Rattle.std.specs.Prelude.{if◌then◌else◌, Result, Ok, Err}
use Rattle.signals.specs.declared.Case.{Case}
use Rattle.signals.specs.declared.Case.TheVariants.{Letters}
use Rattle.signals.specs.Meaning.{meaning_of, traffic_of}
use Rattle.signals.specs.Numbers.{Answer, answered, refused, first_not}
use Rattle.text.specs.declared.Written as told
use Rattle.text.specs.declared.EncodeError.{EncodeError}
use Rattle.text.specs.declared.PrintError.{PrintError}
use Rattle.text.specs.Written.{Written, counted}
use Rattle.text.specs.Encoding.{small, raised, character_of, encoded, ends_encoded, encoding, Encodes}
use Rattle.text.specs.Printing.{bytes_of, printed, ends_printed, may_print, printing, Prints}
use Rattle.text.proofs.CharacterLaws.{past_none}
use Rattle.text.proofs.Raised.{small_has, a_gives_71}

-- "A", whatever it answers
pub no_silent_encoder : (r : Result told.Written EncodeError) → Encodes (65 ∷ []) Letters (0 ∷ []) r (0 ∷ []) → ⊥
unfolding encoding first_not encoded ends_encoded character_of raised
no_silent_encoder r p = let z : ◌≡◌ {A = ℕ} 0 71 = cc p.1 in omega arith

-- "A1" with room for two: refused 2, and the room is as it was
pub no_byte_on_a_refusal : (r : Result told.Written EncodeError) → Encodes (65 ∷ 49 ∷ []) Letters (0 ∷ 0 ∷ []) r (71 ∷ 0 ∷ []) → ⊥
unfolding encoding first_not encoded ends_encoded character_of raised
no_byte_on_a_refusal r p = let z : ◌≡◌ {A = ℕ} 71 0 = cc p.1 in omega arith

-- 4,097 times {
pub no_order_1_5_2 : (room : List ℕ) → Encodes (replicate 4097 123) Letters room (Err (EncodeError.NoSignal 0)) room → ⊥
unfolding encoding
no_order_1_5_2 room p = let z : ◌≡◌ {A = ℕ} 1 5 = cc p.0 in omega arith

-- "A{" with no room
pub no_order_5_2_1 : Encodes (65 ∷ 123 ∷ []) Letters [] (Err (EncodeError.NoRoom 1)) [] → ⊥
unfolding encoding first_not encoded ends_encoded character_of raised
no_order_5_2_1 p = let z : ◌≡◌ {A = ℕ} 2 1 = cc p.0 in omega arith

-- 8,193 times β
pub no_order_3_7_2 : (room : List ℕ) → Prints (replicate 8193 51) Letters room (Err (PrintError.BadWord 0)) room → ⊥
unfolding printing
no_order_3_7_2 room p = let z : ◌≡◌ {A = ℕ} 3 7 = cc p.0 in omega arith

-- A and β with no room
pub no_order_7_2_3 : Prints (71 ∷ 51 ∷ []) Letters [] (Err (PrintError.NoRoom 1)) [] → ⊥
unfolding printing first_not may_print traffic_of meaning_of printed ends_printed bytes_of
no_order_7_2_3 p = let z : ◌≡◌ {A = ℕ} 2 3 = cc p.0 in omega arith

pub no_touch_beyond : (r : Result told.Written EncodeError) → Encodes (65 ∷ []) Letters (170 ∷ 170 ∷ []) r (71 ∷ 0 ∷ []) → ⊥
unfolding encoding first_not encoded ends_encoded character_of raised
no_touch_beyond r p = let z : ◌≡◌ {A = ℕ} 0 170 = cc p.1 in omega arith

pub no_trailing_shift : Encodes (49 ∷ []) Letters (0 ∷ 0 ∷ 0 ∷ []) (Ok (record { count = 3; ends = Letters })) (54 ∷ 46 ∷ 90 ∷ []) → ⊥
unfolding encoding first_not encoded ends_encoded character_of raised
no_trailing_shift p = let z : ◌≡◌ {A = ℕ} 3 2 = cc in omega arith

pub no_letter_refused : (x : ℕ) → small x ≡ true → (c : Case) (room after : List ℕ) (i : ℕ) → Encodes (x ∷ []) c room (Err (EncodeError.NoSignal i)) after → ⊥
unfolding encoding first_not
no_letter_refused x s c room after i p =
    go (ltb (length room) (length (encoded c (x ∷ [])))) (length (encoded c (x ∷ []))) (record { bytes = encoded c (x ∷ []); ends = ends_encoded c (x ∷ []) }) (rw (small_has x s) at p.0)
  where
    go : (b : Bool) (n : ℕ) (w : Written) → refused 1 i ≡ counted (if b then refused 2 n else answered w) → ⊥
    go true n w e = let z : ◌≡◌ {A = ℕ} 1 2 = cc in omega arith
    go false n w e = let z : ◌≡◌ {A = ℕ} 0 1 = cc in omega arith

-- whatever it writes
pub no_96 : (c d : Case) (room after : List ℕ) (n : ℕ) → Encodes (96 ∷ []) c room (Ok (record { count = n; ends = d })) after → ⊥
unfolding encoding first_not character_of raised
no_96 c d room after n p = let z : ◌≡◌ {A = ℕ} 0 1 = cc in omega arith

pub no_123 : (c d : Case) (room after : List ℕ) (n : ℕ) → Encodes (123 ∷ []) c room (Ok (record { count = n; ends = d })) after → ⊥
unfolding encoding first_not character_of raised
no_123 c d room after n p = let z : ◌≡◌ {A = ℕ} 0 1 = cc in omega arith

pub no_byte_over_127 : (x : ℕ) → 127 < x → (c d : Case) (room after : List ℕ) (n : ℕ) → Encodes (x ∷ []) c room (Ok (record { count = n; ends = d })) after → ⊥
unfolding encoding first_not
no_byte_over_127 x h c d room after n p = go (rw (past_none x h) at p.0)
  where
    go : answered (record { count = n; ends = d }) ≡ counted (refused 1 0) → ⊥
    go e = let z : ◌≡◌ {A = ℕ} 0 1 = cc in omega arith

pub no_digit_touched : Encodes (49 ∷ []) Letters (0 ∷ 0 ∷ []) (Err (EncodeError.NoSignal 0)) (0 ∷ 0 ∷ []) → ⊥
unfolding encoding first_not encoded ends_encoded character_of raised
no_digit_touched p = let z : ◌≡◌ {A = ℕ} 0 1 = cc p.0 in omega arith

-- "aB{": one letter is raised before the {
pub no_index_of_raised : (room : List ℕ) → Encodes (97 ∷ 66 ∷ 123 ∷ []) Letters room (Err (EncodeError.NoSignal 1)) room → ⊥
unfolding encoding first_not encoded ends_encoded character_of raised
no_index_of_raised room p = let z : ◌≡◌ {A = ℕ} 1 2 = cc p.0 in omega arith

-- "1a" would be 54 46 71, and print 1-
pub no_case_kept : (r : Result told.Written EncodeError) → Encodes (49 ∷ 97 ∷ []) Letters (0 ∷ 0 ∷ 0 ∷ 0 ∷ []) r (54 ∷ 46 ∷ 71 ∷ 0 ∷ []) → ⊥
unfolding encoding first_not encoded ends_encoded character_of raised
no_case_kept r p = let z : ◌≡◌ {A = ℕ} 71 90 = cc p.1 in omega arith

-- of "a"
byte_of : Answer Written → ℕ
byte_of (answered w) = get_or w.bytes 0 0
byte_of (refused n v) = 0

pub no_text_as_typed : ((t : Written) → encoding (97 ∷ []) Letters 1 ≡ answered t → printing t.bytes Letters 1 ≡ answered (record { bytes = 97 ∷ []; ends = t.ends })) → ⊥
unfolding printing first_not may_print traffic_of meaning_of printed ends_printed bytes_of byte_of
no_text_as_typed claim =
    let z : ◌≡◌ {A = ℕ} 65 97 = ap byte_of (claim (record { bytes = 71 ∷ []; ends = Letters }) a_gives_71) in
    omega arith
