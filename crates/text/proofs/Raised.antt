-- 02, T-01: "Encoding is to take a to z as the capitals".
--     small_letters_lem     what is small is a to z, byte by byte
--     raised_letters        these, one after the other, become A to Z
--     raised_others         every other number stays
--     small_has             each of a to z has a signal
--     bytes_with_signals_lem    the bytes that have a signal are those of `Bytes`, and no other number has one
--     raised_alike          a text is answered as the text in capitals is: signals, case, room, each refusal and the value beside it
--     a_gives_71            01's example, as 02 has it
--     index_as_typed        "aB{" is refused at 2, from either case and whatever the room: every character counts
--     shift_before_small    "1a" has a shift to letters before the a, as "1A" has
-- Assumes nothing.
use mathlib.Core.Path.{◌≡◌, refl, ap, sym, ◌∙◌}
use mathlib.Core.Bool.{Bool, true, false, not, ◌&&◌, ◌||◌}
use mathlib.Core.List.{List, [], ◌∷◌, map}
use Prim.Native.Nat.{ℕ, ◌≤◌}
use native.Mathlib.Omega.{arith}
use lib.Dec.{T, ltb, ltb→lt}
use borrow.Author.Tests.{ne_eqb, ltb-true, ltb-false}
use Rattle.laws.proofs.Below.{both_left, both_right}
use Rattle.laws.proofs.Table.{tab_from, same_table}
use Rattle.signals.specs.declared.Case.{Case}
use Rattle.signals.specs.declared.Case.TheVariants.{Letters}
use Rattle.signals.specs.Numbers.{answered, refused, first_not}
use Rattle.text.specs.Encoding.{small, raised, character_of, has_signal, case_after, encoded, ends_encoded, encoding}
use Rattle.text.specs.Bytes.{capitals, small_letters, bytes_with_signals, among}
use Rattle.text.proofs.RaisedLaws.{raised_stays, small_past, small_low, raised_twice, length_raised}
use Rattle.text.proofs.CharacterLaws.{past_none}

low : List ℕ → Bool
low [] = true
low (y ∷ ys) = ltb y 128 && low ys

past_list : (ys : List ℕ) (x : ℕ) → T (low ys) → 128 ≤ x → among ys x ≡ false
unfolding low
past_list [] x t h = refl
past_list (y ∷ ys) x t h =
    let less = ltb→lt y 128 (both_left (ltb y 128) (low ys) t) in
    rw (ne_eqb x y (λ e. omega arith)) (past_list ys x (both_right (ltb y 128) (low ys) t) h)

small_below : tab_from small 128 0 ≡ tab_from (among small_letters) 128 0
small_below = refl

pub small_letters_lem : (x : ℕ) → small x ≡ among small_letters x
unfolding low
small_letters_lem x = go (ltb x 128) refl
  where
    go : (b : Bool) → ltb x 128 ≡ b → small x ≡ among small_letters x
    go true p = same_table small (among small_letters) 128 false small_below x (ltb-true x 128 p)
    go false p =
        let h = ltb-false x 128 p in
        small_past x (omega arith) ∙ sym (past_list small_letters x tt h)

pub raised_letters : map raised small_letters ≡ capitals
unfolding raised
raised_letters = refl

pub raised_others : (x : ℕ) → among small_letters x ≡ false → raised x ≡ x
raised_others x none = raised_stays x (small_letters_lem x ∙ none)

has_below : tab_from (λ x. not (small x) || has_signal x) 128 0 ≡ tab_from (λ x. true) 128 0
unfolding character_of raised
has_below = refl

pub small_has : (x : ℕ) → small x ≡ true → has_signal x ≡ true
small_has x e =
    rw e at (same_table (λ x. not (small x) || has_signal x) (λ x. true) 128 true has_below x (small_low x e))

-- below 128 both are computed
signals_below : tab_from has_signal 128 0 ≡ tab_from (among bytes_with_signals) 128 0
unfolding character_of raised
signals_below = refl

pub bytes_with_signals_lem : (x : ℕ) → has_signal x ≡ among bytes_with_signals x
unfolding low
bytes_with_signals_lem x = go (ltb x 128) refl
  where
    go : (b : Bool) → ltb x 128 ≡ b → has_signal x ≡ among bytes_with_signals x
    go true p = same_table has_signal (among bytes_with_signals) 128 false signals_below x (ltb-true x 128 p)
    go false p =
        let h = ltb-false x 128 p in
        past_none x h ∙ sym (past_list bytes_with_signals x tt h)

character_raised : (x : ℕ) → character_of (raised x) ≡ character_of x
unfolding character_of
character_raised x = rw (raised_twice x)

first_raised : (text : List ℕ) → first_not has_signal (map raised text) ≡ first_not has_signal text
unfolding first_not
first_raised [] = refl
first_raised (x ∷ xs) = rw (character_raised x, first_raised xs)

encoded_raised : (c : Case) (text : List ℕ) → encoded c (map raised text) ≡ encoded c text
unfolding encoded
encoded_raised c [] = refl
encoded_raised c (x ∷ xs) = rw (character_raised x, encoded_raised (case_after c (character_of x)) xs)

ends_raised : (c : Case) (text : List ℕ) → ends_encoded c (map raised text) ≡ ends_encoded c text
unfolding ends_encoded
ends_raised c [] = refl
ends_raised c (x ∷ xs) =
    ap (λ k. ends_encoded (case_after c k) (map raised xs)) (character_raised x) ∙ ends_raised (case_after c (character_of x)) xs

pub raised_alike : (text : List ℕ) (c : Case) (room : ℕ) → encoding (map raised text) c room ≡ encoding text c room
unfolding encoding
raised_alike text c room =
    rw (length_raised text, first_raised text, encoded_raised c text, ends_raised c text)

pub a_gives_71 : encoding (97 ∷ []) Letters 1 ≡ answered (record { bytes = 71 ∷ []; ends = Letters })
unfolding encoding first_not encoded ends_encoded character_of raised
a_gives_71 = refl

pub index_as_typed : (c : Case) (room : ℕ) → encoding (97 ∷ 66 ∷ 123 ∷ []) c room ≡ refused 1 2
unfolding encoding first_not character_of raised
index_as_typed c room = refl

pub shift_before_small : encoding (49 ∷ 97 ∷ []) Letters 4 ≡ answered (record { bytes = 54 ∷ 46 ∷ 90 ∷ 71 ∷ []; ends = Letters })
unfolding encoding first_not encoded ends_encoded character_of raised
shift_before_small = refl
