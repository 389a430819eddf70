-- What holds of every byte, and of every signal, from tests that antt computes over all of them; and the search of the rows. Assumes
-- nothing.
use mathlib.Core.Path.{◌≡◌, refl, ap, sym, ◌∙◌}
use mathlib.Core.Bool.{Bool, true, false, not, ◌&&◌, beq}
use mathlib.Core.List.{List}
use Prim.Native.Nat.{ℕ, zero, suc, ◌+◌, ◌≤◌, ◌<◌}
use native.Mathlib.Omega.{arith}
use lib.Dec.{T, eqb, leb, ltb, leb→le, eqb→eq}
use borrow.Author.Tests.{ltb-true, leb-true, leb-false}
use lib.Count.{ones}
use lib.ListN.{get_or}
use Rattle.std.specs.Prelude.{if◌then◌else◌}
use Rattle.laws.proofs.Below.{at_below, agree_below, both_left, both_right}
use Rattle.laws.proofs.Table.{same_table}
use Rattle.signals.specs.Units.{ones_of, intact_of}
use Rattle.signals.specs.Meaning.{meaning_of, traffic_of, word_no}
use Rattle.signals.specs.declared.Row.{Row}
use Rattle.signals.specs.Rows.{row, row_of, Rows}

beq→eq : (a b : Bool) → T (beq a b) → a ≡ b
beq→eq true true t = refl
beq→eq true false t = absurd t
beq→eq false true t = absurd t
beq→eq false false t = refl

-- The test of a byte: it is intact exactly where its meaning is not 0; its meaning is at most 35; and where it is
-- intact, the signal with that number has it as its word.
right : ℕ → Bool
right w =
    beq (intact_of w) (leb 1 (meaning_of w))
    && (leb (meaning_of w) 35 && (if intact_of w then eqb (word_no (meaning_of w)) w else true))

module _ (w : ℕ) (byte : w < 256) where
  passes : T (right w)
  unfolding right intact_of ones_of meaning_of
  passes = at_below right 256 tt w byte

  -- "There are 35 intact words and all have a meaning": a byte is intact exactly where it has one  R-016
  pub intact_means : intact_of w ≡ leb 1 (meaning_of w)
  unfolding right
  intact_means = beq→eq _ _ (both_left (beq (intact_of w) (leb 1 (meaning_of w))) _ passes)

  pub meaning_le : meaning_of w ≤ 35
  unfolding right
  meaning_le = leb→le _ _ (both_left (leb (meaning_of w) 35) _ (both_right (beq (intact_of w) (leb 1 (meaning_of w))) _ passes))

  -- an intact word is that of the signal with its number
  word_of_meaning : intact_of w ≡ true → word_no (meaning_of w) ≡ w
  unfolding right
  word_of_meaning e =
      let t = both_right (leb (meaning_of w) 35) _ (both_right (beq (intact_of w) (leb 1 (meaning_of w))) _ passes) in
      eqb→eq _ _ (rw e at t)

  -- a traffic signal is an intact word that is no service signal
  pub traffic_is : traffic_of w ≡ (((intact_of w && not (eqb w 15)) && not (eqb w 51)) && not (eqb w 102))
  unfolding traffic_of intact_of ones_of meaning_of
  traffic_is =
      same_table traffic_of (λ w. ((intact_of w && not (eqb w 15)) && not (eqb w 51)) && not (eqb w 102)) 256 true refl w byte

  -- so it is intact
  pub traffic_intact : traffic_of w ≡ true → intact_of w ≡ true
  traffic_intact e = go (intact_of w) refl
    where
      go : (b : Bool) → intact_of w ≡ b → b ≡ true
      go true f = refl
      go false f = sym (rw f at traffic_is) ∙ e

-- how many numbers below n pass the test
abbrev count_below : (ℕ → Bool) → ℕ → ℕ
count_below f zero = 0
count_below f (suc n) = (if f n then 1 else 0) + count_below f n

-- "There are 35 intact words and all have a meaning"  R-016: 35 of the 256 bytes are intact ..
pub intact_count : count_below intact_of 256 ≡ 35
unfolding intact_of ones_of
intact_count = refl

-- .. and each number from 1 to 35 is the meaning of the word that its line spells
pub number_means : (n : ℕ) → n < 35 → meaning_of (word_no (suc n)) ≡ suc n
unfolding meaning_of
number_means n h = agree_below (λ n. meaning_of (word_no (suc n))) (λ n. suc n) 35 tt n h

-- the word of a row is the word that the signal's line spells
pub row_word : (n : ℕ) → n < 35 → (row_of n).0 ≡ word_no (suc n)
unfolding row_of
row_word n h = agree_below (λ n. (row_of n).0) (λ n. word_no (suc n)) 35 tt n h

-- The search of the rows for the word w (02, T-04), where it has come to the place n: it is one of the 35; where its row has the word,
-- the number is the next one, since places are counted from 0; where not, the signal's row is further on
abbrev pub Searched : ℕ → ℕ → Type 0
Searched w n = (n < 35) × ((row_of n).0 ≡ w → meaning_of w ≡ suc n) × (((row_of n).0 ≡ w → ⊥) → suc n < meaning_of w)

-- so the search for an intact word, which has a number, always hits  R-158, R-173
pub search_at : (w : ℕ) → w < 256 → intact_of w ≡ true → (n : ℕ) → n < meaning_of w → Searched w n
search_at w byte e n h =
    let low : n < 35 = omega (arith, meaning_le w byte) in
    let hit : (row_of n).0 ≡ w → meaning_of w ≡ suc n = λ here. ap meaning_of (sym here ∙ row_word n low) ∙ number_means n low in
    let on : ((row_of n).0 ≡ w → ⊥) → meaning_of w ≡ suc n → ⊥ = λ other last. other (row_word n low ∙ ap word_no (sym last) ∙ word_of_meaning w byte e) in
    (low, hit, λ other. omega (arith, on other))

-- a mutilated word has no meaning
pub no_meaning : (w : ℕ) → w < 256 → intact_of w ≡ false → meaning_of w ≡ 0
no_meaning w byte e = omega (arith, leb-false 1 (meaning_of w) (sym (intact_means w byte) ∙ e))

-- what is known while the code searches a table of the rows for the word w, at the place n
pub record Searching (w n : ℕ) : Type 0 where
  pub byte : w < 256
  pub intact : intact_of w ≡ true
  pub before : n < meaning_of w

pub search_starts : (w : ℕ) → w < 256 → intact_of w ≡ true → Searching w 0
search_starts w byte e = record { byte = byte; intact = e; before = leb-true 1 (meaning_of w) (sym (intact_means w byte) ∙ e) }

module _ {w n : ℕ} (s : Searching w n) where
  searched : Searched w n
  searched = search_at w s.byte s.intact n s.before

  pub search_in : n < 35
  search_in = searched.0

  module _ (l : List Row) (rows : Rows l) where
    pub search_row : get_or l n (row 0 0 0) ≡ row_of n
    search_row = rows n search_in

    pub search_on : ((get_or l n (row 0 0 0)).0 ≡ w → ⊥) → Searching w (n + 1)
    search_on other =
        let next = searched.2 (λ here. other (ap (λ (r : Row). r.0) search_row ∙ here)) in
        record { byte = s.byte; intact = s.intact; before = omega (arith, next) }

    module _ (here : (get_or l n (row 0 0 0)).0 ≡ w) where
      pub search_word : (row_of n).0 ≡ w
      search_word = sym (ap (λ (r : Row). r.0) search_row) ∙ here

      pub search_hit : meaning_of w ≡ n + 1
      search_hit = omega (arith, searched.1 search_word)

-- below 128 the language's count of ones is the sum of the seven units  R-014
pub ones_agree : (w : ℕ) → w < 128 → ones w ≡ ones_of w
unfolding ones ones_of
ones_agree w h = agree_below ones ones_of 128 tt w h

-- so a word is intact where it is below 128 and has four ones by that count
pub ones_intact : (w : ℕ) → (ltb w 128 && eqb (ones w) 4) ≡ intact_of w
unfolding intact_of
ones_intact w = go (ltb w 128) refl
  where
    go : (t : Bool) → ltb w 128 ≡ t → (t && eqb (ones w) 4) ≡ (t && eqb (ones_of w) 4)
    go true e = ap (λ (n : ℕ). eqb n 4) (ones_agree w (ltb-true w 128 e))
    go false e = refl
