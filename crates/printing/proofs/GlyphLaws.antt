-- The byte of a word, read off the row of its signal, is what the word prints: one test that antt computes over the 35 rows, in each
-- case. Assumes nothing.
use mathlib.Core.Path.{◌≡◌, refl, ap, sym, ◌∙◌}
use mathlib.Core.Bool.{Bool, true, false, ◌||◌}
use mathlib.Core.List.{[], ◌∷◌}
use Prim.Native.Nat.{ℕ, zero, suc, ◌<◌}
use borrow.Author.Tests.{ne_eqb}
use Rattle.laws.proofs.Table.{tab_from, same_table}
use Rattle.signals.specs.declared.Case.{Case}
use Rattle.signals.specs.declared.Case.TheVariants.{Letters, Figures}
use Rattle.signals.specs.Units.{intact_of}
use Rattle.signals.specs.Rows.{row_of}
use Rattle.signals.specs.Meaning.{traffic_of, word_no, error_mark}
use Rattle.signals.proofs.CodeLaws.{row_word, traffic_intact}
use Rattle.text.specs.Printing.{bytes_of, may_print}
use Rattle.printing.specs.Glyph.{column, put_of}

same : (c : Case) → tab_from (λ n. put_of (column c (row_of n))) 35 0 ≡ tab_from (λ n. bytes_of c (word_no (suc n))) 35 0
unfolding row_of bytes_of
same Letters = refl
same Figures = refl

-- the row that has the word has its byte
pub row_prints : (c : Case) (w n : ℕ) → n < 35 → (row_of n).0 ≡ w → put_of (column c (row_of n)) ≡ bytes_of c w
row_prints c w n h e =
    same_table (λ n. put_of (column c (row_of n))) (λ n. bytes_of c (word_no (suc n))) 35 [] (same c) n h ∙ ap (bytes_of c) (sym (row_word n h) ∙ e)

-- the error mark prints a star
pub star_prints : (c : Case) (w : ℕ) → w ≡ error_mark → put_of 42 ≡ bytes_of c w
unfolding bytes_of
star_prints c w e = rw e

-- a word that may stand and is not the error mark is intact
pub may_intact : (w : ℕ) → w < 256 → may_print w ≡ true → (w ≡ error_mark → ⊥) → intact_of w ≡ true
unfolding may_print
may_intact w byte may f = traffic_intact w byte (left (traffic_of w) (rw (ne_eqb w error_mark f) at may))
  where
    left : (t : Bool) → (t || false) ≡ true → t ≡ true
    left true e = refl
    left false e = e

pub put_none : (g : ℕ) → g ≡ 0 → put_of g ≡ []
put_none zero e = refl
put_none (suc g) e = cc

pub put_one : (g : ℕ) → (g ≡ 0 → ⊥) → put_of g ≡ g ∷ []
put_one zero f = absurd (f refl)
put_one (suc g) f = refl
