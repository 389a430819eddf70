-- Bursts that are the same in each word.
--     same_words, words_same   the test of three words is equality
-- Assumes nothing.
use mathlib.Core.Path.{◌≡◌, refl, sym}
use mathlib.Core.Bool.{Bool, true, false, ◌&&◌, true≢false}
use lib.Dec.{eqb}
use borrow.Author.Tests.{eqb-true, eq-eqb}
use Rattle.mode_a.specs.declared.Words.{Words}
use Rattle.mode_a.specs.Heard.{is_words}

pub same_words : (b w : Words) → is_words b w ≡ true → b ≡ w
unfolding is_words
same_words b w e = go (eqb b.0 w.0) (eqb b.1 w.1) (eqb b.2 w.2) refl refl refl e
  where
    go : (x y z : Bool) → eqb b.0 w.0 ≡ x → eqb b.1 w.1 ≡ y → eqb b.2 w.2 ≡ z → x && (y && z) ≡ true → b ≡ w
    go true true true p q r e = λ k. record { 0 = eqb-true b.0 w.0 p k; 1 = eqb-true b.1 w.1 q k; 2 = eqb-true b.2 w.2 r k }
    go true true false p q r e = absurd (true≢false (sym e))
    go true false z p q r e = absurd (true≢false (sym e))
    go false y z p q r e = absurd (true≢false (sym e))

pub words_same : (w : Words) → is_words w w ≡ true
unfolding is_words
words_same w = rw (eq-eqb w.0 w.0 refl, eq-eqb w.1 w.1 refl, eq-eqb w.2 w.2 refl)
