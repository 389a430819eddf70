-- The words of a broadcast as a receiver tells them apart: a traffic signal, and a word that has no meaning. Assumes nothing.
use mathlib.Core.Path.{◌≡◌, refl, ap, sym, ◌∙◌}
use mathlib.Core.Bool.{Bool, true, false, ◌&&◌, false≢true}
use mathlib.Core.List.{List, [], ◌∷◌}
use Prim.Native.Nat.{ℕ, suc, ◌≤◌}
use native.Mathlib.Omega.{arith}
use lib.Dec.{T, eqb, leb, ltb, ltb→lt}
use borrow.Author.Tests.{ltb-true, ltb-false, le-ltb, leb-true, eq-eqb, ne_eqb}
use Rattle.signals.specs.Units.{intact_of, ones_of}
use Rattle.laws.proofs.Below.{both_left, both_right}
use Rattle.signals.specs.Signals.{Signal, signals, word_of}
use Rattle.signals.specs.Meaning.{number_in, meaning_of, traffic_of, alpha, rq}
use Rattle.signals.proofs.CodeLaws.{intact_means}

pub eqb_self : (n : ℕ) → eqb n n ≡ true
eqb_self n = eq-eqb n n refl

-- a word is told from another by a test that they answer differently
differ : (f : ℕ → Bool) (v w : ℕ) → f v ≡ false → f w ≡ true → eqb v w ≡ false
differ f v w p q = ne_eqb v w (λ e. false≢true (sym p ∙ ap f e ∙ q))

unlike : (f : ℕ → Bool) (v w : ℕ) → f v ≡ true → f w ≡ false → eqb v w ≡ false
unlike f v w p q = ne_eqb v w (λ e. false≢true (sym q ∙ ap f (sym e) ∙ p))

first : (a b : Bool) → a && b ≡ true → a ≡ true
first true b e = refl
first false b e = e

-- a word without a meaning is mutilated, and is neither α nor RQ
pub record Mutilated (v : ℕ) : Type 0 where
  pub not_intact : intact_of v ≡ false
  pub not_alpha : eqb v alpha ≡ false
  pub not_rq_lem : eqb v rq ≡ false

not_byte : (v : ℕ) → 256 ≤ v → intact_of v ≡ false
unfolding intact_of
not_byte v h = rw (le-ltb v 128 (omega arith))

pub mutilated : (v : ℕ) → meaning_of v ≡ 0 → Mutilated v
unfolding intact_of ones_of
mutilated v e =
    let n = not_intact (ltb v 256) refl in
    record {
      not_intact = n;
      not_alpha = differ intact_of v alpha n refl;
      not_rq_lem = differ intact_of v rq n refl;
    }
  where
    not_intact : (t : Bool) → ltb v 256 ≡ t → intact_of v ≡ false
    not_intact true t = intact_means v (ltb-true v 256 t) ∙ rw e
    not_intact false t = not_byte v (ltb-false v 256 t)

-- a word that is no byte has no meaning
abbrev bytes : List Signal → Bool
bytes [] = true
bytes (s ∷ ss) = ltb (word_of s) 256 && bytes ss

unnumbered : (ss : List Signal) (n w : ℕ) → 256 ≤ w → T (bytes ss) → number_in ss n w ≡ 0
unnumbered [] n w h t = refl
unnumbered (s ∷ ss) n w h t =
    let b = ltb→lt (word_of s) 256 (both_left (ltb (word_of s) 256) (bytes ss) t) in
    rw (ne_eqb w (word_of s) (λ e. omega arith)) (unnumbered ss (suc n) w h (both_right (ltb (word_of s) 256) (bytes ss) t))

unmeant : (w : ℕ) → 256 ≤ w → meaning_of w ≡ 0
unfolding meaning_of
unmeant w h = unnumbered signals 1 w h tt

-- a traffic signal is intact, and is neither α nor RQ nor 0
pub record Traffic (w : ℕ) : Type 0 where
  pub is_traffic : traffic_of w ≡ true
  pub is_intact : intact_of w ≡ true
  pub not_alpha : eqb w alpha ≡ false
  pub not_rq_lem : eqb w rq ≡ false
  pub not_zero : eqb w 0 ≡ false

pub traffic : (w : ℕ) → traffic_of w ≡ true → Traffic w
unfolding traffic_of meaning_of
traffic w t =
    record {
      is_traffic = t;
      is_intact = is_intact (ltb w 256) refl;
      not_alpha = unlike traffic_of w alpha t refl;
      not_rq_lem = unlike traffic_of w rq t refl;
      not_zero = unlike traffic_of w 0 t refl;
    }
  where
    meant : leb 1 (meaning_of w) ≡ true
    meant = first (leb 1 (meaning_of w)) (leb (meaning_of w) 32) t

    is_intact : (b : Bool) → ltb w 256 ≡ b → intact_of w ≡ true
    is_intact true b = intact_means w (ltb-true w 256 b) ∙ meant
    is_intact false b =
        let z = unmeant w (ltb-false w 256 b) in
        let l = leb-true 1 (meaning_of w) meant in
        absurd (omega arith)
