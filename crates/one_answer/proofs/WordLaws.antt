-- What may stand in a block is an intact word that is neither α nor RQ, and no other word is: of all numbers, bytes or not.
-- Assumes nothing.
use mathlib.Core.Path.{◌≡◌, refl, ap, sym, ◌∙◌}
use mathlib.Core.Bool.{Bool, true, false, ◌&&◌, ◌||◌, true≢false, and-eq-true_iff}
use mathlib.Core.List.{List, [], ◌∷◌}
use Prim.Native.Nat.{ℕ, suc, ◌<◌}
use native.Mathlib.Omega.{arith}
use lib.Dec.{eqb, leb}
use borrow.Author.Tests.{eqb-true, ltb-true}
use Rattle.std.specs.Prelude.{if◌then◌else◌}
use Rattle.signals.specs.Units.{ones_of, intact_of}
use Rattle.signals.specs.Signals.{Signal, signals, word_of}
use Rattle.signals.specs.Meaning.{number_in, meaning_of, traffic_of, beta}
use Rattle.mode_a.specs.Heard.{may_hold}
use Rattle.mode_a.proofs.HeardLaws.{may_hold_is}
use Rattle.reasons.specs.Reasons.{not_rq}
use Rattle.one_answer.specs.Answers.{is_no_alpha}

-- an intact word is a byte, below 128
below : (w : ℕ) → intact_of w ≡ true → w < 256
unfolding intact_of
below w e = omega (arith, ltb-true w 128 ((and-eq-true_iff _ _).0 e).0)

-- what passes a test that each word of the list passes: a word with a number in it
every : (ℕ → Bool) → List Signal → Bool
every f [] = true
every f (x ∷ xs) = f (word_of x) && every f xs

in_list : (f : ℕ → Bool) (xs : List Signal) (n w : ℕ) → every f xs ≡ true → leb 1 (number_in xs n w) ≡ true → f w ≡ true
unfolding every
in_list f [] n w a e = absurd (true≢false (sym e))
in_list f (x ∷ xs) n w a e = go (eqb w (word_of x)) refl e (in_list f xs (suc n) w ((and-eq-true_iff (f (word_of x)) (every f xs)).0 a).1)
  where
    go : (t : Bool) → eqb w (word_of x) ≡ t → leb 1 (if t then n else number_in xs (suc n) w) ≡ true → (leb 1 (number_in xs (suc n) w) ≡ true → f w ≡ true) → f w ≡ true
    go true p q r = ap f (eqb-true w (word_of x) p) ∙ ((and-eq-true_iff (f (word_of x)) (every f xs)).0 a).0
    go false p q r = r q

held_intact : (w : ℕ) → may_hold w ≡ true → intact_of w ≡ true
unfolding every may_hold traffic_of meaning_of intact_of ones_of
held_intact w e = go (leb 1 (meaning_of w)) (eqb w beta) refl refl e
  where
    go : (t u : Bool) → leb 1 (meaning_of w) ≡ t → eqb w beta ≡ u → ((t && leb (meaning_of w) 32) || u) ≡ true → intact_of w ≡ true
    go true u p q e = in_list intact_of signals 1 w refl p
    go false true p q e = ap intact_of (eqb-true w beta q)
    go false false p q e = absurd (true≢false (sym e))

pub held_word : (w : ℕ) → may_hold w ≡ true → (intact_of w ≡ true) × (is_no_alpha w ≡ true) × (not_rq w ≡ true)
held_word w e =
    let p = (and-eq-true_iff _ _).0 (sym (may_hold_is w (below w (held_intact w e))) ∙ e) in
    let q = (and-eq-true_iff _ _).0 p.0 in
    (q.0, q.1, p.1)

pub word_held : (w : ℕ) → intact_of w ≡ true → is_no_alpha w ≡ true → not_rq w ≡ true → may_hold w ≡ true
word_held w i a r = may_hold_is w (below w i) ∙ rw (i, a, r)
