-- What may stand in a block: every intact word but α and RQ, by one test that antt computes over all 256 bytes. And what a first word
-- says. Assumes nothing.
use mathlib.Core.Path.{◌≡◌, refl}
use mathlib.Core.Bool.{Bool, true, false, not, ◌&&◌}
use Prim.Native.Nat.{ℕ, ◌<◌}
use lib.Dec.{eqb}
use borrow.Author.Tests.{ne_eqb, eqb-true, eqb-false}
use Rattle.std.specs.Prelude.{if◌then◌else◌}
use Rattle.laws.proofs.Table.{tab_from, same_table}
use Rattle.signals.specs.Units.{ones_of, intact_of}
use Rattle.signals.specs.Meaning.{meaning_of, traffic_of, cs1, cs2, cs3, cs4, cs5, rq}
use Rattle.mode_a.specs.declared.Number.TheVariants.{One, Two}
use Rattle.identity.specs.Table3.{is_identity}
use Rattle.mode_a.specs.Heard.{First, Cs, Cs3, Rq, Else, Further, Cs4, Cs5, Letter, Other, further_of, first_of, may_hold}

abbrev by_ones : ℕ → Bool
by_ones w = (intact_of w && not (eqb w 15)) && not (eqb w 102)

same : tab_from may_hold 256 0 ≡ tab_from by_ones 256 0
unfolding may_hold traffic_of meaning_of intact_of ones_of
same = refl

pub may_hold_is : (w : ℕ) → w < 256 → may_hold w ≡ ((intact_of w && not (eqb w 15)) && not (eqb w 102))
may_hold_is w h = same_table may_hold by_ones 256 false same w h

-- the first word, by its value
module _ (w : ℕ) where
  pub first_cs1 : w ≡ cs1 → first_of w ≡ Cs One
  unfolding first_of
  first_cs1 e = rw e

  pub first_cs2 : w ≡ cs2 → first_of w ≡ Cs Two
  unfolding first_of
  first_cs2 e = rw e

  pub first_cs3 : w ≡ cs3 → first_of w ≡ Cs3
  unfolding first_of
  first_cs3 e = rw e

  pub first_rq : w ≡ rq → first_of w ≡ Rq
  unfolding first_of
  first_rq e = rw e

  pub first_else : (w ≡ cs1 → ⊥) → (w ≡ cs2 → ⊥) → (w ≡ cs3 → ⊥) → (w ≡ rq → ⊥) → first_of w ≡ Else (further_of w)
  unfolding first_of
  first_else a b c d = rw (ne_eqb w cs1 a, ne_eqb w cs2 b, ne_eqb w cs3 c, ne_eqb w rq d)

-- and the other way round: what a first word says tells which word it is
abbrev pub Says : ℕ → First → Type 0
Says w (Cs One) = w ≡ cs1
Says w (Cs Two) = w ≡ cs2
Says w Cs3 = w ≡ cs3
Says w Rq = w ≡ rq
Says w (Else x) = (w ≡ cs1 → ⊥) × (w ≡ cs2 → ⊥) × (w ≡ cs3 → ⊥) × (w ≡ rq → ⊥)

pub first_says : (w : ℕ) → Says w (first_of w)
unfolding first_of
first_says w = go (eqb w cs1) (eqb w cs2) (eqb w cs3) (eqb w rq) refl refl refl refl
  where
    go : (a b c d : Bool) → eqb w cs1 ≡ a → eqb w cs2 ≡ b → eqb w cs3 ≡ c → eqb w rq ≡ d → Says w (if a then Cs One else if b then Cs Two else if c then Cs3 else if d then Rq else Else (further_of w))
    go true b c d p q r s = eqb-true w cs1 p
    go false true c d p q r s = eqb-true w cs2 q
    go false false true d p q r s = eqb-true w cs3 r
    go false false false true p q r s = eqb-true w rq s
    go false false false false p q r s = (eqb-false w cs1 p, eqb-false w cs2 q, eqb-false w cs3 r, eqb-false w rq s)

-- what one that is none of these says further
abbrev pub SaysFurther : ℕ → Further → Type 0
SaysFurther w Cs4 = w ≡ cs4
SaysFurther w Cs5 = w ≡ cs5
SaysFurther w (Letter v) = (w ≡ v) × (is_identity w ≡ true)
SaysFurther w Other = (w ≡ cs4 → ⊥) × (w ≡ cs5 → ⊥) × (is_identity w ≡ false)

pub further_says : (w : ℕ) → SaysFurther w (further_of w)
unfolding further_of
further_says w = go (eqb w cs4) (eqb w cs5) (is_identity w) refl refl refl
  where
    go : (a b c : Bool) → eqb w cs4 ≡ a → eqb w cs5 ≡ b → is_identity w ≡ c → SaysFurther w (if a then Cs4 else if b then Cs5 else if c then Letter w else Other)
    go true b c p q r = eqb-true w cs4 p
    go false true c p q r = eqb-true w cs5 q
    go false false true p q r = (refl, r)
    go false false false p q r = (eqb-false w cs4 p, eqb-false w cs5 q, r)

module _ (w : ℕ) where
  pub further_cs4 : w ≡ cs4 → further_of w ≡ Cs4
  unfolding further_of
  further_cs4 e = rw e

  pub further_cs5 : w ≡ cs5 → further_of w ≡ Cs5
  unfolding further_of
  further_cs5 e = rw e

  pub further_letter : (w ≡ cs4 → ⊥) → (w ≡ cs5 → ⊥) → is_identity w ≡ true → further_of w ≡ Letter w
  unfolding further_of
  further_letter a b c = rw (ne_eqb w cs4 a, ne_eqb w cs5 b, c)

  pub further_other : (w ≡ cs4 → ⊥) → (w ≡ cs5 → ⊥) → is_identity w ≡ false → further_of w ≡ Other
  unfolding further_of
  further_other a b c = rw (ne_eqb w cs4 a, ne_eqb w cs5 b, c)
