-- What a test that passed, or did not, tells.
--     by_test             what is so of both branches is so of the choice
--     never               a test that never passes
--     same_words          bursts that are the same in each word
--     same_is, other_is   of two numbers; own_same, other_same the other way round
--     is_rq_lem, is_four  RQ, and the fourth stage
-- Assumes nothing.
use mathlib.Core.Path.{◌≡◌, refl, sym}
use mathlib.Core.Bool.{Bool, true, false, ◌&&◌, true≢false}
use lib.Dec.{eqb}
use borrow.Author.Tests.{eqb-true}
use Rattle.std.specs.Prelude.{if◌then◌else◌}
use Rattle.mode_a.specs.declared.Number.{Number}
use Rattle.mode_a.specs.declared.Number.TheVariants.{One, Two}
use Rattle.mode_a.specs.declared.Stage.{Stage}
use Rattle.mode_a.specs.declared.Words.{Words}
use Rattle.mode_a.specs.Station.{other, same}
use Rattle.mode_a.specs.Heard.{First, Cs, Cs3, Rq, Else, is_words}
use Rattle.mode_a.specs.Rows.{is_rq, is_last}

-- what is so of both branches, each with what the test said, is so of the choice
pub by_test : {A : Type 0} (P : A → Type 0) (t : Bool) {x y : A} → (t ≡ true → P x) → (t ≡ false → P y) → P (if t then x else y)
by_test P true f g = f refl
by_test P false f g = g refl

-- a test that never passes
pub never : {A : Type 0} → false ≡ true → A
never e = absurd (true≢false (sym e))

-- bursts that are the same in each word
pub same_words : (b w : Words) → is_words b w ≡ true → b ≡ w
unfolding is_words
same_words b w e = go (eqb b.0 w.0) (eqb b.1 w.1) (eqb b.2 w.2) refl refl refl e
  where
    go : (x y z : Bool) → eqb b.0 w.0 ≡ x → eqb b.1 w.1 ≡ y → eqb b.2 w.2 ≡ z → x && (y && z) ≡ true → b ≡ w
    go true true true p q r e = λ k. record { 0 = eqb-true b.0 w.0 p k; 1 = eqb-true b.1 w.1 q k; 2 = eqb-true b.2 w.2 r k }
    go true true false p q r e = never e
    go true false z p q r e = never e
    go false y z p q r e = never e

-- a number is that number or the other
pub same_is : (m n : Number) → same m n ≡ true → m ≡ n
same_is One One e = refl
same_is One Two e = never e
same_is Two One e = never e
same_is Two Two e = refl

pub other_is : (m n : Number) → same m n ≡ false → m ≡ other n
other_is One One e = never (sym e)
other_is One Two e = refl
other_is Two One e = refl
other_is Two Two e = never (sym e)

pub own_same : (n : Number) → same n n ≡ true
own_same One = refl
own_same Two = refl

pub other_same : (n : Number) → same (other n) n ≡ false
other_same One = refl
other_same Two = refl

pub is_rq_lem : (f : First) → is_rq f ≡ true → f ≡ Rq
is_rq_lem (Cs n) e = never e
is_rq_lem Cs3 e = never e
is_rq_lem Rq e = refl
is_rq_lem (Else x) e = never e

pub is_four : (k : Stage) → is_last k ≡ true → k ≡ Stage.Four
is_four Stage.One e = never e
is_four Stage.Two e = never e
is_four Stage.Three e = never e
is_four Stage.Four e = refl
