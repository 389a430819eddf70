-- `encoding::needs_shift` meets its contract, case by case and test by test. Assumes nothing.
use mathlib.Core.Path.{◌≡◌, refl}
use mathlib.Core.Bool.{Bool, true, false, not, ◌&&◌}
use Prim.Native.Nat.{ℕ, ◌<◌, ◌≤◌}
use native.Mathlib.Omega.{arith}
use lib.Dec.{ltb, leb, eqb}
use borrow.Author.Tests.{ltb-true, ltb-false, leb-true, leb-false, eqb-true, eqb-false}
use Rattle.std.specs.Prelude.{if◌then◌else◌}
use Rattle.signals.specs.declared.Case.{Case}
use Rattle.signals.specs.declared.Case.TheVariants.{Letters, Figures}
use Rattle.characters.proofs.CharacterLaws.{after_letter, after_figure, after_same, stays_figures}
use Rattle.encoding.proofs.needs_shift.Goals as goal

-- in letters case a shift is needed where two tests pass, in figures case where one does
two-tests : (to : Case) (x k y : ℕ) → (x < k → (y ≡ x → ⊥) → to ≡ Figures) → (x < k → y ≡ x → to ≡ Letters) → (k ≤ x → to ≡ Letters) → to ≡ (if ltb x k && not (eqb y x) then Figures else Letters)
two-tests to x k y f s l = go (ltb x k) (eqb y x) refl refl
  where
    go : (a b : Bool) → ltb x k ≡ a → eqb y x ≡ b → to ≡ (if a && not b then Figures else Letters)
    go true true p q = s (ltb-true x k p) (eqb-true y x q)
    go true false p q = f (ltb-true x k p) (eqb-false y x q)
    go false b p q = l (ltb-false x k p)

one-test : (to : Case) (x k : ℕ) → (k ≤ x → to ≡ Letters) → (x < k → to ≡ Figures) → to ≡ (if leb k x then Letters else Figures)
one-test to x k l f = go (leb k x) refl
  where
    go : (a : Bool) → leb k x ≡ a → to ≡ (if a then Letters else Figures)
    go true p = l (leb-true k x p)
    go false p = f (leb-false k x p)

pub returns-in-Letters : goal.returns-in-Letters
returns-in-Letters c =
    let x = c.args.byte in
    let r = c.args.row in
    rw c.in-Letters.is
    (two-tests _ x _ _
    (λ below differs. after_figure x r c.requires (omega arith) differs Letters)
    (λ below alike. after_same x r c.requires (omega arith) alike Letters)
    (λ from. after_letter x r c.requires (omega arith) Letters))

pub returns-in-Figures : goal.returns-in-Figures
returns-in-Figures c =
    let x = c.args.byte in
    let r = c.args.row in
    rw c.in-Figures.is
    (one-test _ x _
    (λ from. after_letter x r c.requires (omega arith) Figures)
    (λ below. stays_figures x r c.requires (omega arith)))
