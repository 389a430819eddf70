-- All four signals are of table 3a exactly where none is outside. Assumes nothing.
use mathlib.Core.Path.{◌≡◌, refl, ◌∙◌}
use mathlib.Core.Bool.{Bool, true, false, ◌&&◌}
use Prim.Native.Nat.{ℕ, suc, ◌<◌, ◌≤◌}
use lib.Dec.{leb}
use borrow.Author.Tests.{le-leb, lt-leb}
use Rattle.std.specs.Prelude.{if◌then◌else◌}
use Rattle.signals.specs.Numbers.{first_not}
use Rattle.mode_a.specs.declared.Identity.{Identity}
use Rattle.identity.specs.Table3.{is_identity}
use Rattle.mode_a.specs.Calls.{signals_of, is_callable}

callable_is : (i : Identity) → is_callable i ≡ leb 4 (first_not is_identity (signals_of i))
unfolding is_callable first_not
callable_is i = go (is_identity i.0) (is_identity i.1) (is_identity i.2) (is_identity i.3)
  where
    go : (a b c d : Bool) → (a && (b && (c && d))) ≡ leb 4 (if a then suc (if b then suc (if c then suc (if d then 1 else 0) else 0) else 0) else 0)
    go true true true true = refl
    go true true true false = refl
    go true true false d = refl
    go true false c d = refl
    go false b c d = refl

module _ (i : Identity) (n : ℕ) (e : n ≡ first_not is_identity (signals_of i)) where
  pub outside : n < 4 → is_callable i ≡ false
  outside h = callable_is i ∙ rw (← e) (lt-leb 4 n h)

  pub none_outside : 4 ≤ n → is_callable i ≡ true
  none_outside h = callable_is i ∙ rw (← e) (le-leb 4 n h)
