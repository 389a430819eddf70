-- All seven signals are of table 3a exactly where none is outside. Assumes nothing.
use mathlib.Core.Path.{◌≡◌, refl, ap, sym, ◌∙◌}
use mathlib.Core.Bool.{Bool, true, false, not}
use Prim.Native.Nat.{ℕ, ◌<◌, ◌≤◌}
use lib.Dec.{ltb}
use borrow.Author.Tests.{lt-ltb, le-ltb}
use Rattle.signals.specs.Numbers.{first_not}
use Rattle.identity.specs.declared.Seven.{Seven}
use Rattle.identity.specs.Table3.{is_identity}
use Rattle.identity.specs.Sums.{signals_of7, is_callable7}
use Rattle.identity.proofs.OutsideLaws.{outside_7}

callable_is : (i : Seven) → is_callable7 i ≡ not (ltb (first_not is_identity (signals_of7 i)) 7)
callable_is i = twice (is_callable7 i) ∙ ap not (sym (outside_7 i))
  where
    twice : (b : Bool) → b ≡ not (not b)
    twice true = refl
    twice false = refl

module _ (i : Seven) (n : ℕ) (e : n ≡ first_not is_identity (signals_of7 i)) where
  pub outside : n < 7 → is_callable7 i ≡ false
  outside h = callable_is i ∙ rw (← e) (ap not (lt-ltb n 7 h))

  pub none_outside : 7 ≤ n → is_callable7 i ≡ true
  none_outside h = callable_is i ∙ rw (← e) (ap not (le-ltb n 7 h))
