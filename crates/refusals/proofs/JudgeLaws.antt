-- A call of four signals is judged as fourteen, of which the others are letters of table 3a. Assumes nothing.
use mathlib.Core.Path.{◌≡◌, refl}
use mathlib.Core.List.{List, ◌∷◌, ◌++◌}
use Prim.Native.Nat.{ℕ}
use lib.Dec.{ltb}
use Rattle.std.specs.Prelude.{if◌then◌else◌}
use Rattle.signals.specs.Numbers.{first_not}
use Rattle.identity.specs.declared.Seven.{Seven}
use Rattle.identity.specs.Table3.{is_identity}
use Rattle.identity.specs.Sums.{signals_of7}
use Rattle.mode_a.specs.declared.Identity.{Identity}
use Rattle.mode_a.specs.Calls.{signals_of}
use Rattle.mode_a.proofs.CallLaws.{outside_both}

-- seven signals, the four of an identity in front, and seven letters behind them
abbrev pub filled : Identity → Seven
filled i = record { 0 = i.0; 1 = i.1; 2 = i.2; 3 = i.3; 4 = 60; 5 = 60; 6 = 60 }

abbrev pub letters : Seven
letters = record { 0 = 60; 1 = 60; 2 = 60; 3 = 60; 4 = 60; 5 = 60; 6 = 60 }

-- what stands behind the four
abbrev ten : List ℕ
ten = 60 ∷ 60 ∷ 60 ∷ signals_of7 letters

ten_letters : first_not is_identity ten ≡ 10
unfolding first_not is_identity
ten_letters = refl

pub four_of_fourteen : (i : Identity) → first_not is_identity (signals_of7 (filled i) ++ signals_of7 letters) ≡ (if ltb (first_not is_identity (signals_of i)) 4 then first_not is_identity (signals_of i) else 14)
four_of_fourteen i = rw ten_letters at (outside_both i ten)
