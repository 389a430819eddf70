-- No second answer: the promises of `meaning` and `intact` leave one. Assumes nothing.
use mathlib.Core.Path.{◌≡◌}
use mathlib.Core.Bool.{Bool}
use Prim.Native.Nat.{ℕ}
use Rattle.laws.proofs.Unique.{unique}
use Rattle.signals.specs.Units.{intact_of}
use Rattle.signals.specs.Meaning.{meaning_of}

pub meaning_unique : (w r r' : ℕ) → r ≡ meaning_of w → r' ≡ meaning_of w → r ≡ r'
meaning_unique w r r' p q = unique p q

pub intact_unique : (w : ℕ) (r r' : Bool) → r ≡ intact_of w → r' ≡ intact_of w → r ≡ r'
intact_unique w r r' p q = unique p q
