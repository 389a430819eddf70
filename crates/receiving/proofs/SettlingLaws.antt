-- The tests of a settled position. Assumes nothing.
use mathlib.Core.Path.{◌≡◌, refl}
use mathlib.Core.Bool.{Bool, true, false, not, ◌&&◌}
use Prim.Native.Nat.{ℕ, ◌<◌}
use lib.Dec.{eqb}
use borrow.Author.Tests.{eqb-true}
use Rattle.signals.specs.Units.{ones_of, intact_of}
use Rattle.signals.specs.Meaning.{traffic_of, alpha, beta, rq}
use Rattle.signals.proofs.CodeLaws.{traffic_is}

-- RQ and α are intact: the test of a phasing position passes of two intact copies alone
pub phasing_intact : (dx rx : ℕ) → eqb dx rq && eqb rx alpha ≡ eqb dx rq && (eqb rx alpha && (intact_of dx && intact_of rx))
unfolding intact_of ones_of
phasing_intact dx rx = go (eqb dx rq) (eqb rx alpha) refl refl
  where
    go : (a b : Bool) → eqb dx rq ≡ a → eqb rx alpha ≡ b → a && b ≡ a && (b && (intact_of dx && intact_of rx))
    go true true e f = rw (eqb-true dx rq e, eqb-true rx alpha f) refl
    go true false e f = refl
    go false b e f = refl

-- an intact word is traffic where it is no service signal
pub traffic_by : (w : ℕ) → w < 256 → intact_of w ≡ true → traffic_of w ≡ ((not (eqb w alpha) && not (eqb w beta)) && not (eqb w rq))
traffic_by w h i = rw (traffic_is w h, i) refl
