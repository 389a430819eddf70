-- Places told apart by their numbers, so that no law has a line for each pair of them. Assumes nothing.
use mathlib.Core.Path.{◌≡◌, refl, ap, sym, ◌∙◌}
use mathlib.Core.Bool.{Bool, true, false, not, ◌&&◌, true≢false}
use Prim.Native.Nat.{ℕ}
use lib.Dec.{eqb}
use borrow.Author.Tests.{eqb-true, eq-eqb}
use Rattle.mode_a.specs.declared.Waiting.{Waiting}
use Rattle.mode_a.specs.declared.Place.{Place}
use Rattle.mode_a.specs.declared.Place.TheVariants.{Sending, Turning, Opening, Ending, Receiving, Asking, StandBy, Lost, Calling, Calling3, Identifying, Answering}
use Rattle.runs.specs.Places.{place_no, is_stand_by, changed}

-- a place with another number is another place
pub places_apart : (p q : Place) → changed p q ≡ true → p ≡ q → ⊥
places_apart p q c e = true≢false (sym c ∙ ap not (eq-eqb (place_no p) (place_no q) (ap place_no e)))

-- a place with the number of Stand-by carries what Stand-by does
pub is_standby : (p : Place) → is_stand_by p ≡ true → (w : Waiting) × (p ≡ StandBy w)
is_standby (Sending h) e = absurd (true≢false (sym e))
is_standby (Turning n) e = absurd (true≢false (sym e))
is_standby Opening e = absurd (true≢false (sym e))
is_standby (Ending x) e = absurd (true≢false (sym e))
is_standby (Receiving n) e = absurd (true≢false (sym e))
is_standby Asking e = absurd (true≢false (sym e))
is_standby (StandBy w) e = (w, refl)
is_standby Lost e = absurd (true≢false (sym e))
is_standby (Calling c) e = absurd (true≢false (sym e))
is_standby (Calling3 c) e = absurd (true≢false (sym e))
is_standby (Identifying i) e = absurd (true≢false (sym e))
is_standby (Answering g) e = absurd (true≢false (sym e))

-- a place has one number
pub one_number : (p : Place) (i j : ℕ) → eqb i j ≡ false → eqb (place_no p) i && eqb (place_no p) j ≡ false
one_number p i j d = go (eqb (place_no p) i) refl
  where
    go : (t : Bool) → eqb (place_no p) i ≡ t → t && eqb (place_no p) j ≡ false
    go true e = rw (eqb-true (place_no p) i e) d
    go false e = refl
