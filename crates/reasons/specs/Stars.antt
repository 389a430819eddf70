-- 02, T-08: "For an error in mode B: both copies bad, or both good and unlike, with the two words."  R-289 to R-292
-- Assumes nothing.
use Rattle.std.specs.Prelude.{◌≡◌, Bool, true, false, not, ◌&&◌, ℕ, eqb, ltb, if◌then◌else◌, Option, Some, None, Result, Ok, Err}
use Rattle.signals.specs.Units.{intact_of}
use Rattle.signals.specs.Meaning.{alpha, rq, error_mark}
use Rattle.signals.specs.Numbers.{Answer, answered, refused}
use Rattle.mode_b.specs.declared.Hearing.{Hearing}
use Rattle.mode_b.specs.declared.Hearing.TheVariants.{Searching, InPhase, Waiting}
use Rattle.mode_b.specs.declared.Receiver.{Receiver}
use Rattle.mode_b.specs.declared.Heard.{Heard}
use Rattle.mode_b.specs.Receiver.{receiving}
use Rattle.reasons.specs.declared.Star.{Star}
use Rattle.reasons.specs.declared.StarError.{StarError}

-- "At an RX slot the position is settled" (01): the DX word that was kept of the position which this word is the RX of, and whether printing
-- has begun. In a DX slot, while it searches, and at the last two words behind two α no position is settled  R-115, R-122, R-123
pub data Settling : Type 0 where
  settles : (dx : ℕ) (printing : Bool) → Settling
  settles_none : Settling

abbrev pub settling_at : Hearing → Settling
settling_at (Searching k last) = settles_none
settling_at (InPhase p) = if p.dx then settles_none else settles p.first p.printing
settling_at (Waiting v) = if eqb v.left 3 then settles v.word v.printing else settles_none

-- "both copies bad", "both good and unlike"; RQ then α, good and unlike, is phasing and no error (R-117)  R-289, R-290
unfoldable pub star_of : ℕ → ℕ → Option Star
star_of dx rx =
    if not (intact_of dx) && not (intact_of rx) then Some (Star.BothBad dx rx)
    else if eqb dx rq && eqb rx alpha then None
    else if intact_of dx && (intact_of rx && not (eqb dx rx)) then Some (Star.Unlike dx rx)
    else None

-- an error settled before printing has begun prints nothing, and is no reason  R-292
abbrev pub star_at : Settling → ℕ → Option Star
star_at (settles dx true) w = star_of dx w
star_at (settles dx false) w = None
star_at settles_none w = None

-- "Refusals: 4 .. as for" `receive`  R-291
abbrev pub starring_by : Hearing → ℕ → Answer (Option Star)
starring_by (Searching k last) w = if ltb 3 k then refused 4 0 else answered (star_at (settling_at (Searching k last)) w)
starring_by (InPhase p) w = answered (star_at (settling_at (InPhase p)) w)
starring_by (Waiting v) w = if ltb 3 v.left then refused 4 0 else answered (star_at (settling_at (Waiting v)) w)

unfoldable pub starring : Receiver → ℕ → Answer (Option Star)
starring r w = starring_by r.hearing w

abbrev pub said_starred : Result (Option Star) StarError → Answer (Option Star)
said_starred (Ok s) = answered s
said_starred (Err StarError.BadReceiver) = refused 4 0

-- The promise of `star`.
abbrev pub Stars : Receiver → ℕ → Result (Option Star) StarError → Type 0
Stars r w a = said_starred a ≡ starring r w

-- "Exactly for the steps that print 255, and for no others": where the step prints the error mark, the two copies of the position that it
-- settles are both mutilated, or both intact and unlike, and the reason has their two words; where it does not, there is no reason. That it
-- holds is `stars_exactly`, and that the question is refused where the step is `starred_alike` (starring/proofs/StarLaws.antt)  R-291, R-292
pub data Faulty (dx rx : ℕ) : Option Star → Type 0 where
  both_bad : intact_of dx ≡ false → intact_of rx ≡ false → Faulty dx rx (Some (Star.BothBad dx rx))
  unlike : intact_of dx ≡ true → intact_of rx ≡ true → ¬ (dx ≡ rx) → Faulty dx rx (Some (Star.Unlike dx rx))

pub record StarExactly (r : Receiver) (w : ℕ) (h : Heard) (s : Option Star) : Type 0 where
  pub marked : h.printed ≡ Some error_mark → (dx : ℕ) × (settling_at r.hearing ≡ settles dx true) × Faulty dx w s
  pub not_marked : ¬ (h.printed ≡ Some error_mark) → s ≡ None

abbrev pub StarsExactly : Type 0
StarsExactly =
    (r : Receiver) (w : ℕ) (h : Heard) (s : Option Star) → receiving r w ≡ answered h → starring r w ≡ answered s → StarExactly r w h s

pub record StarRefusedAlike (r : Receiver) (w : ℕ) : Type 0 where
  pub as_the_step : (n v : ℕ) → receiving r w ≡ refused n v → starring r w ≡ refused n v
  pub as_the_question : (n v : ℕ) → starring r w ≡ refused n v → receiving r w ≡ refused n v

abbrev pub StarredAlike : Type 0
StarredAlike = (r : Receiver) (w : ℕ) → StarRefusedAlike r w
