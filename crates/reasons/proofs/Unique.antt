-- No second answer: the promises of `why` and `star`, as their contracts cite them, leave one.
-- Assumes nothing.
use mathlib.Core.Path.{◌≡◌, refl}
use Prim.Native.Nat.{ℕ}
use Rattle.std.specs.Prelude.{Option, Result, Ok, Err}
use Rattle.laws.proofs.Unique.{unique_by}
use Rattle.signals.specs.Numbers.{Answer, answered, refused}
use Rattle.mode_a.specs.declared.Words.{Words}
use Rattle.mode_a.specs.declared.Offer.{Offer}
use Rattle.mode_a.specs.declared.Station.{Station}
use Rattle.mode_a.specs.declared.Refusal.{Refusal}
use Rattle.mode_a.proofs.Unique.{refusal_from}
use Rattle.mode_b.specs.declared.Receiver.{Receiver}
use Rattle.reasons.specs.declared.Reason.{Reason}
use Rattle.reasons.specs.declared.Star.{Star}
use Rattle.reasons.specs.declared.StarError.{StarError}
use Rattle.reasons.specs.Reasons.{said_why, Explains}
use Rattle.reasons.specs.Stars.{said_starred, Stars}

-- the answer, read back from its number and value
abbrev why_from : Answer Reason → Result Reason Refusal
why_from (answered r) = Ok r
why_from (refused n v) = Err (refusal_from n v)

why_back : (r : Result Reason Refusal) → why_from (said_why r) ≡ r
why_back (Ok r) = refl
why_back (Err Refusal.BadStation) = refl
why_back (Err Refusal.BadCode) = refl
why_back (Err (Refusal.BadWord i)) = refl
why_back (Err (Refusal.BadCall i)) = refl

pub why_unique : (s : Station) (b : Words) (o : Offer) (r q : Result Reason Refusal) → Explains s b o r → Explains s b o q → r ≡ q
why_unique s b o r q x y = unique_by said_why why_from why_back x y

abbrev starred_from : Answer (Option Star) → Result (Option Star) StarError
starred_from (answered s) = Ok s
starred_from (refused n v) = Err StarError.BadReceiver

starred_back : (a : Result (Option Star) StarError) → starred_from (said_starred a) ≡ a
starred_back (Ok s) = refl
starred_back (Err StarError.BadReceiver) = refl

pub star_unique : (r : Receiver) (w : ℕ) (a c : Result (Option Star) StarError) → Stars r w a → Stars r w c → a ≡ c
star_unique r w a c x y = unique_by said_starred starred_from starred_back x y
