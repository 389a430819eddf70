-- 01, The station: a run of one station, and what is asked of one of its steps: was it answered, did it confirm, did it accept, did
-- its row take the offer.
-- Assumes nothing.
use Rattle.std.specs.Prelude.{◌≡◌, Bool, true, false, not, ◌&&◌, ℕ, suc, eqb}
use Rattle.std.proofs.Math.Option.{Option, none, some}
use Rattle.signals.specs.Numbers.{Answer, answered, refused}
use Rattle.mode_a.specs.declared.Words.{Words}
use Rattle.mode_a.specs.declared.Held.{Held}
use Rattle.mode_a.specs.declared.Place.{Place}
use Rattle.mode_a.specs.declared.Offer.{Offer}
use Rattle.mode_a.specs.declared.Doing.{Doing}
use Rattle.mode_a.specs.declared.Doing.TheVariants.{Repeats, Goes, Takes, Receives, Opens, Accepts, Rests, Answers, Listens, Reaches, Answers3, Bars, Ends, Turns, Meets, Again, Yields}
use Rattle.mode_a.specs.declared.Station.{Station}
use Rattle.mode_a.specs.declared.Reply.{Reply}
use Rattle.mode_a.specs.declared.Number.{Number}
use Rattle.mode_a.specs.declared.Number.TheVariants.{One}
use Rattle.mode_a.specs.declared.Own.{Own}
use Rattle.mode_a.specs.declared.Stage.{Stage}
use Rattle.identity.specs.declared.Seven.{Seven}
use Rattle.identity.specs.Sums.{is_callable7, check_sum1, check_sum2, check_sum3}
use Rattle.mode_a.specs.declared.Place.TheVariants.{Sending, Turning, Opening, Ending, Receiving, Asking, StandBy, Lost, Calling, Calling3, Identifying, Answering}
use Rattle.mode_a.specs.Calls.{is_callable}
use Rattle.mode_a.specs.Station.{same, marks}
use Rattle.mode_a.specs.Heard.{First, Cs, Cs3, Rq, Else, Cs4, Cs5, Letter, Other, Heard, is_block}
use Rattle.mode_a.specs.Rows.{is_last}
use Rattle.mode_a.specs.Step.{stepping, station_after}
use Rattle.runs.specs.Places.{is_receiving, is_stand_by, at_sending}

-- what a station hears and is offered
pub record Event : Type 0 where
  pub burst : Words
  pub offer : Offer

-- a run: no event yet, or a run and the event after it; of events of any kind, and of those of one station
infixl 60 ◌▷◌
pub data RunOf (E : Type 0) : Type 0 where
  start : RunOf E
  ◌▷◌ : RunOf E → E → RunOf E

abbrev pub Run : Type 0
Run = RunOf Event

-- the answer to an event, the station after it, and the station after a run. A refused event is no step: it leaves the station as it
-- was.
abbrev pub said : Station → Event → Answer Reply
said s e = stepping s e.burst e.offer

abbrev pub next : Station → Event → Station
next s e = station_after s (said s e)

abbrev pub after : Station → Run → Station
after s start = s
after s (run ▷ e) = next (after s run) e

-- the event is a step
abbrev pub is_answered : Answer Reply → Bool
is_answered (answered r) = true
is_answered (refused n v) = false

-- how many steps a run has: a refused event is none, and is passed over
abbrev pub one_step : Answer Reply → ℕ → ℕ
one_step (answered r) k = suc k
one_step (refused n v) k = k

unfoldable pub steps_in : Station → Run → ℕ
steps_in s start = 0
steps_in s (run ▷ e) = one_step (said (after s run) e) (steps_in s run)

-- after each event of the run the station is at Stand-by
unfoldable pub StaysAtStandBy : Station → Run → Type 0
StaysAtStandBy s start = Unit {0}
StaysAtStandBy s (run ▷ e) = StaysAtStandBy s run × (is_stand_by (after s (run ▷ e)).place ≡ true)

-- the last step of a run and the last but one, where it has them: the place that the step began at, and the burst that it heard
pub record Step : Type 0 where
  pub place : Place
  pub burst : Words

abbrev pub step_or : Answer Reply → Option Step → Option Step → Option Step
step_or (answered r) now before = now
step_or (refused n v) now before = before

unfoldable pub last_step : Station → Run → Option Step
last_step s start = none
last_step s (run ▷ e) =
    step_or (said (after s run) e) (some (record { place = (after s run).place; burst = e.burst })) (last_step s run)

unfoldable pub last_but_one : Station → Run → Option Step
last_but_one s start = none
last_but_one s (run ▷ e) = step_or (said (after s run) e) (last_step s run) (last_but_one s run)

-- there is such a step; it began at such a place, and heard such a burst
abbrev pub WasHeard : (Place → Bool) → (Words → Type 0) → Option Step → Type 0
WasHeard at is none = ⊥
WasHeard at is (some x) = (at x.place ≡ true) × is x.burst

-- whether the answer takes the offer
abbrev pub is_taken : Answer Reply → Bool
is_taken (answered r) = r.taken
is_taken (refused n v) = false

-- an offer that is not refused: each word of a text is traffic or β, each of a call one of table 3a; for a call of three blocks each of the
-- own identity too
abbrev pub InOrder : Own → Offer → Type 0
InOrder own (Offer.Text w) = is_block w ≡ true
InOrder own Offer.Over = Unit {0}
InOrder own Offer.End = Unit {0}
InOrder own Offer.Nothing = Unit {0}
InOrder own (Offer.Call i) = is_callable i ≡ true
InOrder own (Offer.Call3 i) = (is_callable7 i ≡ true) × (is_callable7 own.seven ≡ true)

-- the offer is a call
abbrev pub is_call : Offer → Bool
is_call (Offer.Text w) = false
is_call Offer.Over = false
is_call Offer.End = false
is_call Offer.Nothing = false
is_call (Offer.Call i) = true
is_call (Offer.Call3 i) = true

-- "confirms": Sending that hears the control signal of the other number, or CS3  R-051, R-058
abbrev pub confirming : Held → First → Bool
confirming h (Cs n) = not (same n h.number)
confirming h Cs3 = true
confirming h Rq = false
confirming h (Else x) = false

abbrev pub confirms : Place → Heard → Bool
confirms p h = at_sending (λ b. confirming b h.first) false p

-- "accepts": Receiving that hears a block  R-073
abbrev pub accepting : Place → Heard → Bool
accepting p h = is_receiving p && h.block

-- a row that takes the offer
abbrev pub is_taking : Doing → Bool
is_taking (Repeats w) = false
is_taking (Goes p w) = false
is_taking (Takes n) = true
is_taking (Receives n) = false
is_taking Opens = false
is_taking (Accepts n) = false
is_taking (Rests n w) = false
is_taking Answers = false
is_taking (Listens w) = false
is_taking (Reaches p n) = true
is_taking Answers3 = false
is_taking (Bars i) = false
is_taking (Ends i) = false
is_taking (Turns i) = false
is_taking (Meets i) = false
is_taking (Again p w) = false
is_taking (Yields n) = false

-- "take the offer": Sending that hears the control signal of the other number, Opening that hears either, Calling that hears the same
-- twice, Identifying that hears CS1 at its fourth stage  R-051, R-066, R-186, R-214
abbrev pub of_cs : (Number → Bool) → First → Bool
of_cs t (Cs n) = t n
of_cs t Cs3 = false
of_cs t Rq = false
of_cs t (Else x) = false

abbrev pub taking : Place → First → Bool
taking (Sending h) f = of_cs (λ n. not (same n h.number)) f
taking (Turning n) f = false
taking Opening f = of_cs (λ n. true) f
taking (Ending e) f = false
taking (Receiving n) f = false
taking Asking f = false
taking (StandBy w) f = false
taking Lost f = false
taking (Calling c) f = of_cs (marks c.last) f
taking (Calling3 c) f = false
taking (Identifying i) f = of_cs (λ n. same n One && is_last i.stage) f
taking (Answering g) f = false

-- the stage that follows; behind the fourth is traffic
abbrev pub next_stage : Stage → Stage
next_stage Stage.One = Stage.Two
next_stage Stage.Two = Stage.Three
next_stage Stage.Three = Stage.Four
next_stage Stage.Four = Stage.Four

-- Identifying that hears another letter of table 3b than the check-sum that the stage's block is answered by; the fourth is not answered by
-- one  R-211, R-212
abbrev pub another_letter : ℕ → First → Bool
another_letter sum (Cs n) = false
another_letter sum Cs3 = false
another_letter sum Rq = false
another_letter sum (Else Cs4) = false
another_letter sum (Else Cs5) = false
another_letter sum (Else (Letter w)) = not (eqb w sum)
another_letter sum (Else Other) = false

abbrev pub wrong_at : Stage → Seven → First → Bool
wrong_at Stage.One to f = another_letter (check_sum1 to) f
wrong_at Stage.Two to f = another_letter (check_sum2 to) f
wrong_at Stage.Three to f = another_letter (check_sum3 to) f
wrong_at Stage.Four to f = false
