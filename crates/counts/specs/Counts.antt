-- 01, The station: "The 32nd makes it Lost and silent, with no offer taken. Then, and after every other step, the count is 0. Ending
-- has its four instead." "Stand-by and Lost: silent for good, no offer taken." And 02, T-02: "01's Stand-by row is amended: it hears and
-- places calls"; T-05: "32 successive repetitions lead to stand-by", in identification.
-- R-096, R-097, R-098, R-099, R-100, R-222, with R-072, R-084 and R-085, as one statement about every run from a fresh station.
--
-- What is easily got wrong: a station at Stand-by leaves it for a call alone, its own call blocks heard or a call offered; at all else it
-- is silent. One without an identity, as the fresh ones of 01 are, has no call blocks of its own, and no burst is one of them
-- (`uncallable_hears_none`, `fresh_hears_none`). A station at Stand-by has no step left to wait behind the end, unless the identity
-- that it called is barred, and then 128 (`wait_at`). In identification none is: there is nobody at the other end yet (`remembers`).
-- Assumes nothing.
use Rattle.std.specs.Prelude.{◌≡◌, true, false, ◌&&◌, ◌≤◌, eqb}
use Rattle.signals.specs.Numbers.{answered}
use Rattle.mode_a.specs.declared.Ended.{Ended}
use Rattle.mode_a.specs.declared.Mark.{Mark}
use Rattle.mode_a.specs.declared.Part.{Part}
use Rattle.mode_a.specs.declared.Place.TheVariants.{Ending}
use Rattle.mode_a.specs.declared.Station.{Station}
use Rattle.mode_a.specs.declared.Reply.{Reply}
use Rattle.mode_a.specs.Station.{silence, resting}
use Rattle.mode_a.specs.Heard.{call_of, call3_of}
use Rattle.mode_a.specs.Step.{wait_at, stepping}
use Rattle.runs.specs.Places.{is_stand_by, is_lost, losing, telling, counting}
use Rattle.runs.specs.Runs.{Event, Run, ◌▷◌, after, is_call}
use Rattle.counts.specs.Runs.{repetition, in_a_row, alphas_in_a_row}

pub record Counted (fresh : Station) (run : Run) : Type 0 where
  -- its count is the number of repetitions in a row that the run ends in, 31 at most
  pub counts : (after fresh run).count ≡ in_a_row fresh run
  pub at_most : in_a_row fresh run ≤ 31
  -- Lost, it is 0
  pub lost_counts : is_lost (after fresh run).place ≡ true → (after fresh run).count ≡ 0
  -- and so where no repetition counts: at Ending, Stand-by, Calling, and Calling with three blocks
  pub elsewhere_counts : counting (after fresh run).place ≡ false → (after fresh run).count ≡ 0
  -- a step makes a station Lost exactly where it is the 32nd repetition in a row, at one of the five places
  pub lost_by_the_32nd : (e : Event) (r : Reply) → stepping (after fresh run) e.burst e.offer ≡ answered r → is_lost (after fresh run).place ≡ false → is_lost r.station.place ≡ losing (after fresh run).place && (repetition (after fresh run) e && eqb (in_a_row fresh run) 31)
  -- it is then silent, and takes no offer
  pub lost_is_silent : (e : Event) (r : Reply) → stepping (after fresh run) e.burst e.offer ≡ answered r → is_lost r.station.place ≡ true → (r.sent ≡ silence) × (r.printed ≡ silence) × (r.taken ≡ false)
  -- and once Lost it stays so
  pub lost_for_good : (e : Event) → is_lost (after fresh run).place ≡ true → is_lost (after fresh (run ▷ e)).place ≡ true
  -- at Identifying and Answering a repetition leads to Stand-by exactly where it is the 32nd in a row
  pub standby_by_the_32nd : (e : Event) (r : Reply) → stepping (after fresh run) e.burst e.offer ≡ answered r → telling (after fresh run).place ≡ true → repetition (after fresh run) e ≡ true → is_stand_by r.station.place ≡ eqb (in_a_row fresh run) 31
  -- silent, and with no offer taken; what is left to wait is told as after the four
  pub standby_then : (e : Event) (r : Reply) → stepping (after fresh run) e.burst e.offer ≡ answered r → telling (after fresh run).place ≡ true → repetition (after fresh run) e ≡ true → in_a_row fresh run ≡ 31 → (r.station.place ≡ resting (wait_at (after fresh run).other 0)) × (r.sent ≡ silence) × (r.printed ≡ silence) × (r.taken ≡ false)
  -- "Ending has its four instead"  R-071, R-072, R-100: at Ending ααα has been sent as often in a row as its total says
  pub totals : (x : Ended) → (after fresh run).place ≡ Ending x → x.total ≡ alphas_in_a_row fresh run
  -- never more than four times
  pub four_at_most : alphas_in_a_row fresh run ≤ 4
  -- "if it has been sent four times, Stand-by, silent", whatever is heard; no step is then left to wait (02, T-02), but 128 where the end
  -- answered CS5 and the identity called is barred (T-05)
  pub standby_after_four : (e : Event) (r : Reply) → stepping (after fresh run) e.burst e.offer ≡ answered r → alphas_in_a_row fresh run ≡ 4 → (r.station.place ≡ resting (wait_at (after fresh run).other 0)) × (r.sent ≡ silence)
  -- at Stand-by nothing is printed, whatever is heard and offered  R-084
  pub standby_prints_nothing : (e : Event) (r : Reply) → stepping (after fresh run) e.burst e.offer ≡ answered r → is_stand_by (after fresh run).place ≡ true → r.printed ≡ silence
  -- "no offer taken", but for a call: it "places calls"
  pub standby_takes_calls_alone : (e : Event) (r : Reply) → stepping (after fresh run) e.burst e.offer ≡ answered r → is_stand_by (after fresh run).place ≡ true → is_call e.offer ≡ false → r.taken ≡ false
  -- "silent for good", but for calls: where it hears none of its own call blocks, of four signals or of seven, and is
  -- offered no call, it is silent
  pub standby_is_silent : (e : Event) (r : Reply) → stepping (after fresh run) e.burst e.offer ≡ answered r → is_stand_by (after fresh run).place ≡ true → call_of fresh.own.four e.burst ≡ Mark.None → call3_of fresh.own.seven e.burst ≡ Part.None → is_call e.offer ≡ false → r.sent ≡ silence
  -- and stays there
  pub standby_for_good : (e : Event) → is_stand_by (after fresh run).place ≡ true → call_of fresh.own.four e.burst ≡ Mark.None → call3_of fresh.own.seven e.burst ≡ Part.None → is_call e.offer ≡ false → is_stand_by (after fresh (run ▷ e)).place ≡ true
