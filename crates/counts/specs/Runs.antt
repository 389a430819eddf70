-- 01, The station: "Repetition count: steps in a row, at Sending, Turning, Opening, Receiving or Asking, in which the station
-- neither changes place, nor confirms, nor accepts."  R-096. And 02, T-05: "32 successive repetitions lead to stand-by", at Identifying and
-- Answering  R-222: there a step that goes on to the next stage is none.
--
-- Whether a step is such a repetition is told from what was heard and from the place before it and the place that it leads to, and
-- does not depend on the count that the station keeps. How often ααα was sent is told from the bursts of the run.
-- Assumes nothing.
use Rattle.std.specs.Prelude.{Bool, false, not, ◌&&◌, ℕ, suc, if◌then◌else◌}
use Rattle.signals.specs.Numbers.{Answer, answered, refused}
use Rattle.mode_a.specs.declared.Place.{Place}
use Rattle.mode_a.specs.declared.Station.{Station}
use Rattle.mode_a.specs.declared.Reply.{Reply}
use Rattle.mode_a.specs.Station.{ααα}
use Rattle.mode_a.specs.Heard.{Heard, heard_of, is_words}
use Rattle.mode_a.specs.Step.{stands_at}
use Rattle.runs.specs.Places.{changed, advanced, counting}
use Rattle.runs.specs.Runs.{Event, Run, start, ◌▷◌, said, next, after, confirms, accepting}

-- where repetitions count, neither changing the place for p', nor confirming, nor accepting, nor going on to another stage
unfoldable pub stays : Place → Heard → Place → Bool
stays p h p' =
    counting p && (not (confirms p h) && (not (accepting p h) && (not (changed p p') && not (advanced p p'))))

-- The time-out itself is no change of place: what counts is where the same burst and offer lead from a count of 0.
abbrev pub uncounted : Station → Station
uncounted s = stands_at s s.place 0 s.case s.plus

abbrev pub leads_to : Station → Event → Place
leads_to s e = (next (uncounted s) e).place

abbrev pub repetition : Station → Event → Bool
repetition s e = stays s.place (heard_of s.own e.burst) (leads_to s e)

-- in a row: one more, or none; a refusal is no step and is passed over
abbrev pub goes_on : Answer Reply → Bool → ℕ → ℕ
goes_on (answered r) again k = if again then suc k else 0
goes_on (refused n v) again k = k

-- how many repetitions in a row the run ends in. The time-out ends the row: "Then, and after every other step, the count is 0."  R-099
abbrev pub timed_out : Station → Event → Bool
timed_out s e = changed s.place (next s e).place

unfoldable pub in_a_row : Station → Run → ℕ
in_a_row s start = 0
in_a_row s (run ▷ e) =
    goes_on (said (after s run) e) (repetition (after s run) e && not (timed_out (after s run) e)) (in_a_row s run)

-- how many bursts ααα in a row the run ends in, by what was sent and not by the total that the station keeps  R-071, R-072, R-100
abbrev pub sentααα : Answer Reply → Bool
sentααα (answered r) = is_words r.sent ααα
sentααα (refused n v) = false

unfoldable pub alphas_in_a_row : Station → Run → ℕ
alphas_in_a_row s start = 0
alphas_in_a_row s (run ▷ e) = goes_on (said (after s run) e) (sentααα (said (after s run) e)) (alphas_in_a_row s run)
