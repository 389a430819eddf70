-- 02, T-05: "A block goes out again no more than four times for wrong check-sums; 32 successive repetitions lead to stand-by. .. The other
-- station's identity .. never goes to the printer." 001: "Any identification block should not be retransmitted more than four times due to
-- reception of wrong check-sum signals" (3.6.12); "both stations revert to the 'stand-by' condition after 32 cycles of continuous
-- repetition" (3.6.18).
--
-- What is easily got wrong: four times again are five sendings; a damaged answer has the block sent again too, and is not counted as wrong;
-- the count begins anew at each of the four stages, so that each may last 32 steps, 31 repetitions and the step that goes on, and
-- identification 128.  R-212, R-213, R-222, R-228
-- Assumes nothing.
use Rattle.std.specs.Prelude.{◌≡◌, Bool, true, ◌||◌, ◌↔◌, ◌≤◌, ◌<◌, if◌then◌else◌}
use Rattle.std.proofs.Math.Option.{some}
use Rattle.signals.specs.Numbers.{answered}
use Rattle.mode_a.specs.declared.Identified.{Identified}
use Rattle.mode_a.specs.declared.Place.{Place}
use Rattle.mode_a.specs.declared.Place.TheVariants.{Identifying}
use Rattle.mode_a.specs.declared.Station.{Station}
use Rattle.mode_a.specs.declared.Reply.{Reply}
use Rattle.mode_a.specs.Identification.{identity_block}
use Rattle.mode_a.specs.Station.{silence}
use Rattle.mode_a.specs.Heard.{heard_of}
use Rattle.mode_a.specs.Step.{ends, traffic_in}
use Rattle.runs.specs.Places.{is_ending, is_stand_by, is_calling, is_calling3, is_identifying, is_answering}
use Rattle.runs.specs.Runs.{Event, Run, said, after, accepting}
use Rattle.identification.specs.Runs.{is_wrong, repeats_in, wrongs_in_stage, repeats_in_stage, steps_at, last_wrong}

-- of every run, whatever station it starts from
pub record WrongSums (from : Station) (run : Run) : Type 0 where
  -- "no more than four times for wrong check-sums"
  pub at_most_four : wrongs_in_stage from run ≤ 4
  -- each of them sends the block of the stage, of the own identity
  pub goes_out_again : (i : Identified) (e : Event) (r : Reply) → (after from run).place ≡ Identifying i → said (after from run) e ≡ answered r → is_wrong (after from run) e ≡ true → repeats_in (after from run) e ≡ true → r.sent ≡ identity_block from.own.seven i.stage
  -- and a wrong check-sum behind four of them leads away: to the end procedure or to Stand-by
  pub fifth_leads_away : (e : Event) (r : Reply) → said (after from run) e ≡ answered r → is_wrong (after from run) e ≡ true → wrongs_in_stage from run ≡ 4 → is_ending r.station.place || is_stand_by r.station.place ≡ true

-- "If they are still not identical, and the received check-sum signal is the same as the previous one, the calling station initiates the 'end
-- of communication' procedure" (3.6.12): of a wrong check-sum, after a run from a station that is not at Identifying
pub record EndsBySums (from : Station) (run : Run) (e : Event) (r : Reply) : Type 0 where
  -- exactly where it is the last wrong one of this stage; damaged answers between do not matter
  pub ends_exactly : is_ending r.station.place ≡ true ↔ last_wrong from run ≡ some e.burst.0
  -- by ααα, under number 2, so that CS1 confirms it
  pub ends_so : is_ending r.station.place ≡ true → r ≡ ends (after from run)
  -- the block goes out again exactly where fewer than four wrong ones had it sent again at this stage, it is not the last wrong one once
  -- more, and this is not the 32nd repetition in a row  3.6.12, 3.6.18, R-211, R-212, R-213, R-222
  pub again_exactly : repeats_in (after from run) e ≡ true ↔ (wrongs_in_stage from run < 4) × (last_wrong from run ≡ some e.burst.0 → ⊥) × ((after from run).count < 31)

-- of every run of a station that starts with a count of 31 at most, as every station that is not refused
pub record Lasts (from : Station) (run : Run) : Type 0 where
  -- at one stage at most 31 repetitions that stay there: the 32nd leads to Stand-by
  pub at_most_31 : repeats_in_stage from run ≤ 31
  -- at most 128 steps at Identifying and 128 at Answering, whatever is heard
  pub identifying_128 : steps_at is_identifying from run ≤ 128
  pub answering_128 : steps_at is_answering from run ≤ 128

-- where a station prints nothing, whatever it hears and is offered
abbrev pub prints_nothing : Place → Bool
prints_nothing p = is_stand_by p || is_calling p || is_calling3 p || is_identifying p || is_answering p

-- of every step: what is printed is the text of a block that is accepted, at Receiving, and nothing else  R-074
pub record PrintsAlone (s : Station) (e : Event) (r : Reply) : Type 0 where
  pub accepted_alone : r.printed ≡ (if accepting s.place (heard_of s.own e.burst) then traffic_in e.burst else silence)
  pub nothing_there : prints_nothing s.place ≡ true → r.printed ≡ silence
