-- 02, T-05: what is told from a run about identification. Of the station it asks the place alone, and of that the identity called and the
-- stage: how often a check-sum was wrong, how many repetitions there were and what was heard last are told from the steps.
--
-- A refused event is no step: it is passed over everywhere.
-- Assumes nothing.
use Rattle.std.specs.Prelude.{Bool, false, not, ◌&&◌, ℕ, suc, ◌%◌, eqb, if◌then◌else◌}
use Rattle.std.proofs.Math.Option.{Option, none, some}
use Rattle.signals.specs.Numbers.{Answer, answered, refused}
use Rattle.identity.specs.declared.Seven.{Seven}
use Rattle.mode_a.specs.declared.Words.{Words}
use Rattle.mode_a.specs.declared.Offer.{Offer}
use Rattle.mode_a.specs.declared.Place.{Place}
use Rattle.mode_a.specs.declared.Place.TheVariants.{Sending, Turning, Opening, Ending, Receiving, Asking, StandBy, Lost, Calling, Calling3, Identifying, Answering}
use Rattle.mode_a.specs.declared.Station.{Station}
use Rattle.mode_a.specs.declared.Reply.{Reply}
use Rattle.mode_a.specs.Calls.{call3_block1, call3_block2, call3_block3}
use Rattle.mode_a.specs.Heard.{First, first_of}
use Rattle.runs.specs.Places.{is_calling3, changed, advanced, telling}
use Rattle.runs.specs.Runs.{Event, Run, start, ◌▷◌, said, next, after, wrong_at}

-- Identifying that hears another letter of table 3b than the check-sum expected at its stage  R-211, R-212
abbrev pub hears_wrong : Place → First → Bool
hears_wrong (Sending h) f = false
hears_wrong (Turning n) f = false
hears_wrong Opening f = false
hears_wrong (Ending e) f = false
hears_wrong (Receiving n) f = false
hears_wrong Asking f = false
hears_wrong (StandBy w) f = false
hears_wrong Lost f = false
hears_wrong (Calling c) f = false
hears_wrong (Calling3 c) f = false
hears_wrong (Identifying i) f = wrong_at i.stage i.to f
hears_wrong (Answering g) f = false

abbrev pub is_wrong : Station → Event → Bool
is_wrong s e = hears_wrong s.place (first_of e.burst.0)

-- at Identifying or Answering, a step that leaves neither the place nor the stage
abbrev pub same_stage : Place → Place → Bool
same_stage p q = telling p && (not (changed p q) && not (advanced p q))

abbrev pub repeats_in : Station → Event → Bool
repeats_in s e = same_stage s.place (next s e).place

-- one more where the step is such a one; the number so far where it only stays at the stage, and none where it does not; a refusal is no step
abbrev pub within : Answer Reply → Bool → Bool → ℕ → ℕ
within (answered r) stays counts k = if stays then (if counts then suc k else k) else 0
within (refused n v) stays counts k = k

-- how often the block of this stage went out again for a wrong check-sum, since the stage was entered
unfoldable pub wrongs_in_stage : Station → Run → ℕ
wrongs_in_stage s start = 0
wrongs_in_stage s (run ▷ e) =
    within (said (after s run) e) (repeats_in (after s run) e) (is_wrong (after s run) e) (wrongs_in_stage s run)

-- how many repetitions, for either cause, since the stage was entered; the 32nd leads away and is no longer one of them
unfoldable pub repeats_in_stage : Station → Run → ℕ
repeats_in_stage s start = 0
repeats_in_stage s (run ▷ e) =
    within (said (after s run) e) (repeats_in (after s run) e) (repeats_in (after s run) e) (repeats_in_stage s run)

-- how many steps in a row the run ends in that began at such a place
unfoldable pub steps_at : (Place → Bool) → Station → Run → ℕ
steps_at at s start = 0
steps_at at s (run ▷ e) = within (said (after s run) e) (at (after s run).place) (at (after s run).place) (steps_at at s run)

-- the last wrong check-sum since the stage was entered, where there was one
abbrev pub last_of : Answer Reply → Bool → Bool → ℕ → Option ℕ → Option ℕ
last_of (answered r) stays wrong w before = if stays then (if wrong then some w else before) else none
last_of (refused n v) stays wrong w before = before

unfoldable pub last_wrong : Station → Run → Option ℕ
last_wrong s start = none
last_wrong s (run ▷ e) =
    last_of (said (after s run) e) (repeats_in (after s run) e) (is_wrong (after s run) e) e.burst.0 (last_wrong s run)

-- how many call bursts of a three-block call in a row the run ends in. Block 3 is three plain letters, so the place that the step leads to
-- is asked, and not the burst
unfoldable pub calls3_in_a_row : Station → Run → ℕ
calls3_in_a_row s start = 0
calls3_in_a_row s (run ▷ e) =
    within (said (after s run) e) (is_calling3 (next (after s run) e).place) (is_calling3 (next (after s run) e).place) (calls3_in_a_row s run)

-- "call block 1", 2 and 3 in turn: of a row, the first is block 1, the second block 2, the third block 3, and so on  3.5.3, R-207
abbrev pub block_no3 : Seven → ℕ → Words
block_no3 i n = if eqb (n % 3) 1 then call3_block1 i else if eqb (n % 3) 2 then call3_block2 i else call3_block3 i

-- the identity of the last three-block call that was offered and taken, where there was one
abbrev pub calls_to3 : Answer Reply → Offer → Option Seven → Option Seven
calls_to3 (answered r) (Offer.Text w) before = before
calls_to3 (answered r) Offer.Over before = before
calls_to3 (answered r) Offer.End before = before
calls_to3 (answered r) Offer.Nothing before = before
calls_to3 (answered r) (Offer.Call i) before = before
calls_to3 (answered r) (Offer.Call3 i) before = if r.taken then some i else before
calls_to3 (refused n v) o before = before

unfoldable pub last_called3 : Station → Run → Option Seven
last_called3 s start = none
last_called3 s (run ▷ e) = calls_to3 (said (after s run) e) e.offer (last_called3 s run)
