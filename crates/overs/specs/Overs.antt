-- 01, The station: the over, told from the signals that a station has accepted.  R-086, R-087, R-088, R-089, R-090, R-091
--
-- "The over is heard when ? follows + in figures case with only β between, within a block or across blocks; any other signal
-- between cancels it, and so does the step from Asking to Opening or from Turning to Receiving. Only accepted blocks count here.
-- The case of a direction starts at letters and lasts through turns."
--
-- Here a list is split, and nothing is remembered from one signal to the next. What is easily got wrong:
--     + β β ?       is an over, also where each stands in a block of its own
--     + figures ?   is none, though figures case is in force throughout: a shift is another signal
--     + + ?         is one: the second + is the +
--     ? ..          may have signals behind it in its block; the over is heard in the block that has the ?
-- A turn cancels the + and leaves the case. Blocks that the station sends, and bursts that it does not accept, are in no list.
--
-- A station at Stand-by "hears and places calls" (02, T-02 and T-05), and a call begins another circuit, whose direction "starts at letters" too,
-- with no + heard. So at the step that places or answers a call every list begins anew, and figures case of the circuit before it makes
-- no over in the next. What is easily got wrong: it is that step, and neither the one before that goes to Stand-by (the case stays) nor
-- the one after that completes the call.
-- Assumes nothing.
use Rattle.std.specs.Prelude.{◌≡◌, Bool, ◌&&◌, ◌||◌, List, [], ◌∷◌, ◌++◌, ℕ, ◌<◌, eqb, length, replicate, if◌then◌else◌}
use Rattle.signals.specs.declared.Case.{Case}
use Rattle.signals.specs.declared.Case.TheVariants.{Letters, Figures}
use Rattle.signals.specs.Meaning.{letters, figures, beta}
use Rattle.mode_a.specs.declared.Role.{Role}
use Rattle.mode_a.specs.declared.Role.TheVariants.{Master, Slave}
use Rattle.mode_a.specs.declared.Place.{Place}
use Rattle.mode_a.specs.declared.Station.{Station}
use Rattle.mode_a.specs.Station.{list_of, fresh_master, fresh_slave}
use Rattle.mode_a.specs.Heard.{heard_of}
use Rattle.mode_a.specs.Over.{query, cross, who}
use Rattle.runs.specs.Places.{is_turning, is_opening, is_receiving, is_asking, is_stand_by, is_calling, is_calling3, is_answering}
use Rattle.runs.specs.Runs.{Event, Run, start, ◌▷◌, said, next, after, is_answered, accepting}

-- "A fresh master is Opening. A fresh slave is Receiving, awaits 1"  R-092, R-093, R-095
abbrev pub fresh : Role → Station
fresh Master = fresh_master
fresh Slave = fresh_slave

-- "Only accepted blocks count here": the step is answered, and it accepts  R-090
abbrev pub is_accepted : Station → Event → Bool
is_accepted s e = is_answered (said s e) && accepting s.place (heard_of s.own e.burst)

abbrev pub accepted_in : Station → Event → List ℕ
accepted_in s e = if is_accepted s e then list_of e.burst else []

-- "the step from Asking to Opening or from Turning to Receiving": by the place before and the place after  R-089
abbrev pub cancelling : Place → Place → Bool
cancelling p q = is_asking p && is_opening q || is_turning p && is_receiving q

abbrev pub cancels : Station → Event → Bool
cancels s e = cancelling s.place (next s e).place

-- a call is placed or answered: the step from Stand-by to Calling, with two blocks or three, to Receiving or to Answering, told likewise
-- 02, T-02 and T-05
abbrev pub is_begun : Place → Bool
is_begun q = is_calling q || is_calling3 q || is_receiving q || is_answering q

abbrev pub begins_at : Place → Place → Bool
begins_at p q = is_stand_by p && is_begun q

abbrev pub begins : Station → Event → Bool
begins s e = begins_at s.place (next s e).place

-- the words of all blocks that a station accepts in a run since the circuit began, in order: since the last call that it placed or
-- answered, and all where there is none; of these, those before the last step that cancels (none where no step does), and those since
unfoldable pub accepted : Station → Run → List ℕ
accepted s start = []
accepted s (run ▷ e) = if begins (after s run) e then [] else accepted s run ++ accepted_in (after s run) e

unfoldable pub earlier : Station → Run → List ℕ
earlier s start = []
earlier s (run ▷ e) =
    if begins (after s run) e then [] else if cancels (after s run) e then accepted s run else earlier s run

unfoldable pub since : Station → Run → List ℕ
since s start = []
since s (run ▷ e) =
    if begins (after s run) e then [] else if cancels (after s run) e then [] else since s run ++ accepted_in (after s run) e

-- the case before these words: "starts at letters", at a call too; a station that a run takes up in another case has that until a call
unfoldable pub case_from : Station → Run → Case
case_from s start = s.case
case_from s (run ▷ e) = if begins (after s run) e then Letters else case_from s run

-- the case in force after a list of words: a shift sets it, and no other word moves it  R-091
abbrev pub case_at : Case → ℕ → Case
case_at c w = if eqb w letters then Letters else if eqb w figures then Figures else c

unfoldable pub case_after : Case → List ℕ → Case
case_after c [] = c
case_after c (w ∷ ws) = case_after (case_at c w) ws

-- The over is heard in `block`: `list` is what was accepted since the last cancelling step, `earlier` what was accepted before
-- it in this circuit, and c the case at the circuit's start. The list with the block behind it is a beginning, a +, β any number
-- of times, a ? that stands in the block, and a rest; and figures case is in force where the + and where the ? stand.  R-086, R-087,
-- R-088
pub record HeardOver (c : Case) (earlier list block : List ℕ) : Type 0 where
  pub beginning : List ℕ
  pub betas : ℕ
  pub rest : List ℕ
  pub split : list ++ block ≡ beginning ++ cross ∷ replicate betas beta ++ query ∷ rest
  pub in_block : length rest < length block
  pub figures_at_cross : case_after c (earlier ++ beginning) ≡ Figures
  pub figures_at_query : case_after c (earlier ++ beginning ++ cross ∷ replicate betas beta) ≡ Figures

-- the same, for the block of an event after a run of a fresh station: letters at the start, and at each call
abbrev pub OverIn : Role → Run → Event → Type 0
OverIn role run e = HeardOver Letters (earlier (fresh role) run) (since (fresh role) run) (list_of e.burst)

-- 02, T-06: D in figures stands in `block`: the block is a beginning, a D and a rest, and figures case is in force where the D stands;
-- `earlier` is what was accepted before it in this circuit, and c the case at the circuit's start  R-231, R-234
pub record HeardWho (c : Case) (earlier block : List ℕ) : Type 0 where
  pub beginning : List ℕ
  pub rest : List ℕ
  pub split : block ≡ beginning ++ who ∷ rest
  pub figures_at_who : case_after c (earlier ++ beginning) ≡ Figures

-- the same, for the block of an event after a run of a fresh station
abbrev pub WhoIn : Role → Run → Event → Type 0
WhoIn role run e = HeardWho Letters (accepted (fresh role) run) (list_of e.burst)
