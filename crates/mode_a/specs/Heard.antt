-- 01, The station: what the rows ask of a burst: its first word, and what its three words are together. Any byte may be heard.
--
-- Whether a word is a control signal or traffic is told by the place that hears it (R-022): Sending, Opening, Ending and Calling read
-- the first word only and ask what it is as a control signal, whatever follows it; Turning asks for CS3 or RQ first, or three
-- RQ; Receiving for a block or ααα; Asking for βαβ. Stand-by asks whether the burst is one of the station's own call blocks (02, T-02).
-- Calling with three blocks and Identifying read the first word only too, as a control signal or a check-sum, and Answering asks for an
-- identification block, ααα or three RQ (T-05).
-- Assumes nothing.
use Rattle.std.specs.Prelude.{Bool, ◌&&◌, ◌||◌, ℕ, eqb, if◌then◌else◌}
use Rattle.signals.specs.Meaning.{traffic_of, beta, rq, cs1, cs2, cs3, cs4, cs5}
use Rattle.identity.specs.declared.Seven.{Seven}
use Rattle.identity.specs.Table3.{is_identity}
use Rattle.identity.specs.Sums.{is_callable7}
use Rattle.mode_a.specs.declared.Number.{Number}
use Rattle.mode_a.specs.declared.Number.TheVariants.{One, Two}
use Rattle.mode_a.specs.declared.Words.{Words}
use Rattle.mode_a.specs.declared.Mark.{Mark}
use Rattle.mode_a.specs.declared.Part.{Part}
use Rattle.mode_a.specs.declared.Identity.{Identity}
use Rattle.mode_a.specs.declared.Own.{Own}
use Rattle.mode_a.specs.Calls.{is_callable, call_block1, call_block2, call3_block1, call3_block2, call3_block3}
use Rattle.mode_a.specs.Identification.{Told, told_in}
use Rattle.mode_a.specs.Station.{βαβ, ααα, RQ×3}

-- the first word: the control signal of a number, CS3, RQ, or any other byte; of these, CS4, CS5, or a letter of table 3b, as which
-- Calling with three blocks and Identifying read it (02, T-05)
pub data Further : Type 0 where
  Cs4 : Further
  Cs5 : Further
  Letter : ℕ → Further
  Other : Further

pub data First : Type 0 where
  Cs : Number → First
  Cs3 : First
  Rq : First
  Else : Further → First

-- table 3b has the letters of table 3a
unfoldable pub further_of : ℕ → Further
further_of w = if eqb w cs4 then Cs4 else if eqb w cs5 then Cs5 else if is_identity w then Letter w else Other

unfoldable pub first_of : ℕ → First
first_of w =
    if eqb w cs1 then Cs One else if eqb w cs2 then Cs Two else if eqb w cs3 then Cs3 else if eqb w rq then Rq
    else Else (further_of w)

-- "traffic or β": what may stand in a block
unfoldable pub may_hold : ℕ → Bool
may_hold w = traffic_of w || eqb w beta

-- "Three intact words, each traffic or β"  R-073. A traffic signal and β are intact words.
unfoldable pub is_block : Words → Bool
is_block b = may_hold b.0 && (may_hold b.1 && may_hold b.2)

unfoldable pub is_words : Words → Words → Bool
is_words b w = eqb b.0 w.0 && (eqb b.1 w.1 && eqb b.2 w.2)

-- which of the own call blocks a burst is; a station with a signal outside table 3a in its identity, or with none, hears no call  R-179, R-180
unfoldable pub call_of : Identity → Words → Mark
call_of i b =
    if is_callable i then (if is_words b (call_block1 i) then Mark.One else if is_words b (call_block2 i) then Mark.Two else Mark.None)
    else Mark.None

-- the same of the three blocks of a call to the own seven signals  R-200
unfoldable pub call3_of : Seven → Words → Part
call3_of i b =
    if is_callable7 i then (if is_words b (call3_block1 i) then Part.One else if is_words b (call3_block2 i) then Part.Two else if is_words b (call3_block3 i) then Part.Three else Part.None)
    else Part.None

pub record Heard : Type 0 where
  pub first : First
  pub block : Bool
  pub RQs : Bool
  pub alphas : Bool
  pub turned : Bool
  pub call : Mark
  pub call3 : Part
  pub told : Told

unfoldable pub heard_of : Own → Words → Heard
heard_of own b =
    record {
      first = first_of b.0;
      block = is_block b;
      RQs = is_words b RQ×3;
      alphas = is_words b ααα;
      turned = is_words b βαβ;
      call = call_of own.four b;
      call3 = call3_of own.seven b;
      told = told_in b;
    }
