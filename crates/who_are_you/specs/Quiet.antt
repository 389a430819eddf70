-- 02, T-06: "9, a code .. holding D in figures or an over from either case": what that test is for. The blocks of a code that passes, and the two
-- βββ behind them, hold no D in figures and complete no over, from whichever case the far end hears them, with no + kept (the turn cancels
-- it): so two sets do not ask each other for ever.  R-246
--
-- What is easily got wrong: the code is judged as one list of signals, and heard block by block, with β in the last one; each block is
-- judged alone for D and the over, while case and + go on from block to block.
-- Assumes nothing.
use Rattle.std.specs.Prelude.{◌≡◌, Bool, true, false, List, [], ◌∷◌, ◌++◌, if◌then◌else◌}
use Rattle.signals.specs.declared.Case.{Case}
use Rattle.signals.specs.Numbers.{Answer, answered, refused}
use Rattle.mode_a.specs.declared.Words.{Words}
use Rattle.mode_a.specs.declared.Code.{Code}
use Rattle.mode_a.specs.declared.Owed.{Owed}
use Rattle.mode_a.specs.declared.Station.{Station}
use Rattle.mode_a.specs.declared.Reply.{Reply}
use Rattle.mode_a.specs.Heard.{heard_of}
use Rattle.mode_a.specs.Over.{listened_all}
use Rattle.mode_a.specs.Answerback.{passes, answer_keeping, answer_of}
use Rattle.runs.specs.Places.{is_receiving}
use Rattle.runs.specs.Runs.{Event, Run, start, ◌▷◌, said, after, accepting}

-- each of the blocks, heard in order from this case and this +, asks nothing and completes no over
unfoldable pub Quiet : Case → Bool → List Words → Type 0
Quiet c p [] = Unit {0}
Quiet c p (b ∷ bs) =
    ((listened_all c p b).over ≡ false) × ((listened_all c p b).asked ≡ false) × Quiet (listened_all c p b).case (listened_all c p b).plus bs

abbrev pub AsksNothing : Type 0
AsksNothing = (k : Code) → passes k ≡ true → (c : Case) → Quiet c false (answer_keeping k)

-- the blocks that a run accepts, in order
abbrev pub accepted_of : Station → Event → Answer Reply → List Words
accepted_of s e (answered r) = if accepting s.place (heard_of s.own e.burst) then e.burst ∷ [] else []
accepted_of s e (refused n v) = []

unfoldable pub accepted_blocks : Station → Run → List Words
accepted_blocks s start = []
accepted_blocks s (run ▷ e) = accepted_blocks s run ++ accepted_of (after s run) e (said (after s run) e)

-- the station is at Receiving before each event of the run
unfoldable pub StaysReceiving : Station → Run → Type 0
StaysReceiving s start = Unit {0}
StaysReceiving s (run ▷ e) = StaysReceiving s run × (is_receiving (after s run).place ≡ true)

-- So a station that owes nothing, is at Receiving before each event of a run, and accepts a beginning of an answer of such a code in it, owes
-- nothing at its end, whatever is offered to it: no answer is answered. The answer may be either, with the over behind it or without; and a +
-- may be kept, for then an over may be heard in the answer, but nothing is asked.
abbrev pub NoAnswerToAnswers : Type 0
NoAnswerToAnswers =
    (k : Code) → passes k ≡ true → (o : Owed) → (s : Station) → s.owed ≡ Owed.Nothing → (run : Run) → StaysReceiving s run →
    (left : List Words) → answer_of k o ≡ accepted_blocks s run ++ left → (after s run).owed ≡ Owed.Nothing
