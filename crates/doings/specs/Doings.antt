-- What each action of the table does at a place: Stand-by's asks which of the own call blocks the burst is, Identifying's the burst's first
-- word, and Answering's which identification block the burst is. Assumes nothing.
use Rattle.std.specs.Prelude.{if◌then◌else◌}
use Rattle.signals.specs.Meaning.{cs1, cs3}
use Rattle.mode_a.specs.declared.Role.{Role}
use Rattle.mode_a.specs.declared.Role.TheVariants.{Master, Slave}
use Rattle.mode_a.specs.declared.Number.TheVariants.{One, Two}
use Rattle.mode_a.specs.declared.Words.{Words}
use Rattle.mode_a.specs.declared.Mark.{Mark}
use Rattle.mode_a.specs.declared.Own.{Own}
use Rattle.mode_a.specs.declared.Place.{Place}
use Rattle.mode_a.specs.declared.Doing.{Doing}
use Rattle.mode_a.specs.declared.Doing.TheVariants.{Repeats, Goes, Takes, Receives, Opens, Accepts, Rests, Bars, Ends, Meets, Yields}
use Rattle.mode_a.specs.Station.{single, silence, βαβ, RQ×3, other, asks_for}
use Rattle.mode_a.specs.Identification.{told_in}
use Rattle.mode_a.specs.Heard.{Cs, Cs3, Else, Cs4, Letter, call_of, call3_of}
use Rattle.mode_a.specs.Rows.{requests, stand_by, calling, calls_on, calling3, calls_on3, identifying, same_block, hearing, is_last}
use Rattle.carried.specs.Carried.{number_in, block_in, total_in, waiting_in, called_in, called3_in, identified_in, gathered_in}
use Rattle.moves.specs.Moves.{asked, ends_again, ended}
use Rattle.table.specs.declared.Action.{Action}

abbrev pub by_role : Role → Doing → Doing → Doing
by_role Master a b = a
by_role Slave a b = b

unfoldable pub doing_of : Action → Role → Place → Own → Words → Doing
doing_of Action.Asked1 r p own b = asked One (number_in p) (block_in p)
doing_of Action.Asked2 r p own b = asked Two (number_in p) (block_in p)
doing_of Action.Turn r p own b = Yields (number_in p)
doing_of Action.Rqs r p own b = Repeats RQ×3
doing_of Action.TurnAgain r p own b = Repeats βαβ
doing_of Action.Receive r p own b = Receives (other (number_in p))
doing_of Action.ReceiveIfSlave r p own b = by_role r (Repeats RQ×3) (Receives (other (number_in p)))
doing_of Action.Take1 r p own b = Takes One
doing_of Action.Take2 r p own b = Takes Two
doing_of Action.StandBy r p own b = Rests 0 silence
doing_of Action.Request r p own b = Repeats (requests r)
doing_of Action.Ended1 r p own b = ended One (number_in p) (total_in p)
doing_of Action.Ended2 r p own b = ended Two (number_in p) (total_in p)
doing_of Action.EndAgain r p own b = ends_again (number_in p) (total_in p)
doing_of Action.Accept r p own b = Accepts (number_in p)
doing_of Action.AskAgain r p own b = Repeats (asks_for (number_in p))
doing_of Action.Finish r p own b = Rests 0 (asks_for (other (number_in p)))
doing_of Action.Cs3Again r p own b = Repeats (single cs3)
doing_of Action.Open r p own b = Opens
doing_of Action.Listen r p own b = stand_by (waiting_in p) (call_of own.four b) (call3_of own.seven b)
doing_of Action.Silent r p own b = Goes p silence
doing_of Action.Called1 r p own b = calling (called_in p) (Cs One)
doing_of Action.Called2 r p own b = calling (called_in p) (Cs Two)
doing_of Action.CallStops r p own b = Rests 128 silence
doing_of Action.CallOn r p own b = calls_on (called_in p) Mark.None
doing_of Action.Identify r p own b = calling3 own.seven (called3_in p) (Else Cs4)
doing_of Action.Call3Ends r p own b = Ends (called3_in p).to
doing_of Action.Call3Stops r p own b = Bars (called3_in p).to
doing_of Action.Call3On r p own b = calls_on3 (called3_in p)
doing_of Action.TakeIfLast r p own b = identifying own.seven (identified_in p) (Cs One)
doing_of Action.TurnIfLast r p own b = identifying own.seven (identified_in p) Cs3
doing_of Action.Compare r p own b = identifying own.seven (identified_in p) (Else (Letter b.0))
doing_of Action.BlockAgain r p own b = same_block own.seven (identified_in p)
doing_of Action.MeetIfLast r p own b =
    if is_last (gathered_in p).stage then Meets (gathered_in p).got
    else hearing own.seven (gathered_in p).got (gathered_in p).stage (told_in b)
doing_of Action.Leave r p own b = Rests 0 (single cs1)
doing_of Action.Gather r p own b = hearing own.seven (gathered_in p).got (gathered_in p).stage (told_in b)
