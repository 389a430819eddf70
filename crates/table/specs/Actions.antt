-- The cell of each place at each kind of burst: which of the code's actions the place takes. That the actions do what the rows of
-- `mode_a` say is proved in `doings` (rows-agree). Assumes nothing.
use Rattle.std.specs.Prelude.{ℕ, if◌then◌else◌}
use Rattle.mode_a.specs.declared.Number.TheVariants.{One, Two}
use Rattle.mode_a.specs.declared.Place.{Place}
use Rattle.mode_a.specs.declared.Place.TheVariants.{Sending, Turning, Opening, Ending, Receiving, Asking, StandBy, Lost, Calling, Calling3, Identifying, Answering}
use Rattle.mode_a.specs.declared.Mark.{Mark}
use Rattle.mode_a.specs.declared.Part.{Part}
use Rattle.mode_a.specs.Identification.{nothing_told}
use Rattle.mode_a.specs.Heard.{First, Cs, Cs4, Cs5, Letter, Other, Heard}
use Rattle.table.specs.declared.Kind.{Kind}
use Rattle.table.specs.declared.Action.{Action}
use Rattle.table.specs.Kinds.{heard_k}

-- Sending, Opening, Ending, Calling, Calling with three blocks and Identifying read the first word
abbrev pub sending_on : First → Action
sending_on (Cs One) = Action.Asked1
sending_on (Cs Two) = Action.Asked2
sending_on First.Cs3 = Action.Turn
sending_on First.Rq = Action.Rqs
sending_on (First.Else x) = Action.Rqs

abbrev pub opening_on : First → Action
opening_on (Cs One) = Action.Take1
opening_on (Cs Two) = Action.Take2
opening_on First.Cs3 = Action.StandBy
opening_on First.Rq = Action.Request
opening_on (First.Else x) = Action.Request

abbrev pub ending_on : First → Action
ending_on (Cs One) = Action.Ended1
ending_on (Cs Two) = Action.Ended2
ending_on First.Cs3 = Action.EndAgain
ending_on First.Rq = Action.EndAgain
ending_on (First.Else x) = Action.EndAgain

abbrev pub calling_on : First → Action
calling_on (Cs One) = Action.Called1
calling_on (Cs Two) = Action.Called2
calling_on First.Cs3 = Action.CallStops
calling_on First.Rq = Action.CallOn
calling_on (First.Else x) = Action.CallOn

abbrev pub turning_on : First → Action
turning_on (Cs n) = Action.Rqs
turning_on First.Cs3 = Action.TurnAgain
turning_on First.Rq = Action.ReceiveIfSlave
turning_on (First.Else x) = Action.Rqs

abbrev pub receiving_on : Heard → Action
receiving_on h = if h.block then Action.Accept else if h.alphas then Action.Finish else Action.AskAgain

abbrev pub calling3_on : First → Action
calling3_on (Cs n) = Action.Call3On
calling3_on First.Cs3 = Action.Call3Stops
calling3_on First.Rq = Action.Call3On
calling3_on (First.Else Cs4) = Action.Identify
calling3_on (First.Else Cs5) = Action.Call3Ends
calling3_on (First.Else (Letter w)) = Action.Call3On
calling3_on (First.Else Other) = Action.Call3On

abbrev pub identifying_on : First → Action
identifying_on (Cs One) = Action.TakeIfLast
identifying_on (Cs Two) = Action.BlockAgain
identifying_on First.Cs3 = Action.TurnIfLast
identifying_on First.Rq = Action.BlockAgain
identifying_on (First.Else Cs4) = Action.BlockAgain
identifying_on (First.Else Cs5) = Action.BlockAgain
identifying_on (First.Else (Letter w)) = Action.Compare
identifying_on (First.Else Other) = Action.BlockAgain

abbrev pub answering_on : Heard → Action
answering_on h = if h.alphas then Action.Leave else if h.RQs then Action.MeetIfLast else Action.Gather

-- what is heard in a burst of a kind, but for what stands beside it: no cell depends on that
abbrev heard_in : Kind → Heard
heard_in k = heard_k (record { call = Mark.None; call3 = Part.None; letter = 0; told = nothing_told }) k

unfoldable pub action_of : Place → Kind → Action
action_of (Sending h) k = sending_on (heard_in k).first
action_of (Turning n) k = if (heard_in k).RQs then Action.Receive else turning_on (heard_in k).first
action_of Opening k = opening_on (heard_in k).first
action_of (Ending e) k = ending_on (heard_in k).first
action_of (Receiving n) k = receiving_on (heard_in k)
action_of Asking k = if (heard_in k).turned then Action.Open else Action.Cs3Again
action_of (StandBy w) k = Action.Listen
action_of Lost k = Action.Silent
action_of (Calling c) k = calling_on (heard_in k).first
action_of (Calling3 c) k = calling3_on (heard_in k).first
action_of (Identifying i) k = identifying_on (heard_in k).first
action_of (Answering g) k = answering_on (heard_in k)

-- the row
abbrev pub row_no : Place → ℕ
row_no (Sending h) = 0
row_no (Turning n) = 1
row_no Opening = 2
row_no (Ending e) = 3
row_no (Receiving n) = 4
row_no Asking = 5
row_no (StandBy w) = 6
row_no Lost = 7
row_no (Calling c) = 8
row_no (Calling3 c) = 9
row_no (Identifying i) = 10
row_no (Answering g) = 11
