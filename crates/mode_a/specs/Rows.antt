-- 01, The station: "The step has one row for each place and one column for each kind of burst."  R-047 to R-085; and 02, T-02 and T-05, for Stand-by and the places behind Lost, and T-06.
--
-- A row a place, in 01's order, with 01's words and 001's sections. `Repeats`: it stays and sends these; `Goes`: it goes to the
-- place and sends these; `Takes`: it takes the offer, or what is owed of an answer, under the number; `Receives` and `Opens`: it goes to Receiving or Opening,
-- which cancels a + heard; `Rests`: it goes to Stand-by and has so many steps to wait,
-- or 128 where an identity is barred; `Yields`: it goes to Turning and sends βαβ, and what is owed of an answer is dropped; `Again`: it
-- stays, stands so, and sends these, a repetition in identification. What these, the others and the count then do is Step.antt.
-- Assumes nothing.
use Rattle.std.specs.Prelude.{Bool, true, false, ◌&&◌, ℕ, ◌+◌, eqb, leb, if◌then◌else◌}
use Rattle.signals.specs.Meaning.{rq, cs1, cs3, cs4}
use Rattle.identity.specs.declared.Seven.{Seven}
use Rattle.identity.specs.Sums.{check_sum1, check_sum2, check_sum3, same_seven}
use Rattle.mode_a.specs.declared.Role.{Role}
use Rattle.mode_a.specs.declared.Role.TheVariants.{Master, Slave}
use Rattle.mode_a.specs.declared.Number.{Number}
use Rattle.mode_a.specs.declared.Number.TheVariants.{One, Two}
use Rattle.mode_a.specs.declared.Words.{Words}
use Rattle.mode_a.specs.declared.Held.{Held}
use Rattle.mode_a.specs.declared.Ended.{Ended}
use Rattle.mode_a.specs.declared.Place.{Place}
use Rattle.mode_a.specs.declared.Waiting.{Waiting}
use Rattle.mode_a.specs.declared.Called.{Called}
use Rattle.mode_a.specs.declared.Mark.{Mark}
use Rattle.mode_a.specs.declared.Part.{Part}
use Rattle.mode_a.specs.declared.Succession.{Succession}
use Rattle.mode_a.specs.declared.Stage.{Stage}
use Rattle.mode_a.specs.declared.Called3.{Called3}
use Rattle.mode_a.specs.declared.Identified.{Identified}
use Rattle.mode_a.specs.declared.Gathered.{Gathered}
use Rattle.mode_a.specs.declared.Own.{Own}
use Rattle.mode_a.specs.declared.Peer.TheVariants.{Four, Known}
use Rattle.mode_a.specs.declared.Place.TheVariants.{Sending, Turning, Opening, Ending, Receiving, Asking, StandBy, Lost, Calling, Calling3, Identifying, Answering}
use Rattle.mode_a.specs.declared.Doing.{Doing}
use Rattle.mode_a.specs.declared.Doing.TheVariants.{Repeats, Goes, Takes, Receives, Opens, Accepts, Rests, Answers, Listens, Reaches, Answers3, Bars, Ends, Turns, Meets, Again, Yields}
use Rattle.mode_a.specs.Calls.{next_block, next_block3}
use Rattle.mode_a.specs.Identification.{Told, nothing_told, block_1, block_2, block_3, identity_block, with_1, with_2, with_3}
use Rattle.mode_a.specs.Station.{single, silence, βαβ, ααα, RQ×3, other, same, asks_for, mark_of, marks}
use Rattle.mode_a.specs.Heard.{First, Cs, Cs3, Rq, Else, Cs4, Cs5, Letter, Other, Heard}

-- Sending "(holds a block, numbered 1 or 2; reads the first word only)"                                   R-048, R-049
--     own        "Control signal of its own number: send the block again."              3.7.8, 3.7.9      R-050
--     other      "Of the other number: the block is confirmed; take the offer ..,       3.7.3, 3.7.7      R-051, R-052, R-053
--                with the other number."
--     CS3        "CS3: confirmed; send βαβ, go to Turning." 02, T-06: "the blocks of    3.7.11.4          R-058, R-059, R-239
--                the answer not yet sent are then dropped"
--     all else   "All else: send RQ RQ RQ."                                             3.7.10            R-060
abbrev pub sending : Held → First → Doing
sending h (Cs n) = if same n h.number then Repeats h.block else Takes (other h.number)
sending h Cs3 = Yields h.number
sending h Rq = Repeats RQ×3
sending h (Else x) = Repeats RQ×3

-- Turning
--     RQ         "Hears three RQ (if master) or RQ in the first word (if slave):        3.7.11.6          R-061, R-062
--                becomes Receiving, awaiting the number that its last block did
--                not have, and asks for it."
--     CS3        "CS3 first: send βαβ again."                                           3.7.11.4          R-063
--     all else   "All else: RQ RQ RQ."                                                  3.7.10            R-064
abbrev pub is_rq : First → Bool
is_rq (Cs n) = false
is_rq Cs3 = false
is_rq Rq = true
is_rq (Else x) = false

abbrev pub turn_completed : Role → Heard → Bool
turn_completed Master h = h.RQs
turn_completed Slave h = is_rq h.first

abbrev pub turning_else : First → Doing
turning_else (Cs n) = Repeats RQ×3
turning_else Cs3 = Repeats βαβ
turning_else Rq = Repeats RQ×3
turning_else (Else x) = Repeats RQ×3

abbrev pub turning : Role → Number → Heard → Doing
turning r n h = if turn_completed r h then Receives (other n) else turning_else h.first

-- Opening "(reads the first word)"                                                                        R-065
--     either     "CS1 or CS2: take the offer under that number, as above."              3.7.7, 3.7.11.5   R-066
--     CS3        "CS3: go to Stand-by, silent."                                                           R-067
--     all else   "All else: one RQ if master, three if slave."                          3.7.11.5          R-068
abbrev pub requests : Role → Words
requests Master = single rq
requests Slave = RQ×3

abbrev pub opening : Role → First → Doing
opening r (Cs n) = Takes n
opening r Cs3 = Rests 0 silence
opening r Rq = Repeats (requests r)
opening r (Else x) = Repeats (requests r)

-- Ending "(reads the first word)"                                                                         R-069
--     other      "The other number's control signal: Stand-by, silent."                 3.7.14.3          R-070
--     all else   "All else: ααα again; if it has been sent four times, Stand-by,        3.7.14.1          R-071, R-072, R-100
--                silent."
abbrev pub ends_again : Ended → Doing
ends_again e =
    if leb 4 e.total then Rests 0 silence
    else Goes (Ending (record { number = e.number; total = e.total + 1 })) ααα

abbrev pub ending : Ended → First → Doing
ending e (Cs n) = if same n e.number then ends_again e else Rests 0 silence
ending e Cs3 = ends_again e
ending e Rq = ends_again e
ending e (Else x) = ends_again e

-- Receiving "(awaits number n)"                                                                           R-073
--     block      "Three intact words, each traffic or β: accepted" ..                   3.7.4 to 3.7.6    R-073 to R-079, R-231
--     ααα        "ααα: ask for the other number, go to Stand-by."                       3.7.14.2          R-080
--     all else   "All else, any RQ included: ask for n again."                          3.7.5, 3.7.6      R-081
abbrev pub receiving : Number → Heard → Doing
receiving n h =
    if h.block then Accepts n else if h.alphas then Rests 0 (asks_for (other n)) else Repeats (asks_for n)

-- Asking
--     βαβ        "βαβ: go to Opening and send RQ as there."                             3.7.11.5          R-082
--     all else   "All else: CS3 again."                                                 3.7.11.2          R-083
abbrev pub asking : Heard → Doing
asking h = if h.turned then Opens else Repeats (single cs3)

-- Stand-by "hears and places calls" (02, T-02)                                                            R-084
--     both       "The slave answers CS1 after both blocks in succession."               3.5.5             R-179, R-180
--                in either order; the same block twice is one
--     all three  "following the reception of the three call blocks in succession after  3.5.5             R-200, R-201
--                which it sends control signal 4": 1-2-3 or 2-3-1
--     all else   a call of four signals that is offered is placed where no step is     3.5.4             R-181, R-182, R-188, R-202
--                left to wait, one of seven unless steps are left and this very
--                identity is barred; else it is silent
abbrev pub both_heard : Mark → Mark → Bool
both_heard Mark.None m = false
both_heard Mark.One Mark.None = false
both_heard Mark.One Mark.One = false
both_heard Mark.One Mark.Two = true
both_heard Mark.Two Mark.None = false
both_heard Mark.Two Mark.One = true
both_heard Mark.Two Mark.Two = false

abbrev pub is_one_two : Succession → Bool
is_one_two Succession.None = false
is_one_two Succession.One = false
is_one_two Succession.OneTwo = true
is_one_two Succession.Two = false
is_one_two Succession.TwoThree = false

abbrev pub is_two_three : Succession → Bool
is_two_three Succession.None = false
is_two_three Succession.One = false
is_two_three Succession.OneTwo = false
is_two_three Succession.Two = false
is_two_three Succession.TwoThree = true

-- whether the block completes the three
abbrev pub all_heard : Succession → Part → Bool
all_heard h Part.None = false
all_heard h Part.One = is_two_three h
all_heard h Part.Two = false
all_heard h Part.Three = is_one_two h

-- which blocks are then heard in succession
abbrev pub behind_one : Succession → Succession
behind_one Succession.None = Succession.Two
behind_one Succession.One = Succession.OneTwo
behind_one Succession.OneTwo = Succession.Two
behind_one Succession.Two = Succession.Two
behind_one Succession.TwoThree = Succession.Two

abbrev pub behind_two : Succession → Succession
behind_two Succession.None = Succession.None
behind_two Succession.One = Succession.None
behind_two Succession.OneTwo = Succession.None
behind_two Succession.Two = Succession.TwoThree
behind_two Succession.TwoThree = Succession.None

abbrev pub heard_then : Succession → Part → Succession
heard_then h Part.None = Succession.None
heard_then h Part.One = Succession.One
heard_then h Part.Two = behind_one h
heard_then h Part.Three = behind_two h

abbrev pub stand_by : Waiting → Mark → Part → Doing
stand_by w m p =
    if both_heard w.heard m then Answers
    else if all_heard w.heard3 p then Answers3
    else Listens (record { wait = w.wait; heard = m; heard3 = heard_then w.heard3 p })

-- Calling (reads the first word) (02, T-02)                                                               R-183
--     the same   "goes on to traffic on two successive identical CS1 or CS2"            3.5.6             R-186
--     CS3        "on CS3 waits 128 cycles in stand-by"                                  3.5.7             R-187
--     all else   "sends call blocks 1 and 2 in turn for at most 128 cycles"             3.5.4             R-184, R-185, R-195
abbrev pub calls_on : Called → Mark → Doing
calls_on c m =
    if leb 128 c.sent then Rests 128 silence
    else Goes (Calling (record { to = c.to; sent = c.sent + 1; last = m })) (next_block c.to c.sent)

abbrev pub calling : Called → First → Doing
calling c (Cs n) = if marks c.last n then Reaches (Four c.to) n else calls_on c (mark_of n)
calling c Cs3 = Rests 128 silence
calling c Rq = calls_on c Mark.None
calling c (Else x) = calls_on c Mark.None

-- Calling with three blocks (reads the first word) (02, T-05)                                             R-203
--     CS4        "On receipt of control signal 4 the calling station .. starts the      3.6.1, 3.6.2      R-203
--                identification procedure"
--     CS5        "On receipt of control signal 5 .. starts the end-of-communication     3.5.8             R-204
--                procedure"
--     CS3        "On receipt of control signal 3 .. immediately changes to the          3.5.7             R-205
--                stand-by condition"
--     all else   "sends the call signal until it receives an appropriate control        3.5.4             R-206, R-207, R-226
--                signal; however, if the circuit has not been established within
--                128 cycles ..": CS1 and CS2 answer calls of four signals alone
abbrev pub calls_on3 : Called3 → Doing
calls_on3 c =
    if leb 128 c.sent then Bars c.to
    else Goes (Calling3 (record { to = c.to; sent = c.sent + 1 })) (next_block3 c.to c.sent)

abbrev pub calling3 : Seven → Called3 → First → Doing
calling3 y c (Cs n) = calls_on3 c
calling3 y c Cs3 = Bars c.to
calling3 y c Rq = calls_on3 c
calling3 y c (Else Cs4) =
    Goes (Identifying (record { to = c.to; stage = Stage.One; wrong = 0; last = 0 })) (identity_block y Stage.One)
calling3 y c (Else Cs5) = Ends c.to
calling3 y c (Else (Letter w)) = calls_on3 c
calling3 y c (Else Other) = calls_on3 c

-- Identifying (reads the first word) (02, T-05); y is the own identity
--     1 to 3, the check-sum    "compares this signal with the appropriate check-sum     3.6.1 to 3.6.8    R-210
--                expected      signal locally derived from the identification signals
--                              transmitted in the call blocks"
--     1 to 3, another letter   "still not identical, and .. the same as the previous    3.6.12            R-211
--                              one": the end procedure
--                              "A block goes out again no more than four times for      3.6.12            R-212, R-213, R-226
--                              wrong check-sums", then Stand-by
--     4, CS1                   "ends the identification cycle and starts the traffic    3.6.10            R-214
--                              flow by transmitting information block 1"
--     4, CS3                   "starts the traffic flow with the change-over            3.6.11            R-215
--                              procedure"
--     all else                 "retransmits the previous block"                         3.6.13, 3.6.15    R-216
abbrev pub same_block : Seven → Identified → Doing
same_block y i = Again (Identifying i) (identity_block y i.stage)

abbrev pub wrong_sum : Seven → Identified → ℕ → Doing
wrong_sum y i w =
    if leb 1 i.wrong && eqb w i.last then Goes (Ending (record { number = Two; total = 1 })) ααα
    else if leb 4 i.wrong then Rests 0 silence
    else Again (Identifying (record { to = i.to; stage = i.stage; wrong = i.wrong + 1; last = w })) (identity_block y i.stage)

abbrev pub right_sum : Seven → Identified → Stage → Doing
right_sum y i s =
    Goes (Identifying (record { to = i.to; stage = s; wrong = 0; last = 0 })) (identity_block y s)

-- the check-sum expected, and the stage that it leads to
abbrev pub comparing : Seven → Identified → ℕ → Stage → First → Doing
comparing y i e s (Cs n) = same_block y i
comparing y i e s Cs3 = same_block y i
comparing y i e s Rq = same_block y i
comparing y i e s (Else Cs4) = same_block y i
comparing y i e s (Else Cs5) = same_block y i
comparing y i e s (Else (Letter w)) = if eqb w e then right_sum y i s else wrong_sum y i w
comparing y i e s (Else Other) = same_block y i

abbrev pub finishing : Seven → Identified → First → Doing
finishing y i (Cs One) = Reaches (Known i.to) One
finishing y i (Cs Two) = same_block y i
finishing y i Cs3 = Turns i.to
finishing y i Rq = same_block y i
finishing y i (Else x) = same_block y i

abbrev pub at_stage : Seven → Identified → First → Stage → Doing
at_stage y i f Stage.One = comparing y i (check_sum1 i.to) Stage.Two f
at_stage y i f Stage.Two = comparing y i (check_sum2 i.to) Stage.Three f
at_stage y i f Stage.Three = comparing y i (check_sum3 i.to) Stage.Four f
at_stage y i f Stage.Four = finishing y i f

abbrev pub identifying : Seven → Identified → First → Doing
identifying y i f = at_stage y i f i.stage

-- Answering (02, T-05); y is the own identity, g what is gathered
--     ααα        "it sends a control signal 1 and reverts to the stand-by condition"    3.6.17            R-217
--     RQ RQ RQ   at stage 4: "control signal 1, thus starting the traffic flow" or      3.6.9             R-218
--                "control signal 3, if the called station is required to start"
--     the block  "On receipt of identification block .. sends check-sum signal .."      3.6.3 to 3.6.7    R-219
--     the one before it, again: "the appropriate check-sum signal once more"; "not      3.6.12, 3.6.16    R-220
--                identical, .. sends signal repetition until two identical
--                consecutive identification blocks are received"
--     all else   CS4 "until identification block 1 has been received"; "it transmits    3.5.5, 3.6.14     R-221
--                a signal repetition"
abbrev pub gathers : Stage → Seven → ℕ → Doing
gathers s g sum = Goes (Answering (record { stage = s; got = g })) (single sum)

abbrev pub gathers_again : Stage → Seven → Seven → ℕ → Doing
gathers_again s g g' sum = Again (Answering (record { stage = s; got = g' })) (single (if same_seven g g' then sum else rq))

abbrev pub asks_on : Stage → Seven → ℕ → Doing
asks_on s g w = Again (Answering (record { stage = s; got = g })) (single w)

abbrev pub hearing : Seven → Seven → Stage → Told → Doing
hearing y g Stage.One nothing_told = asks_on Stage.One g cs4
hearing y g Stage.One (block_1 a b) = gathers Stage.Two (with_1 g a b) (check_sum1 y)
hearing y g Stage.One (block_2 a b) = asks_on Stage.One g cs4
hearing y g Stage.One (block_3 a b c) = asks_on Stage.One g cs4
hearing y g Stage.Two nothing_told = asks_on Stage.Two g rq
hearing y g Stage.Two (block_1 a b) = gathers_again Stage.Two g (with_1 g a b) (check_sum1 y)
hearing y g Stage.Two (block_2 a b) = gathers Stage.Three (with_2 g a b) (check_sum2 y)
hearing y g Stage.Two (block_3 a b c) = asks_on Stage.Two g rq
hearing y g Stage.Three nothing_told = asks_on Stage.Three g rq
hearing y g Stage.Three (block_1 a b) = asks_on Stage.Three g rq
hearing y g Stage.Three (block_2 a b) = gathers_again Stage.Three g (with_2 g a b) (check_sum2 y)
hearing y g Stage.Three (block_3 a b c) = gathers Stage.Four (with_3 g a b c) (check_sum3 y)
hearing y g Stage.Four nothing_told = asks_on Stage.Four g rq
hearing y g Stage.Four (block_1 a b) = asks_on Stage.Four g rq
hearing y g Stage.Four (block_2 a b) = asks_on Stage.Four g rq
hearing y g Stage.Four (block_3 a b c) = gathers_again Stage.Four g (with_3 g a b c) (check_sum3 y)

abbrev pub is_last : Stage → Bool
is_last Stage.One = false
is_last Stage.Two = false
is_last Stage.Three = false
is_last Stage.Four = true

abbrev pub answering : Seven → Gathered → Heard → Doing
answering y g h =
    if h.alphas then Rests 0 (single cs1)
    else if h.RQs && is_last g.stage then Meets g.got
    else hearing y g.got g.stage h.told

-- Lost: "silent for good, no offer taken"                                                                 R-085
abbrev pub row_of : Own → Role → Place → Heard → Doing
row_of own r (Sending b) h = sending b h.first
row_of own r (Turning n) h = turning r n h
row_of own r Opening h = opening r h.first
row_of own r (Ending e) h = ending e h.first
row_of own r (Receiving n) h = receiving n h
row_of own r Asking h = asking h
row_of own r (StandBy w) h = stand_by w h.call h.call3
row_of own r Lost h = Goes Lost silence
row_of own r (Calling c) h = calling c h.first
row_of own r (Calling3 c) h = calling3 own.seven c h.first
row_of own r (Identifying i) h = identifying own.seven i h.first
row_of own r (Answering g) h = answering own.seven g h
