-- 02, T-08: "For a station, a heard burst and an offer, name the reason for the answer. It is the first of these that holds: silent place,
-- time-out, what the place's row names (own number, other number, at Opening either, CS3, RQ, βαβ, ααα), earliest bad place and its word,
-- earliest RQ, other word not expected, over heard, over offered, accepted."  R-265
--
-- The reason is told from 01's rows (`row_of`) and from what is heard. 02's list has no reason for the places of T-02 and T-05, nor for D in
-- figures (T-06): what is added for them is marked *, and is an addition of ours (docs/DECISIONS.md, Reasons).
-- Assumes nothing.
use Rattle.std.specs.Prelude.{◌≡◌, Bool, true, false, not, ◌&&◌, ◌||◌, List, [], ◌∷◌, ℕ, eqb, leb, ltb, length, get_or, if◌then◌else◌, Result, Ok, Err}
use Rattle.signals.specs.Units.{intact_of}
use Rattle.signals.specs.Meaning.{rq}
use Rattle.signals.specs.Numbers.{Answer, answered, refused, first_not}
use Rattle.identity.specs.Table3.{is_identity}
use Rattle.identity.specs.Sums.{check_sum1, check_sum2, check_sum3}
use Rattle.mode_a.specs.declared.Role.{Role}
use Rattle.mode_a.specs.declared.Role.TheVariants.{Master, Slave}
use Rattle.mode_a.specs.declared.Number.{Number}
use Rattle.mode_a.specs.declared.Number.TheVariants.{One, Two}
use Rattle.mode_a.specs.declared.Stage.{Stage}
use Rattle.mode_a.specs.declared.Words.{Words}
use Rattle.mode_a.specs.declared.Waiting.{Waiting}
use Rattle.mode_a.specs.declared.Called.{Called}
use Rattle.mode_a.specs.declared.Identified.{Identified}
use Rattle.mode_a.specs.declared.Gathered.{Gathered}
use Rattle.mode_a.specs.declared.Place.{Place}
use Rattle.mode_a.specs.declared.Place.TheVariants.{Sending, Turning, Opening, Ending, Receiving, Asking, StandBy, Lost, Calling, Calling3, Identifying, Answering}
use Rattle.mode_a.specs.declared.Offer.{Offer}
use Rattle.mode_a.specs.declared.Peer.{Peer}
use Rattle.mode_a.specs.declared.Listening.{Listening}
use Rattle.mode_a.specs.declared.Station.{Station}
use Rattle.mode_a.specs.declared.Doing.{Doing}
use Rattle.mode_a.specs.declared.Doing.TheVariants.{Repeats, Goes, Takes, Receives, Opens, Accepts, Rests, Answers, Listens, Reaches, Answers3, Bars, Ends, Turns, Meets, Again, Yields}
use Rattle.mode_a.specs.Identification.{Told, nothing_told, block_1, block_2, block_3}
use Rattle.mode_a.specs.Station.{same, marks, list_of}
use Rattle.mode_a.specs.Heard.{First, Cs, Cs3, Rq, Else, Further, Cs4, Cs5, Letter, Other, Heard, heard_of, may_hold}
use Rattle.mode_a.specs.Over.{listened_all}
use Rattle.mode_a.specs.Answerback.{passes}
use Rattle.mode_a.specs.Rows.{turn_completed, both_heard, all_heard, is_last, row_of}
use Rattle.mode_a.specs.Step.{bars, is_over, sound, offered, called_to, said_refusal}
use Rattle.reasons.specs.declared.Reason.{Reason}
use Rattle.mode_a.specs.declared.Refusal.{Refusal}

-- what is heard, and what 01's row does at it
abbrev pub heard_by : Station → Words → Heard
heard_by s b = heard_of s.own b

abbrev pub row_at : Station → Words → Doing
row_at s b = row_of s.own s.role s.place (heard_by s b)

-- "silent place": Lost, and Stand-by. * Stand-by is not silent where it is called, or places the call that is offered  R-266, R-276
abbrev pub is_called : Waiting → Heard → Bool
is_called w h = both_heard w.heard h.call || all_heard w.heard3 h.call3

abbrev pub is_placed : Waiting → Peer → Offer → Bool
is_placed w p (Offer.Text b) = false
is_placed w p Offer.Over = false
is_placed w p Offer.End = false
is_placed w p Offer.Nothing = false
is_placed w p (Offer.Call i) = eqb w.wait 0
is_placed w p (Offer.Call3 i) = not (leb 1 w.wait && bars p i)

abbrev pub silent_at : Place → Heard → Peer → Offer → Bool
silent_at (Sending b) h p o = false
silent_at (Turning n) h p o = false
silent_at Opening h p o = false
silent_at (Ending e) h p o = false
silent_at (Receiving n) h p o = false
silent_at Asking h p o = false
silent_at (StandBy w) h p o = not (is_called w h || is_placed w p o)
silent_at Lost h p o = true
silent_at (Calling c) h p o = false
silent_at (Calling3 c) h p o = false
silent_at (Identifying i) h p o = false
silent_at (Answering g) h p o = false

-- "time-out": the 32nd repetition, whether it leads to Lost (01) or to Stand-by (T-05). Ending, which sends ααα four times, and a call,
-- which is sent 128 times, repeat nothing in this sense  R-267
abbrev pub is_repetition : Doing → Bool
is_repetition (Repeats w) = true
is_repetition (Goes p w) = false
is_repetition (Takes n) = false
is_repetition (Receives n) = false
is_repetition Opens = false
is_repetition (Accepts n) = false
is_repetition (Rests n w) = false
is_repetition Answers = false
is_repetition (Listens w) = false
is_repetition (Reaches p n) = false
is_repetition Answers3 = false
is_repetition (Bars i) = false
is_repetition (Ends i) = false
is_repetition (Turns i) = false
is_repetition (Meets i) = false
is_repetition (Again p w) = true
is_repetition (Yields n) = false

unfoldable pub times_out : Station → Words → Bool
times_out s b = is_repetition (row_at s b) && leb 31 s.count

-- * of a call "for at most 128 cycles": 128 bursts of it are sent, and this burst neither completes the call nor stops it  R-268
abbrev pub calls_on_at : Called → First → Bool
calls_on_at c (Cs n) = not (marks c.last n)
calls_on_at c Cs3 = false
calls_on_at c Rq = true
calls_on_at c (Else x) = true

abbrev pub calls3_on_at : First → Bool
calls3_on_at (Cs n) = true
calls3_on_at Cs3 = false
calls3_on_at Rq = true
calls3_on_at (Else Cs4) = false
calls3_on_at (Else Cs5) = false
calls3_on_at (Else (Letter w)) = true
calls3_on_at (Else Other) = true

abbrev pub runs_out : Place → First → Bool
runs_out (Sending b) f = false
runs_out (Turning n) f = false
runs_out Opening f = false
runs_out (Ending e) f = false
runs_out (Receiving n) f = false
runs_out Asking f = false
runs_out (StandBy w) f = false
runs_out Lost f = false
runs_out (Calling c) f = leb 128 c.sent && calls_on_at c f
runs_out (Calling3 c) f = leb 128 c.sent && calls3_on_at f
runs_out (Identifying i) f = false
runs_out (Answering g) f = false

-- "what the place's row names", place by place; `not_named` is the row's "all else"
pub data Named : Type 0 where
  named : Reason → Named
  not_named : Named

-- Sending: "own number, other number", "CS3"  R-269, R-270, R-272
abbrev pub sending_names : Number → First → Named
sending_names n (Cs m) = named (if same m n then Reason.Own else Reason.Other)
sending_names n Cs3 = named Reason.Cs3
sending_names n Rq = not_named
sending_names n (Else x) = not_named

-- Turning: "RQ", three of them for a master and one for a slave; "CS3"  R-272, R-273
abbrev pub if_cs3 : First → Named
if_cs3 (Cs n) = not_named
if_cs3 Cs3 = named Reason.Cs3
if_cs3 Rq = not_named
if_cs3 (Else x) = not_named

abbrev pub turning_names : Role → Heard → Named
turning_names r h = if turn_completed r h then named Reason.Rq else if_cs3 h.first

-- Opening: "at Opening either", "CS3"  R-271, R-272
abbrev pub opening_names : First → Named
opening_names (Cs n) = named Reason.Either
opening_names Cs3 = named Reason.Cs3
opening_names Rq = not_named
opening_names (Else x) = not_named

-- Ending: "other number"; its own number is in "all else"  R-270
abbrev pub ending_names : Number → First → Named
ending_names n (Cs m) = if same m n then not_named else named Reason.Other
ending_names n Cs3 = not_named
ending_names n Rq = not_named
ending_names n (Else x) = not_named

-- Receiving: "ααα"; an accepted block has its reasons at the end of the list  R-275
abbrev pub receiving_names : Heard → Named
receiving_names h = if h.alphas then named Reason.Alphas else not_named

-- Asking: "βαβ"  R-274
abbrev pub asking_names : Heard → Named
asking_names h = if h.turned then named Reason.Turn else not_named

-- * Stand-by: called; a call offered, which is placed  R-276
abbrev pub stand_by_names : Waiting → Heard → Peer → Offer → Named
stand_by_names w h p o =
    if is_called w h then named Reason.Called
    else if is_placed w p o then named Reason.CallOffered
    else not_named

-- * Calling: CS1 or CS2, also the first of two; CS3  R-271, R-272
abbrev pub calling_names : First → Named
calling_names (Cs n) = named Reason.Either
calling_names Cs3 = named Reason.Cs3
calling_names Rq = not_named
calling_names (Else x) = not_named

-- * Calling with three blocks: CS3, CS4, CS5. CS1 and CS2 answer calls of four signals alone, and its row does not name them  R-272, R-277
abbrev pub calling3_names : First → Named
calling3_names (Cs n) = not_named
calling3_names Cs3 = named Reason.Cs3
calling3_names Rq = not_named
calling3_names (Else Cs4) = named Reason.Cs4
calling3_names (Else Cs5) = named Reason.Cs5
calling3_names (Else (Letter w)) = not_named
calling3_names (Else Other) = not_named

-- * Identifying: at stages 1 to 3 the right check-sum, or a wrong one, which is any other letter of table 3b; at the fourth CS1, CS3
-- R-272, R-278
abbrev pub comparing_names : ℕ → First → Named
comparing_names e (Cs n) = not_named
comparing_names e Cs3 = not_named
comparing_names e Rq = not_named
comparing_names e (Else Cs4) = not_named
comparing_names e (Else Cs5) = not_named
comparing_names e (Else (Letter w)) = named (if eqb w e then Reason.RightSum else Reason.WrongSum)
comparing_names e (Else Other) = not_named

abbrev pub finishing_names : First → Named
finishing_names (Cs One) = named Reason.Cs1
finishing_names (Cs Two) = not_named
finishing_names Cs3 = named Reason.Cs3
finishing_names Rq = not_named
finishing_names (Else x) = not_named

abbrev pub identifying_names : Identified → Stage → First → Named
identifying_names i Stage.One f = comparing_names (check_sum1 i.to) f
identifying_names i Stage.Two f = comparing_names (check_sum2 i.to) f
identifying_names i Stage.Three f = comparing_names (check_sum3 i.to) f
identifying_names i Stage.Four f = finishing_names f

-- * Answering: ααα; RQ RQ RQ at the fourth stage; the block that the stage awaits, and the one before it, again  R-273, R-275, R-279
abbrev pub telling_names : Stage → Told → Named
telling_names Stage.One nothing_told = not_named
telling_names Stage.One (block_1 a b) = named Reason.Told
telling_names Stage.One (block_2 a b) = not_named
telling_names Stage.One (block_3 a b c) = not_named
telling_names Stage.Two nothing_told = not_named
telling_names Stage.Two (block_1 a b) = named Reason.ToldAgain
telling_names Stage.Two (block_2 a b) = named Reason.Told
telling_names Stage.Two (block_3 a b c) = not_named
telling_names Stage.Three nothing_told = not_named
telling_names Stage.Three (block_1 a b) = not_named
telling_names Stage.Three (block_2 a b) = named Reason.ToldAgain
telling_names Stage.Three (block_3 a b c) = named Reason.Told
telling_names Stage.Four nothing_told = not_named
telling_names Stage.Four (block_1 a b) = not_named
telling_names Stage.Four (block_2 a b) = not_named
telling_names Stage.Four (block_3 a b c) = named Reason.ToldAgain

abbrev pub answering_names : Gathered → Heard → Named
answering_names g h =
    if h.alphas then named Reason.Alphas
    else if h.RQs && is_last g.stage then named Reason.Rq
    else telling_names g.stage h.told

abbrev pub named_at : Role → Place → Heard → Peer → Offer → Named
named_at r (Sending b) h p o = sending_names b.number h.first
named_at r (Turning n) h p o = turning_names r h
named_at r Opening h p o = opening_names h.first
named_at r (Ending e) h p o = ending_names e.number h.first
named_at r (Receiving n) h p o = receiving_names h
named_at r Asking h p o = asking_names h
named_at r (StandBy w) h p o = stand_by_names w h p o
named_at r Lost h p o = not_named
named_at r (Calling c) h p o = calling_names h.first
named_at r (Calling3 c) h p o = calling3_names h.first
named_at r (Identifying i) h p o = identifying_names i i.stage h.first
named_at r (Answering g) h p o = answering_names g h

-- "Places that read one word judge that word only." The words that a place reads; Stand-by and Lost, which always have a reason by now,
-- judge none  R-287
abbrev pub turning_reads : Role → Words → List ℕ
turning_reads Master b = list_of b
turning_reads Slave b = b.0 ∷ []

abbrev pub reads : Role → Place → Words → List ℕ
reads r (Sending h) b = b.0 ∷ []
reads r (Turning n) b = turning_reads r b
reads r Opening b = b.0 ∷ []
reads r (Ending e) b = b.0 ∷ []
reads r (Receiving n) b = list_of b
reads r Asking b = list_of b
reads r (StandBy w) b = []
reads r Lost b = []
reads r (Calling c) b = b.0 ∷ []
reads r (Calling3 c) b = b.0 ∷ []
reads r (Identifying i) b = b.0 ∷ []
reads r (Answering g) b = list_of b

-- "earliest bad place and its word, earliest RQ": of the words read. The zeros behind a single signal are bad words, where they are read
-- R-280, R-281
abbrev pub not_rq : ℕ → Bool
not_rq w = not (eqb w rq)

abbrev pub judged : List ℕ → Reason → Reason
judged ws rest =
    if ltb (first_not intact_of ws) (length ws) then Reason.Bad (first_not intact_of ws) (get_or ws (first_not intact_of ws) 0)
    else if ltb (first_not not_rq ws) (length ws) then Reason.Repeat (first_not not_rq ws)
    else rest

-- "accepted" is a block at Receiving  R-073
abbrev pub is_accepted : Place → Heard → Bool
is_accepted (Sending b) h = false
is_accepted (Turning n) h = false
is_accepted Opening h = false
is_accepted (Ending e) h = false
is_accepted (Receiving n) h = h.block
is_accepted Asking h = false
is_accepted (StandBy w) h = false
is_accepted Lost h = false
is_accepted (Calling c) h = false
is_accepted (Calling3 c) h = false
is_accepted (Identifying i) h = false
is_accepted (Answering g) h = false

-- "over heard, over offered, accepted"; * who are you heard, behind over heard, and before over offered since an over offered then waits
-- R-283, R-284, R-285, R-286
abbrev pub accepted_for : Listening → Bool → Reason
accepted_for l over =
    if l.over then Reason.OverHeard
    else if l.asked then Reason.WhoAreYou
    else if over then Reason.OverOffered
    else Reason.Accepted

-- what is neither bad nor RQ: "other word not expected" where it is not accepted  R-282
abbrev pub otherwise : Station → Words → Offer → Reason
otherwise s b o =
    if not (is_accepted s.place (heard_by s b)) then Reason.Unexpected
    else accepted_for (listened_all s.case s.plus b) (is_over o)

abbrev pub by_name : Named → Reason → Reason
by_name (named r) rest = r
by_name not_named rest = rest

-- "It is the first of these that holds"  R-265
unfoldable pub reason_of : Station → Words → Offer → Reason
reason_of s b o =
    if silent_at s.place (heard_by s b) s.other o then Reason.Silent
    else if times_out s b then Reason.TimeOut
    else if runs_out s.place (heard_by s b).first then Reason.RunOut
    else by_name (named_at s.role s.place (heard_by s b) s.other o) (judged (reads s.role s.place b) (otherwise s b o))

-- "Refusals: 4 and 3 as for the step", and after T-02 and T-06 8, 4, 9, 3, in its order and with its values. That both refuse alike is
-- `each_refused_alike` (crate `one_answer`)  R-288
unfoldable pub explaining : Station → Words → Offer → Answer Reason
explaining s b o =
    if ltb (first_not is_identity (called_to s.own o)) (length (called_to s.own o)) then refused 8 (first_not is_identity (called_to s.own o))
    else if not (sound s) then refused 4 0
    else if not (passes s.own.code) then refused 9 0
    else if ltb (first_not may_hold (offered o)) (length (offered o)) then refused 3 (first_not may_hold (offered o))
    else answered (reason_of s b o)

-- each case of the answer, by 01's number and the value beside it
abbrev pub said_why : Result Reason Refusal → Answer Reason
said_why (Ok r) = answered r
said_why (Err e) = said_refusal e

-- The promise of `why`.
abbrev pub Explains : Station → Words → Offer → Result Reason Refusal → Type 0
Explains s b o r = said_why r ≡ explaining s b o
