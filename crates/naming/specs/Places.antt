-- 02, T-08: the reason for an answer, place by place, told from what the place carries and from the words that it reads, and not from the
-- station. In each, `late` says that 31 repetitions in a row were before this step, so that one more is the 32nd. That each is the reason of
-- `reasons`, `reason_of`, for a station at that place is a law a place (proofs/PlaceLaws.antt).  R-265 to R-287
-- Assumes nothing.
use Rattle.std.specs.Prelude.{Bool, ◌&&◌, ◌||◌, [], ◌∷◌, ℕ, eqb, leb, if◌then◌else◌}
use Rattle.signals.specs.declared.Case.{Case}
use Rattle.identity.specs.declared.Seven.{Seven}
use Rattle.identity.specs.Sums.{check_sum1, check_sum2, check_sum3}
use Rattle.mode_a.specs.declared.Role.{Role}
use Rattle.mode_a.specs.declared.Role.TheVariants.{Master, Slave}
use Rattle.mode_a.specs.declared.Number.{Number}
use Rattle.mode_a.specs.declared.Number.TheVariants.{One, Two}
use Rattle.mode_a.specs.declared.Mark.{Mark}
use Rattle.mode_a.specs.declared.Stage.{Stage}
use Rattle.mode_a.specs.declared.Words.{Words}
use Rattle.mode_a.specs.declared.Identity.{Identity}
use Rattle.mode_a.specs.declared.Waiting.{Waiting}
use Rattle.mode_a.specs.declared.Identified.{Identified}
use Rattle.mode_a.specs.declared.Offer.{Offer}
use Rattle.mode_a.specs.declared.Peer.{Peer}
use Rattle.mode_a.specs.Identification.{Told, told_in}
use Rattle.mode_a.specs.Station.{βαβ, ααα, RQ×3, no_seven, same, marks, list_of}
use Rattle.mode_a.specs.Heard.{First, Cs, Cs3, Rq, Else, Cs4, Cs5, Letter, Other, first_of, is_block, is_words, call_of, call3_of}
use Rattle.mode_a.specs.Over.{listened_all}
use Rattle.mode_a.specs.Rows.{is_rq, both_heard, all_heard, is_last, hearing}
use Rattle.answering.specs.declared.Due.{Due}
use Rattle.reasons.specs.declared.Reason.{Reason}
use Rattle.reasons.specs.Reasons.{is_placed, is_repetition, telling_names, judged, accepted_for, by_name}
use Rattle.naming.specs.declared.Signal.{Signal}

-- the first word, as far as most places that read one ask of it
abbrev pub signal_of : First → Signal
signal_of (Cs n) = Signal.Cs n
signal_of Cs3 = Signal.Cs3
signal_of Rq = Signal.Other
signal_of (Else x) = Signal.Other

-- a reason of a repetition: the 32nd is the time-out before it  R-267
abbrev pub timed : Bool → Reason → Reason
timed late r = if late then Reason.TimeOut else r

-- what the row does not name, at a place that reads one word, and at one that reads three  R-280, R-281, R-282, R-287
unfoldable pub judged_one : ℕ → Reason
judged_one w = judged (w ∷ []) Reason.Unexpected

unfoldable pub judged_all : Words → Reason
judged_all b = judged (list_of b) Reason.Unexpected

-- Sending. The own number has the block sent again, a repetition; the other number and CS3 confirm  R-269, R-270, R-272
abbrev pub sending_by : Number → Bool → ℕ → Signal → Reason
sending_by n late w (Signal.Cs m) = if same m n then timed late Reason.Own else Reason.Other
sending_by n late w Signal.Cs3 = Reason.Cs3
sending_by n late w Signal.Other = timed late (judged_one w)

unfoldable pub of_sending : Number → Bool → ℕ → Reason
of_sending n late w = sending_by n late w (signal_of (first_of w))

-- Turning. A master reads three words and a slave one. CS3 has βαβ sent again, a repetition  R-272, R-273
abbrev pub turning_by : Bool → Reason → Signal → Reason
turning_by late rest (Signal.Cs n) = timed late rest
turning_by late rest Signal.Cs3 = timed late Reason.Cs3
turning_by late rest Signal.Other = timed late rest

unfoldable pub of_turning : Role → Bool → Words → Reason
of_turning Master late b =
    if is_words b RQ×3 then Reason.Rq else turning_by late (judged_all b) (signal_of (first_of b.0))
of_turning Slave late b =
    if is_rq (first_of b.0) then Reason.Rq else turning_by late (judged_one b.0) (signal_of (first_of b.0))

-- Opening  R-271, R-272
abbrev pub opening_by : Bool → ℕ → Signal → Reason
opening_by late w (Signal.Cs n) = Reason.Either
opening_by late w Signal.Cs3 = Reason.Cs3
opening_by late w Signal.Other = timed late (judged_one w)

unfoldable pub of_opening : Bool → ℕ → Reason
of_opening late w = opening_by late w (signal_of (first_of w))

-- Ending, which has no time-out  R-267, R-270
abbrev pub ending_by : Number → ℕ → Signal → Reason
ending_by n w (Signal.Cs m) = if same m n then judged_one w else Reason.Other
ending_by n w Signal.Cs3 = judged_one w
ending_by n w Signal.Other = judged_one w

unfoldable pub of_ending : Number → ℕ → Reason
of_ending n w = ending_by n w (signal_of (first_of w))

-- Receiving. `over` is whether over is offered. A block has neither a bad word nor RQ in it  R-275, R-283, R-284, R-285, R-286
unfoldable pub of_receiving : Bool → Case → Bool → Words → Bool → Reason
of_receiving late c p b over =
    if is_words b ααα then Reason.Alphas
    else if is_block b then accepted_for (listened_all c p b) over
    else timed late (judged_all b)

-- Asking  R-274
unfoldable pub of_asking : Bool → Words → Reason
of_asking late b = if is_words b βαβ then Reason.Turn else timed late (judged_all b)

-- Stand-by, by its own identities and by who is barred  R-266, R-276
unfoldable pub of_stand_by : Waiting → Identity → Seven → Peer → Words → Offer → Reason
of_stand_by w four seven p b o =
    if both_heard w.heard (call_of four b) || all_heard w.heard3 (call3_of seven b) then Reason.Called
    else if is_placed w p o then Reason.CallOffered
    else Reason.Silent

-- Calling, of either kind. No time-out, but 128 bursts sent, where the first word does not stop or complete the call
-- R-268, R-271, R-272, R-277
abbrev pub sent_out : ℕ → Reason → Reason
sent_out sent r = if leb 128 sent then Reason.RunOut else r

abbrev pub calling_by : Mark → ℕ → ℕ → Signal → Reason
calling_by last sent w (Signal.Cs n) = if marks last n then Reason.Either else sent_out sent Reason.Either
calling_by last sent w Signal.Cs3 = Reason.Cs3
calling_by last sent w Signal.Other = sent_out sent (judged_one w)

unfoldable pub of_calling : Mark → ℕ → ℕ → Reason
of_calling last sent w = calling_by last sent w (signal_of (first_of w))

abbrev pub calling3_by : ℕ → ℕ → First → Reason
calling3_by sent w (Cs n) = sent_out sent (judged_one w)
calling3_by sent w Cs3 = Reason.Cs3
calling3_by sent w Rq = sent_out sent (judged_one w)
calling3_by sent w (Else Cs4) = Reason.Cs4
calling3_by sent w (Else Cs5) = Reason.Cs5
calling3_by sent w (Else (Letter v)) = sent_out sent (judged_one w)
calling3_by sent w (Else Other) = sent_out sent (judged_one w)

unfoldable pub of_calling3 : ℕ → ℕ → Reason
of_calling3 sent w = calling3_by sent w (first_of w)

-- Identifying. A wrong check-sum is a repetition unless it ends the call: the same one a second time, or the fifth  R-272, R-278
abbrev pub gives_up : Identified → ℕ → Bool
gives_up i w = (leb 1 i.wrong && eqb w i.last) || leb 4 i.wrong

abbrev pub summing : Bool → Identified → ℕ → ℕ → Reason
summing late i e w =
    if eqb w e then Reason.RightSum
    else if gives_up i w then Reason.WrongSum
    else timed late Reason.WrongSum

abbrev pub comparing_by : Bool → Identified → ℕ → ℕ → First → Reason
comparing_by late i e w (Cs n) = timed late (judged_one w)
comparing_by late i e w Cs3 = timed late (judged_one w)
comparing_by late i e w Rq = timed late (judged_one w)
comparing_by late i e w (Else Cs4) = timed late (judged_one w)
comparing_by late i e w (Else Cs5) = timed late (judged_one w)
comparing_by late i e w (Else (Letter v)) = summing late i e v
comparing_by late i e w (Else Other) = timed late (judged_one w)

abbrev pub finishing_by : Bool → ℕ → First → Reason
finishing_by late w (Cs One) = Reason.Cs1
finishing_by late w (Cs Two) = timed late (judged_one w)
finishing_by late w Cs3 = Reason.Cs3
finishing_by late w Rq = timed late (judged_one w)
finishing_by late w (Else x) = timed late (judged_one w)

abbrev pub identifying_by : Bool → Identified → ℕ → First → Stage → Reason
identifying_by late i w f Stage.One = comparing_by late i (check_sum1 i.to) w f
identifying_by late i w f Stage.Two = comparing_by late i (check_sum2 i.to) w f
identifying_by late i w f Stage.Three = comparing_by late i (check_sum3 i.to) w f
identifying_by late i w f Stage.Four = finishing_by late w f

unfoldable pub of_identifying : Bool → Identified → ℕ → Reason
of_identifying late i w = identifying_by late i w (first_of w) i.stage

-- Answering. By what a block is to the stage; and by the row, which says whether it is a repetition, whichever the identities are
-- R-273, R-275, R-279
abbrev pub due_by : Bool → Due → Reason → Reason
due_by late Due.Awaited rest = Reason.Told
due_by late Due.Before rest = timed late Reason.ToldAgain
due_by late Due.Neither rest = timed late rest

abbrev pub telling_by : Bool → Stage → Told → Reason → Reason
telling_by late s t rest =
    if is_repetition (hearing no_seven no_seven s t) && late then Reason.TimeOut
    else by_name (telling_names s t) rest

unfoldable pub of_answering : Bool → Stage → Words → Reason
of_answering late s b =
    if is_words b ααα then Reason.Alphas
    else if is_words b RQ×3 && is_last s then Reason.Rq
    else telling_by late s (told_in b) (judged_all b)
