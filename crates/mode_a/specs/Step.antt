-- 01, The station: "One step: hear a burst, take an offer, answer with the new station, a burst to send, up to three printed
-- signals, and whether the offer was taken."  R-039, R-040. With calls as 02, T-02 and T-05 have them, and answer-back as T-06.
-- Assumes nothing.
use Rattle.std.specs.Prelude.{◌≡◌, Bool, true, false, not, ◌&&◌, List, [], ◌∷◌, ◌++◌, ℕ, ◌+◌, ◌-◌, eqb, leb, ltb, length, get_or, if◌then◌else◌, Result, Ok, Err}
use Rattle.signals.specs.declared.Case.{Case}
use Rattle.signals.specs.declared.Case.TheVariants.{Letters}
use Rattle.signals.specs.Meaning.{beta, cs3, cs4}
use Rattle.signals.specs.Numbers.{Answer, answered, refused, first_not}
use Rattle.mode_a.specs.declared.Role.{Role}
use Rattle.mode_a.specs.declared.Role.TheVariants.{Master, Slave}
use Rattle.mode_a.specs.declared.Number.{Number}
use Rattle.mode_a.specs.declared.Number.TheVariants.{One, Two}
use Rattle.mode_a.specs.declared.Mark.{Mark}
use Rattle.mode_a.specs.declared.Identity.{Identity}
use Rattle.mode_a.specs.declared.Stage.{Stage}
use Rattle.mode_a.specs.declared.Own.{Own}
use Rattle.mode_a.specs.declared.Code.{Code}
use Rattle.mode_a.specs.declared.Owed.{Owed}
use Rattle.mode_a.specs.declared.Peer.{Peer}
use Rattle.mode_a.specs.declared.Peer.TheVariants.{Nobody, Four, Known, Barred}
use Rattle.mode_a.specs.declared.Waiting.{Waiting}
use Rattle.mode_a.specs.declared.Words.{Words}
use Rattle.mode_a.specs.declared.Place.{Place}
use Rattle.mode_a.specs.declared.Place.TheVariants.{Sending, Turning, Opening, Ending, Receiving, Asking, StandBy, Lost, Calling, Calling3, Identifying, Answering}
use Rattle.mode_a.specs.declared.Offer.{Offer}
use Rattle.mode_a.specs.declared.Station.{Station}
use Rattle.mode_a.specs.declared.Doing.{Doing}
use Rattle.mode_a.specs.declared.Doing.TheVariants.{Repeats, Goes, Takes, Receives, Opens, Accepts, Rests, Answers, Listens, Reaches, Answers3, Bars, Ends, Turns, Meets, Again, Yields}
use Rattle.mode_a.specs.declared.Reply.{Reply}
use Rattle.mode_a.specs.declared.Refusal.{Refusal}
use Rattle.mode_a.specs.declared.Refused.{Refused}
use Rattle.mode_a.specs.declared.BadCode.{BadCode}
use Rattle.identity.specs.declared.Seven.{Seven}
use Rattle.identity.specs.Table3.{is_identity}
use Rattle.identity.specs.Sums.{signals_of7, same_seven}
use Rattle.mode_a.specs.Calls.{signals_of, call_block1, call3_block1}
use Rattle.mode_a.specs.Station.{words, list_of, single, silence, βαβ, ααα, other, asks_for, resting, no_seven}
use Rattle.mode_a.specs.Heard.{may_hold, heard_of}
use Rattle.mode_a.specs.declared.Listening.{Listening}
use Rattle.mode_a.specs.Over.{listened_all}
use Rattle.mode_a.specs.Answerback.{passes, βββ, figures+?, block_owed, owed_then, owed_exists}
use Rattle.mode_a.specs.Rows.{row_of, requests}

-- the station at a place, with this count, case and +; its role, its identity and code, who is at the other end and what is owed stay
-- R-190, R-240
abbrev pub stands_at : Station → Place → ℕ → Case → Bool → Station
stands_at s p k c t =
    record { role = s.role; place = p; count = k; case = c; plus = t; own = s.own; other = s.other; owed = s.owed }

-- at another place, with count 0: "Then, and after every other step, the count is 0."  R-099
abbrev pub moved_to : Station → Place → Station
moved_to s p = stands_at s p 0 s.case s.plus

-- the same, with no + heard any more: "so does the step from Asking to Opening or from Turning to Receiving"  R-089
abbrev pub cancelled_to : Station → Place → Station
cancelled_to s p = stands_at s p 0 s.case false

-- an answer that prints nothing and takes no offer
abbrev pub sends : Station → Words → Reply
sends s w = record { station = s; sent = w; printed = silence; taken = false }

-- "take the offer (nothing counts as taken too) .. Text gives that block, nothing gives βββ, over gives figures + ?, end gives
-- ααα and place Ending."  R-052, R-053, R-054, R-055, R-056, R-057. A call is not taken here, and
-- gives βββ as nothing does.  R-191
abbrev pub holds : Station → Number → Words → Bool → Reply
holds s n w t =
    record { station = moved_to s (Sending (record { number = n; block = w })); sent = w; printed = silence; taken = t }

abbrev pub takes_offer : Station → Number → Offer → Reply
takes_offer s n (Offer.Text w) = holds s n w true
takes_offer s n Offer.Over = holds s n figures+? true
takes_offer s n Offer.End =
    record { station = moved_to s (Ending (record { number = n; total = 1 })); sent = ααα; printed = silence; taken = true }
takes_offer s n Offer.Nothing = holds s n βββ true
takes_offer s n (Offer.Call i) = holds s n βββ false
takes_offer s n (Offer.Call3 i) = holds s n βββ false

-- 02, T-06: "an operator's own offer .. waits meanwhile and is reported as not taken": where a part of an answer is owed, its next block is
-- taken in the place of the offer, whatever is offered  R-238
abbrev pub owing : Station → Owed → Station
owing s w =
    record { role = s.role; place = s.place; count = s.count; case = s.case; plus = s.plus; own = s.own; other = s.other; owed = w }

abbrev pub takes_owed : Station → Number → Owed → Reply
takes_owed s n w = holds (owing s (owed_then s.own.code w)) n (block_owed s.own.code w) false

abbrev pub takes_by : Station → Number → Offer → Owed → Reply
takes_by s n o Owed.Nothing = takes_offer s n o
takes_by s n o (Owed.Back i) = takes_owed s n (Owed.Back i)
takes_by s n o (Owed.Keep i) = takes_owed s n (Owed.Keep i)

abbrev pub takes : Station → Number → Offer → Reply
takes s n o = takes_by s n o s.owed

-- "the traffic signals are printed": the words of the block in order, β left out, 0 behind them  R-074
abbrev pub withoutβ : List ℕ → List ℕ
withoutβ [] = []
withoutβ (w ∷ ws) = if eqb w beta then withoutβ ws else w ∷ withoutβ ws

abbrev pub three : List ℕ → Words
three ws = words (get_or ws 0 0) (get_or ws 1 0) (get_or ws 2 0)

unfoldable pub traffic_in : Words → Words
traffic_in b = three (withoutβ (list_of b))

abbrev pub is_over : Offer → Bool
is_over (Offer.Text w) = false
is_over Offer.Over = true
is_over Offer.End = false
is_over Offer.Nothing = false
is_over (Offer.Call i) = false
is_over (Offer.Call3 i) = false

-- "it awaits the other number and asks for it by CS1 or CS2. But if the over was heard in this block, or the offer is over, it
-- sends CS3 and goes to Asking (an over offered then counts as taken, no other offer does)."  R-075, R-076, R-077, R-078, R-079
abbrev pub heard_at : Station → Place → Listening → Station
heard_at s p l = stands_at s p 0 l.case l.plus

abbrev pub accepts_by : Station → Number → Words → Bool → Listening → Reply
accepts_by s n b true l =
    record { station = heard_at s Asking l; sent = single cs3; printed = traffic_in b; taken = true }
accepts_by s n b false l =
    if l.over then record { station = heard_at s Asking l; sent = single cs3; printed = traffic_in b; taken = false }
    else record { station = heard_at s (Receiving (other n)) l; sent = asks_for (other n); printed = traffic_in b; taken = false }

-- 02, T-06: "a receiver that prints D in figures turns the direction, sends its code .. if the over stood in the same block, it keeps the
-- direction"; "an over at the block with D too, waits": the block is printed, CS3 sent, and no offer is taken  3.7.13.2, R-231, R-232, R-233, R-235
abbrev pub owed_for : Listening → Owed
owed_for l = if l.over then Owed.Keep 0 else Owed.Back 0

abbrev pub is_asked : Station → Words → Listening → Reply
is_asked s b l =
    record { station = owing (heard_at s Asking l) (owed_for l); sent = single cs3; printed = traffic_in b; taken = false }

abbrev pub accepts_heard : Station → Number → Words → Offer → Listening → Reply
accepts_heard s n b o l = if l.asked then is_asked s b l else accepts_by s n b (is_over o) l

abbrev pub accepts : Station → Number → Words → Offer → Reply
accepts s n b o = accepts_heard s n b o (listened_all s.case s.plus b)

-- "Repetition count: steps in a row, at Sending, Turning, Opening, Receiving or Asking, in which the station neither changes place,
-- nor confirms, nor accepts. The 32nd makes it Lost and silent, with no offer taken."  R-096, R-097, R-098, R-099
abbrev pub repeats : Station → Words → Reply
repeats s w =
    if leb 31 s.count then sends (moved_to s Lost) silence
    else sends (stands_at s s.place (s.count + 1) s.case s.plus) w

-- 02, T-02: a station that goes to Stand-by, with so many steps to wait and nobody at the other end; an identity that is barred stays, and
-- then 128 steps are left to wait (T-05: "waits .. before sending the same call signal again"). Nothing is owed there  R-190, R-223, R-240
abbrev pub left_at : Peer → Peer
left_at Nobody = Nobody
left_at (Four i) = Nobody
left_at (Known i) = Nobody
left_at (Barred i) = Barred i

abbrev pub wait_at : Peer → ℕ → ℕ
wait_at Nobody n = n
wait_at (Four i) n = n
wait_at (Known i) n = n
wait_at (Barred i) n = 128

abbrev pub rested : Station → ℕ → Station
rested s n =
    record {
      role = s.role;
      place = resting (wait_at s.other n);
      count = 0;
      case = s.case;
      plus = s.plus;
      own = s.own;
      other = left_at s.other;
      owed = Owed.Nothing;
    }

-- a station that places or answers a call: in letters case, with no + heard, nobody at the other end and nothing owed  R-189, R-240
abbrev pub begun : Station → Role → Place → Station
begun s r p =
    record { role = r; place = p; count = 0; case = Letters; plus = false; own = s.own; other = Nobody; owed = Owed.Nothing }

-- "the master sends call blocks 1 and 2 in turn": the first burst goes out in the step that takes the offer  R-181
abbrev pub called : Station → Identity → Reply
called s i =
    record {
      station = begun s Master (Calling (record { to = i; sent = 1; last = Mark.None }));
      sent = call_block1 i;
      printed = silence;
      taken = true;
    }

-- the same with three blocks  R-202
abbrev pub called3 : Station → Seven → Reply
called3 s i =
    record {
      station = begun s Master (Calling3 (record { to = i; sent = 1 }));
      sent = call3_block1 i;
      printed = silence;
      taken = true;
    }

-- "waits 128 cycles in stand-by": one step less is left to wait  R-182, R-188, R-195
abbrev pub waits_on : Station → Waiting → Reply
waits_on s w = sends (moved_to s (StandBy (record { wait = w.wait - 1; heard = w.heard; heard3 = w.heard3 }))) silence

-- "before sending the same call signal again": a three-block call waits where its own identity is barred  R-202
abbrev pub bars : Peer → Seven → Bool
bars Nobody i = false
bars (Four j) i = false
bars (Known j) i = false
bars (Barred j) i = same_seven j i

abbrev pub listens : Station → Waiting → Offer → Reply
listens s w (Offer.Text b) = waits_on s w
listens s w Offer.Over = waits_on s w
listens s w Offer.End = waits_on s w
listens s w Offer.Nothing = waits_on s w
listens s w (Offer.Call i) = if eqb w.wait 0 then called s i else waits_on s w
listens s w (Offer.Call3 i) = if leb 1 w.wait && bars s.other i then waits_on s w else called3 s i

-- the same station, with this one at the other end, or barred  R-186, R-204, R-205, R-214, R-215, R-218
abbrev pub knowing : Station → Peer → Station
knowing s p =
    record { role = s.role; place = s.place; count = s.count; case = s.case; plus = s.plus; own = s.own; other = p; owed = s.owed }

-- "32 successive repetitions lead to stand-by" (02, T-05): a repetition in identification, at the same place, standing so  3.6.18, R-222
abbrev pub again : Station → Place → Words → Reply
again s p w =
    if leb 31 s.count then sends (rested s 0) silence
    else sends (stands_at s p (s.count + 1) s.case s.plus) w

-- "control signal 1, thus starting the traffic flow .. or control signal 3, if the called station is required to start the traffic flow":
-- where over is offered, which is then taken  3.6.9, R-218
abbrev pub meets : Station → Bool → Reply
meets s true = record { station = moved_to s Asking; sent = single cs3; printed = silence; taken = true }
meets s false = sends (moved_to s (Receiving One)) (asks_for One)

-- the end that answers CS5, and the turn behind identification, after which block 1 is asked for  R-204, R-215
abbrev pub ends : Station → Reply
ends s = sends (moved_to s (Ending (record { number = Two; total = 1 }))) ααα

abbrev pub turns : Station → Reply
turns s = sends (moved_to s (Turning Two)) βαβ

abbrev pub unidentified : Place
unidentified = Answering (record { stage = Stage.One; got = no_seven })

unfoldable pub done : Station → Words → Offer → Doing → Reply
done s b o (Repeats w) = repeats s w
done s b o (Goes p w) = sends (moved_to s p) w
done s b o (Takes n) = takes s n o
done s b o (Receives n) = sends (cancelled_to s (Receiving n)) (asks_for n)
done s b o Opens = sends (cancelled_to s Opening) (requests s.role)
done s b o (Accepts n) = accepts s n b o
done s b o (Rests n w) = sends (rested s n) w
done s b o Answers = sends (begun s Slave (Receiving One)) (asks_for One)
done s b o (Listens w) = listens s w o
done s b o (Reaches p n) = takes (knowing s p) n o
done s b o Answers3 = sends (begun s Slave unidentified) (single cs4)
done s b o (Bars i) = sends (rested (knowing s (Barred i)) 0) silence
done s b o (Ends i) = ends (knowing s (Barred i))
done s b o (Turns i) = turns (knowing s (Known i))
done s b o (Meets i) = meets (knowing s (Known i)) (is_over o)
done s b o (Again p w) = again s p w
done s b o (Yields n) = sends (moved_to (owing s Owed.Nothing) (Turning n)) βαβ

-- 01, Numbers returned, for the step. "mode A step 4, 3"  R-134, R-135; 8 is "checked before all others at the call" (02, T-02), and 9 is
-- "after 4" (T-06): 8, 4, 9, 3  R-243
--     8   "an identity signal outside table 3a", of the call that is offered                                 index of the first      R-192
--         "8 also for a self-identity" (02, T-05): of the identity called, and then of the own one that identification tells       R-224
--     4   "station with count over 31, an Ending total not 1 to 4, or a held word neither traffic nor β"      "0"                     R-129
--         "01's test of it change" (02, T-06): an owed block that the answer does not have                                        R-241
--     9   "a code over 20 signals, with a word that isn't traffic, or holding D in figures or an over from   0                       R-242
--         either case, after 4" (02, T-06)
--     3   "a word that may not stand there: text offer (traffic, β)"                                         "index of the first"    R-128
-- All are judged at every place.
abbrev pub sound_place : Place → Bool
sound_place (Sending h) = leb 3 (first_not may_hold (list_of h.block))
sound_place (Turning n) = true
sound_place Opening = true
sound_place (Ending e) = leb 1 e.total && leb e.total 4
sound_place (Receiving n) = true
sound_place Asking = true
sound_place (StandBy w) = true
sound_place Lost = true
sound_place (Calling c) = true
sound_place (Calling3 c) = true
sound_place (Identifying i) = true
sound_place (Answering g) = true

unfoldable pub sound : Station → Bool
sound s = leb s.count 31 && (sound_place s.place && owed_exists s.own.code s.owed)

abbrev pub offered : Offer → List ℕ
offered (Offer.Text w) = list_of w
offered Offer.Over = []
offered Offer.End = []
offered Offer.Nothing = []
offered (Offer.Call i) = []
offered (Offer.Call3 i) = []

abbrev pub called_to : Own → Offer → List ℕ
called_to own (Offer.Text w) = []
called_to own Offer.Over = []
called_to own Offer.End = []
called_to own Offer.Nothing = []
called_to own (Offer.Call i) = signals_of i
called_to own (Offer.Call3 i) = signals_of7 i ++ signals_of7 own.seven

unfoldable pub stepping : Station → Words → Offer → Answer Reply
stepping s b o =
    if ltb (first_not is_identity (called_to s.own o)) (length (called_to s.own o)) then refused 8 (first_not is_identity (called_to s.own o))
    else if not (sound s) then refused 4 0
    else if not (passes s.own.code) then refused 9 0
    else if ltb (first_not may_hold (offered o)) (length (offered o)) then refused 3 (first_not may_hold (offered o))
    else answered (done s b o (row_of s.own s.role s.place (heard_of s.own b)))

-- each case of the answer, by 01's number and the value beside it  R-167
abbrev pub said_refusal : {A : Type 0} → Refusal → Answer A
said_refusal Refusal.BadStation = refused 4 0
said_refusal Refusal.BadCode = refused 9 0
said_refusal (Refusal.BadWord i) = refused 3 i
said_refusal (Refusal.BadCall i) = refused 8 i

-- The promise of `Refusal::told`: t is the number and the value beside it.
abbrev pub TellsRefusal : Refusal → ℕ × ℕ → Type 0
TellsRefusal e t = said_refusal {A = Reply} e ≡ refused t.0 t.1

abbrev pub said_stepped : Result Reply Refused → Answer Reply
said_stepped (Ok r) = answered r
said_stepped (Err e) = said_refusal e.why

-- the station that the answer hands back: "A refusal prints and sends nothing .. and hands back the same station."  R-136, R-138: a
-- refusal has no burst and no printed signals
abbrev pub handed_back : Result Reply Refused → Station
handed_back (Ok r) = r.station
handed_back (Err e) = e.station

abbrev pub station_after : Station → Answer Reply → Station
station_after s (answered r) = r.station
station_after s (refused n v) = s

-- The promise of `step`: r is the answer to a step of the station s.  R-168
abbrev pub Steps : Station → Words → Offer → Result Reply Refused → Type 0
Steps s b o r = (said_stepped r ≡ stepping s b o) × (handed_back r ≡ station_after s (stepping s b o))

-- 02, T-06: the station with this code, and nothing owed of an answer; or "9, a code over 20 signals, ..", and the same station  R-244
abbrev pub coded : Station → Code → Station
coded s c =
    record {
      role = s.role;
      place = s.place;
      count = s.count;
      case = s.case;
      plus = s.plus;
      own = record { four = s.own.four; seven = s.own.seven; code = c };
      other = s.other;
      owed = Owed.Nothing;
    }

unfoldable pub coding : Station → Code → Answer Station
coding s c = if passes c then answered (coded s c) else refused 9 0

abbrev pub said_coded : Result Station BadCode → Answer Station
said_coded (Ok s) = answered s
said_coded (Err e) = refused 9 0

abbrev pub coded_back : Result Station BadCode → Station
coded_back (Ok s) = s
coded_back (Err e) = e.0

abbrev pub station_with : Station → Answer Station → Station
station_with s (answered t) = t
station_with s (refused n v) = s

-- The promise of `with_code`: r is the answer for the station s and the code c.
abbrev pub Codes : Station → Code → Result Station BadCode → Type 0
Codes s c r = (said_coded r ≡ coding s c) × (coded_back r ≡ station_with s (coding s c))
