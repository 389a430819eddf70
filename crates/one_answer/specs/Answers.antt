-- 02, T-08: "name the reason for the answer". The reason is tied to the answer: whatever the reason, what the step then sends, prints and
-- takes, and where it goes, is told here, a line a reason and a place; so what the help desk says and what the set does cannot disagree.
-- R-293, R-294, R-295
--
-- `sends t w` is an answer that leaves the station t, sends w, prints nothing and takes no offer; `staying` the same station with the count
-- one more; `moved_to s p` the station at the place p, with count 0; `rested s n` the station at Stand-by, nobody at the other end.
-- Assumes nothing.
use Rattle.std.specs.Prelude.{◌≡◌, Bool, true, false, not, ℕ, ◌+◌, ◌<◌, eqb, if◌then◌else◌, Ok}
use Rattle.signals.specs.Units.{intact_of}
use Rattle.signals.specs.Meaning.{alpha, rq, cs1, cs3, cs4}
use Rattle.signals.specs.Numbers.{answered, refused}
use Rattle.identity.specs.declared.Seven.{Seven}
use Rattle.identity.specs.Sums.{check_sum1, check_sum2, check_sum3, same_seven}
use Rattle.mode_a.specs.declared.Role.TheVariants.{Slave}
use Rattle.mode_a.specs.declared.Number.{Number}
use Rattle.mode_a.specs.declared.Number.TheVariants.{One, Two}
use Rattle.mode_a.specs.declared.Mark.{Mark}
use Rattle.mode_a.specs.declared.Stage.{Stage}
use Rattle.mode_a.specs.declared.Words.{Words}
use Rattle.mode_a.specs.declared.Held.{Held}
use Rattle.mode_a.specs.declared.Ended.{Ended}
use Rattle.mode_a.specs.declared.Waiting.{Waiting}
use Rattle.mode_a.specs.declared.Called.{Called}
use Rattle.mode_a.specs.declared.Called3.{Called3}
use Rattle.mode_a.specs.declared.Identified.{Identified}
use Rattle.mode_a.specs.declared.Gathered.{Gathered}
use Rattle.mode_a.specs.declared.Identity.{Identity}
use Rattle.mode_a.specs.declared.Peer.TheVariants.{Four, Known, Barred}
use Rattle.mode_a.specs.declared.Place.{Place}
use Rattle.mode_a.specs.declared.Place.TheVariants.{Sending, Turning, Opening, Ending, Receiving, Asking, StandBy, Lost, Calling, Calling3, Identifying, Answering}
use Rattle.mode_a.specs.declared.Offer.{Offer}
use Rattle.mode_a.specs.declared.Owed.{Owed}
use Rattle.mode_a.specs.declared.Listening.{Listening}
use Rattle.mode_a.specs.declared.Station.{Station}
use Rattle.mode_a.specs.declared.Doing.TheVariants.{Repeats, Answers, Listens, Answers3}
use Rattle.mode_a.specs.declared.Reply.{Reply}
use Rattle.mode_a.specs.Calls.{next_block, next_block3}
use Rattle.mode_a.specs.Identification.{Told, nothing_told, block_1, block_2, block_3, identity_block, with_1, with_2, with_3}
use Rattle.mode_a.specs.Station.{single, silence, βαβ, ααα, RQ×3, other, asks_for, mark_of, marks, list_of}
use Rattle.mode_a.specs.Heard.{Cs, heard_of}
use Rattle.mode_a.specs.Over.{listened_all}
use Rattle.mode_a.specs.Rows.{requests}
use Rattle.mode_a.specs.Step.{stands_at, moved_to, cancelled_to, heard_at, sends, takes, owing, traffic_in, is_over, rested, begun, called, called3, waits_on, knowing, meets, ends, turns, unidentified, stepping, Steps}
use Rattle.runs.specs.Runs.{accepting, next_stage}
use Rattle.reasons.specs.declared.Reason.{Reason}
use Rattle.reasons.specs.Reasons.{heard_by, row_at, not_rq, reason_of, explaining, Explains}
use Rattle.reasons.specs.Conditions.{first_heard, Earliest}

-- a repetition: the same place, the count one more
abbrev pub staying : Station → Station
staying s = stands_at s s.place (s.count + 1) s.case s.plus

-- an accepted block: its traffic signals are printed, and what was heard in it is kept
abbrev pub kept : Station → Words → Listening
kept s b = listened_all s.case s.plus b

abbrev pub accepts : Station → Words → Place → Words → Bool → Reply
accepts s b p w t = record { station = heard_at s p (kept s b); sent = w; printed = traffic_in b; taken = t }

-- What is sent where a place hears what its row does not name, and stays as it is: "All else".  R-060, R-064, R-068, R-081, R-083, R-216, R-221
pub data Asks (s : Station) : Words → Type 0 where
  at_sending_lem : (h : Held) → s.place ≡ Sending h → Asks s RQ×3
  at_turning : (n : Number) → s.place ≡ Turning n → Asks s RQ×3
  at_opening : s.place ≡ Opening → Asks s (requests s.role)
  at_receiving : (n : Number) → s.place ≡ Receiving n → Asks s (asks_for n)
  at_asking : s.place ≡ Asking → Asks s (single cs3)
  at_identifying : (i : Identified) → s.place ≡ Identifying i → Asks s (identity_block s.own.seven i.stage)
  at_answering : (g : Gathered) → s.place ≡ Answering g → g.stage ≡ Stage.One → Asks s (single cs4)
  at_answering_on : (g : Gathered) → s.place ≡ Answering g → ¬ (g.stage ≡ Stage.One) → Asks s (single rq)

-- What the step answers to what the row does not name: it asks again and the count rises; Ending sends ααα again, four times in all, and
-- then goes to Stand-by; a call goes on with its next block.  R-071, R-072, R-100, R-184, R-207
pub data Unnamed (s : Station) : Reply → Type 0 where
  asks_again : (w : Words) → Asks s w → Unnamed s (sends (staying s) w)
  ends_again_lem : (e : Ended) → s.place ≡ Ending e → e.total < 4 →
      Unnamed s (sends (moved_to s (Ending (record { number = e.number; total = e.total + 1 }))) ααα)
  ends_at_last : (e : Ended) → s.place ≡ Ending e → ¬ (e.total < 4) → Unnamed s (sends (rested s 0) silence)
  calls_on_lem : (c : Called) → s.place ≡ Calling c →
      Unnamed s (sends (moved_to s (Calling (record { to = c.to; sent = c.sent + 1; last = Mark.None }))) (next_block c.to c.sent))
  calls_on_3 : (c : Called3) → s.place ≡ Calling3 c →
      Unnamed s (sends (moved_to s (Calling3 (record { to = c.to; sent = c.sent + 1 }))) (next_block3 c.to c.sent))

-- the places from which the 32nd repetition leads to Lost; from the two of identification it leads to Stand-by  R-097, R-222
pub data Loses : Place → Type 0 where
  from_sending : (h : Held) → Loses (Sending h)
  from_turning : (n : Number) → Loses (Turning n)
  from_opening : Loses Opening
  from_receiving : (n : Number) → Loses (Receiving n)
  from_asking : Loses Asking

pub data Leaves : Place → Type 0 where
  from_identifying : (i : Identified) → Leaves (Identifying i)
  from_answering : (g : Gathered) → Leaves (Answering g)

-- the check-sum that answers the identification block which a stage of Answering awaits, and the one before it; y is the own identity
abbrev pub sum_at : Seven → Stage → ℕ
sum_at y Stage.One = check_sum1 y
sum_at y Stage.Two = check_sum2 y
sum_at y Stage.Three = check_sum3 y
sum_at y Stage.Four = check_sum3 y

abbrev pub sum_before : Seven → Stage → ℕ
sum_before y Stage.One = check_sum1 y
sum_before y Stage.Two = check_sum1 y
sum_before y Stage.Three = check_sum2 y
sum_before y Stage.Four = check_sum3 y

-- the signals gathered, with those of the block that is heard
abbrev pub gathered : Seven → Told → Seven
gathered g nothing_told = g
gathered g (block_1 x y) = with_1 g x y
gathered g (block_2 x y) = with_2 g x y
gathered g (block_3 x y z) = with_3 g x y z

abbrev pub got_with : Station → Words → Gathered → Seven
got_with s b g = gathered g.got (heard_by s b).told

-- What the step answers, by the reason
pub data Does (s : Station) (b : Words) (o : Offer) : Reason → Reply → Type 0 where
  -- nothing is sent, and it stays
  silent_lost : s.place ≡ Lost → Does s b o Reason.Silent (sends (moved_to s Lost) silence)
  silent_standing_by : (w v : Waiting) → s.place ≡ StandBy w → row_at s b ≡ Listens v → Does s b o Reason.Silent (waits_on s v)
  -- nothing is sent, and the circuit is given up
  time_out : Loses s.place → Does s b o Reason.TimeOut (sends (moved_to s Lost) silence)
  time_out_identifying : Leaves s.place → Does s b o Reason.TimeOut (sends (rested s 0) silence)
  -- nothing is sent, and the call is given up: 128 steps are left to wait
  run_out : (c : Called) → s.place ≡ Calling c → Does s b o Reason.RunOut (sends (rested s 128) silence)
  run_out_3 : (c : Called3) → s.place ≡ Calling3 c → Does s b o Reason.RunOut (sends (rested (knowing s (Barred c.to)) 0) silence)
  -- the call is answered: CS1 to one of two blocks, CS4 to one of three; the call offered is placed, and taken
  is_called_lem : row_at s b ≡ Answers → Does s b o Reason.Called (sends (begun s Slave (Receiving One)) (asks_for One))
  is_called_3 : row_at s b ≡ Answers3 → Does s b o Reason.Called (sends (begun s Slave unidentified) (single cs4))
  call_offered : (i : Identity) → o ≡ Offer.Call i → Does s b o Reason.CallOffered (called s i)
  call_offered_3 : (i : Seven) → o ≡ Offer.Call3 i → Does s b o Reason.CallOffered (called3 s i)
  -- the block held is sent again
  own_number : (h : Held) → s.place ≡ Sending h → Does s b o Reason.Own (sends (staying s) h.block)
  -- the block held is confirmed, and the offer or what is owed is taken under the other number; the end is confirmed
  other_number : (h : Held) → s.place ≡ Sending h → Does s b o Reason.Other (takes s (other h.number) o)
  other_number_ending : (e : Ended) → s.place ≡ Ending e → Does s b o Reason.Other (sends (rested s 0) silence)
  -- the offer or what is owed is taken under the number asked for; at Calling where it is the second of two alike, else the call goes on
  either : (n : Number) → s.place ≡ Opening → first_heard s b ≡ Cs n → Does s b o Reason.Either (takes s n o)
  either_calling : (n : Number) (c : Called) → s.place ≡ Calling c → first_heard s b ≡ Cs n → marks c.last n ≡ true →
      Does s b o Reason.Either (takes (knowing s (Four c.to)) n o)
  either_calls_on : (n : Number) (c : Called) → s.place ≡ Calling c → first_heard s b ≡ Cs n → marks c.last n ≡ false →
      Does s b o Reason.Either (sends (moved_to s (Calling (record { to = c.to; sent = c.sent + 1; last = mark_of n }))) (next_block c.to c.sent))
  cs1_identifying : (i : Identified) → s.place ≡ Identifying i → Does s b o Reason.Cs1 (takes (knowing s (Known i.to)) One o)
  -- the block held is confirmed and the direction turns; βαβ is sent again; the station goes to Stand-by; the call has failed; the master turns
  cs3_sending : (h : Held) → s.place ≡ Sending h → Does s b o Reason.Cs3 (sends (moved_to (owing s Owed.Nothing) (Turning h.number)) βαβ)
  cs3_turning : (n : Number) → s.place ≡ Turning n → Does s b o Reason.Cs3 (sends (staying s) βαβ)
  cs3_opening : s.place ≡ Opening → Does s b o Reason.Cs3 (sends (rested s 0) silence)
  cs3_calling : (c : Called) → s.place ≡ Calling c → Does s b o Reason.Cs3 (sends (rested s 128) silence)
  cs3_calling_3 : (c : Called3) → s.place ≡ Calling3 c → Does s b o Reason.Cs3 (sends (rested (knowing s (Barred c.to)) 0) silence)
  cs3_identifying : (i : Identified) → s.place ≡ Identifying i → Does s b o Reason.Cs3 (turns (knowing s (Known i.to)))
  -- identification begins; the call ends
  cs4_calling_3 : (c : Called3) → s.place ≡ Calling3 c →
      Does s b o Reason.Cs4 (sends (moved_to s (Identifying (record { to = c.to; stage = Stage.One; wrong = 0; last = 0 }))) (identity_block s.own.seven Stage.One))
  cs5_calling_3 : (c : Called3) → s.place ≡ Calling3 c → Does s b o Reason.Cs5 (ends (knowing s (Barred c.to)))
  -- the turn is completed: it awaits the number that its last block did not have, and asks for it; identification is over
  rq_turning : (n : Number) → s.place ≡ Turning n → Does s b o Reason.Rq (sends (cancelled_to s (Receiving (other n))) (asks_for (other n)))
  rq_answering : (g : Gathered) → s.place ≡ Answering g → Does s b o Reason.Rq (meets (knowing s (Known g.got)) (is_over o))
  -- it goes to Opening and sends RQ as there
  turn : s.place ≡ Asking → Does s b o Reason.Turn (sends (cancelled_to s Opening) (requests s.role))
  -- it asks for the other number, or sends CS1, and goes to Stand-by
  alphas : (n : Number) → s.place ≡ Receiving n → Does s b o Reason.Alphas (sends (rested s 0) (asks_for (other n)))
  alphas_answering : (g : Gathered) → s.place ≡ Answering g → Does s b o Reason.Alphas (sends (rested s 0) (single cs1))
  -- the next identification block goes out; the same one again, the wrong check-sum being counted; the end, where it is the last wrong one
  -- once more; Stand-by, where the block was sent again four times
  right_sum_lem : (i : Identified) → s.place ≡ Identifying i →
      Does s b o Reason.RightSum (sends (moved_to s (Identifying (record { to = i.to; stage = next_stage i.stage; wrong = 0; last = 0 }))) (identity_block s.own.seven (next_stage i.stage)))
  wrong_sum_again : (i : Identified) → s.place ≡ Identifying i → (0 < i.wrong → ¬ (i.last ≡ b.0)) → i.wrong < 4 →
      Does s b o Reason.WrongSum (sends (stands_at s (Identifying (record { to = i.to; stage = i.stage; wrong = i.wrong + 1; last = b.0 })) (s.count + 1) s.case s.plus) (identity_block s.own.seven i.stage))
  wrong_sum_ends : (i : Identified) → s.place ≡ Identifying i → 0 < i.wrong → i.last ≡ b.0 →
      Does s b o Reason.WrongSum (sends (moved_to s (Ending (record { number = Two; total = 1 }))) ααα)
  wrong_sum_rests : (i : Identified) → s.place ≡ Identifying i → ¬ (i.last ≡ b.0) → ¬ (i.wrong < 4) → Does s b o Reason.WrongSum (sends (rested s 0) silence)
  -- the identification block is gathered and answered by its check-sum; the one before it again by its own, or by RQ where it is another
  told : (g : Gathered) → s.place ≡ Answering g →
      Does s b o Reason.Told (sends (moved_to s (Answering (record { stage = next_stage g.stage; got = got_with s b g }))) (single (sum_at s.own.seven g.stage)))
  told_again : (g : Gathered) → s.place ≡ Answering g →
      Does s b o Reason.ToldAgain (sends (stands_at s (Answering (record { stage = g.stage; got = got_with s b g })) (s.count + 1) s.case s.plus) (single (if same_seven g.got (got_with s b g) then sum_before s.own.seven g.stage else rq)))
  -- it asks again, or goes on as it was
  bad : (i w : ℕ) (a : Reply) → Unnamed s a → Does s b o (Reason.Bad i w) a
  repeat : (i : ℕ) (a : Reply) → Unnamed s a → Does s b o (Reason.Repeat i) a
  unexpected : (a : Reply) → Unnamed s a → Does s b o Reason.Unexpected a
  -- the block is accepted and printed: the direction turns, by the over heard, by D in figures, which waits with the offer, or by the over
  -- offered, which is taken; or the next number is asked for
  over_heard : (n : Number) → s.place ≡ Receiving n → (kept s b).asked ≡ false → Does s b o Reason.OverHeard (accepts s b Asking (single cs3) (is_over o))
  over_heard_asked : (n : Number) → s.place ≡ Receiving n → (kept s b).asked ≡ true →
      Does s b o Reason.OverHeard (record { station = owing (heard_at s Asking (kept s b)) (Owed.Keep 0); sent = single cs3; printed = traffic_in b; taken = false })
  who_are_you_lem : (n : Number) → s.place ≡ Receiving n →
      Does s b o Reason.WhoAreYou (record { station = owing (heard_at s Asking (kept s b)) (Owed.Back 0); sent = single cs3; printed = traffic_in b; taken = false })
  over_offered : (n : Number) → s.place ≡ Receiving n → Does s b o Reason.OverOffered (accepts s b Asking (single cs3) true)
  accepted : (n : Number) → s.place ≡ Receiving n → Does s b o Reason.Accepted (accepts s b (Receiving (other n)) (asks_for (other n)) false)

-- the tie, over the definition, and over what the two calls answer  R-293
abbrev pub AnswersForReasons : Type 0
AnswersForReasons = (s : Station) (b : Words) (o : Offer) (a : Reply) → stepping s b o ≡ answered a → Does s b o (reason_of s b o) a

abbrev pub CannotDisagree : Type 0
CannotDisagree =
    (s : Station) (b : Words) (o : Offer) (a : Reply) (r : Reason) → Steps s b o (Ok a) → Explains s b o (Ok r) → Does s b o r a

-- Nothing is left open by a line: the station, the burst, the offer and the reason have one answer  R-293
abbrev pub OneAnswerEach : Type 0
OneAnswerEach = (s : Station) (b : Words) (o : Offer) (r : Reason) (a a' : Reply) → Does s b o r a → Does s b o r a' → a ≡ a'

-- "`why` never says accepted, over heard, over offered or who are you where the step does not accept the block, nor any other reason where it
-- does": `accepting` is what demand 3 counts as an accepted block  R-294
abbrev pub says_accepted : Reason → Bool
says_accepted Reason.Silent = false
says_accepted Reason.TimeOut = false
says_accepted Reason.RunOut = false
says_accepted Reason.Called = false
says_accepted Reason.CallOffered = false
says_accepted Reason.Own = false
says_accepted Reason.Other = false
says_accepted Reason.Either = false
says_accepted Reason.Cs1 = false
says_accepted Reason.Cs3 = false
says_accepted Reason.Cs4 = false
says_accepted Reason.Cs5 = false
says_accepted Reason.Rq = false
says_accepted Reason.Turn = false
says_accepted Reason.Alphas = false
says_accepted Reason.RightSum = false
says_accepted Reason.WrongSum = false
says_accepted Reason.Told = false
says_accepted Reason.ToldAgain = false
says_accepted (Reason.Bad i w) = false
says_accepted (Reason.Repeat i) = false
says_accepted Reason.Unexpected = false
says_accepted Reason.OverHeard = true
says_accepted Reason.WhoAreYou = true
says_accepted Reason.OverOffered = true
says_accepted Reason.Accepted = true

abbrev pub AcceptedExactly : Type 0
AcceptedExactly = (s : Station) (b : Words) (o : Offer) → says_accepted (reason_of s b o) ≡ accepting s.place (heard_of s.own b)

-- The reason is not only some reason: what is printed tells an accepted block from any other answer, whatever the place, and an offer is
-- taken for these reasons alone. A reply that prints has no reason such as a bad word, and one for a bad word takes nothing  R-294
abbrev pub PrintsOnlyAccepted : Type 0
PrintsOnlyAccepted =
    (s : Station) (b : Words) (o : Offer) (r : Reason) (a : Reply) → Does s b o r a → says_accepted r ≡ false → a.printed ≡ silence

abbrev pub AcceptedPrints : Type 0
AcceptedPrints =
    (s : Station) (b : Words) (o : Offer) (r : Reason) (a : Reply) → Does s b o r a → says_accepted r ≡ true → a.printed ≡ traffic_in b

abbrev pub may_take : Reason → Bool
may_take Reason.Silent = false
may_take Reason.TimeOut = false
may_take Reason.RunOut = false
may_take Reason.Called = false
may_take Reason.CallOffered = true
may_take Reason.Own = false
may_take Reason.Other = true
may_take Reason.Either = true
may_take Reason.Cs1 = true
may_take Reason.Cs3 = false
may_take Reason.Cs4 = false
may_take Reason.Cs5 = false
may_take Reason.Rq = true
may_take Reason.Turn = false
may_take Reason.Alphas = false
may_take Reason.RightSum = false
may_take Reason.WrongSum = false
may_take Reason.Told = false
may_take Reason.ToldAgain = false
may_take (Reason.Bad i w) = false
may_take (Reason.Repeat i) = false
may_take Reason.Unexpected = false
may_take Reason.OverHeard = true
may_take Reason.WhoAreYou = false
may_take Reason.OverOffered = true
may_take Reason.Accepted = false

abbrev pub TakenReasons : Type 0
TakenReasons = (s : Station) (b : Words) (o : Offer) (r : Reason) (a : Reply) → Does s b o r a → a.taken ≡ true → may_take r ≡ true

-- "Refusals: 4 and 3 as for the step": the question is refused where the step is, by the same number and value  R-288
pub record RefusedAlike (s : Station) (b : Words) (o : Offer) : Type 0 where
  pub as_the_step : (n v : ℕ) → stepping s b o ≡ refused n v → explaining s b o ≡ refused n v
  pub as_the_question : (n v : ℕ) → explaining s b o ≡ refused n v → stepping s b o ≡ refused n v

abbrev pub EachRefusedAlike : Type 0
EachRefusedAlike = (s : Station) (b : Words) (o : Offer) → RefusedAlike s b o

-- "Why did it ask again?": a station at Receiving that asks for the same number again, and does not give up, has heard a mutilated word,
-- or else an RQ, or else three intact words that are no block, of which one is α; and says which  R-295
abbrev pub is_no_alpha : ℕ → Bool
is_no_alpha w = not (eqb w alpha)

pub data AskedAgain (b : Words) : Reason → Type 0 where
  for_bad : (i w : ℕ) → Earliest intact_of (list_of b) i w → AskedAgain b (Reason.Bad i w)
  for_rq : (i : ℕ) → Earliest not_rq (list_of b) i rq → AskedAgain b (Reason.Repeat i)
  for_other : (i : ℕ) → Earliest is_no_alpha (list_of b) i alpha → AskedAgain b Reason.Unexpected

abbrev pub WhyItAskedAgain : Type 0
WhyItAskedAgain =
    (s : Station) (b : Words) (o : Offer) (n : Number) (w : Words) → s.place ≡ Receiving n → row_at s b ≡ Repeats w → s.count < 31 →
    AskedAgain b (reason_of s b o)
