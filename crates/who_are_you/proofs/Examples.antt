-- Worked answers (02, T-06; 001, 3.7.13.2): single runs, computed step by step. The station has a code, is asked by a block with D in
-- figures, and hears what the far end sends while it answers; its operator offers the text T E A at every step.
--     answered_and_turned_back   the code, βββ, βββ and the over, block by block; then the far end's CS3, and no text was taken
--     direction_kept             the over in the same block as D: no over is sent, and the text goes out behind the second βββ
--     empty_code_answers         βββ, βββ, the over
--     plus_kept_at_the_end       a code that ends in + leaves a + kept at the far end, which the operator's own ? completes where the
--                                direction is kept
--     d_behind_letters_passes    a code that begins with D passes where a letters shift stands before it
--     code_of_20_passes          a code of 20 signals passes, and a station is given it
--     code_given_in_traffic      a station that is given a code in the midst of traffic: all its fields are as they were, but the code, and it
--                                owes nothing
--     answer_is_reached          the premises of the whole answer are met by a run that takes all of it
--     answer_is_cut              and where CS3 comes the block held is the last one that was taken
--     answer_is_heard            the premises of no answer to answers are met by a station that accepts all of an answer, with its over
-- Assumes nothing.
use mathlib.Core.Path.{◌≡◌, refl, ◌∙◌}
use mathlib.Core.Bool.{Bool, true, false, not, ◌&&◌, ◌||◌, and-false, and-eq-true_iff}
use mathlib.Core.List.{List, [], ◌∷◌, ◌++◌}
use Prim.Native.Nat.{ℕ}
use borrow.Author.Tests.{not-true}
use Rattle.std.specs.Prelude.{Ok}
use Rattle.signals.specs.declared.Case.TheVariants.{Figures}
use Rattle.signals.specs.Meaning.{meaning_of, traffic_of, word_no, letters, figures, beta, cs1, cs2, cs3}
use Rattle.signals.specs.Numbers.{Answer, answered, refused, first_not}
use Rattle.mode_a.specs.declared.Role.TheVariants.{Master, Slave}
use Rattle.mode_a.specs.declared.Number.{Number}
use Rattle.mode_a.specs.declared.Number.TheVariants.{One, Two}
use Rattle.mode_a.specs.declared.Words.{Words}
use Rattle.mode_a.specs.declared.Code.{Code}
use Rattle.mode_a.specs.declared.Owed.{Owed}
use Rattle.mode_a.specs.declared.Peer.TheVariants.{Nobody, Known}
use Rattle.mode_a.specs.declared.Place.{Place}
use Rattle.mode_a.specs.declared.Place.TheVariants.{Sending, Turning, Opening, Receiving, Asking}
use Rattle.mode_a.specs.declared.Offer.{Offer}
use Rattle.mode_a.specs.declared.Station.{Station}
use Rattle.mode_a.specs.declared.Reply.{Reply}
use Rattle.mode_a.specs.Station.{words, single, silence, βαβ, RQ×3, asks_for, no_code, fresh_slave}
use Rattle.mode_a.specs.Heard.{first_of, may_hold, is_block, is_words, heard_of}
use Rattle.mode_a.specs.Over.{cross, query, who, listened, listened_all}
use Rattle.mode_a.specs.Answerback.{code_signals, holds_neither, passes, βββ, figures+?, answer_keeping, answer_of, block_owed, owed_then, owed_exists}
use Rattle.mode_a.specs.Step.{sends, traffic_in, owed_for, done, sound, stepping, coded, coding, Codes}
use Rattle.runs.specs.Places.{is_sending, is_opening, is_receiving}
use Rattle.runs.specs.Runs.{Event, Run, start, ◌▷◌, said, after, is_taken}
use Rattle.who_are_you.specs.Answers.{asks, taken_at, taken_in, is_cs3, Uncut}
use Rattle.who_are_you.specs.Quiet.{accepted_of, accepted_blocks, StaysReceiving}

-- T E A; a burst heard, and that text offered
abbrev pub tea : Words
tea = words (word_no 20) (word_no 5) (word_no 1)

abbrev pub hears : Words → Event
hears b = record { burst = b; offer = Offer.Text tea }

-- what an answer sends; what a station sends in a run, and whether each step reports the offer as taken
abbrev pub sent_of : Answer Reply → Words
sent_of (answered r) = r.sent
sent_of (refused n v) = silence

abbrev pub sent_in : Station → Run → List Words
sent_in s start = []
sent_in s (run ▷ e) = sent_in s run ++ sent_of (said (after s run) e) ∷ []

abbrev pub reported_in : Station → Run → List Bool
reported_in s start = []
reported_in s (run ▷ e) = reported_in s run ++ is_taken (said (after s run) e) ∷ []

-- What is so of a run so far: the station then, and what it has sent, reported, taken and accepted. One step more is one computation at
-- the station then, which is written out.
pub record SoFar (s : Station) (run : Run) (t : Station) (sent : List Words) (reported : List Bool) (taken accepted : List Words) : Type 0 where
  pub after_is : after s run ≡ t
  pub sent_are : sent_in s run ≡ sent
  pub reported_are : reported_in s run ≡ reported
  pub taken_are : taken_in s run ≡ taken
  pub accepted_are : accepted_blocks s run ≡ accepted

begin : (s : Station) → SoFar s start s [] [] [] []
unfolding taken_in accepted_blocks
begin s = record { after_is = refl; sent_are = refl; reported_are = refl; taken_are = refl; accepted_are = refl }

module _ {s : Station} {run : Run} {t : Station} {sent : List Words} {reported : List Bool} {taken accepted : List Words} where
  then_to : (r : Reply) (e : Event) → SoFar s run t sent reported taken accepted → said t e ≡ answered r → SoFar s (run ▷ e) r.station (sent ++ r.sent ∷ []) (reported ++ r.taken ∷ []) (taken ++ taken_at t e (answered r)) (accepted ++ accepted_of t e (answered r))
  unfolding taken_in accepted_blocks
  then_to r e f a = record {
    after_is = rw (f.after_is, a);
    sent_are = rw (f.after_is, a, f.sent_are);
    reported_are = rw (f.after_is, a, f.reported_are);
    taken_are = rw (f.after_is, a, f.taken_are);
    accepted_are = rw (f.after_is, a, f.accepted_are);
  }

  then_receiving : (e : Event) → SoFar s run t sent reported taken accepted → is_receiving t.place ≡ true → StaysReceiving s run → StaysReceiving s (run ▷ e)
  unfolding StaysReceiving
  then_receiving e f i u = (u, rw f.after_is i)

-- a run is uncut where no burst of it has CS3 first
abbrev no_cs3 : Run → Bool
no_cs3 start = true
no_cs3 (run ▷ e) = no_cs3 run && not (is_cs3 (first_of e.burst.0))

uncut : (s : Station) (run : Run) → no_cs3 run ≡ true → Uncut s run
unfolding Uncut
uncut s start n = tt
uncut s (run ▷ e) n =
    let p = (and-eq-true_iff (no_cs3 run) _).0 n in
    (uncut s run p.0, rw (not-true (is_cs3 (first_of e.burst.0)) p.1) (and-false (is_sending (after s run).place || is_opening (after s run).place)))

-- a code of so many signals, in its first two blocks
abbrev pub code_of : ℕ → Words → Words → Code
code_of n b d =
    record { length = n; first = b; second = d; third = silence; fourth = silence; fifth = silence; sixth = silence; seventh = silence }

-- a slave with a code, at a place, in figures, with this + kept and this owed; one that was given the code
abbrev pub slave_at : Code → Place → Bool → Owed → Station
slave_at k p t w =
    record { role = Slave; place = p; count = 0; case = Figures; plus = t; own = (coded fresh_slave k).own; other = Nobody; owed = w }

abbrev pub at : Code → Place → Owed → Station
at k p w = slave_at k p false w

abbrev pub holding : Number → Words → Place
holding n b = Sending (record { number = n; block = b })

-- the code "figures 4 2 letters A", of five signals (4 is the figure of R, 2 of W), and its blocks: the second is filled with β
abbrev pub code : Code
code = code_of 5 (words figures (word_no 18) (word_no 23)) (words letters (word_no 1) 0)

abbrev pub code_1 : Words
code_1 = words figures (word_no 18) (word_no 23)

abbrev pub code_2 : Words
code_2 = words letters (word_no 1) beta

abbrev pub set : Station
set = coded fresh_slave code

-- the code "figures +"
abbrev pub code_plus : Code
code_plus = code_of 2 (words figures cross 0) silence

code_given : Codes fresh_slave code (Ok set)
unfolding coding passes code_signals holds_neither first_not traffic_of meaning_of listened
code_given = (refl, refl)

pub d_behind_letters_passes : passes (code_of 2 (words letters who 0) silence) ≡ true
unfolding passes code_signals holds_neither first_not traffic_of meaning_of listened
d_behind_letters_passes = refl

-- so many times A
abbrev pub aaa : Words
aaa = words (word_no 1) (word_no 1) (word_no 1)

abbrev pub code_a : ℕ → Code
code_a n = record { length = n; first = aaa; second = aaa; third = aaa; fourth = aaa; fifth = aaa; sixth = aaa; seventh = aaa }

pub code_of_20_passes : (passes (code_a 20) ≡ true) × Codes fresh_slave (code_a 20) (Ok (coded fresh_slave (code_a 20)))
unfolding coding passes code_signals holds_neither first_not traffic_of meaning_of listened
code_of_20_passes = (refl, (refl, refl))

-- in the midst of traffic: a master that holds a block, has repeated it five times, has both identities and knows who is at the other end, with
-- figures case and a + kept of the direction that it received; given a code while it owes
abbrev pub busy : Code → Owed → Station
busy k w =
    record {
      role = Master;
      place = holding Two tea;
      count = 5;
      case = Figures;
      plus = true;
      own = record {
        four = record { 0 = word_no 17; 1 = word_no 3; 2 = word_no 22; 3 = word_no 24 };
        seven = record { 0 = 45; 1 = 86; 2 = 71; 3 = 85; 4 = 83; 5 = 114; 6 = 43 };
        code = k;
      };
      other = Known (record { 0 = 45; 1 = 86; 2 = 71; 3 = 85; 4 = 83; 5 = 114; 6 = 39 });
      owed = w;
    }

pub code_given_in_traffic : Codes (busy code_plus (Owed.Back 1)) code (Ok (busy code Owed.Nothing))
unfolding coding passes code_signals holds_neither first_not traffic_of meaning_of listened
code_given_in_traffic = (refl, refl)

-- the question, and what it is answered by: CS3, and the answer owed
abbrev pub question : Words
question = words figures who beta

abbrev pub turned : Code → Owed → Words → Reply
turned k w b = record { station = at k Asking w; sent = single cs3; printed = b; taken = false }

pub question_asked : said set (hears question) ≡ answered (turned code (Owed.Back 0) (words figures who 0))
unfolding stepping sound owed_exists passes code_signals holds_neither done first_not is_block may_hold traffic_of meaning_of heard_of first_of is_words listened traffic_in block_owed owed_then answer_of answer_keeping
question_asked = refl

-- the far end sends βαβ, and then asks for each block
abbrev pub asked_twice : Run
asked_twice = start ▷ hears βαβ ▷ hears (single cs1) ▷ hears (single cs2)

abbrev pub asked_five : Run
asked_five = asked_twice ▷ hears (single cs1) ▷ hears (single cs2) ▷ hears (single cs1)

pub two_blocks : SoFar (at code Asking (Owed.Back 0)) asked_twice (at code (holding Two code_2) (Owed.Back 2)) (RQ×3 ∷ code_1 ∷ code_2 ∷ []) (false ∷ false ∷ false ∷ []) (code_1 ∷ code_2 ∷ []) []
unfolding stepping sound owed_exists passes code_signals holds_neither done first_not is_block may_hold traffic_of meaning_of heard_of first_of is_words listened traffic_in block_owed owed_then answer_of answer_keeping
two_blocks =
    let s0 = begin (at code Asking (Owed.Back 0)) in
    let s1 = then_to (sends (at code Opening (Owed.Back 0)) RQ×3) (hears βαβ) s0 refl in
    let s2 = then_to (sends (at code (holding One code_1) (Owed.Back 1)) code_1) (hears (single cs1)) s1 refl in
    then_to (sends (at code (holding Two code_2) (Owed.Back 2)) code_2) (hears (single cs2)) s2 refl

pub five_blocks : SoFar (at code Asking (Owed.Back 0)) asked_five (at code (holding One figures+?) Owed.Nothing) (RQ×3 ∷ code_1 ∷ code_2 ∷ βββ ∷ βββ ∷ figures+? ∷ []) (false ∷ false ∷ false ∷ false ∷ false ∷ false ∷ []) (code_1 ∷ code_2 ∷ βββ ∷ βββ ∷ figures+? ∷ []) []
unfolding stepping sound owed_exists passes code_signals holds_neither done first_not is_block may_hold traffic_of meaning_of heard_of first_of is_words listened traffic_in block_owed owed_then answer_of answer_keeping
five_blocks =
    let s4 = then_to (sends (at code (holding One βββ) (Owed.Back 3)) βββ) (hears (single cs1)) two_blocks refl in
    let s5 = then_to (sends (at code (holding Two βββ) (Owed.Back 4)) βββ) (hears (single cs2)) s4 refl in
    then_to (sends (at code (holding One figures+?) Owed.Nothing) figures+?) (hears (single cs1)) s5 refl

-- the far end answers the over by CS3
pub answered_and_turned_back : SoFar (at code Asking (Owed.Back 0)) (asked_five ▷ hears (single cs3)) (at code (Turning One) Owed.Nothing) (RQ×3 ∷ code_1 ∷ code_2 ∷ βββ ∷ βββ ∷ figures+? ∷ βαβ ∷ []) (false ∷ false ∷ false ∷ false ∷ false ∷ false ∷ false ∷ []) (code_1 ∷ code_2 ∷ βββ ∷ βββ ∷ figures+? ∷ []) []
unfolding stepping sound owed_exists passes code_signals holds_neither done first_not is_block may_hold traffic_of meaning_of heard_of first_of is_words listened traffic_in block_owed owed_then answer_of answer_keeping
answered_and_turned_back = then_to (sends (at code (Turning One) Owed.Nothing) βαβ) (hears (single cs3)) five_blocks refl

pub answer_is_reached : (said set (hears question) ≡ answered (turned code (Owed.Back 0) (words figures who 0))) × (asks set (hears question) ≡ true) × Uncut (at code Asking (Owed.Back 0)) asked_five × (taken_in (at code Asking (Owed.Back 0)) asked_five ≡ answer_of code (owed_for (listened_all set.case set.plus question)))
unfolding stepping sound owed_exists passes code_signals holds_neither done first_not is_block may_hold traffic_of meaning_of heard_of first_of is_words listened traffic_in block_owed owed_then answer_of answer_keeping
answer_is_reached = (question_asked, refl, uncut (at code Asking (Owed.Back 0)) asked_five refl, five_blocks.taken_are)

-- CS3 where the second block of five is held: that one is confirmed, and those behind it are dropped
pub answer_is_cut : SoFar (at code Asking (Owed.Back 0)) (asked_twice ▷ hears (single cs3)) (at code (Turning Two) Owed.Nothing) (RQ×3 ∷ code_1 ∷ code_2 ∷ βαβ ∷ []) (false ∷ false ∷ false ∷ false ∷ []) (code_1 ∷ code_2 ∷ []) []
unfolding stepping sound owed_exists passes code_signals holds_neither done first_not is_block may_hold traffic_of meaning_of heard_of first_of is_words listened traffic_in block_owed owed_then answer_of answer_keeping
answer_is_cut = then_to (sends (at code (Turning Two) Owed.Nothing) βαβ) (hears (single cs3)) two_blocks refl

-- D and the over in one block, which wants figures before it
abbrev pub question_and_over : Words
question_and_over = words who cross query

pub question_and_over_lem : said (at code (Receiving One) Owed.Nothing) (hears question_and_over) ≡ answered (turned code (Owed.Keep 0) question_and_over)
unfolding stepping sound owed_exists passes code_signals holds_neither done first_not is_block may_hold traffic_of meaning_of heard_of first_of is_words listened traffic_in block_owed owed_then answer_of answer_keeping
question_and_over_lem = refl

pub direction_kept : SoFar (at code Asking (Owed.Keep 0)) asked_five (at code (holding One tea) Owed.Nothing) (RQ×3 ∷ code_1 ∷ code_2 ∷ βββ ∷ βββ ∷ tea ∷ []) (false ∷ false ∷ false ∷ false ∷ false ∷ true ∷ []) (code_1 ∷ code_2 ∷ βββ ∷ βββ ∷ tea ∷ []) []
unfolding stepping sound owed_exists passes code_signals holds_neither done first_not is_block may_hold traffic_of meaning_of heard_of first_of is_words listened traffic_in block_owed owed_then answer_of answer_keeping
direction_kept =
    let s0 = begin (at code Asking (Owed.Keep 0)) in
    let s1 = then_to (sends (at code Opening (Owed.Keep 0)) RQ×3) (hears βαβ) s0 refl in
    let s2 = then_to (sends (at code (holding One code_1) (Owed.Keep 1)) code_1) (hears (single cs1)) s1 refl in
    let s3 = then_to (sends (at code (holding Two code_2) (Owed.Keep 2)) code_2) (hears (single cs2)) s2 refl in
    let s4 = then_to (sends (at code (holding One βββ) (Owed.Keep 3)) βββ) (hears (single cs1)) s3 refl in
    let s5 = then_to (sends (at code (holding Two βββ) Owed.Nothing) βββ) (hears (single cs2)) s4 refl in
    then_to (record { station = at code (holding One tea) Owed.Nothing; sent = tea; printed = silence; taken = true }) (hears (single cs1)) s5 refl

-- the empty code, which a fresh slave has
pub empty_code_asked : said fresh_slave (hears question) ≡ answered (turned no_code (Owed.Back 0) (words figures who 0))
unfolding stepping sound owed_exists passes code_signals holds_neither done first_not is_block may_hold traffic_of meaning_of heard_of first_of is_words listened traffic_in block_owed owed_then answer_of answer_keeping
empty_code_asked = refl

pub empty_code_answers : SoFar (at no_code Asking (Owed.Back 0)) (asked_twice ▷ hears (single cs1)) (at no_code (holding One figures+?) Owed.Nothing) (RQ×3 ∷ βββ ∷ βββ ∷ figures+? ∷ []) (false ∷ false ∷ false ∷ false ∷ []) (βββ ∷ βββ ∷ figures+? ∷ []) []
unfolding stepping sound owed_exists passes code_signals holds_neither done first_not is_block may_hold traffic_of meaning_of heard_of first_of is_words listened traffic_in block_owed owed_then answer_of answer_keeping
empty_code_answers =
    let s0 = begin (at no_code Asking (Owed.Back 0)) in
    let s1 = then_to (sends (at no_code Opening (Owed.Back 0)) RQ×3) (hears βαβ) s0 refl in
    let s2 = then_to (sends (at no_code (holding One βββ) (Owed.Back 1)) βββ) (hears (single cs1)) s1 refl in
    let s3 = then_to (sends (at no_code (holding Two βββ) (Owed.Back 2)) βββ) (hears (single cs2)) s2 refl in
    then_to (sends (at no_code (holding One figures+?) Owed.Nothing) figures+?) (hears (single cs1)) s3 refl

-- the answer of the code "figures +", where the direction is kept
abbrev pub plus_heard : Run
plus_heard = start ▷ hears (words figures cross beta) ▷ hears βββ ▷ hears βββ

pub plus_passes : (passes code_plus ≡ true) × (answer_of code_plus (Owed.Keep 0) ≡ words figures cross beta ∷ βββ ∷ βββ ∷ []) × (answer_of code_plus (Owed.Back 0) ≡ words figures cross beta ∷ βββ ∷ βββ ∷ figures+? ∷ [])
unfolding passes code_signals holds_neither first_not traffic_of meaning_of listened answer_of answer_keeping
plus_passes = (refl, refl, refl)

-- at the far end, which is in letters at first: each block is accepted, and the + is kept
abbrev accepts : Number → Words → Reply
accepts n b =
    record { station = slave_at no_code (Receiving n) true Owed.Nothing; sent = asks_for n; printed = b; taken = false }

plus_kept : SoFar fresh_slave plus_heard (slave_at no_code (Receiving Two) true Owed.Nothing) (asks_for Two ∷ asks_for One ∷ asks_for Two ∷ []) (false ∷ false ∷ false ∷ []) [] (words figures cross beta ∷ βββ ∷ βββ ∷ []) × StaysReceiving fresh_slave plus_heard
unfolding stepping sound owed_exists passes code_signals holds_neither done first_not is_block may_hold traffic_of meaning_of heard_of first_of is_words listened traffic_in block_owed owed_then answer_of answer_keeping
plus_kept =
    let s0 = begin fresh_slave in
    let s1 = then_to (accepts Two (words figures cross 0)) (hears (words figures cross beta)) s0 refl in
    let s2 = then_to (accepts One silence) (hears βββ) s1 refl in
    (then_to (accepts Two silence) (hears βββ) s2 refl, then_receiving (hears βββ) s2 refl (then_receiving (hears βββ) s1 refl (then_receiving (hears (words figures cross beta)) s0 refl from_start)))
  where
    from_start : StaysReceiving fresh_slave start
    from_start = unfold StaysReceiving in tt

-- the operator's text begins with ?
pub plus_kept_at_the_end : SoFar fresh_slave (plus_heard ▷ hears (words query beta beta)) (at no_code Asking Owed.Nothing) (asks_for Two ∷ asks_for One ∷ asks_for Two ∷ single cs3 ∷ []) (false ∷ false ∷ false ∷ false ∷ []) [] (words figures cross beta ∷ βββ ∷ βββ ∷ words query beta beta ∷ [])
unfolding stepping sound owed_exists passes code_signals holds_neither done first_not is_block may_hold traffic_of meaning_of heard_of first_of is_words listened traffic_in block_owed owed_then answer_of answer_keeping
plus_kept_at_the_end =
    then_to (turned no_code Owed.Nothing (words query 0 0)) (hears (words query beta beta)) plus_kept.0 refl

-- and where the direction is turned back the answer's own over
pub answer_is_heard : StaysReceiving fresh_slave (plus_heard ▷ hears figures+?) × (answer_of code_plus (Owed.Back 0) ≡ accepted_blocks fresh_slave (plus_heard ▷ hears figures+?) ++ [])
unfolding stepping sound owed_exists passes code_signals holds_neither done first_not is_block may_hold traffic_of meaning_of heard_of first_of is_words listened traffic_in block_owed owed_then answer_of answer_keeping
answer_is_heard =
    let over = then_to (turned no_code Owed.Nothing figures+?) (hears figures+?) plus_kept.0 refl in
    (then_receiving (hears figures+?) plus_kept.0 refl plus_kept.1, plus_passes.2 ∙ rw over.accepted_are)
