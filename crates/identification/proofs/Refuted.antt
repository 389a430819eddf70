-- Rules that one could take for 02's, each refuted by a run or a step that is computed.
--     no_cs4_twice               CS4 once leaves it calling, as CS1 does in a two-block call
--     no_cs1_for_seven           CS1 twice leads to traffic in a three-block call too
--     no_damaged_as_wrong        a damaged answer counts as a wrong check-sum: four times again for either cause
--     no_fifth_again             the block goes out again for a fifth wrong check-sum
--     no_unlike_confirmed        the block before the stage is answered by its check-sum whatever its letters are
--     no_identity_after_standby  the identity is kept after Stand-by
--     no_block_3_first           identification block 3 is taken before block 1
--     no_3_1_2                   the call blocks 3-1-2 are a call
--     no_wait_for_another        after a three-block call that failed no other is placed for 128 steps
-- The sixth sending and the 33rd repetition are refuted of every run: `no_sixth_sending`, `no_33rd`.
-- Wrong operands in inner functions: of each, a station and a burst, or a short run, at which the promise does not say what it would do.
--     no_call_of_129_bursts_of_three           a call burst behind the 128th
--     no_wrong_seven_called                    a station is called whose seventh signal alone is outside table 3a
--     no_barred_call_in_the_wait               the call that has failed is placed again with a step left to wait
--     no_block_a_sixth_time                    with four wrong check-sums counted, the block goes out again for a fifth
--     no_wrong_counted_when_damaged            a damaged answer counts as a wrong check-sum where none was
--     no_33rd_repetition_in_identification     the block goes out again in the 32nd repetition
--     no_turn_after_identification_awaiting_2  CS3 behind the fourth stage leads to Turning with 1 as the last number, so that 2 is asked for
--     no_last_block_first                      identification block 3, before block 1, leads to the fourth stage
--     no_unlike_block_confirmed                the block before the stage, with other letters, is answered by its check-sum
--     no_identity_printed                      the identity gathered goes to the printer
--     no_identification_kept_after_standby     who is at the other end is kept at Stand-by
-- Assumes nothing.
use mathlib.Core.Path.{◌≡◌, refl, ap, sym, ◌∙◌}
use mathlib.Core.Bool.{true, false, true≢false, false≢true}
use Prim.Native.Nat.{ℕ, ◌≤◌}
use native.Mathlib.Omega.{arith}
use lib.Dec.{eqb}
use Rattle.std.specs.Prelude.{Ok}
use Rattle.signals.specs.declared.Case.TheVariants.{Letters}
use Rattle.signals.specs.Meaning.{meaning_of, traffic_of, word_no, cs1, cs3, cs4, rq, alpha}
use Rattle.signals.specs.Numbers.{Answer, answered, refused, first_not}
use Rattle.identity.specs.declared.Seven.{Seven}
use Rattle.identity.specs.Table3.{is_identity, number_of, signal_of}
use Rattle.identity.specs.Sums.{is_callable7, same_seven, check_sum, check_sum1}
use Rattle.identity.proofs.Examples.{spelt, PEARDBY}
use Rattle.mode_a.specs.declared.Role.TheVariants.{Master}
use Rattle.mode_a.specs.declared.Number.TheVariants.{One, Two}
use Rattle.mode_a.specs.declared.Words.{Words}
use Rattle.mode_a.specs.declared.Stage.{Stage}
use Rattle.mode_a.specs.declared.Identified.{Identified}
use Rattle.mode_a.specs.declared.Owed.{Owed}
use Rattle.mode_a.specs.declared.Peer.{Peer}
use Rattle.mode_a.specs.declared.Peer.TheVariants.{Nobody, Known, Barred}
use Rattle.mode_a.specs.declared.Place.{Place}
use Rattle.mode_a.specs.declared.Place.TheVariants.{Turning, Receiving, Calling3, Identifying, Answering}
use Rattle.mode_a.specs.declared.Offer.{Offer}
use Rattle.mode_a.specs.declared.Station.{Station}
use Rattle.mode_a.specs.declared.Reply.{Reply}
use Rattle.mode_a.specs.Calls.{is_callable, call3_block1, call3_block2, call3_block3, next_block3}
use Rattle.mode_a.specs.Identification.{identity_block, told_in, with_1}
use Rattle.mode_a.specs.Station.{words, single, silence, RQ×3, ααα, resting, no_seven, no_code, fresh_at}
use Rattle.mode_a.specs.Heard.{first_of, further_of, may_hold, is_block, is_words, call_of, call3_of, heard_of}
use Rattle.mode_a.specs.Answerback.{code_signals, holds_neither, passes, owed_exists}
use Rattle.mode_a.specs.Step.{unidentified, done, sound, stepping, station_after, Steps}
use Rattle.runs.specs.Places.{is_sending, is_stand_by, is_calling3, is_answering, stage_in}
use Rattle.runs.specs.Runs.{Event, Run, start, ◌▷◌, said, after, is_taken}
use Rattle.identification.specs.Runs.{is_wrong, repeats_in, wrongs_in_stage, repeats_in_stage}
use Rattle.identification.proofs.Examples.{own7, own, set, hears, letter, quiet, offers, sent_in, times, begun, called, told, wrongs, PαE, was_called, forgotten, four_times_again, unlike_asked_again, refused_by_cs3}

pub no_cs4_twice : ((run : Run) → is_calling3 (after set run).place ≡ true → is_calling3 (after set (run ▷ hears (single cs4))).place ≡ true) → ⊥
unfolding stepping sound owed_exists passes code_signals holds_neither done first_not is_block may_hold traffic_of meaning_of heard_of first_of further_of is_words call_of call3_of told_in next_block3 is_callable is_callable7 same_seven is_identity check_sum number_of signal_of
no_cs4_twice claim = false≢true (claim (start ▷ offers PEARDBY) refl)

pub no_cs1_for_seven : ((run : Run) → is_calling3 (after set run).place ≡ true → is_sending (after set (run ▷ hears (single cs1) ▷ hears (single cs1))).place ≡ true) → ⊥
unfolding stepping sound owed_exists passes code_signals holds_neither done first_not is_block may_hold traffic_of meaning_of heard_of first_of further_of is_words call_of call3_of told_in next_block3 is_callable is_callable7 same_seven is_identity check_sum number_of signal_of
no_cs1_for_seven claim = false≢true (claim (start ▷ offers PEARDBY) refl)

-- five damaged answers at one stage
five_damaged : repeats_in_stage set (times 5 quiet begun) ≡ 5
unfolding repeats_in_stage stepping sound owed_exists passes code_signals holds_neither done first_not is_block may_hold traffic_of meaning_of heard_of first_of further_of is_words call_of call3_of told_in next_block3 is_callable is_callable7 same_seven is_identity check_sum number_of signal_of
five_damaged = refl

pub no_damaged_as_wrong : ((run : Run) → repeats_in_stage set run ≤ 4) → ⊥
no_damaged_as_wrong claim = omega (arith, claim (times 5 quiet begun), five_damaged)

pub no_fifth_again : ((run : Run) (e : Event) → wrongs_in_stage set run ≡ 4 → is_wrong (after set run) e ≡ true → repeats_in (after set run) e ≡ true) → ⊥
unfolding stepping sound owed_exists passes code_signals holds_neither done first_not is_block may_hold traffic_of meaning_of heard_of first_of further_of is_words call_of call3_of told_in next_block3 is_callable is_callable7 same_seven is_identity check_sum number_of signal_of
no_fifth_again claim = false≢true (claim wrongs (letter 22) four_times_again.0 refl)

-- block 1, at stage 2
pub no_unlike_confirmed : ((run : Run) (x y : ℕ) → is_answering (after set run).place ≡ true → stage_in (after set run).place ≡ 2 → is_identity x ≡ true → is_identity y ≡ true → sent_in (said (after set run) (hears (words x alpha y))) ≡ single (check_sum1 own7)) → ⊥
unfolding stepping sound owed_exists passes code_signals holds_neither done first_not is_block may_hold traffic_of meaning_of heard_of first_of further_of is_words call_of call3_of told_in next_block3 is_callable is_callable7 same_seven is_identity check_sum number_of signal_of
no_unlike_confirmed claim =
    true≢false (ap (λ (w : Words). eqb w.0 rq) (sym unlike_asked_again.1 ∙ claim (called ▷ PαE) (word_no 26) (word_no 05) refl refl refl refl))

pub no_identity_after_standby : ((run : Run) (e : Event) (i : Seven) → (after set run).other ≡ Known i → (after set (run ▷ e)).other ≡ Known i) → ⊥
no_identity_after_standby claim =
    let n : Nobody ≡ Known PEARDBY = sym forgotten.1 ∙ claim told (hears ααα) PEARDBY was_called.2 in
    let z : ◌≡◌ {A = ℕ} 0 1 = cc in
    omega arith

pub no_block_3_first : ((run : Run) → is_answering (after set run).place ≡ true → stage_in (after set run).place ≡ 1 → stage_in (after set (run ▷ hears (identity_block PEARDBY Stage.Three))).place ≡ 2) → ⊥
unfolding stepping sound owed_exists passes code_signals holds_neither done first_not is_block may_hold traffic_of meaning_of heard_of first_of further_of is_words call_of call3_of told_in next_block3 is_callable is_callable7 same_seven is_identity check_sum number_of signal_of
no_block_3_first claim = let z = claim called refl refl in omega (arith, z)

pub no_3_1_2 : ((run : Run) → is_stand_by (after set run).place ≡ true → is_answering (after set (run ▷ hears (call3_block3 own7) ▷ hears (call3_block1 own7) ▷ hears (call3_block2 own7))).place ≡ true) → ⊥
unfolding stepping sound owed_exists passes code_signals holds_neither done first_not is_block may_hold traffic_of meaning_of heard_of first_of further_of is_words call_of call3_of told_in next_block3 is_callable is_callable7 same_seven is_identity check_sum number_of signal_of
no_3_1_2 claim = false≢true (claim start refl)

pub no_wait_for_another : ((i : Seven) → is_calling3 (after set (refused_by_cs3 ▷ offers i)).place ≡ false) → ⊥
unfolding stepping sound owed_exists passes code_signals holds_neither done first_not is_block may_hold traffic_of meaning_of heard_of first_of further_of is_words call_of call3_of told_in next_block3 is_callable is_callable7 same_seven is_identity check_sum number_of signal_of
no_wait_for_another claim = true≢false (claim own7)

-- the station of the examples at a place, after so many repetitions, with this at the other end
abbrev at : Place → ℕ → Peer → Station
at p k i =
    record { role = Master; place = p; count = k; case = Letters; plus = false; own = own; other = i; owed = Owed.Nothing }

-- the words sent are those that the answer has
sent_is : (a : Answer Reply) (r : Reply) (w : Words) → r.sent ≡ w → answered r ≡ a → is_words w w ≡ is_words (sent_in a) w
sent_is a r w e q = sym (ap (λ (x : Words). is_words x w) e) ∙ ap (λ (a : Answer Reply). is_words (sent_in a) w) q

-- K Q V Z R S W, of which W is not in table 3a
abbrev own7_w : Seven
own7_w = spelt 11 17 22 26 18 19 23

abbrev set_w : Station
set_w = fresh_at (record { four = own.four; seven = own7_w; code = no_code })

pub no_wrong_seven_called : is_answering (after set_w (start ▷ hears (call3_block1 own7_w) ▷ hears (call3_block2 own7_w) ▷ hears (call3_block3 own7_w))).place ≡ true → ⊥
unfolding stepping sound owed_exists passes code_signals holds_neither done first_not is_block may_hold traffic_of meaning_of heard_of first_of further_of is_words call_of call3_of told_in next_block3 is_callable is_callable7 same_seven is_identity check_sum number_of signal_of
no_wrong_seven_called e = false≢true e

abbrev called128 : Station
called128 = at (Calling3 (record { to = PEARDBY; sent = 128 })) 0 Nobody

pub no_call_of_129_bursts_of_three : (r : Reply) → is_calling3 r.station.place ≡ true → Steps called128 silence Offer.Nothing (Ok r) → ⊥
unfolding stepping sound owed_exists passes code_signals holds_neither done first_not is_block may_hold traffic_of meaning_of heard_of first_of further_of is_words call_of call3_of told_in next_block3 is_callable is_callable7 same_seven is_identity check_sum number_of signal_of
no_call_of_129_bursts_of_three r e p =
    true≢false (sym e ∙ ap (λ (a : Answer Reply). is_calling3 (station_after called128 a).place) p.0)

-- the last step of the wait
pub no_barred_call_in_the_wait : (r : Reply) → r.taken ≡ true → Steps (at (resting 1) 0 (Barred PEARDBY)) silence (Offer.Call3 PEARDBY) (Ok r) → ⊥
unfolding stepping sound owed_exists passes code_signals holds_neither done first_not is_block may_hold traffic_of meaning_of heard_of first_of further_of is_words call_of call3_of told_in next_block3 is_callable is_callable7 same_seven is_identity check_sum number_of signal_of
no_barred_call_in_the_wait r e p = true≢false (sym e ∙ ap is_taken p.0)

-- Identifying at a stage, with so many wrong check-sums counted, of which this is the last
abbrev tells : Stage → ℕ → ℕ → Place
tells g k w = Identifying (record { to = PEARDBY; stage = g; wrong = k; last = w })

-- X was the fourth, and V is heard
pub no_block_a_sixth_time : (r : Reply) → r.sent ≡ identity_block own7 Stage.One → Steps (at (tells Stage.One 4 (word_no 24)) 4 Nobody) (single (word_no 22)) Offer.Nothing (Ok r) → ⊥
unfolding stepping sound owed_exists passes code_signals holds_neither done first_not is_block may_hold traffic_of meaning_of heard_of first_of further_of is_words call_of call3_of told_in next_block3 is_callable is_callable7 same_seven is_identity check_sum number_of signal_of
no_block_a_sixth_time r e p =
    true≢false (sent_is _ r (identity_block own7 Stage.One) e p.0)

same_wrong : (i j : Identified) → Identifying i ≡ Identifying j → i.wrong ≡ j.wrong
same_wrong i j n = cc

pub no_wrong_counted_when_damaged : (r : Reply) → r.station.place ≡ tells Stage.One 1 0 → Steps (at (tells Stage.One 0 0) 0 Nobody) silence Offer.Nothing (Ok r) → ⊥
unfolding stepping sound owed_exists passes code_signals holds_neither done first_not is_block may_hold traffic_of meaning_of heard_of first_of further_of is_words call_of call3_of told_in next_block3 is_callable is_callable7 same_seven is_identity check_sum number_of signal_of
no_wrong_counted_when_damaged r e p =
    let z : ◌≡◌ {A = ℕ} 1 0 = same_wrong _ _ (sym e ∙ ap (λ (a : Answer Reply). (station_after set a).place) p.0) in omega arith

pub no_33rd_repetition_in_identification : (r : Reply) → r.sent ≡ identity_block own7 Stage.One → Steps (at (tells Stage.One 0 0) 31 Nobody) silence Offer.Nothing (Ok r) → ⊥
unfolding stepping sound owed_exists passes code_signals holds_neither done first_not is_block may_hold traffic_of meaning_of heard_of first_of further_of is_words call_of call3_of told_in next_block3 is_callable is_callable7 same_seven is_identity check_sum number_of signal_of
no_33rd_repetition_in_identification r e p =
    true≢false (sent_is _ r (identity_block own7 Stage.One) e p.0)

one_two : Turning One ≡ Turning Two → ⊥
one_two n = let z : ◌≡◌ {A = ℕ} 1 0 = cc in omega arith

pub no_turn_after_identification_awaiting_2 : (r : Reply) → r.station.place ≡ Turning One → Steps (at (tells Stage.Four 0 0) 0 Nobody) (single cs3) Offer.Nothing (Ok r) → ⊥
unfolding stepping sound owed_exists passes code_signals holds_neither done first_not is_block may_hold traffic_of meaning_of heard_of first_of further_of is_words call_of call3_of told_in next_block3 is_callable is_callable7 same_seven is_identity check_sum number_of signal_of
no_turn_after_identification_awaiting_2 r e p = one_two (sym e ∙ ap (λ (a : Answer Reply). (station_after set a).place) p.0)

-- Answering, with nothing gathered yet
pub no_last_block_first : (r : Reply) → stage_in r.station.place ≡ 4 → Steps (at unidentified 0 Nobody) (identity_block PEARDBY Stage.Three) Offer.Nothing (Ok r) → ⊥
unfolding stepping sound owed_exists passes code_signals holds_neither done first_not is_block may_hold traffic_of meaning_of heard_of first_of further_of is_words call_of call3_of told_in next_block3 is_callable is_callable7 same_seven is_identity check_sum number_of signal_of
no_last_block_first r e p =
    let z : ◌≡◌ {A = ℕ} 4 1 = sym e ∙ ap (λ (a : Answer Reply). stage_in (station_after set a).place) p.0 in omega arith

-- P α E was heard, and Z α E is
pub no_unlike_block_confirmed : (r : Reply) → r.sent ≡ single (check_sum1 own7) → Steps (at (Answering (record { stage = Stage.Two; got = with_1 no_seven (word_no 16) (word_no 05) })) 0 Nobody) (words (word_no 26) alpha (word_no 05)) Offer.Nothing (Ok r) → ⊥
unfolding stepping sound owed_exists passes code_signals holds_neither done first_not is_block may_hold traffic_of meaning_of heard_of first_of further_of is_words call_of call3_of told_in next_block3 is_callable is_callable7 same_seven is_identity check_sum number_of signal_of
no_unlike_block_confirmed r e p =
    true≢false (sent_is _ r (single (check_sum1 own7)) e p.0)

-- P E A would be printed, where over is offered
abbrev printed_in : Answer Reply → Words
printed_in (answered r) = r.printed
printed_in (refused n v) = silence

pub no_identity_printed : (r : Reply) → r.printed ≡ words PEARDBY.0 PEARDBY.1 PEARDBY.2 → Steps (at (Answering (record { stage = Stage.Four; got = PEARDBY })) 0 Nobody) RQ×3 Offer.Over (Ok r) → ⊥
unfolding stepping sound owed_exists passes code_signals holds_neither done first_not is_block may_hold traffic_of meaning_of heard_of first_of further_of is_words call_of call3_of told_in next_block3 is_callable is_callable7 same_seven is_identity check_sum number_of signal_of
no_identity_printed r e p =
    true≢false (sym (ap (λ (w : Words). is_words w (words PEARDBY.0 PEARDBY.1 PEARDBY.2)) e) ∙ ap (λ (a : Answer Reply). is_words (printed_in a) (words PEARDBY.0 PEARDBY.1 PEARDBY.2)) p.0)

known_nobody : Known PEARDBY ≡ Nobody → ⊥
known_nobody n = let z : ◌≡◌ {A = ℕ} 1 0 = cc in omega arith

-- traffic, and ααα is heard
pub no_identification_kept_after_standby : (r : Reply) → r.station.other ≡ Known PEARDBY → Steps (at (Receiving One) 0 (Known PEARDBY)) ααα Offer.Nothing (Ok r) → ⊥
unfolding stepping sound owed_exists passes code_signals holds_neither done first_not is_block may_hold traffic_of meaning_of heard_of first_of further_of is_words call_of call3_of told_in next_block3 is_callable is_callable7 same_seven is_identity check_sum number_of signal_of
no_identification_kept_after_standby r e p = known_nobody (sym e ∙ ap (λ (a : Answer Reply). (station_after set a).other) p.0)
