-- Single runs, computed: the four of Ending, and Stand-by with its calls (02, T-02).
--     four_times          ααα is sent four times in a row; a refused offer between is no step
--     no_three            so three is too small a bound
--     then_standby        the fifth time Stand-by follows, whatever is heard
--     answers_as_it_goes  a step that leads to Stand-by need not be silent: ααα is answered. What is said of Stand-by is said of a
--                         station that is there
--     then_calls          a call offered at Stand-by is placed, so no_standby_for_good: what 01 said of Stand-by is not so of every event
--     then_answers        both own call blocks heard there are answered, so no_standby_without_calls: it is not so of every event that
--                         offers no call
--     barred_waits        behind the end that answers CS5, 128 steps are left to wait (T-05), so no_wait_never: not none in every run
--     told_32             in identification the 32nd repetition leads to Stand-by, so no_lost_in_identification: it is Lost by the 32nd at the
--                         five places alone
-- Assumes nothing.
use mathlib.Core.Path.{◌≡◌, refl, sym, ◌∙◌}
use mathlib.Core.Bool.{true, false, true≢false, and-eq-true_iff}
use Prim.Native.Nat.{ℕ, zero, suc, ◌≤◌}
use native.Mathlib.Omega.{arith}
use Rattle.signals.specs.Meaning.{meaning_of, traffic_of, word_no, cs1, cs4, cs5}
use Rattle.signals.specs.Numbers.{answered, first_not}
use Rattle.mode_a.specs.declared.Number.TheVariants.{One, Two}
use Rattle.mode_a.specs.declared.Mark.{Mark}
use Rattle.mode_a.specs.declared.Identity.{Identity}
use Rattle.mode_a.specs.declared.Own.{Own}
use Rattle.mode_a.specs.declared.Words.{Words}
use Rattle.mode_a.specs.declared.Waiting.{Waiting}
use Rattle.mode_a.specs.declared.Place.TheVariants.{Receiving, StandBy, Calling}
use Rattle.mode_a.specs.declared.Offer.{Offer}
use Rattle.identity.specs.declared.Seven.{Seven}
use Rattle.identity.specs.Table3.{is_identity}
use Rattle.identity.specs.Sums.{is_callable7}
use Rattle.mode_a.specs.Calls.{is_callable, call_block1, call_block2}
use Rattle.mode_a.specs.Station.{single, silence, ααα, asks_for, fresh_master, fresh_slave, fresh_at, resting, no_code, no_seven}
use Rattle.mode_a.specs.Heard.{first_of, further_of, may_hold, is_block, is_words, call_of, call3_of, heard_of}
use Rattle.mode_a.specs.Identification.{told_in}
use Rattle.mode_a.specs.Over.{listened}
use Rattle.mode_a.specs.Answerback.{code_signals, holds_neither, passes, owed_exists}
use Rattle.mode_a.specs.Step.{sends, traffic_in, done, rested, sound, stepping}
use Rattle.runs.specs.Places.{is_stand_by, is_lost}
use Rattle.runs.specs.Runs.{Event, Run, start, ◌▷◌, after, is_call}
use Rattle.counts.specs.Runs.{stays, repetition, in_a_row, alphas_in_a_row}
use Rattle.runs.proofs.PlaceLaws.{one_number}

-- nothing heard and nothing offered; and with an offer that is refused
abbrev nothing : Event
nothing = record { burst = silence; offer = Offer.Nothing }

abbrev refused_offer : Event
refused_offer = record { burst = silence; offer = Offer.Text ααα }

-- CS1 heard and end offered
abbrev ends : Event
ends = record { burst = single cs1; offer = Offer.End }

abbrev unanswered : Run
unanswered = start ▷ ends ▷ nothing ▷ refused_offer ▷ nothing ▷ nothing

pub four_times : alphas_in_a_row fresh_master unanswered ≡ 4
unfolding alphas_in_a_row stepping sound owed_exists passes code_signals holds_neither done first_not is_block may_hold traffic_of meaning_of heard_of first_of is_words listened traffic_in
four_times = refl

pub no_three : ((run : Run) → alphas_in_a_row fresh_master run ≤ 3) → ⊥
no_three claim = omega (arith, claim unanswered, four_times)

pub then_standby : ((after fresh_master (unanswered ▷ nothing)).place ≡ resting 0) × (alphas_in_a_row fresh_master (unanswered ▷ nothing) ≡ 0)
unfolding alphas_in_a_row stepping sound owed_exists passes code_signals holds_neither done first_not is_block may_hold traffic_of meaning_of heard_of first_of is_words listened traffic_in
then_standby = (refl, refl)

pub answers_as_it_goes : stepping fresh_slave ααα Offer.Nothing ≡ answered (sends (rested fresh_slave 0) (asks_for Two))
unfolding stepping sound owed_exists passes code_signals holds_neither done first_not is_block may_hold traffic_of meaning_of heard_of first_of is_words
answers_as_it_goes = refl

-- V X Q K
abbrev somebody : Identity
somebody = record { 0 = word_no 22; 1 = word_no 24; 2 = word_no 17; 3 = word_no 11 }

abbrev set : Own
set = record { four = somebody; seven = no_seven; code = no_code }

-- nothing heard and a call offered; a burst heard and nothing offered
abbrev calls : Event
calls = record { burst = silence; offer = Offer.Call somebody }

abbrev hears : Words → Event
hears b = record { burst = b; offer = Offer.Nothing }

pub then_calls : (after fresh_master (unanswered ▷ nothing ▷ calls)).place ≡ Calling (record { to = somebody; sent = 1; last = Mark.None })
unfolding stepping sound owed_exists passes code_signals holds_neither done first_not is_block may_hold traffic_of meaning_of heard_of first_of is_words call_of call3_of is_callable is_callable7 is_identity
then_calls = refl

pub no_standby_for_good : ((run : Run) (e : Event) → is_stand_by (after fresh_master run).place ≡ true → is_stand_by (after fresh_master (run ▷ e)).place ≡ true) → ⊥
unfolding stepping sound owed_exists passes code_signals holds_neither done first_not is_block may_hold traffic_of meaning_of heard_of first_of is_words call_of call3_of is_callable is_callable7 is_identity
no_standby_for_good claim = true≢false (sym (claim (unanswered ▷ nothing) calls refl))

pub then_answers : (after (fresh_at set) (start ▷ hears (call_block1 somebody) ▷ hears (call_block2 somebody))).place ≡ Receiving One
unfolding stepping sound owed_exists passes code_signals holds_neither done first_not is_block may_hold traffic_of meaning_of heard_of first_of is_words call_of call3_of is_callable is_callable7 is_identity
then_answers = refl

pub no_standby_without_calls : ((run : Run) (e : Event) → is_stand_by (after (fresh_at set) run).place ≡ true → is_call e.offer ≡ false → is_stand_by (after (fresh_at set) (run ▷ e)).place ≡ true) → ⊥
unfolding stepping sound owed_exists passes code_signals holds_neither done first_not is_block may_hold traffic_of meaning_of heard_of first_of is_words call_of call3_of is_callable is_callable7 is_identity
no_standby_without_calls claim = true≢false (sym (claim (start ▷ hears (call_block1 somebody)) (hears (call_block2 somebody)) refl refl))

-- 02, T-05: a set with both identities calls M Q K C A E V, and hears CS5, or CS4 and then nothing
abbrev both : Own
both =
    record {
      four = somebody;
      seven =
          record {
            0 = word_no 22;
            1 = word_no 24;
            2 = word_no 17;
            3 = word_no 11;
            4 = word_no 13;
            5 = word_no 16;
            6 = word_no 3;
          };
      code = no_code;
    }

abbrev other7 : Seven
other7 =
    record {
      0 = word_no 13;
      1 = word_no 17;
      2 = word_no 11;
      3 = word_no 3;
      4 = word_no 1;
      5 = word_no 5;
      6 = word_no 22;
    }

abbrev calls3 : Event
calls3 = record { burst = silence; offer = Offer.Call3 other7 }

abbrev times : ℕ → Run → Run
times zero run = run
times (suc n) run = times n run ▷ nothing

pub barred_waits : (alphas_in_a_row (fresh_at both) (times 3 (start ▷ calls3 ▷ hears (single cs5))) ≡ 4) × ((after (fresh_at both) (times 4 (start ▷ calls3 ▷ hears (single cs5)))).place ≡ resting 128)
unfolding alphas_in_a_row stepping sound owed_exists passes code_signals holds_neither done first_not is_block may_hold traffic_of meaning_of heard_of first_of further_of is_words call_of call3_of is_callable is_callable7 is_identity told_in
barred_waits = (refl, refl)

pub no_wait_never : ((run : Run) (e : Event) (w : Waiting) → alphas_in_a_row (fresh_at both) run ≡ 4 → (after (fresh_at both) (run ▷ e)).place ≡ StandBy w → w.wait ≡ 0) → ⊥
no_wait_never claim =
    let z = claim (times 3 (start ▷ calls3 ▷ hears (single cs5))) nothing _ barred_waits.0 barred_waits.1 in omega (arith, z)

abbrev untold : Run
untold = times 31 (start ▷ calls3 ▷ hears (single cs4))

pub told_32 : (in_a_row (fresh_at both) untold ≡ 31) × (repetition (after (fresh_at both) untold) nothing ≡ true) × (is_stand_by (after (fresh_at both) (untold ▷ nothing)).place ≡ true)
unfolding in_a_row stays stepping sound owed_exists passes code_signals holds_neither done first_not is_block may_hold traffic_of meaning_of heard_of first_of further_of is_words call_of call3_of is_callable is_callable7 is_identity told_in
told_32 = (refl, refl, refl)

pub no_lost_in_identification : ((run : Run) (e : Event) → repetition (after (fresh_at both) run) e ≡ true → in_a_row (fresh_at both) run ≡ 31 → is_lost (after (fresh_at both) (run ▷ e)).place ≡ true) → ⊥
no_lost_in_identification claim =
    let z = one_number (after (fresh_at both) (untold ▷ nothing)).place 6 7 refl in
    true≢false (sym ((and-eq-true_iff _ _).1 (told_32.2, claim untold nothing told_32.1 told_32.0)) ∙ z)
