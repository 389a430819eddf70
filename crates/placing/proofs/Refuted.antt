-- Rules that one could take for 02's, each refuted by a run or a step that is computed.
--     no_one_cs1              one CS1 is enough to go on to traffic
--     no_cs1_then_cs2         CS1 and then CS2 are enough
--     no_cs1_silence_cs1      CS1, silence, CS1 are enough
--     no_cs1_before_the_call  a CS1 in the step that places the call counts
--     no_cs3_ignored          CS3 leaves it calling
--     no_block_twice          the same call block twice is a call
--     no_block_silence_block  block 1, silence, block 2 are a call
--     no_call_in_the_128th    a call is placed in the 128th step of the wait (in the 129th it is: `taken_at_last`)
--     no_call_of_zeros        a station answers its two call blocks whatever its identity: 0 RQ 0 and 0 0 RQ, where it has none
-- Wrong operands in inner functions: of each, a station and a burst, or a short run, at which the promise does not say what it would do.
--     no_block_1_sent_twice          call block 1 once more behind the first burst
--     no_call_of_129_bursts          a call burst behind the 128th
--     no_call_completed_by_cs1_cs2   CS2 in the step behind CS1 completes the call
--     no_call_block_forgotten        the call block that a step hears is not kept for the next, so that no call is heard
--     no_wrong_identity_called       a station is called whose fourth signal alone is outside table 3a
--     no_wait_that_stands_still      as many steps are left to wait after a step of the wait as before it
-- That one CS1 or one call block twice is enough, and a call in the last step of the wait, are among the rules.
-- Assumes nothing.
use mathlib.Core.Path.{◌≡◌, refl, ap, sym, ◌∙◌}
use mathlib.Core.Bool.{true, true≢false, false≢true}
use Prim.Native.Nat.{ℕ}
use native.Mathlib.Omega.{arith}
use Rattle.std.specs.Prelude.{Ok}
use Rattle.signals.specs.Meaning.{word_no, cs1, cs2, cs3}
use Rattle.signals.specs.Numbers.{Answer, first_not}
use Rattle.mode_a.specs.declared.Words.{Words}
use Rattle.mode_a.specs.declared.Place.{Place}
use Rattle.mode_a.specs.declared.Offer.{Offer}
use Rattle.mode_a.specs.declared.Station.{Station}
use Rattle.mode_a.specs.declared.Reply.{Reply}
use Rattle.identity.specs.Table3.{is_identity}
use Rattle.identity.specs.Sums.{is_callable7}
use Rattle.mode_a.specs.Calls.{is_callable, call_block1, call_block2, next_block}
use Rattle.mode_a.specs.Station.{single, silence, resting, no_seven, no_code, no_identity, fresh_at}
use Rattle.mode_a.specs.Heard.{first_of, is_words, call_of, call3_of, heard_of}
use Rattle.mode_a.specs.Answerback.{code_signals, holds_neither, passes, owed_exists}
use Rattle.mode_a.specs.Step.{done, sound, stepping, station_after, Steps}
use Rattle.runs.specs.Places.{is_receiving, is_stand_by, is_calling, at_stand_by}
use Rattle.runs.specs.Runs.{Event, Run, start, ◌▷◌, said, next, after, is_taken, steps_in, StaysAtStandBy}
use Rattle.placing.specs.Calling.{in_traffic}
use Rattle.placing.proofs.CallExamples.{coast, set, hears, quiet, offers, times, called_so, waits_so, stays_on, steps_on, still_untaken, sent_in, block1, block2}

-- at Calling
abbrev one : Event
one = hears (single cs1)

abbrev two : Event
two = hears (single cs2)

pub no_one_cs1 : ((run : Run) → is_calling (after set run).place ≡ true → in_traffic (after set (run ▷ one)).place ≡ true) → ⊥
unfolding stepping sound owed_exists passes code_signals holds_neither done first_not heard_of first_of is_words call_of call3_of is_callable is_callable7 is_identity
no_one_cs1 claim = false≢true (claim (start ▷ offers) refl)

pub no_cs1_then_cs2 : ((run : Run) → is_calling (after set run).place ≡ true → in_traffic (after set (run ▷ one ▷ two)).place ≡ true) → ⊥
unfolding stepping sound owed_exists passes code_signals holds_neither done first_not heard_of first_of is_words call_of call3_of is_callable is_callable7 is_identity
no_cs1_then_cs2 claim = false≢true (claim (start ▷ offers) refl)

pub no_cs1_silence_cs1 : ((run : Run) → is_calling (after set run).place ≡ true → in_traffic (after set (run ▷ one ▷ quiet ▷ one)).place ≡ true) → ⊥
unfolding stepping sound owed_exists passes code_signals holds_neither done first_not heard_of first_of is_words call_of call3_of is_callable is_callable7 is_identity
no_cs1_silence_cs1 claim = false≢true (claim (start ▷ offers) refl)

-- the call is offered as CS1 is heard
abbrev one_offers : Event
one_offers = record { burst = single cs1; offer = Offer.Call coast }

pub no_cs1_before_the_call : ((run : Run) → is_calling (after set (run ▷ one_offers)).place ≡ true → in_traffic (after set (run ▷ one_offers ▷ one)).place ≡ true) → ⊥
unfolding stepping sound owed_exists passes code_signals holds_neither done first_not heard_of first_of is_words call_of call3_of is_callable is_callable7 is_identity
no_cs1_before_the_call claim = false≢true (claim start refl)

pub no_cs3_ignored : ((run : Run) → is_calling (after set run).place ≡ true → is_calling (after set (run ▷ hears (single cs3))).place ≡ true) → ⊥
unfolding stepping sound owed_exists passes code_signals holds_neither done first_not heard_of first_of is_words call_of call3_of is_callable is_callable7 is_identity
no_cs3_ignored claim = false≢true (claim (start ▷ offers) refl)

-- at Stand-by
pub no_block_twice : ((run : Run) → is_stand_by (after set run).place ≡ true → is_receiving (after set (run ▷ block1 ▷ block1)).place ≡ true) → ⊥
unfolding stepping sound owed_exists passes code_signals holds_neither done first_not heard_of first_of is_words call_of call3_of is_callable is_callable7 is_identity
no_block_twice claim = false≢true (claim start refl)

pub no_block_silence_block : ((run : Run) → is_stand_by (after set run).place ≡ true → is_receiving (after set (run ▷ block1 ▷ quiet ▷ block2)).place ≡ true) → ⊥
unfolding stepping sound owed_exists passes code_signals holds_neither done first_not heard_of first_of is_words call_of call3_of is_callable is_callable7 is_identity
no_block_silence_block claim = false≢true (claim start refl)

-- the call failed in the step before: 128 steps to wait, of which 127 are over
pub no_call_in_the_128th : ((run : Run) → StaysAtStandBy (waits_so 128) run → steps_in (waits_so 128) run ≡ 127 → is_taken (said (after (waits_so 128) run) offers) ≡ true) → ⊥
no_call_in_the_128th claim = false≢true (sym still_untaken ∙ claim (times 127 offers start) (stays_on 127 (omega arith)) (steps_on 127 (omega arith)))

-- called by what it has for an identity
abbrev called_twice : Station → Run
called_twice s = start ▷ hears (call_block1 s.own.four) ▷ hears (call_block2 s.own.four)

pub no_call_of_zeros : ((s : Station) → is_stand_by s.place ≡ true → is_receiving (after s (called_twice s)).place ≡ true) → ⊥
unfolding stepping sound owed_exists passes code_signals holds_neither done first_not heard_of first_of is_words call_of call3_of is_callable is_callable7 is_identity
no_call_of_zeros claim = false≢true (claim (fresh_at no_identity) refl)

-- X K M W, of which W is not in table 3a
abbrev ship_w : Station
ship_w =
    fresh_at (record { four = record { 0 = word_no 24; 1 = word_no 11; 2 = word_no 13; 3 = word_no 23 }; seven = no_seven; code = no_code })

pub no_wrong_identity_called : is_receiving (after ship_w (called_twice ship_w)).place ≡ true → ⊥
unfolding stepping sound owed_exists passes code_signals holds_neither done first_not heard_of first_of is_words call_of call3_of is_callable is_callable7 is_identity
no_wrong_identity_called e = false≢true e

pub no_call_block_forgotten : is_stand_by (after set (start ▷ block1 ▷ block2)).place ≡ true → ⊥
unfolding stepping sound owed_exists passes code_signals holds_neither done first_not heard_of first_of is_words call_of call3_of is_callable is_callable7 is_identity
no_call_block_forgotten e = false≢true e

-- behind one call burst, and behind the 128th
pub no_block_1_sent_twice : (r : Reply) → r.sent ≡ call_block1 coast → Steps (called_so 1) silence Offer.Nothing (Ok r) → ⊥
unfolding stepping sound owed_exists passes code_signals holds_neither done first_not heard_of first_of is_words call_of call3_of is_callable is_callable7 is_identity next_block
no_block_1_sent_twice r e p =
    true≢false (sym (ap (λ (w : Words). is_words w (call_block1 coast)) e) ∙ ap (λ (a : Answer Reply). is_words (sent_in a) (call_block1 coast)) p.0)

pub no_call_of_129_bursts : (r : Reply) → is_calling r.station.place ≡ true → Steps (called_so 128) silence Offer.Nothing (Ok r) → ⊥
unfolding stepping sound owed_exists passes code_signals holds_neither done first_not heard_of first_of is_words call_of call3_of is_callable is_callable7 is_identity
no_call_of_129_bursts r e p =
    true≢false (sym e ∙ ap (λ (a : Answer Reply). is_calling (station_after (called_so 128) a).place) p.0)

-- behind CS1
abbrev cs1_heard : Station
cs1_heard = next (called_so 1) one

pub no_call_completed_by_cs1_cs2 : (r : Reply) → in_traffic r.station.place ≡ true → Steps cs1_heard (single cs2) Offer.Nothing (Ok r) → ⊥
unfolding stepping sound owed_exists passes code_signals holds_neither done first_not heard_of first_of is_words call_of call3_of is_callable is_callable7 is_identity
no_call_completed_by_cs1_cs2 r e p = true≢false (sym e ∙ ap (λ (a : Answer Reply). in_traffic (station_after cs1_heard a).place) p.0)

pub no_wait_that_stands_still : (r : Reply) → r.station.place ≡ resting 128 → Steps (waits_so 128) silence Offer.Nothing (Ok r) → ⊥
unfolding stepping sound owed_exists passes code_signals holds_neither done first_not heard_of first_of is_words call_of call3_of is_callable is_callable7 is_identity
no_wait_that_stands_still r e p =
    let left : Place → ℕ = at_stand_by (λ w. w.wait) 0 in
    let z : ◌≡◌ {A = ℕ} 128 127 = ap left (sym e) ∙ ap (λ (a : Answer Reply). left (station_after (waits_so 128) a).place) p.0 in
    omega arith
