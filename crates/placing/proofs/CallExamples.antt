-- Runs of one station, computed: what the theorems speak of happens, and their bounds are reached. Of a run of 128 steps the step is
-- computed once, for any number sent or left to wait.
--     reached_128            128 call bursts in a row: a call offered, and 127 steps of silence
--     no_127                 so 127 is too small a bound
--     then_standby           the step after them goes to Stand-by with 128 to wait
--     answer_to_the_128th    the answer to the 128th still counts: CS1 at the 128th step and at the next
--     blocks_in_turn         block 1, block 2, block 1
--     two_cs2, one_then_two_twos   two CS2; CS1 before them does not matter
--     refused_by_cs3_lem, fails_alike  CS3 ends a call at once; it leaves what 128 without an answer leave
--     stays_on, steps_on, of_that_wait   a call offered in every step of the wait: what is assumed of a wait holds
--     still_untaken, taken_at_last   128 times it is not taken, and then it is
--     in_order, out_of_order, block_1_twice   both blocks in either order; the same one twice, and then the other
--     both_were_heard        told from the run
--     refusal_between        a refused event between the two is no step
--     answered_in_the_wait   a call is answered with 127 steps left to wait
-- Assumes nothing.
use mathlib.Core.Path.{◌≡◌, refl, ap, sym, ◌∙◌}
use mathlib.Core.Bool.{true, false}
use Prim.Native.Nat.{ℕ, zero, suc, ◌-◌, ◌<◌, ◌≤◌}
use native.Mathlib.Omega.{arith}
use native.Mathlib.Numerals.{add-one}
use borrow.Author.Tests.{lt-leb, ne_eqb}
use Rattle.signals.specs.declared.Case.TheVariants.{Letters}
use Rattle.signals.specs.Meaning.{word_no, cs1, cs2, cs3, beta}
use Rattle.signals.specs.Numbers.{Answer, answered, refused, first_not}
use Rattle.mode_a.specs.declared.Role.TheVariants.{Master}
use Rattle.mode_a.specs.declared.Number.TheVariants.{One, Two}
use Rattle.mode_a.specs.declared.Words.{Words}
use Rattle.mode_a.specs.declared.Mark.{Mark}
use Rattle.mode_a.specs.declared.Identity.{Identity}
use Rattle.mode_a.specs.declared.Own.{Own}
use Rattle.mode_a.specs.declared.Owed.{Owed}
use Rattle.mode_a.specs.declared.Peer.TheVariants.{Nobody, Four}
use Rattle.mode_a.specs.declared.Place.TheVariants.{Sending, Receiving, Calling}
use Rattle.mode_a.specs.declared.Offer.{Offer}
use Rattle.mode_a.specs.declared.Station.{Station}
use Rattle.mode_a.specs.declared.Reply.{Reply}
use Rattle.identity.specs.Table3.{is_identity}
use Rattle.identity.specs.Sums.{is_callable7}
use Rattle.mode_a.specs.Calls.{is_callable, call_block1, call_block2, next_block}
use Rattle.mode_a.specs.Station.{words, single, silence, resting, fresh_at, no_code, no_seven}
use Rattle.mode_a.specs.Heard.{first_of, is_words, call_of, call3_of, heard_of}
use Rattle.mode_a.specs.Answerback.{code_signals, holds_neither, passes, owed_exists}
use Rattle.mode_a.specs.Step.{done, sound, stepping}
use Rattle.runs.specs.Places.{is_stand_by, at_stand_by}
use Rattle.runs.specs.Runs.{Event, Run, start, ◌▷◌, said, next, after, is_taken, one_step, steps_in, StaysAtStandBy}
use Rattle.placing.specs.Runs.{calls_in_a_row}
use Rattle.placing.specs.StandBy.{Waits, BothBlocks}
use Rattle.placing.proofs.CallingLaws.{at_most_128_in_turn}
use Rattle.placing.proofs.StandByLaws.{waits_128, hears_call_exactly}

-- a ship with the identity X K M P calls a coast station with V Q C Y
abbrev pub ship : Identity
ship = record { 0 = word_no 24; 1 = word_no 11; 2 = word_no 13; 3 = word_no 16 }

abbrev pub coast : Identity
coast = record { 0 = word_no 22; 1 = word_no 17; 2 = word_no 3; 3 = word_no 25 }

abbrev pub own : Own
own = record { four = ship; seven = no_seven; code = no_code }

-- the ship's station, at Stand-by
abbrev pub set : Station
set = fresh_at own

-- a burst heard and nothing offered; nothing heard, and nothing or the call offered
abbrev pub hears : Words → Event
hears b = record { burst = b; offer = Offer.Nothing }

abbrev pub quiet : Event
quiet = hears silence

abbrev pub offers : Event
offers = record { burst = silence; offer = Offer.Call coast }

-- the same event n times after a run
unfoldable pub times : ℕ → Event → Run → Run
times zero e run = run
times (suc n) e run = times n e run ▷ e

-- the station after so many call bursts, and with so many steps to wait
abbrev pub called_so : ℕ → Station
called_so n =
    record { role = Master; place = Calling (record { to = coast; sent = n; last = Mark.None }); count = 0; case = Letters; plus = false; own = own; other = Nobody; owed = Owed.Nothing }

abbrev pub waits_so : ℕ → Station
waits_so n =
    record { role = Master; place = resting n; count = 0; case = Letters; plus = false; own = own; other = Nobody; owed = Owed.Nothing }

-- one step of silence at Calling
calls_once : (n : ℕ) → n < 128 → next (called_so n) quiet ≡ called_so (suc n)
unfolding stepping sound owed_exists passes code_signals holds_neither done first_not heard_of first_of is_words call_of call3_of is_callable is_callable7 is_identity
calls_once n l = rw (lt-leb 128 n l) (ap called_so (add-one n))

calls_on_lem : (n : ℕ) → n ≤ 127 → after set (times n quiet (start ▷ offers)) ≡ called_so (suc n)
unfolding times stepping sound owed_exists passes code_signals holds_neither done first_not heard_of first_of is_words call_of call3_of is_callable is_callable7 is_identity
calls_on_lem zero l = refl
calls_on_lem (suc n) l = ap (λ (s : Station). next s quiet) (calls_on_lem n (omega arith)) ∙ calls_once (suc n) (omega arith)

abbrev pub unanswered : ℕ → Run
unanswered n = times n quiet (start ▷ offers)

pub reached_128 : calls_in_a_row set (unanswered 127) ≡ 128
reached_128 = sym ((at_most_128_in_turn set refl (unanswered 127)).sents _ (ap (λ (s : Station). s.place) (calls_on_lem 127 (omega arith))))

pub no_127 : ((run : Run) → calls_in_a_row set run ≤ 127) → ⊥
no_127 claim = omega (arith, claim (unanswered 127), reached_128)

pub then_standby : (after set (unanswered 128)).place ≡ resting 128
unfolding times stepping sound owed_exists passes code_signals holds_neither done first_not heard_of first_of is_words call_of call3_of is_callable is_callable7 is_identity
then_standby = ap (λ (s : Station). (next s quiet).place) (calls_on_lem 127 (omega arith))

-- CS1 in the step that sends the 128th, and CS1 after it
pub answer_to_the_128th : let s = after set (unanswered 126 ▷ hears (single cs1)) in let t = after set (unanswered 126 ▷ hears (single cs1) ▷ hears (single cs1)) in
    (s.place ≡ Calling (record { to = coast; sent = 128; last = Mark.One })) × (t.place ≡ Sending (record { number = One; block = words beta beta beta })) × (t.other ≡ Four coast)
unfolding stepping sound owed_exists passes code_signals holds_neither done first_not heard_of first_of is_words call_of call3_of is_callable is_callable7 is_identity
answer_to_the_128th =
    let e = calls_on_lem 126 (omega arith) in (
      ap (λ (s : Station). (next s (hears (single cs1))).place) e,
      ap (λ (s : Station). (next (next s (hears (single cs1))) (hears (single cs1))).place) e,
      ap (λ (s : Station). (next (next s (hears (single cs1))) (hears (single cs1))).other) e,
    )

-- "in turn": the first three
abbrev pub sent_in : Answer Reply → Words
sent_in (answered r) = r.sent
sent_in (refused n v) = silence

pub blocks_in_turn : (sent_in (said set offers) ≡ words 60 102 46) × (sent_in (said (called_so 1) quiet) ≡ words 29 43 102) × (sent_in (said (called_so 2) quiet) ≡ words 60 102 46)
unfolding stepping sound owed_exists passes code_signals holds_neither done first_not heard_of first_of is_words call_of call3_of is_callable is_callable7 is_identity next_block
blocks_in_turn = (refl, refl, refl)

-- "two successive identical CS1 or CS2"
pub two_cs2 : (after set (start ▷ offers ▷ hears (single cs2) ▷ hears (single cs2))).place ≡ Sending (record { number = Two; block = words beta beta beta })
unfolding stepping sound owed_exists passes code_signals holds_neither done first_not heard_of first_of is_words call_of call3_of is_callable is_callable7 is_identity
two_cs2 = refl

pub one_then_two_twos : (after set (start ▷ offers ▷ hears (single cs1) ▷ hears (single cs2) ▷ hears (single cs2))).place ≡ Sending (record { number = Two; block = words beta beta beta })
unfolding stepping sound owed_exists passes code_signals holds_neither done first_not heard_of first_of is_words call_of call3_of is_callable is_callable7 is_identity
one_then_two_twos = refl

-- "on CS3 waits 128 cycles in stand-by"
pub refused_by_cs3_lem : after set (start ▷ offers ▷ hears (single cs3)) ≡ waits_so 128
unfolding stepping sound owed_exists passes code_signals holds_neither done first_not heard_of first_of is_words call_of call3_of is_callable is_callable7 is_identity
refused_by_cs3_lem = refl

-- and so where the 128 run out
pub fails_alike : (next (called_so 1) (hears (single cs3)) ≡ waits_so 128) × (next (called_so 128) quiet ≡ waits_so 128)
unfolding stepping sound owed_exists passes code_signals holds_neither done first_not heard_of first_of is_words call_of call3_of is_callable is_callable7 is_identity
fails_alike = (refl, refl)

-- one step of the wait, and n of them: the call is offered again each time, and not taken
waits_once : (n : ℕ) → next (waits_so (suc n)) offers ≡ waits_so n
unfolding stepping sound owed_exists passes code_signals holds_neither done first_not heard_of first_of is_words call_of call3_of is_callable is_callable7 is_identity
waits_once n = rw (ne_eqb (suc n) 0 (λ z. omega arith)) (ap waits_so (omega arith))

pub waits_on_lem : (n : ℕ) → n ≤ 128 → after (waits_so 128) (times n offers start) ≡ waits_so (128 - n)
unfolding times
waits_on_lem zero l = refl
waits_on_lem (suc n) l =
    ap (λ (s : Station). next s offers) (waits_on_lem n (omega arith)) ∙ ap (λ (k : ℕ). next (waits_so k) offers) (less n l) ∙ waits_once (128 - suc n)
  where
    less : (n : ℕ) → suc n ≤ 128 → 128 - n ≡ suc (128 - suc n)
    less n l = omega arith

-- what is assumed of the wait holds there
pub stays_on : (n : ℕ) → n ≤ 128 → StaysAtStandBy (waits_so 128) (times n offers start)
unfolding times StaysAtStandBy
stays_on zero l = tt
stays_on (suc n) l = (stays_on n (omega arith), ap (λ (s : Station). is_stand_by s.place) (waits_on_lem (suc n) l))

is_step : (k m : ℕ) → one_step (said (waits_so k) offers) m ≡ suc m
unfolding stepping sound owed_exists passes code_signals holds_neither done first_not is_callable is_identity
is_step k m = refl

pub steps_on : (n : ℕ) → n ≤ 128 → steps_in (waits_so 128) (times n offers start) ≡ n
unfolding times steps_in
steps_on zero l = refl
steps_on (suc n) l =
    ap (λ (s : Station). one_step (said s offers) (steps_in (waits_so 128) (times n offers start))) (waits_on_lem n (omega arith)) ∙ is_step (128 - n) (steps_in (waits_so 128) (times n offers start)) ∙ ap suc (steps_on n (omega arith))

pub of_that_wait : (n : ℕ) → n ≤ 128 → Waits (called_so 1) (hears (single cs3)) (times n offers start)
unfolding stepping sound owed_exists passes code_signals holds_neither done first_not heard_of first_of is_words call_of call3_of is_callable is_callable7 is_identity
of_that_wait n l = waits_128 (called_so 1) (hears (single cs3)) refl refl (times n offers start) (stays_on n l)

-- in the 128th step the call is not taken, and in the 129th it is
pub still_untaken : is_taken (said (after (waits_so 128) (times 127 offers start)) offers) ≡ false
unfolding stepping sound owed_exists passes code_signals holds_neither done first_not heard_of is_words call_of call3_of is_callable is_callable7 is_identity
still_untaken = ap (λ (s : Station). is_taken (said s offers)) (waits_on_lem 127 (omega arith))

pub taken_at_last : let s = after (waits_so 128) (times 128 offers start) in (is_taken (said s offers) ≡ true) × (next s offers ≡ called_so 1)
unfolding stepping sound owed_exists passes code_signals holds_neither done first_not heard_of is_words call_of call3_of is_callable is_callable7 is_identity
taken_at_last = let e = waits_on_lem 128 (omega arith) in (ap (λ (s : Station). is_taken (said s offers)) e, ap (λ (s : Station). next s offers) e)

-- "both blocks in succession", in either order, and the same one twice before the other
abbrev pub block1 : Event
block1 = hears (call_block1 ship)

abbrev pub block2 : Event
block2 = hears (call_block2 ship)

pub in_order : (after set (start ▷ block1 ▷ block2)).place ≡ Receiving One
unfolding stepping sound owed_exists passes code_signals holds_neither done first_not heard_of is_words call_of call3_of is_callable is_callable7 is_identity
in_order = refl

pub out_of_order : (after set (start ▷ block2 ▷ block1)).place ≡ Receiving One
unfolding stepping sound owed_exists passes code_signals holds_neither done first_not heard_of is_words call_of call3_of is_callable is_callable7 is_identity
out_of_order = refl

pub block_1_twice : (after set (start ▷ block1 ▷ block1 ▷ block2)).place ≡ Receiving One
unfolding stepping sound owed_exists passes code_signals holds_neither done first_not heard_of is_words call_of call3_of is_callable is_callable7 is_identity
block_1_twice = refl

-- told from the run
pub both_were_heard : BothBlocks set (start ▷ block1) block2
unfolding stepping sound owed_exists passes code_signals holds_neither done first_not heard_of is_words call_of call3_of is_callable is_callable7 is_identity
both_were_heard = (hears_call_exactly set (λ w e. ap (at_stand_by (λ w. w.heard) Mark.None) (sym e)) (start ▷ block1) _ refl block2 _ refl).answers_exactly.0 refl

-- an offer that is refused between the two: an identity with a signal outside table 3a
pub refusal_between : (after set (start ▷ block1 ▷ record { burst = silence; offer = Offer.Call (record { 0 = cs1; 1 = cs1; 2 = cs1; 3 = cs1 }) } ▷ block2)).place ≡ Receiving One
unfolding stepping sound owed_exists passes code_signals holds_neither done first_not heard_of is_words call_of call3_of is_callable is_callable7 is_identity
refusal_between = refl

-- with steps left to wait
pub answered_in_the_wait : (after (waits_so 128) (start ▷ block1 ▷ block2)).place ≡ Receiving One
unfolding stepping sound owed_exists passes code_signals holds_neither done first_not heard_of is_words call_of call3_of is_callable is_callable7 is_identity
answered_in_the_wait = refl
