-- Wrong readings of 02's list. Of each, a station, a burst and an offer at which the reason given, computed, is another than the one that
-- it would give, and the promise refuses that one.
--     no_rq_before_bad             an earlier RQ told before a bad word
--     no_late_bad                  the last bad word, and not the earliest
--     no_zero_passed_over          the zeros behind a single signal not read, where three words are
--     no_three_words_at_sending    three words judged where the place reads one
--     no_three_words_at_turning    also at Turning, of a slave
--     no_bad_before_named          a bad word told before what the row names
--     no_one_rq_for_a_master       RQ taken for RQ RQ RQ
--     no_named_before_time_out     the own number told, though it is the 32nd repetition
--     no_time_out_at_ending        the fourth ααα taken for a time-out
--     no_own_at_ending             the own number named where the row has it in "all else"
--     no_cs1_at_calling_3          CS1 named where it answers calls of four signals alone
--     no_run_out_at_the_second     128 call bursts told before the CS1 that completes the call
--     no_either_at_the_first       and a first CS1, which completes none, told before them
--     no_waiting_call              a call offered that has to wait, taken for one that is placed
--     no_d_accepted                D in figures passed over
--     no_offer_before_who          an over offered told before it
--     no_who_before_over           and D told before an over in the same block
--     no_reason_for_a_refusal      a reason for a step that is refused
-- Wrong readings of the two copies.
--     no_phasing_star              RQ and then α taken for unlike copies
--     no_star_for_one_bad          one bad copy taken for an error
--     no_star_before_printing      an error told where nothing is printed yet
--     no_star_in_dx                one told in a DX slot, where nothing is settled
-- Assumes nothing.
use mathlib.Core.Path.{◌≡◌, refl}
use mathlib.Core.Bool.{Bool, true, false}
use Prim.Native.Nat.{ℕ}
use native.Mathlib.Omega.{arith}
use Rattle.std.specs.Prelude.{Option, Some, None, Ok}
use Rattle.signals.specs.declared.Case.TheVariants.{Letters, Figures}
use Rattle.signals.specs.Units.{intact_of, ones_of}
use Rattle.signals.specs.Meaning.{meaning_of, traffic_of, alpha, rq, cs1, cs3}
use Rattle.signals.specs.Numbers.{Answer, answered, first_not}
use Rattle.identity.specs.Table3.{is_identity}
use Rattle.identity.specs.Sums.{is_callable7}
use Rattle.mode_a.specs.declared.Role.{Role}
use Rattle.mode_a.specs.declared.Role.TheVariants.{Master, Slave}
use Rattle.mode_a.specs.declared.Number.TheVariants.{One}
use Rattle.mode_a.specs.declared.Words.{Words}
use Rattle.mode_a.specs.declared.Mark.{Mark}
use Rattle.mode_a.specs.declared.Identity.{Identity}
use Rattle.mode_a.specs.declared.Owed.{Owed}
use Rattle.mode_a.specs.declared.Peer.TheVariants.{Nobody}
use Rattle.mode_a.specs.declared.Place.{Place}
use Rattle.mode_a.specs.declared.Place.TheVariants.{Sending, Turning, Ending, Receiving, Lost, Calling, Calling3}
use Rattle.mode_a.specs.declared.Offer.{Offer}
use Rattle.mode_a.specs.declared.Station.{Station}
use Rattle.mode_a.specs.Calls.{is_callable}
use Rattle.mode_a.specs.Identification.{told_in}
use Rattle.mode_a.specs.Station.{words, single, silence, no_identity, no_seven, resting}
use Rattle.mode_a.specs.Heard.{further_of, first_of, may_hold, is_block, is_words, call_of, call3_of, heard_of}
use Rattle.mode_a.specs.Over.{query, cross, who, listened}
use Rattle.mode_a.specs.Answerback.{code_signals, holds_neither, passes, owed_exists}
use Rattle.mode_a.specs.Step.{sound}
use Rattle.mode_b.specs.declared.Hearing.TheVariants.{InPhase}
use Rattle.mode_b.specs.declared.Receiver.{Receiver}
use Rattle.reasons.specs.declared.Reason.{Reason}
use Rattle.reasons.specs.declared.Star.{Star}
use Rattle.reasons.specs.Reasons.{times_out, reason_of, explaining, Explains}
use Rattle.reasons.specs.Stars.{star_of, starring, Stars}

-- the reason given is r, and the promise refuses q
abbrev Rather : Station → Words → Offer → Reason → Reason → Type 0
Rather s b o r q = (reason_of s b o ≡ r) × ¬ (Explains s b o (Ok q))

-- what the examples compute with
computed : Station → Words → Offer → Answer Reason
unfolding explaining sound owed_exists passes code_signals holds_neither first_not reason_of times_out heard_of first_of further_of is_words is_block may_hold traffic_of meaning_of call_of call3_of is_callable is_callable7 is_identity told_in intact_of ones_of listened
computed = explaining

-- a station of a role at a place, with a count; and one at Receiving, in figures case
abbrev stands : Role → Place → ℕ → Station
stands r p k = record { role = r; place = p; count = k; case = Letters; plus = false; own = no_identity; other = Nobody; owed = Owed.Nothing }

abbrev in_figures : Station
in_figures = record { role = Slave; place = Receiving One; count = 0; case = Figures; plus = false; own = no_identity; other = Nobody; owed = Owed.Nothing }

abbrev receives : Station
receives = stands Slave (Receiving One) 0

-- T E A, held as block 1
abbrev tea : Place
tea = Sending (record { number = One; block = words 116 86 71 })

-- V X Q Z
abbrev vxqz : Identity
vxqz = record { 0 = 60; 1 = 58; 2 = 46; 3 = 99 }

-- RQ and the two zeros behind it
pub no_rq_before_bad : Rather receives (single rq) Offer.Nothing (Reason.Bad 1 0) (Reason.Repeat 0)
unfolding computed
no_rq_before_bad = (refl, λ p. let z : ◌≡◌ {A = ℕ} 0 1 = cc in omega arith)

-- T and two mutilated words
pub no_late_bad : Rather receives (words 116 0 1) Offer.Nothing (Reason.Bad 1 0) (Reason.Bad 2 1)
unfolding computed
no_late_bad = (refl, λ p. let z : ◌≡◌ {A = ℕ} 0 1 = cc in omega arith)

-- CS1 has the word of L, which is traffic
pub no_zero_passed_over : Rather receives (single cs1) Offer.Nothing (Reason.Bad 1 0) Reason.Unexpected
unfolding computed
no_zero_passed_over = (refl, λ p. let z : ◌≡◌ {A = ℕ} 0 1 = cc in omega arith)

-- the same burst, where the first word alone is read
pub no_three_words_at_sending : Rather (stands Slave tea 0) (single rq) Offer.Nothing (Reason.Repeat 0) (Reason.Bad 1 0)
unfolding computed
no_three_words_at_sending = (refl, λ p. let z : ◌≡◌ {A = ℕ} 0 1 = cc in omega arith)

-- CS1 and two zeros
pub no_three_words_at_turning : Rather (stands Slave (Turning One) 0) (single cs1) Offer.Nothing Reason.Unexpected (Reason.Bad 1 0)
unfolding computed
no_three_words_at_turning = (refl, λ p. let z : ◌≡◌ {A = ℕ} 0 1 = cc in omega arith)

-- CS3 and two zeros, of which a master reads all three words
pub no_bad_before_named : Rather (stands Master (Turning One) 0) (single cs3) Offer.Nothing Reason.Cs3 (Reason.Bad 1 0)
unfolding computed
no_bad_before_named = (refl, λ p. let z : ◌≡◌ {A = ℕ} 0 1 = cc in omega arith)

-- RQ RQ T
pub no_one_rq_for_a_master : Rather (stands Master (Turning One) 0) (words rq rq 116) Offer.Nothing (Reason.Repeat 0) Reason.Rq
unfolding computed
no_one_rq_for_a_master = (refl, λ p. let z : ◌≡◌ {A = ℕ} 0 1 = cc in omega arith)

pub no_named_before_time_out : Rather (stands Slave tea 31) (single cs1) Offer.Nothing Reason.TimeOut Reason.Own
unfolding computed
no_named_before_time_out = (refl, λ p. let z : ◌≡◌ {A = ℕ} 0 1 = cc in omega arith)

-- with a count of 31: ααα once more, or Stand-by, is no repetition
pub no_time_out_at_ending : Rather (stands Slave (Ending (record { number = One; total = 4 })) 31) silence Offer.Nothing (Reason.Bad 0 0) Reason.TimeOut
unfolding computed
no_time_out_at_ending = (refl, λ p. let z : ◌≡◌ {A = ℕ} 0 1 = cc in omega arith)

pub no_own_at_ending : Rather (stands Slave (Ending (record { number = One; total = 1 })) 0) (single cs1) Offer.Nothing Reason.Unexpected Reason.Own
unfolding computed
no_own_at_ending = (refl, λ p. let z : ◌≡◌ {A = ℕ} 0 1 = cc in omega arith)

pub no_cs1_at_calling_3 : Rather (stands Master (Calling3 (record { to = no_seven; sent = 1 })) 0) (single cs1) Offer.Nothing Reason.Unexpected Reason.Cs1
unfolding computed
no_cs1_at_calling_3 = (refl, λ p. let z : ◌≡◌ {A = ℕ} 0 1 = cc in omega arith)

pub no_run_out_at_the_second : Rather (stands Master (Calling (record { to = vxqz; sent = 128; last = Mark.One })) 0) (single cs1) Offer.Nothing Reason.Either Reason.RunOut
unfolding computed
no_run_out_at_the_second = (refl, λ p. let z : ◌≡◌ {A = ℕ} 0 1 = cc in omega arith)

pub no_either_at_the_first : Rather (stands Master (Calling (record { to = vxqz; sent = 128; last = Mark.None })) 0) (single cs1) Offer.Nothing Reason.RunOut Reason.Either
unfolding computed
no_either_at_the_first = (refl, λ p. let z : ◌≡◌ {A = ℕ} 0 1 = cc in omega arith)

-- one step is left to wait
pub no_waiting_call : Rather (stands Slave (resting 1) 0) silence (Offer.Call vxqz) Reason.Silent Reason.CallOffered
unfolding computed
no_waiting_call = (refl, λ p. let z : ◌≡◌ {A = ℕ} 0 1 = cc in omega arith)

-- D T E, in figures case
pub no_d_accepted : Rather in_figures (words who 116 86) Offer.Nothing Reason.WhoAreYou Reason.Accepted
unfolding computed
no_d_accepted = (refl, λ p. let z : ◌≡◌ {A = ℕ} 0 1 = cc in omega arith)

pub no_offer_before_who : Rather in_figures (words who 116 86) Offer.Over Reason.WhoAreYou Reason.OverOffered
unfolding computed
no_offer_before_who = (refl, λ p. let z : ◌≡◌ {A = ℕ} 0 1 = cc in omega arith)

-- D + ?
pub no_who_before_over : Rather in_figures (words who cross query) Offer.Nothing Reason.OverHeard Reason.WhoAreYou
unfolding computed
no_who_before_over = (refl, λ p. let z : ◌≡◌ {A = ℕ} 0 1 = cc in omega arith)

-- a count over 31
pub no_reason_for_a_refusal : (r : Reason) → ¬ (Explains (stands Slave Lost 32) silence Offer.Nothing (Ok r))
unfolding computed
no_reason_for_a_refusal r p = let z : ◌≡◌ {A = ℕ} 0 1 = cc in omega arith

-- of a receiver in phase: the DX word of the position, whether the slot is a DX slot, and whether printing has begun
abbrev receiver : ℕ → Bool → Bool → Receiver
receiver first dx printing = record { hearing = InPhase (record { first = first; second = rq; third = rq; dx = dx; printing = printing }) }

-- there is no reason, and the promise refuses a
abbrev NoStar : Receiver → ℕ → Star → Type 0
NoStar r w a = (starring r w ≡ answered None) × ¬ (Stars r w (Ok (Some a)))

starred : Receiver → ℕ → Answer (Option Star)
unfolding starring star_of intact_of ones_of
starred = starring

pub no_phasing_star : NoStar (receiver rq false true) alpha (Star.Unlike rq alpha)
unfolding starred
no_phasing_star = (refl, λ p. let z : ◌≡◌ {A = ℕ} 0 1 = cc in omega arith)

-- 0, and then E
pub no_star_for_one_bad : NoStar (receiver 0 false true) 86 (Star.Unlike 0 86)
unfolding starred
no_star_for_one_bad = (refl, λ p. let z : ◌≡◌ {A = ℕ} 0 1 = cc in omega arith)

pub no_star_before_printing : NoStar (receiver 0 false false) 0 (Star.BothBad 0 0)
unfolding starred
no_star_before_printing = (refl, λ p. let z : ◌≡◌ {A = ℕ} 0 1 = cc in omega arith)

pub no_star_in_dx : NoStar (receiver 0 true true) 0 (Star.BothBad 0 0)
unfolding starred
no_star_in_dx = (refl, λ p. let z : ◌≡◌ {A = ℕ} 0 1 = cc in omega arith)
