-- Wrong pairs of a reason and an answer: `Does` tells them apart. Of every station, burst and offer:
--     no_print_for_bad         an answer that prints, given for a bad word
--     no_turn_for_accepted     CS3 and Asking, given for a block that is merely accepted
--     no_move_for_bad          another place, given for a bad word, at any place but Ending
--     no_offer_for_own         an offer taken, given for the own number's control signal
--     no_again_for_other       the block sent again, given for the other number's
--     no_back_for_over_heard   the direction turned back behind the answer-back code, given for the over that was heard
--     no_cs4_for_two_blocks    CS4, given for a call of two blocks
--     no_block_for_the_same_sum   the identification block again, given for the same wrong check-sum twice in succession
-- And of one station, burst and offer each, computed: the step answers, the reason is the first of the two, and the answer does not go
-- with the second (`Instead`).
-- Assumes nothing.
use mathlib.Core.Path.{◌≡◌, refl, ap, sym, ◌∙◌}
use mathlib.Core.Bool.{true, false, not, true≢false}
use Prim.Native.Nat.{ℕ, ◌<◌}
use native.Mathlib.Omega.{arith}
use borrow.Author.Tests.{eq-eqb}
use Rattle.signals.specs.declared.Case.TheVariants.{Letters}
use Rattle.signals.specs.Units.{ones_of, intact_of}
use Rattle.signals.specs.Meaning.{meaning_of, traffic_of, figures, alpha, beta, rq, cs1, cs2, cs3, cs4}
use Rattle.signals.specs.Numbers.{Answer, answered, refused, first_not}
use Rattle.identity.specs.Table3.{is_identity}
use Rattle.identity.specs.Sums.{is_callable7}
use Rattle.mode_a.specs.declared.Role.TheVariants.{Slave}
use Rattle.mode_a.specs.declared.Number.{Number}
use Rattle.mode_a.specs.declared.Number.TheVariants.{One, Two}
use Rattle.mode_a.specs.declared.Words.{Words}
use Rattle.mode_a.specs.declared.Held.{Held}
use Rattle.mode_a.specs.declared.Identified.{Identified}
use Rattle.mode_a.specs.declared.Owed.{Owed}
use Rattle.mode_a.specs.declared.Peer.TheVariants.{Nobody}
use Rattle.mode_a.specs.declared.Place.{Place}
use Rattle.mode_a.specs.declared.Place.TheVariants.{Sending, Ending, Receiving, Asking, Calling, Calling3, Identifying}
use Rattle.mode_a.specs.declared.Offer.{Offer}
use Rattle.mode_a.specs.declared.Station.{Station}
use Rattle.mode_a.specs.declared.Doing.TheVariants.{Answers}
use Rattle.mode_a.specs.declared.Reply.{Reply}
use Rattle.mode_a.specs.Station.{words, single, silence, βαβ, ααα, other, no_identity, resting, fresh_master, fresh_slave}
use Rattle.mode_a.specs.Heard.{first_of, may_hold, is_block, is_words, call_of, call3_of, heard_of}
use Rattle.mode_a.specs.Calls.{is_callable}
use Rattle.mode_a.specs.Over.{query, cross, who, listened}
use Rattle.mode_a.specs.Answerback.{code_signals, holds_neither, passes, owed_exists}
use Rattle.mode_a.specs.Step.{traffic_in, done, sound, stepping}
use Rattle.runs.specs.Places.{place_no, is_ending, is_identifying, changed}
use Rattle.runs.specs.Runs.{is_answered, is_taken}
use Rattle.runs.proofs.PlaceLaws.{places_apart}
use Rattle.runs.proofs.StepLaws.{by_take}
use Rattle.reasons.specs.declared.Reason.{Reason}
use Rattle.reasons.specs.Reasons.{row_at, times_out, reason_of}
use Rattle.one_answer.specs.Answers.{Unnamed, asks_again, ends_again_lem, ends_at_last, calls_on_lem, calls_on_3, Does, is_called_lem, is_called_3, other_number, other_number_ending, wrong_sum_again, wrong_sum_ends, wrong_sum_rests, bad, over_heard, over_heard_asked, accepted, says_accepted, may_take}
use Rattle.one_answer.proofs.DoesLaws.{prints_only_accepted, accepted_prints, taken_reasons}

module _ (s : Station) (b : Words) (o : Offer) where
  pub no_print_for_bad : (i w : ℕ) (a : Reply) → Does s b o (Reason.Bad i w) a → (a.printed ≡ silence → ⊥) → ⊥
  no_print_for_bad i w a d n = n (prints_only_accepted s b o (Reason.Bad i w) a d refl)

  pub no_turn_for_accepted : (a : Reply) → Does s b o Reason.Accepted a → a.station.place ≡ Asking → ⊥
  no_turn_for_accepted a (accepted n e) f = places_apart _ _ refl f

  -- what the row does not name leaves the station where it is, but for Ending, which at last goes to Stand-by
  stays : (a : Reply) → Unnamed s a → is_ending s.place ≡ false → changed s.place a.station.place ≡ true → ⊥
  stays a (asks_again w x) e f = true≢false (sym f ∙ ap not (eq-eqb (place_no s.place) (place_no s.place) refl))
  stays a (ends_again_lem x p l) e f = true≢false (sym (ap is_ending p) ∙ e)
  stays a (ends_at_last x p l) e f = true≢false (sym (ap is_ending p) ∙ e)
  stays a (calls_on_lem c p) e f = true≢false (sym f ∙ ap (λ (q : Place). changed q (Calling c)) p)
  stays a (calls_on_3 c p) e f = true≢false (sym f ∙ ap (λ (q : Place). changed q (Calling3 c)) p)

  pub no_move_for_bad : (i w : ℕ) (a : Reply) → Does s b o (Reason.Bad i w) a → is_ending s.place ≡ false → changed s.place a.station.place ≡ true → ⊥
  no_move_for_bad i w a (bad _ _ _ u) e f = stays a u e f

  pub no_offer_for_own : (a : Reply) → Does s b o Reason.Own a → a.taken ≡ true → ⊥
  no_offer_for_own a d t = true≢false (sym (taken_reasons s b o Reason.Own a d t))

  pub no_again_for_other : (a : Reply) → Does s b o Reason.Other a → a.station.place ≡ s.place → is_ending s.place ≡ false → ⊥
  no_again_for_other a (other_number h e) f g = by_take (λ (r : Reply). r.station.place ≡ s.place → ⊥) s (other h.number) o (λ u w t p. differ h.number (held_number (p ∙ e))) (λ p. places_apart (Ending _) (Sending h) refl (p ∙ e)) f
    where
      differ : (n : Number) → other n ≡ n → ⊥
      differ One p = let z : ◌≡◌ {A = ℕ} 0 1 = cc in omega arith
      differ Two p = let z : ◌≡◌ {A = ℕ} 0 1 = cc in omega arith

      held_number : {x y : Held} → Sending x ≡ Sending y → x.number ≡ y.number
      held_number p = cc
  no_again_for_other a (other_number_ending x e) f g = true≢false (sym (ap is_ending e) ∙ g)

  pub no_back_for_over_heard : (a : Reply) → Does s b o Reason.OverHeard a → s.owed ≡ Owed.Nothing → a.station.owed ≡ Owed.Back 0 → ⊥
  no_back_for_over_heard a (over_heard n e f) p q = let z : ◌≡◌ {A = ℕ} 0 1 = cc in omega arith
  no_back_for_over_heard a (over_heard_asked n e f) p q = let z : ◌≡◌ {A = ℕ} 0 1 = cc in omega arith

  pub no_cs4_for_two_blocks : (a : Reply) → Does s b o Reason.Called a → row_at s b ≡ Answers → a.sent ≡ single cs4 → ⊥
  no_cs4_for_two_blocks a (is_called_lem e) f g = omega (arith, ap (λ (w : Words). w.0) g)
  no_cs4_for_two_blocks a (is_called_3 e) f g = let z : ◌≡◌ {A = ℕ} 0 1 = cc in omega arith

  pub no_block_for_the_same_sum : (a : Reply) (i : Identified) → Does s b o Reason.WrongSum a → s.place ≡ Identifying i → 0 < i.wrong → i.last ≡ b.0 → is_identifying a.station.place ≡ true → ⊥
  no_block_for_the_same_sum a i (wrong_sum_again j f n l) e p q g =
      let same : j ≡ i = cc in n (rw same p) (rw same q)
  no_block_for_the_same_sum a i (wrong_sum_ends j f l k) e p q g = true≢false (sym g)
  no_block_for_the_same_sum a i (wrong_sum_rests j f n l) e p q g = true≢false (sym g)

-- the reason is this one and not the other, of an answer that the step gives
pub record Instead (s : Station) (b : Words) (o : Offer) (right wrong : Reason) : Type 0 where
  pub given : reason_of s b o ≡ right
  pub stepped : is_answered (stepping s b o) ≡ true
  pub never : (a : Reply) → stepping s b o ≡ answered a → Does s b o wrong a → ⊥

-- the parts of an answer
abbrev place_in : Answer Reply → Place
place_in (answered r) = r.station.place
place_in (refused n v) = Asking

abbrev owed_in : Answer Reply → Owed
owed_in (answered r) = r.station.owed
owed_in (refused n v) = Owed.Nothing

abbrev printed_in : Answer Reply → Words
printed_in (answered r) = r.printed
printed_in (refused n v) = silence

-- T E A; a slave at a place, with a count; one that holds a block
abbrev tea : Words
tea = words 116 86 71

abbrev slave_at : Place → ℕ → Station
slave_at p k = record { role = Slave; place = p; count = k; case = Letters; plus = false; own = no_identity; other = Nobody; owed = Owed.Nothing }

abbrev holding : Station
holding = slave_at (Sending (record { number = One; block = tea })) 0

-- told by what it prints, or does not; by the offer that it takes
module _ (s : Station) (b : Words) (o : Offer) (r : Reason) (a : Reply) (e : stepping s b o ≡ answered a) (d : Does s b o r a) where
  prints : says_accepted r ≡ false → 0 < (printed_in (stepping s b o)).0 → ⊥
  prints q l = omega (arith, ap (λ (w : Words). w.0) (ap printed_in e ∙ prints_only_accepted s b o r a d q))

  prints_none : says_accepted r ≡ true → (printed_in (stepping s b o)).0 < (traffic_in b).0 → ⊥
  prints_none q l = omega (arith, ap (λ (w : Words). w.0) (ap printed_in e ∙ accepted_prints s b o r a d q))

  takes_one : may_take r ≡ false → is_taken (stepping s b o) ≡ true → ⊥
  takes_one q t = true≢false (sym (taken_reasons s b o r a d (sym (ap is_taken e) ∙ t)) ∙ q)

-- a block, whole
pub accepted_not_bad : Instead fresh_slave tea Offer.Nothing Reason.Accepted (Reason.Bad 0 5)
unfolding reason_of times_out intact_of ones_of stepping sound owed_exists passes code_signals holds_neither heard_of first_of may_hold traffic_of meaning_of is_block is_words first_not done listened traffic_in
accepted_not_bad = record { given = refl; stepped = refl; never = λ a e d. prints _ _ _ _ a e d refl (omega arith) }

-- one with a damaged word, with an RQ, with α
pub bad_not_accepted : Instead fresh_slave (words 116 5 71) Offer.Nothing (Reason.Bad 1 5) Reason.Accepted
unfolding reason_of times_out intact_of ones_of stepping sound owed_exists passes code_signals holds_neither heard_of first_of may_hold traffic_of meaning_of is_block is_words first_not done listened traffic_in
bad_not_accepted = record { given = refl; stepped = refl; never = λ a e d. prints_none _ _ _ _ a e d refl (omega arith) }

pub repeat_not_accepted : Instead fresh_slave (words 116 rq 71) Offer.Nothing (Reason.Repeat 1) Reason.Accepted
unfolding reason_of times_out intact_of ones_of stepping sound owed_exists passes code_signals holds_neither heard_of first_of may_hold traffic_of meaning_of is_block is_words first_not done listened traffic_in
repeat_not_accepted = record { given = refl; stepped = refl; never = λ a e d. prints_none _ _ _ _ a e d refl (omega arith) }

pub unexpected_not_accepted : Instead fresh_slave (words 116 86 alpha) Offer.Nothing Reason.Unexpected Reason.Accepted
unfolding reason_of times_out intact_of ones_of stepping sound owed_exists passes code_signals holds_neither heard_of first_of may_hold traffic_of meaning_of is_block is_words first_not done listened traffic_in
unexpected_not_accepted = record { given = refl; stepped = refl; never = λ a e d. prints_none _ _ _ _ a e d refl (omega arith) }

-- the direction turns: over offered; + ? in figures; D in figures
pub over_offered_not_accepted : Instead fresh_slave tea Offer.Over Reason.OverOffered Reason.Accepted
unfolding reason_of times_out intact_of ones_of stepping sound owed_exists passes code_signals holds_neither heard_of first_of may_hold traffic_of meaning_of is_block is_words first_not done listened traffic_in
over_offered_not_accepted = record { given = refl; stepped = refl; never = λ a e d. takes_one _ _ _ _ a e d refl refl }

pub over_heard_not_accepted : Instead fresh_slave (words figures cross query) Offer.Nothing Reason.OverHeard Reason.Accepted
unfolding reason_of times_out intact_of ones_of stepping sound owed_exists passes code_signals holds_neither heard_of first_of may_hold traffic_of meaning_of is_block is_words first_not done listened traffic_in
over_heard_not_accepted = record { given = refl; stepped = refl; never = λ a e d. no_turn_for_accepted _ _ _ a d (sym (ap place_in e)) }

pub who_are_you_not_over_heard : Instead fresh_slave (words figures who beta) Offer.Nothing Reason.WhoAreYou Reason.OverHeard
unfolding reason_of times_out intact_of ones_of stepping sound owed_exists passes code_signals holds_neither heard_of first_of may_hold traffic_of meaning_of is_block is_words first_not done listened traffic_in
who_are_you_not_over_heard = record { given = refl; stepped = refl; never = λ a e d. no_back_for_over_heard _ _ _ a d refl (sym (ap owed_in e)) }

-- the same damaged word, for the 32nd time
pub time_out_not_bad : Instead (slave_at (Receiving One) 31) (words 116 5 71) Offer.Nothing Reason.TimeOut (Reason.Bad 1 5)
unfolding reason_of times_out intact_of ones_of stepping sound owed_exists passes code_signals holds_neither heard_of first_of may_hold traffic_of meaning_of is_block is_words first_not done listened traffic_in
time_out_not_bad = record { given = refl; stepped = refl; never = λ a e d. no_move_for_bad _ _ _ _ _ a d refl (sym (ap (λ x. changed (Receiving One) (place_in x)) e)) }

-- ααα at Receiving, βαβ at Asking
pub alphas_not_bad : Instead fresh_slave ααα Offer.Nothing Reason.Alphas (Reason.Bad 0 15)
unfolding reason_of times_out intact_of ones_of stepping sound owed_exists passes code_signals holds_neither heard_of first_of may_hold traffic_of meaning_of is_block is_words first_not done listened traffic_in
alphas_not_bad = record { given = refl; stepped = refl; never = λ a e d. no_move_for_bad _ _ _ _ _ a d refl (sym (ap (λ x. changed (Receiving One) (place_in x)) e)) }

pub turn_not_bad : Instead (slave_at Asking 0) βαβ Offer.Nothing Reason.Turn (Reason.Bad 0 51)
unfolding reason_of times_out intact_of ones_of stepping sound owed_exists passes code_signals holds_neither heard_of first_of may_hold traffic_of meaning_of is_block is_words first_not done listened traffic_in
turn_not_bad = record { given = refl; stepped = refl; never = λ a e d. no_move_for_bad _ _ _ _ _ a d refl (sym (ap (λ x. changed Asking (place_in x)) e)) }

-- a block held under number 1: CS1, CS2, CS3
pub own_not_other : Instead holding (single cs1) Offer.Nothing Reason.Own Reason.Other
unfolding reason_of times_out intact_of ones_of stepping sound owed_exists passes code_signals holds_neither heard_of first_of may_hold traffic_of meaning_of is_block is_words first_not done listened traffic_in
own_not_other = record { given = refl; stepped = refl; never = λ a e d. no_again_for_other _ _ _ a d (sym (ap place_in e)) refl }

pub other_not_own : Instead holding (single cs2) Offer.Nothing Reason.Other Reason.Own
unfolding reason_of times_out intact_of ones_of stepping sound owed_exists passes code_signals holds_neither heard_of first_of may_hold traffic_of meaning_of is_block is_words first_not done listened traffic_in
other_not_own = record { given = refl; stepped = refl; never = λ a e d. no_offer_for_own _ _ _ a d (sym (ap is_taken e)) }

pub cs3_not_bad : Instead holding (single cs3) Offer.Nothing Reason.Cs3 (Reason.Bad 0 89)
unfolding reason_of times_out intact_of ones_of stepping sound owed_exists passes code_signals holds_neither heard_of first_of may_hold traffic_of meaning_of is_block is_words first_not done listened traffic_in
cs3_not_bad = record { given = refl; stepped = refl; never = λ a e d. no_move_for_bad _ _ _ _ _ a d refl (sym (ap (λ x. changed holding.place (place_in x)) e)) }

-- CS1 at Opening
pub either_not_own : Instead fresh_master (single cs1) Offer.Nothing Reason.Either Reason.Own
unfolding reason_of times_out intact_of ones_of stepping sound owed_exists passes code_signals holds_neither heard_of first_of may_hold traffic_of meaning_of is_block is_words first_not done listened traffic_in
either_not_own = record { given = refl; stepped = refl; never = λ a e d. no_offer_for_own _ _ _ a d (sym (ap is_taken e)) }

-- a call offered at Stand-by, to V X Q Z
pub call_offered_not_silent : Instead (slave_at (resting 0) 0) silence (Offer.Call (record { 0 = 60; 1 = 58; 2 = 46; 3 = 99 })) Reason.CallOffered Reason.Silent
unfolding reason_of times_out stepping sound owed_exists passes code_signals holds_neither heard_of is_identity is_callable is_callable7 call_of call3_of first_not done
call_offered_not_silent = record { given = refl; stepped = refl; never = λ a e d. takes_one _ _ _ _ a e d refl refl }
