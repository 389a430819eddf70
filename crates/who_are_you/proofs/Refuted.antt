-- Wrong answers to who are you (02, T-06), and rules that one could take for 02's: of each a station, a burst and an offer, or a code, at
-- which what the promise says is not what it would be. Computed, not argued.
--     no_answer_in_letters                   D in letters case answered by CS3
--     no_shift_behind_d                      D answered for a figures shift that stands behind it
--     no_answer_unaccepted                   D in a block that is damaged answered by CS3
--     no_two_answers_for_two_d               a second answer for the second D of a block
--     no_one_beta_block                      one βββ only: the over behind the first one
--     no_over_left_out                       no over behind the second βββ, where the direction is to be turned back
--     no_over_though_kept                    the over behind the second βββ, where the direction is kept
--     no_over_taken_at_who                   the operator's over taken at the block with D
--     no_question_dropped_by_over_offered    no answer owed where the operator offers an over at that block
--     no_answer_block_reported               a block of the answer reported as a taken offer
--     no_end_before_the_answer               end taken while an answer is owed
--     no_owed_after_cs3                      the rest of an answer owed after CS3 at Sending
--     no_owed_past_the_last                  an index that the answer does not have, not refused
--     no_keep_past_the_last                  the same where the direction is kept: the index of the over that the other answer has
--     no_code_of_21, no_code_with_beta, no_code_with_d_first, no_code_ending_in_over
--                                            such a code given to a station
--     no_old_answer_still_owed               what was owed of the answer of the old code owed behind a code that is given
--     no_code_that_restarts                  the count at 0 behind a code that is given
--     no_code_unjudged_at_standby, no_code_unjudged_when_lost
--                                            a step with a bad code there
--     no_order_9_4, no_order_9_8, no_order_3_9
--                                            a bad code told before a bad station, or a bad call; a bad offer told before a bad code
--     no_whole_answer_though_cut             an answer that CS3 cuts is under way, or whole
--     no_quiet_behind_a_plus                 a passing code completes no over whatever was heard before it
-- Assumes nothing.
use mathlib.Core.Path.{◌≡◌, refl, ap, sym, ◌∙◌}
use mathlib.Core.Bool.{Bool, true, false, true≢false}
use mathlib.Core.List.{List}
use Prim.Native.Nat.{ℕ, ◌<◌}
use native.Mathlib.Omega.{arith}
use lib.Dec.{eqb}
use lib.ListN.{length, length-append}
use borrow.Author.Tests.{eqb-true}
use Rattle.std.specs.Prelude.{Result, Ok, Err}
use Rattle.signals.specs.declared.Case.{Case}
use Rattle.signals.specs.declared.Case.TheVariants.{Letters, Figures}
use Rattle.signals.specs.Meaning.{meaning_of, traffic_of, word_no, figures, beta, cs1, cs2, cs3}
use Rattle.signals.specs.Numbers.{Answer, answered, refused, first_not}
use Rattle.mode_a.specs.declared.Role.TheVariants.{Slave}
use Rattle.mode_a.specs.declared.Number.TheVariants.{One, Two}
use Rattle.mode_a.specs.declared.Words.{Words}
use Rattle.mode_a.specs.declared.Code.{Code}
use Rattle.mode_a.specs.declared.Owed.{Owed}
use Rattle.mode_a.specs.declared.Peer.TheVariants.{Nobody}
use Rattle.mode_a.specs.declared.Place.{Place}
use Rattle.mode_a.specs.declared.Place.TheVariants.{Opening, Asking, Lost}
use Rattle.mode_a.specs.declared.Offer.{Offer}
use Rattle.mode_a.specs.declared.Station.{Station}
use Rattle.mode_a.specs.declared.Reply.{Reply}
use Rattle.mode_a.specs.declared.Refused.{Refused}
use Rattle.mode_a.specs.declared.Refusal.{Refusal}
use Rattle.identity.specs.Table3.{is_identity}
use Rattle.mode_a.specs.Station.{words, single, silence, no_code, fresh_slave, resting}
use Rattle.mode_a.specs.Heard.{first_of, may_hold, is_block, is_words, heard_of}
use Rattle.mode_a.specs.Over.{query, who, listened, listened_all}
use Rattle.mode_a.specs.Answerback.{code_signals, holds_neither, passes, βββ, figures+?, answer_keeping, answer_of, block_owed, owed_then, owed_exists}
use Rattle.mode_a.specs.Step.{traffic_in, owed_for, done, sound, stepping, handed_back, Steps, coded, coding, Codes}
use Rattle.runs.specs.Places.{place_no, is_turning}
use Rattle.runs.specs.Runs.{Event, Run, start, ◌▷◌, said, next, after, is_taken}
use Rattle.runs.proofs.CodeLaws.{is_owed}
use Rattle.who_are_you.specs.Answers.{asks, taken_in, Progress, under_way, whole}
use Rattle.who_are_you.specs.Quiet.{Quiet}
use Rattle.who_are_you.proofs.Examples.{tea, hears, sent_of, code_of, at, holding, code, code_plus, set, code_a, busy, code_given_in_traffic, question, turned, asked_twice, asked_five, question_asked, five_blocks, answer_is_cut}

-- the burst begins with this word
abbrev begins : ℕ → Words → Bool
begins x w = eqb w.0 x

-- of an answer, the number of its refusal; 0 where it is none
abbrev number_in : Answer Reply → ℕ
number_in (answered r) = 0
number_in (refused n v) = n

-- a block with D in letters: CS2 is due
pub no_answer_in_letters : (r : Reply) → r.sent ≡ single cs3 → Steps fresh_slave (words who beta beta) Offer.Nothing (Ok r) → ⊥
unfolding stepping sound owed_exists passes code_signals holds_neither done first_not is_block may_hold traffic_of meaning_of heard_of first_of is_words listened traffic_in block_owed owed_then answer_of answer_keeping
no_answer_in_letters r e p = true≢false (ap (begins cs3) (sym e ∙ ap sent_of p.0))

pub no_shift_behind_d : (r : Reply) → r.sent ≡ single cs3 → Steps fresh_slave (words who figures beta) Offer.Nothing (Ok r) → ⊥
unfolding stepping sound owed_exists passes code_signals holds_neither done first_not is_block may_hold traffic_of meaning_of heard_of first_of is_words listened traffic_in block_owed owed_then answer_of answer_keeping
no_shift_behind_d r e p = true≢false (ap (begins cs3) (sym e ∙ ap sent_of p.0))

pub no_answer_unaccepted : (r : Reply) → r.sent ≡ single cs3 → Steps fresh_slave (words figures who 0) Offer.Nothing (Ok r) → ⊥
unfolding stepping sound owed_exists passes code_signals holds_neither done first_not is_block may_hold traffic_of meaning_of heard_of first_of is_words listened traffic_in block_owed owed_then answer_of answer_keeping
no_answer_unaccepted r e p = true≢false (ap (begins cs3) (sym e ∙ ap sent_of p.0))

-- the operator offers an over at the block with D
pub no_over_taken_at_who : (r : Reply) → r.taken ≡ true → Steps fresh_slave question Offer.Over (Ok r) → ⊥
unfolding stepping sound owed_exists passes code_signals holds_neither done first_not is_block may_hold traffic_of meaning_of heard_of first_of is_words listened traffic_in block_owed owed_then answer_of answer_keeping
no_over_taken_at_who r e p = true≢false (sym e ∙ ap is_taken p.0)

pub no_question_dropped_by_over_offered : (r : Reply) → r.station.owed ≡ Owed.Nothing → Steps fresh_slave question Offer.Over (Ok r) → ⊥
unfolding stepping sound owed_exists passes code_signals holds_neither done first_not is_block may_hold traffic_of meaning_of heard_of first_of is_words listened traffic_in block_owed owed_then answer_of answer_keeping
no_question_dropped_by_over_offered r e p = true≢false (ap (λ (s : Station). is_owed s.owed) (sym p.1) ∙ ap is_owed e)

-- the first block of an answer, or end in its place
pub no_answer_block_reported : (r : Reply) → r.taken ≡ true → Steps (at code Opening (Owed.Back 0)) (single cs1) (Offer.Text tea) (Ok r) → ⊥
unfolding stepping sound owed_exists passes code_signals holds_neither done first_not is_block may_hold traffic_of meaning_of heard_of first_of is_words listened traffic_in block_owed owed_then answer_of answer_keeping
no_answer_block_reported r e p = true≢false (sym e ∙ ap is_taken p.0)

pub no_end_before_the_answer : (r : Reply) → r.taken ≡ true → Steps (at code Opening (Owed.Back 0)) (single cs1) Offer.End (Ok r) → ⊥
unfolding stepping sound owed_exists passes code_signals holds_neither done first_not is_block may_hold traffic_of meaning_of heard_of first_of is_words listened traffic_in block_owed owed_then answer_of answer_keeping
no_end_before_the_answer r e p = true≢false (sym e ∙ ap is_taken p.0)

pub no_owed_after_cs3 : (r : Reply) → is_owed r.station.owed ≡ true → Steps (at no_code (holding One βββ) (Owed.Back 1)) (single cs3) Offer.Nothing (Ok r) → ⊥
unfolding stepping sound owed_exists passes code_signals holds_neither done first_not is_block may_hold traffic_of meaning_of heard_of first_of is_words listened traffic_in block_owed owed_then answer_of answer_keeping
no_owed_after_cs3 r e p = true≢false (sym e ∙ ap (λ (s : Station). is_owed s.owed) p.1)

-- Two steps with nothing offered: the second is one of the station that the first hands back, t.
module _ (s t : Station) (b b' : Words) (r r' : Reply) (p : Steps s b Offer.Nothing (Ok r)) (i : next s (record { burst = b; offer = Offer.Nothing }) ≡ t) (q : Steps r.station b' Offer.Nothing (Ok r')) where
  sent_second : r'.sent ≡ sent_of (stepping t b' Offer.Nothing)
  sent_second = ap sent_of (q.0 ∙ ap (λ (u : Station). stepping u b' Offer.Nothing) (p.1 ∙ i))

-- the empty code: the first βββ, and what is sent behind it
pub no_one_beta_block : (r r' : Reply) → Steps (at no_code Opening (Owed.Back 0)) (single cs1) Offer.Nothing (Ok r) → Steps r.station (single cs2) Offer.Nothing (Ok r') → r'.sent ≡ figures+? → ⊥
unfolding stepping sound owed_exists passes code_signals holds_neither done first_not is_block may_hold traffic_of meaning_of heard_of first_of is_words listened traffic_in block_owed owed_then answer_of answer_keeping
no_one_beta_block r r' p q e =
    true≢false (ap (begins figures) (sym e ∙ sent_second (at no_code Opening (Owed.Back 0)) (at no_code (holding One βββ) (Owed.Back 1)) (single cs1) (single cs2) r r' p refl q))

-- the second βββ, and what is sent behind it: the over where the direction is to be turned back, what is offered where it is kept
pub no_over_left_out : (r r' : Reply) → Steps (at no_code (holding One βββ) (Owed.Back 1)) (single cs2) Offer.Nothing (Ok r) → Steps r.station (single cs1) Offer.Nothing (Ok r') → r'.sent ≡ βββ → ⊥
unfolding stepping sound owed_exists passes code_signals holds_neither done first_not is_block may_hold traffic_of meaning_of heard_of first_of is_words listened traffic_in block_owed owed_then answer_of answer_keeping
no_over_left_out r r' p q e =
    true≢false (ap (begins beta) (sym e ∙ sent_second (at no_code (holding One βββ) (Owed.Back 1)) (at no_code (holding Two βββ) (Owed.Back 2)) (single cs2) (single cs1) r r' p refl q))

pub no_over_though_kept : (r r' : Reply) → Steps (at no_code (holding One βββ) (Owed.Keep 1)) (single cs2) Offer.Nothing (Ok r) → Steps r.station (single cs1) Offer.Nothing (Ok r') → r'.sent ≡ figures+? → ⊥
unfolding stepping sound owed_exists passes code_signals holds_neither done first_not is_block may_hold traffic_of meaning_of heard_of first_of is_words listened traffic_in block_owed owed_then answer_of answer_keeping
no_over_though_kept r r' p q e =
    true≢false (ap (begins figures) (sym e ∙ sent_second (at no_code (holding One βββ) (Owed.Keep 1)) (at no_code (holding Two βββ) Owed.Nothing) (single cs2) (single cs1) r r' p refl q))

-- Runs of whatever keeps the promise go where the definition goes.
module _ (step : Station → Words → Offer → Result Reply Refused) (kept : (s : Station) (b : Words) (o : Offer) → Steps s b o (step s b o)) where
  abbrev led : Station → Run → Station
  led s start = s
  led s (run ▷ e) = handed_back (step (led s run) e.burst e.offer)

  leads : (s : Station) (run : Run) → led s run ≡ after s run
  leads s start = refl
  leads s (run ▷ e) = (kept (led s run) e.burst e.offer).1 ∙ ap (λ (t : Station). next t e) (leads s run)

  -- two D in one block, and the five blocks of the answer: then nothing is owed
  pub no_two_answers_for_two_d : is_owed (led (led set (start ▷ hears (words figures who who))) asked_five).owed ≡ true → ⊥
  unfolding stepping sound owed_exists passes code_signals holds_neither done first_not is_block may_hold traffic_of meaning_of heard_of first_of is_words listened traffic_in block_owed owed_then answer_of answer_keeping
  no_two_answers_for_two_d e =
      true≢false (sym e ∙ ap (λ (s : Station). is_owed (led s asked_five).owed) (leads set (start ▷ hears (words figures who who))) ∙ ap (λ (s : Station). is_owed s.owed) (leads (at code Asking (Owed.Back 0)) asked_five ∙ five_blocks.after_is))

-- the answer of the empty code has three blocks
pub no_owed_past_the_last : (r : Reply) → Steps (at no_code Opening (Owed.Back 3)) (single cs1) Offer.Nothing (Ok r) → ⊥
unfolding stepping sound owed_exists passes code_signals holds_neither first_not may_hold traffic_of meaning_of listened answer_of answer_keeping
no_owed_past_the_last r p = let z : ◌≡◌ {A = ℕ} 0 4 = ap number_in p.0 in omega arith

-- the answer of the code of five signals has four blocks where the direction is kept, and five where it is turned back
pub no_keep_past_the_last : (r : Reply) → Steps (at code Opening (Owed.Keep 4)) (single cs1) Offer.Nothing (Ok r) → ⊥
unfolding stepping sound owed_exists passes code_signals holds_neither first_not may_hold traffic_of meaning_of listened answer_of answer_keeping
no_keep_past_the_last r p = let z : ◌≡◌ {A = ℕ} 0 4 = ap number_in p.0 in omega arith

-- 21 times A; A β A; D; figures + ?
abbrev given_in : Answer Station → ℕ
given_in (answered s) = 0
given_in (refused n v) = n

pub no_code_of_21 : (s : Station) → Codes fresh_slave (code_a 21) (Ok s) → ⊥
unfolding coding passes code_signals holds_neither first_not traffic_of meaning_of listened
no_code_of_21 s p = let z : ◌≡◌ {A = ℕ} 0 9 = ap given_in p.0 in omega arith

pub no_code_with_beta : (s : Station) → Codes fresh_slave (code_of 3 (words (word_no 1) beta (word_no 1)) silence) (Ok s) → ⊥
unfolding coding passes code_signals holds_neither first_not traffic_of meaning_of listened
no_code_with_beta s p = let z : ◌≡◌ {A = ℕ} 0 9 = ap given_in p.0 in omega arith

pub no_code_with_d_first : (s : Station) → Codes fresh_slave (code_of 1 (words who 0 0) silence) (Ok s) → ⊥
unfolding coding passes code_signals holds_neither first_not traffic_of meaning_of listened
no_code_with_d_first s p = let z : ◌≡◌ {A = ℕ} 0 9 = ap given_in p.0 in omega arith

pub no_code_ending_in_over : (s : Station) → Codes fresh_slave (code_of 3 figures+? silence) (Ok s) → ⊥
unfolding coding passes code_signals holds_neither first_not traffic_of meaning_of listened
no_code_ending_in_over s p = let z : ◌≡◌ {A = ℕ} 0 9 = ap given_in p.0 in omega arith

-- a code given to a station that owes, and has a count
pub no_old_answer_still_owed : (s : Station) → is_owed s.owed ≡ true → Codes (busy code_plus (Owed.Back 1)) code (Ok s) → ⊥
no_old_answer_still_owed s e p = true≢false (sym e ∙ ap (λ (t : Station). is_owed t.owed) (p.1 ∙ sym code_given_in_traffic.1))

pub no_code_that_restarts : (s : Station) → s.count ≡ 0 → Codes (busy code_plus (Owed.Back 1)) code (Ok s) → ⊥
no_code_that_restarts s e p =
    let z : ◌≡◌ {A = ℕ} 0 5 = sym e ∙ ap (λ (t : Station). t.count) (p.1 ∙ sym code_given_in_traffic.1) in omega arith

-- a station with the code of 21 signals, at this place and with this count
abbrev bad_at : Place → ℕ → Station
bad_at p n =
    record { role = Slave; place = p; count = n; case = Letters; plus = false; own = (coded fresh_slave (code_a 21)).own; other = Nobody; owed = Owed.Nothing }

abbrev bad : ℕ → Station
bad n = bad_at Asking n

pub no_code_unjudged_at_standby : (r : Reply) → Steps (bad_at (resting 0) 0) silence Offer.Nothing (Ok r) → ⊥
unfolding stepping sound owed_exists passes code_signals holds_neither first_not may_hold traffic_of meaning_of listened answer_of answer_keeping
no_code_unjudged_at_standby r p = let z : ◌≡◌ {A = ℕ} 0 9 = ap number_in p.0 in omega arith

pub no_code_unjudged_when_lost : (r : Reply) → Steps (bad_at Lost 0) silence Offer.Nothing (Ok r) → ⊥
unfolding stepping sound owed_exists passes code_signals holds_neither first_not may_hold traffic_of meaning_of listened answer_of answer_keeping
no_code_unjudged_when_lost r p = let z : ◌≡◌ {A = ℕ} 0 9 = ap number_in p.0 in omega arith

pub no_order_9_4 : (s : Station) → Steps (bad 32) silence Offer.Nothing (Err (record { station = s; why = Refusal.BadCode })) → ⊥
unfolding stepping sound owed_exists passes code_signals holds_neither first_not may_hold traffic_of meaning_of listened answer_of answer_keeping
no_order_9_4 s p = let z : ◌≡◌ {A = ℕ} 9 4 = ap number_in p.0 in omega arith

pub no_order_9_8 : (s : Station) → Steps (bad 0) silence (Offer.Call (record { 0 = 0; 1 = 0; 2 = 0; 3 = 0 })) (Err (record { station = s; why = Refusal.BadCode })) → ⊥
unfolding stepping is_identity first_not
no_order_9_8 s p = let z : ◌≡◌ {A = ℕ} 9 8 = ap number_in p.0 in omega arith

pub no_order_3_9 : (s : Station) → Steps (bad 0) silence (Offer.Text silence) (Err (record { station = s; why = Refusal.BadWord 0 })) → ⊥
unfolding stepping sound owed_exists passes code_signals holds_neither first_not may_hold traffic_of meaning_of listened answer_of answer_keeping
no_order_3_9 s p = let z : ◌≡◌ {A = ℕ} 3 9 = ap number_in p.0 in omega arith

-- fewer blocks taken than the answer has, at Turning
no_progress : (answer taken : List Words) (s : Station) → length taken < length answer → is_turning s.place ≡ true → Progress answer taken s → ⊥
no_progress answer taken s l p (under_way left e n w) = true≢false (sym w ∙ rw (eqb-true (place_no s.place) 1 p))
no_progress answer taken s l p (whole behind e) = omega (arith, l, ap length e, length-append answer behind)

-- the whole answer, without its premise that the run is uncut
pub no_whole_answer_though_cut : ((s : Station) (e : Event) (r : Reply) → said s e ≡ answered r → asks s e ≡ true → (run : Run) → Progress (answer_of s.own.code (owed_for (listened_all s.case s.plus e.burst))) (taken_in r.station run) (after r.station run)) → ⊥
unfolding stepping sound owed_exists passes code_signals holds_neither done first_not is_block may_hold traffic_of meaning_of heard_of first_of is_words listened traffic_in block_owed owed_then answer_of answer_keeping
no_whole_answer_though_cut claim =
    no_progress _ _ _ (rw answer_is_cut.taken_are (omega arith)) (ap (λ (s : Station). is_turning s.place) answer_is_cut.after_is) (claim set (hears question) (turned code (Owed.Back 0) (words figures who 0)) question_asked refl (asked_twice ▷ hears (single cs3)))

-- the code ?, behind a + in figures
pub no_quiet_behind_a_plus : ((k : Code) → passes k ≡ true → (c : Case) (p : Bool) → Quiet c p (answer_keeping k)) → ⊥
unfolding Quiet passes code_signals holds_neither first_not traffic_of meaning_of listened answer_keeping
no_quiet_behind_a_plus claim = true≢false (claim (code_of 1 (words query 0 0) silence) refl Figures true).0
