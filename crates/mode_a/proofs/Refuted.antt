-- Wrong stations that have another shape than the right one, so that no edit of one operand makes them. Of each, a station, a burst
-- and an offer at which what the promise says is not what it would do: computed, not argued.
--     no_refusing_station        one that refuses every step
--     no_constant_rq             one that always sends RQ
--     no_first_step_again        one that is right at its first step and then repeats itself
--     no_repeat_by_content       a repeat told by its content: two equal blocks in succession are two blocks
--     no_over_unaccepted, no_cs3_unaccepted
--                                an over offered at Receiving taken, or answered by CS3, for a block that was not accepted
--     no_block_for_rq            Sending that sends the block again where RQ RQ RQ is due
--     no_own_number_at_turning   Turning that asks for the number that its last block had
--     no_order_3_4               a bad offer told before a bad station
--     no_offer_unjudged          a text offer that is judged only where it would be taken
--     no_order_4_8               a bad station told before a bad call
--     no_call_unjudged           a call that is judged only where it would be placed
--     no_call_taken_elsewhere    a call reported as taken where a block is
--     no_call_that_prints        a call that is placed, and prints
--     no_lost_caller             Calling that goes to Lost where its 128 call bursts are sent
--     no_own_unjudged            a call of seven signals placed by a station without an identity of seven
--     no_own_index_from_0        a signal of the own seven told by its index there, and not behind the seven called
--     no_own_first               the own seven judged before those called
--     no_order_4_8_of_seven      a bad station told before a bad own identity
--     no_call3_taken_elsewhere   a call of seven signals reported as taken where a block is
-- Wrong fresh stations and first bursts, each by one field or word that is not as 01 has it, whatever the others are.
--     no_fresh_master_asking     a fresh master at Asking
--     no_fresh_master_slave      a fresh master that is a slave
--     no_fresh_slave_awaiting_2  a fresh slave that awaits 2
--     no_fresh_slave_master      a fresh slave that is a master
--     no_standing_by_with_w      a station at Stand-by with W, which is not in table 3a, in its identity
--     no_standing_by_that_waits  one that has to wait before it may call
--     no_standing_by_both_with_w one with W among its seven signals
--     no_seventh_index_6         the seventh of the seven told by its index there, and not behind the four
--     no_first_burst_cs2         a first burst that asks for block 2
--     no_first_burst_thrice      CS1 three times: "a single signal is followed by two zero words"
-- Assumes nothing.
use mathlib.Core.Path.{◌≡◌, ap, sym, ◌∙◌}
use mathlib.Core.Bool.{Bool, true, false}
use Prim.Native.Nat.{ℕ}
use native.Mathlib.Omega.{arith}
use Rattle.std.specs.Prelude.{Result, Ok, Err}
use Rattle.signals.specs.declared.Case.TheVariants.{Letters}
use Rattle.signals.specs.Meaning.{meaning_of, traffic_of, cs1, cs2, cs3}
use Rattle.signals.specs.Numbers.{Answer, answered, refused, first_not}
use Rattle.mode_a.specs.declared.Role.TheVariants.{Master, Slave}
use Rattle.mode_a.specs.declared.Number.TheVariants.{One, Two}
use Rattle.mode_a.specs.declared.Words.{Words}
use Rattle.mode_a.specs.declared.Place.{Place}
use Rattle.mode_a.specs.declared.Place.TheVariants.{Sending, Turning, Opening, Ending, Receiving, Asking, StandBy, Lost, Calling, Calling3, Identifying, Answering}
use Rattle.mode_a.specs.declared.Offer.{Offer}
use Rattle.mode_a.specs.declared.Station.{Station}
use Rattle.mode_a.specs.declared.Reply.{Reply}
use Rattle.mode_a.specs.declared.Refused.{Refused}
use Rattle.mode_a.specs.declared.Refusal.{Refusal}
use Rattle.mode_a.specs.declared.Peer.TheVariants.{Nobody}
use Rattle.mode_a.specs.declared.Mark.{Mark}
use Rattle.mode_a.specs.declared.Identity.{Identity}
use Rattle.mode_a.specs.declared.Owed.{Owed}
use Rattle.identity.specs.declared.Seven.{Seven}
use Rattle.identity.specs.Table3.{is_identity}
use Rattle.mode_a.specs.Calls.{is_callable}
use Rattle.mode_a.specs.Station.{standing, standing_both, StandsBy, StandsByBoth, words, single, silence, RQ×3, asks_for, no_code, no_identity, resting, fresh_master, fresh_slave, first_burst}
use Rattle.identity.specs.Sums.{is_callable7}
use Rattle.mode_a.specs.Heard.{call3_of, first_of, may_hold, is_block, is_words, call_of, heard_of}
use Rattle.mode_a.specs.Over.{listened}
use Rattle.mode_a.specs.Answerback.{code_signals, holds_neither, passes, owed_exists}
use Rattle.mode_a.specs.Step.{traffic_in, done, sound, stepping, said_stepped, Steps}

-- a slave at a place, with a count
abbrev slave_at : Place → ℕ → Station
slave_at p k = record { role = Slave; place = p; count = k; case = Letters; plus = false; own = no_identity; other = Nobody; owed = Owed.Nothing }

-- T E A, and a burst with a damaged word
abbrev tea : Words
tea = words 116 86 71

abbrev damaged : Words
damaged = words 116 0 71

-- the parts of an answer
abbrev sent_in : Answer Reply → Words
sent_in (answered r) = r.sent
sent_in (refused n v) = silence

abbrev printed_in : Answer Reply → Words
printed_in (answered r) = r.printed
printed_in (refused n v) = silence

abbrev taken_in : Answer Reply → Bool
taken_in (answered r) = r.taken
taken_in (refused n v) = false

abbrev number_in : Answer Reply → ℕ
number_in (answered r) = 0
number_in (refused n v) = n

-- the first word sent, or printed, is the one that the promise says
module _ (s : Station) (b : Words) (o : Offer) (r : Reply) (p : Steps s b o (Ok r)) (w : Words) where
  sent_is : r.sent ≡ w → w.0 ≡ (sent_in (stepping s b o)).0
  sent_is e = ap (λ (w : Words). w.0) (sym e ∙ ap sent_in p.0)

  printed_is : r.printed ≡ w → w.0 ≡ (printed_in (stepping s b o)).0
  printed_is e = ap (λ (w : Words). w.0) (sym e ∙ ap printed_in p.0)

apart : true ≡ false → ⊥
apart e = let z : ◌≡◌ {A = ℕ} 0 1 = cc in omega arith

-- whatever satisfies the promise there is no refusal, of any number
pub no_refusing_station : (r : Result Reply Refused) → Steps fresh_slave tea Offer.Nothing r → number_in (said_stepped r) ≡ 0
unfolding stepping sound owed_exists passes code_signals holds_neither heard_of first_of may_hold traffic_of meaning_of is_block is_words first_not done listened traffic_in
no_refusing_station r p = ap number_in p.0

pub no_constant_rq : (r : Reply) → r.sent ≡ RQ×3 → Steps fresh_slave tea Offer.Nothing (Ok r) → ⊥
unfolding stepping sound owed_exists passes code_signals holds_neither heard_of first_of may_hold traffic_of meaning_of is_block is_words first_not done listened traffic_in
no_constant_rq r e p = let z : ◌≡◌ {A = ℕ} 102 106 = sent_is fresh_slave tea Offer.Nothing r p RQ×3 e in omega arith

-- the second of two blocks: CS1 is due, and not CS2 once more
pub no_first_step_again : (r : Reply) → r.sent ≡ asks_for Two → Steps (slave_at (Receiving Two) 0) tea Offer.Nothing (Ok r) → ⊥
unfolding stepping sound owed_exists passes code_signals holds_neither heard_of first_of may_hold traffic_of meaning_of is_block is_words first_not done listened traffic_in
no_first_step_again r e p =
    let z : ◌≡◌ {A = ℕ} 106 101 = sent_is (slave_at (Receiving Two) 0) tea Offer.Nothing r p (asks_for Two) e in omega arith

-- the block that was heard before comes again under the other number, and is printed again
pub no_repeat_by_content : (r : Reply) → r.printed ≡ silence → Steps (slave_at (Receiving Two) 0) tea Offer.Nothing (Ok r) → ⊥
unfolding stepping sound owed_exists passes code_signals holds_neither heard_of first_of may_hold traffic_of meaning_of is_block is_words first_not done listened traffic_in
no_repeat_by_content r e p =
    let z : ◌≡◌ {A = ℕ} 0 116 = printed_is (slave_at (Receiving Two) 0) tea Offer.Nothing r p silence e in omega arith

pub no_over_unaccepted : (r : Reply) → r.taken ≡ true → Steps (slave_at (Receiving One) 0) damaged Offer.Over (Ok r) → ⊥
unfolding stepping sound owed_exists passes code_signals holds_neither heard_of first_of may_hold traffic_of meaning_of is_block is_words first_not done listened traffic_in
no_over_unaccepted r e p = apart (sym e ∙ ap taken_in p.0)

pub no_cs3_unaccepted : (r : Reply) → r.sent ≡ single cs3 → Steps (slave_at (Receiving One) 0) damaged Offer.Over (Ok r) → ⊥
unfolding stepping sound owed_exists passes code_signals holds_neither heard_of first_of may_hold traffic_of meaning_of is_block is_words first_not done listened traffic_in
no_cs3_unaccepted r e p =
    let z : ◌≡◌ {A = ℕ} 89 101 = sent_is (slave_at (Receiving One) 0) damaged Offer.Over r p (single cs3) e in omega arith

pub no_block_for_rq : (r : Reply) → r.sent ≡ tea → Steps (slave_at (Sending (record { number = One; block = tea })) 0) silence Offer.Nothing (Ok r) → ⊥
unfolding stepping sound owed_exists passes code_signals holds_neither heard_of first_of may_hold traffic_of meaning_of is_block is_words first_not done listened traffic_in
no_block_for_rq r e p =
    let z : ◌≡◌ {A = ℕ} 116 102 = sent_is (slave_at (Sending (record { number = One; block = tea })) 0) silence Offer.Nothing r p tea e in omega arith

pub no_own_number_at_turning : (r : Reply) → r.sent ≡ asks_for One → Steps (slave_at (Turning One) 0) RQ×3 Offer.Nothing (Ok r) → ⊥
unfolding stepping sound owed_exists passes code_signals holds_neither heard_of first_of may_hold traffic_of meaning_of is_block is_words first_not done listened traffic_in
no_own_number_at_turning r e p =
    let z : ◌≡◌ {A = ℕ} 101 106 = sent_is (slave_at (Turning One) 0) RQ×3 Offer.Nothing r p (asks_for One) e in omega arith

pub no_order_3_4 : (s : Station) → Steps (slave_at Lost 32) silence (Offer.Text silence) (Err (record { station = s; why = Refusal.BadWord 0 })) → ⊥
unfolding stepping sound first_not
no_order_3_4 s p = let z : ◌≡◌ {A = ℕ} 3 4 = ap number_in p.0 in omega arith

-- at Stand-by, where no offer is taken
pub no_offer_unjudged : (r : Reply) → Steps (slave_at (resting 0) 0) silence (Offer.Text (words 116 102 71)) (Ok r) → ⊥
unfolding stepping sound owed_exists passes code_signals holds_neither may_hold traffic_of meaning_of first_not
no_offer_unjudged r p = let z : ◌≡◌ {A = ℕ} 0 3 = ap number_in p.0 in omega arith

-- V X Q Z, the same with N for V, and with W for Z
abbrev vxqz : Identity
vxqz = record { 0 = 60; 1 = 58; 2 = 46; 3 = 99 }

abbrev nxqz : Identity
nxqz = record { 0 = 89; 1 = 58; 2 = 46; 3 = 99 }

abbrev vxqw : Identity
vxqw = record { 0 = 60; 1 = 58; 2 = 46; 3 = 39 }

pub no_order_4_8 : (s : Station) → Steps (slave_at Lost 32) silence (Offer.Call nxqz) (Err (record { station = s; why = Refusal.BadStation })) → ⊥
unfolding stepping is_identity first_not
no_order_4_8 s p = let z : ◌≡◌ {A = ℕ} 4 8 = ap number_in p.0 in omega arith

-- at Lost, where no call is placed
pub no_call_unjudged : (r : Reply) → Steps (slave_at Lost 0) silence (Offer.Call vxqw) (Ok r) → ⊥
unfolding stepping is_identity first_not
no_call_unjudged r p = let z : ◌≡◌ {A = ℕ} 0 8 = ap number_in p.0 in omega arith

-- Sending that hears the other number's control signal: βββ goes out, and the call stays with the operator
pub no_call_taken_elsewhere : (r : Reply) → r.taken ≡ true → Steps (slave_at (Sending (record { number = One; block = tea })) 0) (single cs2) (Offer.Call vxqz) (Ok r) → ⊥
unfolding stepping sound owed_exists passes code_signals holds_neither heard_of call_of call3_of is_identity is_callable is_callable7 first_of may_hold traffic_of meaning_of is_block is_words first_not done
no_call_taken_elsewhere r e p = apart (sym e ∙ ap taken_in p.0)

pub no_call_that_prints : (r : Reply) → r.printed ≡ words 60 0 0 → Steps (slave_at (resting 0) 0) silence (Offer.Call vxqz) (Ok r) → ⊥
unfolding stepping sound owed_exists passes code_signals holds_neither heard_of call_of call3_of is_identity is_callable is_callable7 first_of may_hold traffic_of meaning_of is_block is_words first_not done
no_call_that_prints r e p =
    let z : ◌≡◌ {A = ℕ} 60 0 = printed_is (slave_at (resting 0) 0) silence (Offer.Call vxqz) r p (words 60 0 0) e in omega arith

abbrev place_no_in : Place → ℕ
place_no_in (Sending h) = 0
place_no_in (Turning n) = 0
place_no_in Opening = 0
place_no_in (Ending e) = 0
place_no_in (Receiving n) = 0
place_no_in Asking = 0
place_no_in (StandBy w) = 6
place_no_in Lost = 7
place_no_in (Calling c) = 8
place_no_in (Calling3 c) = 9
place_no_in (Identifying i) = 10
place_no_in (Answering g) = 11

abbrev place_in : Answer Reply → Place
place_in (answered r) = r.station.place
place_in (refused n v) = Opening

pub no_lost_caller : (r : Reply) → r.station.place ≡ Lost → Steps (slave_at (Calling (record { to = vxqz; sent = 128; last = Mark.None })) 0) silence Offer.Nothing (Ok r) → ⊥
unfolding stepping sound owed_exists passes code_signals holds_neither heard_of call_of call3_of is_identity is_callable is_callable7 first_of may_hold traffic_of meaning_of is_block is_words first_not done
no_lost_caller r e p = let z : ◌≡◌ {A = ℕ} 7 6 = ap place_no_in (sym e ∙ ap place_in p.0) in omega arith

-- P E A R D B Y, and the same with W for Y
abbrev peardby : Seven
peardby = record { 0 = 45; 1 = 86; 2 = 71; 3 = 85; 4 = 83; 5 = 114; 6 = 43 }

abbrev peardbw : Seven
peardbw = record { 0 = 45; 1 = 86; 2 = 71; 3 = 85; 4 = 83; 5 = 114; 6 = 39 }

abbrev index_in : Answer Reply → ℕ
index_in (answered r) = 99
index_in (refused n v) = v

-- at Stand-by, of a station whose own seven signals are zeros
pub no_own_unjudged : (r : Reply) → Steps (slave_at (resting 0) 0) silence (Offer.Call3 peardby) (Ok r) → ⊥
unfolding stepping is_identity first_not
no_own_unjudged r p = let z : ◌≡◌ {A = ℕ} 0 8 = ap number_in p.0 in omega arith

pub no_own_index_from_0 : (s : Station) → Steps (slave_at (resting 0) 0) silence (Offer.Call3 peardby) (Err (record { station = s; why = Refusal.BadCall 0 })) → ⊥
unfolding stepping is_identity first_not
no_own_index_from_0 s p = let z : ◌≡◌ {A = ℕ} 0 7 = ap index_in p.0 in omega arith

-- both are bad, and W of the called one comes first
pub no_own_first : (s : Station) → Steps (slave_at (resting 0) 0) silence (Offer.Call3 peardbw) (Err (record { station = s; why = Refusal.BadCall 7 })) → ⊥
unfolding stepping is_identity first_not
no_own_first s p = let z : ◌≡◌ {A = ℕ} 7 6 = ap index_in p.0 in omega arith

pub no_order_4_8_of_seven : (s : Station) → Steps (slave_at Lost 32) silence (Offer.Call3 peardby) (Err (record { station = s; why = Refusal.BadStation })) → ⊥
unfolding stepping is_identity first_not
no_order_4_8_of_seven s p = let z : ◌≡◌ {A = ℕ} 4 8 = ap number_in p.0 in omega arith

-- Sending that hears the other number's control signal: βββ goes out, and the call stays with the operator
abbrev peardby_at : Place → Station
peardby_at p = record { role = Slave; place = p; count = 0; case = Letters; plus = false; own = record { four = vxqz; seven = peardby; code = no_code }; other = Nobody; owed = Owed.Nothing }

pub no_call3_taken_elsewhere : (r : Reply) → r.taken ≡ true → Steps (peardby_at (Sending (record { number = One; block = tea }))) (single cs2) (Offer.Call3 peardby) (Ok r) → ⊥
unfolding stepping sound owed_exists passes code_signals holds_neither heard_of call_of call3_of is_identity is_callable is_callable7 first_of may_hold traffic_of meaning_of is_block is_words first_not done
no_call3_taken_elsewhere r e p = apart (sym e ∙ ap taken_in p.0)

abbrev stood_in : Answer Station → ℕ
stood_in (answered s) = 0
stood_in (refused n v) = n

pub no_standing_by_with_w : (s : Station) → StandsBy vxqw (Ok s) → ⊥
unfolding standing is_identity first_not
no_standing_by_with_w s p = let z : ◌≡◌ {A = ℕ} 0 8 = ap stood_in p in omega arith

abbrev wait_in : Place → ℕ
wait_in (Sending h) = 0
wait_in (Turning n) = 0
wait_in Opening = 0
wait_in (Ending e) = 0
wait_in (Receiving n) = 0
wait_in Asking = 0
wait_in (StandBy w) = w.wait
wait_in Lost = 0
wait_in (Calling c) = 0
wait_in (Calling3 c) = 0
wait_in (Identifying i) = 0
wait_in (Answering g) = 0

abbrev station_in : Answer Station → Station → Station
station_in (answered s) t = s
station_in (refused n v) t = t

pub no_standing_by_that_waits : (s : Station) → s.place ≡ resting 128 → StandsBy vxqz (Ok s) → ⊥
unfolding standing is_identity first_not
no_standing_by_that_waits s e p = let z : ◌≡◌ {A = ℕ} 128 0 = ap wait_in (sym e ∙ ap (λ (a : Answer Station). (station_in a s).place) p) in omega arith

pub no_standing_by_both_with_w : (s : Station) → StandsByBoth vxqz peardbw (Ok s) → ⊥
unfolding standing_both is_identity first_not
no_standing_by_both_with_w s p = let z : ◌≡◌ {A = ℕ} 0 8 = ap stood_in p in omega arith

abbrev beside_in : Answer Station → ℕ
beside_in (answered s) = 99
beside_in (refused n v) = v

pub no_seventh_index_6 : StandsByBoth vxqz peardbw (Err (record { 0 = 6 })) → ⊥
unfolding standing_both is_identity first_not
no_seventh_index_6 p = let z : ◌≡◌ {A = ℕ} 6 10 = ap beside_in p in omega arith

pub no_fresh_master_asking : (s : Station) → s.place ≡ Asking → s ≡ fresh_master → ⊥
no_fresh_master_asking s e p = apart cc

pub no_fresh_master_slave : (s : Station) → s.role ≡ Slave → s ≡ fresh_master → ⊥
no_fresh_master_slave s e p = apart cc

pub no_fresh_slave_awaiting_2 : (s : Station) → s.place ≡ Receiving Two → s ≡ fresh_slave → ⊥
no_fresh_slave_awaiting_2 s e p = apart cc

pub no_fresh_slave_master : (s : Station) → s.role ≡ Master → s ≡ fresh_slave → ⊥
no_fresh_slave_master s e p = apart cc

pub no_first_burst_cs2 : (b : Words) → b.0 ≡ cs2 → b ≡ first_burst → ⊥
no_first_burst_cs2 b e p = let z : ◌≡◌ {A = ℕ} 106 101 = sym e ∙ ap (λ (w : Words). w.0) p in omega arith

pub no_first_burst_thrice : (b : Words) → b.1 ≡ cs1 → b ≡ first_burst → ⊥
no_first_burst_thrice b e p = let z : ◌≡◌ {A = ℕ} 101 0 = sym e ∙ ap (λ (w : Words). w.1) p in omega arith
