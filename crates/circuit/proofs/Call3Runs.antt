-- A call of three blocks between two stations at Stand-by, and identification, computed: what demand 3 speaks of happens behind it.
--     is_placed3               the step that takes the call leaves what a run may start from
--     is_completed3            a call block, CS4 and a check-sum are damaged; identification is completed, and each knows the other
--     carries_on3, and_answers3   then text, a turn by an over, with a damaged CS3, text back, and the end: all is printed and confirmed
--     is_turned, slave_first   the slave has an over to offer as identification ends: it sends first, and that is carried
--     taken_for_three          blocks 2 and 3 of a call of three have been heard, and then comes block 1 of a call of two that begins with
--                              the same letters: it is answered with CS4
-- Assumes nothing.
use mathlib.Core.Path.{◌≡◌, refl, sym, subst}
use mathlib.Core.Bool.{false}
use mathlib.Core.List.{List, [], ◌∷◌, ◌++◌}
use Rattle.signals.specs.declared.Case.TheVariants.{Letters}
use Rattle.signals.specs.Meaning.{meaning_of, traffic_of, word_no, figures, cs4}
use Rattle.signals.specs.Numbers.{first_not}
use Rattle.identity.specs.declared.Seven.{Seven}
use Rattle.identity.specs.Table3.{is_identity, number_of, signal_of}
use Rattle.identity.specs.Sums.{is_callable7, same_seven, check_sum}
use Rattle.identity.proofs.Examples.{spelt, PEARDBY}
use Rattle.mode_a.specs.declared.Role.TheVariants.{Slave}
use Rattle.mode_a.specs.declared.Mark.{Mark}
use Rattle.mode_a.specs.declared.Succession.{Succession}
use Rattle.mode_a.specs.declared.Identity.{Identity}
use Rattle.mode_a.specs.declared.Own.{Own}
use Rattle.mode_a.specs.declared.Owed.{Owed}
use Rattle.mode_a.specs.declared.Offer.{Offer}
use Rattle.mode_a.specs.declared.Peer.TheVariants.{Nobody, Known}
use Rattle.mode_a.specs.declared.Place.TheVariants.{StandBy}
use Rattle.mode_a.specs.declared.Station.{Station}
use Rattle.mode_a.specs.Calls.{is_callable, next_block3}
use Rattle.mode_a.specs.Identification.{told_in}
use Rattle.mode_a.specs.Station.{words, single, silence, no_code, fresh_at}
use Rattle.mode_a.specs.Heard.{further_of, first_of, may_hold, is_block, is_words, call_of, call3_of, heard_of}
use Rattle.mode_a.specs.Over.{query, cross, listened}
use Rattle.mode_a.specs.Answerback.{code_signals, holds_neither, passes, owed_exists}
use Rattle.mode_a.specs.Step.{unidentified, traffic_in, done, sound, stepping}
use Rattle.runs.specs.Runs.{start}
use Rattle.runs.specs.Circuit.{Event, traffic, signals_in, nothing_yet, Circuit, next, after}
use Rattle.circuit.specs.Starts.{CallPlaced, with_block_lem, Call3Placed, CallCompleted, CallTurned, placed3, CodesPass}
use Rattle.circuit.specs.Demand.{Demand3}
use Rattle.circuit.proofs.Computed.{run_of, through, computed}
use Rattle.circuit.proofs.Runs.{clear, faded, struck, signals3, text, none, CarriedAll, Ordinary, ordinary}
use Rattle.circuit.proofs.CallRuns.{vxqz, pear}
use Rattle.circuit.proofs.Theorem.{demand3}

-- P E A R D B Y (001, 2.5) calls K Q V Z R S E (figure 3)
abbrev pub kqvzrse : Seven
kqvzrse = spelt 11 17 22 26 18 19 05

abbrev pub calling : Own
calling = record { four = pear; seven = PEARDBY; code = no_code }

abbrev pub called : Own
called = record { four = vxqz; seven = kqvzrse; code = no_code }

abbrev pub both_stand_by : Circuit
both_stand_by =
    record { hearer = fresh_at calling; sender = fresh_at called; burst = silence; from_hearer = nothing_yet; from_sender = nothing_yet }

abbrev pub call_placed3 : Circuit
call_placed3 = next both_stand_by (clear (Offer.Call3 kqvzrse))

pub is_placed3 : Call3Placed kqvzrse call_placed3
unfolding stepping sound owed_exists passes code_signals holds_neither done first_not is_identity is_callable is_callable7 is_block may_hold traffic_of meaning_of heard_of call_of call3_of told_in first_of is_words
is_placed3 = record {
  caller = fresh_at calling;
  sender_is = refl;
  burst_is = refl;
  called_letters = refl;
  caller_letters = refl;
  waits = _;
  hearer_at = refl;
  none_heard = refl;
  none_heard3 = refl;
  hearer_sound = refl;
  none_from_hearer = refl;
  none_from_sender = refl;
}

-- Blocks 1 and 2 are heard and block 3 is damaged, so that all three have to come once more; the first CS4 is damaged too.
abbrev calling_on_lem : List Event
calling_on_lem =
    clear none ∷ clear none ∷ clear none ∷ clear none ∷ struck none ∷ clear none ∷ clear none ∷ clear none ∷ clear none ∷ clear none ∷ clear none ∷
    faded none ∷ clear none ∷ []

-- Three identification blocks and their check-sums, the first of which is damaged and comes again; RQ RQ RQ is on the way then.
abbrev identifying : List Event
identifying =
    clear none ∷ clear none ∷ faded none ∷ clear none ∷ clear none ∷ clear none ∷ clear none ∷ clear none ∷ clear none ∷ []

-- It is heard: CS1, and ABC is taken.
abbrev pub until_completed : List Event
until_completed = calling_on_lem ++ identifying ++ clear none ∷ clear (text 1 2 3) ∷ []

abbrev by_over : List Event
by_over =
    clear none ∷ clear Offer.Over ∷ clear none ∷ faded none ∷ clear none ∷ clear none ∷ clear none ∷ clear none ∷ []

abbrev back_and_end : List Event
back_and_end = clear (text 4 5 6) ∷ clear none ∷ clear Offer.End ∷ clear none ∷ clear none ∷ []

abbrev pub to_the_end : List Event
to_the_end = until_completed ++ by_over ++ back_and_end

pub is_ordinary_lem : Ordinary call_placed3 (run_of start to_the_end)
unfolding meaning_of
is_ordinary_lem = ordinary call_placed3 to_the_end refl

codes_pass3 : CodesPass call_placed3
unfolding stepping sound owed_exists passes code_signals holds_neither done first_not is_identity is_callable is_callable7 is_block may_hold traffic_of meaning_of heard_of call_of call3_of told_in first_of is_words
codes_pass3 = record { hearer_passes = refl; sender_passes = refl }

pub of_that_run : Demand3 (after call_placed3 (run_of start to_the_end))
of_that_run =
    demand3 call_placed3 (placed3 is_placed3) codes_pass3 (run_of start to_the_end) is_ordinary_lem.harmless is_ordinary_lem.no_call

abbrev Completed : Circuit → Type 0
Completed c =
    CallCompleted c × (c.sender.other ≡ Known kqvzrse) × (c.hearer.other ≡ Known PEARDBY) × (c.from_sender.taken ≡ signals3 1 2 3 ∷ [])

pub is_completed3 : Completed (after call_placed3 (run_of start until_completed))
unfolding after through stepping sound owed_exists passes code_signals holds_neither done first_not is_identity is_callable is_callable7 same_seven check_sum number_of signal_of next_block3 is_block may_hold traffic_of meaning_of heard_of call_of call3_of told_in further_of first_of is_words listened traffic_in
is_completed3 =
    subst Completed (sym (computed call_placed3 start until_completed)) (record { sender_role = refl; sender_count = refl; sender_case = refl; sender_plus = refl; begins = with_block_lem refl refl refl refl; sender_owed = refl; hearer_role = refl; hearer_place = refl; hearer_count = refl; hearer_case = refl; hearer_plus = refl; hearer_owed = refl; none_from_hearer = refl }, refl, refl, refl)

pub carries_on3 : CarriedAll (after call_placed3 (run_of start to_the_end)).from_hearer (signals3 1 2 3 ∷ words figures cross query ∷ []) (word_no 1 ∷ word_no 2 ∷ word_no 3 ∷ figures ∷ cross ∷ query ∷ [])
unfolding after through stepping sound owed_exists passes code_signals holds_neither done first_not is_identity is_callable is_callable7 same_seven check_sum number_of signal_of next_block3 is_block may_hold traffic_of meaning_of heard_of call_of call3_of told_in further_of first_of is_words listened traffic_in traffic signals_in
carries_on3 =
    subst (λ (c : Circuit). CarriedAll c.from_hearer (signals3 1 2 3 ∷ words figures cross query ∷ []) (word_no 1 ∷ word_no 2 ∷ word_no 3 ∷ figures ∷ cross ∷ query ∷ [])) (sym (computed call_placed3 start to_the_end)) (record { taken = refl; accepted = refl; printed = refl; is_the_traffic = refl; confirmed = refl })

pub and_answers3 : CarriedAll (after call_placed3 (run_of start to_the_end)).from_sender (signals3 4 5 6 ∷ []) (word_no 4 ∷ word_no 5 ∷ word_no 6 ∷ [])
unfolding after through stepping sound owed_exists passes code_signals holds_neither done first_not is_identity is_callable is_callable7 same_seven check_sum number_of signal_of next_block3 is_block may_hold traffic_of meaning_of heard_of call_of call3_of told_in further_of first_of is_words listened traffic_in traffic signals_in
and_answers3 =
    subst (λ (c : Circuit). CarriedAll c.from_sender (signals3 4 5 6 ∷ []) (word_no 4 ∷ word_no 5 ∷ word_no 6 ∷ [])) (sym (computed call_placed3 start to_the_end)) (record { taken = refl; accepted = refl; printed = refl; is_the_traffic = refl; confirmed = refl })

-- The slave is offered an over as it hears RQ RQ RQ: CS3, and the master sends βαβ. Then DEF goes from the slave to the master, and is
-- confirmed.
abbrev pub until_turned : List Event
until_turned = calling_on_lem ++ identifying ++ clear Offer.Over ∷ clear none ∷ []

abbrev slave_sends : List Event
slave_sends = until_turned ++ clear none ∷ clear none ∷ clear (text 4 5 6) ∷ clear none ∷ clear Offer.End ∷ []

pub is_turned : CallTurned (after call_placed3 (run_of start until_turned))
unfolding after through stepping sound owed_exists passes code_signals holds_neither done first_not is_identity is_callable is_callable7 same_seven check_sum number_of signal_of next_block3 is_block may_hold traffic_of meaning_of heard_of call_of call3_of told_in further_of first_of is_words listened traffic_in
is_turned =
    subst CallTurned (sym (computed call_placed3 start until_turned)) (record { sender_role = refl; sender_place = refl; sender_count = refl; sender_case = refl; sender_plus = refl; sender_owed = refl; burst_is = refl; hearer_role = refl; hearer_place = refl; hearer_count = refl; hearer_case = refl; hearer_plus = refl; hearer_owed = refl; none_from_hearer = refl; none_from_sender = refl })

pub slave_first : CarriedAll (after call_placed3 (run_of start slave_sends)).from_sender (signals3 4 5 6 ∷ []) (word_no 4 ∷ word_no 5 ∷ word_no 6 ∷ [])
unfolding after through stepping sound owed_exists passes code_signals holds_neither done first_not is_identity is_callable is_callable7 same_seven check_sum number_of signal_of next_block3 is_block may_hold traffic_of meaning_of heard_of call_of call3_of told_in further_of first_of is_words listened traffic_in traffic signals_in
slave_first =
    subst (λ (c : Circuit). CarriedAll c.from_sender (signals3 4 5 6 ∷ []) (word_no 4 ∷ word_no 5 ∷ word_no 6 ∷ [])) (sym (computed call_placed3 start slave_sends)) (record { taken = refl; accepted = refl; printed = refl; is_the_traffic = refl; confirmed = refl })

-- What a station at Stand-by has heard before is left open where a call of two blocks is placed. Here it is blocks 2 and 3 of a call of three
-- to it, and block 1 of the call of two, K RQ Q, completes that: it says CS4, which does not answer the call (phase C3 of `Link`).
abbrev kqxx : Identity
kqxx = record { 0 = word_no 11; 1 = word_no 17; 2 = word_no 24; 3 = word_no 24 }

abbrev half_called : Station
half_called =
    record {
      role = Slave;
      place = StandBy (record { wait = 0; heard = Mark.None; heard3 = Succession.TwoThree });
      count = 0;
      case = Letters;
      plus = false;
      own = called;
      other = Nobody;
      owed = Owed.Nothing;
    }

abbrev two_placed : Circuit
two_placed =
    next (record { hearer = fresh_at calling; sender = half_called; burst = silence; from_hearer = nothing_yet; from_sender = nothing_yet }) (clear (Offer.Call kqxx))

pub two_is_placed : CallPlaced kqxx two_placed
unfolding stepping sound owed_exists passes code_signals holds_neither done first_not is_identity is_callable is_callable7 is_block may_hold traffic_of meaning_of heard_of call_of call3_of told_in first_of is_words
two_is_placed = record {
  caller = fresh_at calling;
  sender_is = refl;
  burst_is = refl;
  hearer_at = refl;
  hearer_sound = refl;
  none_from_hearer = refl;
  none_from_sender = refl;
}

pub taken_for_three : let c = next two_placed (clear none) in (c.sender.place ≡ unidentified) × (c.burst ≡ single cs4)
unfolding stepping sound owed_exists passes code_signals holds_neither done first_not is_identity is_callable is_callable7 is_block may_hold traffic_of meaning_of heard_of call_of call3_of told_in first_of is_words
taken_for_three = (refl, refl)
