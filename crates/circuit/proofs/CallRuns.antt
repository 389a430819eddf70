-- A call between two stations at Stand-by, computed: what the theorems on calls speak of happens.
--     is_placed_lem       the step that takes the call leaves what a run may start from
--     is_completed        a call block and a CS1 are damaged; the call is completed, and the slave has repeated twice
--     carries_on, and_answers   then text, a turn by an over, with a damaged CS3, text back, and the end: all is printed and confirmed
--     gives_βββ           a call offered where a row takes puts βββ on the way, and that is counted
-- Assumes nothing.
use mathlib.Core.Path.{◌≡◌, refl, sym, subst}
use mathlib.Core.List.{List, [], ◌∷◌, ◌++◌}
use Rattle.signals.specs.Meaning.{meaning_of, traffic_of, word_no, figures, beta}
use Rattle.signals.specs.Numbers.{first_not}
use Rattle.mode_a.specs.declared.Identity.{Identity}
use Rattle.mode_a.specs.declared.Own.{Own}
use Rattle.mode_a.specs.declared.Offer.{Offer}
use Rattle.mode_a.specs.declared.Peer.TheVariants.{Four}
use Rattle.identity.specs.Table3.{is_identity}
use Rattle.identity.specs.Sums.{is_callable7}
use Rattle.mode_a.specs.Calls.{is_callable, next_block}
use Rattle.mode_a.specs.Station.{words, silence, resting, no_code, no_seven, fresh_at}
use Rattle.mode_a.specs.Heard.{first_of, may_hold, is_block, is_words, call_of, call3_of, heard_of}
use Rattle.mode_a.specs.Over.{query, cross, listened}
use Rattle.mode_a.specs.Answerback.{code_signals, holds_neither, passes, owed_exists}
use Rattle.mode_a.specs.Step.{traffic_in, done, sound, stepping}
use Rattle.runs.specs.Runs.{start}
use Rattle.runs.specs.Circuit.{Event, traffic, signals_in, nothing_yet, Circuit, next, after}
use Rattle.circuit.specs.Starts.{CallPlaced, with_block_lem, CallCompleted, placed, CodesPass}
use Rattle.circuit.specs.Demand.{Demand3}
use Rattle.circuit.proofs.Computed.{run_of, through, computed}
use Rattle.circuit.proofs.Runs.{clear, faded, struck, signals3, text, none, CarriedAll, Ordinary, ordinary}
use Rattle.circuit.proofs.Theorem.{demand3}

-- V X Q Z, and P E A R: the station that is called, and the one that calls
abbrev pub vxqz : Identity
vxqz = record { 0 = word_no 22; 1 = word_no 24; 2 = word_no 17; 3 = word_no 26 }

abbrev pub pear : Identity
pear = record { 0 = word_no 16; 1 = word_no 5; 2 = word_no 1; 3 = word_no 18 }

abbrev named4 : Identity → Own
named4 i = record { four = i; seven = no_seven; code = no_code }

abbrev pub both_stand_by : Circuit
both_stand_by =
    record { hearer = fresh_at (named4 pear); sender = fresh_at (named4 vxqz); burst = silence; from_hearer = nothing_yet; from_sender = nothing_yet }

abbrev pub call_placed : Circuit
call_placed = next both_stand_by (clear (Offer.Call vxqz))

pub is_placed_lem : CallPlaced vxqz call_placed
unfolding stepping sound owed_exists passes code_signals holds_neither done first_not is_identity is_callable is_block may_hold traffic_of meaning_of heard_of call_of call3_of is_callable7 first_of is_words
is_placed_lem = record {
  caller = fresh_at (named4 pear);
  sender_is = refl;
  burst_is = refl;
  hearer_at = refl;
  hearer_sound = refl;
  none_from_hearer = refl;
  none_from_sender = refl;
}

-- Block 1 is heard; block 2 is damaged, so that both have to come once more. The first CS1 is damaged, the second and the third are
-- heard: the call is completed, and ABC is taken in that step.
abbrev calling_on_lem : List Event
calling_on_lem =
    clear none ∷ clear none ∷ struck none ∷ clear none ∷ clear none ∷ clear none ∷ clear none ∷ faded none ∷ clear none ∷ clear none ∷ clear none ∷ []

abbrev pub until_completed : List Event
until_completed = calling_on_lem ++ clear (text 1 2 3) ∷ []

abbrev by_over : List Event
by_over =
    clear none ∷ clear Offer.Over ∷ clear none ∷ faded none ∷ clear none ∷ clear none ∷ clear none ∷ clear none ∷ []

abbrev back_and_end : List Event
back_and_end = clear (text 4 5 6) ∷ clear none ∷ clear Offer.End ∷ clear none ∷ clear none ∷ []

abbrev pub to_the_end : List Event
to_the_end = until_completed ++ by_over ++ back_and_end

pub is_ordinary_lem : Ordinary call_placed (run_of start to_the_end)
unfolding meaning_of
is_ordinary_lem = ordinary call_placed to_the_end refl

codes_pass : CodesPass call_placed
unfolding stepping sound owed_exists passes code_signals holds_neither done first_not is_identity is_callable is_block may_hold traffic_of meaning_of heard_of call_of call3_of is_callable7 first_of is_words
codes_pass = record { hearer_passes = refl; sender_passes = refl }

pub of_that_run : Demand3 (after call_placed (run_of start to_the_end))
of_that_run =
    demand3 call_placed (placed is_placed_lem) codes_pass (run_of start to_the_end) is_ordinary_lem.harmless is_ordinary_lem.no_call

abbrev Completed : Circuit → Type 0
Completed c =
    CallCompleted c × (c.sender.other ≡ Four vxqz) × (c.hearer.count ≡ 2) × (c.from_sender.taken ≡ signals3 1 2 3 ∷ [])

pub is_completed : Completed (after call_placed (run_of start until_completed))
unfolding after through stepping sound owed_exists passes code_signals holds_neither done first_not is_identity is_callable next_block is_block may_hold traffic_of meaning_of heard_of call_of call3_of is_callable7 first_of is_words listened traffic_in
is_completed =
    subst Completed (sym (computed call_placed start until_completed)) (record { sender_role = refl; sender_count = refl; sender_case = refl; sender_plus = refl; begins = with_block_lem refl refl refl refl; sender_owed = refl; hearer_role = refl; hearer_place = refl; hearer_count = refl; hearer_case = refl; hearer_plus = refl; hearer_owed = refl; none_from_hearer = refl }, refl, refl, refl)

pub carries_on : CarriedAll (after call_placed (run_of start to_the_end)).from_hearer (signals3 1 2 3 ∷ words figures cross query ∷ []) (word_no 1 ∷ word_no 2 ∷ word_no 3 ∷ figures ∷ cross ∷ query ∷ [])
unfolding after through stepping sound owed_exists passes code_signals holds_neither done first_not is_identity is_callable next_block is_block may_hold traffic_of meaning_of heard_of call_of call3_of is_callable7 first_of is_words listened traffic_in traffic signals_in
carries_on =
    subst (λ (c : Circuit). CarriedAll c.from_hearer (signals3 1 2 3 ∷ words figures cross query ∷ []) (word_no 1 ∷ word_no 2 ∷ word_no 3 ∷ figures ∷ cross ∷ query ∷ [])) (sym (computed call_placed start to_the_end)) (record { taken = refl; accepted = refl; printed = refl; is_the_traffic = refl; confirmed = refl })

pub and_answers : CarriedAll (after call_placed (run_of start to_the_end)).from_sender (signals3 4 5 6 ∷ []) (word_no 4 ∷ word_no 5 ∷ word_no 6 ∷ [])
unfolding after through stepping sound owed_exists passes code_signals holds_neither done first_not is_identity is_callable next_block is_block may_hold traffic_of meaning_of heard_of call_of call3_of is_callable7 first_of is_words listened traffic_in traffic signals_in
and_answers =
    subst (λ (c : Circuit). CarriedAll c.from_sender (signals3 4 5 6 ∷ []) (word_no 4 ∷ word_no 5 ∷ word_no 6 ∷ [])) (sym (computed call_placed start to_the_end)) (record { taken = refl; accepted = refl; printed = refl; is_the_traffic = refl; confirmed = refl })

pub both_stand_by_again : let c = after call_placed (run_of start to_the_end) in (c.hearer.place ≡ resting 0) × (c.sender.place ≡ resting 0)
unfolding after through stepping sound owed_exists passes code_signals holds_neither done first_not is_identity is_callable next_block is_block may_hold traffic_of meaning_of heard_of call_of call3_of is_callable7 first_of is_words listened traffic_in
both_stand_by_again =
    subst (λ (c : Circuit). (c.hearer.place ≡ resting 0) × (c.sender.place ≡ resting 0)) (sym (computed call_placed start to_the_end)) (refl, refl)

-- A call that is offered where a row takes gives βββ, which counts as taken from the offers, though the operator is told that it is not.
-- Were it not counted, a block would be accepted that nobody has taken.
abbrev call_offered : List Event
call_offered = calling_on_lem ++ clear (Offer.Call pear) ∷ clear none ∷ []

pub gives_βββ : let c = after call_placed (run_of start call_offered) in
    (c.from_hearer.taken ≡ words beta beta beta ∷ []) × (c.from_hearer.accepted ≡ words beta beta beta ∷ [])
unfolding after through stepping sound owed_exists passes code_signals holds_neither done first_not is_identity is_callable next_block is_block may_hold traffic_of meaning_of heard_of call_of call3_of is_callable7 first_of is_words listened traffic_in
gives_βββ =
    subst (λ (c : Circuit). (c.from_hearer.taken ≡ words beta beta beta ∷ []) × (c.from_hearer.accepted ≡ words beta beta beta ∷ [])) (sym (computed call_placed start call_offered)) (refl, refl)
