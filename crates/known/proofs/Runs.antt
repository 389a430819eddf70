-- A call of three blocks and identification, computed, with the identities of 001's figures: what the theorems speak of happens.
--     is_placed_lem   the step that takes the call leaves what a run may start from
--     is_known        undamaged, to the first text: both know each other, and nothing has been printed
--     is_turned       the same where the station called offers an over: it is to send first
--     known_at_last   each burst is damaged once, and all is told again
--     slave_first     the station called knows before the caller does
-- Assumes nothing.
use mathlib.Core.Path.{◌≡◌, refl, sym, subst}
use mathlib.Core.Bool.{true, ◌||◌}
use mathlib.Core.List.{List, [], ◌∷◌, ◌++◌}
use Rattle.signals.specs.Meaning.{meaning_of, traffic_of}
use Rattle.signals.specs.Numbers.{first_not}
use Rattle.identity.specs.declared.Seven.{Seven}
use Rattle.identity.specs.Table3.{is_identity, number_of, signal_of}
use Rattle.identity.specs.Sums.{is_callable7, same_seven, check_sum}
use Rattle.identity.proofs.Examples.{spelt, PEARDBY}
use Rattle.mode_a.specs.declared.Identity.{Identity}
use Rattle.mode_a.specs.declared.Own.{Own}
use Rattle.mode_a.specs.declared.Peer.TheVariants.{Nobody, Known}
use Rattle.mode_a.specs.declared.Offer.{Offer}
use Rattle.mode_a.specs.Calls.{is_callable, next_block3}
use Rattle.mode_a.specs.Identification.{told_in}
use Rattle.mode_a.specs.Station.{silence, no_code, fresh_at}
use Rattle.mode_a.specs.Heard.{further_of, first_of, may_hold, is_block, is_words, call_of, call3_of, heard_of}
use Rattle.mode_a.specs.Over.{listened}
use Rattle.mode_a.specs.Answerback.{code_signals, holds_neither, passes, owed_exists}
use Rattle.mode_a.specs.Step.{traffic_in, done, sound, stepping}
use Rattle.runs.specs.Runs.{start}
use Rattle.runs.specs.Circuit.{Event, nothing_yet, Circuit, next, after}
use Rattle.circuit.specs.Starts.{Call3Placed, with_block_lem, CallCompleted, CallTurned}
use Rattle.circuit.proofs.Computed.{run_of, through, computed}
use Rattle.circuit.proofs.Runs.{clear, faded, struck, text, none, Ordinary, ordinary}
use Rattle.known.specs.Known.{KnownToBoth, identifies}
use Rattle.known.proofs.Theorem.{nothing_printed}

-- K Q V Z R S E (001, figure 3) is called by P E A R D B Y (2.5). Its four signals are the first of its seven, so that call block 1 is that
-- of a call of two blocks too.
abbrev pub KQVZRSE : Seven
KQVZRSE = spelt 11 17 22 26 18 19 05

abbrev first_four_lem : Seven → Identity
first_four_lem i = record { 0 = i.0; 1 = i.1; 2 = i.2; 3 = i.3 }

abbrev pub owning : Seven → Own
owning i = record { four = first_four_lem i; seven = i; code = no_code }

abbrev both_stand_by : Circuit
both_stand_by =
    record { hearer = fresh_at (owning PEARDBY); sender = fresh_at (owning KQVZRSE); burst = silence; from_hearer = nothing_yet; from_sender = nothing_yet }

abbrev pub call_placed : Circuit
call_placed = next both_stand_by (clear (Offer.Call3 KQVZRSE))

pub is_placed_lem : Call3Placed KQVZRSE call_placed
unfolding stepping sound owed_exists passes code_signals holds_neither done first_not is_identity is_callable is_callable7 is_block may_hold traffic_of meaning_of heard_of call_of call3_of told_in further_of first_of is_words
is_placed_lem = record {
  caller = fresh_at (owning PEARDBY);
  sender_is = refl;
  burst_is = refl;
  called_letters = refl;
  caller_letters = refl;
  waits = _;
  hearer_at = refl;
  none_heard = refl;
  none_heard3 = refl;
  hearer_sound = refl;
  none_from_hearer = refl;
  none_from_sender = refl;
}

-- the three call blocks, silence between them, and CS4; then the identification blocks and their check-sums, and RQ RQ RQ
abbrev pub answered_by_lem : List Event
answered_by_lem =
    clear none ∷ clear none ∷ clear none ∷ clear none ∷ clear none ∷ clear none ∷ clear none ∷ clear none ∷ clear none ∷ clear none ∷ clear none ∷ clear none ∷ []

abbrev pub to_the_text : List Event
to_the_text = answered_by_lem ++ clear none ∷ clear (text 1 2 3) ∷ []

abbrev Completed : Circuit → Type 0
Completed c = CallCompleted c × KnownToBoth c × (c.sender.own.seven ≡ PEARDBY) × (c.hearer.own.seven ≡ KQVZRSE)

pub is_known : Completed (after call_placed (run_of start to_the_text))
unfolding after through stepping sound owed_exists passes code_signals holds_neither done first_not is_identity number_of signal_of check_sum same_seven is_callable is_callable7 next_block3 is_block may_hold traffic_of meaning_of heard_of call_of call3_of told_in further_of first_of is_words listened traffic_in
is_known =
    subst Completed (sym (computed call_placed start to_the_text)) (record { sender_role = refl; sender_count = refl; sender_case = refl; sender_plus = refl; begins = with_block_lem refl refl refl refl; sender_owed = refl; hearer_role = refl; hearer_place = refl; hearer_count = refl; hearer_case = refl; hearer_plus = refl; hearer_owed = refl; none_from_hearer = refl }, record { sender_knows = refl; hearer_knows = refl }, refl, refl)

-- the station called offers an over as it hears RQ RQ RQ: it says CS3, and the caller sends βαβ
abbrev to_the_turn : List Event
to_the_turn = answered_by_lem ++ clear Offer.Over ∷ clear none ∷ []

abbrev Turned : Circuit → Type 0
Turned c = CallTurned c × KnownToBoth c

pub is_turned : Turned (after call_placed (run_of start to_the_turn))
unfolding after through stepping sound owed_exists passes code_signals holds_neither done first_not is_identity number_of signal_of check_sum same_seven is_callable is_callable7 next_block3 is_block may_hold traffic_of meaning_of heard_of call_of call3_of told_in further_of first_of is_words listened traffic_in
is_turned =
    subst Turned (sym (computed call_placed start to_the_turn)) (record { sender_role = refl; sender_place = refl; sender_count = refl; sender_case = refl; sender_plus = refl; sender_owed = refl; burst_is = refl; hearer_role = refl; hearer_place = refl; hearer_count = refl; hearer_case = refl; hearer_plus = refl; hearer_owed = refl; none_from_hearer = refl; none_from_sender = refl }, record { sender_knows = refl; hearer_knows = refl })

-- Each burst is damaged once: the three call blocks, and CS4; each identification block, and its check-sum; RQ RQ RQ, and CS1, so that the
-- station called has repeated once when the call is completed.
abbrev call_again : List Event
call_again =
    struck none ∷ clear none ∷ struck none ∷ clear none ∷ struck none ∷ clear none ∷ clear none ∷ clear none ∷ clear none ∷ clear none ∷ clear none ∷ faded none ∷ clear none ∷ clear none ∷ []

abbrev told_again : List Event
told_again = struck none ∷ clear none ∷ clear none ∷ faded none ∷ clear none ∷ clear none ∷ []

abbrev pub damaged : List Event
damaged =
    call_again ++ told_again ++ told_again ++ told_again ++ struck none ∷ clear none ∷ clear none ∷ faded none ∷ clear none ∷ clear (text 1 2 3) ∷ []

abbrev AtLast : Circuit → Type 0
AtLast c = Completed c × (c.hearer.count ≡ 1)

pub known_at_last : AtLast (after call_placed (run_of start damaged))
unfolding after through stepping sound owed_exists passes code_signals holds_neither done first_not is_identity number_of signal_of check_sum same_seven is_callable is_callable7 next_block3 is_block may_hold traffic_of meaning_of heard_of call_of call3_of told_in further_of first_of is_words listened traffic_in
known_at_last =
    subst AtLast (sym (computed call_placed start damaged)) ((record { sender_role = refl; sender_count = refl; sender_case = refl; sender_plus = refl; begins = with_block_lem refl refl refl refl; sender_owed = refl; hearer_role = refl; hearer_place = refl; hearer_count = refl; hearer_case = refl; hearer_plus = refl; hearer_owed = refl; none_from_hearer = refl }, record { sender_knows = refl; hearer_knows = refl }, refl, refl), refl)

-- behind RQ RQ RQ the station called knows who calls; the caller knows only where it hears the answer
abbrev pub met : List Event
met = answered_by_lem ++ clear none ∷ []

abbrev SlaveFirst : Circuit → Type 0
SlaveFirst c =
    (c.sender.other ≡ Known PEARDBY) × (c.hearer.own.seven ≡ PEARDBY) × (c.hearer.other ≡ Nobody) × (c.sender.own.seven ≡ KQVZRSE)

pub slave_first : SlaveFirst (after call_placed (run_of start met))
unfolding after through stepping sound owed_exists passes code_signals holds_neither done first_not is_identity number_of signal_of check_sum same_seven is_callable is_callable7 next_block3 is_block may_hold traffic_of meaning_of heard_of call_of call3_of told_in further_of first_of is_words listened traffic_in
slave_first = subst SlaveFirst (sym (computed call_placed start met)) (refl, refl, refl, refl)

-- the theorem of such a run: nothing is printed until then
pub is_ordinary_lem : Ordinary call_placed (run_of start answered_by_lem)
unfolding meaning_of
is_ordinary_lem = ordinary call_placed answered_by_lem refl

abbrev Silent : Circuit → Type 0
Silent c = (c.from_hearer ≡ nothing_yet) × (c.from_sender ≡ nothing_yet)

abbrev Goes_on : Circuit → Type 0
Goes_on c = (identifies c.hearer.place || identifies c.sender.place) ≡ true

pub of_that_run : Silent (after call_placed (run_of start answered_by_lem))
unfolding after through stepping sound owed_exists passes code_signals holds_neither done first_not is_identity number_of signal_of check_sum same_seven is_callable is_callable7 next_block3 is_block may_hold traffic_of meaning_of heard_of call_of call3_of told_in further_of first_of is_words listened traffic_in
of_that_run =
    nothing_printed KQVZRSE call_placed is_placed_lem (run_of start answered_by_lem) is_ordinary_lem.harmless is_ordinary_lem.no_call (subst Goes_on (sym (computed call_placed start answered_by_lem)) refl)
