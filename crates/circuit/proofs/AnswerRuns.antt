-- Who are you, and the answer (02, T-06; 001, 3.7.13.2), computed: what demand 3 speaks of happens with them.
--     is_answered_lem   the master asks, and the slave answers with its code, P E A R, two blocks of βββ and an over of its own, with damage at the
--                   turn and in the answer; the text that it is offered meanwhile waits; then the master goes on
--     both_ask      the over stood in the block with D: the slave keeps the direction behind its answer, and asks in turn; the master's answer
--                   is cut by an over that the slave is offered: the block held is confirmed, and what is left is dropped
-- Assumes nothing.
use mathlib.Core.Path.{◌≡◌, refl, sym, subst}
use mathlib.Core.List.{List, [], ◌∷◌, ◌++◌}
use Prim.Native.Nat.{ℕ}
use Rattle.signals.specs.Meaning.{meaning_of, traffic_of, word_no, figures, beta}
use Rattle.signals.specs.Numbers.{first_not}
use Rattle.mode_a.specs.declared.Words.{Words}
use Rattle.mode_a.specs.declared.Code.{Code}
use Rattle.mode_a.specs.declared.Owed.{Owed}
use Rattle.mode_a.specs.declared.Offer.{Offer}
use Rattle.mode_a.specs.Station.{words, silence}
use Rattle.mode_a.specs.Heard.{first_of, may_hold, is_block, is_words, heard_of}
use Rattle.mode_a.specs.Over.{query, cross, who, listened}
use Rattle.mode_a.specs.Answerback.{code_signals, holds_neither, passes, βββ, figures+?, answer_keeping, answer_of, block_owed, owed_then, owed_exists}
use Rattle.mode_a.specs.Step.{traffic_in, done, sound, stepping}
use Rattle.runs.specs.Runs.{start}
use Rattle.runs.specs.Circuit.{Event, traffic, signals_in, Direction, Circuit, fresh_with, after}
use Rattle.circuit.specs.Starts.{both_fresh, CodesPass}
use Rattle.circuit.specs.Demand.{Demand3}
use Rattle.circuit.proofs.Computed.{run_of, through, computed}
use Rattle.circuit.proofs.Runs.{clear, faded, struck, signals3, text, none, Ordinary, ordinary}
use Rattle.circuit.proofs.Theorem.{demand3}

-- codes of up to six signals: K Q of the master, P E A R of the slave
abbrev pub short_code : ℕ → Words → Words → Code
short_code n a b =
    record { length = n; first = a; second = b; third = silence; fourth = silence; fifth = silence; sixth = silence; seventh = silence }

abbrev kq : Code
kq = short_code 2 (words (word_no 11) (word_no 17) 0) silence

abbrev pear : Code
pear = short_code 4 (signals3 16 5 1) (words (word_no 18) 0 0)

abbrev pub coded : Circuit
coded = fresh_with kq pear

codes_pass : CodesPass coded
unfolding passes code_signals holds_neither first_not listened traffic_of meaning_of
codes_pass = record { hearer_passes = refl; sender_passes = refl }

-- figures D β
abbrev who_are_you_lem : Words
who_are_you_lem = words figures who beta

-- The master asks. The block is damaged once, and so are CS3 and βαβ; the slave is offered J K L all the time. Then it is at Opening, and the
-- master at Receiving.
abbrev asks : List Event
asks =
    clear (Offer.Text who_are_you_lem) ∷ struck (text 10 11 12) ∷ clear none ∷ clear (text 10 11 12) ∷ faded none ∷ clear (text 10 11 12) ∷ clear none ∷
    struck (text 10 11 12) ∷ clear none ∷ clear (text 10 11 12) ∷ clear none ∷ []

-- The answer, its second block damaged once, and the turn back.
abbrev answers : List Event
answers =
    clear (text 10 11 12) ∷ clear none ∷ clear (text 10 11 12) ∷ struck none ∷ clear (text 10 11 12) ∷ clear none ∷ clear (text 10 11 12) ∷ clear none ∷
    clear (text 10 11 12) ∷ clear none ∷ clear (text 10 11 12) ∷ clear none ∷ clear none ∷ clear none ∷ clear none ∷ []

-- The master sends letters A B, and ends.
abbrev goes_on_after : List Event
goes_on_after = clear (text 29 1 2) ∷ clear none ∷ clear Offer.End ∷ []

abbrev pub asked_and_answered : List Event
asked_and_answered = asks ++ answers ++ goes_on_after

is_ordinary_lem : Ordinary coded (run_of start asked_and_answered)
unfolding meaning_of
is_ordinary_lem = ordinary coded asked_and_answered refl

pub of_that_run : Demand3 (after coded (run_of start asked_and_answered))
of_that_run =
    demand3 coded (both_fresh kq pear) codes_pass (run_of start asked_and_answered) is_ordinary_lem.harmless is_ordinary_lem.no_call

-- a direction that has carried these blocks, all of them accepted, printed and confirmed
abbrev carried : List Words → Direction
carried l = record { taken = l; accepted = l; printed = signals_in l; confirmed = l }

abbrev IsAnswered : Circuit → Type 0
IsAnswered c =
    (c.from_hearer ≡ carried (signals3 16 5 1 ∷ words (word_no 18) beta beta ∷ βββ ∷ βββ ∷ figures+? ∷ [])) × (c.from_sender ≡ carried (who_are_you_lem ∷ signals3 29 1 2 ∷ [])) × (c.hearer.owed ≡ Owed.Nothing)

pub is_answered_lem : IsAnswered (after coded (run_of start asked_and_answered))
unfolding after through stepping sound owed_exists passes code_signals holds_neither block_owed owed_then answer_of answer_keeping done first_not is_block may_hold traffic_of meaning_of heard_of first_of is_words listened traffic_in traffic signals_in
is_answered_lem =
    subst IsAnswered (sym (computed coded start asked_and_answered)) (refl, refl, refl)

-- figures in a block, and D + ? in the next. Behind βββ and βββ the slave's next offer is taken: it asks.
abbrev asks_with_over : List Event
asks_with_over =
    clear (Offer.Text (words figures beta beta)) ∷ clear none ∷ clear (Offer.Text (words who cross query)) ∷ clear none ∷ clear none ∷ clear none ∷
    clear none ∷ []

abbrev keeps_direction : List Event
keeps_direction =
    clear none ∷ clear none ∷ clear none ∷ clear none ∷ clear none ∷ clear none ∷ clear none ∷ clear none ∷ clear (Offer.Text who_are_you_lem) ∷ []

-- The master answers, and as its first βββ is accepted the slave is offered an over: CS3.
abbrev is_cut : List Event
is_cut = clear none ∷ clear none ∷ clear none ∷ clear none ∷ clear none ∷ clear none ∷ clear none ∷ clear Offer.Over ∷ clear none ∷ []

abbrev each_asks : List Event
each_asks = asks_with_over ++ keeps_direction ++ is_cut

abbrev BothAsk : Circuit → Type 0
BothAsk c =
    (c.from_hearer ≡ carried (signals3 16 5 1 ∷ words (word_no 18) beta beta ∷ βββ ∷ βββ ∷ who_are_you_lem ∷ [])) × (c.from_sender ≡ carried (words figures beta beta ∷ words who cross query ∷ words (word_no 11) (word_no 17) beta ∷ βββ ∷ [])) × (c.sender.owed ≡ Owed.Nothing)

pub both_ask : BothAsk (after coded (run_of start each_asks))
unfolding after through stepping sound owed_exists passes code_signals holds_neither block_owed owed_then answer_of answer_keeping done first_not is_block may_hold traffic_of meaning_of heard_of first_of is_words listened traffic_in traffic signals_in
both_ask =
    subst BothAsk (sym (computed coded start each_asks)) (refl, refl, refl)
