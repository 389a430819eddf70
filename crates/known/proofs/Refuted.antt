-- Tempting claims of a call of three blocks, and runs that break them.
--     no_sums_for_who     that the check-sums tell who answers: with the first and the second letter exchanged all three are the same
--     no_both_at_once     that each side knows the other as soon as one of them knows
--     no_block_1_alone    that it does not matter which of its own call blocks of seven the slave has heard before the call: with two and
--                         three heard, block 1 of a call to another identity that begins as its own is enough for an answer
-- Assumes nothing.
use mathlib.Core.Path.{◌≡◌, refl, ap, sym, subst, ◌∙◌}
use mathlib.Core.Bool.{true, false}
use mathlib.Core.List.{List, [], ◌∷◌}
use Prim.Native.Nat.{ℕ}
use native.Mathlib.Omega.{arith}
use Rattle.signals.specs.declared.Case.TheVariants.{Letters}
use Rattle.signals.specs.Meaning.{meaning_of, traffic_of, cs4}
use Rattle.signals.specs.Numbers.{first_not}
use Rattle.identity.specs.declared.Seven.{Seven}
use Rattle.identity.specs.Table3.{is_identity, number_of, signal_of}
use Rattle.identity.specs.Sums.{is_callable7, same_seven, check_sum}
use Rattle.identity.proofs.Examples.{spelt, PEARDBY}
use Rattle.mode_a.specs.declared.Role.TheVariants.{Master, Slave}
use Rattle.mode_a.specs.declared.Mark.{Mark}
use Rattle.mode_a.specs.declared.Succession.{Succession}
use Rattle.mode_a.specs.declared.Stage.{Stage}
use Rattle.mode_a.specs.declared.Owed.{Owed}
use Rattle.mode_a.specs.declared.Peer.{Peer}
use Rattle.mode_a.specs.declared.Peer.TheVariants.{Nobody, Four, Known, Barred}
use Rattle.mode_a.specs.declared.Place.TheVariants.{StandBy, Identifying}
use Rattle.mode_a.specs.Calls.{is_callable, next_block3}
use Rattle.mode_a.specs.Identification.{told_in}
use Rattle.mode_a.specs.Station.{single, fresh_at}
use Rattle.mode_a.specs.Heard.{further_of, first_of, may_hold, is_block, is_words, call_of, call3_of, heard_of}
use Rattle.mode_a.specs.Over.{listened}
use Rattle.mode_a.specs.Answerback.{code_signals, holds_neither, passes, owed_exists}
use Rattle.mode_a.specs.Step.{called3, begun, unidentified, traffic_in, done, sound, stepping}
use Rattle.runs.specs.Places.{is_identifying, is_answering}
use Rattle.runs.specs.Runs.{start}
use Rattle.runs.specs.Circuit.{Event, Run, nothing_yet, Circuit, after, AllHarmless, NoCallPlaced}
use Rattle.circuit.specs.Starts.{Call3Placed}
use Rattle.circuit.proofs.Computed.{run_of, through, computed}
use Rattle.circuit.proofs.Runs.{clear, none, ordinary}
use Rattle.known.specs.Known.{KnownToBoth, to_traffic}
use Rattle.known.proofs.Runs.{KQVZRSE, owning, call_placed, is_placed_lem, met, slave_first}

-- the first letter of who is known, 0 where nobody is
abbrev letter_of : Peer → ℕ
letter_of Nobody = 0
letter_of (Four i) = 0
letter_of (Known i) = i.0
letter_of (Barred i) = 0

-- Whoever answers: the caller identifies, the other has answered with CS4, and all check-sums are heard as they should be.
abbrev SumsTell : Type 0
SumsTell =
    (c : Circuit) → is_identifying c.hearer.place ≡ true → is_answering c.sender.place ≡ true → (run : Run) → AllHarmless run →
    NoCallPlaced c run → to_traffic (after c run).sender.place ≡ true →
    (after c run).sender.other ≡ Known (after c run).hearer.own.seven

-- Q K V Z R S E answers in place of K Q V Z R S E
abbrev QKVZRSE : Seven
QKVZRSE = spelt 17 11 22 26 18 19 05

abbrev another_answers : Circuit
another_answers =
    record {
      hearer = begun (fresh_at (owning PEARDBY)) Master (Identifying (record { to = KQVZRSE; stage = Stage.One; wrong = 0; last = 0 }));
      sender = begun (fresh_at (owning QKVZRSE)) Slave unidentified;
      burst = single cs4;
      from_hearer = nothing_yet;
      from_sender = nothing_yet;
    }

abbrev told : List Event
told =
    clear none ∷ clear none ∷ clear none ∷ clear none ∷ clear none ∷ clear none ∷ clear none ∷ clear none ∷ clear none ∷ []

abbrev Mistaken : Circuit → Type 0
Mistaken c =
    (to_traffic c.sender.place ≡ true) × (c.sender.other ≡ Known KQVZRSE) × (c.hearer.own.seven ≡ QKVZRSE)

mistaken : Mistaken (after another_answers (run_of start told))
unfolding after through stepping sound owed_exists passes code_signals holds_neither done first_not is_identity number_of signal_of check_sum same_seven is_callable is_callable7 next_block3 is_block may_hold traffic_of meaning_of heard_of call_of call3_of told_in further_of first_of is_words listened traffic_in
mistaken = subst Mistaken (sym (computed another_answers start told)) (refl, refl, refl)

pub no_sums_for_who : SumsTell → ⊥
unfolding meaning_of
no_sums_for_who claim =
    let o = ordinary another_answers told refl in
    let m = mistaken in
    let z : ◌≡◌ {A = ℕ} KQVZRSE.0 QKVZRSE.0 = ap letter_of (sym m.1 ∙ claim another_answers refl refl (run_of start told) o.harmless o.no_call m.0) ∙ ap (λ (i : Seven). i.0) m.2 in
    omega arith

-- The station called begins traffic before the caller knows that it was the right one.
abbrev AtOnce : Type 0
AtOnce =
    (i : Seven) (c : Circuit) → Call3Placed i c → (run : Run) → AllHarmless run → NoCallPlaced c run →
    (after c run).sender.other ≡ Known (after c run).hearer.own.seven → KnownToBoth (after c run)

pub no_both_at_once : AtOnce → ⊥
unfolding meaning_of
no_both_at_once claim =
    let o = ordinary call_placed met refl in
    let m = slave_first in
    let k = claim KQVZRSE call_placed is_placed_lem (run_of start met) o.harmless o.no_call (m.0 ∙ ap Known (sym m.1)) in
    let z : ◌≡◌ {A = ℕ} 0 KQVZRSE.0 = sym (ap letter_of m.2) ∙ ap letter_of k.hearer_knows ∙ ap (λ (i : Seven). i.0) m.3 in
    omega arith

-- A call placed to i, facing a station at Stand-by with these own seven signals, which has heard x of their call blocks in succession.
abbrev placed_to : Seven → Seven → Succession → Circuit
placed_to i own x =
    record {
      hearer = record {
        role = Slave;
        place = StandBy (record { wait = 0; heard = Mark.None; heard3 = x });
        count = 0;
        case = Letters;
        plus = false;
        own = owning own;
        other = Nobody;
        owed = Owed.Nothing;
      };
      sender = (called3 (fresh_at (owning PEARDBY)) i).station;
      burst = (called3 (fresh_at (owning PEARDBY)) i).sent;
      from_hearer = nothing_yet;
      from_sender = nothing_yet;
    }

abbrev Whatever : Type 0
Whatever =
    (i own : Seven) (x : Succession) (run : Run) → AllHarmless run → NoCallPlaced (placed_to i own x) run →
    let d = after (placed_to i own x) run in to_traffic d.sender.place ≡ true → d.sender.other ≡ Known d.hearer.own.seven

-- K Q V Z R E S: as K Q V Z R S E, with the sixth and the seventh exchanged
abbrev KQVZRES : Seven
KQVZRES = spelt 11 17 22 26 18 05 19

abbrev half_heard : Circuit
half_heard = placed_to KQVZRSE KQVZRES Succession.TwoThree

abbrev told_at_once : List Event
told_at_once = clear none ∷ told

abbrev WrongEnd : Circuit → Type 0
WrongEnd c =
    (to_traffic c.sender.place ≡ true) × (c.sender.other ≡ Known KQVZRSE) × (c.hearer.own.seven ≡ KQVZRES)

wrong_end : WrongEnd (after half_heard (run_of start told_at_once))
unfolding after through stepping sound owed_exists passes code_signals holds_neither done first_not is_identity number_of signal_of check_sum same_seven is_callable is_callable7 next_block3 is_block may_hold traffic_of meaning_of heard_of call_of call3_of told_in further_of first_of is_words listened traffic_in
wrong_end = subst WrongEnd (sym (computed half_heard start told_at_once)) (refl, refl, refl)

-- the sixth letter of who is known
abbrev sixth_of : Peer → ℕ
sixth_of Nobody = 0
sixth_of (Four i) = 0
sixth_of (Known i) = i.5
sixth_of (Barred i) = 0

pub no_block_1_alone : Whatever → ⊥
unfolding meaning_of
no_block_1_alone claim =
    let o = ordinary half_heard told_at_once refl in
    let m = wrong_end in
    let z : ◌≡◌ {A = ℕ} KQVZRSE.5 KQVZRES.5 = ap sixth_of (sym m.1 ∙ claim KQVZRSE KQVZRES Succession.TwoThree (run_of start told_at_once) o.harmless o.no_call m.0) ∙ ap (λ (i : Seven). i.5) m.2 in
    omega arith
