-- Runs of a fresh master and a fresh slave, computed: what demand 3 speaks of happens.
--     through_three_turns, and_back   text both ways, through a turn by an over sent, by an over offered at Receiving, and by + ? inside
--                                     text, with damage at each turn, to the end: all is printed and confirmed
--     printed_and_lost                a station times out with a block that is printed and not confirmed
--     confirmed_at_31                 both have repeated 31 times, and the confirmation still comes in time
-- Assumes nothing.
use mathlib.Core.Path.{◌≡◌, refl, sym, subst}
use mathlib.Core.Bool.{Bool, true, not, ◌&&◌, and-eq-true_iff}
use mathlib.Core.List.{List, [], ◌∷◌, ◌++◌}
use Prim.Native.Nat.{ℕ, zero, suc}
use lib.Dec.{eqb}
use borrow.Author.Tests.{eqb-true, not-true}
use Rattle.signals.specs.Meaning.{meaning_of, traffic_of, word_no, letters, figures}
use Rattle.signals.specs.Numbers.{first_not}
use Rattle.mode_a.specs.declared.Words.{Words}
use Rattle.mode_a.specs.declared.Place.TheVariants.{Lost}
use Rattle.mode_a.specs.declared.Offer.{Offer}
use Rattle.mode_a.specs.Station.{words, no_code, resting}
use Rattle.mode_a.specs.Heard.{first_of, may_hold, is_block, is_words, heard_of}
use Rattle.mode_a.specs.Over.{query, cross, listened}
use Rattle.mode_a.specs.Answerback.{code_signals, holds_neither, passes, owed_exists}
use Rattle.mode_a.specs.Step.{traffic_in, done, sound, stepping}
use Rattle.signals.specs.Damage.{Damage, kept, hurt, NoSignal}
use Rattle.runs.specs.Runs.{start, ◌▷◌, is_call}
use Rattle.runs.specs.Circuit.{Event, Harmless, Run, traffic, signals_in, Direction, Circuit, fresh, after, AllHarmless, NoCallPlaced}
use Rattle.circuit.specs.Starts.{both_fresh, CodesPass}
use Rattle.circuit.specs.Demand.{Demand3}
use Rattle.circuit.proofs.DamageLaws.{all_three}
use Rattle.circuit.proofs.RunLaws.{no_call_offered}
use Rattle.circuit.proofs.Computed.{run_of, through, computed}
use Rattle.circuit.proofs.Theorem.{demand3}

-- heard as it was sent; and with one word that is no signal: a zero in place of the first, 127 in place of the second
abbrev pub clear : Offer → Event
clear o = record { first = kept; second = kept; third = kept; offer = o }

abbrev pub faded : Offer → Event
faded o = record { first = hurt 0; second = kept; third = kept; offer = o }

abbrev pub struck : Offer → Event
struck o = record { first = kept; second = hurt 127; third = kept; offer = o }

abbrev pub signals3 : ℕ → ℕ → ℕ → Words
signals3 i j k = words (word_no i) (word_no j) (word_no k)

abbrev pub text : ℕ → ℕ → ℕ → Offer
text i j k = Offer.Text (signals3 i j k)

abbrev pub none : Offer
none = Offer.Nothing

-- a computed run is harmless by a test
abbrev pub no_signal : Damage → Bool
no_signal kept = true
no_signal (hurt b) = eqb (meaning_of b) 0

no_signal_if : (d : Damage) → no_signal d ≡ true → NoSignal d
no_signal_if kept e = tt
no_signal_if (hurt b) e = eqb-true (meaning_of b) 0 e

abbrev pub is_harmless_event : Event → Bool
is_harmless_event e = no_signal e.first && (no_signal e.second && no_signal e.third)

harmless_event : (e : Event) → is_harmless_event e ≡ true → Harmless e
harmless_event e i =
    let x = all_three (no_signal e.first) (no_signal e.second) (no_signal e.third) i in
    (no_signal_if e.first x.0, no_signal_if e.second x.1, no_signal_if e.third x.2)

-- and places no call, if none is offered
abbrev pub is_ordinary : List Event → Bool
is_ordinary [] = true
is_ordinary (e ∷ es) = (is_harmless_event e && not (is_call e.offer)) && is_ordinary es

pub record Ordinary (c : Circuit) (run : Run) : Type 0 where
  pub harmless : AllHarmless run
  pub no_call : NoCallPlaced c run

pub ordinary_if : (c : Circuit) (run : Run) (es : List Event) → Ordinary c run → is_ordinary es ≡ true → Ordinary c (run_of run es)
unfolding AllHarmless NoCallPlaced
ordinary_if c run [] a i = a
ordinary_if c run (e ∷ es) a i =
    let x = (and-eq-true_iff (is_harmless_event e && not (is_call e.offer)) (is_ordinary es)).0 i in
    let y = (and-eq-true_iff (is_harmless_event e) (not (is_call e.offer))).0 x.0 in
    ordinary_if c (run ▷ e) es (record { harmless = (a.harmless, harmless_event e y.0); no_call = (a.no_call, no_call_offered (after c run) e (not-true (is_call e.offer) y.1)) }) x.1

pub ordinary : (c : Circuit) (es : List Event) → is_ordinary es ≡ true → Ordinary c (run_of start es)
unfolding AllHarmless NoCallPlaced
ordinary c es i = ordinary_if c start es (record { harmless = tt; no_call = tt }) i

-- the empty codes pass
pub codes_pass : CodesPass fresh
unfolding passes code_signals holds_neither first_not
codes_pass = record { hearer_passes = refl; sender_passes = refl }

-- what a direction has carried, all of it printed and confirmed
pub record CarriedAll (d : Direction) (blocks : List Words) (signals : List ℕ) : Type 0 where
  pub taken : d.taken ≡ blocks
  pub accepted : d.accepted ≡ blocks
  pub printed : d.printed ≡ signals
  pub is_the_traffic : signals ≡ signals_in blocks
  pub confirmed : d.confirmed ≡ blocks

-- The master sends ABC and then an over; the over's block, the answer CS3, βαβ and the slave's RQ RQ RQ are each damaged once.
abbrev by_over_sent : List Event
by_over_sent =
    clear (text 1 2 3) ∷ clear none ∷ clear Offer.Over ∷ struck none ∷ clear none ∷ clear none ∷ faded none ∷ clear none ∷ clear none ∷
    struck none ∷ clear none ∷ clear none ∷ struck none ∷ clear none ∷ clear none ∷ []

-- The slave sends DEF, and the master offers an over as it accepts that; CS3 and the master's RQ are damaged.
abbrev by_over_offered : List Event
by_over_offered =
    clear (text 4 5 6) ∷ clear Offer.Over ∷ faded none ∷ clear none ∷ clear none ∷ clear none ∷ faded none ∷ clear none ∷ clear none ∷ []

-- The master sends figures G + and ? letters H: the over stands in two blocks of text. CS3 and βαβ are damaged.
abbrev by_text : List Event
by_text =
    clear (text 30 7 26) ∷ clear none ∷ clear (text 2 29 8) ∷ clear none ∷ faded none ∷ clear none ∷ clear none ∷ struck none ∷ clear none ∷
    clear none ∷ clear none ∷ []

-- The slave sends JKL and ends; ααα is damaged once.
abbrev by_end : List Event
by_end = clear (text 10 11 12) ∷ clear none ∷ clear Offer.End ∷ struck none ∷ clear none ∷ clear none ∷ clear none ∷ []

abbrev all_events : List Event
all_events = by_over_sent ++ by_over_offered ++ by_text ++ by_end

abbrev pub to_the_end : Run
to_the_end = run_of start all_events

pub is_ordinary_lem : Ordinary fresh to_the_end
unfolding meaning_of
is_ordinary_lem = ordinary fresh all_events refl

-- the blocks of the master, and their signals; the blocks of the slave, and theirs
abbrev pub blocks : List Words
blocks = signals3 1 2 3 ∷ words figures cross query ∷ signals3 30 7 26 ∷ signals3 2 29 8 ∷ []

abbrev pub signals : List ℕ
signals =
    word_no 1 ∷ word_no 2 ∷ word_no 3 ∷ figures ∷ cross ∷ query ∷ figures ∷ word_no 7 ∷ cross ∷ query ∷ letters ∷ word_no 8 ∷ []

abbrev pub blocks' : List Words
blocks' = signals3 4 5 6 ∷ signals3 10 11 12 ∷ []

abbrev pub signals' : List ℕ
signals' = word_no 4 ∷ word_no 5 ∷ word_no 6 ∷ word_no 10 ∷ word_no 11 ∷ word_no 12 ∷ []

pub through_three_turns : CarriedAll (after fresh to_the_end).from_hearer blocks signals
unfolding after through stepping sound owed_exists passes code_signals holds_neither done first_not is_block may_hold traffic_of meaning_of heard_of first_of is_words listened traffic_in traffic signals_in
through_three_turns =
    subst (λ (c : Circuit). CarriedAll c.from_hearer blocks signals) (sym (computed fresh start all_events)) (record { taken = refl; accepted = refl; printed = refl; is_the_traffic = refl; confirmed = refl })

pub and_back : CarriedAll (after fresh to_the_end).from_sender blocks' signals'
unfolding after through stepping sound owed_exists passes code_signals holds_neither done first_not is_block may_hold traffic_of meaning_of heard_of first_of is_words listened traffic_in traffic signals_in
and_back =
    subst (λ (c : Circuit). CarriedAll c.from_sender blocks' signals') (sym (computed fresh start all_events)) (record { taken = refl; accepted = refl; printed = refl; is_the_traffic = refl; confirmed = refl })

pub of_that_run : Demand3 (after fresh to_the_end)
of_that_run = demand3 fresh (both_fresh no_code no_code) codes_pass to_the_end is_ordinary_lem.harmless is_ordinary_lem.no_call

pub ended : ((after fresh to_the_end).hearer.place ≡ resting 0) × ((after fresh to_the_end).sender.place ≡ resting 0)
unfolding after through stepping sound owed_exists passes code_signals holds_neither done first_not is_block may_hold traffic_of meaning_of heard_of first_of is_words listened traffic_in
ended = subst (λ (c : Circuit). (c.hearer.place ≡ resting 0) × (c.sender.place ≡ resting 0)) (sym (computed fresh start all_events)) (refl, refl)

-- ABC is printed, and its answer is damaged 32 times: the master is Lost, and counts nothing as confirmed.
abbrev pub unheard : ℕ → List Event → List Event
unheard zero es = es
unheard (suc n) es = faded none ∷ clear none ∷ unheard n es

abbrev fade : List Event
fade = clear (text 1 2 3) ∷ clear none ∷ unheard 31 (faded none ∷ [])

abbrev pub timed_out_lem : Run
timed_out_lem = run_of start fade

pub fades_ordinary : Ordinary fresh timed_out_lem
unfolding meaning_of
fades_ordinary = ordinary fresh fade refl

pub printed_and_lost : ((after fresh timed_out_lem).sender.place ≡ Lost) × ((after fresh timed_out_lem).from_sender.printed ≡ word_no 1 ∷ word_no 2 ∷ word_no 3 ∷ []) × ((after fresh timed_out_lem).from_sender.confirmed ≡ [])
unfolding after through stepping sound owed_exists passes code_signals holds_neither done first_not is_block may_hold traffic_of meaning_of heard_of first_of is_words listened traffic_in
printed_and_lost =
    subst (λ (c : Circuit). (c.sender.place ≡ Lost) × (c.from_sender.printed ≡ word_no 1 ∷ word_no 2 ∷ word_no 3 ∷ []) × (c.from_sender.confirmed ≡ [])) (sym (computed fresh start fade)) (refl, refl, refl)

-- Its answer is damaged 31 times and heard the next time: the master has repeated 31 times before it and the slave 31 times with it.
-- The block is confirmed, and the next one is accepted.
abbrev hold : List Event
hold = clear (text 1 2 3) ∷ clear none ∷ unheard 30 (faded none ∷ [])

abbrev answered_at_last : List Event
answered_at_last = hold ++ clear none ∷ clear (text 4 5 6) ∷ []

pub confirmed_at_31 : let c = after fresh (run_of start hold) in let d = after fresh (run_of start answered_at_last) in let g = after fresh (run_of start (answered_at_last ++ clear none ∷ [])) in
    (c.sender.count ≡ 31) × (d.hearer.count ≡ 31) × (d.from_sender.confirmed ≡ signals3 1 2 3 ∷ []) × (g.from_hearer.accepted ≡ signals3 1 2 3 ∷ signals3 4 5 6 ∷ [])
unfolding after through stepping sound owed_exists passes code_signals holds_neither done first_not is_block may_hold traffic_of meaning_of heard_of first_of is_words listened traffic_in
confirmed_at_31 = (
  subst (λ (c : Circuit). c.sender.count ≡ 31) (sym (computed fresh start hold)) refl,
  subst (λ (c : Circuit). c.hearer.count ≡ 31) (sym (computed fresh start answered_at_last)) refl,
  subst (λ (c : Circuit). c.from_sender.confirmed ≡ signals3 1 2 3 ∷ []) (sym (computed fresh start answered_at_last)) refl,
  subst (λ (c : Circuit). c.from_hearer.accepted ≡ signals3 1 2 3 ∷ signals3 4 5 6 ∷ []) (sym (computed fresh start (answered_at_last ++ clear none ∷ []))) refl,
)
