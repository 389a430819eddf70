-- Runs of one station, computed: what the theorems speak of happens, and their bounds are reached. The station K Q V Z R S E (001, figure 3)
-- calls P E A R D B Y (2.5), whose check-sums are Z, E and R.
--     identified, was_called     a call, identification and traffic, of the master and of the slave: each knows the other then
--     forgotten                  and at Stand-by it is forgotten
--     four_times_again           wrong check-sums in turn: the block goes out again four times; the fifth leads to Stand-by
--     damaged_not_counted        a damaged answer before them takes none of the four
--     no_three                   so three is too small a bound
--     same_twice                 the same wrong one twice ends the circuit, damage between them or not
--     repeats_31, no_30          31 repetitions stay at a stage, and the 32nd leads to Stand-by: 30 is too small a bound
--     lasts_so_long, answers_so_long, no_127   128 steps at Identifying, and at Answering: 127 is too small a bound
--     unlike_asked_again         the slave that hears its block 1 with another letter asks by RQ until two alike come in succession
--     in_order, out_of_order     the three blocks 1-2-3 and 2-3-1
--     barred_at_once             after CS3 the same identity is not called again at once, and another is
-- Assumes nothing.
use mathlib.Core.Path.{◌≡◌, refl, ap}
use mathlib.Core.Bool.{true, false}
use Prim.Native.Nat.{ℕ, zero, suc, ◌≤◌}
use native.Mathlib.Omega.{arith}
use Rattle.signals.specs.declared.Case.TheVariants.{Letters}
use Rattle.signals.specs.Meaning.{meaning_of, traffic_of, word_no, cs1, cs3, cs4, rq, alpha, beta}
use Rattle.signals.specs.Numbers.{Answer, answered, refused, first_not}
use Rattle.identity.specs.declared.Seven.{Seven}
use Rattle.identity.specs.Table3.{is_identity, number_of, signal_of}
use Rattle.identity.specs.Sums.{is_callable7, same_seven, check_sum, check_sum1}
use Rattle.identity.proofs.Examples.{spelt, PEARDBY}
use Rattle.mode_a.specs.declared.Number.TheVariants.{One, Two}
use Rattle.mode_a.specs.declared.Words.{Words}
use Rattle.mode_a.specs.declared.Own.{Own}
use Rattle.mode_a.specs.declared.Stage.{Stage}
use Rattle.mode_a.specs.declared.Peer.TheVariants.{Nobody, Known, Barred}
use Rattle.mode_a.specs.declared.Place.TheVariants.{Sending, Ending, Receiving, Answering}
use Rattle.mode_a.specs.declared.Offer.{Offer}
use Rattle.mode_a.specs.declared.Station.{Station}
use Rattle.mode_a.specs.declared.Reply.{Reply}
use Rattle.mode_a.specs.Calls.{is_callable, call3_block1, call3_block2, call3_block3, next_block3}
use Rattle.mode_a.specs.Identification.{identity_block, told_in, with_1}
use Rattle.mode_a.specs.Station.{words, single, silence, ααα, resting, no_code, no_seven, fresh_at}
use Rattle.mode_a.specs.Heard.{first_of, further_of, may_hold, is_block, is_words, call_of, call3_of, heard_of}
use Rattle.mode_a.specs.Answerback.{code_signals, holds_neither, passes, owed_exists}
use Rattle.mode_a.specs.Step.{stands_at, unidentified, done, sound, stepping}
use Rattle.runs.specs.Places.{is_identifying, is_answering, is_calling3}
use Rattle.runs.specs.Runs.{Event, Run, start, ◌▷◌, said, next, after}
use Rattle.identification.specs.Runs.{wrongs_in_stage, repeats_in_stage, steps_at, last_wrong, calls3_in_a_row}

-- the two identities, and a station with the first
abbrev pub own7 : Seven
own7 = spelt 11 17 22 26 18 19 05

abbrev pub own : Own
own = record { four = record { 0 = word_no 24; 1 = word_no 11; 2 = word_no 13; 3 = word_no 16 }; seven = own7; code = no_code }

abbrev pub set : Station
set = fresh_at own

-- a burst heard and nothing offered; a single signal, by its number in table 1; nothing heard; and the call offered
abbrev pub hears : Words → Event
hears b = record { burst = b; offer = Offer.Nothing }

abbrev pub letter : ℕ → Event
letter n = hears (single (word_no n))

abbrev pub quiet : Event
quiet = hears silence

abbrev pub offers : Seven → Event
offers i = record { burst = silence; offer = Offer.Call3 i }

-- what goes out in answer to an event; nothing where it is refused
abbrev pub sent_in : Answer Reply → Words
sent_in (answered r) = r.sent
sent_in (refused n v) = silence

-- the same event n times after a run
abbrev pub times : ℕ → Event → Run → Run
times zero e run = run
times (suc n) e run = times n e run ▷ e

-- CS4 behind the first call block: Identifying, stage 1
abbrev pub begun : Run
begun = start ▷ offers PEARDBY ▷ hears (single cs4)

-- Z, E and R: stage 4; CS1: traffic
abbrev pub all_told : Run
all_told = begun ▷ letter 26 ▷ letter 05 ▷ letter 18 ▷ hears (single cs1)

pub identified : ((after set all_told).place ≡ Sending (record { number = One; block = words beta beta beta })) × ((after set all_told).other ≡ Known PEARDBY)
unfolding stepping sound owed_exists passes code_signals holds_neither done first_not is_block may_hold traffic_of meaning_of heard_of first_of further_of is_words call_of call3_of told_in next_block3 is_callable is_callable7 same_seven is_identity check_sum number_of signal_of
identified = (refl, refl)

-- the slave: its three call blocks, the master's three blocks, RQ RQ RQ
abbrev pub called : Run
called = start ▷ hears (call3_block1 own7) ▷ hears (call3_block2 own7) ▷ hears (call3_block3 own7)

abbrev pub told : Run
told =
    called ▷ hears (identity_block PEARDBY Stage.One) ▷ hears (identity_block PEARDBY Stage.Two) ▷ hears (identity_block PEARDBY Stage.Three) ▷ hears (identity_block PEARDBY Stage.Four)

pub was_called : ((after set called).place ≡ unidentified) × ((after set told).place ≡ Receiving One) × ((after set told).other ≡ Known PEARDBY)
unfolding stepping sound owed_exists passes code_signals holds_neither done first_not is_block may_hold traffic_of meaning_of heard_of first_of further_of is_words call_of call3_of told_in next_block3 is_callable is_callable7 same_seven is_identity check_sum number_of signal_of
was_called = (refl, refl, refl)

pub forgotten : ((after set (told ▷ hears ααα)).place ≡ resting 0) × ((after set (told ▷ hears ααα)).other ≡ Nobody)
unfolding stepping sound owed_exists passes code_signals holds_neither done first_not is_block may_hold traffic_of meaning_of heard_of first_of further_of is_words call_of call3_of told_in next_block3 is_callable is_callable7 same_seven is_identity check_sum number_of signal_of
forgotten = (refl, refl)

-- "no more than four times": V and X in turn, neither of them Z
abbrev pub wrongs : Run
wrongs = begun ▷ letter 22 ▷ letter 24 ▷ letter 22 ▷ letter 24

pub four_times_again : (wrongs_in_stage set wrongs ≡ 4) × (is_identifying (after set wrongs).place ≡ true) × ((after set (wrongs ▷ letter 22)).place ≡ resting 0)
unfolding wrongs_in_stage repeats_in_stage steps_at last_wrong calls3_in_a_row stepping sound owed_exists passes code_signals holds_neither done first_not is_block may_hold traffic_of meaning_of heard_of first_of further_of is_words call_of call3_of told_in next_block3 is_callable is_callable7 same_seven is_identity check_sum number_of signal_of
four_times_again = (refl, refl, refl)

-- silence before the same four: five repetitions, of which four are for wrong check-sums. Counted as a fifth wrong one, the silence would
-- have the last of them lead to Stand-by  R-213
abbrev pub damaged_first : Run
damaged_first = begun ▷ quiet ▷ letter 22 ▷ letter 24 ▷ letter 22 ▷ letter 24

pub damaged_not_counted : (repeats_in_stage set damaged_first ≡ 5) × (wrongs_in_stage set damaged_first ≡ 4) × (is_identifying (after set damaged_first).place ≡ true) × ((after set (damaged_first ▷ letter 22)).place ≡ resting 0)
unfolding wrongs_in_stage repeats_in_stage steps_at last_wrong calls3_in_a_row stepping sound owed_exists passes code_signals holds_neither done first_not is_block may_hold traffic_of meaning_of heard_of first_of further_of is_words call_of call3_of told_in next_block3 is_callable is_callable7 same_seven is_identity check_sum number_of signal_of
damaged_not_counted = (refl, refl, refl, refl)

pub no_three : ((run : Run) → wrongs_in_stage set run ≤ 3) → ⊥
no_three claim = omega (arith, claim wrongs, four_times_again.0)

-- "the same as the previous one"
pub same_twice : ((after set (begun ▷ letter 22 ▷ letter 22)).place ≡ Ending (record { number = Two; total = 1 })) × ((after set (begun ▷ letter 22 ▷ quiet ▷ letter 22)).place ≡ Ending (record { number = Two; total = 1 }))
unfolding stepping sound owed_exists passes code_signals holds_neither done first_not is_block may_hold traffic_of meaning_of heard_of first_of further_of is_words call_of call3_of told_in next_block3 is_callable is_callable7 same_seven is_identity check_sum number_of signal_of
same_twice = (refl, refl)

-- damaged answers alone
pub repeats_31 : (repeats_in_stage set (times 31 quiet begun) ≡ 31) × (is_identifying (after set (times 31 quiet begun)).place ≡ true) × ((after set (times 32 quiet begun)).place ≡ resting 0)
unfolding wrongs_in_stage repeats_in_stage steps_at last_wrong calls3_in_a_row stepping sound owed_exists passes code_signals holds_neither done first_not is_block may_hold traffic_of meaning_of heard_of first_of further_of is_words call_of call3_of told_in next_block3 is_callable is_callable7 same_seven is_identity check_sum number_of signal_of
repeats_31 = (refl, refl, refl)

pub no_30 : ((run : Run) → repeats_in_stage set run ≤ 30) → ⊥
no_30 claim = omega (arith, claim (times 31 quiet begun), repeats_31.0)

-- 31 repetitions and the right answer, at each of the four stages
abbrev pub longest : Run
longest = times 31 quiet (times 31 quiet (times 31 quiet (times 31 quiet begun ▷ letter 26) ▷ letter 05) ▷ letter 18) ▷ hears (single cs1)

pub lasts_so_long : steps_at is_identifying set longest ≡ 128
unfolding wrongs_in_stage repeats_in_stage steps_at last_wrong calls3_in_a_row stepping sound owed_exists passes code_signals holds_neither done first_not is_block may_hold traffic_of meaning_of heard_of first_of further_of is_words call_of call3_of told_in next_block3 is_callable is_callable7 same_seven is_identity check_sum number_of signal_of
lasts_so_long = refl

-- and of the slave
abbrev pub longest_too : Run
longest_too =
    times 31 quiet (times 31 quiet (times 31 quiet (times 31 quiet called ▷ hears (identity_block PEARDBY Stage.One)) ▷ hears (identity_block PEARDBY Stage.Two)) ▷ hears (identity_block PEARDBY Stage.Three)) ▷ hears (identity_block PEARDBY Stage.Four)

pub answers_so_long : steps_at is_answering set longest_too ≡ 128
unfolding wrongs_in_stage repeats_in_stage steps_at last_wrong calls3_in_a_row stepping sound owed_exists passes code_signals holds_neither done first_not is_block may_hold traffic_of meaning_of heard_of first_of further_of is_words call_of call3_of told_in next_block3 is_callable is_callable7 same_seven is_identity check_sum number_of signal_of
answers_so_long = refl

pub no_127 : ((run : Run) → steps_at is_identifying set run ≤ 127) → ⊥
no_127 claim = omega (arith, claim longest, lasts_so_long)

-- "not identical, the called station sends 'signal repetition' until two identical consecutive identification blocks are received after which
-- the corresponding check-sum signal is transmitted" (3.6.16): block 1 as P α E, then Z α E, then Z α E once more  R-220
abbrev pub PαE : Event
PαE = hears (words (word_no 16) alpha (word_no 05))

abbrev pub ZαE : Event
ZαE = hears (words (word_no 26) alpha (word_no 05))

-- the station that answers, at this stage, with so much gathered, after so many repetitions
abbrev answers_at : Stage → Seven → ℕ → Station
answers_at g i k = stands_at set (Answering (record { stage = g; got = i })) k Letters false

heard_0 : after set called ≡ answers_at Stage.One no_seven 0
unfolding stepping sound owed_exists passes code_signals holds_neither done first_not is_block may_hold traffic_of meaning_of heard_of first_of further_of is_words call_of call3_of told_in next_block3 is_callable is_callable7 same_seven is_identity check_sum number_of signal_of
heard_0 = refl

heard_1 : after set (called ▷ PαE) ≡ answers_at Stage.Two (with_1 no_seven (word_no 16) (word_no 05)) 0
unfolding stepping sound owed_exists passes code_signals holds_neither done first_not is_block may_hold traffic_of meaning_of heard_of first_of further_of is_words call_of call3_of told_in next_block3 is_callable is_callable7 same_seven is_identity check_sum number_of signal_of
heard_1 = ap (λ (s : Station). next s PαE) heard_0

heard_2 : after set (called ▷ PαE ▷ ZαE) ≡ answers_at Stage.Two (with_1 no_seven (word_no 26) (word_no 05)) 1
unfolding stepping sound owed_exists passes code_signals holds_neither done first_not is_block may_hold traffic_of meaning_of heard_of first_of further_of is_words call_of call3_of told_in next_block3 is_callable is_callable7 same_seven is_identity check_sum number_of signal_of
heard_2 = ap (λ (s : Station). next s ZαE) heard_1

pub unlike_asked_again : (sent_in (said (after set called) PαE) ≡ single (check_sum1 own7)) × (sent_in (said (after set (called ▷ PαE)) ZαE) ≡ single rq) × (sent_in (said (after set (called ▷ PαE ▷ ZαE)) ZαE) ≡ single (check_sum1 own7)) × (sent_in (said (after set (called ▷ PαE ▷ ZαE)) PαE) ≡ single rq)
unfolding stepping sound owed_exists passes code_signals holds_neither done first_not is_block may_hold traffic_of meaning_of heard_of first_of further_of is_words call_of call3_of told_in next_block3 is_callable is_callable7 same_seven is_identity check_sum number_of signal_of
unlike_asked_again =
    (ap (λ (s : Station). sent_in (said s PαE)) heard_0, ap (λ (s : Station). sent_in (said s ZαE)) heard_1, ap (λ (s : Station). sent_in (said s ZαE)) heard_2, ap (λ (s : Station). sent_in (said s PαE)) heard_2)

-- "the three call blocks in succession"
pub in_order : (after set called).place ≡ unidentified
unfolding stepping sound owed_exists passes code_signals holds_neither done first_not is_block may_hold traffic_of meaning_of heard_of first_of further_of is_words call_of call3_of told_in next_block3 is_callable is_callable7 same_seven is_identity check_sum number_of signal_of
in_order = refl

pub out_of_order : (after set (start ▷ hears (call3_block2 own7) ▷ hears (call3_block3 own7) ▷ hears (call3_block1 own7))).place ≡ unidentified
unfolding stepping sound owed_exists passes code_signals holds_neither done first_not is_block may_hold traffic_of meaning_of heard_of first_of further_of is_words call_of call3_of told_in next_block3 is_callable is_callable7 same_seven is_identity check_sum number_of signal_of
out_of_order = refl

-- "before sending the same call signal again"
abbrev pub refused_by_cs3 : Run
refused_by_cs3 = start ▷ offers PEARDBY ▷ hears (single cs3)

pub barred_at_once : ((after set refused_by_cs3).place ≡ resting 128) × ((after set refused_by_cs3).other ≡ Barred PEARDBY) × (is_calling3 (after set (refused_by_cs3 ▷ offers PEARDBY)).place ≡ false) × (is_calling3 (after set (refused_by_cs3 ▷ offers own7)).place ≡ true)
unfolding stepping sound owed_exists passes code_signals holds_neither done first_not is_block may_hold traffic_of meaning_of heard_of first_of further_of is_words call_of call3_of told_in next_block3 is_callable is_callable7 same_seven is_identity check_sum number_of signal_of
barred_at_once = (refl, refl, refl, refl)
